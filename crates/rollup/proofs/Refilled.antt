-- What a vector holds after a borrow of its slice.
use Rattle.std.proofs.Common.{◌≡◌, ℕ, List, [], ◌++◌, length, take, drop, ap, ◌∙◌, arith}
use Rattle.std.proofs.lemmas.List.{append-nil, drop_all, take_all}

pub refilled : {X : Type 0} (len : ℕ) (xs ws : List X) → len ≡ length xs → length ws ≡ length xs → take len (ws ++ drop (length ws) xs) ≡ ws
refilled {X} len xs ws is same =
    let none : drop (length ws) xs ≡ [] = drop_all (length ws) xs (omega arith) in
    ap (λ (ys : List X). take len (ws ++ ys)) none ∙ (ap (take len) (append-nil ws) ∙ take_all len ws (omega arith))
