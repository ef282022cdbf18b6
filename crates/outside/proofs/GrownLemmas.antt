-- How known bytes grow step by step.
use Rattle.std.proofs.Common.{◌≡◌, ℕ, suc, ◌+◌, ◌-◌, ◌<◌, ◌≤◌, List, [], ◌∷◌, ◌++◌, length, take, drop, get_or, sym, ap, subst, append_assoc, None, Some, OnErr, Result, Ok, Err, Bor, arith, ◌∙◌, length-append, drop-cons}
use Rattle.std.specs.declared.option.Option.{Option}
use Rattle.std.specs.Io.KnownBytes.{append_known, Consumes}
use Rattle.std.proofs.Math.Seq.{take-add, take-append-add}
use Rattle.std.proofs.lemmas.List.{take-take, take-append-le, take-append-drop}
use Rattle.std.proofs.lemmas.Grind.{flat_map-append}
use Rattle.outside.specs.Grown.{Grew, GrewByPart}
use Rattle.outside.specs.Pieces.{joined}

-- Two steps are one step with the bytes of both.
pub Grew-append : (old mid new : Option (List ℕ)) (xs ys : List ℕ) → Grew old mid xs → Grew mid new ys → Grew old new (xs ++ ys)
Grew-append None mid new xs ys a b = b ∙ ap (λ k. append_known k ys) a
Grew-append (Some w) mid new xs ys a b = b ∙ (ap (λ k. append_known k ys) a ∙ ap Some (append_assoc w xs ys))

-- n more bytes of a list after its first i, as an index `[i..]` gives them.
pub Grew-more : (i n : ℕ) (xs : List ℕ) (old mid new : Option (List ℕ)) → n ≤ length xs - i → Grew old mid (take i xs) → Grew mid new (take n (take (length xs - i) (drop i xs))) → Grew old new (take (i + n) xs)
Grew-more i n xs old mid new h a b = rw take-add (Grew-append old mid new _ _ a (rw take-take at b))

-- A list with one more list between its parts.
joined-parts : (ps : List (Bor (List ℕ))) (i : ℕ) (d : Bor (List ℕ)) → i < length ps → joined ps ≡ joined (take i ps) ++ ((get_or ps i d).now ++ joined (drop (suc i) ps))
joined-parts ps i d lt =
    let parts : ps ≡ take i ps ++ (get_or ps i d ∷ drop (suc i) ps) = sym (take-append-drop i ps) ∙ ap (λ (r : List (Bor (List ℕ))). take i ps ++ r) (drop-cons ps i d lt) in
    ap joined parts ∙ flat_map-append (λ (p : Bor (List ℕ)). p.now) (take i ps) (get_or ps i d ∷ drop (suc i) ps)

-- A proper prefix of a piece, after the pieces before it.
pub GrewByPart-joined : (old mid new : Option (List ℕ)) (ps : List (Bor (List ℕ))) (i : ℕ) (d : Bor (List ℕ)) → i < length ps
    → Grew old mid (joined (take i ps)) → GrewByPart mid new (get_or ps i d).now → GrewByPart old new (joined ps)
GrewByPart-joined old mid new ps i d lt before part =
    let front = joined (take i ps) in
    let p = (get_or ps i d).now in
    let rest = joined (drop (suc i) ps) in
    let all : joined ps ≡ front ++ (p ++ rest) = joined-parts ps i d lt in
    let short : part.count ≤ length p = omega (arith, part.proper) in
    let prefix : front ++ take part.count p ≡ take (length front + part.count) (joined ps) =
    sym (ap (take (length front + part.count)) all ∙ take-append-add front (p ++ rest) part.count ∙ ap (λ (r : List ℕ). front ++ r) (take-append-le part.count p rest short)) in
    record {
      count = length front + part.count;
      proper = omega (arith, part.proper, ap length all, length-append front (p ++ rest), length-append p rest);
      is = subst (Grew old new) prefix (Grew-append old mid new front (take part.count p) before part.is);
    }

-- What holds in any case also holds for each error.
pub OnErr-any : {T E : Type 0} (r : Result T E) (P : Type 0) → P → OnErr r P
OnErr-any (Ok v) P p = tt
OnErr-any (Err e) P p = p

-- Two reads are one read with the bytes of both.
pub Consumes-append : (a b c : Option (List ℕ)) (xs ys : List ℕ) → Consumes a b xs → Consumes b c ys → Consumes a c (xs ++ ys)
Consumes-append None b c xs ys h k = tt
Consumes-append (Some all) None c xs ys h k = absurd h
Consumes-append (Some all) (Some left) None xs ys h k = absurd k
Consumes-append (Some all) (Some left) (Some rest) xs ys h k = h ∙ (ap (λ r. xs ++ r) k ∙ sym (append_assoc xs ys rest))

-- A list was filled up to i, and another has the same first i bytes and n more.
pub Consumes-more : (a b c : Option (List ℕ)) (xs ys : List ℕ) (i n : ℕ) → take i ys ≡ take i xs → Consumes a b (take i xs) → Consumes b c (take n (drop i ys)) → Consumes a c (take (i + n) ys)
Consumes-more a b c xs ys i n front before read =
    rw take-add (Consumes-append a b c (take i ys) (take n (drop i ys)) (subst (Consumes a b) (sym front) before) read)
