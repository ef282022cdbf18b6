-- How turns add up to a reading.
use Rattle.std.proofs.Common.{◌≡◌, ℕ, ◌+◌, ◌-◌, ◌<◌, ◌≤◌, List, [], ◌∷◌, ◌++◌, length, take, drop, sym, ap, subst, append_assoc, arith, ◌∙◌, length-append, length-take, length-drop}
use Rattle.std.specs.List.{All, concat}
use Rattle.std.proofs.Math.Seq.{take-add, take-append-add}
use Rattle.std.proofs.lemmas.List.{append-nil}
use Rattle.std.proofs.lemmas.List.Elements.{All-append, All-nil, All-push, All-take}
use Rattle.std.proofs.lemmas.List.Folds.{concat-append}
use Rattle.outside.specs.Turns.{Took, turn_most}

abbrev HasByte : List ℕ → Type 0
HasByte turn = 0 < length turn

abbrev IsInChunk : List ℕ → Type 0
IsInChunk turn = length turn ≤ turn_most

-- Turns that took these bytes, each at least one.
pub record Filled (before now : List (List ℕ)) (bytes : List ℕ) : Type 0 where
  pub made : List (List ℕ)
  pub behind : now ≡ before ++ made
  pub whole : concat made ≡ bytes
  pub some : All HasByte made
  pub most : All IsInChunk made

-- Such turns are a reading.
pub Filled-took : (before now : List (List ℕ)) (bytes : List ℕ) → Filled before now bytes → Took before now bytes
Filled-took before now bytes f = record {
  made = f.made;
  behind = f.behind;
  whole = f.whole;
  some = All-take HasByte (length f.made - 1) f.made f.some;
  most = f.most;
}

-- One turn is a reading.
pub Took-one : (before now : List (List ℕ)) (turn : List ℕ) → now ≡ before ++ turn ∷ [] → length turn ≤ turn_most → Took before now turn
Took-one before now turn behind most = record {
  made = turn ∷ [];
  behind = behind;
  whole = append-nil turn;
  some = All-nil HasByte;
  most = All-push IsInChunk [] turn (All-nil IsInChunk) most;
}

-- One more turn that took a byte.
pub Filled-more : (before mid now : List (List ℕ)) (bytes turn : List ℕ) → Filled before mid bytes → now ≡ mid ++ turn ∷ [] → 0 < length turn → length turn ≤ turn_most → Filled before now (bytes ++ turn)
Filled-more before mid now bytes turn f behind some most = record {
  made = f.made ++ turn ∷ [];
  behind = behind ∙ (ap (λ ts. ts ++ turn ∷ []) f.behind ∙ append_assoc before f.made (turn ∷ []));
  whole = concat-append f.made (turn ∷ []) ∙ (ap (λ bs. bs ++ (turn ++ [])) f.whole ∙ ap (λ bs. bytes ++ bs) (append-nil turn));
  some = All-push HasByte f.made turn f.some some;
  most = All-push IsInChunk f.made turn f.most most;
}

-- All but the last of two concatenated lists, if the condition holds of each item of the first.
All-but-last : (P : List ℕ → Type 0) (xs ys : List (List ℕ)) → All P xs → All P (take (length ys - 1) ys) → All P (take (length (xs ++ ys) - 1) (xs ++ ys))
All-but-last P xs [] each rest = All-take P (length (xs ++ []) - 1) (xs ++ []) (All-append P xs [] each (All-nil P))
All-but-last P xs (y ∷ ys) each rest =
    let count : length (xs ++ y ∷ ys) - 1 ≡ length xs + length ys = omega (arith, length-append xs (y ∷ ys)) in
    let last : length (y ∷ ys) - 1 ≡ length ys = omega arith in
    let parts = ap (λ n. take n (xs ++ y ∷ ys)) count ∙ take-append-add xs (y ∷ ys) (length ys) in
    subst (All P) (sym parts) (All-append P xs (take (length ys) (y ∷ ys)) each (subst (λ n. All P (take n (y ∷ ys))) last rest))

-- Turns that took a byte each, and a reading after them.
pub Took-after : (before mid now : List (List ℕ)) (xs ys : List ℕ) → Filled before mid xs → Took mid now ys → Took before now (xs ++ ys)
Took-after before mid now xs ys f t = record {
  made = f.made ++ t.made;
  behind = t.behind ∙ (ap (λ ts. ts ++ t.made) f.behind ∙ append_assoc before f.made t.made);
  whole = concat-append f.made t.made ∙ (ap (λ bs. bs ++ concat t.made) f.whole ∙ ap (λ bs. xs ++ bs) t.whole);
  some = All-but-last HasByte f.made t.made f.some t.some;
  most = All-append IsInChunk f.made t.made f.most t.most;
}

-- Turns that took a byte each, and at most one more that took none.
pub Took-last : (before mid now : List (List ℕ)) (bytes : List ℕ) → Filled before mid bytes → Took mid now [] → Took before now bytes
Took-last before mid now bytes f t = subst (Took before now) (append-nil bytes) (Took-after before mid now bytes [] f t)

-- The count of all bytes grows by those of a reading.
pub Took-length : (before now : List (List ℕ)) (bytes : List ℕ) → Took before now bytes → length (concat now) ≡ length (concat before) + length bytes
Took-length before now bytes t =
    ap (λ ts. length (concat ts)) t.behind ∙ (ap length (concat-append before t.made) ∙ (length-append (concat before) (concat t.made) ∙ ap (λ bs. length (concat before) + length bs) t.whole))

-- A list was filled up to i, and another has the same first i bytes and n more, from one turn.
pub Filled-taken : (before mid now : List (List ℕ)) (xs ys : List ℕ) (i n : ℕ) → take i ys ≡ take i xs → i + n ≤ length ys → 0 < n → n ≤ turn_most
    → Filled before mid (take i xs) → now ≡ mid ++ take n (drop i ys) ∷ [] → Filled before now (take (i + n) ys)
Filled-taken before mid now xs ys i n front fits some most f behind =
    let long : length (take n (drop i ys)) ≡ n = omega (arith, length-take n (drop i ys), length-drop i ys, fits) in
    rw take-add (Filled-more before mid now (take i ys) (take n (drop i ys)) (subst (Filled before mid) (sym front) f) behind (omega (arith, long, some)) (omega (arith, long, most)))

-- Turns that took a byte each, and one that took none.
pub Took-end : (before mid now : List (List ℕ)) (bytes xs : List ℕ) (n : ℕ) → Filled before mid bytes → now ≡ mid ++ take n xs ∷ [] → n ≡ 0 → Took before now bytes
Took-end before mid now bytes xs n f behind none =
    Took-last before mid now bytes f (Took-one mid now [] (behind ∙ ap (λ k. mid ++ take k xs ∷ []) none) (omega arith))
