-- Sizes by numbers of labels: growth, and what the entries weigh.
use Rattle.std.proofs.Common.{◌^◌, ◌≡◌, ◌+◌, ◌<◌, ◌≤◌, ℕ, zero, suc, Bool, true, false, cond, ◌&&◌, List, [], ◌∷◌, length, get_or, set, Some, refl, sym, ap, subst, ◌∙◌, inl, inr, ◌⊎◌, map, arith}
use Rattle.std.specs.List.{sum_by}
use Rattle.std.specs.Prelude.{All}
use Rattle.std.proofs.lemmas.List.Sums.{sum_by-cons, sum_by_push, sum_by-set}
use Rattle.std.proofs.lemmas.List.Elements.{All-push}
use Rattle.std.proofs.lemmas.List.{get_or-set_other, get_or-set_same, length-set}
use Rattle.std.proofs.lemmas.Bool.{cases_eq}
use Rattle.rollup.specs.declared.cursor.Part.{Part}
use Rattle.rollup.specs.declared.cursor.Part.TheVariants.{File, Vm}
use Rattle.rollup.specs.declared.sizes.Sizes.{Sizes}
use Rattle.size_model.specs.Numbered.{text_of}
use Rattle.path_rows.specs.declared.row.RollupRow.{RollupRow}
use Rattle.path_rows.specs.Rows.{FitTogether}
use Rattle.rollup.specs.Sizes.{row_of, Entry, no_entry, entry_of, size_in, other, sizes_of, grown_sizes, grown, weight, IsGrown, IsGrownIf, IsEntry}

same : {A : Type 0} {x y : A} → Some x ≡ Some y → x ≡ y
same e = cc

pub grown-entry : (part : Part) (size : ℕ) (n : List ℕ) (s : Sizes) → entry_of n (grown_sizes part size s) ≡ grown part size (entry_of n s)
grown-entry File size n s = refl
grown-entry Vm size n s = refl

-- The size of an entry if its numbers pass a test, and else 0.
abbrev weigh : Part → (List ℕ → Bool) → Entry → ℕ
weigh part test e = cond (test e.numbers) (size_in part e) 0

weigh-grown : (part : Part) (test : List ℕ → Bool) (size : ℕ) (e : Entry) (numbers : List ℕ) → e.numbers ≡ numbers → weigh part test (grown part size e) ≡ weigh part test e + cond (test numbers) size 0
weigh-grown File test size e numbers same = on (test e.numbers) ∙ ap (λ ns. cond (test e.numbers) e.file 0 + cond (test ns) size 0) same
  where
    on : (b : Bool) → cond b (e.file + size) 0 ≡ cond b e.file 0 + cond b size 0
    on true = refl
    on false = refl
weigh-grown Vm test size e numbers same = on (test e.numbers) ∙ ap (λ ns. cond (test e.numbers) e.vm 0 + cond (test ns) size 0) same
  where
    on : (b : Bool) → cond b (e.vm + size) 0 ≡ cond b e.vm 0 + cond b size 0
    on true = refl
    on false = refl

weigh-other : (part : Part) (test : List ℕ → Bool) (size : ℕ) (e : Entry) → weigh (other part) test (grown part size e) ≡ weigh (other part) test e
weigh-other File test size e = refl
weigh-other Vm test size e = refl

weigh-new : (part : Part) (test : List ℕ → Bool) (size : ℕ) (numbers : List ℕ) → weigh part test (entry_of numbers (sizes_of part size)) ≡ cond (test numbers) size 0
weigh-new File test size numbers = refl
weigh-new Vm test size numbers = refl

weigh-new_other : (part : Part) (test : List ℕ → Bool) (size : ℕ) (numbers : List ℕ) → weigh (other part) test (entry_of numbers (sizes_of part size)) ≡ 0
weigh-new_other File test size numbers = zero_both (test numbers)
  where
    zero_both : (b : Bool) → cond {A = ℕ} b 0 0 ≡ 0
    zero_both true = refl
    zero_both false = refl
weigh-new_other Vm test size numbers = zero_both (test numbers)
  where
    zero_both : (b : Bool) → cond {A = ℕ} b 0 0 ≡ 0
    zero_both true = refl
    zero_both false = refl

pub weight-grown : (part : Part) (test : List ℕ → Bool) (numbers : List ℕ) (size : ℕ) (old new : List Entry) → IsGrown part numbers size old new → weight part test new ≡ weight part test old + cond (test numbers) size 0
weight-grown part test numbers size old new (inl (i, h)) =
    let e = get_or old i no_entry in
    let all = sum_by-set (weigh part test) old i (grown part size e) no_entry h.within in
    let one = weigh-grown part test size e numbers h.there in
    ap (weight part test) h.set ∙ omega (arith, all, one)
weight-grown part test numbers size old new (inr h) = ap (weight part test) h ∙ (sum_by_push (weigh part test) old (entry_of numbers (sizes_of part size)) ∙ ap (λ n. weight part test old + n) (weigh-new part test size numbers))

pub weight-other : (part : Part) (test : List ℕ → Bool) (numbers : List ℕ) (size : ℕ) (old new : List Entry) → IsGrown part numbers size old new → weight (other part) test new ≡ weight (other part) test old
weight-other part test numbers size old new (inl (i, h)) =
    let e = get_or old i no_entry in
    let all = sum_by-set (weigh (other part) test) old i (grown part size e) no_entry h.within in
    let one = weigh-other part test size e in
    ap (weight (other part) test) h.set ∙ omega (arith, all, one)
weight-other part test numbers size old new (inr h) =
    ap (weight (other part) test) h ∙ omega (arith, sum_by_push (weigh (other part) test) old (entry_of numbers (sizes_of part size)), weigh-new_other part test size numbers)

-- No entry has a larger size than all entries together.
pub size-le : (part : Part) (es : List Entry) (i : ℕ) → size_in part (get_or es i no_entry) ≤ weight part (λ _. true) es
size-le File [] i = omega arith
size-le Vm [] i = omega arith
size-le part (e ∷ es) zero = omega (arith, sum_by-cons (weigh part (λ _. true)) e es)
size-le part (e ∷ es) (suc i) = omega (arith, sum_by-cons (weigh part (λ _. true)) e es, size-le part es i)

some-grown : (part : Part) (size k n : ℕ) (e : Entry) → 0 < size → IsEntry k n e → IsEntry k n (grown part size e)
some-grown File size k n e lt h = record { deep = h.deep; below = h.below; some = inr (omega arith) }
some-grown Vm size k n e lt h = record { deep = h.deep; below = h.below; some = inl (omega arith) }

some-new : (part : Part) (size k n : ℕ) (numbers : List ℕ) → 0 < size → length numbers ≡ k → All (λ m. m < n) numbers → IsEntry k n (entry_of numbers (sizes_of part size))
some-new File size k n numbers lt deep below = record { deep = deep; below = below; some = inr lt }
some-new Vm size k n numbers lt deep below = record { deep = deep; below = below; some = inl lt }

-- After one of them has grown, the entries have the same properties.
pub entries-grown : (part : Part) (numbers : List ℕ) (size k n : ℕ) (old new : List Entry) → 0 < size → length numbers ≡ k → All (λ m. m < n) numbers → IsGrown part numbers size old new → All (IsEntry k n) old → All (IsEntry k n) new
entries-grown part numbers size k n old new lt deep below (inl (i, h)) all =
    let e = get_or old i no_entry in
    subst (All (IsEntry k n)) (sym h.set) (λ j d within. at j d (omega (arith, length-set old i (grown part size e))) (cases_eq j i))
  where
    at : (j : ℕ) (d : Entry) → j < length old → ((j ≡ i) ⊎ (j ≡ i → ⊥)) → IsEntry k n (get_or (set old i (grown part size (get_or old i no_entry))) j d)
    at j d within (inl same) =
        subst (λ m. IsEntry k n (get_or (set old i (grown part size (get_or old i no_entry))) m d)) (sym same)
        (subst (IsEntry k n) (sym (get_or-set_same old i (grown part size (get_or old i no_entry)) d h.within)) (some-grown part size k n (get_or old i no_entry) lt (all i no_entry h.within)))
    at j d within (inr differs) = subst (IsEntry k n) (sym (get_or-set_other old i j (grown part size (get_or old i no_entry)) d differs)) (all j d within)
entries-grown part numbers size k n old new lt deep below (inr h) all =
    subst (All (IsEntry k n)) (sym h) (All-push (IsEntry k n) old (entry_of numbers (sizes_of part size)) all (some-new part size k n numbers lt deep below))

pub weight-grown_if : (b : Bool) (part : Part) (test : List ℕ → Bool) (numbers : List ℕ) (size : ℕ) (old new : List Entry) → IsGrownIf b part numbers size old new → weight part test new ≡ weight part test old + cond (b && test numbers) size 0
weight-grown_if true part test numbers size old new h = weight-grown part test numbers size old new h
weight-grown_if false part test numbers size old new h = ap (weight part test) h ∙ (let none : weight part test old ≡ weight part test old + 0 = omega arith in none)

pub weight-other_if : (b : Bool) (part : Part) (test : List ℕ → Bool) (numbers : List ℕ) (size : ℕ) (old new : List Entry) → IsGrownIf b part numbers size old new → weight (other part) test new ≡ weight (other part) test old
weight-other_if true part test numbers size old new h = weight-other part test numbers size old new h
weight-other_if false part test numbers size old new h = ap (weight (other part) test) h

pub entries-grown_if : (b : Bool) (part : Part) (numbers : List ℕ) (size k n : ℕ) (old new : List Entry) → 0 < size → length numbers ≡ k → (b ≡ true → All (λ m. m < n) numbers) → IsGrownIf b part numbers size old new → All (IsEntry k n) old → All (IsEntry k n) new
entries-grown_if true part numbers size k n old new lt deep below h all = entries-grown part numbers size k n old new lt deep (below refl) h all
entries-grown_if false part numbers size k n old new lt deep below h all = subst (All (IsEntry k n)) (sym h) all

-- The row of an entry has the sizes of the entry.
sum_rows : (f : RollupRow → ℕ) (g : Entry → ℕ) (pool : List (List ℕ)) → ((e : Entry) → f (row_of pool e) ≡ g e) → (es : List Entry) → sum_by f (map (row_of pool) es) ≡ sum_by g es
sum_rows f g pool same [] = refl
sum_rows f g pool same (e ∷ es) = omega (arith, sum_by-cons f (row_of pool e) (map (row_of pool) es), sum_by-cons g e es, same e, sum_rows f g pool same es)

one-le : (g : Entry → ℕ) (es : List Entry) (k : ℕ) (d : Entry) → k < length es → g (get_or es k d) ≤ sum_by g es
one-le g [] k d lt = absurd (omega arith)
one-le g (e ∷ es) zero d lt = omega (arith, sum_by-cons g e es)
one-le g (e ∷ es) (suc k) d lt = omega (arith, sum_by-cons g e es, one-le g es k d (omega arith))

pub vm-fits : (pool : List (List ℕ)) (old : List RollupRow) (es : List Entry) → FitTogether old (map (row_of pool) es) → All (λ (e : Entry). e.vm < 2 ^ 64) es
vm-fits pool old es h k d lt = omega (arith, one-le (λ (e : Entry). e.vm) es k d lt, sum_rows (λ (r : RollupRow). r.vm) (λ (e : Entry). e.vm) pool (λ e. refl) es, h.vm)

pub file-fits : (pool : List (List ℕ)) (old : List RollupRow) (es : List Entry) → FitTogether old (map (row_of pool) es) → All (λ (e : Entry). e.file < 2 ^ 64) es
file-fits pool old es h k d lt = omega (arith, one-le (λ (e : Entry). e.file) es k d lt, sum_rows (λ (r : RollupRow). r.file) (λ (e : Entry). e.file) pool (λ e. refl) es, h.file)

-- The rows of entries have the same sums of sizes as the entries.
pub rows-weigh : (part : Part) (f : RollupRow → ℕ) (pool : List (List ℕ)) (test : List (List ℕ) → Bool) → ((e : Entry) → f (row_of pool e) ≡ size_in part e) → (es : List Entry)
    → sum_by (λ (r : RollupRow). cond (test r.path) (f r) 0) (map (row_of pool) es) ≡ weight part (λ ns. test (map (text_of pool) ns)) es
rows-weigh part f pool test same es =
    sum_rows (λ (r : RollupRow). cond (test r.path) (f r) 0) (weigh part (λ ns. test (map (text_of pool) ns))) pool (λ e. ap (λ n. cond (test (map (text_of pool) e.numbers)) n 0) (same e)) es
