-- The first load that covers an offset or a position, and what it gives.
use Rattle.std.proofs.Common.{◌≡◌, ◌+◌, ◌-◌, ◌*◌, ◌/◌, ◌%◌, ◌^◌, ◌<◌, ◌≤◌, ℕ, zero, suc, Bool, true, false, cond, ◌||◌, List, [], ◌∷◌, None, Some, length, get_or, refl, sym, ap, ◌∙◌, subst, arith}
use Rattle.std.proofs.lemmas.Bool.Decides.{nat_tests}
use Rattle.std.proofs.lemmas.Option.{none-some, same_Some}
use Rattle.std.proofs.lemmas.List.Elements.{All-head, All-tail}
use Rattle.std.specs.List.{All}
use Rattle.size_core.specs.declared.claim.Load.{Load}
use Rattle.size_model.specs.declared.piece.Piece.{Piece}
use Rattle.size_model.specs.Cut.{has, label_in, IsCut}
use Rattle.size_model.specs.Loads.{load_len, load_has_address, load_has_offset, mapped, addr, place, place_in, space_of, address_of, IsLoad}
use Rattle.dual_map.specs.Layout.{first_number, load_of_offset, load_of_position}
use Rattle.dual_map.specs.Loads.{file_range, file_ranges, address_range, address_ranges}

pub length-file_ranges : (len n : ℕ) (ls : List Load) → length (file_ranges len n ls) ≡ length ls
length-file_ranges len n [] = refl
length-file_ranges len n (l ∷ ls) = ap (λ k. suc k) (length-file_ranges len (n + 1) ls)

pub length-address_ranges : (n : ℕ) (ls : List Load) → length (address_ranges n ls) ≡ length ls
length-address_ranges n [] = refl
length-address_ranges n (l ∷ ls) = ap (λ k. suc k) (length-address_ranges (n + 1) ls)

has-file_range : (len i : ℕ) (l : Load) (o : ℕ) → has (file_range len i l) o ≡ load_has_offset len l o
has-file_range len i l o = grind (arith, nat_tests)

-- The ranges of loads label by the first load.
pub label_in-file_ranges : (len n : ℕ) (ls : List Load) (o : ℕ) → label_in (file_ranges len n ls) o ≡ first_number (λ (l : Load). load_has_offset len l o) n ls
label_in-file_ranges len n [] o = refl
label_in-file_ranges len n (l ∷ ls) o =
    ap (λ b. cond b (Some n) (label_in (file_ranges len (n + 1) ls) o)) (has-file_range len n l o) ∙ ap (λ r. cond (load_has_offset len l o) (Some n) r) (label_in-file_ranges len (n + 1) ls o)

has-address_range : (i : ℕ) (l : Load) (x q r : ℕ) → x ≡ q * 2 ^ 64 + r → r < 2 ^ 64 → l.vaddr + l.memsz ≤ 2 ^ 64 → has (address_range i l) x ≡ load_has_address l q r
has-address_range i l x q r e b h = grind (arith, nat_tests)

pub label_in-address_ranges : (n : ℕ) (ls : List Load) (x : ℕ) → All IsLoad ls → label_in (address_ranges n ls) x ≡ first_number (λ (l : Load). load_has_address l (space_of x) (address_of x)) n ls
label_in-address_ranges n [] x a = refl
label_in-address_ranges n (l ∷ ls) x a =
    ap (λ b. cond b (Some n) (label_in (address_ranges (n + 1) ls) x)) (has-address_range n l x (x / 2 ^ 64) (x % 2 ^ 64) (omega arith) (omega arith) (All-head IsLoad l ls a).ends) ∙ ap (λ r. cond (load_has_address l (space_of x) (address_of x)) (Some n) r) (label_in-address_ranges (n + 1) ls x (All-tail IsLoad l ls a))

-- The first load that covers an offset.
pub record CoversOffset (len : ℕ) (ls : List Load) (o k : ℕ) (l : Load) : Type 0 where
  pub within : k < length ls
  pub covers : load_has_offset len l o ≡ true
  pub gives : addr len ls o ≡ Some (l.space, l.vaddr + (o - l.offset))

none_before : (len n : ℕ) (l : Load) (ls : List Load) (o : ℕ) (b : Bool) → cond b (Some n) (first_number (λ (l : Load). load_has_offset len l o) (n + 1) ls) ≡ None → (first_number (λ (l : Load). load_has_offset len l o) (n + 1) ls ≡ None → addr len ls o ≡ None) → cond b (Some (l.space, l.vaddr + (o - l.offset))) (addr len ls o) ≡ None
none_before len n l ls o true e h = absurd (none-some n (sym e))
none_before len n l ls o false e h = h e

pub addr_none : (len n : ℕ) (ls : List Load) (o : ℕ) → first_number (λ (l : Load). load_has_offset len l o) n ls ≡ None → addr len ls o ≡ None
addr_none len n [] o e = refl
addr_none len n (l ∷ ls) o e = none_before len n l ls o (load_has_offset len l o) e (addr_none len (n + 1) ls o)

some_offset : (len n : ℕ) (l : Load) (ls : List Load) (o i : ℕ) (d : Load) (b : Bool) → load_has_offset len l o ≡ b → cond b (Some n) (first_number (λ (l : Load). load_has_offset len l o) (n + 1) ls) ≡ Some i → (first_number (λ (l : Load). load_has_offset len l o) (n + 1) ls ≡ Some i → (k : ℕ) × (i ≡ n + 1 + k) × CoversOffset len ls o k (get_or ls k d)) → (k : ℕ) × (i ≡ n + k) × CoversOffset len (l ∷ ls) o k (get_or (l ∷ ls) k d)
some_offset len n l ls o i d true h e ih = (
  zero,
  (let s : n ≡ i = same_Some n i e in omega arith),
  record {
    within = omega arith;
    covers = h;
    gives = ap (λ t. cond t (Some (l.space, l.vaddr + (o - l.offset))) (addr len ls o)) h;
  },
)
some_offset len n l ls o i d false h e ih =
    let w = ih e in (
      suc w.0,
      (let q : i ≡ n + 1 + w.0 = w.1 in omega arith),
      record {
        within = (let q : w.0 < length ls = w.2.within in omega arith);
        covers = w.2.covers;
        gives = ap (λ t. cond t (Some (l.space, l.vaddr + (o - l.offset))) (addr len ls o)) h ∙ w.2.gives;
      },
    )

offset_from : (len n : ℕ) (ls : List Load) (o i : ℕ) (d : Load) → first_number (λ (l : Load). load_has_offset len l o) n ls ≡ Some i → (k : ℕ) × (i ≡ n + k) × CoversOffset len ls o k (get_or ls k d)
offset_from len n [] o i d e = absurd (none-some i e)
offset_from len n (l ∷ ls) o i d e =
    some_offset len n l ls o i d (load_has_offset len l o) refl e (offset_from len (n + 1) ls o i d)

pub first_covers_offset : (len : ℕ) (ls : List Load) (o i : ℕ) (d : Load) → load_of_offset len ls o ≡ Some i → CoversOffset len ls o i (get_or ls i d)
first_covers_offset len ls o i d e =
    let w = offset_from len 0 ls o i d e in
    let q : w.0 ≡ i = omega arith in
    subst (λ k. CoversOffset len ls o k (get_or ls k d)) q w.2

pub offset_bounds : (len : ℕ) (l : Load) (o : ℕ) → load_has_offset len l o ≡ true → (l.offset ≤ o) × (o < l.offset + load_len l) × (o < len)
offset_bounds len l o e = (grind (arith, nat_tests), grind (arith, nat_tests), grind (arith, nat_tests))

-- The first load that covers a position.
pub record CoversAddress (len : ℕ) (ls : List Load) (q r k : ℕ) (l : Load) : Type 0 where
  pub within : k < length ls
  pub covers : load_has_address l q r ≡ true
  pub is_mapped : mapped ls q r ≡ true
  pub gives : place len ls q r ≡ place_in len l r

some_address : (len n : ℕ) (l : Load) (ls : List Load) (q r i : ℕ) (d : Load) (b : Bool) → load_has_address l q r ≡ b → cond b (Some n) (first_number (λ (l : Load). load_has_address l q r) (n + 1) ls) ≡ Some i → (first_number (λ (l : Load). load_has_address l q r) (n + 1) ls ≡ Some i → (k : ℕ) × (i ≡ n + 1 + k) × CoversAddress len ls q r k (get_or ls k d)) → (k : ℕ) × (i ≡ n + k) × CoversAddress len (l ∷ ls) q r k (get_or (l ∷ ls) k d)
some_address len n l ls q r i d true h e ih = (
  zero,
  (let s : n ≡ i = same_Some n i e in omega arith),
  record {
    within = omega arith;
    covers = h;
    is_mapped = ap (λ t. t || mapped ls q r) h;
    gives = ap (λ t. cond t (place_in len l r) (place len ls q r)) h;
  },
)
some_address len n l ls q r i d false h e ih =
    let w = ih e in (
      suc w.0,
      (let z : i ≡ n + 1 + w.0 = w.1 in omega arith),
      record {
        within = (let z : w.0 < length ls = w.2.within in omega arith);
        covers = w.2.covers;
        is_mapped = ap (λ t. t || mapped ls q r) h ∙ w.2.is_mapped;
        gives = ap (λ t. cond t (place_in len l r) (place len ls q r)) h ∙ w.2.gives;
      },
    )

address_from : (len n : ℕ) (ls : List Load) (q r i : ℕ) (d : Load) → first_number (λ (l : Load). load_has_address l q r) n ls ≡ Some i → (k : ℕ) × (i ≡ n + k) × CoversAddress len ls q r k (get_or ls k d)
address_from len n [] q r i d e = absurd (none-some i e)
address_from len n (l ∷ ls) q r i d e =
    some_address len n l ls q r i d (load_has_address l q r) refl e (address_from len (n + 1) ls q r i d)

pub first_covers_at : (len : ℕ) (ls : List Load) (q r i : ℕ) (d : Load) → first_number (λ (l : Load). load_has_address l q r) 0 ls ≡ Some i → CoversAddress len ls q r i (get_or ls i d)
first_covers_at len ls q r i d e =
    let w = address_from len 0 ls q r i d e in
    let z : w.0 ≡ i = omega arith in
    subst (λ k. CoversAddress len ls q r k (get_or ls k d)) z w.2

pub first_covers_address : (len : ℕ) (ls : List Load) (x i : ℕ) (d : Load) → load_of_position ls x ≡ Some i → CoversAddress len ls (space_of x) (address_of x) i (get_or ls i d)
first_covers_address len ls x i d e = first_covers_at len ls (space_of x) (address_of x) i d e

none_mapped : (n : ℕ) (l : Load) (ls : List Load) (q r : ℕ) (b : Bool) → cond b (Some n) (first_number (λ (l : Load). load_has_address l q r) (n + 1) ls) ≡ None → (first_number (λ (l : Load). load_has_address l q r) (n + 1) ls ≡ None → mapped ls q r ≡ false) → b || mapped ls q r ≡ false
none_mapped n l ls q r true e h = absurd (none-some n (sym e))
none_mapped n l ls q r false e h = h e

pub unmapped : (n : ℕ) (ls : List Load) (q r : ℕ) → first_number (λ (l : Load). load_has_address l q r) n ls ≡ None → mapped ls q r ≡ false
unmapped n [] q r e = refl
unmapped n (l ∷ ls) q r e = none_mapped n l ls q r (load_has_address l q r) e (unmapped (n + 1) ls q r)

pub address_bounds : (l : Load) (q r : ℕ) → load_has_address l q r ≡ true → (q ≡ l.space) × (l.vaddr ≤ r) × (r < l.vaddr + l.memsz)
address_bounds l q r e = (grind (arith, nat_tests), grind (arith, nat_tests), grind (arith, nat_tests))

-- An offset has an address below 2^64.
pub placed_mapped : (len : ℕ) (ls : List Load) (q r v : ℕ) → place len ls q r ≡ Some v → mapped ls q r ≡ true
placed_mapped len [] q r v e = absurd (none-some v e)
placed_mapped len (l ∷ ls) q r v e = step len l ls q r v (load_has_address l q r) e (placed_mapped len ls q r v)
  where
    step : (len : ℕ) (l : Load) (ls : List Load) (q r v : ℕ) (b : Bool) → cond b (place_in len l r) (place len ls q r) ≡ Some v → (place len ls q r ≡ Some v → mapped ls q r ≡ true) → b || mapped ls q r ≡ true
    step len l ls q r v true e h = refl
    step len l ls q r v false e h = h e

none_placed : (len n : ℕ) (l : Load) (ls : List Load) (q r : ℕ) (b : Bool) → cond b (Some n) (first_number (λ (l : Load). load_has_address l q r) (n + 1) ls) ≡ None → (first_number (λ (l : Load). load_has_address l q r) (n + 1) ls ≡ None → place len ls q r ≡ None) → cond b (place_in len l r) (place len ls q r) ≡ None
none_placed len n l ls q r true e h = absurd (none-some n (sym e))
none_placed len n l ls q r false e h = h e

pub place_none : (len n : ℕ) (ls : List Load) (q r : ℕ) → first_number (λ (l : Load). load_has_address l q r) n ls ≡ None → place len ls q r ≡ None
place_none len n [] q r e = refl
place_none len n (l ∷ ls) q r e = none_placed len n l ls q r (load_has_address l q r) e (place_none len (n + 1) ls q r)

-- The space and the address of a position.
pub split_position : (x q r : ℕ) → x ≡ q * 2 ^ 64 + r → r < 2 ^ 64 → (space_of x ≡ q) × (address_of x ≡ r)
split_position x q r e h = (let s : x / 2 ^ 64 ≡ q = omega arith in s, let s : x % 2 ^ 64 ≡ r = omega arith in s)

-- The first load of an address, by a cut.
pub load_at : (ls : List Load) (ps : List Piece) (x q r : ℕ) → IsCut (load_of_position ls) ps → x ≡ q * 2 ^ 64 + r → r < 2 ^ 64 → label_in ps x ≡ first_number (λ (l : Load). load_has_address l q r) 0 ls
load_at ls ps x q r c e h =
    let s = split_position x q r e h in
    c.labels x ∙ (ap (λ n. first_number (λ (l : Load). load_has_address l n (address_of x)) 0 ls) s.0 ∙ ap (λ n. first_number (λ (l : Load). load_has_address l q n) 0 ls) s.1)
