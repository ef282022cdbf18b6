-- Items that are added to a list one after the other.
use Rattle.std.proofs.Common.{◌≡◌, ℕ, ◌+◌, List, [], ◌∷◌, ◌++◌, length, take, Some, refl, append_assoc, length-append, arith}
use Rattle.std.specs.Prelude.{slice_get}
use Rattle.std.proofs.Math.Seq.{take-append-add, take-append_seam}
use Rattle.std.proofs.lemmas.List.{append-nil, take-append-le, take_all, take_more}
use Rattle.std.proofs.lemmas.Option.{get_or_from_slice_get, slice_get_within}
use Rattle.run_plan.specs.Firsts.{AddsFirst}

pub take-none : (names : List (List ℕ)) → take 0 names ≡ []
take-none names = take-append_seam [] names

pub take-next : {X : Type 0} (names : List X) (k : ℕ) (name : X) → slice_get names k ≡ Some name → take (k + 1) names ≡ take k names ++ name ∷ []
take-next names k name at = rw (get_or_from_slice_get names k name name at) at (take_more names k name (slice_get_within names k name at))

-- The first of some items are also the first if more items follow.
pub adds-more : (count : ℕ) (before after front rest : List (List ℕ)) → AddsFirst count before after front → AddsFirst count before after (front ++ rest)
adds-more count before after front rest reads = record {
  within = omega (arith, reads.within, length-append front rest);
  are = rw (take-append-le count front rest reads.within) reads.are;
}

-- No item was added yet.
pub adds-none : (before names : List (List ℕ)) → AddsFirst 0 before before names
adds-none before names = record { within = omega arith; are = rw (take-none names, append-nil before) refl }

-- All items were added.
pub adds-all : (before after names : List (List ℕ)) → after ≡ before ++ names → AddsFirst (length names) before after names
adds-all before after names are = record { within = omega arith; are = rw (take_all (length names) names (omega arith)) are }

-- Items before others.
module _ (before middle front rest : List (List ℕ)) (are : middle ≡ before ++ front) where
  pub adds-behind : (count : ℕ) (after : List (List ℕ)) → AddsFirst count middle after rest → AddsFirst (length front + count) before after (front ++ rest)
  adds-behind count after reads = record {
    within = omega (arith, reads.within, length-append front rest);
    are = rw (take-append-add front rest count, ← append_assoc, ← are) reads.are;
  }

  pub adds-whole : (after : List (List ℕ)) → after ≡ middle ++ rest → after ≡ before ++ (front ++ rest)
  adds-whole after all = rw (← append_assoc, ← are) all

-- The same number of items.
pub adds-as-many : (m n : ℕ) (before after names : List (List ℕ)) → n ≡ m → AddsFirst m before after names → AddsFirst n before after names
adds-as-many m n before after names same reads = rw same reads

-- The first of some items, among more items that begin with `front`.
pub adds-within : (before middle after front part rest all : List (List ℕ)) (count many : ℕ) → all ≡ front ++ (part ++ rest) → middle ≡ before ++ front → many ≡ length front + count
    → AddsFirst count middle after part → AddsFirst many before after all
adds-within before middle after front part rest all count many whole are same built =
    rw (whole, same) (adds-behind before middle front (part ++ rest) are count after (adds-more count middle after part rest built))
