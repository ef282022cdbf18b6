-- The offsets of sections and the indices of bodies.
use Rattle.std.proofs.Common.{◌≡◌, ℕ, zero, suc, ◌+◌, ◌-◌, ◌<◌, Bool, true, false, List, [], ◌∷◌, length, take, get_or, Ok, Err, refl, arith}
use Rattle.std.proofs.lemmas.List.Sums.{sum_by-cons}
use Rattle.std.specs.Prelude.{Result, nat_lt, sum_by, if◌then◌else◌}
use Rattle.size_core.specs.declared.fault.BadFile.{BadFile}
use Rattle.wasm_file.specs.declared.body.Extent.{Extent}
use Rattle.wasm_file.specs.Records.{values}
use Rattle.wasm_file.specs.Sections.{SectionRecord, section_at, sections_within, sections_from, with_rest}
use Rattle.wasm_file.specs.Module.{sections_of}
use Rattle.wasm_file.specs.Imports.{function_count}
use Rattle.wasm_file.specs.Names.{function_names, name_in}
use Rattle.wasm_file.specs.Functions.{BodyRecord, bodies_of, extents_of, imports_of, name_of, numbered}
use Rattle.wasm_file.proofs.SectionLemmas.{stands_at}

abbrev those : ℕ → List ℕ → ℕ → List SectionRecord
those fuel file at = values (sections_within fuel file at)

-- Section k from an offset on begins there plus the lengths of the sections before it.
abbrev BeginsAfter : List SectionRecord → ℕ → ℕ → SectionRecord → Type 0
BeginsAfter sections at k d = (get_or sections k d).place ≡ at + sum_by (λ s. s.len) (take k sections)

follow : (fuel : ℕ) (file : List ℕ) (at k : ℕ) (d : SectionRecord) → k < length (those fuel file at) → BeginsAfter (those fuel file at) at k d
unfolding sections_within
follow zero file at k d lt = absurd (omega arith)
follow (suc fuel) file at k d lt = by_place k (nat_lt at (length file)) (section_at file at) refl (λ next j. follow fuel file next j d) lt
  where
    by_place : (k : ℕ) (b : Bool) (read : Result SectionRecord BadFile) → section_at file at ≡ read → ((next j : ℕ) → j < length (those fuel file next) → BeginsAfter (those fuel file next) next j d)
        → k < length (values (if b then with_rest read (sections_within fuel file) else [])) → BeginsAfter (values (if b then with_rest read (sections_within fuel file) else [])) at k d
    by_place k false read is rests lt = absurd (omega arith)
    by_place k true (Err e) is rests lt = absurd (omega arith)
    by_place zero true (Ok s) is rests lt = let place = stands_at file at s is in omega arith
    by_place (suc j) true (Ok s) is rests lt =
        let place = stands_at file at s is in
        let rest = rests (s.place + s.len) j (omega arith) in
        let cons = sum_by-cons (λ (t : SectionRecord). t.len) s (take j (those fuel file (s.place + s.len))) in
        omega arith

pub sections_follow : (file : List ℕ) (k : ℕ) (d : SectionRecord) → k < length (sections_of file) → BeginsAfter (sections_of file) 8 k d
unfolding sections_from
sections_follow file k d lt = follow (length file - 8) file 8 k d lt

index_of : (names : List (ℕ × List ℕ)) (first : ℕ) (bodies : List Extent) (j : ℕ) (d : BodyRecord) → j < length (numbered names first bodies) → (get_or (numbered names first bodies) j d).index ≡ first + j
index_of names first [] j d lt = absurd (omega arith)
index_of names first (b ∷ bodies) zero d lt = omega arith
index_of names first (b ∷ bodies) (suc j) d lt = let rest = index_of names (first + 1) bodies j d (omega arith) in omega arith

name_at : (names : List (ℕ × List ℕ)) (first : ℕ) (bodies : List Extent) (j : ℕ) (d : BodyRecord) → j < length (numbered names first bodies)
    → (get_or (numbered names first bodies) j d).name ≡ name_in names (get_or (numbered names first bodies) j d).index
name_at names first [] j d lt = absurd (omega arith)
name_at names first (b ∷ bodies) zero d lt = refl
name_at names first (b ∷ bodies) (suc j) d lt = name_at names (first + 1) bodies j d (omega arith)

pub bodies_follow : (file : List ℕ) (j : ℕ) (d : BodyRecord) → j < length (bodies_of file) → (get_or (bodies_of file) j d).index ≡ function_count (imports_of file) + j
unfolding bodies_of
bodies_follow file j d lt = index_of (function_names (sections_of file)) (function_count (imports_of file)) (values (extents_of file)) j d lt

pub bodies_have_names : (file : List ℕ) (j : ℕ) (d : BodyRecord) → j < length (bodies_of file) → (get_or (bodies_of file) j d).name ≡ name_of file (get_or (bodies_of file) j d).index
unfolding bodies_of name_of
bodies_have_names file j d lt = name_at (function_names (sections_of file)) (function_count (imports_of file)) (values (extents_of file)) j d lt
