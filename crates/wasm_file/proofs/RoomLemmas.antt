-- The functions of a module have fewer than 2^32 indices: each import and each body has at least one byte,
-- and the two sections don't overlap.
use Rattle.std.proofs.Common.{◌≡◌, ℕ, zero, suc, ◌+◌, ◌-◌, ◌^◌, ◌<◌, ◌≤◌, Bool, true, false, List, [], length, Option, Some, None, Ok, Err, refl, arith}
use Rattle.std.proofs.lemmas.Grind.{common_steps}
use Rattle.std.proofs.lemmas.List.Sums.{count_by-le-length}
use Rattle.std.specs.Prelude.{Result, nat_eq, nat_lt, ◌==◌, if◌then◌else◌}
use Rattle.size_core.specs.declared.fault.BadFile.{BadFile}
use Rattle.byte_cursor.specs.Window.{Window}
use Rattle.wasm_file.specs.declared.constants.TheConstants.{IMPORT, CODE}
use Rattle.wasm_file.specs.Numbers.{number_at, long_number_at, name_at}
use Rattle.wasm_file.specs.Records.{records, values, vector}
use Rattle.wasm_file.specs.Sections.{SectionRecord, section_at, sections_within, sections_from, with_rest}
use Rattle.wasm_file.specs.Imports.{after_description, after_limits, function_count, import_at, imports_in}
use Rattle.wasm_file.specs.Functions.{bodies_in, body_at, extents_of, first_with, imports_of}
use Rattle.wasm_file.specs.Module.{IsOpened, sections_of}
use Rattle.wasm_file.proofs.NameLemmas.{byte_forward, piece_forward, piece_begins}
use Rattle.wasm_file.proofs.SectionLemmas.{number_forward, HasRoom, has_room}

-- A record begins in its window, and the next one begins at a greater offset.
record Advances {X : Type 0} (read : Window → Option (X × ℕ)) : Type 0 where
  begins : (w : Window) (x : X × ℕ) → read w ≡ Some x → w.at < length w.bytes
  on : (w : Window) (x : X × ℕ) → read w ≡ Some x → w.at < x.1

module _ {X : Type 0} (read : Window → Option (X × ℕ)) (advances : Advances read) where
  -- There are at most as many records as bytes.
  records_few : (n : ℕ) (w : Window) → length (values (records read n w)) ≤ length w.bytes - w.at
  unfolding records
  records_few zero w = omega arith
  records_few (suc n) w = by_reading (λ next. records_few n (record w { at = next })) (read w) refl
    where
      by_reading : ((next : ℕ) → length (values (records read n (record w { at = next }))) ≤ length w.bytes - next) → (x : Option (X × ℕ)) → read w ≡ x → length (values (records read (suc n) w)) ≤ length w.bytes - w.at
      by_reading rests None is = rw is (omega arith)
      by_reading rests (Some x) is =
          let begins = advances.begins w x is in
          let on = advances.on w x is in
          let rest = rests x.1 in
          rw is (omega arith)

  vector_few : (w : Window) → length (values (vector read w)) ≤ length w.bytes
  unfolding vector
  vector_few w = by_count (number_at w.bytes w.at) refl
    where
      by_count : (x : Option (ℕ × ℕ)) → number_at w.bytes w.at ≡ x → length (values (vector read w)) ≤ length w.bytes
      by_count None is = rw is (omega arith)
      by_count (Some x) is = let few = records_few x.0 (record w { at = x.1 }) in rw is (omega arith)

name_forward : (bytes : List ℕ) (at : ℕ) (x : List ℕ × ℕ) → name_at bytes at ≡ Some x → at < x.1
unfolding name_at
name_forward bytes at x h = grind (arith, common_steps, piece_forward)

name_begins : (bytes : List ℕ) (at : ℕ) (x : List ℕ × ℕ) → name_at bytes at ≡ Some x → at < length bytes
unfolding name_at
name_begins bytes at x h = grind (arith, common_steps, piece_begins)

long_forward : (bytes : List ℕ) (at : ℕ) (x : ℕ × ℕ) → long_number_at bytes at ≡ Some x → at ≤ x.1
unfolding long_number_at
long_forward bytes at x h = grind (arith, common_steps)

limits_forward : (bytes : List ℕ) (at next : ℕ) → after_limits bytes at ≡ Some next → at ≤ next
unfolding after_limits
limits_forward bytes at next h = grind (arith, common_steps, byte_forward, long_forward)

description_forward : (bytes : List ℕ) (kind at next : ℕ) → after_description bytes kind at ≡ Some next → at ≤ next
unfolding after_description
description_forward bytes kind at next h = grind (arith, common_steps, number_forward, byte_forward, limits_forward)

imports_advance : Advances import_at
unfolding import_at
imports_advance = record {
  begins = λ w x h. grind (arith, common_steps, name_begins);
  on = λ w x h. grind (arith, common_steps, name_forward, byte_forward, description_forward);
}

bodies_advance : Advances body_at
unfolding body_at
bodies_advance = record {
  begins = λ w x h. grind (arith, common_steps, piece_begins);
  on = λ w x h. grind (arith, common_steps, piece_forward);
}

-- The size of a section's contents in bytes, and 0 if there is no such section.
abbrev size_of : Option Window → ℕ
size_of None = 0
size_of (Some w) = length w.bytes

imports_few : (section : Option Window) → function_count (imports_in section) ≤ size_of section
unfolding imports_in
imports_few None = omega arith
imports_few (Some w) =
    let few = vector_few import_at imports_advance w in
    let counted = count_by-le-length (λ (is_function : Bool). is_function) (values (vector import_at w)) in
    omega arith

bodies_few : (section : Option Window) → length (values (bodies_in section)) ≤ size_of section
unfolding bodies_in
bodies_few None = omega arith
bodies_few (Some w) = vector_few body_at bodies_advance w

-- The sections from an offset on.
abbrev those : ℕ → List ℕ → ℕ → List SectionRecord
those fuel file at = values (sections_within fuel file at)

-- The contents of one section fit into the rest of the file.
one_fits : (id fuel : ℕ) (file : List ℕ) (at : ℕ) → size_of (first_with id (those fuel file at)) ≤ length file - at
unfolding sections_within
one_fits id zero file at = omega arith
one_fits id (suc fuel) file at = by_place (nat_lt at (length file)) (section_at file at) refl (λ next. one_fits id fuel file next)
  where
    by_id : (s : SectionRecord) (b : Bool) → HasRoom file at s → size_of (first_with id (those fuel file (s.place + s.len))) ≤ length file - (s.place + s.len)
        → size_of (if b then Some s.contents else first_with id (those fuel file (s.place + s.len))) ≤ length file - at
    by_id s true room rest = let contents = room.contents in let within = room.within in omega arith
    by_id s false room rest = let contents = room.contents in let within = room.within in omega arith

    by_place : (b : Bool) (read : Result SectionRecord BadFile) → section_at file at ≡ read → ((next : ℕ) → size_of (first_with id (those fuel file next)) ≤ length file - next)
        → size_of (first_with id (values (if b then with_rest read (sections_within fuel file) else []))) ≤ length file - at
    by_place false read is rests = omega arith
    by_place true (Err e) is rests = omega arith
    by_place true (Ok s) is rests = by_id s (s.id == id) (has_room file at s is) (rests (s.place + s.len))

-- The contents of two sections fit together.
two_fit : (a b fuel : ℕ) (file : List ℕ) (at : ℕ) → nat_eq a b ≡ false → size_of (first_with a (those fuel file at)) + size_of (first_with b (those fuel file at)) ≤ length file - at
unfolding sections_within
two_fit a b zero file at apart = omega arith
two_fit a b (suc fuel) file at apart = by_place (nat_lt at (length file)) (section_at file at) refl (λ next. two_fit a b fuel file next apart)
  where
    by_id : (s : SectionRecord) (p q : Bool) → (s.id == a) ≡ p → (s.id == b) ≡ q → HasRoom file at s
        → size_of (first_with a (those fuel file (s.place + s.len))) + size_of (first_with b (those fuel file (s.place + s.len))) ≤ length file - (s.place + s.len)
        → size_of (if p then Some s.contents else first_with a (those fuel file (s.place + s.len))) + size_of (if q then Some s.contents else first_with b (those fuel file (s.place + s.len))) ≤ length file - at
    by_id s true true is_a is_b room rest = absurd (both s.id is_a is_b)
      where
        both : (id : ℕ) → (id == a) ≡ true → (id == b) ≡ true → ⊥
        both id e f = grind (arith, common_steps)
    by_id s true false is_a is_b room rest = let contents = room.contents in let within = room.within in let other = one_fits b fuel file (s.place + s.len) in omega arith
    by_id s false true is_a is_b room rest = let contents = room.contents in let within = room.within in let other = one_fits a fuel file (s.place + s.len) in omega arith
    by_id s false false is_a is_b room rest = let contents = room.contents in let within = room.within in omega arith

    by_place : (c : Bool) (read : Result SectionRecord BadFile) → section_at file at ≡ read
        → ((next : ℕ) → size_of (first_with a (those fuel file next)) + size_of (first_with b (those fuel file next)) ≤ length file - next)
        → size_of (first_with a (values (if c then with_rest read (sections_within fuel file) else []))) + size_of (first_with b (values (if c then with_rest read (sections_within fuel file) else []))) ≤ length file - at
    by_place false read is rests = omega arith
    by_place true (Err e) is rests = omega arith
    by_place true (Ok s) is rests = by_id s (s.id == a) (s.id == b) refl refl (has_room file at s is) (rests (s.place + s.len))

-- The functions of a module have fewer than 2^32 indices.
pub functions_fit : (file : List ℕ) (first : ℕ) → IsOpened file → first ≡ function_count (imports_of file) → first + length (values (extents_of file)) < 2 ^ 32
unfolding sections_from
functions_fit file first opened is =
    let small = opened.small in
    let imports = imports_few (first_with IMPORT (sections_of file)) in
    let bodies = bodies_few (first_with CODE (sections_of file)) in
    let both = two_fit IMPORT CODE (length file - 8) file 8 refl in
    omega arith
