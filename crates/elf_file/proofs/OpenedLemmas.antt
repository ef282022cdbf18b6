-- The checks of a file, step by step.
use Rattle.std.proofs.Common.{◌≡◌, ◌≢◌, ℕ, ◌+◌, ◌^◌, ◌<◌, ◌≤◌, List, length, true, false, Some, Ok, Err, refl, subst, arith}
use Rattle.std.proofs.lemmas.Grind.{common_steps}
use Rattle.std.specs.Prelude.{Result, MatchResult, bit_and}
use Rattle.size_core.specs.declared.fault.BadFile.{BadFile}
use Rattle.size_core.specs.Checks.{◌>>◌, Check, first_of, AllHold, IsFirstFault}
use Rattle.size_core.proofs.FirstFault.{first_of_append, each_is, means}
use Rattle.byte_cursor.specs.declared.encoding.Encoding.{Encoding}
use Rattle.elf_file.specs.declared.constants.TheConstants.{SHF_ALLOC, PT_LOAD}
use Rattle.elf_file.specs.Layout.{encoding_of, section_len, segment_len}
use Rattle.elf_file.specs.Tables.{section_at, section_count, segment_at, segment_count, is_null, has_bytes}
use Rattle.elf_file.specs.Names.{is_unnamed, name_of, name_text}
use Rattle.elf_file.specs.ElfChecks.{opened, elf_checks, header_checks, section_table_checks, segment_table_checks, name_table_checks, section_fits, section_has_name, segment_fits}
use Rattle.elf_file.specs.Known.{HasSections, HasSegments, IsOpened, sections_fit, sections_have_names, segments_fit}
use Rattle.elf_file.specs.WellFormed.{IsWellFormed}
use Rattle.elf_file.proofs.KnownLemmas.{fits_at, named_at, loaded_at}

-- The file or its first fault, as the steps of opening it find them.
pub opened_is : (file : List ℕ) → opened file ≡ (first_of (header_checks file) >> first_of (section_table_checks file) >> first_of (segment_table_checks file)
    >> first_of (name_table_checks file) >> sections_fit file >> sections_have_names file >> segments_fit file >> Ok file)
unfolding elf_checks
opened_is file = simp (first_of_append, each_is)

-- The result of opening a file is Ok exactly if its checks hold, and otherwise the first fault.
pub means_opened : (file : List ℕ) (r : Result (List ℕ) BadFile) → r ≡ opened file → MatchResult r (λ _. AllHold (elf_checks file)) (IsFirstFault (elf_checks file))
means_opened file r e = answers r (first_of (elf_checks file)) e (means (first_of (elf_checks file)) (elf_checks file) refl)
  where
    answers : (r : Result (List ℕ) BadFile) (c : Check) → r ≡ (c >> Ok file) → MatchResult c (λ _. AllHold (elf_checks file)) (IsFirstFault (elf_checks file))
        → MatchResult r (λ _. AllHold (elf_checks file)) (IsFirstFault (elf_checks file))
    answers (Ok x) (Ok y) e h = h
    answers (Ok x) (Err f) e h = cc
    answers (Err f) (Ok y) e h = cc
    answers (Err f) (Err g) e h =
        let same : g ≡ f = cc in
        subst (IsFirstFault (elf_checks file)) same h

-- A section that is not null isn't section 0.
above : (file : List ℕ) (i : ℕ) → is_null file i ≡ false → 0 < i
above file i counts = grind (arith, common_steps)

section_within : (file : List ℕ) (e : Encoding) (sections i : ℕ) → HasSections file e sections → i < section_count file
    → (section_at file i).place + section_len (encoding_of file) ≤ length file
unfolding section_at
section_within file e sections i known lt = grind (arith, common_steps, known.table, known.sections_are)

segment_within : (file : List ℕ) (e : Encoding) (segments i : ℕ) → HasSegments file e segments → i < segment_count file
    → (segment_at file i).place + segment_len (encoding_of file) ≤ length file
unfolding segment_at
segment_within file e segments i known lt = grind (arith, common_steps, known.table, known.segments_are)

contents_within : (file : List ℕ) (i : ℕ) → section_fits file i ≡ Ok tt → has_bytes file i ≡ true → (section_at file i).size ≢ 0
    → (section_at file i).offset + (section_at file i).size ≤ length file
unfolding section_fits
contents_within file i fits has some = grind (arith, common_steps)

addresses_within : (file : List ℕ) (i : ℕ) → section_fits file i ≡ Ok tt → is_null file i ≡ false → bit_and (section_at file i).flags SHF_ALLOC ≢ 0
    → (section_at file i).addr + (section_at file i).size ≤ 2 ^ 64
unfolding section_fits
addresses_within file i fits counts loaded = grind (arith, common_steps)

counts : (file : List ℕ) (i : ℕ) → has_bytes file i ≡ true → is_null file i ≡ false
counts file i has = grind (arith, common_steps)

name_there : (file : List ℕ) (i : ℕ) → section_has_name file i ≡ Ok tt → is_unnamed file i ≡ false → name_text file i ≡ Some (name_of file i)
unfolding section_has_name name_of
name_there file i named is = grind (arith, common_steps)

load_within : (file : List ℕ) (i : ℕ) → segment_fits file i ≡ Ok tt → (segment_at file i).kind ≡ PT_LOAD
    → (segment_at file i).vaddr + (segment_at file i).memsz ≤ 2 ^ 64
unfolding segment_fits
load_within file i fits loaded = grind (arith, common_steps)

-- An opened file is well formed.
pub is_well_formed : (file : List ℕ) (e : Encoding) (sections segments index : ℕ) (names : List ℕ) → IsOpened file e sections segments index names → IsWellFormed file
is_well_formed file e sections segments index names opened = record {
  header = rw (← opened.section_table.header.encoding_is) opened.section_table.header.whole;
  section_headers = λ i lt. section_within file e sections i opened.section_table lt;
  segment_headers = λ i lt. segment_within file e segments i opened.segment_table lt;
  section_contents = λ i lt has some. contents_within file i (fits_at file i opened.fit (above file i (counts file i has)) lt) has some;
  section_addresses = λ i lt counts loaded. addresses_within file i (fits_at file i opened.fit (above file i counts) lt) counts loaded;
  name_table = λ some. grind (arith, common_steps, opened.name_table.below, opened.name_table.index_is, opened.section_table.sections_are);
  names = λ i lt named. name_there file i (named_at file i opened.named (above file i (named_counts file i named)) lt) named;
  segment_addresses = λ i lt loaded. load_within file i (loaded_at file i opened.loads_fit lt) loaded;
}
  where
    named_counts : (file : List ℕ) (i : ℕ) → is_unnamed file i ≡ false → is_null file i ≡ false
    named_counts file i named = grind (arith, common_steps)
