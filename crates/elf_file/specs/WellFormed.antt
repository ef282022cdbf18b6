-- What is known of an ELF file whose checks hold.
use Rattle.std.specs.Prelude.{◌≡◌, ◌≢◌, ℕ, ◌+◌, ◌^◌, ◌<◌, ◌≤◌, bit_and, List, length, Some, false, true}
use Rattle.elf_file.specs.declared.constants.TheConstants.{SHF_ALLOC, PT_LOAD}
use Rattle.elf_file.specs.Layout.{encoding_of, header_len, section_len, segment_len}
use Rattle.elf_file.specs.Tables.{section_at, section_count, segment_count, segment_at, is_null, has_bytes, name_index}
use Rattle.elf_file.specs.Names.{name_of, name_text, is_unnamed}

-- A well-formed ELF file: each table and the bytes of each section lie in the file, each section name has
-- its terminating zero byte, and no address range ends after 2^64.
pub record IsWellFormed (file : List ℕ) : Type 0 where
  pub header : header_len (encoding_of file) ≤ length file
  pub section_headers : (i : ℕ) → i < section_count file → (section_at file i).place + section_len (encoding_of file) ≤ length file
  pub segment_headers : (i : ℕ) → i < segment_count file → (segment_at file i).place + segment_len (encoding_of file) ≤ length file
  pub section_contents : (i : ℕ) → i < section_count file → has_bytes file i ≡ true → (section_at file i).size ≢ 0
      → (section_at file i).offset + (section_at file i).size ≤ length file
  pub section_addresses : (i : ℕ) → i < section_count file → is_null file i ≡ false → bit_and (section_at file i).flags SHF_ALLOC ≢ 0
      → (section_at file i).addr + (section_at file i).size ≤ 2 ^ 64
  pub name_table : name_index file ≢ 0 → name_index file < section_count file
  pub names : (i : ℕ) → i < section_count file → is_unnamed file i ≡ false → name_text file i ≡ Some (name_of file i)
  pub segment_addresses : (i : ℕ) → i < segment_count file → (segment_at file i).kind ≡ PT_LOAD
      → (segment_at file i).vaddr + (segment_at file i).memsz ≤ 2 ^ 64
