-- The symbols of a table lie in the file.
use Rattle.std.proofs.Common.{◌≡◌, ◌≢◌, ℕ, ◌+◌, ◌<◌, ◌≤◌, ◌⊎◌, List, length, true, inl, inr, arith}
use Rattle.std.proofs.lemmas.Grind.{common_steps}
use Rattle.elf_file.specs.Tables.{section_at, has_bytes}
use Rattle.elf_file.specs.WellFormed.{IsWellFormed}
use Rattle.elf_symbols.specs.declared.constants.TheConstants.{SHT_SYMTAB, SHT_DYNSYM}
use Rattle.elf_symbols.specs.Symbols.{IsSymbolTable}

has_some : (file : List ℕ) (i : ℕ) → 0 < i → ((section_at file i).kind ≡ SHT_SYMTAB) ⊎ ((section_at file i).kind ≡ SHT_DYNSYM) → has_bytes file i ≡ true
has_some file i above (inl k) = grind (arith, common_steps)
has_some file i above (inr k) = grind (arith, common_steps)

-- The bytes of a table of symbols lie in the file.
pub table_within : (file : List ℕ) (i : ℕ) → IsWellFormed file → IsSymbolTable file i → (section_at file i).size ≢ 0
    → (section_at file i).offset + (section_at file i).size ≤ length file
table_within file i known table some = known.section_contents i table.below (has_some file i table.above table.kind) some
