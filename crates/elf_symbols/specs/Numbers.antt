-- The sections with extended section indexes, and their symbol tables (ELF gABI, Sections: Section Types,
-- SHT_SYMTAB_SHNDX).
use Rattle.std.specs.Prelude.{◌≡◌, ℕ, ◌-◌, ◌==◌, Bool, true, false, List, [], ◌∷◌, Option, None, Some, nat_lt, if◌then◌else◌}
use Rattle.std.specs.List.Sorted.{IsNonDecreasingBy, IsPartitionPoint}
use Rattle.size_core.specs.Gather.{gather}
use Rattle.elf_file.specs.Tables.{section_at, section_count}
use Rattle.elf_symbols.specs.declared.constants.TheConstants.{SHT_SYMTAB_SHNDX}
use Rattle.elf_symbols.specs.declared.numbers.TableNumbers.{TableNumbers}
use Rattle.elf_symbols.specs.Symbols.{numbers_index}

-- Section j with the symbol table that its sh_link names, if it has extended section indexes (gABI,
-- Sections: SHT_SYMTAB_SHNDX).
unfoldable pub numbers_at : List ℕ → ℕ → List TableNumbers
numbers_at file j =
    if (section_at file j).kind == SHT_SYMTAB_SHNDX then record { table = (section_at file j).link; section = j } ∷ []
    else []

-- All sections with extended section indexes, in file order (gABI, Sections: SHT_SYMTAB_SHNDX).
unfoldable pub all_numbers : List ℕ → List TableNumbers
all_numbers file = gather (numbers_at file) 1 (section_count file - 1)

-- The first of these sections that belongs to the table in section i (gABI, Sections: SHT_SYMTAB_SHNDX).
unfoldable pub first_for : ℕ → List TableNumbers → Option ℕ
first_for i [] = None
first_for i (n ∷ rest) = if n.table == i then Some n.section else first_for i rest

-- The sections are sorted by their symbol tables.
abbrev pub RiseByTable : List TableNumbers → Type 0
RiseByTable = IsNonDecreasingBy (λ n. n.table)

-- The symbol table of such a section comes before section i.
abbrev pub is_before : ℕ → TableNumbers → Bool
is_before i n = nat_lt n.table i

-- The first k of these sections belong to tables before section i, and the others don't.
abbrev pub AreBefore : ℕ → List TableNumbers → ℕ → Type 0
AreBefore i known k = IsPartitionPoint (λ n. is_before i n ≡ true) (λ n. is_before i n ≡ false) known k

-- The index of a file: the sections are sorted by their symbol tables, and the first of each table is the
-- first section of the file with its extended section indexes (gABI, Sections: SHT_SYMTAB_SHNDX).
pub record IsNumbersIndex (file : List ℕ) (known : List TableNumbers) : Type 0 where
  pub rises : RiseByTable known
  pub first : (i : ℕ) → first_for i known ≡ numbers_index file i
