-- A symbol table that was opened has no fault of its own.
use Rattle.std.proofs.Common.{◌≡◌, ℕ, List, ◌==◌, true, Ok, Err, refl, arith}
use Rattle.std.proofs.lemmas.Grind.{common_steps}
use Rattle.size_core.specs.Checks.{◌>>◌, Check}
use Rattle.elf_file.specs.Tables.{section_at}
use Rattle.elf_symbols.specs.Symbols.{Table, table_at}
use Rattle.elf_claims.specs.SymbolClaims.{claims_of_type, symbol_list, table_claims}

same-table : (check : Check) (t u : Table) → Ok t ≡ (check >> Ok u) → t ≡ u
same-table (Ok x) t u e = cc e
same-table (Err b) t u e = cc e

-- the table that was opened is the table of the section
pub opened-table : (file : List ℕ) (i : ℕ) (t : Table) → Ok t ≡ table_at file i → t ≡ record { file = file; index = i }
unfolding table_at
opened-table file i t e = same-table _ t (record { file = file; index = i }) e

same-number : (k : ℕ) → (k == k) ≡ true
same-number k = grind (arith, common_steps)

-- if the section has the type, its claims are those of the symbols
pub claims-are : (file : List ℕ) (kind i : ℕ) (t : Table) → (section_at file i).kind ≡ kind → Ok t ≡ table_at file i → claims_of_type kind file i ≡ symbol_list file t.index
unfolding claims_of_type table_claims
claims-are file kind i t same e = rw (same, same-number kind, ← e, opened-table file i t e) refl
