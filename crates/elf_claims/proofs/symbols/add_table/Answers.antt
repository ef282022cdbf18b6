-- The table's claims are those of its symbols.
use Rattle.std.proofs.Common.{◌≡◌, ◌∙◌, sym, ap}
use Rattle.elf_file.specs.declared.section.SectionHeader.{SectionHeader}
use Rattle.elf_file.specs.Tables.{section_at}
use Rattle.elf_symbols.specs.Symbols.{Table}
use Rattle.elf_claims.proofs.TableLemmas.{claims-are, opened-table}
use Rattle.elf_claims.proofs.symbols.add_table.Goals as goal

pub add_table_symbols-requires-clause-file : goal.add_table_symbols-requires-clause-file
add_table_symbols-requires-clause-file c = ap (λ (t : Table). t.file) (opened-table c.args.file.now c.args.i c.in_ok-table.table c.in_ok-table.ensures)

pub returns-clause-adds : goal.returns-clause-adds
returns-clause-adds c =
    let kind : (section_at c.args.file.now c.args.i).kind ≡ c.args.kind = ap (λ (s : SectionHeader). s.kind) (sym c.section.ensures.numbers) ∙ c.if-section-kind.false in
    let same = claims-are c.args.file.now c.args.kind c.args.i c.in_ok-table.table kind c.in_ok-table.ensures in
    rw same c.add_table_symbols.ensures.adds
