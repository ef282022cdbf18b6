use Rattle.std.proofs.Common.{rules}
use Rattle.elf_claims.proofs.dwarf_sections.is_compressed.Goals as goal

pub returns-then-section-ne0 : goal.returns-then-section-ne0
returns-then-section-ne0 c = search rules
