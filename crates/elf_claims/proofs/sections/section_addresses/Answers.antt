use Rattle.std.proofs.Common.{rules}
use Rattle.elf_claims.proofs.sections.section_addresses.Goals as goal

pub returns-then-is_relocatable : goal.returns-then-is_relocatable
returns-then-is_relocatable c = search rules
