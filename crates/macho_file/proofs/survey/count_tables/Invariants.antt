use Rattle.std.proofs.Common.{◌≡◌, ◌+◌, ◌<◌, ◌^◌, ◌==◌, length}
use Rattle.std.specs.List.{flat_map, find}
use Rattle.macho_records.specs.declared.constants.TheConstants.{LC_SYMTAB}
use Rattle.macho_file.specs.Symbols.{symbol_table}
use Rattle.macho_file.specs.Tables.{sections, sections_of, segments, segments_from}
use Rattle.macho_file.specs.Known.{IsSomeTable, or_else}
use Rattle.macho_file.proofs.survey.count_tables.Given as goal

abbrev pub invariant-rows : goal.invariant-rows
invariant-rows l = record {
  file_is : l.walk.file ≡ l.file;
  segments_are : l.found.segments + length (segments_from l.file l.found.sections l.walk.rest) ≡ length (segments l.file);
  sections_are : l.found.sections + length (flat_map (sections_of l.file) l.walk.rest) ≡ length (sections l.file);
  symtab_is : or_else l.found.symtab (find (λ c. c.kind == LC_SYMTAB) l.walk.rest) ≡ symbol_table l.file;
  inside : IsSomeTable l.file l.found.symtab;
  few_segments : l.found.segments + length l.walk.rest < 2 ^ 32;
  few_sections : length (sections l.file) < 2 ^ 32;
}

abbrev pub decreases-rows : goal.decreases-rows
decreases-rows l = length l.walk.rest
