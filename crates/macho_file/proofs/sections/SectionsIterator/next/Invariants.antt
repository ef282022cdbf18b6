use Rattle.std.proofs.Common.{◌≡◌, ◌+◌, ◌*◌, ◌≤◌, length}
use Rattle.macho_file.specs.Commands.{section_len}
use Rattle.macho_file.proofs.SectionLemmas.{to_come}
use Rattle.macho_file.proofs.sections.SectionsIterator.next.Given as goal

abbrev pub invariant-rows : goal.invariant-rows
invariant-rows l = let now = l.self-inside in let first = l.initial.self-inside in record {
  file_is : now.walk.file ≡ l.file;
  same : to_come l.file now.form now.place now.left now.walk.rest ≡ to_come l.file first.form first.place first.left first.walk.rest;
  room : now.place + now.left * section_len now.form ≤ length l.file;
}

abbrev pub decreases-rows : goal.decreases-rows
decreases-rows l = length l.self-inside.walk.rest
