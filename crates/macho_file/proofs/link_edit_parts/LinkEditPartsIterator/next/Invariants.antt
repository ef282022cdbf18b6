use Rattle.std.proofs.Common.{◌≡◌, length}
use Rattle.macho_file.specs.Known.{IsSomeInside}
use Rattle.macho_file.proofs.PartLemmas.{to_come}
use Rattle.macho_file.proofs.link_edit_parts.LinkEditPartsIterator.next.Given as goal

abbrev pub invariant-rows : goal.invariant-rows
invariant-rows l = let now = l.self-inside in let first = l.initial.self-inside in record {
  file_is : now.walk.file ≡ l.file;
  same : to_come l.file now.command now.next now.walk.rest ≡ to_come l.file first.command first.next first.walk.rest;
  inside : IsSomeInside l.file now.command;
}

abbrev pub decreases-rows : goal.decreases-rows
decreases-rows l = length l.self-inside.walk.rest
