use Rattle.std.proofs.Common.{◌≡◌, ◌-◌}
use Rattle.size_core.specs.Gather.{gather}
use Rattle.elf_file.specs.Layout.{encoding_of}
use Rattle.elf_file.specs.Tables.{segment_count}
use Rattle.debug_pair.specs.Areas.{HasNoId}
use Rattle.debug_pair.specs.Identities.{build_id, segment_area, segment_areas}
use Rattle.debug_pair.proofs.elf.build_id_in_segments.Given as goal

abbrev pub invariant-loop-i : goal.invariant-loop-i
invariant-loop-i l = record {
  rest : build_id (encoding_of l.file).order (gather (segment_area l.file) l.i (segment_count l.file - l.i)) ≡ build_id (encoding_of l.file).order (segment_areas l.file);
  last : HasNoId l.file l.last;
}
