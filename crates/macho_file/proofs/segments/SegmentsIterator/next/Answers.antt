use Rattle.std.proofs.Common.{◌≡◌, ◌∙◌, ap, arith}
use Rattle.macho_file.specs.Commands.{section_count_of}
use Rattle.macho_file.proofs.SegmentLemmas.{sections_counted}
use Rattle.macho_file.proofs.segments.SegmentsIterator.next.Goals as goal

pub overflow_add-self : goal.overflow_add-self
overflow_add-self c =
    let walk = c.self.inside.walk in
    let counted = sections_counted walk.file walk.rest c.in_ok-command.command c.next_segment.new.walk.rest c.in_ok-command.ensures.step c.in_ok-command.ensures.kind in
    let count : c.segment_at-segment.result.count ≡ section_count_of walk.file c.in_ok-command.command =
    c.segment_at-segment.ensures.count ∙ ap (λ file. section_count_of file c.in_ok-command.command) (c.bytes.ensures.value ∙ c.next_segment.ensures.file) in
    omega (arith, counted, count, c.self.invariant)
