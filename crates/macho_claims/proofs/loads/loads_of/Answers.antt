-- The load of the next segment is pushed.
use Rattle.std.proofs.Common.{◌∙◌, ◌++◌, List, Option, ap, sym}
use Rattle.std.specs.Option.{option_to_list}
use Rattle.std.proofs.lemmas.List.Elements.{All-rest}
use Rattle.size_core.specs.declared.claim.Load.{Load}
use Rattle.macho_file.specs.Shown.{segment_shown}
use Rattle.macho_file.specs.Tables.{SegmentRecord}
use Rattle.macho_file.specs.WellFormed.{HasAddresses}
use Rattle.macho_claims.proofs.SegmentLemmas.{loads_among, loads_go}
use Rattle.macho_claims.proofs.loads.loads_of.Goals as goal

pub loop-segment-preserved : goal.loop-segment-preserved
loop-segment-preserved c =
    let front = c.loop-segment.loads.items in
    let next = segment_shown c.in-Some.segment in
    let rest : List SegmentRecord = c.next.new.self in
    let pushed = c.in_ok-push_load.ensures.pushed ∙ ap (λ (load : Option Load). front ++ option_to_list load) c.segment_load.ensures.load in record {
      are = loads_go front c.push_load.new.loads.items next rest pushed
          ∙ sym (ap (λ (left : List SegmentRecord). front ++ loads_among left) c.in-Some.ensures.steps)
          ∙ c.loop-segment.invariant.are;
      fit = c.in_ok-push_load.ensures.all;
      addresses = All-rest HasAddresses next rest c.loop-segment.segment-iterator c.in-Some.ensures.steps c.loop-segment.invariant.addresses;
    }
