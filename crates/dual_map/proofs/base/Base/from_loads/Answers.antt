use Rattle.std.proofs.Common.{◌≡◌, ◌∙◌, rules}
use Rattle.size_model.specs.Cut.{IsCut}
use Rattle.dual_map.specs.Layout.{load_of_offset, load_of_position}
use Rattle.dual_map.proofs.BaseLemmas.{offsets_cut, positions_cut, positions_end}
use Rattle.dual_map.proofs.base.Base.from_loads.Goals as goal

pub invariant_of-result : goal.invariant_of-result
invariant_of-result c =
    let len = c.args.file_len in
    let ls = c.args.loads.now in
    let offsets = c.in_ok-offsets.offsets in
    let positions = c.in_ok-positions.positions in
    let same : c.in_ok-to_vec.field-0.items ≡ ls = search rules in
    let ranges = c.as_slice-2.ensures.value ∙ c.in_ok-ranges-2.ensures.ranges in
    let f : IsCut (load_of_offset len ls) offsets = offsets_cut len ls c.as_slice.result.now offsets (c.as_slice.ensures.value ∙ c.in_ok-ranges.ensures.ranges) c.in_ok-offsets.ensures.laid in
    let g : IsCut (load_of_position ls) positions = positions_cut ls c.as_slice-2.result.now positions c.requires.loads_fit ranges c.in_ok-positions.ensures.laid in
    record {
      len_fits = c.requires.len_fits;
      loads_fit = rw same c.requires.loads_fit;
      offsets = rw same f;
      positions = rw same g;
      ends = positions_end ls positions c.requires.loads_fit (rw c.in_ok-ranges-2.ensures.ranges at c.in_ok-ranges-2.ensures.fits) (rw ranges at c.in_ok-positions.ensures.laid);
    }
