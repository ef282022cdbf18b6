-- The properties of the parts of every base.
use Rattle.std.specs.Prelude.{◌<◌, ◌^◌, All}
use Rattle.size_model.specs.Cut.{IsCut}
use Rattle.size_model.specs.Loads.{IsLoad}
use Rattle.range_map.specs.Ranges.{EndsBy}
use Rattle.dual_map.specs.declared.base.Base.TheInside.{Inside}
use Rattle.dual_map.specs.Layout.{load_of_offset, load_of_position}

-- The properties of the parts of every base.
pub record IsBase (b : Inside) : Type 0 where
  pub len_fits : b.file_len < 2 ^ 63
  pub loads_fit : All IsLoad b.loads.items
  pub offsets : IsCut (load_of_offset b.file_len b.loads.items) b.offsets
  pub positions : IsCut (load_of_position b.loads.items) b.positions
  pub ends : EndsBy (2 ^ 96) b.positions
