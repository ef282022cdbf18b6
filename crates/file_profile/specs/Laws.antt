-- A law of files that have a debug file.
use Rattle.std.specs.Prelude.{◌≡◌, ℕ, List, length, Ok}
use Rattle.size_model.specs.declared.view.FileView.{FileView}
use Rattle.data_sources.specs.declared.binary.Binary.{Binary}
use Rattle.data_sources.specs.Loads.{loads_of}
use Rattle.data_sources.specs.Opened.{opened}
use Rattle.file_profile.specs.PairViews.{pair_viewed}
use Rattle.file_profile.specs.Sources.{Chosen}

-- The counted bytes are those of this file, and the counted addresses are those of its loads.
pub record IsOfFile (file : List ℕ) (f : FileView) : Type 0 where
  pub len : f.len ≡ length file
  pub loads : (binary : Binary) → opened file ≡ Ok binary → f.loads ≡ loads_of binary

-- Only the file is counted, whatever its debug file is.
abbrev pub CountsFileAlone : Type 0
CountsFileAlone = (mapped limit : ℕ) (name file debug : List ℕ) (sources : List Chosen) (f : FileView)
    → pair_viewed mapped limit name file debug sources ≡ Ok f → IsOfFile file f
