-- An opened file, as the definitions of sizes see it.
use Rattle.std.specs.Prelude.{ℕ, List, length, codes}
use Rattle.size_model.specs.declared.view.FileView.{FileView}
use Rattle.size_model.specs.declared.view.SourceView.{SourceView}
use Rattle.data_sources.specs.declared.binary.Binary.{Binary}
use Rattle.data_sources.specs.Groups.{bytes_of}
use Rattle.data_sources.specs.Loads.{loads_of}

-- The label of the bytes and addresses that no claim covers.
abbrev pub unmapped : List ℕ
unmapped = codes "[Unmapped]"

-- The opened file with these data sources: its length, its loads and the sources.
abbrev pub view_of : Binary → List SourceView → FileView
view_of binary sources = record { len = length (bytes_of binary); loads = loads_of binary; sources = sources }
