-- The report that explains one byte of a file.
use Rattle.std.specs.Prelude.{⊤, ℕ, List}
use Rattle.size_core.specs.declared.limits.Limits.{Limits}
use Rattle.file_profile.specs.Explanations.{ExplainsPath}
use Rattle.bloaty_engine.specs.Verdict.{Counted, Explained, Finding, Request, first_name}

-- The explanations, if the report is about one byte, explain the byte's path in this file: They are those of the data sources of
-- `-d`, and their labels are the path of the byte in a report of sizes.
abbrev pub ExplainsFile : Limits → Request → List ℕ → Finding → Type 0
ExplainsFile limits r file (Counted s) = ⊤
ExplainsFile limits r file (Explained place explained) =
    ExplainsPath limits.claims place (first_name r.options) file r.options.sources r.sources explained
