-- The names of a run's files by number. The configuration is file 0. The files of the command line are numbered from 1, and
-- a debug file or the base files follow them.
use Rattle.std.specs.Prelude.{ℕ, zero, suc, List, [], ◌∷◌, ◌++◌, codes, slice_get, unwrap_or, Option, None, Some, Result, Ok, Err}
use Rattle.size_options.specs.declared.run_options.Options.{Options}
use Rattle.size_options.specs.declared.errors.UsageKind.{UsageKind}

-- The names of the files, or `synth` for a synthetic file.
abbrev pub names_of : Option ℕ → List (List ℕ) → List (List ℕ)
names_of None files = files
names_of (Some n) files = codes "synth" ∷ []

-- The names of the files.
abbrev pub file_names : Options → List (List ℕ)
file_names o = names_of o.synth o.files

-- The names of the files, and then those of the base files.
abbrev pub side_names : Options → List (List ℕ)
side_names o = file_names o ++ o.bases

-- The name of the debug file, if there is one.
abbrev pub debug_names : Option (List ℕ) → List (List ℕ)
debug_names None = []
debug_names (Some name) = name ∷ []

-- The names that follow those of the files. A run has a debug file or base files, and not both.
abbrev pub other_names : Options → List (List ℕ)
other_names o = debug_names o.debug ++ o.bases

-- The names of all files in the order of their numbers, from 1 on: the files, and then the debug file or the base
-- files.
abbrev pub all_names : Options → List (List ℕ)
all_names o = file_names o ++ other_names o

-- The name of the file with this number, if there is such a file.
abbrev pub name_at : Options → ℕ → Option (List ℕ)
name_at o zero = o.config
name_at o (suc k) = slice_get (all_names o) k

-- The name of the file with this number. Empty if there is no such file, and after a usage error.
abbrev pub file_name : Result Options UsageKind → ℕ → List ℕ
file_name (Err kind) i = []
file_name (Ok o) i = unwrap_or (name_at o i) []

-- The name of the data source with this number, counted from 1. Empty if there is none, and after a usage error.
abbrev pub source_name : Result Options UsageKind → ℕ → List ℕ
source_name (Err kind) i = []
source_name (Ok o) zero = []
source_name (Ok o) (suc k) = unwrap_or (slice_get o.sources k) []
