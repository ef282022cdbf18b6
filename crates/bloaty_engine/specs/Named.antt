-- The bytes of a run's files by number.
use Rattle.std.specs.Prelude.{◌≡◌, ℕ, ◌+◌, List, [], length, slice_get, Option, None, Some, ⊤}
use Rattle.outside.specs.Held.{Pairs, held_bytes, IsHeld}
use Rattle.elf_synth.specs.Made.{made}
use Rattle.size_options.specs.declared.run_options.Options.{Options}
use Rattle.run_outcome.specs.Names.{file_names, other_names}

-- The bytes of the configuration, and those of each file by its number.
pub record Contents : Type 0 where
  pub config : List ℕ
  pub files : ℕ → List ℕ

-- A configuration with this text, without files.
abbrev pub config_alone : List ℕ → Contents
config_alone text = record { config = text; files = λ i. [] }

-- The configuration, if there is one, has the bytes that its name holds, if the files report them.
abbrev pub IsText : Option Pairs → Option (List ℕ) → List ℕ → Type 0
IsText held None text = ⊤
IsText held (Some name) text = IsHeld held name text

-- The same for files that are read, the first of them with number `first`.
abbrev pub AreHeld : Option Pairs → ℕ → List (List ℕ) → (ℕ → List ℕ) → Type 0
AreHeld None first names files = ⊤
AreHeld (Some pairs) first names files = (k : ℕ) (name : List ℕ) → slice_get names k ≡ Some name → files (first + k) ≡ held_bytes pairs name

-- A synthetic file has the bytes of its number of functions. The others are read.
abbrev pub AreFiles : Option Pairs → Option ℕ → List (List ℕ) → (ℕ → List ℕ) → Type 0
AreFiles held None names files = AreHeld held 1 names files
AreFiles held (Some n) names files = files 1 ≡ made n

-- The files of a run have these bytes, and so have the debug file or the base files, whose numbers follow.
abbrev pub AreInputs : Option Pairs → Options → (ℕ → List ℕ) → Type 0
AreInputs held o files = AreFiles held o.synth o.files files × AreHeld held (length (file_names o) + 1) (other_names o) files

-- These are the bytes of the configuration and of the files.
pub record AreContents (held : Option Pairs) (o : Options) (c : Contents) : Type 0 where
  pub config : IsText held o.config c.config
  pub files : AreFiles held o.synth o.files c.files
  pub others : AreHeld held (length (file_names o) + 1) (other_names o) c.files
