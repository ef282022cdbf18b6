-- Which files a run reads, in which order, and how many bytes it reads of them.
use Rattle.std.specs.Prelude.{ℕ, zero, suc, ◌+◌, ◌-◌, ◌<◌, ⊤, nat_lt, if◌then◌else◌, List, [], ◌∷◌, ◌++◌, length, slice_get, Option, None, Some, Result, Ok, Err}
use Rattle.size_core.specs.declared.limits.Limits.{Limits}
use Rattle.elf_synth.specs.Made.{made}
use Rattle.size_options.specs.declared.run_options.Options.{Options}
use Rattle.size_options.specs.declared.errors.UsageKind.{UsageKind}
use Rattle.run_outcome.specs.Names.{name_at, other_names}
use Rattle.bloaty_engine.specs.Verdict.{config_limit, next_limit, total_limit}

-- The configuration, if there is one.
abbrev pub config_names : Option (List ℕ) → List (List ℕ)
config_names None = []
config_names (Some name) = name ∷ []

-- The files that are read. A synthetic file isn't.
abbrev pub unmade_names : Option ℕ → List (List ℕ) → List (List ℕ)
unmade_names None files = files
unmade_names (Some n) files = []

-- File k + 1 isn't synthetic. A synthetic file isn't read.
abbrev pub IsUnmade : Option ℕ → ℕ → Type 0
IsUnmade None k = ⊤
IsUnmade (Some n) k = 0 < k

-- The files, and then the debug file or the base files.
abbrev pub files_to_read : Options → List (List ℕ)
files_to_read o = unmade_names o.synth o.files ++ other_names o

-- The configuration, and then the files of `files_to_read`.
abbrev pub names_to_read : Options → List (List ℕ)
names_to_read o = config_names o.config ++ files_to_read o

-- The length of the synthetic file in bytes. It counts for the limit of all files, though it isn't read.
abbrev pub made_len : Option ℕ → ℕ
made_len None = 0
made_len (Some n) = length (made n)

-- A lower bound for the bytes that are read before file i is found too long, if the files don't report what they hold.
-- A synthetic file isn't read, but it leaves less for the files after it.
abbrev pub least_taken : Limits → Option ℕ → ℕ → ℕ
least_taken limits synth zero = config_limit limits + 1
least_taken limits (Some n) (suc zero) = 0
least_taken limits synth (suc k) = next_limit limits (made_len synth) + 1

-- Files that are read one after the other.
--
-- names: Their names in order.
-- name_of: The name of each by its number.
-- upto: For each number, how many of the names are those of files with at most this number.
-- least: For each number, a lower bound for the bytes that are read before that file is found too long.
-- most: An upper bound for the bytes that are read of all files together.
pub record Reading : Type 0 where
  pub names : List (List ℕ)
  pub name_of : ℕ → Option (List ℕ)
  pub upto : ℕ → ℕ
  pub least : ℕ → ℕ
  pub most : ℕ

-- The name of file i, if the first of these names is that of file `first`.
abbrev pub numbered : ℕ → List (List ℕ) → ℕ → Option (List ℕ)
numbered first names i = if nat_lt i first then None else slice_get names (i - first)

-- Files of these names, the first of them with number `first`. At least `least` bytes are read before one is found too
-- long, and at most `most` bytes of all.
abbrev pub reading_from : ℕ → List (List ℕ) → ℕ → ℕ → Reading
reading_from first names least most =
    record { names = names; name_of = numbered first names; upto = λ i. i + 1 - first; least = λ i. least; most = most }

-- The file of this number and name. At most one byte more than the limit is read of it.
abbrev pub file_reading : ℕ → List ℕ → ℕ → Reading
file_reading number name limit = reading_from number (name ∷ []) (limit + 1) (limit + 1)

-- How many of the files from 1 to i are read. A synthetic file, which is file 1, isn't.
abbrev pub read_upto : Option ℕ → ℕ → ℕ
read_upto None i = i
read_upto (Some n) i = i - 1

-- The most bytes that are read of all files but the configuration: one more than the limit leaves after the synthetic
-- file.
abbrev pub files_most : Limits → Option ℕ → ℕ
files_most limits synth = total_limit limits - made_len synth + 1

-- Files of these names, of a run with these options.
abbrev pub reading_for : Limits → Options → List (List ℕ) → Reading
reading_for limits o names = record {
  names = names;
  name_of = name_at o;
  upto = read_upto o.synth;
  least = least_taken limits o.synth;
  most = files_most limits o.synth;
}

-- The most bytes that are read of the configuration, if there is one: one more than its limit.
abbrev pub config_most : Limits → Option (List ℕ) → ℕ
config_most limits None = 0
config_most limits (Some name) = config_limit limits + 1

-- How many of the names are those of the configuration and of the files up to file i.
abbrev pub run_upto : Options → ℕ → ℕ
run_upto o i = length (config_names o.config) + read_upto o.synth i

-- The configuration of a run with these options.
abbrev pub config_reading : Limits → Options → Reading
config_reading limits o = record {
  names = config_names o.config;
  name_of = name_at o;
  upto = run_upto o;
  least = least_taken limits o.synth;
  most = config_most limits o.config;
}

-- All files that a run reads, by the result of parsing its arguments.
abbrev pub run_reading : Limits → Result Options UsageKind → Reading
run_reading limits (Ok o) = record {
  names = names_to_read o;
  name_of = name_at o;
  upto = run_upto o;
  least = least_taken limits o.synth;
  most = config_most limits o.config + files_most limits o.synth;
}
run_reading limits (Err kind) = reading_from 0 [] 0 0
