-- The command that parses the command line, as clap's definitions of a simple command see it.
use Rattle.std.specs.Prelude.{ℕ, Bool, List, [], ◌∷◌, Some, true, codes}
use Rattle.clap.specs.Words.{App, Kinds, Row, Rule, Text, fault_of, matches_of, new_rule, takes, with_rule}
use Rattle.clap.specs.Simple.{new_shape}
use Rattle.clap.specs.declared.builder.ArgAction.TheVariants.{Append, SetTrue}

-- An option with one letter and a value.
abbrev pub letter_option : ℕ → Text → Rule
letter_option letter id = record (new_rule id) { short = Some letter }

-- An option with a long name and a value.
abbrev pub word_option : Text → Rule
word_option id = record (new_rule id) { long = Some id }

-- A flag with one letter.
abbrev pub letter_flag : ℕ → Text → Rule
letter_flag letter id = record (new_rule id) { short = Some letter; action = Some SetTrue }

-- A flag with a long name.
abbrev pub word_flag : Text → Rule
word_flag id = record (new_rule id) { long = Some id; action = Some SetTrue }

-- Any number of files, each a separate argument.
abbrev pub file_words : Rule
file_words = record (new_rule (codes "FILE")) { action = Some Append }

-- The command with these arguments added.
abbrev pub with_rules : App → List Rule → App
with_rules a [] = a
with_rules a (r ∷ rs) = with_rules (with_rule a r) rs

-- The options `-d`, `-n`, `-s` and `--domain`.
abbrev pub row_rules : List Rule
row_rules = letter_option 100 (codes "sources") ∷ letter_option 110 (codes "limit")
    ∷ letter_option 115 (codes "sort") ∷ word_option (codes "domain") ∷ []

-- The flags `-w`, `--csv` and `--tsv`.
abbrev pub report_rules : List Rule
report_rules = letter_flag 119 (codes "wide") ∷ word_flag (codes "csv") ∷ word_flag (codes "tsv") ∷ []

-- The options `-c` and `--source-filter`.
abbrev pub label_rules : List Rule
label_rules = letter_option 99 (codes "config") ∷ word_option (codes "source-filter") ∷ []

-- The options `--debug-file`, `--debug-fileoff` and `--debug-vmaddr`.
abbrev pub debug_rules : List Rule
debug_rules = word_option (codes "debug-file") ∷ word_option (codes "debug-fileoff") ∷ word_option (codes "debug-vmaddr") ∷ []

-- The option `--synth`, and the files.
abbrev pub file_rules : List Rule
file_rules = word_option (codes "synth") ∷ file_words ∷ []

-- A command without arguments. The program's name isn't passed to it, and it has no flags for help and for the
-- version.
abbrev pub bare_app : App
bare_app = record {
  top = record (new_shape (codes "bloaty")) {
    no_binary_name = true;
    disable_help_flag = true;
    disable_version_flag = true;
  };
  subs = [];
}

-- The command that parses the command line.
unfoldable pub profile_app : App
profile_app = with_rules (with_rules (with_rules (with_rules (with_rules bare_app row_rules) report_rules) label_rules) debug_rules) file_rules

-- The matches that clap's definition of a simple command gives for these arguments.
unfoldable pub rows_by : List Text → List Row
rows_by words = matches_of profile_app words

-- Whether clap's definition parses these arguments. A failed allocation can still keep them from being parsed.
unfoldable pub takes_words : List Text → Bool
takes_words words = takes profile_app words

-- The kinds of error that clap's definition gives for these arguments: none if they are parsed.
unfoldable pub errors_of : List Text → Kinds
errors_of words = fault_of profile_app words
