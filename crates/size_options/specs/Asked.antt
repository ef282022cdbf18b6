-- The options that a command line gives, or its first error.
use Rattle.std.specs.Prelude.{Bool, not, ◌&&◌, ◌||◌, ◌==◌, List, [], ◌∷◌, Option, None, Some, Result, Ok, Err, codes, if◌then◌else◌, is_none, is_some, length, nat_lt, option_and_then, unwrap_or}
use Rattle.clap.specs.Words.{Text}
use Rattle.size_core.specs.declared.choices.Domain.TheVariants as domain
use Rattle.size_core.specs.declared.choices.Format.{Format}
use Rattle.size_core.specs.declared.choices.Format.TheVariants as format
use Rattle.size_core.specs.declared.choices.Sort.TheVariants as sort
use Rattle.size_options.specs.Command.{rows_by}
use Rattle.size_options.specs.Given.{GivenTexts, given_in}
use Rattle.size_options.specs.Values.{address_of, domain_of, is_bad, is_bad_list, names_in, number_of, offset_of, place_of, small_number_of, sort_of, value_or}
use Rattle.size_options.specs.Words.{base_words, ends_in_mark, has_mark, profile_words}
use Rattle.size_options.specs.declared.errors.UsageKind.{UsageKind}
use Rattle.size_options.specs.declared.errors.UsageKind.TheVariants.{BadNumber, BadSort, BadDomain, TwoFormats, BadSourceList, NoFile, SynthWithFile, NoBase, DebugFile, BadPlace, TwoPlaces, PlaceFile}
use Rattle.size_options.specs.declared.run_options.Options.{Options}

-- The names of the data sources: those of `-d`, or `sections` alone.
abbrev pub source_names : GivenTexts → List Text
source_names g = names_in (unwrap_or g.sources (codes "sections"))

-- Whether a debug file is given, and either there isn't exactly one file, or `--` is given.
abbrev pub is_unpaired : GivenTexts → Bool → Bool
is_unpaired g has_mark = is_some g.debug && (not (length g.files == 1) || has_mark)

-- Whether the value of an offset or of an address can't be parsed.
abbrev pub is_bad_place : GivenTexts → Bool
is_bad_place g = is_bad offset_of g.offset || is_bad address_of g.address

-- Whether an offset or an address is given together with a debug file, `--` or a second file.
abbrev pub is_place_beside : GivenTexts → Bool → Bool
is_place_beside g has_mark = (is_some g.offset || is_some g.address)
    && ((is_some g.debug || has_mark) || nat_lt 1 (length g.files))

-- The errors in the use of a debug file and of a location, each with its test.
abbrev pub debug_tests : GivenTexts → Bool → List (Bool × UsageKind)
debug_tests g has_mark = (is_unpaired g has_mark, DebugFile)
    ∷ (is_bad_place g, BadPlace)
    ∷ (is_some g.offset && is_some g.address, TwoPlaces)
    ∷ (is_place_beside g has_mark, PlaceFile) ∷ []

-- Each error with its test. The tests are tried in this order.
abbrev pub usage_tests : GivenTexts → Bool → Bool → List (Bool × UsageKind)
usage_tests g has_no_base has_mark = (is_bad number_of g.limit || is_bad small_number_of g.synth, BadNumber)
    ∷ (is_bad sort_of g.sort, BadSort)
    ∷ (is_bad domain_of g.domain, BadDomain)
    ∷ (g.csv && g.tsv, TwoFormats)
    ∷ (is_bad_list (source_names g), BadSourceList)
    ∷ (length g.files == 0 && is_none g.synth, NoFile)
    ∷ (not (length g.files == 0) && is_some g.synth, SynthWithFile)
    ∷ (has_no_base, NoBase) ∷ debug_tests g has_mark

-- The kind of the first test that holds.
abbrev pub first_usage : List (Bool × UsageKind) → Option UsageKind
first_usage [] = None
first_usage (p ∷ ps) = if p.0 then Some p.1 else first_usage ps

-- The format: CSV, TSV, or text if neither is given.
abbrev pub format_of : GivenTexts → Format
format_of g = if g.csv then format.Csv else (if g.tsv then format.Tsv else format.Text)

-- The given options, with defaults for the others, and these base files.
abbrev pub options_in : GivenTexts → List Text → Options
options_in g bases = record {
  sources = source_names g;
  limit = value_or number_of 20 g.limit;
  sort = value_or sort_of sort.Both g.sort;
  domain = value_or domain_of domain.Both g.domain;
  wide = g.wide;
  format = format_of g;
  filter = g.filter;
  config = g.config;
  debug = g.debug;
  place = place_of g.offset g.address;
  synth = option_and_then small_number_of g.synth;
  files = g.files;
  bases = bases;
}

-- The options, unless there is an error.
abbrev pub unless_usage : Option UsageKind → Options → Result Options UsageKind
unless_usage None options = Ok options
unless_usage (Some kind) options = Err kind

-- The arguments that the matches before `--` hold.
abbrev pub given_by : List Text → GivenTexts
given_by words = given_in (rows_by (profile_words words))

-- The options that a command line gives by clap's definition, or the first error other than arguments that
-- can't be parsed.
unfoldable pub asked : List Text → Result Options UsageKind
asked words = unless_usage (first_usage (usage_tests (given_by words) (ends_in_mark words) (has_mark words))) (options_in (given_by words) (base_words words))
