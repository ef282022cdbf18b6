-- What the matches hold, argument by argument.
use Rattle.std.specs.Prelude.{Bool, false, List, [], Option, codes, map, option_map, unwrap_or}
use Rattle.std.specs.Option.{option_map_or}
use Rattle.std.specs.Str.{bytes_eq}
use Rattle.clap.specs.Words.{Row, Text, all_of, first_of}
use Rattle.size_options.specs.declared.given.Given.{Given}

-- The text of each option that is given, the flags that are given, and the files.
pub record GivenTexts : Type 0 where
  pub sources : Option Text
  pub limit : Option Text
  pub sort : Option Text
  pub domain : Option Text
  pub wide : Bool
  pub csv : Bool
  pub tsv : Bool
  pub config : Option Text
  pub filter : Option Text
  pub debug : Option Text
  pub offset : Option Text
  pub address : Option Text
  pub synth : Option Text
  pub files : List Text

-- Whether a flag is given. The matches then have `true` for it.
abbrev pub is_on : Text → List Row → Bool
is_on id rows = option_map_or (λ v. bytes_eq v (codes "true")) (first_of id rows) false

-- The arguments that rows of matches hold.
abbrev pub given_in : List Row → GivenTexts
given_in rows = record {
  sources = first_of (codes "sources") rows;
  limit = first_of (codes "limit") rows;
  sort = first_of (codes "sort") rows;
  domain = first_of (codes "domain") rows;
  wide = is_on (codes "wide") rows;
  csv = is_on (codes "csv") rows;
  tsv = is_on (codes "tsv") rows;
  config = first_of (codes "config") rows;
  filter = first_of (codes "source-filter") rows;
  debug = first_of (codes "debug-file") rows;
  offset = first_of (codes "debug-fileoff") rows;
  address = first_of (codes "debug-vmaddr") rows;
  synth = first_of (codes "synth") rows;
  files = unwrap_or (all_of (codes "FILE") rows) [];
}

-- The same for a value that borrows its texts.
abbrev pub texts_of : Given → GivenTexts
texts_of g = record {
  sources = option_map (λ s. s.now) g.sources;
  limit = option_map (λ s. s.now) g.limit;
  sort = option_map (λ s. s.now) g.sort;
  domain = option_map (λ s. s.now) g.domain;
  wide = g.wide;
  csv = g.csv;
  tsv = g.tsv;
  config = option_map (λ s. s.now) g.config;
  filter = option_map (λ s. s.now) g.filter;
  debug = option_map (λ s. s.now) g.debug;
  offset = option_map (λ s. s.now) g.offset;
  address = option_map (λ s. s.now) g.address;
  synth = option_map (λ s. s.now) g.synth;
  files = unwrap_or (option_map (λ s. map (λ v. v.now) s.now) g.files) [];
}
