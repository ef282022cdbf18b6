-- The claims of each data source: one table for all formats.
use Rattle.std.specs.Prelude.{ℕ, List, [], ◌++◌, length, Ok}
use Rattle.std.specs.Option.{option_map}
use Rattle.size_core.specs.declared.source.Source.{Source}
use Rattle.size_core.specs.declared.source.Source.TheVariants.{Segments, Sections, Symbols, RawSymbols, CompileUnits, Inlines, InputFiles}
use Rattle.size_core.specs.Gather.{gather}
use Rattle.size_model.specs.declared.view.LabelledClaim.{LabelledClaim}
use Rattle.claim_sheet.specs.declared.labels.Wrap.{Wrap}
use Rattle.claim_sheet.specs.declared.labels.Wrap.TheVariants.{Plain, Brackets, Section}
use Rattle.claim_sheet.specs.Reaches.{claim_on, claim_on_some, in_file, of_addresses, span}
use Rattle.claim_sheet.specs.Read.{joined}
use Rattle.claim_sheet.specs.Sheets.{read_on_addresses}
use Rattle.data_sources.specs.declared.binary.Binary.{Binary}
use Rattle.data_sources.specs.Groups.{Groups, Reading, groups_of}

-- The claims of `segments`: the loads (or the sections of a format without loads), and then the headers.
unfoldable pub segments_claims : Groups → List LabelledClaim
segments_claims g = g.segments ++ g.headers

-- The claims of the parts of the file: the sections, the link-edit parts, the headers, and then the loads in brackets.
-- They label the bytes and addresses that no earlier claim covers.
unfoldable pub parts_claims : Wrap → Groups → List LabelledClaim
parts_claims wrap g = g.sections wrap ++ g.link_edit ++ g.headers ++ g.loads Brackets

-- The claim of the addresses of slot i, if it is a load, under the name of the file.
abbrev pub address_claim : List ℕ → Groups → ℕ → List LabelledClaim
address_claim name g i = claim_on_some (option_map of_addresses (g.load i)) name

-- The claims of the addresses of all loads, in order, under the name of the file.
unfoldable pub address_claims : List ℕ → Groups → List LabelledClaim
address_claims name g = gather (address_claim name g) 0 g.slots

-- The claims of the whole file under its name: all bytes of the file, and then the addresses of all loads.
unfoldable pub whole_claims : List ℕ → Groups → List LabelledClaim
whole_claims name g = claim_on (in_file (span 0 0 (length g.bytes))) name ++ address_claims name g

-- The claims of the records of a data source, or their first fault: compile units, source lines, or symbols.
abbrev pub records_of : Source → Groups → Reading
records_of CompileUnits g = g.units
records_of Inlines g = g.lines
records_of source g = g.symbols

-- The claims of records, and then those of the parts of the file, whose labels are all in brackets; or the fault of
-- the records.
unfoldable pub with_tail : Reading → Groups → Reading
with_tail records g = joined records (Ok (parts_claims Section g))

-- The table of the data sources: the claims of a data source on the groups of a file of this name, or the first fault.
abbrev pub source_claims : Source → List ℕ → Groups → Reading
source_claims Segments name g = Ok (segments_claims g)
source_claims Sections name g = Ok (parts_claims Plain g)
source_claims InputFiles name g = Ok (whole_claims name g)
source_claims Symbols name g = with_tail g.symbols g
source_claims RawSymbols name g = with_tail g.symbols g
source_claims CompileUnits name g = with_tail g.units g
source_claims Inlines name g = with_tail g.lines g

-- The claims of a data source on an opened file of this name, or the first fault.
abbrev pub claims_of : Source → List ℕ → Binary → Reading
claims_of source name binary = source_claims source name (groups_of binary)

-- The claims of the records of a data source on a debug file, or their first fault. A data source over the parts of the
-- file itself (segments, sections, input files) has none there.
abbrev pub debug_records : Source → Groups → Reading
debug_records Segments g = Ok []
debug_records Sections g = Ok []
debug_records InputFiles g = Ok []
debug_records source g = records_of source g

-- The claims of a data source on an opened debug file, or the first fault: the claims of its records that are on
-- addresses alone. Claims that have bytes of the debug file are left out.
abbrev pub debug_claims_of : Source → Binary → Reading
debug_claims_of source binary = read_on_addresses (debug_records source (groups_of binary))
