-- The claims of a file of any format, in groups. Each data source consists of some of these groups.
use Rattle.std.specs.Prelude.{ℕ, List, [], Option, None, Result}
use Rattle.size_core.specs.declared.claim.Load.{Load}
use Rattle.size_core.specs.declared.fault.BadFile.{BadFile}
use Rattle.size_core.specs.declared.fault.Fault.TheVariants.{SourceNotForFile}
use Rattle.size_core.specs.Checks.{bad}
use Rattle.size_model.specs.declared.view.LabelledClaim.{LabelledClaim}
use Rattle.claim_sheet.specs.declared.labels.Wrap.{Wrap}
use Rattle.claim_sheet.specs.declared.labels.Wrap.TheVariants.{Plain}
use Rattle.elf_claims.specs.Claims.{header_claims as elf_headers, load_claims as elf_loads, section_claims as elf_sections}
use Rattle.elf_claims.specs.DebugClaims.{lines_claims as elf_lines, units_claims as elf_units}
use Rattle.elf_claims.specs.Loads.{slot_count as elf_slots, slot_load as elf_load}
use Rattle.elf_claims.specs.SymbolClaims.{symbols_claims as elf_symbols}
use Rattle.macho_claims.specs.Claims.{header_claims as macho_headers, link_edit_claims as macho_link_edit, load_claims as macho_loads, section_claims as macho_sections}
use Rattle.macho_claims.specs.DebugClaims.{lines_claims as macho_lines, units_claims as macho_units}
use Rattle.macho_claims.specs.Loads.{slot_count as macho_slots, slot_load as macho_load}
use Rattle.macho_claims.specs.SymbolClaims.{symbols_claims as macho_symbols}
use Rattle.wasm_claims.specs.Claims.{header_claims as wasm_headers, section_claims as wasm_sections, symbols_claims as wasm_symbols}
use Rattle.data_sources.specs.declared.binary.Binary.{Binary}
use Rattle.data_sources.specs.declared.binary.Binary.TheVariants.{Elf, Macho, Wasm}

-- The claims of some records, or the first fault among the records.
abbrev pub Reading : Type 0
Reading = Result (List LabelledClaim) BadFile

-- The fault of a data source that this kind of file doesn't have: SourceNotForFile at offset 0.
abbrev pub not_offered : Reading
not_offered = bad SourceNotForFile 0

-- The groups of a file:
-- - its bytes, the number of slots, and the load of a slot, if it is one,
-- - the claims of the loads and of the sections, with labels written in one of three ways,
-- - the claims of the link-edit parts and of the headers,
-- - the claims that `segments` has before those of the headers,
-- - the claims of the symbols, of the compile units and of the source lines, or the first fault of each.
pub record Groups : Type 0 where
  pub bytes : List ℕ
  pub slots : ℕ
  pub load : ℕ → Option Load
  pub loads : Wrap → List LabelledClaim
  pub sections : Wrap → List LabelledClaim
  pub link_edit : List LabelledClaim
  pub headers : List LabelledClaim
  pub segments : List LabelledClaim
  pub symbols : Reading
  pub units : Reading
  pub lines : Reading

-- The groups of an opened file, with one case for each format.
abbrev pub groups_of : Binary → Groups
groups_of (Elf file) = record {
  bytes = file;
  slots = elf_slots file;
  load = λ i. elf_load file i;
  loads = λ wrap. elf_loads wrap file;
  sections = λ wrap. elf_sections wrap file;
  link_edit = [];
  headers = elf_headers file;
  segments = elf_loads Plain file;
  symbols = elf_symbols file;
  units = elf_units file;
  lines = elf_lines file;
}
groups_of (Macho file) = record {
  bytes = file;
  slots = macho_slots file;
  load = λ i. macho_load file i;
  loads = λ wrap. macho_loads wrap file;
  sections = λ wrap. macho_sections wrap file;
  link_edit = macho_link_edit file;
  headers = macho_headers file;
  segments = macho_loads Plain file;
  symbols = macho_symbols file;
  units = macho_units file;
  lines = macho_lines file;
}
groups_of (Wasm file) = record {
  bytes = file;
  slots = 0;
  load = λ i. None;
  loads = λ wrap. [];
  sections = λ wrap. wasm_sections wrap file;
  link_edit = [];
  headers = wasm_headers file;
  segments = wasm_sections Plain file;
  symbols = wasm_symbols file;
  units = not_offered;
  lines = not_offered;
}

-- The bytes of an opened file.
abbrev pub bytes_of : Binary → List ℕ
bytes_of binary = (groups_of binary).bytes
