-- The claims of the sections, the link-edit parts, the headers and the loads of a Mach-O file.
use Rattle.std.specs.Prelude.{ℕ, ◌-◌, min, List, ◌++◌, length, codes, if◌then◌else◌}
use Rattle.std.specs.List.{flat_map}
use Rattle.std.specs.Option.{option_map}
use Rattle.size_model.specs.declared.view.LabelledClaim.{LabelledClaim}
use Rattle.macho_records.specs.declared.link_edit.LinkEdit.{LinkEdit}
use Rattle.macho_records.specs.declared.link_edit.LinkEdit.TheVariants.{SymbolTable, StringTable, IndirectSymbols, RebaseInfo, BindingInfo, WeakBindingInfo, LazyBindingInfo, ExportInfo, CodeSignature, SegmentSplitInfo, FunctionStarts, DataInCode, CodeSignDrs, OptimizationHints, ExportTrie, ChainedFixups}
use Rattle.macho_records.specs.declared.link_edit.LinkEditPart.{LinkEditPart}
use Rattle.macho_records.specs.Layout.{header_len, commands_size}
use Rattle.macho_file.specs.LinkEdit.{link_edit_parts}
use Rattle.macho_file.specs.Tables.{SectionRecord, SegmentRecord, sections, segments}
use Rattle.claim_sheet.specs.declared.reach.Reach.{Reach}
use Rattle.claim_sheet.specs.declared.labels.Wrap.{Wrap}
use Rattle.claim_sheet.specs.Reaches.{claim_on, claim_on_some, in_both, in_file, in_memory, of_load, or_if_empty, span, wrapped}
use Rattle.macho_claims.specs.Loads.{segment_load}

-- Sections.

-- What a section covers: its addresses, and its bytes if they are in the file (mach-o/loader.h, `section`,
-- `section_64`).
unfoldable pub section_reach : SectionRecord → Reach
section_reach s = if s.in_file then in_both (span 0 s.addr s.size) (span 0 s.offset s.size) else in_memory (span 0 s.addr s.size)

-- The label of a section: the segname and sectname of its header, with a comma between them (mach-o/loader.h,
-- `section`, `section_64`).
abbrev pub section_label : SectionRecord → List ℕ
section_label s = s.segment ++ codes "," ++ s.name

-- The claim of a section. `wrap` is how its label is written (mach-o/loader.h, `section`, `section_64`).
unfoldable pub section_claim : Wrap → SectionRecord → List LabelledClaim
section_claim wrap s = claim_on (section_reach s) (wrapped wrap (section_label s))

-- The claims of the sections of all segments, in order (mach-o/loader.h, `section`, `section_64`).
unfoldable pub section_claims : Wrap → List ℕ → List LabelledClaim
section_claims wrap file = flat_map (section_claim wrap) (sections file)

-- The link-edit parts.

-- The label of a link-edit part, by its kind (mach-o/loader.h, `symtab_command`, `dysymtab_command`,
-- `dyld_info_command`, `linkedit_data_command`).
abbrev pub part_label : LinkEdit → List ℕ
part_label SymbolTable = codes "[Symbol Table]"
part_label StringTable = codes "[String Table]"
part_label IndirectSymbols = codes "[Indirect Symbols]"
part_label RebaseInfo = codes "[Rebase Info]"
part_label BindingInfo = codes "[Binding Info]"
part_label WeakBindingInfo = codes "[Weak Binding Info]"
part_label LazyBindingInfo = codes "[Lazy Binding Info]"
part_label ExportInfo = codes "[Export Info]"
part_label CodeSignature = codes "[Code Signature]"
part_label SegmentSplitInfo = codes "[Segment Split Info]"
part_label FunctionStarts = codes "[Function Starts]"
part_label DataInCode = codes "[Data in Code]"
part_label CodeSignDrs = codes "[Code Sign DRs]"
part_label OptimizationHints = codes "[Optimization Hints]"
part_label ExportTrie = codes "[Export Trie]"
part_label ChainedFixups = codes "[Chained Fixups]"

-- The bytes of a link-edit part, in a file of this length. Bytes after the end of the file are left out
-- (mach-o/loader.h, `symtab_command`, `dysymtab_command`, `dyld_info_command`, `linkedit_data_command`).
abbrev pub part_reach : ℕ → LinkEditPart → Reach
part_reach len p = in_file (span 0 p.offset (min p.len (len - p.offset)))

-- The claim of a link-edit part. A part without a byte in the file has none.
unfoldable pub part_claim : ℕ → LinkEditPart → List LabelledClaim
part_claim len p = claim_on (part_reach len p) (part_label p.kind)

-- The claims of all link-edit parts, in the order of the commands (mach-o/loader.h, `symtab_command`,
-- `dysymtab_command`, `dyld_info_command`, `linkedit_data_command`).
unfoldable pub link_edit_claims : List ℕ → List LabelledClaim
link_edit_claims file = flat_map (part_claim (length file)) (link_edit_parts file)

-- The header and the load commands, which follow it.

-- The bytes of the header (mach-o/loader.h, `mach_header`).
abbrev pub header_reach : List ℕ → Reach
header_reach file = in_file (span 0 0 (header_len file))

-- The bytes of the load commands: sizeofcmds bytes after the header (mach-o/loader.h, `mach_header`, `sizeofcmds`).
abbrev pub commands_reach : List ℕ → Reach
commands_reach file = in_file (span 0 (header_len file) (commands_size file))

-- The claims of the header and of the load commands (mach-o/loader.h, `mach_header`, `sizeofcmds`).
unfoldable pub header_claims : List ℕ → List LabelledClaim
header_claims file =
    claim_on (header_reach file) (codes "[Mach-O Header]") ++ claim_on (commands_reach file) (codes "[Mach-O Load Commands]")

-- Loads.

-- The label of a segment: its name, or `[Unnamed segment]` if that is empty (mach-o/loader.h, `segname`).
abbrev pub segment_label : SegmentRecord → List ℕ
segment_label s = or_if_empty s.name (codes "[Unnamed segment]")

-- The claim of a segment of a file of this length, if it is a load: its addresses, and the bytes of the file that it
-- maps (mach-o/loader.h, `segment_command`).
unfoldable pub load_claim : Wrap → ℕ → SegmentRecord → List LabelledClaim
load_claim wrap len s = claim_on_some (option_map (of_load len) (segment_load s)) (wrapped wrap (segment_label s))

-- The claims of all loads, in order (mach-o/loader.h, `segment_command`).
unfoldable pub load_claims : Wrap → List ℕ → List LabelledClaim
load_claims wrap file = flat_map (load_claim wrap (length file)) (segments file)
