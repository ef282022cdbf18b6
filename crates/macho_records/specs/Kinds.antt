-- The kinds of load commands and of sections (mach-o/loader.h: load_command, section).
use Rattle.std.specs.Prelude.{ℕ, ◌==◌, ◌||◌, bit_and, Bool, Option, None, Some, if◌then◌else◌}
use Rattle.std.specs.Option.{is_some}
use Rattle.macho_records.specs.declared.link_edit.LinkEdit.{LinkEdit}
use Rattle.macho_records.specs.declared.link_edit.LinkEdit.TheVariants.{CodeSignature, SegmentSplitInfo, FunctionStarts, DataInCode, CodeSignDrs, OptimizationHints, ExportTrie, ChainedFixups}
use Rattle.macho_records.specs.declared.constants.TheConstants.{LC_SYMTAB, LC_DYSYMTAB, LC_UUID, LC_DYLD_INFO, LC_DYLD_INFO_ONLY, LC_CODE_SIGNATURE, LC_SEGMENT_SPLIT_INFO, LC_FUNCTION_STARTS, LC_DATA_IN_CODE, LC_DYLIB_CODE_SIGN_DRS, LC_LINKER_OPTIMIZATION_HINT, LC_DYLD_EXPORTS_TRIE, LC_DYLD_CHAINED_FIXUPS, SECTION_TYPE, S_ZEROFILL, S_GB_ZEROFILL, S_THREAD_LOCAL_ZEROFILL}
use Rattle.macho_records.specs.declared.layout.TheConstants.{SYMTAB_COMMAND_LEN, DYSYMTAB_COMMAND_LEN, UUID_COMMAND_LEN, DYLD_INFO_COMMAND_LEN, LINKEDIT_DATA_COMMAND_LEN, LOAD_COMMAND_LEN}

-- What a linkedit_data_command of this kind locates, or none for another kind (mach-o/loader.h:
-- linkedit_data_command).
unfoldable pub data_kind : ℕ → Option LinkEdit
data_kind kind =
    if kind == LC_CODE_SIGNATURE then Some CodeSignature
    else if kind == LC_SEGMENT_SPLIT_INFO then Some SegmentSplitInfo
    else if kind == LC_FUNCTION_STARTS then Some FunctionStarts
    else if kind == LC_DATA_IN_CODE then Some DataInCode
    else if kind == LC_DYLIB_CODE_SIGN_DRS then Some CodeSignDrs
    else if kind == LC_LINKER_OPTIMIZATION_HINT then Some OptimizationHints
    else if kind == LC_DYLD_EXPORTS_TRIE then Some ExportTrie
    else if kind == LC_DYLD_CHAINED_FIXUPS then Some ChainedFixups
    else None

-- A command of this kind is a dyld_info_command (mach-o/loader.h: LC_DYLD_INFO, LC_DYLD_INFO_ONLY).
abbrev pub is_dyld_info : ℕ → Bool
is_dyld_info kind = kind == LC_DYLD_INFO || kind == LC_DYLD_INFO_ONLY

-- The minimum size in bytes of a command that isn't a segment, by its kind (mach-o/loader.h:
-- symtab_command, dysymtab_command, uuid_command, dyld_info_command, linkedit_data_command, load_command).
unfoldable pub least_by_kind : ℕ → ℕ
least_by_kind kind =
    if kind == LC_SYMTAB then SYMTAB_COMMAND_LEN
    else if kind == LC_DYSYMTAB then DYSYMTAB_COMMAND_LEN
    else if kind == LC_UUID then UUID_COMMAND_LEN
    else if is_dyld_info kind then DYLD_INFO_COMMAND_LEN
    else if is_some (data_kind kind) then LINKEDIT_DATA_COMMAND_LEN
    else LOAD_COMMAND_LEN

-- The section type in flags is one of the zero-filled types (mach-o/loader.h: S_ZEROFILL, S_GB_ZEROFILL,
-- S_THREAD_LOCAL_ZEROFILL).
abbrev pub is_zero_filled : ℕ → Bool
is_zero_filled flags = let type = bit_and flags SECTION_TYPE in
    type == S_ZEROFILL || type == S_GB_ZEROFILL || type == S_THREAD_LOCAL_ZEROFILL
