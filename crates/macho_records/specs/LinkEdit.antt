-- The ranges of a file that a load command locates in the link-edit data (mach-o/loader.h: symtab_command,
-- dysymtab_command, dyld_info_command, linkedit_data_command).
use Rattle.std.specs.Prelude.{ℕ, ◌+◌, ◌*◌, ◌==◌, List, [], ◌∷◌, Option, None, Some, if◌then◌else◌}
use Rattle.byte_cursor.specs.declared.encoding.ByClass.{ByClass}
use Rattle.byte_cursor.specs.Encoding.{four}
use Rattle.macho_records.specs.declared.link_edit.LinkEdit.{LinkEdit}
use Rattle.macho_records.specs.declared.link_edit.LinkEditPart.{LinkEditPart}
use Rattle.macho_records.specs.declared.link_edit.LinkEdit.TheVariants.{SymbolTable, StringTable, IndirectSymbols, RebaseInfo, BindingInfo, WeakBindingInfo, LazyBindingInfo, ExportInfo}
use Rattle.macho_records.specs.declared.constants.TheConstants.{LC_SYMTAB, LC_DYSYMTAB}
use Rattle.macho_records.specs.declared.layout.TheConstants.{LINKEDIT_DATAOFF, SYMTAB_SYMOFF, SYMTAB_STROFF, DYLD_INFO_REBASE_OFF, DYLD_INFO_BIND_OFF, DYLD_INFO_WEAK_BIND_OFF, DYLD_INFO_LAZY_BIND_OFF, DYLD_INFO_EXPORT_OFF, DYSYMTAB_INDIRECTSYMOFF}
use Rattle.macho_records.specs.Layout.{encoding_of, symbol_len}
use Rattle.macho_records.specs.Kinds.{data_kind, is_dyld_info}

-- The range whose file offset is a field of the command at file offset place. The next field is its length, in
-- units of `unit` bytes.
unfoldable pub part_at : List ℕ → ℕ → LinkEdit → ByClass → ℕ → LinkEditPart
part_at file place kind field unit = let e = encoding_of file in record {
  kind = kind;
  offset = four e file place field;
  len = four e file (place + 4) field * unit;
}

-- The range of the linkedit_data_command at file offset place (mach-o/loader.h: dataoff, datasize).
abbrev pub data_parts : List ℕ → ℕ → Option LinkEdit → List LinkEditPart
data_parts file place None = []
data_parts file place (Some kind) = part_at file place kind LINKEDIT_DATAOFF 1 ∷ []

-- The ranges of the symtab_command at file offset place (mach-o/loader.h: symoff, nsyms, stroff, strsize).
abbrev pub table_parts : List ℕ → ℕ → List LinkEditPart
table_parts file place =
    part_at file place SymbolTable SYMTAB_SYMOFF (symbol_len file)
    ∷ part_at file place StringTable SYMTAB_STROFF 1 ∷ []

-- The ranges of the dyld_info_command at file offset place, each with an offset and a size (mach-o/loader.h:
-- dyld_info_command).
abbrev pub dyld_parts : List ℕ → ℕ → List LinkEditPart
dyld_parts file place =
    part_at file place RebaseInfo DYLD_INFO_REBASE_OFF 1
    ∷ part_at file place BindingInfo DYLD_INFO_BIND_OFF 1
    ∷ part_at file place WeakBindingInfo DYLD_INFO_WEAK_BIND_OFF 1
    ∷ part_at file place LazyBindingInfo DYLD_INFO_LAZY_BIND_OFF 1
    ∷ part_at file place ExportInfo DYLD_INFO_EXPORT_OFF 1 ∷ []

-- The ranges of the command of this kind at file offset place. A dysymtab_command has one, the indirect symbol
-- table (mach-o/loader.h: indirectsymoff, nindirectsyms).
unfoldable pub parts_at : List ℕ → ℕ → ℕ → List LinkEditPart
parts_at file place kind =
    if kind == LC_SYMTAB then table_parts file place
    else if kind == LC_DYSYMTAB then part_at file place IndirectSymbols DYSYMTAB_INDIRECTSYMOFF 4 ∷ []
    else if is_dyld_info kind then dyld_parts file place
    else data_parts file place (data_kind kind)
