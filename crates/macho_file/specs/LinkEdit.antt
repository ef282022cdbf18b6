-- The ranges of a file that load commands locate in the link-edit data (mach-o/loader.h: symtab_command,
-- dysymtab_command, dyld_info_command, linkedit_data_command).
use Rattle.std.specs.Prelude.{ℕ, List, [], Option, None, Some}
use Rattle.std.specs.List.{flat_map}
use Rattle.macho_records.specs.declared.link_edit.LinkEditPart.{LinkEditPart}
use Rattle.macho_records.specs.LinkEdit.{parts_at}
use Rattle.macho_file.specs.declared.command.Command.{Command}
use Rattle.macho_file.specs.Commands.{commands}

-- The ranges of a command.
unfoldable pub parts_of : List ℕ → Command → List LinkEditPart
parts_of file c = parts_at file c.place c.kind

-- The ranges of a command, and none if there is no command.
abbrev pub parts_of_some : List ℕ → Option Command → List LinkEditPart
parts_of_some file None = []
parts_of_some file (Some c) = parts_of file c

-- The ranges that the load commands of the file locate, in the order of the commands (mach-o/loader.h:
-- symtab_command, dysymtab_command, dyld_info_command, linkedit_data_command).
unfoldable pub link_edit_parts : List ℕ → List LinkEditPart
link_edit_parts file = flat_map (parts_of file) (commands file)
