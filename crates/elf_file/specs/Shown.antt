-- A section as contracts see it, without its name.
use Rattle.elf_file.specs.declared.section.SectionHeader.{SectionHeader}
use Rattle.elf_file.specs.declared.section.Section.{Section}

-- The fields of a section, without the name.
abbrev pub numbers : Section → SectionHeader
numbers s = record { place = s.place; kind = s.kind; flags = s.flags; addr = s.addr; offset = s.offset; size = s.size; link = s.link; info = s.info }
