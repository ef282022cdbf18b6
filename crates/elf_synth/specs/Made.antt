-- A synthetic ELF file, by its number of functions.
use Rattle.std.specs.Prelude.{ℕ, ◌+◌, ◌-◌, List, ◌++◌, length, take}
use Rattle.elf_synth.specs.declared.layout.Part.{Part}
use Rattle.elf_synth.specs.declared.layout.Layout.{Layout}
use Rattle.elf_synth.specs.declared.records.SectionHeader.{SectionHeader}
use Rattle.elf_synth.specs.Records.{file_header, program_header, section_header, zeros}
use Rattle.elf_synth.specs.Contents.{image_address, text_address, text, symbols, strings, section_names, names, ended}

-- The part with these bytes that begins where another part ends.
abbrev pub after : Part → List ℕ → Part
after part bytes = record { offset = part.offset + part.size; size = length bytes }

-- The offset of each part of a file with n functions: `.text` after headers of 64 and 56 bytes, each other
-- part where the one before it ends, and five section headers of 64 bytes.
unfoldable pub layout_of : ℕ → Layout
layout_of n =
    let text_part : Part = record { offset = 64 + 56; size = length (text n) } in
    let symbols_part = after text_part (symbols n) in
    let strings_part = after symbols_part (strings n) in
    let names_part = after strings_part section_names in
    record {
      text = text_part;
      symbols = symbols_part;
      strings = strings_part;
      section_names = names_part;
      section_headers = names_part.offset + names_part.size;
    }

-- The offset of the name of section i in the section name table.
abbrev pub name_place : ℕ → ℕ
name_place i = 1 + length (ended (take (i - 1) names))

-- The section header of `.text`: bytes of the program (SHT_PROGBITS) that are in memory (SHF_ALLOC) and can
-- be executed (SHF_EXECINSTR).
unfoldable pub text_header : Part → SectionHeader
text_header part = record {
  name = name_place 1;
  kind = 1;
  flags = 2 + 4;
  addr = text_address;
  offset = part.offset;
  size = part.size;
  link = 0;
  info = 0;
  entry_size = 0;
}

-- The section header of `.symtab`: symbols of 24 bytes (SHT_SYMTAB) with their names in section 3. Symbol 1
-- is the first global one (gABI, Sections: sh_info).
unfoldable pub symbols_header : Part → SectionHeader
symbols_header part = record {
  name = name_place 2;
  kind = 2;
  flags = 0;
  addr = 0;
  offset = part.offset;
  size = part.size;
  link = 3;
  info = 1;
  entry_size = 24;
}

-- The section header of a string table (SHT_STRTAB). `name` is the offset of its own name in the section name
-- table.
abbrev pub names_header : ℕ → Part → SectionHeader
names_header name part = record {
  name = name;
  kind = 3;
  flags = 0;
  addr = 0;
  offset = part.offset;
  size = part.size;
  link = 0;
  info = 0;
  entry_size = 0;
}

-- The section headers: section 0, `.text`, `.symtab`, `.strtab` and `.shstrtab` (gABI, Sections).
unfoldable pub section_headers : Layout → List ℕ
section_headers at =
    zeros 64
    ++ section_header (text_header at.text)
    ++ section_header (symbols_header at.symbols)
    ++ section_header (names_header (name_place 3) at.strings)
    ++ section_header (names_header (name_place 4) at.section_names)

-- The synthetic file with n functions: the file header, the program header of a load of all bytes up to the
-- end of `.text`, the contents of the sections, and the section headers.
unfoldable pub made : ℕ → List ℕ
made n =
    let at = layout_of n in
    file_header text_address at.section_headers
    ++ program_header image_address (at.text.offset + at.text.size)
    ++ text n
    ++ symbols n
    ++ strings n
    ++ section_names
    ++ section_headers at
