-- The names of the built-in data sources.
use Rattle.std.specs.Prelude.{ℕ, List, codes, Option, None, Some, if◌then◌else◌}
use Rattle.std.specs.Str.{bytes_eq}
use Rattle.size_core.specs.declared.source.Source.{Source}
use Rattle.size_core.specs.declared.source.Source.TheVariants.{Segments, Sections, Symbols, RawSymbols, CompileUnits, Inlines, InputFiles}

-- The data source with this name.
abbrev pub source_named : List ℕ → Option Source
source_named name =
    if bytes_eq name (codes "segments") then Some Segments
    else if bytes_eq name (codes "sections") then Some Sections
    else if bytes_eq name (codes "symbols") then Some Symbols
    else if bytes_eq name (codes "rawsymbols") then Some RawSymbols
    else if bytes_eq name (codes "compileunits") then Some CompileUnits
    else if bytes_eq name (codes "inlines") then Some Inlines
    else if bytes_eq name (codes "inputfiles") then Some InputFiles
    else None
