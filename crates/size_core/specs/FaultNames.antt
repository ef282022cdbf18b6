-- The names of faults, as error lines print them.
use Rattle.std.specs.Prelude.{ℕ, List, codes}
use Rattle.size_core.specs.declared.fault.Fault.{Fault}
use Rattle.size_core.specs.declared.fault.Fault.TheVariants.{UnknownFormat, Archive, Universal, Truncated, BadHeader, TablePastEnd, BadIndex, NameOutside, SectionPastEnd, RangeOverflow, BadCommand, BadLeb, BadWasm, SourceNotForFile, CompressedDebugInfo, BadUnit, BadAbbrev, UnknownForm, OffsetOutside, BadRangeList, BadLine, BadString, NewerDwarf, Relocatable}

-- The name of a fault, as error lines on standard error print it.
abbrev pub fault_name : Fault → List ℕ
fault_name UnknownFormat = codes "UnknownFormat"
fault_name Archive = codes "Archive"
fault_name Universal = codes "Universal"
fault_name Truncated = codes "Truncated"
fault_name BadHeader = codes "BadHeader"
fault_name TablePastEnd = codes "TablePastEnd"
fault_name BadIndex = codes "BadIndex"
fault_name NameOutside = codes "NameOutside"
fault_name SectionPastEnd = codes "SectionPastEnd"
fault_name RangeOverflow = codes "RangeOverflow"
fault_name BadCommand = codes "BadCommand"
fault_name BadLeb = codes "BadLeb"
fault_name BadWasm = codes "BadWasm"
fault_name SourceNotForFile = codes "SourceNotForFile"
fault_name CompressedDebugInfo = codes "CompressedDebugInfo"
fault_name BadUnit = codes "BadUnit"
fault_name BadAbbrev = codes "BadAbbrev"
fault_name UnknownForm = codes "UnknownForm"
fault_name OffsetOutside = codes "OffsetOutside"
fault_name BadRangeList = codes "BadRangeList"
fault_name BadLine = codes "BadLine"
fault_name BadString = codes "BadString"
fault_name NewerDwarf = codes "NewerDwarf"
fault_name Relocatable = codes "Relocatable"
