use Rattle.std.proofs.Common.{◌≡◌, ◌-◌, ◌≤◌, length, map}
use Rattle.macho_symbols.specs.Names.{AreNamed}
use Rattle.macho_symbols.specs.Shown.{placed_shown}
use Rattle.macho_symbols.specs.Symbols.{strings}
use Rattle.macho_symbols.specs.Taken.{prepend, taken_from}
use Rattle.macho_symbols.proofs.span_symbols.symbols_taking_part.Given as goal

abbrev pub invariant-rows : goal.invariant-rows
invariant-rows l = record {
  same : prepend (map placed_shown l.taking.items) (taken_from l.table.file.now l.table.fields l.extents l.k (l.table.fields.nsyms - l.k)) ≡ taken_from l.table.file.now l.table.fields l.extents 0 l.table.fields.nsyms;
  few : length (map placed_shown l.taking.items) ≤ l.k;
  named : AreNamed l.table.file.now l.taking.items;
  names : l.names ≡ strings l.table.file.now l.table.fields;
}
