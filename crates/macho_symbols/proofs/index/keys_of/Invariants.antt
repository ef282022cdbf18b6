use Rattle.std.proofs.Common.{◌≡◌, ◌++◌, drop, take, map}
use Rattle.macho_symbols.specs.Index.{AreAddresses, keys_from}
use Rattle.macho_symbols.specs.Shown.{placed_shown}
use Rattle.macho_symbols.proofs.index.keys_of.Given as goal

abbrev pub invariant-rows : goal.invariant-rows
invariant-rows l = let all = map placed_shown l.symbols in record {
  keys_are : l.keys.items ++ keys_from l.i (drop l.i all) ≡ keys_from 0 all;
  addresses : AreAddresses (take l.i all);
}
