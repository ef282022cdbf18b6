use Rattle.std.proofs.Common.{map, sym, arith}
use Rattle.macho_symbols.specs.Shown.{placed_shown}
use Rattle.macho_symbols.proofs.LeastLemmas.{is_greater}
use Rattle.macho_symbols.proofs.spans.span_at.Goals as goal

pub overflow_sub-len : goal.overflow_sub-len
overflow_sub-len c =
    let greater = is_greater (placed_shown c.args.symbol.now) (map placed_shown c.args.indexed.symbols.now) c.in-Some.end (sym c.in-Some.ensures) in
    omega (arith, greater)
