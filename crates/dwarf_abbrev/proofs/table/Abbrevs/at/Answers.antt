use Rattle.std.proofs.Common.{◌≡◌, ◌≤◌, ap, arith}
use Rattle.dwarf_abbrev.specs.Listing.{left}
use Rattle.dwarf_abbrev.proofs.Forward.{declarations_end}
use Rattle.dwarf_abbrev.proofs.table.Abbrevs.at.Goals as goal

pub overflow_sub-len : goal.overflow_sub-len
overflow_sub-len c =
    let same : left c.fork-end.result ≡ left c.in-Some.cursor = ap left c.fork-end.ensures in
    let fewer : left c.pass_declarations.new.cursor ≤ left c.fork-end.result = declarations_end c.fork-end.result c.pass_declarations.new.cursor c.in_ok-pass_declarations.ensures in
    omega (arith, same, fewer)
