use Rattle.std.proofs.Common.{◌<◌, arith}
use Rattle.macho_file.proofs.WalkLemmas.{is_inside, fits_here}
use Rattle.macho_file.proofs.walk.Walk.next.Goals as goal

pub returns-clause-inside : goal.returns-clause-inside
returns-clause-inside c =
    let w = c.self.inside in
    let some : 0 < w.left = omega arith in
    rw (← c.self.view_is, c.command_at-command.ensures) (is_inside w.file.now w.encoding w.place w.left c.self.invariant some)

pub returns-clause-fits : goal.returns-clause-fits
returns-clause-fits c =
    let w = c.self.inside in
    let some : 0 < w.left = omega arith in
    rw (← c.self.view_is, c.command_at-command.ensures) (fits_here w.file.now w.encoding w.place w.left c.self.invariant some)
