use Rattle.std.proofs.Common.{◌<◌, ◌^◌, length, arith}
use Rattle.std.specs.List.{flat_map}
use Rattle.macho_file.specs.Tables.{sections, sections_of}
use Rattle.macho_file.proofs.file.MachoFile.segments.Goals as goal

pub invariant_of-result : goal.invariant_of-result
unfolding sections
invariant_of-result c =
    let few : length (flat_map (sections_of c.walk.result.file) c.walk.result.rest) < 2 ^ 32 = rw (c.walk.ensures.file, c.walk.ensures.rest) c.walk.ensures.few in
    omega (arith, few)
