-- The file is as long as its definition.
use Rattle.std.proofs.Common.{◌≡◌, length, ap, arith}
use Rattle.std.proofs.lemmas.Grind.{common_steps}
use Rattle.elf_synth.specs.Made.{made}
use Rattle.elf_synth.proofs.Lengths.{length-made}
use Rattle.elf_synth.proofs.file.synth.Goals as goal

pub returns-clause-len : goal.returns-clause-len
unfolding made
returns-clause-len c =
    let is_made : c.push_section_headers.new.out.items ≡ made c.args.n = grind (arith, common_steps) in
    omega (arith, length-made c.args.n, ap length is_made)
