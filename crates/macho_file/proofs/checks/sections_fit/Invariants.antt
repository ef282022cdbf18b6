use Rattle.std.proofs.Common.{◌≡◌, ◌+◌, ◌*◌, ◌-◌}
use Rattle.macho_file.specs.Commands.{section_len}
use Rattle.macho_file.specs.Known.{sections_fit}
use Rattle.macho_file.proofs.checks.sections_fit.Given as goal

abbrev pub invariant-rows : goal.invariant-rows
invariant-rows l = record {
  same : sections_fit l.file l.form l.at (l.count - l.i) ≡ sections_fit l.file l.form l.place l.count;
  at_is : l.at ≡ l.place + l.i * section_len l.form;
}
