use Rattle.std.proofs.Common.{◌≡◌, ◌-◌, ◌≤◌}
use Rattle.macho_records.specs.Layout.{header_len, command_count}
use Rattle.macho_file.specs.Known.{commands_fit}
use Rattle.macho_file.proofs.checks.commands_fit.Given as goal

abbrev pub invariant-rows : goal.invariant-rows
invariant-rows l = record {
  same : commands_fit l.file l.place (l.count - l.i) ≡ commands_fit l.file (header_len l.file) (command_count l.file);
  inside : l.place ≤ l.end;
}
