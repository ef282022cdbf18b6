use Rattle.std.proofs.Common.{◌≡◌, ◌++◌, length}
use denote.Shadow.{shadow}
use denote.Text.{Utf8}
use Rattle.size_options.specs.Values.{names_in}
use Rattle.size_options.proofs.run_options.names_in.Given as goal

abbrev pub invariant-names : goal.invariant-names
invariant-names l = record {
  text : shadow (Utf8 l.left);
  parts : names_in l.list ≡ l.names ++ names_in l.left;
}

abbrev pub decreases-names : goal.decreases-names
decreases-names l = length l.left
