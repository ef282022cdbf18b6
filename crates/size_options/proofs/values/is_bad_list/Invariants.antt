use Rattle.std.proofs.Common.{◌≡◌, ◌<◌, length}
use denote.Shadow.{shadow}
use denote.Text.{Utf8}
use Rattle.size_options.specs.Values.{is_bad_list, names_in}
use Rattle.size_options.proofs.NameLemmas.{is_bad_within}
use Rattle.size_options.proofs.values.is_bad_list.Given as goal

abbrev pub invariant-names : goal.invariant-names
invariant-names l = record {
  text : shadow (Utf8 l.left);
  some : 0 < l.room;
  same : is_bad_list (names_in l.list) ≡ is_bad_within l.room (names_in l.left);
}

abbrev pub decreases-names : goal.decreases-names
decreases-names l = length l.left
