use Rattle.std.proofs.Common.{◌≡◌}
use Rattle.std.specs.List.{starts_with}
use Rattle.std.specs.Str.{bytes_eq}
use Rattle.size_model.proofs.Firsts.{begins_from}
use Rattle.size_model.proofs.counting.begins_with.Given as goal

-- The labels before index i agree.
abbrev pub invariant-loop-i : goal.invariant-loop-i
invariant-loop-i l = begins_from l.i l.path l.prefix ≡ starts_with bytes_eq l.path l.prefix
