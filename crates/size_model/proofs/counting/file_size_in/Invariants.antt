use Rattle.std.proofs.Common.{◌≡◌, ℕ, option_map}
use Rattle.size_model.specs.Count.{count_from}
use Rattle.size_model.specs.Sizes.{counts_for, offset_path}
use Rattle.size_model.proofs.counting.file_size_in.Given as goal

-- How many of the offsets so far count.
abbrev pub invariant-loop-offset : goal.invariant-loop-offset
invariant-loop-offset g l = l.size ≡ count_from (λ (o : ℕ). counts_for (option_map (λ t. g.T.LabelTest.holds t.now) l.filter) l.prefix (offset_path l.file o)) 0 l.offset
