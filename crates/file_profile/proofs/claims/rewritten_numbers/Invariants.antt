use Rattle.std.proofs.Common.{◌≡◌, take}
use Rattle.claim_sheet.specs.Made.{KeepsLabels}
use Rattle.custom_rewrites.specs.Rewriting.{rewritten}
use Rattle.file_profile.specs.Numbering.{IsRenumbering}
use Rattle.file_profile.proofs.claims.rewritten_numbers.Given as goal

abbrev pub invariant-loop-k : goal.invariant-loop-k
invariant-loop-k l = record {
  kept : KeepsLabels l.initial.pool l.pool;
  numbers : IsRenumbering (λ label. rewritten label l.rewrites) (take l.k l.labels) l.pool l.numbers.items;
  same : l.rewriter ≡ l.rewrites;
}
