-- A rollup without rows.
use Rattle.std.proofs.Common.{ℕ, [], arith}
use Rattle.std.specs.List.Sorted.{IsStrictlySortedBy}
use Rattle.rollup.specs.Totals.{IsTotals}

pub no_rows : (depth : ℕ) → IsTotals depth [] 0 0
unfolding IsStrictlySortedBy
no_rows depth = record {
  ordered = tt;
  deep = λ k d lt. absurd (omega arith);
  some = λ k d lt. absurd (omega arith);
  file = omega arith;
  vm = omega arith;
  lengths_fit = omega arith;
  mapped_fit = omega arith;
}
