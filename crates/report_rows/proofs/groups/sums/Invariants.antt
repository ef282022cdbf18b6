use Rattle.std.proofs.Common.{◌≡◌, map, take}
use Rattle.report_rows.specs.Tables.{vm_sum, file_sum}
use Rattle.report_rows.proofs.groups.sums.Given as goal

-- The sizes of the rows so far.
abbrev pub invariant-loop-row : goal.invariant-loop-row
invariant-loop-row l = record {
  vm : l.vm ≡ vm_sum (map (λ r. r.now) (take l.row-index l.rows));
  file : l.file ≡ file_sum (map (λ r. r.now) (take l.row-index l.rows));
}
