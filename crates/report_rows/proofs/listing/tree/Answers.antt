use Rattle.report_rows.specs.Tables.{vm_sum, file_sum}
use Rattle.report_rows.proofs.GroupLemmas.{seen}
use Rattle.report_rows.proofs.RootLemmas.{same_tree}
use Rattle.report_rows.proofs.listing.tree.Goals as goal

pub returns : goal.returns
returns c =
    let all = seen c.args.rows.now in
    same_tree c.args.options.now c.args.depth c.sums-vm.result.0 c.sums-vm.result.1 (vm_sum all) (file_sum all) c.list.new.out c.new-out.result all c.sums-vm.ensures.vm c.sums-vm.ensures.file c.new-out.ensures c.in_ok-list.ensures
