use Rattle.std.proofs.Common.{arith}
use Rattle.dual_map.proofs.BaseLemmas.{maps_below, file_few, vm_few, few_by_loads}
use Rattle.dual_map.proofs.LayerLemmas.{file_cut, vm_cut, file_numbers, memory_numbers}
use Rattle.dual_map.proofs.maps.DualMap.build.Goals as goal

pub file_map-requires : goal.file_map-requires
file_map-requires c = file_numbers c.args.unmapped c.args.claims.now c.in_ok-layers.layers c.in_ok-layers.ensures

pub vm_map-requires : goal.vm_map-requires
vm_map-requires c = memory_numbers c.args.unmapped c.args.claims.now c.in_ok-layers.layers c.in_ok-layers.ensures

pub returns-clause-file : goal.returns-clause-file
returns-clause-file c =
    file_cut c.args.base.now c.args.unmapped c.args.claims.now c.in_ok-layers.layers c.in_ok-file.file c.in_ok-file.ensures.layout c.in_ok-layers.ensures c.in_ok-file.ensures.cut

pub returns-clause-vm : goal.returns-clause-vm
returns-clause-vm c =
    vm_cut c.args.base.now c.args.unmapped c.args.claims.now c.in_ok-layers.layers c.in_ok-vm.vm c.in_ok-layers.ensures c.in_ok-vm.ensures

pub returns-clause-labels : goal.returns-clause-labels
returns-clause-labels c n h a =
    let file = file_cut c.args.base.now c.args.unmapped c.args.claims.now c.in_ok-layers.layers c.in_ok-file.file c.in_ok-file.ensures.layout c.in_ok-layers.ensures c.in_ok-file.ensures.cut in
    let vm = vm_cut c.args.base.now c.args.unmapped c.args.claims.now c.in_ok-layers.layers c.in_ok-vm.vm c.in_ok-layers.ensures c.in_ok-vm.ensures in
    maps_below c.args.base.now c.args.unmapped c.args.claims.now c.in_ok-file.file c.in_ok-vm.vm n file vm h a

pub returns-clause-few_file : goal.returns-clause-few_file
returns-clause-few_file c b h =
    let file = file_cut c.args.base.now c.args.unmapped c.args.claims.now c.in_ok-layers.layers c.in_ok-file.file c.in_ok-file.ensures.layout c.in_ok-layers.ensures c.in_ok-file.ensures.cut in
    omega (arith, file_few c.args.base.now c.args.unmapped b c.args.claims.now c.in_ok-file.file c.in_ok-file.ensures.layout h file)

pub returns-clause-few_vm : goal.returns-clause-few_vm
returns-clause-few_vm c b h =
    let vm = vm_cut c.args.base.now c.args.unmapped c.args.claims.now c.in_ok-layers.layers c.in_ok-vm.vm c.in_ok-layers.ensures c.in_ok-vm.ensures in
    omega (arith, vm_few c.args.base.now c.args.unmapped b c.args.claims.now c.in_ok-vm.vm c.in_ok-file.ensures.layout h vm)

pub returns-clause-few_by_loads : goal.returns-clause-few_by_loads
returns-clause-few_by_loads c =
    let file = file_cut c.args.base.now c.args.unmapped c.args.claims.now c.in_ok-layers.layers c.in_ok-file.file c.in_ok-file.ensures.layout c.in_ok-layers.ensures c.in_ok-file.ensures.cut in
    let vm = vm_cut c.args.base.now c.args.unmapped c.args.claims.now c.in_ok-layers.layers c.in_ok-vm.vm c.in_ok-layers.ensures c.in_ok-vm.ensures in
    few_by_loads c.args.base.now c.args.unmapped c.args.claims.now c.in_ok-file.file c.in_ok-vm.vm c.in_ok-file.ensures.layout file vm
