use Rattle.std.proofs.Common.{arith}
use Rattle.std.proofs.lemmas.List.Sorted.{All-permutation, length_permutation}
use Rattle.std.proofs.lemmas.Result.{IfOk-weaker}
use Rattle.report_rows.specs.Groups.{IsGroup}
use Rattle.report_rows.proofs.EntryLemmas.{all-entries, all-fit, have-ranges}
use Rattle.report_rows.proofs.FirstLemmas.{first-entries, first-ranges}
use Rattle.report_rows.proofs.GroupLemmas.{seen}
use Rattle.report_rows.proofs.SortLemmas.{derived_sorted, sorted-children}
use Rattle.report_rows.proofs.groups.entries.Goals as goal

pub first_groups-requires-clause-fits : goal.first_groups-requires-clause-fits
first_groups-requires-clause-fits c =
    let made = c.in_ok-groups.ensures in
    all-fit c.args.levels.options c.args.levels.depth c.args.level (seen c.args.rows.now) c.requires.part c.requires.below c.in_ok-groups.groups.items made.groups made.labels

pub returns-then-leaves_out-clause-entries : goal.returns-then-leaves_out-clause-entries
returns-then-leaves_out-clause-entries c =
    let made = c.in_ok-groups.ensures in
    IfOk-weaker c.first_groups.result _ _
    (λ v first. first-entries c.args.levels.options c.args.levels.depth c.args.level (seen c.args.rows.now) c.requires.part c.requires.below c.in_ok-groups.groups.items made.groups made.labels v.items first (omega (arith, c.leaves_out.ensures.more c.if-leaves_out.true, c.len.ensures, c.in_ok-groups.groups.ok.0)))
    c.first_groups.ensures

pub returns-then-leaves_out-clause-ranges : goal.returns-then-leaves_out-clause-ranges
returns-then-leaves_out-clause-ranges c =
    let made = c.in_ok-groups.ensures in
    IfOk-weaker c.first_groups.result _ _
    (λ v first. first-ranges c.args.levels.options c.args.levels.depth c.args.level (seen c.args.rows.now) c.requires.part c.requires.below c.in_ok-groups.groups.items made.groups made.labels v.items first) c.first_groups.ensures

pub returns-clause-entries : goal.returns-clause-entries
returns-clause-entries c =
    let all = seen c.args.rows.now in
    let given = c.in_ok-groups.groups.items in
    let sorted = c.sort_unstable.new.self.items in
    let every = All-permutation (IsGroup c.args.levels.options c.args.level all) given sorted c.sort_unstable.ensures.permutation c.in_ok-groups.ensures.groups in
    all-entries c.args.levels.options c.args.levels.depth c.args.level all c.requires.part c.requires.below sorted every
    (sorted-children c.args.levels.options c.args.levels.depth c.args.level all c.requires.part c.requires.below given sorted c.sort_unstable.ensures.permutation (derived_sorted sorted c.sort_unstable.ensures.sorted) every c.in_ok-groups.ensures.labels)
    (λ some. omega (arith, c.leaves_out.ensures.few c.if-leaves_out.false some, c.len.ensures, c.in_ok-groups.groups.ok.0, length_permutation given sorted c.sort_unstable.ensures.permutation))

pub returns-clause-ranges : goal.returns-clause-ranges
returns-clause-ranges c =
    let all = seen c.args.rows.now in
    let given = c.in_ok-groups.groups.items in
    let sorted = c.sort_unstable.new.self.items in
    have-ranges c.args.levels.options c.args.levels.depth c.args.level all c.requires.part c.requires.below sorted (All-permutation (IsGroup c.args.levels.options c.args.level all) given sorted c.sort_unstable.ensures.permutation c.in_ok-groups.ensures.groups)
