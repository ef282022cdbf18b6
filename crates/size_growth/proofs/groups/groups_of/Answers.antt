use Rattle.std.proofs.Common.{◌∙◌, ◌≤◌, subst, sym, arith, map}
use Rattle.std.specs.Prelude.{All}
use Rattle.report_rows.proofs.GatherLemmas.{All-kept}
use Rattle.size_growth.specs.declared.groups.Group.{Group}
use Rattle.size_growth.specs.Groups.{IsGroup, group_entry}
use Rattle.size_growth.specs.Keys.{has_changed}
use Rattle.size_growth.proofs.GatherLemmas.{begin-before, end-before, gather, none-left, rise-kept}
use Rattle.size_growth.proofs.groups.groups_of.Goals as goal

pub loop-from-preserved : goal.loop-from-preserved
loop-from-preserved c =
    let o = c.args.levels.options in
    let paths = c.args.paths.now in
    let g = c.make_group-group.result in
    let groups = c.loop-from.groups.items in
    let made = c.make_group-group.ensures in
    let so-far = c.loop-from.invariant in
    let from = made.from in
    record {
      entries = rw c.in_ok-keep.ensures (gather o c.args.level paths groups g made.group (rw from made.run) (rw from so-far.entries));
      groups = rw c.in_ok-keep.ensures (All-kept (IsGroup o paths) groups g (has_changed o g.sizes) so-far.groups made.group);
      before = rw c.in_ok-keep.ensures (All-kept (λ (h : Group). h.to ≤ g.to) groups g (has_changed o g.sizes) (end-before groups c.loop-from.from g.to (omega (arith, from, made.group.some)) so-far.before) (omega arith));
      rise = rw c.in_ok-keep.ensures (rise-kept groups g (has_changed o g.sizes) (begin-before o paths groups g.from so-far.groups (subst (λ n. All (λ (h : Group). h.to ≤ n) groups) (sym from) so-far.before)) so-far.rise);
      within = made.group.within;
    }

pub returns-clause-entries : goal.returns-clause-entries
returns-clause-entries c =
    sym (none-left c.args.levels.options c.args.level c.args.paths.now c.loop-from.from (map (group_entry c.args.level c.args.paths.now) c.loop-from.groups.items) (omega arith)) ∙ c.loop-from.invariant.entries
