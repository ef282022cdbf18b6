use Rattle.std.proofs.Common.{◌∙◌, ap, map, subst, sym}
use Rattle.std.specs.Prelude.{All}
use Rattle.std.proofs.lemmas.List.Sorted.{All-permutation}
use Rattle.size_growth.specs.Groups.{IsGroup, IsRange, group_entry}
use Rattle.size_growth.proofs.EntryLemmas.{entries-are, have-ranges, left-fits}
use Rattle.size_growth.proofs.SortLemmas.{sorted-children}
use Rattle.size_growth.proofs.groups.entries.Goals as goal

pub limit-requires : goal.limit-requires
limit-requires c =
    let made = c.in_ok-groups.ensures in
    let sorted = c.sort_unstable in
    let every = All-permutation (IsGroup c.args.levels.options c.args.paths.now) c.in_ok-groups.groups.items sorted.new.self.items sorted.ensures.permutation made.groups in
    let are = sorted-children c.args.levels.options c.args.level c.args.paths.now c.in_ok-groups.groups.items sorted.new.self.items sorted.ensures.permutation sorted.ensures.sorted made.groups made.rise made.entries in
    left-fits c.args.levels.options c.args.level c.args.paths.now sorted.new.self.items every are c.args.levels.options.limit c.requires.part.fits

pub returns-clause-entries : goal.returns-clause-entries
returns-clause-entries c =
    let made = c.in_ok-groups.ensures in
    let sorted = c.sort_unstable in
    let every = All-permutation (IsGroup c.args.levels.options c.args.paths.now) c.in_ok-groups.groups.items sorted.new.self.items sorted.ensures.permutation made.groups in
    let are = sorted-children c.args.levels.options c.args.level c.args.paths.now c.in_ok-groups.groups.items sorted.new.self.items sorted.ensures.permutation sorted.ensures.sorted made.groups made.rise made.entries in
    ap (map (group_entry c.args.level c.args.paths.now)) c.in_ok-limit.ensures
    ∙ entries-are c.args.levels.options c.args.level c.args.paths.now sorted.new.self.items every are

pub returns-clause-ranges : goal.returns-clause-ranges
returns-clause-ranges c =
    let made = c.in_ok-groups.ensures in
    let sorted = c.sort_unstable in
    let every = All-permutation (IsGroup c.args.levels.options c.args.paths.now) c.in_ok-groups.groups.items sorted.new.self.items sorted.ensures.permutation made.groups in
    let are = sorted-children c.args.levels.options c.args.level c.args.paths.now c.in_ok-groups.groups.items sorted.new.self.items sorted.ensures.permutation sorted.ensures.sorted made.groups made.rise made.entries in
    subst (All (IsRange c.args.paths.now)) (sym c.in_ok-limit.ensures)
    (have-ranges c.args.levels.options c.args.level c.args.paths.now sorted.new.self.items every are)
