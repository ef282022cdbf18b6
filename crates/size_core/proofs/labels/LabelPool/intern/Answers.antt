-- A label that the look-up finds, and one that is appended.
use Rattle.std.proofs.Common.{rules, ◌≡◌, sym}
use Rattle.size_core.proofs.LabelLemmas.{had, added}
use Rattle.size_core.proofs.labels.LabelPool.intern.Goals as goal

pub returns-in-Some-clause-pool : goal.returns-in-Some-clause-pool
returns-in-Some-clause-pool c =
    let found = c.in-Some.ensures in
    rw (← c.self.view_is) rw (← c.make_room.ensures.same) (had (λ v. v.items) c.args.label.now c.make_room.new.labels.keys c.in-Some.index c.in-Some.field-0-1.now found.found (sym found.key) found.stored).0

pub returns-in-Some-clause-number : goal.returns-in-Some-clause-number
returns-in-Some-clause-number c =
    let found = c.in-Some.ensures in
    (had (λ v. v.items) c.args.label.now c.make_room.new.labels.keys c.in-Some.index c.in-Some.field-0-1.now found.found (sym found.key) found.stored).1

pub returns-clause-pool : goal.returns-clause-pool
returns-clause-pool c =
    let same : c.in_ok-owned.owned.items ≡ c.args.label.now = search rules in
    let put = c.in_ok-index.ensures in
    rw (← c.self.view_is) rw (← c.make_room.ensures.same) (added (λ v. v.items) c.args.label.now c.make_room.new.labels.keys c.insert_full.new.self.keys c.in_ok-index.index c.in_ok-owned.owned put.stored.0 same c.in_default.ensures.found put.keys put.stored.1 put.stored.2).0

pub returns-clause-number : goal.returns-clause-number
returns-clause-number c =
    let same : c.in_ok-owned.owned.items ≡ c.args.label.now = search rules in
    let put = c.in_ok-index.ensures in
    (added (λ v. v.items) c.args.label.now c.make_room.new.labels.keys c.insert_full.new.self.keys c.in_ok-index.index c.in_ok-owned.owned put.stored.0 same c.in_default.ensures.found put.keys put.stored.1 put.stored.2).1
