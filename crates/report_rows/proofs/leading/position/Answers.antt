use Rattle.std.proofs.Common.{◌≡◌, ◌-◌, ℕ, false, length, get_or, drop, subst, sym, ◌∙◌, arith}
use Rattle.std.specs.Prelude.{All}
use Rattle.std.specs.Ordering.{is_lt}
use Rattle.std.proofs.lemmas.List.{length-drop, length-take}
use Rattle.report_rows.specs.declared.groups.Group.{Group}
use Rattle.report_rows.specs.Groups.{group_cmp}
use Rattle.report_rows.proofs.GroupLemmas.{any_group}
use Rattle.report_rows.proofs.InsertLemmas.{All-drop_less, none-after}
use Rattle.report_rows.proofs.LeadingLemmas.{above-in-order, group-total, upto-in-order}
use Rattle.report_rows.proofs.leading.position.Goals as goal

pub loop-index-init : goal.loop-index-init
loop-index-init c = record { within = omega arith; after = λ k d lt. absurd (omega (arith, length-drop (length c.args.kept.now) c.args.kept.now)) }

pub returns-then-is_le-clause-before : goal.returns-then-is_le-clause-before
returns-then-is_le-clause-before c = λ sorted.
    let last = get_or c.args.kept.now (c.loop-index.index - 1) any_group in
    none-after group_cmp group-total c.args.kept.now c.loop-index.index c.args.group.now _ sorted (omega arith) c.loop-index.invariant.within (upto-in-order last c.args.group.now _ c.cmp.ensures (sym c.is_le.ensures ∙ c.if-is_le.true))

pub loop-index-preserved : goal.loop-index-preserved
loop-index-preserved c =
    let P : Group → Type 0 = λ g. is_lt (group_cmp g c.args.group.now) ≡ false in
    let last = get_or c.args.kept.now (c.loop-index.index - 1) any_group in
    record {
      within = omega arith;
      after = All-drop_less P c.loop-index.index c.args.kept.now _ (omega arith) c.loop-index.invariant.within (above-in-order last c.args.group.now _ c.cmp.ensures (sym c.is_le.ensures ∙ c.if-is_le.false)) c.loop-index.invariant.after;
    }

pub returns-clause-before : goal.returns-clause-before
returns-clause-before c = λ sorted k d lt. absurd (omega (arith, length-take 0 c.args.kept.now))

pub returns-clause-after : goal.returns-clause-after
returns-clause-after c =
    let none : c.loop-index.index ≡ 0 = omega arith in
    subst (λ (n : ℕ). All (λ (g : Group). is_lt (group_cmp g c.args.group.now) ≡ false) (drop n c.args.kept.now)) none c.loop-index.invariant.after
