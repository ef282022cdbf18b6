use Rattle.std.proofs.Common.{◌∙◌, ◌+◌, ap, drop, pos, sym}
use Rattle.dwarf_abbrev.specs.declared.spec.Spec.{Spec}
use Rattle.dwarf_abbrev.specs.Values.{shown}
use Rattle.dwarf_units.specs.Filling.{filled_from}
use Rattle.dwarf_units.specs.Roots.{RootRecord, shown_root}
use Rattle.dwarf_units.proofs.RootLemmas.{listed_more}
use Rattle.dwarf_units.proofs.roots.read_listed.Goals as goal

abbrev none : Spec
none = record { attribute = 0; form = 0; constant = pos 0 }

pub loop-spec-preserved : goal.loop-spec-preserved
loop-spec-preserved c =
    c.loop-spec.invariant
    ∙ listed_more c.args.shape.now c.args.specs.now c.loop-spec.spec-index none c.loop-spec.cursor c.read_form.new.cursor (shown c.in_ok-value.value) (shown_root c.loop-spec.root) c.loop-spec-test.true c.in_ok-value.ensures
    ∙ ap (λ (r : RootRecord). filled_from c.args.shape.now (drop (c.loop-spec.spec-index + 1) c.args.specs.now) c.read_form.new.cursor r) (sym c.add_value.ensures)
