use Rattle.std.proofs.Common.{◌∙◌, List, ap, sym}
use Rattle.dwarf_abbrev.specs.declared.spec.Spec.{Spec}
use Rattle.dwarf_abbrev.specs.Values.{shown}
use Rattle.dwarf_units.specs.Filling.{filled_from}
use Rattle.dwarf_units.specs.Roots.{RootRecord, shown_root}
use Rattle.dwarf_units.proofs.RootLemmas.{filled_more}
use Rattle.dwarf_units.proofs.roots.read_values.Goals as goal

pub loop-spec-preserved : goal.loop-spec-preserved
loop-spec-preserved c =
    c.loop-spec.invariant
    ∙ ap (λ (specs : List Spec). filled_from c.args.shape.now specs c.loop-spec.cursor (shown_root c.loop-spec.root)) c.in-Some.ensures.steps.0
    ∙ filled_more c.args.shape.now c.in-Some.spec c.next.new.self.specs c.loop-spec.cursor c.read_form.new.cursor (shown c.in_ok-value.value) (shown_root c.loop-spec.root) c.in_ok-value.ensures
    ∙ ap (λ (r : RootRecord). filled_from c.args.shape.now c.next.new.self.specs c.read_form.new.cursor r) (sym c.add_value.ensures)
