use Rattle.std.proofs.Common.{◌≡◌, ◌≤◌, ◌∙◌, List, Some, Ok, Result, length, ap, sym, subst, rules}
use Rattle.std.specs.Option.{option_map}
use Rattle.size_core.specs.Checks.{Gives}
use Rattle.size_core.specs.declared.fault.BadFile.{BadFile}
use Rattle.dwarf_abbrev.specs.declared.spec.Spec.{Spec}
use Rattle.dwarf_units.specs.Filling.{filled_from, root_code, specs_at}
use Rattle.dwarf_units.specs.Roots.{RootRecord, root_in, shown_root}
use Rattle.dwarf_units.proofs.RootLemmas.{root_listed, root_unlisted}
use Rattle.dwarf_units.proofs.unit.DwarfUnit.root_by.Goals as goal

pub returns-in-Some-get : goal.returns-in-Some-get
returns-in-Some-get c =
    let reads : root_code c.args.self.now ≡ Ok (Some (c.in-Some.code, c.in-Some.cursor)) = search rules in
    let within : c.in-Some.cursor.at ≤ length c.in-Some.cursor.bytes = search rules in
    let has = ap (option_map (λ v. v.items)) (sym c.in-Some-get.ensures.value) in
    let gives : filled_from c.args.self.now.shape c.deref.result.now c.in-Some.cursor (shown_root c.bare_root-root.result) ≡ root_in c.args.table.now c.args.self.now =
    ap (λ (specs : List Spec). filled_from c.args.self.now.shape specs c.in-Some.cursor (shown_root c.bare_root-root.result)) c.deref.ensures.value
    ∙ ap (λ (r : RootRecord). filled_from c.args.self.now.shape c.in-Some-get.specs.now.items c.in-Some.cursor r) c.bare_root-root.ensures
    ∙ sym (root_listed c.args.table.now c.args.self.now (specs_at c.args.index.now) c.in-Some.code c.in-Some.cursor c.in-Some-get.specs.now.items c.requires reads has within) in
    subst (λ (r : Result RootRecord BadFile). Gives shown_root c.read_listed.result r) gives c.read_listed.ensures

pub returns-in-None : goal.returns-in-None
returns-in-None c =
    let reads : root_code c.args.self.now ≡ Ok (Some (c.in-Some.code, c.in-Some.cursor)) = search rules in
    let has = ap (option_map (λ v. v.items)) (sym c.in-None.ensures.value) in
    let gives = root_unlisted c.args.table.now c.args.self.now (specs_at c.args.index.now) c.in-Some.code c.in-Some.cursor c.requires reads has in
    subst (λ (r : Result RootRecord BadFile). Gives shown_root c.undeclared.result r) (sym gives) c.undeclared.ensures
