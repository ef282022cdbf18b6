use Rattle.std.proofs.Common.{◌≡◌, ◌≤◌, ◌∙◌, Some, Ok, Result, length, ap, sym, subst, rules}
use Rattle.size_core.specs.Checks.{Gives}
use Rattle.size_core.specs.declared.fault.BadFile.{BadFile}
use Rattle.dwarf_units.specs.Filling.{filled_from, root_code}
use Rattle.dwarf_units.specs.Roots.{RootRecord, root_in, shown_root}
use Rattle.dwarf_units.proofs.RootLemmas.{root_known}
use Rattle.dwarf_units.proofs.unit.DwarfUnit.root_with.Goals as goal

pub returns : goal.returns
returns c =
    let unit = c.args.self.now in
    let reads : root_code unit ≡ Ok (Some (c.in-Some.field-0-0, c.in-Some.cursor)) = search rules in
    let within : c.in-Some.cursor.at ≤ length c.in-Some.cursor.bytes = search rules in
    let gives : filled_from unit.shape c.args.specs.now c.in-Some.cursor (shown_root c.bare_root-root.result) ≡ root_in c.args.table.now unit =
    ap (λ (r : RootRecord). filled_from unit.shape c.args.specs.now c.in-Some.cursor r) c.bare_root-root.ensures
    ∙ sym (root_known c.args.table.now unit c.in-Some.field-0-0 c.in-Some.cursor c.args.specs.now c.requires reads within) in
    subst (λ (r : Result RootRecord BadFile). Gives shown_root c.read_listed.result r) gives c.read_listed.ensures
