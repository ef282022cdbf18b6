use Rattle.std.proofs.Common.{◌∙◌, sym, ap, get_or, []}
use Rattle.size_growth.specs.declared.row.GrowthKind.{GrowthKind}
use Rattle.size_growth.specs.declared.row.GrowthKind.TheVariants.{Label}
use Rattle.size_growth.specs.declared.row.GrowthRow.{GrowthRow}
use Rattle.size_growth.specs.GroupKinds.{kind_of}
use Rattle.size_growth.specs.Groups.{labels_at}
use Rattle.report_rows.proofs.RowLemmas.{label_at}
use Rattle.size_growth.specs.declared.growth.GrowthPath.{GrowthPath}
use Rattle.size_growth.proofs.listing.make_row.Goals as goal
use Rattle.size_growth.proofs.listing.make_row.Goals.{in-Label+in_ok-copy-in-Label, in-Others}

pub returns : goal.returns
returns c =
    let label = get_or (labels_at c.args.level c.args.paths.now) c.args.group.now.from [] in
    let row : GrowthKind → GrowthRow = λ k. record { level = c.args.level; kind = k; sizes = c.args.group.now.sizes } in
    elim c.match-group.branch [
      | in-Label+in_ok-copy-in-Label w ↦
          ap row (w.kind-is
          ∙ (ap Label (w.in_ok-copy-in-Label.ensures ∙ sym (label_at (λ (p : GrowthPath). p.path) c.args.paths.now c.args.level c.args.group.now.from w.index-paths-group.result w.get.result.now (c.requires.some w.in-Label.is) w.get.ensures))
          ∙ sym (ap (kind_of label) w.in-Label.is)))
      | in-Others w ↦ ap row (w.kind-is ∙ sym (ap (kind_of label) w.in-Others.is))
    ]
