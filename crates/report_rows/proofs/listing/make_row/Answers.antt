use Rattle.std.proofs.Common.{◌∙◌, sym, ap, get_or, [], Bor}
use Rattle.path_rows.specs.declared.row.RollupRow.{RollupRow}
use Rattle.report_rows.specs.declared.row.RowKind.{RowKind}
use Rattle.report_rows.specs.declared.row.RowKind.TheVariants.{Label}
use Rattle.report_rows.specs.declared.row.Row.{Row}
use Rattle.report_rows.specs.GroupKinds.{kind_of}
use Rattle.report_rows.specs.Groups.{labels_at}
use Rattle.report_rows.proofs.GroupLemmas.{seen}
use Rattle.report_rows.proofs.RowLemmas.{label_at, seen-labels}
use Rattle.report_rows.proofs.listing.make_row.Goals as goal
use Rattle.report_rows.proofs.listing.make_row.Goals.{in-Label+in_ok-copy-in-Label, in-Others}

pub returns : goal.returns
returns c =
    let label = get_or (labels_at c.args.level (seen c.args.rows.now)) c.args.group.now.from [] in
    let row : RowKind → Row = λ k. record { level = c.args.level; kind = k; vm = c.args.group.now.vm; file = c.args.group.now.file } in
    elim c.match-group.branch [
      | in-Label+in_ok-copy-in-Label w ↦
          ap row (w.kind-is
          ∙ (ap Label (w.in_ok-copy-in-Label.ensures ∙ sym (ap (λ ls. get_or ls c.args.group.now.from []) (seen-labels c.args.level c.args.rows.now) ∙ label_at (λ (r : Bor RollupRow). r.now.path) c.args.rows.now c.args.level c.args.group.now.from w.index-rows-group.result w.get.result.now (c.requires.some w.in-Label.is) w.get.ensures))
          ∙ sym (ap (kind_of label) w.in-Label.is)))
      | in-Others w ↦ ap row (w.kind-is ∙ sym (ap (kind_of label) w.in-Others.is))
    ]
