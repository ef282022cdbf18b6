use Rattle.std.proofs.Common.{ap, ◌∙◌}
use Rattle.path_rows.specs.Parts.{Parts}
use Rattle.path_rows.specs.Paths.{row_cmp}
use Rattle.path_rows.proofs.Words.{words_decide}
use Rattle.path_rows.proofs.tree.Branch.compare.Goals as goal

pub returns-in_default : goal.returns-in_default
returns-in_default c =
    let first = c.self.inside.row in
    let second = c.other.inside.row in
    c.cmp.ensures
    ∙ (words_decide first.path second.path c.self.inside.word c.other.inside.word c.self.invariant.1 c.other.invariant.1 (λ same. c.in_default.not-Equal (c.cmp.ensures ∙ same))
    ∙ (ap (λ (p : Parts). row_cmp p.row second) c.self.view_is ∙ ap (λ (p : Parts). row_cmp c.args.self.now.row p.row) c.other.view_is))
