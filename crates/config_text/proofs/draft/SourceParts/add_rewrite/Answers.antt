use Rattle.std.proofs.Common.{◌≡◌, ap, sym, ◌∙◌, arith, ◌+◌, ◌∷◌, [], ◌++◌, ◌<◌, rules, List}
use Rattle.std.proofs.lemmas.Result.{err_from_is_err_and}
use Rattle.config_text.specs.declared.config.Rewrite.{Rewrite}
use Rattle.config_text.specs.Tokens.{ahead}
use Rattle.config_text.specs.Grammar.{Separated, InSource}
use Rattle.config_text.specs.Config.{sources_from}
use Rattle.config_text.specs.Drafts.{in_source}
use Rattle.config_text.proofs.ReadLemmas.{rewrite_goes_on}
use Rattle.config_text.proofs.draft.SourceParts.add_rewrite.Goals as goal

pub returns-in_err-made-clause-carries : goal.returns-in_err-made-clause-carries
returns-in_err-made-clause-carries c sources =
    let p = err_from_is_err_and c.from_residual.result c.from_residual.ensures.1 in
    let few : c.args.begun.now < 64 = omega arith in
    rw (p.1, p.2) (rw (rewrite_goes_on (ahead c.args.reader.now) sources c.args.begun.now c.args.at c.args.self.now few)
    (c.in_err-made.ensures.carries (in_source sources (c.args.begun.now + 1) c.args.self.now)))

pub returns-clause-carries : goal.returns-clause-carries
returns-clause-carries c sources =
    let few : c.args.begun.now < 64 = omega arith in
    let pushed : c.push.new.self ≡ c.args.self.now.rewrites ++ c.in_ok-made.made ∷ [] = search rules in
    rewrite_goes_on (ahead c.args.reader.now) sources c.args.begun.now c.args.at c.args.self.now few
    ∙ c.in_ok-made.ensures.carries (in_source sources (c.args.begun.now + 1) c.args.self.now)
    ∙ ap (λ (rs : List Rewrite). sources_from (ahead c.read_rewrite.new.reader) (Separated InSource)
    (in_source sources (c.args.begun.now + 1) (record c.args.self.now { rewrites = rs }))) (sym pushed)
