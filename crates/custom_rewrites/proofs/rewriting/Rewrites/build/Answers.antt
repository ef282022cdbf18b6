use Rattle.std.proofs.Common.{refl, rules, ◌≡◌, ◌∙◌, ◌++◌, ◌∷◌, [], ◌<◌, ◌+◌, arith, length}
use Rattle.std.proofs.lemmas.Result.{err_from_is_err_and}
use Rattle.custom_rewrites.specs.declared.rewriting.RewriteAnswer.TheVariants.{NoMemory}
use Rattle.custom_rewrites.specs.declared.rewriting.Rewrites.{Rewrites}
use Rattle.custom_rewrites.proofs.CauseLemmas.{built_more, built_to, read_more, texts_more}
use Rattle.custom_rewrites.proofs.rewriting.Rewrites.build.Goals as goal

pub returns-in_err-built-clause-uncounted : goal.returns-in_err-built-clause-uncounted
returns-in_err-built-clause-uncounted g c =
    let p = err_from_is_err_and c.from_residual.result c.from_residual.ensures.1 in
    rw (p.1, p.2) (λ q. c.in_err-built.ensures.uncounted q ∙ c.rewrites.invariant.count)

pub returns-in_err-built-clause-built : goal.returns-in_err-built-clause-built
returns-in_err-built-clause-built g c =
    let p = err_from_is_err_and c.from_residual.result c.from_residual.ensures.1 in
    let lt : c.rewrites.place < length c.args.source.now.rewrites = omega arith in
    rw (p.1, p.2) (built_to c.args.source.now.rewrites c.rewrites.place c.get.result.now lt c.get.ensures _ _ _ c.rewrites.invariant.built c.in_err-built.ensures.built Rewrites _ _ _ _ c.in_err-built.field-0.0 c.in_err-built.ensures.answer)

pub returns-in_err-map_err-clause-built : goal.returns-in_err-map_err-clause-built
returns-in_err-map_err-clause-built g c =
    let p = err_from_is_err_and c.from_residual-in_err-map_err.result c.from_residual-in_err-map_err.ensures.1 in
    let is : c.in_err-map_err.field-0.0 ≡ NoMemory = search rules in
    let lt : c.rewrites.place < length c.args.source.now.rewrites = omega arith in
    rw (p.1, p.2, is)
    (c.rewrites.place + 1, omega arith, built_more c.args.source.now.rewrites c.rewrites.place c.get.result.now lt c.get.ensures _ _ _ c.rewrites.invariant.built c.in_ok-built.ensures.built)

pub rewrites-preserved : goal.rewrites-preserved
rewrites-preserved g c =
    let inv = c.rewrites.invariant in
    let made = c.in_ok-built.ensures.ok in
    let lt : c.rewrites.place < length c.args.source.now.rewrites = omega arith in
    let pushed : c.push.new.self.items ≡ c.rewrites.made.items ++ c.in_ok-built.built ∷ [] = search rules in
    record {
      within = omega arith;
      texts = texts_more c.args.source.now.rewrites c.rewrites.place c.get.result.now lt c.get.ensures
          (λ m. record { pattern = m.pattern; replacement = m.replacement }) c.rewrites.made.items _ c.in_ok-built.built pushed made.0 inv.texts;
      read = read_more c.args.source.now.rewrites c.rewrites.place c.get.result.now lt c.get.ensures inv.read made.1;
      last = made.2 ∙ inv.last;
      count = c.in_ok-built.ensures.uncounted refl ∙ inv.count;
      built = built_more c.args.source.now.rewrites c.rewrites.place c.get.result.now lt c.get.ensures _ _ _ inv.built c.in_ok-built.ensures.built;
    }
