-- One more data source has its rewrites compiled, or one of its patterns isn't.
use Rattle.std.proofs.Common.{suc, length, take, drop, refl, ap, append_assoc, arith}
use Rattle.std.proofs.lemmas.List.{length-append}
use Rattle.std.proofs.lemmas.List.Elements.{All-append}
use Rattle.std.proofs.lemmas.Result.{err_from_is_err_and}
use Rattle.config_text.specs.declared.config.Rewrite.{Rewrite}
use Rattle.custom_rewrites.specs.Pattern.{IsPattern}
use Rattle.custom_rewrites.specs.Rewriting.{patterns_in}
use Rattle.file_profile.specs.Patterns.{rewrites_of}
use Rattle.run_plan.proofs.BuildLemmas.{plan-follows, plan-part, plan-stops}
use Rattle.run_plan.proofs.PlanLemmas.{cause-more, front-more, lists-more, patterns-more, patterns-whole}
use Rattle.run_plan.proofs.patterns.rewrites_of.Goals as goal

pub returns-in_err-made : goal.returns-in_err-made
returns-in_err-made g c =
    let p = err_from_is_err_and c.from_residual.result c.from_residual.ensures.1 in
    let i = c.loop-source.source-index in
    let inv = c.loop-source.invariant in
    let made = c.in_err-made.ensures in
    let more = cause-more c.args.custom.now i c.source-item.result (omega arith) c.source-item.is c.loop-source.first _ _ _ _ inv.number inv.read inv.plans.rises c.in_err-made.field-0.0 made.cause in
    rw (p.1, p.2) (record {
      same = tt;
      read = tt;
      cause = more.0;
      patterns = plan-stops _ (patterns-whole c.args.custom.now i c.source-item.result (omega arith) c.source-item.is) more.1 inv.plans made.patterns;
    })

pub returns-in_default : goal.returns-in_default
returns-in_default g c = record {
  same = tt;
  read = tt;
  cause = tt;
  patterns = plan-part _ (patterns-whole c.args.custom.now c.loop-source.source-index c.source-item.result (omega arith) c.source-item.is) c.loop-source.invariant.plans;
}

pub returns-in_err-push : goal.returns-in_err-push
returns-in_err-push g c =
    let p = err_from_is_err_and c.from_residual-in_err-push.result c.from_residual-in_err-push.ensures.1 in
    let i = c.loop-source.source-index in
    let whole = patterns-whole c.args.custom.now i c.source-item.result (omega arith) c.source-item.is in
    let rest = patterns_in (rewrites_of (drop (suc i) c.args.custom.now)) in
    rw (p.1, p.2) (record {
      same = tt;
      read = tt;
      cause = tt;
      patterns = plan-part {a = record { patterns = _; upto = λ n. n }} {x = c.loop-source.first} rest (rw append_assoc whole) (plan-follows refl c.loop-source.invariant.plans c.in_ok-made.ensures.patterns);
    })

pub loop-source-preserved : goal.loop-source-preserved
loop-source-preserved g c =
    let x = c.source-item.result in
    let i = c.loop-source.source-index in
    let inv = c.loop-source.invariant in
    let made = c.in_ok-made.ensures in
    let front = rewrites_of (take i c.args.custom.now) in
    let more = front-more c.args.custom.now i x (omega arith) c.source-item.is in
    rw c.in_ok-push.ensures.items (record {
      number = omega (arith, inv.number, c.in-Some.ensures.1, c.len.ensures, ap length more, length-append front x.rewrites);
      same = rw (inv.same, made.same) (lists-more c.args.custom.now i x (omega arith) c.source-item.is);
      read = rw more (All-append (λ (r : Rewrite). IsPattern r.pattern) front x.rewrites inv.read made.read);
      plans = plan-follows (patterns-more c.args.custom.now i x (omega arith) c.source-item.is) inv.plans made.patterns;
    })
