-- The filter is compiled, or it isn't.
use Rattle.std.proofs.Common.{Some, refl, sym, ap, arith}
use Rattle.std.proofs.lemmas.List.{append-nil}
use Rattle.run_plan.proofs.FirstLemmas.{adds-all}
use Rattle.run_plan.proofs.patterns.filter_of.Goals as goal

pub returns-in_default : goal.returns-in_default
returns-in_default g c =
    rw c.in_default.is (record {
      same = refl;
      read = tt;
      cause = tt;
      patterns = record { built = sym (append-nil _); kept = refl; rises = omega arith; sound = λ q. refl };
    })

pub returns-in-Ok : goal.returns-in-Ok
returns-in-Ok g c =
    let build = rw c.as_str.ensures at c.in-Ok.ensures in
    rw c.in-Some.is (record {
      same = ap Some build.ok.0;
      read = build.ok.1;
      cause = tt;
      patterns = record { built = build.built; kept = build.kept (λ e. cc e); rises = build.rises; sound = λ q. build.uncounted (λ e. cc e) };
    })

pub returns-in-Err-Syntax : goal.returns-in-Err-Syntax
returns-in-Err-Syntax g c =
    let build = rw (c.as_str.ensures, c.in-Err-Syntax.field-0-is) at c.in-Err-Syntax.ensures in
    rw c.in-Some.is (record {
      same = tt;
      read = tt;
      cause = (refl, c.in-Some.text.now, refl, build.syntax refl);
      patterns = record { built = adds-all _ _ _ build.built; kept = build.kept (λ e. cc e); rises = build.rises; sound = λ q. build.uncounted (λ e. cc e) };
    })

pub returns-in-Err-TooBig : goal.returns-in-Err-TooBig
returns-in-Err-TooBig g c =
    let build = rw (c.as_str.ensures, c.in-Err-TooBig.field-0-is) at c.in-Err-TooBig.ensures in
    let refused = build.too_big refl in
    rw c.in-Some.is (record {
      same = tt;
      read = tt;
      cause = (refl, ap Some (sym refused.1), refused.0);
      patterns = record { built = (adds-all _ _ _ build.built, (g.P.Patterns.built c.args.patterns.now, rw refused.1 build.built)); kept = tt; rises = build.rises; sound = λ q. cc q };
    })

pub returns-in-Err-NoMemory : goal.returns-in-Err-NoMemory
returns-in-Err-NoMemory g c =
    let build = rw (c.as_str.ensures, c.in-Err-NoMemory.field-0-is) at c.in-Err-NoMemory.ensures in
    rw c.in-Some.is (record {
      same = tt;
      read = tt;
      cause = tt;
      patterns = record { built = (1, adds-all _ _ _ build.built); kept = build.kept (λ e. cc e); rises = build.rises; sound = λ q. build.uncounted (λ e. cc e) };
    })
