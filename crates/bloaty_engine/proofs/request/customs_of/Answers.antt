-- The configuration is read and parsed, if the options name one.
use Rattle.std.proofs.Common.{Ok}
use Rattle.std.proofs.lemmas.Result.{err_from_is_err_and}
use Rattle.bloaty_engine.proofs.ConfigLemmas.{config-ends, config-none, config-then, customs-parsed}
use Rattle.bloaty_engine.proofs.request.customs_of.Goals as goal

pub returns-in_default : goal.returns-in_default
returns-in_default g c = config-none g.F.Files c.in_default.is c.new.ensures.items

pub returns-in_err-text : goal.returns-in_err-text
returns-in_err-text g c =
    let p = err_from_is_err_and c.from_residual.result c.from_residual.ensures.1 in
    rw (p.1, p.2) (config-ends g.F.Files c.in-Some.is c.min-limit.ensures (rw c.as_str.ensures at c.in_err-text.ensures))

pub returns-in-Ok : goal.returns-in-Ok
returns-in-Ok g c =
    let file = rw c.as_str.ensures at c.in_ok-text.ensures in
    let read = rw c.deref.ensures.value at c.in-Ok.ensures.read in
    config-then g.F.Files c.in-Some.is c.min-limit.ensures (Ok c.in-Ok.customs) file (λ i late e. absurd e) (λ within. customs-parsed c.args.run.now.limits c.in-Some.name c.in_ok-text.text.items _ within read)

pub returns-in-Err-Bad : goal.returns-in-Err-Bad
returns-in-Err-Bad g c =
    let file = rw c.as_str.ensures at c.in_ok-text.ensures in
    let read = rw (c.deref.ensures.value, c.in-Err-Bad.field-0-is) at c.in-Err-Bad.ensures.read in
    config-then g.F.Files c.in-Some.is c.min-limit.ensures _ file (λ i late e. e) (λ within. customs-parsed c.args.run.now.limits c.in-Some.name c.in_ok-text.text.items _ within read)

pub returns : goal.returns
returns g c =
    let file = rw c.as_str.ensures at c.in_ok-text.ensures in
    config-then g.F.Files c.in-Some.is c.min-limit.ensures _ file (λ i late e. absurd e) (λ within. tt)
