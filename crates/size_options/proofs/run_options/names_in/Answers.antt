use Rattle.std.proofs.Common.{rules, arith}
use Rattle.std.proofs.lemmas.Str.Pattern.{split_parts}
use Rattle.size_options.proofs.NameLemmas.{more_names, last_name}
use Rattle.size_options.proofs.run_options.names_in.Goals as goal

pub names-preserved : goal.names-preserved
names-preserved c =
    let parts = rw c.in-Some.is at (split_parts 44 c.names.left.now c.split_once.result c.split_once.ensures.cases (omega arith)) in
    record {
      text = search rules;
      parts = more_names c.args.list.now c.names.left.now c.in-Some.name.now c.in-Some.rest.now c.names.names c.push.new.self c.names.invariant.parts parts.0 parts.1 c.in_ok-of.ensures c.in_ok-push.ensures.ok;
    }

pub returns : goal.returns
returns c =
    let whole = rw c.in_default.is at (split_parts 44 c.names.left.now c.split_once.result c.split_once.ensures.cases (omega arith)) in
    last_name c.args.list.now c.names.left.now c.names.names c.push-2.new.self c.in_ok-of-2.field-0 c.names.invariant.parts whole c.in_ok-of-2.ensures c.in_ok-push-2.ensures.ok
