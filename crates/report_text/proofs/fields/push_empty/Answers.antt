use Rattle.std.proofs.Common.{◌++◌, [], map, replicate, arith}
use Rattle.report_text.proofs.TextLemmas.{fields-none, fields-more, until}
use Rattle.report_text.proofs.fields.push_empty.Goals as goal

pub loop-field-init : goal.loop-field-init
loop-field-init c = fields-none (map (λ f. f.now) c.args.fields.now.items)

pub loop-field-preserved : goal.loop-field-preserved
loop-field-preserved c =
    fields-more (map (λ f. f.now) c.args.fields.now.items) (map (λ f. f.now) c.loop-field.fields.items) (map (λ f. f.now) c.push.new.fields.items) c.loop-field._field c.loop-field.invariant c.in_ok-push.ensures

pub returns : goal.returns
returns c = until (λ n. map (λ f. f.now) c.args.fields.now.items ++ replicate n []) (map (λ f. f.now) c.loop-field.fields.items) c.loop-field._field c.args.count c.loop-field.invariant (omega arith)
