use Rattle.custom_rewrites.proofs.PatternLemmas.{no_pattern, is_pattern}
use Rattle.custom_rewrites.proofs.pattern.LabelPattern.of.Goals as goal

pub returns-in-Err-Syntax-clause-syntax : goal.returns-in-Err-Syntax-clause-syntax
returns-in-Err-Syntax-clause-syntax c h =
    let right = rw c.in-Err-Syntax.field-0-is at c.in-Err-Syntax.ensures.kind in
    no_pattern c.args.pattern.now c.in-Err-Syntax.field-0-0.kind
    (c.in-Err-Syntax.ensures.refused c.in-Err-Syntax.field-0-0 c.in-Err-Syntax.field-0-is) right

pub returns-in-Ok-clause-ok : goal.returns-in-Ok-clause-ok
returns-in-Ok-clause-ok c =
    let made = c.in-Ok.ensures in
    (made.source, is_pattern c.in-Ok.regex c.args.pattern.now made.source made.config made.read)
