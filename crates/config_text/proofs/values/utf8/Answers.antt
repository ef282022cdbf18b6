use Rattle.config_text.proofs.ValueLemmas.{text_ok, text_bad}
use Rattle.config_text.proofs.values.utf8.Goals as goal

pub returns-in-Ok : goal.returns-in-Ok
returns-in-Ok c = text_ok c.args.value.now.at c.args.value.now.bytes.items c.as_slice.result.now c.in-Ok.text.now c.as_slice.ensures.value c.in-Ok.ensures.cases.0 c.in-Ok.ensures.cases.1

pub returns-in-Err : goal.returns-in-Err
returns-in-Err c = text_bad c.args.value.now.at c.args.value.now.bytes.items c.as_slice.result.now c.as_slice.ensures.value c.in-Err.ensures.cases.0
