-- A run is that of its options, or it ends at its arguments.
use Rattle.std.proofs.Common.{refl}
use Rattle.bloaty_engine.proofs.BuildLemmas.{asked-nothing}
use Rattle.bloaty_engine.proofs.LineLemmas.{line-printed}
use Rattle.bloaty_engine.proofs.RunLemmas.{no-memory-run, usage-run}
use Rattle.bloaty_engine.proofs.StepLemmas.{unread-no-memory, unread-usage}
use Rattle.bloaty_engine.proofs.run.bloaty.Goals as goal

pub returns-in-Ok-clause-run : goal.returns-in-Ok-clause-run
returns-in-Ok-clause-run g c = rw c.in-Ok.ensures.asked c.answer-outcome.ensures.run

pub returns-in-Ok-clause-patterns : goal.returns-in-Ok-clause-patterns
returns-in-Ok-clause-patterns g c = rw c.in-Ok.ensures.asked c.answer-outcome.ensures.patterns

pub returns-in-Ok-clause-files : goal.returns-in-Ok-clause-files
returns-in-Ok-clause-files g c = rw c.in-Ok.ensures.asked c.answer-outcome.ensures.files

pub returns-in-Ok-clause-err : goal.returns-in-Ok-clause-err
returns-in-Ok-clause-err g c = rw c.in-Ok.ensures.asked (line-printed c.tell.ensures.writes c.tell.ensures.silent)

pub returns-in-Err-Usage-clause-err : goal.returns-in-Err-Usage-clause-err
returns-in-Err-Usage-clause-err g c = line-printed c.tell_usage.ensures.writes (λ e. cc)

pub returns-in-Err-NoMemory-clause-err : goal.returns-in-Err-NoMemory-clause-err
returns-in-Err-NoMemory-clause-err g c = line-printed c.tell_no_memory.ensures.writes (λ e. cc)

pub returns-in-Err-Usage-clause-run : goal.returns-in-Err-Usage-clause-run
returns-in-Err-Usage-clause-run g c =
    let refused = rw c.in-Err-Usage.field-0-is at c.in-Err-Usage.ensures.refused in
    rw c.in-Err-Usage.kind-is (usage-run _ _ _ _ _ _ c.in-Err-Usage.kind refused)

pub returns-in-Err-Usage-clause-words : goal.returns-in-Err-Usage-clause-words
returns-in-Err-Usage-clause-words g c =
    let refused = rw c.in-Err-Usage.field-0-is at c.in-Err-Usage.ensures.refused in
    rw c.in-Err-Usage.kind-is (λ words. refused.not_taken (cc words))

pub returns-in-Err-Usage-clause-files : goal.returns-in-Err-Usage-clause-files
returns-in-Err-Usage-clause-files g c = unread-usage g.F.Files _ _ _

pub returns-in-Err-Usage-clause-patterns : goal.returns-in-Err-Usage-clause-patterns
returns-in-Err-Usage-clause-patterns g c = asked-nothing g.P.Patterns _ _ _ _ _ _ refl

pub returns-in-Err-Usage-clause-out : goal.returns-in-Err-Usage-clause-out
returns-in-Err-Usage-clause-out g c = record { failed = λ e. cc e; sound = λ e. refl }

pub returns-in-Err-NoMemory-clause-run : goal.returns-in-Err-NoMemory-clause-run
returns-in-Err-NoMemory-clause-run g c = no-memory-run _ _ _ _ _ _

pub returns-in-Err-NoMemory-clause-files : goal.returns-in-Err-NoMemory-clause-files
returns-in-Err-NoMemory-clause-files g c = unread-no-memory g.F.Files _ _

pub returns-in-Err-NoMemory-clause-patterns : goal.returns-in-Err-NoMemory-clause-patterns
returns-in-Err-NoMemory-clause-patterns g c = asked-nothing g.P.Patterns _ _ _ _ _ _ refl

pub returns-in-Err-NoMemory-clause-out : goal.returns-in-Err-NoMemory-clause-out
returns-in-Err-NoMemory-clause-out g c = record { failed = λ e. cc e; sound = λ e. refl }
