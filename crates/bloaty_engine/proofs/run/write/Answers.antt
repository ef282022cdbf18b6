-- The report is written, or a write failed.
use Rattle.std.proofs.Common.{inl, inr, refl}
use Rattle.bloaty_engine.proofs.run.write.Goals as goal

pub returns-in-Ok : goal.returns-in-Ok
returns-in-Ok g c =
    let wrote = c.in-Ok.ensures.writes in
    record { done = λ e. wrote.whole; part = λ e. cc e; out = record { failed = λ e. cc e; sound = λ e. wrote.sound }; other = inl refl }

pub returns-in-Err : goal.returns-in-Err
returns-in-Err g c =
    let wrote = c.in-Err.ensures.writes in
    record { done = λ e. cc e; part = λ e. wrote.part; out = record { failed = λ e. wrote.failed; sound = λ e. absurd (e refl) }; other = inr refl }
