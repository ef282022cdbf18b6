use Rattle.std.proofs.Common.{rules, ◌≡◌, ◌∙◌}
use Rattle.clap.specs.Words.{app_of}
use Rattle.size_options.specs.Command.{profile_app}
use Rattle.size_options.proofs.CommandLemmas.{rows_are, not_taken, none_refused, some_refused}
use Rattle.size_options.proofs.matches.matches_of.Goals as goal

pub returns-in-Ok-clause-rows : goal.returns-in-Ok-clause-rows
returns-in-Ok-clause-rows c =
    let made : app_of c.in_ok-command.command ≡ profile_app = search rules in
    rows_are _ _ _ made c.in-Ok.ensures.matches

pub returns-in-Ok-clause-read : goal.returns-in-Ok-clause-read
returns-in-Ok-clause-read c =
    let made : app_of c.in_ok-command.command ≡ profile_app = search rules in
    none_refused _ _ c.try_get_matches_from.result _ made c.try_get_matches_from.ensures.kinds c.in-Ok.is

pub returns : goal.returns
returns c =
    let made : app_of c.in_ok-command.command ≡ profile_app = search rules in
    let unread = not_taken _ _ _ made c.in-Err.ensures.passes (λ h. c.in_default.not-OutOfMemory (c.kind.ensures ∙ h)) in
    let some = some_refused _ _ c.try_get_matches_from.result _ made c.try_get_matches_from.ensures.kinds c.in-Err.is
    (λ h. c.in_default.not-OutOfMemory (c.kind.ensures ∙ h)) in
    record { rows = tt; read = tt; unread = (unread, some) }
