-- Drafts, as the parser holds them.
use Rattle.std.specs.Prelude.{◌≡◌, ◌<◌, ◌≤◌, ℕ, Bool, true, false, List, [], ◌∷◌, length, Result, Ok, Err, if◌then◌else◌}
use Rattle.config_text.specs.declared.config.CustomSource.{CustomSource}
use Rattle.config_text.specs.declared.config.ConfigAnswer.{ConfigAnswer}
use Rattle.config_text.specs.declared.draft.SourceParts.{SourceParts}
use Rattle.config_text.specs.declared.draft.RewriteParts.{RewriteParts}
use Rattle.config_text.specs.Tokens.{Placed, Place, ahead, Word, Mark, End}
use Rattle.config_text.specs.Grammar.{Fault, State, Level, Draft, no_source, no_rewrite, Opening, Separated, InSource}
use Rattle.config_text.specs.Config.{sources_from, sources_after}
use Rattle.config_text.specs.Outcomes.{Carries}
use Rattle.config_text.specs.Reads.{IsAhead, is_other}
use Rattle.config_text.specs.declared.reader.Next.{Next}
use Rattle.config_text.specs.declared.reader.Next.TheVariants as next

-- A draft between sources.
abbrev pub in_file : List CustomSource → ℕ → Draft
in_file sources begun = record { sources = sources; begun = begun; source = no_source; rewrite = no_rewrite }

-- A draft in a source.
abbrev pub in_source : List CustomSource → ℕ → SourceParts → Draft
in_source sources begun parts = record { sources = sources; begun = begun; source = parts; rewrite = no_rewrite }

-- A draft in a rewrite.
abbrev pub in_rewrite : Draft → RewriteParts → Draft
in_rewrite d parts = record d { rewrite = parts }

-- The sources with those of the rest if another source begins, or else the sources that were read.
abbrev pub goes_on : List Placed → Draft → Bool → Result (List CustomSource) Fault
goes_on ts d begins = (if begins then sources_from ts (Opening InSource) d else Ok d.sources)

-- A field was read. `begun` is the state after its name, and `d` the draft after its value.
abbrev pub ReadsField : {X : Type 0} → Result X ConfigAnswer → Place → Place → Result State Fault → Level → Draft → Type 0
ReadsField result old new begun level d = Carries result (sources_after (ahead old) begun)
    (λ _. sources_from (ahead new) (Separated level) d)

-- The next token is the one that was found.
abbrev pub Shows : Next → Place → Place → Type 0
Shows (next.Word word) old new = ahead old ≡ (word.at, Word word.name.now) ∷ ahead new
Shows (next.Mark at byte) old new = ahead old ≡ (at, Mark byte) ∷ ahead new
Shows (next.End at) old new = ahead old ≡ (at, End) ∷ []
Shows (next.Other at) old new = IsAhead is_other at (ahead old)

-- The rest gets no longer, and it gets shorter if a name or a mark is read.
abbrev pub LeavesLess : Next → Place → Place → Type 0
LeavesLess (next.Word word) old new = length new.rest < length old.rest
LeavesLess (next.Mark at byte) old new = length new.rest < length old.rest
LeavesLess (next.End at) old new = length new.rest ≤ length old.rest
LeavesLess (next.Other at) old new = length new.rest ≤ length old.rest

-- If another source begins, a name was read, so the rest is shorter.
abbrev pub PassesName : Result Bool ConfigAnswer → Place → Place → Type 0
PassesName (Ok true) old new = length new.rest < length old.rest
PassesName (Ok false) old new = Unit {0}
PassesName (Err e) old new = Unit {0}
