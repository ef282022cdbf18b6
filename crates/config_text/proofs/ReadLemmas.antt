-- What a reader's results say about the sources.
use Rattle.std.proofs.Common.{◌≡◌, ◌∙◌, ℕ, ◌+◌, ◌<◌, nat_lt, arith, if◌then◌else◌, List, ◌∷◌, Bool, true, false, Result, Ok, Err, refl, sym, ap}
use Rattle.config_text.specs.declared.config.CustomSource.{CustomSource}
use Rattle.config_text.specs.declared.config.ConfigKind.{ConfigKind}
use Rattle.config_text.specs.declared.config.ConfigKind.TheVariants.{TooMany}
use Rattle.config_text.specs.declared.config.ConfigAnswer.{ConfigAnswer}
use Rattle.config_text.specs.declared.config.ConfigAnswer.TheVariants.{Bad, NoMemory}
use Rattle.config_text.specs.Tokens.{Quoted, Placed, Between, spelled, joined, quoted_before, Place, ahead, tokens}
use Rattle.config_text.specs.Grammar.{Fault, ◌>>=◌, bad, Field, Draft, Opening, InRewrite, rewrite_begun, Colon, Value, Separated, level_of, with_value}
use Rattle.config_text.specs.Config.{sources_from, sources_after, sources_after_value}
use Rattle.config_text.specs.declared.draft.SourceParts.{SourceParts}
use Rattle.config_text.specs.Drafts.{in_source}
use Rattle.std.proofs.lemmas.Bool.Decides.{nat_tests}
use Rattle.config_text.specs.Outcomes.{Fails}
use Rattle.config_text.specs.Reads.{IsBroken, Passes}
use Rattle.config_text.proofs.TokenLemmas.{same_ahead}

pub broken_first : (p : Place) (e : ConfigAnswer) → IsBroken p.at (spelled p.rest Between p.at) e → IsBroken p.at (ahead p) e
unfolding tokens
broken_first p (Bad kind quote) h = (h.0, ap joined h.1)
broken_first p NoMemory h = tt

pub broken_later : (old p : Place) (v : List ℕ) (e : ConfigAnswer) → ahead old ≡ quoted_before old.at v (ahead p)
    → IsBroken p.at (spelled p.rest Between p.at) e → IsBroken old.at (ahead old) e
broken_later old p v (Bad kind quote) same h =
    let here = broken_first p (Bad kind quote) h in (h.0, same ∙ ap (quoted_before old.at v) here.1)
broken_later old p v NoMemory same h = tt

pub colon_passed : (old new after : Place) (b : Bool) → Passes 58 b old new → b ≡ true → spelled after.rest Between after.at ≡ spelled new.rest Between new.at
    → (field : Field) (d : Draft) → sources_from (ahead old) (Colon field) d ≡ sources_from (ahead after) (Value field) d
colon_passed old new after true passes is same field d =
    ap (λ (ts : List Placed). sources_from ts (Colon field) d) passes.1
    ∙ ap (λ (ts : List Placed). sources_from ts (Value field) d) (sym (same_ahead new after same))
colon_passed old new after false passes is same field d = cc

pub value_fails : (p : Place) (e : ConfigAnswer) → IsBroken p.at (ahead p) e → (field : Field) (d : Draft) → Fails e (sources_from (ahead p) (Value field) d)
value_fails p (Bad kind quote) h field d =
    ap (λ (ts : List Placed). sources_from ts (Value field) d) h.1
    ∙ ap (λ (k : ConfigKind). let r : Result (List CustomSource) Fault = Err (k, quote) in r) (sym h.0)
value_fails p NoMemory h field d = tt

given : (ts : List Placed) (field : Field) (r : Result Draft Fault)
    → sources_after ts (r >>= λ d. Ok (Separated (level_of field), d)) ≡ sources_after_value ts field r
given ts field (Ok d) = refl
given ts field (Err e) = refl

pub value_given : (p new : Place) (v : List ℕ) → ahead p ≡ (p.at, Quoted v) ∷ ahead new → (field : Field) (d : Draft)
    → sources_from (ahead p) (Value field) d ≡ sources_after_value (ahead new) field (with_value field d p.at v)
value_given p new v is field d =
    ap (λ (ts : List Placed). sources_from ts (Value field) d) is ∙ given (ahead new) field (with_value field d p.at v)

counted : (begun : ℕ) → begun < 64 → nat_lt begun 64 ≡ true
counted begun lt = grind (arith, nat_tests)

-- A rewrite that isn't one too many begins.
pub rewrite_goes_on : (ts : List Placed) (sources : List CustomSource) (begun at : ℕ) (parts : SourceParts) → begun < 64
    → sources_after ts (rewrite_begun (in_source sources begun parts) at) ≡ sources_from ts (Opening InRewrite) (in_source sources (begun + 1) parts)
rewrite_goes_on ts sources begun at parts lt =
    ap (λ (b : Bool). sources_after ts (if b then Ok (Opening InRewrite, in_source sources (begun + 1) parts) else bad TooMany at)) (counted begun lt)
