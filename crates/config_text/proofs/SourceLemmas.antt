-- Each step of the reading keeps the rules of a configuration.
use Rattle.std.proofs.Common.{Bool, ◌≡◌, ◌∙◌, ◌<◌, ◌≤◌, ◌+◌, ◌==◌, ◌⊎◌, inl, inr, ℕ, zero, suc, subst, List, [], ◌∷◌, ◌++◌, true, Option, Some, None, Result, Ok, Err, All, IfSome, length, take, slice_get, sum_by, nat_lt, is_some, codes, refl, ap, arith, if◌then◌else◌, length-append}
use Rattle.std.proofs.lemmas.Bool.Decides.{nat_tests}
use Rattle.std.proofs.lemmas.List.{take-append-le}
use Rattle.std.proofs.Math.Seq.{take-append_seam}
use Rattle.std.proofs.lemmas.List.Elements.{All-push, All-nil}
use Rattle.std.proofs.lemmas.List.Sums.{sum_by-append}
use Rattle.std.specs.Str.{bytes_eq, is_utf8}
use Rattle.size_core.specs.declared.source.Source.{Source}
use Rattle.size_core.specs.SourceNames.{source_named}
use Rattle.config_text.specs.declared.config.CustomSource.{CustomSource}
use Rattle.config_text.specs.declared.config.Rewrite.{Rewrite}
use Rattle.config_text.specs.declared.config.ConfigKind.TheVariants.{BadName, BadReplacement}
use Rattle.config_text.specs.Tokens.{Token, Word, Quoted, Mark, Broken, Stray, End, Placed, tokens}
use Rattle.config_text.specs.Grammar.{Fault, ◌>>=◌, bad, State, Draft, Level, InFile, InSource, InRewrite, Field, Name, Base, Pattern, Replacement, Awaited, Item, Separated, Opening, Brace, Colon, Value, level_of, is_free, is_replacement, text_read, base_found, with_source, with_rewrite, with_value, source_begun, once, rewrite_begun, field_begun, part_begun, source_made, rewrite_made, source_closed, rewrite_closed, is_the_mark, is_separator, at_item, at_brace, at_value, at_token}
use Rattle.config_text.specs.Config.{sources_from, nothing, config}
use Rattle.config_text.specs.Sources.{AreSources}
use Rattle.config_text.proofs.TokenLemmas.{chosen}

abbrev level_at : Awaited → Level
level_at (Item level) = level
level_at (Separated level) = level
level_at (Opening level) = level
level_at (Brace level) = level
level_at (Colon field) = level_of field
level_at (Value field) = level_of field

-- The number of open sources.
abbrev open_sources : Level → ℕ
open_sources InFile = 0
open_sources InSource = 1
open_sources InRewrite = 1

abbrev open_rewrites : Level → ℕ
open_rewrites InFile = 0
open_rewrites InSource = 0
open_rewrites InRewrite = 1

abbrev IsGood : Rewrite → Type 0
IsGood r = is_replacement r.replacement ≡ true

abbrev AreGood : CustomSource → Type 0
AreGood s = All IsGood s.rewrites

abbrev rewrites_of : List CustomSource → ℕ
rewrites_of sources = sum_by (λ s. length s.rewrites) sources

abbrev AreNamed : List CustomSource → Type 0
AreNamed sources = (k : ℕ) (s : CustomSource) → slice_get sources k ≡ Some s → is_free (take k sources) s.name ≡ true

record Sound (level : Level) (d : Draft) : Type 0 where
  few : length d.sources + open_sources level ≤ 64
  counted : rewrites_of d.sources + length d.source.rewrites + open_rewrites level ≤ d.begun
  begun : d.begun ≤ 64
  named : AreNamed d.sources
  name : IfSome d.source.name (λ n. is_free d.sources n ≡ true)
  closed : All AreGood d.sources
  opened : All IsGood d.source.rewrites
  replacement : IfSome d.rewrite.replacement (λ b. is_replacement b ≡ true)

abbrev Keeps : Result State Fault → Type 0
Keeps (Ok s) = Sound (level_at s.0) s.1
Keeps (Err e) = Unit {0}

below : (n : ℕ) → nat_lt n 64 ≡ true → n < 64
below n h = grind (arith, nat_tests)

-- An item of a list with one more at its end.
push_at : {X : Type 0} (xs : List X) (x s : X) (k : ℕ) → slice_get (xs ++ x ∷ []) k ≡ Some s
    → ((k ≤ length xs) × (slice_get xs k ≡ Some s)) ⊎ ((k ≡ length xs) × (s ≡ x))
push_at [] x s zero at = inr (refl, cc)
push_at [] x s (suc k) at = cc
push_at (y ∷ ys) x s zero at = inl (omega arith, at)
push_at (y ∷ ys) x s (suc k) at = elim (push_at ys x s k at) [ inl h ↦ inl (omega arith, h.1) | inr h ↦ inr (omega arith, h.1) ]

named_push : (sources : List CustomSource) (made : CustomSource) → AreNamed sources → is_free sources made.name ≡ true → AreNamed (sources ++ made ∷ [])
named_push sources made named free k s at =
    elim (push_at sources made s k at) [
      | inl h ↦ rw (take-append-le k sources (made ∷ []) h.0) (named k s h.1)
      | inr h ↦ ap (λ (x : CustomSource). is_free (take k (sources ++ made ∷ [])) x.name) h.1
          ∙ ap (λ (n : ℕ). is_free (take n (sources ++ made ∷ [])) made.name) h.0
          ∙ ap (λ (xs : List CustomSource). is_free xs made.name) (take-append_seam sources (made ∷ [])) ∙ free
    ]

begins_source : (d : Draft) (at : ℕ) (name : List ℕ) → Sound InFile d → Keeps (source_begun d at name)
begins_source d at name s =
    chosen Keeps (bytes_eq name (codes "custom_data_source")) _ _
    (λ _. chosen Keeps (nat_lt (length d.sources) 64) _ _
    (λ lt. let few = below (length d.sources) lt in record {
      few = omega arith;
      counted = s.counted;
      begun = s.begun;
      named = s.named;
      name = s.name;
      closed = s.closed;
      opened = s.opened;
      replacement = s.replacement;
    })
    (λ _. tt))
    (λ _. tt)

begins_rewrite : (d : Draft) (at : ℕ) → Sound InSource d → Keeps (rewrite_begun d at)
begins_rewrite d at s =
    chosen Keeps (nat_lt d.begun 64) _ _
    (λ lt. let few = below d.begun lt in record {
      few = s.few;
      counted = omega (arith, s.counted);
      begun = omega arith;
      named = s.named;
      name = s.name;
      closed = s.closed;
      opened = s.opened;
      replacement = s.replacement;
    })
    (λ _. tt)

stands_once : (given : Bool) (field : Field) (d : Draft) (at : ℕ) → Sound (level_of field) d → Keeps (once given field d at)
stands_once given field d at s = chosen Keeps given _ _ (λ _. tt) (λ _. s)

begins_field : (d : Draft) (at : ℕ) (name : List ℕ) → Sound InSource d → Keeps (field_begun d at name)
begins_field d at name s =
    chosen Keeps (bytes_eq name (codes "name")) _ _ (λ _. stands_once (is_some d.source.name) Name d at s)
    (λ _. chosen Keeps (bytes_eq name (codes "base_data_source")) _ _ (λ _. stands_once (is_some d.source.base) Base d at s)
    (λ _. chosen Keeps (bytes_eq name (codes "rewrite")) _ _ (λ _. begins_rewrite d at s) (λ _. tt)))

begins_part : (d : Draft) (at : ℕ) (name : List ℕ) → Sound InRewrite d → Keeps (part_begun d at name)
begins_part d at name s =
    chosen Keeps (bytes_eq name (codes "pattern")) _ _ (λ _. stands_once (is_some d.rewrite.pattern) Pattern d at s)
    (λ _. chosen Keeps (bytes_eq name (codes "replacement")) _ _ (λ _. stands_once (is_some d.rewrite.replacement) Replacement d at s) (λ _. tt))

ends_source : (d : Draft) (at : ℕ) → Sound InSource d → (name : Option (List ℕ)) (base : Option Source) → IfSome name (λ n. is_free d.sources n ≡ true)
    → Keeps (source_made at name base d.source.rewrites >>= λ made. Ok (Separated InFile, source_closed d made))
ends_source d at s (Some name) (Some base) free =
    let made : CustomSource = record { name = name; base = base; rewrites = d.source.rewrites } in
    record {
      few = omega (arith, length-append d.sources (made ∷ []), s.few);
      counted = omega (arith, sum_by-append (λ (x : CustomSource). length x.rewrites) d.sources (made ∷ []), s.counted);
      begun = s.begun;
      named = named_push d.sources made s.named free;
      name = tt;
      closed = All-push AreGood d.sources made s.closed s.opened;
      opened = All-nil IsGood;
      replacement = s.replacement;
    }
ends_source d at s (Some name) None free = tt
ends_source d at s None base free = tt

ends_rewrite : (d : Draft) (at : ℕ) → Sound InRewrite d → (pattern replacement : Option (List ℕ)) → IfSome replacement (λ b. is_replacement b ≡ true)
    → Keeps (rewrite_made at pattern replacement >>= λ made. Ok (Separated InSource, rewrite_closed d made))
ends_rewrite d at s (Some pattern) (Some replacement) good =
    let made : Rewrite = record { pattern = pattern; replacement = replacement } in
    record {
      few = s.few;
      counted = omega (arith, length-append d.source.rewrites (made ∷ []), s.counted);
      begun = s.begun;
      named = s.named;
      name = s.name;
      closed = s.closed;
      opened = All-push IsGood d.source.rewrites made s.opened good;
      replacement = tt;
    }
ends_rewrite d at s (Some pattern) None good = tt
ends_rewrite d at s None replacement good = tt

keeps_item : (level : Level) (d : Draft) (at : ℕ) (t : Token) → Sound level d → Keeps (at_item level d at t)
keeps_item InFile d at (Word name) s = begins_source d at name s
keeps_item InFile d at End s = s
keeps_item InFile d at (Quoted value) s = tt
keeps_item InFile d at (Mark byte) s = tt
keeps_item InFile d at (Broken quote) s = tt
keeps_item InFile d at Stray s = tt
keeps_item InSource d at (Word name) s = begins_field d at name s
keeps_item InSource d at (Mark byte) s = chosen Keeps (byte == 125) _ _ (λ _. ends_source d at s d.source.name d.source.base s.name) (λ _. tt)
keeps_item InSource d at (Quoted value) s = tt
keeps_item InSource d at (Broken quote) s = tt
keeps_item InSource d at Stray s = tt
keeps_item InSource d at End s = tt
keeps_item InRewrite d at (Word name) s = begins_part d at name s
keeps_item InRewrite d at (Mark byte) s = chosen Keeps (byte == 125) _ _ (λ _. ends_rewrite d at s d.rewrite.pattern d.rewrite.replacement s.replacement) (λ _. tt)
keeps_item InRewrite d at (Quoted value) s = tt
keeps_item InRewrite d at (Broken quote) s = tt
keeps_item InRewrite d at Stray s = tt
keeps_item InRewrite d at End s = tt

keeps_brace : (level : Level) (d : Draft) (at : ℕ) (t : Token) → Sound level d → Keeps (at_brace level d at t)
keeps_brace level d at t s = chosen Keeps (is_the_mark 123 t) _ _ (λ _. s) (λ _. tt)

-- A value keeps the rules.
abbrev KeepsValue : Field → Result Draft Fault → Type 0
KeepsValue field read = Keeps (read >>= λ d. Ok (Separated (level_of field), d))

keeps_text : (field : Field) (at : ℕ) (v : List ℕ) (f : List ℕ → Result Draft Fault) → KeepsValue field (f v) → KeepsValue field (text_read at v >>= f)
keeps_text field at v f kept =
    let P : Result (List ℕ) Fault → Type 0 = λ (r : Result (List ℕ) Fault). KeepsValue field (r >>= f) in
    chosen P (is_utf8 v) _ _ (λ _. kept) (λ _. tt)

keeps_base : (d : Draft) (at : ℕ) (base : Option Source) → Sound InSource d
    → KeepsValue Base (base_found at base >>= λ b. Ok (with_source d (record d.source { base = Some b })))
keeps_base d at (Some base) s = record {
  few = s.few;
  counted = s.counted;
  begun = s.begun;
  named = s.named;
  name = s.name;
  closed = s.closed;
  opened = s.opened;
  replacement = s.replacement;
}
keeps_base d at None s = tt

keeps_value : (field : Field) (d : Draft) (at : ℕ) (v : List ℕ) → Sound (level_of field) d → KeepsValue field (with_value field d at v)
keeps_value Name d at v s =
    let P : Result (List ℕ) Fault → Type 0 = λ (r : Result (List ℕ) Fault). KeepsValue Name
    ((r >>= λ name. (if is_free d.sources name then Ok name else bad BadName at)) >>= λ name. Ok (with_source d (record d.source { name = Some name }))) in
    let Q : Result (List ℕ) Fault → Type 0 = λ (r : Result (List ℕ) Fault). KeepsValue Name (r >>= λ name. Ok (with_source d (record d.source { name = Some name }))) in
    chosen P (is_utf8 v) _ _
    (λ _. chosen Q (is_free d.sources v) _ _
    (λ free. record { few = s.few; counted = s.counted; begun = s.begun; named = s.named; name = free; closed = s.closed; opened = s.opened; replacement = s.replacement })
    (λ _. tt))
    (λ _. tt)
keeps_value Base d at v s =
    let P : Result (List ℕ) Fault → Type 0 = λ (r : Result (List ℕ) Fault). KeepsValue Base
    ((r >>= λ name. base_found at (source_named name)) >>= λ b. Ok (with_source d (record d.source { base = Some b }))) in
    chosen P (is_utf8 v) _ _ (λ _. keeps_base d at (source_named v) s) (λ _. tt)
keeps_value Pattern d at v s =
    keeps_text Pattern at v (λ text. Ok (with_rewrite d (record d.rewrite { pattern = Some text })))
    (record { few = s.few; counted = s.counted; begun = s.begun; named = s.named; name = s.name; closed = s.closed; opened = s.opened; replacement = s.replacement })
keeps_value Replacement d at v s =
    let P : Result (List ℕ) Fault → Type 0 = λ (r : Result (List ℕ) Fault). KeepsValue Replacement
    ((r >>= λ text. (if is_replacement text then Ok text else bad BadReplacement at)) >>= λ b. Ok (with_rewrite d (record d.rewrite { replacement = Some b }))) in
    let Q : Result (List ℕ) Fault → Type 0 = λ (r : Result (List ℕ) Fault). KeepsValue Replacement (r >>= λ b. Ok (with_rewrite d (record d.rewrite { replacement = Some b }))) in
    chosen P (is_utf8 v) _ _
    (λ _. chosen Q (is_replacement v) _ _
    (λ good. record { few = s.few; counted = s.counted; begun = s.begun; named = s.named; name = s.name; closed = s.closed; opened = s.opened; replacement = good })
    (λ _. tt))
    (λ _. tt)

keeps_at_value : (field : Field) (d : Draft) (at : ℕ) (t : Token) → Sound (level_of field) d → Keeps (at_value field d at t)
keeps_at_value field d at (Quoted v) s = keeps_value field d at v s
keeps_at_value field d at (Broken quote) s = tt
keeps_at_value field d at (Word name) s = tt
keeps_at_value field d at (Mark byte) s = tt
keeps_at_value field d at Stray s = tt
keeps_at_value field d at End s = tt

keeps : (a : Awaited) (d : Draft) (at : ℕ) (t : Token) → Sound (level_at a) d → Keeps (at_token a d at t)
keeps (Item level) d at t s = keeps_item level d at t s
keeps (Separated level) d at t s = chosen Keeps (is_separator t) _ _ (λ _. s) (λ _. keeps_item level d at t s)
keeps (Opening level) d at t s = chosen Keeps (is_the_mark 58 t) _ _ (λ _. s) (λ _. keeps_brace level d at t s)
keeps (Brace level) d at t s = keeps_brace level d at t s
keeps (Colon field) d at t s = chosen Keeps (is_the_mark 58 t) _ _ (λ _. s) (λ _. tt)
keeps (Value field) d at t s = keeps_at_value field d at t s

abbrev KeepsRules : Result (List CustomSource) Fault → Type 0
KeepsRules (Ok sources) = AreSources sources
KeepsRules (Err e) = Unit {0}

sound_sources : (level : Level) (d : Draft) → Sound level d → AreSources d.sources
sound_sources level d s = record {
  few = omega (arith, s.few);
  few_rewrites = omega (arith, s.counted, s.begun);
  named = s.named;
  replacements = s.closed;
}

keeps_from : (ts : List Placed) (a : Awaited) (d : Draft) → Sound (level_at a) d → KeepsRules (sources_from ts a d)
keeps_from [] a d s = sound_sources (level_at a) d s
keeps_from ((at, t) ∷ ts) a d s =
    (elim (at_token a d at t) as (λ (r : Result State Fault). Keeps r → KeepsRules (r >>= λ next. sources_from ts next.0 next.1))
    [ Ok next ↦ λ kept. keeps_from ts next.0 next.1 kept | Err e ↦ λ _. tt ]) (keeps a d at t s)

nothing_sound : Sound InFile nothing
nothing_sound = record {
  few = omega arith;
  counted = omega arith;
  begun = omega arith;
  named = λ k s at. cc;
  name = tt;
  closed = All-nil AreGood;
  opened = All-nil IsGood;
  replacement = tt;
}

-- The sources of a text follow the rules.
pub config_sound : (text : List ℕ) (sources : List CustomSource) → config text ≡ Ok sources → AreSources sources
unfolding config
config_sound text sources is = subst KeepsRules is (keeps_from (tokens 0 text) (Item InFile) nothing nothing_sound)
