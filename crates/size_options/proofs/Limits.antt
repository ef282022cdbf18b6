-- Options without an error keep their limits.
use Rattle.std.proofs.Common.{rules, ◌≡◌, ◌≢◌, ℕ, suc, ◌≤◌, ◌==◌, Bool, true, false, not, ◌&&◌, ◌||◌, List, [], ◌∷◌, length, refl, Option, Some, None, is_none, is_some, nat_le, nat_lt, if◌then◌else◌, option_and_then, unwrap_or, codes, arith, All}
use Rattle.std.specs.List.{list_any}
use Rattle.std.proofs.lemmas.Bool.Decides.{nat_tests}
use Rattle.std.proofs.lemmas.List.Elements.{All-cons}
use Rattle.clap.specs.Words.{Text}
use Rattle.size_core.specs.declared.place.Place.{Place}
use Rattle.size_options.specs.Answers.{HasInput, IsOneInput, KeepsLimits}
use Rattle.size_options.specs.Asked.{first_usage, options_in, usage_tests}
use Rattle.size_options.specs.Given.{GivenTexts}
use Rattle.size_options.specs.Values.{is_bad, number_of, place_of, small_number_of}
use Rattle.size_options.proofs.NameLemmas.{some_name}
use Rattle.size_options.specs.declared.errors.UsageKind.{UsageKind}

abbrev NoneHolds : List (Bool × UsageKind) → Type 0
NoneHolds [] = Unit {0}
NoneHolds (p ∷ ps) = (p.0 ≡ false) × NoneHolds ps

-- If there is no first error, no test holds.
none_holds : (ps : List (Bool × UsageKind)) → first_usage ps ≡ None → NoneHolds ps
none_holds [] h = tt
none_holds ((true, kind) ∷ ps) h = cc
none_holds ((false, kind) ∷ ps) h = (refl, none_holds ps h)

neither : (a b : Bool) → (a || b) ≡ false → (a ≡ false) × (b ≡ false)
neither true b h = cc
neither false b h = (refl, h)

not_below : (n : ℕ) → nat_lt 8 n ≡ false → n ≤ 8
not_below n h = grind (arith, nat_tests)

none_empty : (names : List Text) → list_any (λ n. length n == 0) names ≡ false → All (λ name. name ≢ []) names
none_empty [] h = search rules
none_empty (name ∷ names) h =
    let parts = neither (length name == 0) _ h in
    All-cons (λ (x : Text). x ≢ []) name names (nonempty name parts.0) (none_empty names parts.1)
  where
    nonempty : (name : Text) → (length name == 0) ≡ false → name ≢ []
    nonempty [] h = cc
    nonempty (x ∷ xs) h = λ e. cc

small : (r : Option ℕ) (files : List Text) → is_none (option_and_then (λ n. if nat_le n 1000000 then Some n else None) r) ≡ false
    → files ≡ [] → HasInput (option_and_then (λ n. if nat_le n 1000000 then Some n else None) r) files
small None files h none = cc
small (Some n) files h none = go (nat_le n 1000000) refl h
  where
    go : (b : Bool) → nat_le n 1000000 ≡ b → is_none (if b then Some n else None) ≡ false → HasInput (if b then Some n else None) files
    go true is h = (grind (arith, nat_tests), none)
    go false is h = cc

some_file : (n : ℕ) → (not (suc n == 0) && true) ≡ false → ⊥
some_file n h = go (suc n == 0) (grind (arith, nat_tests)) h
  where
    go : (b : Bool) → b ≡ false → (not b && true) ≡ false → ⊥
    go true e h = cc
    go false e h = cc

input : (files : List Text) (synth : Option Text) → is_bad small_number_of synth ≡ false → (length files == 0 && is_none synth) ≡ false
    → (not (length files == 0) && is_some synth) ≡ false → HasInput (option_and_then small_number_of synth) files
input [] None good some one = cc
input (file ∷ files) None good some one = omega arith
input [] (Some t) good some one = small (number_of t) [] good refl
input (file ∷ files) (Some t) good some one = absurd (some_file (length files) one)

-- ---- a debug file and a location

one : (n : ℕ) → not (n == 1) ≡ false → n ≡ 1
one n h = go (n == 1) refl h
  where
    go : (b : Bool) → (n == 1) ≡ b → not b ≡ false → n ≡ 1
    go true is h = grind (arith, nat_tests)
    go false is h = cc

not_above : (n : ℕ) → nat_lt 1 n ≡ false → n ≤ 1
not_above n h = grind (arith, nat_tests)

no_value : (o : Option Text) → is_some o ≡ false → o ≡ None
no_value None h = refl
no_value (Some t) h = cc

-- With one file nothing is synthetic.
not_made : (files : List Text) (synth : Option Text) → length files ≡ 1 → (not (length files == 0) && is_some synth) ≡ false
    → option_and_then small_number_of synth ≡ None
not_made files None is h = refl
not_made [] (Some t) is h = absurd (omega arith)
not_made (file ∷ files) (Some t) is h = absurd (some_file (length files) h)

alone : (debug : Option Text) (files : List Text) (has_mark : Bool) → (is_some debug && (not (length files == 1) || has_mark)) ≡ false
    → (d : Text) → debug ≡ Some d → (length files ≡ 1) × (has_mark ≡ false)
alone None files has_mark h d is = cc
alone (Some t) files has_mark h d is = let parts = neither (not (length files == 1)) has_mark h in (one (length files) parts.0, parts.1)

has_place : (offset address : Option Text) (p : Place) → place_of offset address ≡ Some p → (is_some offset || is_some address) ≡ true
has_place (Some t) address p is = refl
has_place None (Some t) p is = refl
has_place None None p is = cc

not_both : (a b : Bool) → (a && b) ≡ false → a ≡ true → b ≡ false
not_both true b h is = h
not_both false b h is = cc

one_input : (synth : Option ℕ) (files : List Text) → HasInput synth files → length files ≤ 1 → IsOneInput synth files
one_input None files some few = omega arith
one_input (Some n) files some few = some.1

pub limits_kept : (g : GivenTexts) (bases : List Text) (has_no_base has_mark : Bool) → (has_mark ≡ false → bases ≡ [])
    → first_usage (usage_tests g has_no_base has_mark) ≡ None → KeepsLimits (options_in g bases)
limits_kept g bases has_no_base has_mark bare h =
    let tests = none_holds (usage_tests g has_no_base has_mark) h in
    let list = tests.1.1.1.1 in
    let names = neither _ _ list.0 in
    let has_input = input g.files g.synth (neither _ _ tests.0).1 list.1.0 list.1.1.0 in
    let debugs = list.1.1.1.1 in
    record {
      some_source = some_name (unwrap_or g.sources (codes "sections"));
      few_sources = not_below _ names.1;
      named = none_empty _ names.0;
      input = has_input;
      debug = λ d is.
          let lone = alone g.debug g.files has_mark debugs.0 d is in
          record { one_file = lone.0; not_made = not_made g.files g.synth lone.0 list.1.1.0; no_base = bare lone.1 };
      place = λ p is.
          let parts = neither _ _ (not_both _ _ debugs.1.1.1.0 (has_place g.offset g.address p is)) in
          let named = neither _ _ parts.0 in
          record { one_file = one_input _ g.files has_input (not_above _ parts.1); no_debug = no_value g.debug named.0; no_base = bare named.1 };
    }
