-- The first error, and what it means for the arguments.
use Rattle.std.proofs.Common.{◌≡◌, ◌∙◌, ℕ, ◌+◌, ◌≤◌, ◌==◌, Bool, true, false, not, ◌&&◌, cond, List, [], ◌∷◌, map, take, drop, min, length, sym, ap, ap₂, refl, subst, Option, Some, None, Ok, unwrap_or, position, nat_le, nat_lt, arith}
use Rattle.std.specs.List.{list_all, position_or_len}
use Rattle.std.proofs.lemmas.List.{drop-map, take-map, length-map}
use Rattle.std.proofs.Math.ListN.{drop_of_length-le}
use Rattle.std.proofs.lemmas.List.Sums.{prefix_len-le-length}
use Rattle.std.proofs.lemmas.Bool.Decides.{nat_tests}
use Rattle.clap.specs.Words.{Text}
use Rattle.size_options.specs.Answers.{IsRefusalOf, IsUnread, IsUnreadAnswer, IsUsageOf, word_errors}
use Rattle.size_options.specs.Asked.{asked, first_usage, given_by, options_in, unless_usage, usage_tests}
use Rattle.size_options.specs.Given.{GivenTexts}
use Rattle.size_options.specs.Words.{base_words, ends_in_mark, has_mark, is_mark, mark_at, profile_words}
use Rattle.size_options.specs.declared.errors.OptionAnswer.{OptionAnswer}
use Rattle.size_options.specs.declared.errors.OptionAnswer.TheVariants.{Usage, NoMemory}
use Rattle.size_options.specs.declared.errors.UsageKind.{UsageKind}
use Rattle.size_options.specs.declared.errors.UsageKind.TheVariants.{Words, BadNumber, BadSort, BadDomain, TwoFormats, BadSourceList, NoFile, SynthWithFile, NoBase, DebugFile, BadPlace, TwoPlaces, PlaceFile}
use Rattle.size_options.specs.declared.run_options.Options.{Options}

-- The first error that the tests find in the arguments.
abbrev pub first_of_words : List Text → Option UsageKind
first_of_words words = first_usage (usage_tests (given_by words) (ends_in_mark words) (has_mark words))

drop_within : {X : Type 0} (k : ℕ) (xs : List X) → drop (min k (length xs)) xs ≡ drop k xs
drop_within k xs = go (nat_le k (length xs)) refl
  where
    go : (b : Bool) → nat_le k (length xs) ≡ b → drop (min k (length xs)) xs ≡ drop k xs
    go true h =
        let is : min k (length xs) ≡ k = grind (arith, nat_tests) in
        ap (λ n. drop n xs) is
    go false h =
        let beyond : length xs ≤ k = grind (arith, nat_tests) in
        let is : min k (length xs) ≡ length xs = omega arith in
        ap (λ n. drop n xs) is ∙ drop_of_length-le xs (omega arith) ∙ sym (drop_of_length-le xs beyond)

module _ {X : Type 0} (f : X → Text) where
  mark_map : (xs : List X) → position_or_len is_mark (map f xs) ≡ position_or_len (λ w. is_mark (f w)) xs
  mark_map [] = refl
  mark_map (x ∷ xs) = ap (λ n. cond (not (is_mark (f x))) (1 + n) 0) (mark_map xs)

  -- The index that `position` gives, or the end.
  pub mark_is : (xs : List X) → unwrap_or (position (λ w. is_mark (f w)) xs) (length xs) ≡ mark_at (map f xs)
  mark_is xs = go (nat_lt n (length xs)) refl ∙ sym (mark_map xs)
    where
      n : ℕ
      n = position_or_len (λ w. is_mark (f w)) xs

      go : (b : Bool) → nat_lt n (length xs) ≡ b → unwrap_or (cond b (Some n) None) (length xs) ≡ n
      go true is = refl
      go false is = grind (arith, nat_tests, prefix_len-le-length (λ w. not (is_mark (f w))) xs)

  pub mark_within : (xs : List X) → mark_at (map f xs) ≤ length xs
  mark_within xs = rw (mark_map xs) (prefix_len-le-length _ xs)

  -- The arguments that are parsed are those before `--`.
  pub words_before : (xs : List X) (n : ℕ) → n ≡ mark_at (map f xs) → map f (take n xs) ≡ profile_words (map f xs)
  words_before xs n is = sym (take-map f n xs) ∙ ap (λ k. take k (map f xs)) is

  -- The first error in the parsed values is the first error in the arguments.
  pub first_is : (xs : List X) (n : ℕ) (g : GivenTexts) (found : Option UsageKind) → n ≡ mark_at (map f xs) → g ≡ given_by (map f xs)
      → found ≡ first_usage (usage_tests g (n + 1 == length xs) (nat_lt n (length xs))) → found ≡ first_of_words (map f xs)
  first_is xs n g found at given is =
      is ∙ ap (λ (x : GivenTexts). first_usage (usage_tests x (n + 1 == length xs) (nat_lt n (length xs)))) given
      ∙ ap₂ (λ (k l : ℕ). first_usage (usage_tests (given_by (map f xs)) (k + 1 == l) (nat_lt k l))) at (sym (length-map xs f))

  -- If no argument is `--`, there are no base files.
  pub no_base_words : (xs : List X) (n : ℕ) → n ≡ mark_at (map f xs) → nat_lt n (length xs) ≡ false → base_words (map f xs) ≡ []
  no_base_words xs n is none =
      let beyond : length xs ≤ n = grind (arith, nat_tests) in
      drop_of_length-le (map f xs) (omega (arith, length-map xs f))

  -- The arguments after `--`, or none if there is no `--`.
  pub words_after : (xs : List X) (n : ℕ) → n ≡ mark_at (map f xs) → map f (drop (min (n + 1) (length xs)) xs) ≡ base_words (map f xs)
  words_after xs n is = ap (map f) (drop_within (n + 1) xs) ∙ sym (drop-map f (n + 1) xs) ∙ ap (λ k. drop (k + 1) (map f xs)) is

-- ---- arguments that can't be parsed

unread_usage : (words before : List Text) → before ≡ profile_words words → (kind : UsageKind) → IsUnread before kind → IsUsageOf words kind
unread_usage words before is Words h = record {
  not_taken = λ _. rw is at h.0;
  unread = λ _. rw is at h.1;
  read = λ other. absurd (other refl);
  first = λ other. absurd (other refl);
}
unread_usage words before is BadNumber h = absurd h
unread_usage words before is BadSort h = absurd h
unread_usage words before is BadDomain h = absurd h
unread_usage words before is TwoFormats h = absurd h
unread_usage words before is BadSourceList h = absurd h
unread_usage words before is NoFile h = absurd h
unread_usage words before is SynthWithFile h = absurd h
unread_usage words before is NoBase h = absurd h
unread_usage words before is DebugFile h = absurd h
unread_usage words before is BadPlace h = absurd h
unread_usage words before is TwoPlaces h = absurd h
unread_usage words before is PlaceFile h = absurd h

pub refusal_is : (words before : List Text) → before ≡ profile_words words → (e : OptionAnswer) → IsUnreadAnswer before e → IsRefusalOf words e
refusal_is words before is NoMemory h = tt
refusal_is words before is (Usage kind) h = unread_usage words before is kind h

-- ---- no test is for Words

abbrev is_other : UsageKind → Bool
is_other Words = false
is_other _ = true

same : {x y : UsageKind} → Some x ≡ Some y → x ≡ y
same e = cc

left_of : (a b : Bool) → (a && b) ≡ true → a ≡ true
left_of true b h = refl
left_of false b h = h

right_of : (a b : Bool) → (a && b) ≡ true → b ≡ true
right_of true b h = h
right_of false b h = cc

first_other : (ps : List (Bool × UsageKind)) (k : UsageKind) → list_all (λ p. is_other p.1) ps ≡ true → first_usage ps ≡ Some k → is_other k ≡ true
first_other [] k all h = cc
first_other ((true, x) ∷ ps) k all h = subst (λ y. is_other y ≡ true) (same h) (left_of (is_other x) _ all)
first_other ((false, x) ∷ ps) k all h = first_other ps k (right_of (is_other x) _ all) h

never_words : (g : GivenTexts) (b m : Bool) (kind : UsageKind) → first_usage (usage_tests g b m) ≡ Some kind → kind ≡ Words → ⊥
never_words g b m kind h is = never (first_other (usage_tests g b m) Words refl (h ∙ ap (λ (k : UsageKind). Some k) is))
  where
    never : false ≡ true → ⊥
    never e = cc

-- ---- what the arguments give

pub usage_is : (words : List Text) (kind : UsageKind) → word_errors words ≡ []
    → Some kind ≡ first_of_words words → IsUsageOf words kind
unfolding asked
usage_is words kind read is =
    let never = never_words (given_by words) (ends_in_mark words) (has_mark words) kind (sym is) in
    record {
      not_taken = λ h. absurd (never h);
      unread = λ h. absurd (never h);
      read = λ _. read;
      first = λ _. ap (λ (o : Option UsageKind). unless_usage o (options_in (given_by words) (base_words words))) (sym is);
    }

pub options_are : (words : List Text) (o : Options) → None ≡ first_of_words words
    → o ≡ options_in (given_by words) (base_words words) → asked words ≡ Ok o
unfolding asked
options_are words o is made =
    ap (λ (k : Option UsageKind). unless_usage k (options_in (given_by words) (base_words words))) (sym is) ∙ ap (λ (x : Options). Ok x) (sym made)
