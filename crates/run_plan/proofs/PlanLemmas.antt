-- How a plan finds its data sources, name by name, and compiles its patterns, data source by data source.
use Rattle.std.proofs.Common.{◌≡◌, ◌+◌, ◌<◌, ◌≤◌, ℕ, zero, suc, true, List, [], ◌∷◌, ◌++◌, length, map, take, drop, get_or, Option, Some, IfSome, option_map, slice_get, Result, Ok, Err, IsOk, refl, sym, ap, ◌∙◌, append_assoc, arith}
use Rattle.std.specs.Option.{option_to_list}
use Rattle.std.specs.Str.{bytes_eq}
use Rattle.std.proofs.Math.Seq.{take-append-add}
use Rattle.std.proofs.lemmas.Grind.{common_steps, flat_map-append}
use Rattle.std.proofs.lemmas.List.{append-nil, get_or-append-add, get_or_append_left, length-append, length-map, map-append, take-append-drop, take-append-le}
use Rattle.std.proofs.lemmas.List.Elements.{All-append, All-take}
use Rattle.std.proofs.lemmas.Option.{get_or_from_slice_get, slice_get_read, slice_get_within}
use Rattle.size_model.proofs.Firsts.{drop-get, map_more, slice_get-front}
use Rattle.config_text.specs.declared.config.CustomSource.{CustomSource}
use Rattle.config_text.specs.declared.config.Rewrite.{Rewrite}
use Rattle.custom_rewrites.specs.Pattern.{IsNoPattern, IsPattern}
use Rattle.custom_rewrites.specs.Rewriting.{StopsAt as StopsIn, patterns_in}
use Rattle.file_profile.specs.declared.plan.Choice.{Choice}
use Rattle.file_profile.specs.declared.plan.PlanAnswer.{PlanAnswer}
use Rattle.file_profile.specs.declared.plan.PlanAnswer.TheVariants as plan
use Rattle.file_profile.specs.Choices.{chosen_in, rewrite_lists}
use Rattle.file_profile.specs.Patterns.{ArePatterns, ArePatternsBelow, AreRead, StopsAt, rewrites_of}
use Rattle.file_profile.specs.Plans.{HasCause, HasRewriteCause}
use Rattle.file_profile.specs.Sources.{Chosen, chosen_from, chosen_named, chosen_sources, custom_named}
use Rattle.run_plan.specs.PatternLists.{request_patterns, rewrite_patterns}
use Rattle.run_plan.specs.Planning.{IsCustomAt}
use Rattle.run_plan.proofs.BuildLemmas.{CountsAfter}
use Rattle.run_plan.proofs.FirstLemmas.{take-next}

-- The first custom data source with this name.
pub custom_here : (customs : List CustomSource) (i : ℕ) (c : CustomSource) (name : List ℕ) → i < length customs → c ≡ get_or customs i c → bytes_eq c.name name ≡ true → custom_named customs name ≡ custom_named (drop i customs) name
    → IsCustomAt customs name i
custom_here customs i c name within is same left =
    let at = slice_get_read customs (length customs) i c refl within is in
    record { within = within; is = rw at (left ∙ rw (drop-get customs i c at, same) refl) }

-- Data sources, followed by others.
abbrev pub with_chosen : List Chosen → Result (List Chosen) ℕ → Result (List Chosen) ℕ
with_chosen chosen (Ok others) = Ok (chosen ++ others)
with_chosen chosen (Err unknown) = Err unknown

-- The data sources of the first `i` names are chosen.
abbrev pub AreChosenTo : List CustomSource → List (List ℕ) → ℕ → List Choice → Type 0
AreChosenTo customs names i choices =
    chosen_sources customs names ≡ with_chosen (map (chosen_in (rewrite_lists customs)) choices) (chosen_from customs (i + 1) (drop i names))

-- One more name.
pub chosen-more : (customs : List CustomSource) (names : List (List ℕ)) (i : ℕ) (choices : List Choice) (name : List ℕ) (choice : Choice) → AreChosenTo customs names i choices → slice_get names i ≡ Some name
    → Some (chosen_in (rewrite_lists customs) choice) ≡ chosen_named customs name → AreChosenTo customs names (i + 1) (choices ++ choice ∷ [])
chosen-more customs names i choices name choice to at is =
    let chosen : Choice → Chosen = chosen_in (rewrite_lists customs) in
    let one : suc i ≡ i + 1 = omega arith in
    let left : drop i names ≡ name ∷ drop (i + 1) names = drop-get names i name at ∙ ap (λ k. name ∷ drop k names) one in
    to ∙ rw (left, ← is, map-append chosen choices (choice ∷ [])) (grind (arith, append_assoc))

module _ (customs : List CustomSource) (i : ℕ) (c : CustomSource) (within : i < length customs) (is : c ≡ get_or customs i c) where
  at : slice_get customs i ≡ Some c
  at = slice_get_read customs (length customs) i c refl within is

  abbrev front : List Rewrite
  front = rewrites_of (take i customs)

  abbrev back : List Rewrite
  back = rewrites_of (drop (suc i) customs)

  -- The rewrites up to this data source.
  pub front-more : rewrites_of (take (i + 1) customs) ≡ front ++ c.rewrites
  front-more = ap rewrites_of (take-next customs i c at) ∙ simp (flat_map-append, append-nil)

  pub patterns-more : patterns_in (rewrites_of (take (i + 1) customs)) ≡ patterns_in front ++ patterns_in c.rewrites
  patterns-more = ap patterns_in front-more ∙ map-append (λ (r : Rewrite). r.pattern) front c.rewrites

  -- All rewrites: those before this data source, its own, and the others.
  whole : rewrites_of customs ≡ front ++ (c.rewrites ++ back)
  whole = ap rewrites_of (sym (take-append-drop i customs)) ∙ rw (drop-get customs i c at) (flat_map-append (λ (c : CustomSource). c.rewrites) (take i customs) (c ∷ drop (suc i) customs))

  pub patterns-whole : patterns_in (rewrites_of customs) ≡ patterns_in front ++ (patterns_in c.rewrites ++ patterns_in back)
  patterns-whole = ap patterns_in whole ∙ simp map-append

  pub lists-more : rewrite_lists (take i customs) ++ c.rewrites ∷ [] ≡ rewrite_lists (take (i + 1) customs)
  lists-more = map_more (λ (c : CustomSource). c.rewrites) customs i c at

  stops-more : (place : ℕ) (P : List ℕ → Type 0) → AreRead front → StopsIn c.rewrites place P → StopsIn (rewrites_of customs) (length front + place) P
  stops-more place P read stops =
      let inside : place < length c.rewrites = slice_get_within c.rewrites place stops.0 stops.1 in
      let item = get_or-append-add front (c.rewrites ++ back) place stops.0 ∙ (get_or_append_left c.rewrites back stops.0 place inside ∙ get_or_from_slice_get c.rewrites place stops.0 stops.0 stops.1) in
      rw whole (
        stops.0,
        slice_get_read _ _ (length front + place) stops.0 refl (omega (arith, inside, length-append front (c.rewrites ++ back), length-append c.rewrites back)) (sym item),
        stops.2,
        rw (take-append-add front (c.rewrites ++ back) place, take-append-le place c.rewrites back (omega (arith, inside)))
            (All-append (λ (r : Rewrite). IsPattern r.pattern) front (take place c.rewrites) read stops.3),
      )

  -- The cause of an answer in one data source is its cause among all rewrites.
  pub cause-more : (first start before after : ℕ) (last : List ℕ) → first ≡ 1 + length front → AreRead front → start ≤ before → (e : PlanAnswer) → HasRewriteCause first c.rewrites before after last e
      → HasRewriteCause 1 (rewrites_of customs) start after last e × CountsAfter (length (patterns_in front)) (rewrite_patterns first c.rewrites) (rewrite_patterns 1 (rewrites_of customs)) e
  cause-more first start before after last now read le (plan.PatternSyntax n) h =
      ((length front + h.0, omega (arith, now, h.1), stops-more h.0 IsNoPattern read h.2), omega (arith, now, h.1, length-map front (λ (r : Rewrite). r.pattern)))
  cause-more first start before after last now read le (plan.PatternTooBig n) h = (
    (length front + h.0, omega (arith, now, h.1), stops-more h.0 (λ pattern. last ≡ pattern) read h.2, omega (arith, le, h.3)),
    omega (arith, now, h.1, length-map front (λ (r : Rewrite). r.pattern)),
  )
  cause-more first start before after last now read le e h = (h, h)

-- The pattern of a number, if the filter is a regular expression of the grammar.
module _ (filter : Option (List ℕ)) (customs : List CustomSource) (first : IfSome filter IsPattern) where
  read-below : (k : ℕ) → AreRead (take k (rewrites_of customs)) → ArePatternsBelow (suc k) filter customs
  read-below k others zero pattern lt is = rw is at first
  read-below k others (suc j) pattern lt is =
      let item : (r : Rewrite) × (slice_get (rewrites_of customs) j ≡ Some r) × (r.pattern ≡ pattern) = grind (arith, common_steps) in
      let at = slice_get-front (rewrites_of customs) k j item.0 (omega (arith, lt)) item.1 in
      rw (← item.2, ← get_or_from_slice_get (take k (rewrites_of customs)) j item.0 item.0 at) (others j item.0 (slice_get_within _ j item.0 at))

  pub patterns-read : AreRead (rewrites_of customs) → ArePatterns filter customs
  patterns-read others i pattern is = read-below i (All-take (λ (r : Rewrite). IsPattern r.pattern) i (rewrites_of customs) others) i pattern (omega arith) is

  stops-later : (n k : ℕ) (P : List ℕ → Type 0) → n ≡ 1 + k → StopsIn (rewrites_of customs) k P → StopsAt filter customs n P
  stops-later n k P is stops =
      let next : n ≡ suc k = omega (arith, is) in
      rw next (record { pattern = stops.0.pattern; at = ap (option_map (λ (r : Rewrite). r.pattern)) stops.1; so = stops.2; before = read-below k stops.3 })

  -- The cause of an answer about rewrites is that of a plan.
  pub cause-rewrites : (names : List (List ℕ)) → IsOk (chosen_sources customs names) → (start before after : ℕ) (last : List ℕ) → start ≤ before → (e : PlanAnswer) → HasRewriteCause 1 (rewrites_of customs) before after last e
      → HasCause names filter customs start after last e × CountsAfter (length (option_to_list filter)) (rewrite_patterns 1 (rewrites_of customs)) (request_patterns filter customs) e
  cause-rewrites names ok start before after last le (plan.UnknownSource n) h = absurd h
  cause-rewrites names ok start before after last le (plan.PatternSyntax n) h = ((ok, stops-later n h.0 IsNoPattern h.1 h.2), omega arith)
  cause-rewrites names ok start before after last le (plan.PatternTooBig n) h = ((ok, stops-later n h.0 (λ pattern. last ≡ pattern) h.1 h.2, omega (arith, le, h.3)), omega arith)
  cause-rewrites names ok start before after last le plan.NoMemory h = (tt, tt)
