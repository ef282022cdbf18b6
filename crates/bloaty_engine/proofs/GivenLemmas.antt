-- What the reads of steps gave, one step after the other.
use Rattle.std.proofs.Common.{◌≡◌, ℕ, ◌+◌, ◌<◌, ◌≤◌, List, [], ◌∷◌, ◌++◌, length, Option, Result, Ok, Err, refl, sym, ap, ◌∙◌, append_assoc, arith}
use Rattle.std.specs.Prelude.{OnOk}
use Rattle.std.proofs.lemmas.List.{append-nil}
use Rattle.outside.specs.Held.{Pairs}
use Rattle.size_core.specs.declared.limits.Limits.{Limits}
use Rattle.run_outcome.specs.declared.outcome.Outcome.{Outcome}
use Rattle.bloaty_engine.specs.Given.{Gives, config_given, config_pairs, files_given, pairs_from}
use Rattle.bloaty_engine.specs.Verdict.{customs_in}
use Rattle.bloaty_engine.proofs.ReadLemmas.{OnOk-any}

-- Nothing is read.
pub gives-none : {X : Type 0} (r : Result X Outcome) (before pairs : Pairs) → OnOk r (pairs ≡ []) → Gives r before before pairs
gives-none r before pairs none = record { given = []; rest = pairs; first = refl; are = sym (append-nil before); all = none }

-- A read that failed.
pub gives-failed : {X : Type 0} (e : Outcome) (before after pairs : Pairs) → after ≡ before → Gives {X = X} (Err e) before after pairs
gives-failed e before after pairs same = record { given = []; rest = pairs; first = refl; are = same ∙ sym (append-nil before); all = tt }

-- All is given, whatever the result is.
pub gives-all : {X : Type 0} (r : Result X Outcome) (before after pairs : Pairs) → after ≡ before ++ pairs → Gives r before after pairs
gives-all r before after pairs are = record { given = pairs; rest = []; first = sym (append-nil pairs); are = are; all = OnOk-any r _ refl }

-- A step that succeeded gave all.
pub given-all : {X : Type 0} (x : X) (before after pairs : Pairs) → Gives (Ok x) before after pairs → after ≡ before ++ pairs
given-all x before after pairs g = g.are ∙ ap (λ ps. before ++ ps) (sym (g.first ∙ (ap (λ ps. g.given ++ ps) g.all ∙ append-nil g.given)))

-- A step that ends the run before more is read.
pub gives-stops : {X Y : Type 0} (e : Outcome) (before after front rest : Pairs) → Gives {X = X} (Err e) before after front → Gives {X = Y} (Err e) before after (front ++ rest)
gives-stops e before after front rest g = record {
  given = g.given;
  rest = g.rest ++ rest;
  first = ap (λ ps. ps ++ rest) g.first ∙ append_assoc g.given g.rest rest;
  are = g.are;
  all = tt;
}

-- The same end of a run, of another step.
pub gives-ended : {X Y : Type 0} (e : Outcome) (before after pairs : Pairs) → Gives {X = X} (Err e) before after pairs → Gives {X = Y} (Err e) before after pairs
gives-ended e before after pairs g = record { given = g.given; rest = g.rest; first = g.first; are = g.are; all = tt }

-- A step after reads that gave all.
pub gives-behind : {X : Type 0} (r : Result X Outcome) (before middle after front pairs : Pairs) → middle ≡ before ++ front → Gives r middle after pairs → Gives r before after (front ++ pairs)
gives-behind r before middle after front pairs all g = record {
  given = front ++ g.given;
  rest = g.rest;
  first = ap (λ ps. front ++ ps) g.first ∙ sym (append_assoc front g.given g.rest);
  are = g.are ∙ (ap (λ ps. ps ++ g.given) all ∙ append_assoc before front g.given);
  all = g.all;
}

-- A step that reads nothing, after one that succeeded.
pub gives-then : {X Y : Type 0} (x : X) (r : Result Y Outcome) (before after front rest : Pairs) → OnOk r (rest ≡ []) → Gives (Ok x) before after front → Gives r before after (front ++ rest)
gives-then x r before after front rest none g = gives-behind r before after after front rest (given-all x before after front g) (gives-none r after rest none)

-- The same with another value, or with the end of the run.
pub gives-as : {X Y : Type 0} (x : X) (r : Result Y Outcome) (before after pairs : Pairs) → Gives (Ok x) before after pairs → Gives r before after pairs
gives-as x r before after pairs g = gives-all r before after pairs (given-all x before after pairs g)

-- Names one after the other.
pub pairs-append : (first : ℕ) (front rest : List (List ℕ)) (files : ℕ → List ℕ) → pairs_from first (front ++ rest) files ≡ pairs_from first front files ++ pairs_from (first + length front) rest files
pairs-append first [] rest files = ap (λ i. pairs_from i rest files) (omega arith)
pairs-append first (n ∷ front) rest files =
    ap (λ ps. (n, files first) ∷ ps) (pairs-append (first + 1) front rest files ∙ ap (λ i. pairs_from (first + 1) front files ++ pairs_from i rest files) (omega arith))

-- The same bytes of the files of these numbers.
pub pairs-same : (first : ℕ) (names : List (List ℕ)) (a b : ℕ → List ℕ) → ((j : ℕ) → first ≤ j → j < first + length names → a j ≡ b j) → pairs_from first names a ≡ pairs_from first names b
pairs-same first [] a b same = refl
pairs-same first (n ∷ names) a b same =
    ap (λ bs. (n, bs) ∷ pairs_from (first + 1) names a) (same first (omega arith) (omega arith))
    ∙ ap (λ ps. (n, b first) ∷ ps) (pairs-same (first + 1) names a b (λ j low high. same j (omega (arith, low)) (omega (arith, high))))

-- The configuration is the first of what a run reads, if there is one.
pub customs-given : (limits : Limits) (config : Option (List ℕ)) (text : List ℕ) (rest : Pairs) → customs_in limits config (config_given config (config_pairs config text ++ rest)) ≡ customs_in limits config text
customs-given limits config text rest = grind arith

pub files-given : (config : Option (List ℕ)) (text : List ℕ) (rest : Pairs) → files_given config (config_pairs config text ++ rest) ≡ rest
files-given config text rest = grind arith
