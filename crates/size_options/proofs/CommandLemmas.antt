use Rattle.std.proofs.Common.{◌≡◌, ◌∙◌, sym, ap, ap₂, refl, option_map, List, [], ◌∷◌, ◌≢◌, Bool, true, false, subst, inl, inr, Ok, Err, Result}
use Rattle.clap.specs.Words.{App, Rule, all_of, first_of, first_value, matched_of, raw_values, HasMatchesOf, Text, rule_of, with_rule, found_of, is_simple, matches_of, rows_of, takes, is_simple_and_free, fault_of, FailsBy, HasKind, IsAmong, Kinds, kind_of}
use Rattle.clap.proofs.WalkLemmas.{first_value-rows, raw_values-rows}
use Rattle.clap.specs.declared.builder.arg.Arg.{Arg}
use Rattle.clap.specs.declared.parser.matches.ArgMatches.{ArgMatches}
use Rattle.clap.specs.declared.parser.matches.Found.{Found}
use Rattle.clap.specs.declared.error.Error.{Error}
use Rattle.clap.specs.declared.error.kind.ErrorKind.{ErrorKind}
use Rattle.clap.specs.declared.error.kind.ErrorKind.TheVariants.{OutOfMemory}
use Rattle.size_options.specs.Command.{errors_of, profile_app, rows_by, takes_words}

-- A command with one more argument.
pub arg_added : {before old new : App} (a : Arg) (r : Rule) → (a.global ≡ false → new ≡ with_rule old (rule_of a)) → a.global ≡ false → rule_of a ≡ r → old ≡ before → new ≡ with_rule before r
arg_added a r shape local rule is = shape local ∙ ap₂ with_rule is rule

pub profile_is_simple : is_simple profile_app ≡ true
unfolding profile_app
profile_is_simple = refl

pub profile_is_free : is_simple_and_free profile_app ≡ true
unfolding profile_app
profile_is_free = refl

pub rows_are : (a : App) (words : List Text) (m : ArgMatches) → a ≡ profile_app → HasMatchesOf a words m
    → rows_of (found_of m) ≡ rows_by words
unfolding rows_by
rows_are a words m is h = (h (ap is_simple is ∙ profile_is_simple)).0 ∙ ap (λ (x : App). matches_of x words) is

pub taken : (a : App) (words : List Text) → a ≡ profile_app → takes_words words ≡ true → takes a words ≡ true
unfolding takes_words
taken a words is h = ap (λ (x : App). takes x words) is ∙ h

not_true : (b : Bool) → (b ≡ true → ⊥) → b ≡ false
not_true true never = absurd (never refl)
not_true false never = refl

-- An error other than a failed allocation comes only if the arguments can't be parsed.
pub not_taken : (a : App) (words : List Text) (k : ErrorKind) → a ≡ profile_app
    → (takes a words ≡ true → k ≡ OutOfMemory) → (k ≡ OutOfMemory → ⊥) → takes_words words ≡ false
not_taken a words k is passes never = not_true (takes_words words) (λ h. never (passes (taken a words is h)))

-- There is no kind of error if parsing succeeds.
pub none_refused : {T : Type 0} (a : App) (words : List Text) (r : Result T Error) (x : T) → a ≡ profile_app
    → (is_simple_and_free a ≡ true → FailsBy (fault_of a words) r) → r ≡ Ok x → errors_of words ≡ []
unfolding errors_of
none_refused a words r x is fails ok =
    ap (λ (b : App). fault_of b words) (sym is) ∙ subst (λ q. FailsBy (fault_of a words) q) ok (fails (ap is_simple_and_free is ∙ profile_is_free))

among_some : (k : ErrorKind) (kinds : Kinds) → IsAmong k kinds → kinds ≡ [] → ⊥
among_some k [] h e = h
among_some k (x ∷ xs) h e = cc

has_some : (kinds : Kinds) (e : Error) → HasKind kinds e → (kind_of e ≡ OutOfMemory → ⊥) → kinds ≡ [] → ⊥
has_some kinds e (inl h) other none = other h
has_some kinds e (inr h) other none = among_some (kind_of e) kinds h none

pub some_refused : {T : Type 0} (a : App) (words : List Text) (r : Result T Error) (e : Error) → a ≡ profile_app
    → (is_simple_and_free a ≡ true → FailsBy (fault_of a words) r) → r ≡ Err e → (kind_of e ≡ OutOfMemory → ⊥) → errors_of words ≢ []
unfolding errors_of
some_refused a words r e is fails err other none =
    has_some (fault_of a words) e (subst (λ q. FailsBy (fault_of a words) q) err (fails (ap is_simple_and_free is ∙ profile_is_free))) other
    (ap (λ (b : App). fault_of b words) is ∙ none)

pub value_is : (f : Found) (id : Text) → first_value f id ≡ first_of id (rows_of f)
value_is f id = first_value-rows f id

pub values_are : (f : Found) (id : Text) → option_map raw_values (matched_of f id) ≡ all_of id (rows_of f)
values_are f id = raw_values-rows f id
