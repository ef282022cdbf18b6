use Rattle.std.proofs.Common.{◌≡◌, ◌∙◌, ◌<◌, ◌≤◌, ◌≢◌, ℕ, false, List, Option, Some, None, is_some, option_map, option_and_then, IsSomeAnd, ◌⊎◌, arith, refl, sym, ap, get_or, inl, inr}
use Rattle.std.specs.Prelude.{IfSome, chars}
use Rattle.regex.specs.Patterns.{Re, Match, find, slot_of, span, Reads}
use Rattle.regex.specs.Bytes.{regex_pattern, regex_source, regex_config, IsReadFromSource}
use Rattle.regex.specs.declared.bytes.regex.Regex.{Regex}
use Rattle.regex.proofs.ForCallers.{bytes_alike_as_written, is_match_alike, found_alike, span_alike}
use Rattle.regex.proofs.OnLiterals.{IsReadAs, same_refl}
use Rattle.regex_syntax.specs.Grammar.{Names, read}
use Rattle.regex_syntax.specs.Verdict.{Refuses}
use Rattle.regex_syntax.specs.Brackets.{Nested}
use Rattle.regex_syntax.specs.Same.{SameTree}
use Rattle.regex_syntax.specs.declared.error.ErrorKind.{ErrorKind}
use Rattle.regex_syntax.specs.declared.error.ErrorKind.TheVariants.{OutOfMemory}
use Rattle.custom_rewrites.specs.Pattern.{bytes_config, tree_of, found_in, is_found, FindsAs, IsNoPattern, IsPattern}

-- The syntax tree of a text that the grammar can read.
read_some : (P : Nested Re × Names → Type 0) (o : Option (Nested Re × Names)) → IsSomeAnd o P
    → (re : Re) × (option_map (λ p. p.0.value) o ≡ Some re) × IsSomeAnd o (λ (found, _). SameTree found.value re)
read_some P None h = absurd h
read_some P (Some p) h = (p.0.value, refl, same_refl p.0.value)

tree_is : (r : Regex) (source : List ℕ) → regex_source r ≡ source → regex_config r ≡ bytes_config → IsReadFromSource r
    → (re : Re) × (tree_of source ≡ Some re) × IsReadAs bytes_config source re
unfolding Reads
tree_is r source is_source is_config is_read = read_some _ (read bytes_config (chars source)) (rw (is_source, is_config) at is_read)

same_value : {A : Type 0} {x y : A} → Some x ≡ Some y → x ≡ y
same_value e = cc

module _ (r : Regex) (source : List ℕ) (is_source : regex_source r ≡ source) (is_config : regex_config r ≡ bytes_config) (is_read : IsReadFromSource r)
    (hay : List ℕ) (bytes : (k : ℕ) → get_or hay k 0 < 256) where
  -- The compiled pattern finds what the text of the pattern finds.
  pub matches_as_written : is_some (find (regex_pattern r) hay 0) ≡ is_found source hay
  matches_as_written =
      let tree = tree_is r source is_source is_config is_read in
      is_match_alike (bytes_alike_as_written r bytes_config source is_source is_config is_read tree.0 tree.2) hay bytes false 0
      ∙ sym (ap (λ (o : Option Re). is_some (option_and_then (λ re. find re hay 0) o)) tree.1)

  -- The match has the same groups.
  pub found_as_written : (m : Match) → find (regex_pattern r) hay 0 ≡ Some m → (n : Match) × (found_in source hay ≡ Some n) × (slot_of n ≡ slot_of m) × (span m ≡ span n)
  found_as_written m is =
      let tree = tree_is r source is_source is_config is_read in
      let alike = bytes_alike_as_written r bytes_config source is_source is_config is_read tree.0 tree.2 in
      let same = found_alike alike hay bytes false 0 m is in
      let spans = sym (ap (option_map span) is) ∙ span_alike alike hay bytes false 0 ∙ ap (option_map span) same.1 in
      (same.0, ap (option_and_then (λ (re : Re). find re hay 0)) tree.1 ∙ same.1, same.2, same_value spans)

none_read : (o : Option (Nested Re × Names)) → o ≡ None → option_map (λ p. p.0.value) o ≡ None
none_read o is = ap (option_map (λ (p : Nested Re × Names). p.0.value)) is

-- A syntax error that isn't a failed allocation.
pub no_pattern : (source : List ℕ) (kind : ErrorKind) → Refuses bytes_config source kind → kind ≢ OutOfMemory → IsNoPattern source
unfolding Refuses
no_pattern source kind (inl h) other = absurd (other h)
no_pattern source kind (inr (inl h)) other = inl (none_read _ h)
no_pattern source kind (inr (inr h)) other = inr h.1

-- What the grammar reads has less than all these facts.
read_has : (P Q : Nested Re × Names → Type 0) (o : Option (Nested Re × Names)) → ((p : Nested Re × Names) → P p → Q p) → IsSomeAnd o P → IsSomeAnd o Q
read_has P Q None f h = absurd h
read_has P Q (Some p) f h = f p h

-- The text of a compiled pattern is a pattern.
pub is_pattern : (r : Regex) (source : List ℕ) → regex_source r ≡ source → regex_config r ≡ bytes_config → IsReadFromSource r → IsPattern source
unfolding Reads
is_pattern r source is_source is_config is_read = read_has _ (λ p. p.0.depth ≤ bytes_config.nest_limit) (read bytes_config (chars source)) (λ p h. h.0) (rw (is_source, is_config) at is_read)

pub finds_as : (r : Regex) (source : List ℕ) → regex_source r ≡ source → regex_config r ≡ bytes_config → IsReadFromSource r
    → (re : Re) → re ≡ regex_pattern r → FindsAs re source
finds_as r source is_source is_config is_read re is label bytes =
    ap (λ (p : Re). is_some (find p label 0)) is ∙ matches_as_written r source is_source is_config is_read label bytes

-- No text is a pattern and also no pattern.
none-both : (limit : ℕ) (o : Option (Nested Re × Names)) → IsSomeAnd o (λ (re, _). re.depth ≤ limit) → (option_map (λ p. p.0.value) o ≡ None) ⊎ IfSome o (λ (re, _). limit < re.depth) → ⊥
none-both limit None is none = absurd is
none-both limit (Some p) is (inl none) = cc none
none-both limit (Some p) is (inr deep) = absurd (omega (arith, is, deep))

pub not-both : (source : List ℕ) → IsPattern source → IsNoPattern source → ⊥
not-both source is none = none-both bytes_config.nest_limit (read bytes_config (chars source)) is none
