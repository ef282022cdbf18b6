use Rattle.std.proofs.Common.{◌≡◌, ◌∙◌, ◌<◌, ◌*◌, ◌+◌, ◌==◌, ℕ, zero, suc, Bool, false, List, Option, Some, None, is_some, option_map, refl, sym, ap, ap₂, get_or, arith, if◌then◌else◌}
use Rattle.std.proofs.lemmas.Bool.Decides.{nat_tests}
use mathlib.Core.Path.{fun_ext}
use Rattle.regex.specs.Patterns.{Match, find, slot_of, span}
use Rattle.regex.specs.Bytes.{IsCapturesOf, regex_pattern, regex_source, regex_config, IsReadFromSource}
use Rattle.regex.specs.Search.{group_span}
use Rattle.regex.specs.Writes.{both, group_of}
use Rattle.regex.specs.Replace.{bytes_of, group_bytes}
use Rattle.regex.specs.declared.bytes.captures.Captures.{Captures}
use Rattle.regex.specs.declared.bytes.regex.Regex.{Regex}
use Rattle.custom_rewrites.specs.Pattern.{bytes_config, is_found}
use Rattle.custom_rewrites.specs.Expand.{expanded, group_in, replaced}
use Rattle.custom_rewrites.proofs.PatternLemmas.{matches_as_written, found_as_written}

group_of_same : (n m : Match) (k : ℕ) → slot_of n ≡ slot_of m → group_of m k ≡ group_of n k
group_of_same n m k same = ap (λ (s : ℕ → Option ℕ). both (s (2 * k)) (s (2 * k + 1))) (sym same)

not_first : (k : ℕ) → (suc k == 0) ≡ false
not_first k = grind (arith, nat_tests)

module _ (label : List ℕ) (m n : Match) (c : Captures) (h : IsCapturesOf label m c) (spans : span m ≡ span n) (slots : slot_of n ≡ slot_of m) where
  group_is : (k : ℕ) → group_in c k ≡ group_bytes label n k
  unfolding group_span
  group_is zero = ap₂ bytes_of h.0 (ap Some (h.1.whole_is ∙ spans))
  group_is (suc k) = ap₂ bytes_of h.0 (h.2 (suc k) (omega arith) ∙ group_of_same n m (suc k) slots)
      ∙ sym (ap (λ (b : Bool). bytes_of label (if b then Some (span n) else group_of n (suc k))) (not_first k))

  pub expanded_is : (replacement : List ℕ) → expanded (group_in c) replacement ≡ expanded (group_bytes label n) replacement
  expanded_is replacement = ap (λ (g : ℕ → List ℕ). expanded g replacement) (fun_ext group_is)

none_of : {A : Type 0} (o : Option A) → is_some o ≡ false → o ≡ None
none_of None e = refl
none_of (Some x) e = cc

module _ (r : Regex) (source : List ℕ) (is_source : regex_source r ≡ source) (is_config : regex_config r ≡ bytes_config) (is_read : IsReadFromSource r)
    (label : List ℕ) (bytes : (k : ℕ) → get_or label k 0 < 256) (replacement : List ℕ) where
  pub replaced_none : find (regex_pattern r) label 0 ≡ None → replaced source replacement label ≡ None
  replaced_none none =
      ap (option_map (λ (m : Match). expanded (group_bytes label m) replacement))
      (none_of _ (sym (matches_as_written r source is_source is_config is_read label bytes) ∙ ap is_some none))

  pub replaced_some : (m : Match) (c : Captures) → find (regex_pattern r) label 0 ≡ Some m → IsCapturesOf label m c
      → replaced source replacement label ≡ Some (expanded (group_in c) replacement)
  replaced_some m c is h =
      let found = found_as_written r source is_source is_config is_read label bytes m is in
      ap (option_map (λ (x : Match). expanded (group_bytes label x) replacement)) found.1
      ∙ ap Some (sym (expanded_is label m found.0 c h found.3 found.2 replacement))

-- A label that the pattern isn't found in.
pub not_replaced : (source label replacement : List ℕ) → is_found source label ≡ false → replaced source replacement label ≡ None
not_replaced source label replacement other = ap (option_map (λ (m : Match). expanded (group_bytes label m) replacement)) (none_of _ other)
