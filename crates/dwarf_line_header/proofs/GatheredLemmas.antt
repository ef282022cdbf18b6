-- The values of an entry, one after another.
use Rattle.std.proofs.Common.{◌≡◌, ℕ, ◌+◌, ◌-◌, ◌<◌, ◌≤◌, Bool, true, false, List, [], ◌∷◌, Option, Some, None, Ok, Err, refl, sym, ap, ◌∙◌}
use Rattle.std.specs.Prelude.{nat_eq, is_ok}
use Rattle.size_core.specs.declared.fault.BadFile.{BadFile}
use Rattle.size_core.specs.Checks.{◌>>=◌}
use Rattle.byte_cursor.specs.Window.{Window}
use Rattle.dwarf_abbrev.specs.declared.shape.UnitShape.{UnitShape}
use Rattle.dwarf_abbrev.specs.declared.spec.Spec.{Spec}
use Rattle.dwarf_abbrev.specs.Values.{ValueRecord, value_from}
use Rattle.dwarf_abbrev.specs.Reads.{Reading}
use Rattle.dwarf_line_header.specs.declared.constants.TheConstants.{DW_LNCT_PATH, DW_LNCT_DIRECTORY_INDEX}
use Rattle.dwarf_line_header.specs.FormattedTables.{Item, EntryValues, first_value, pair_from, picked, entry_values_from, values_from}
use Rattle.dwarf_line_header.specs.Gathered.{held_first, with_value, with_rest, gathered}
use Rattle.dwarf_line_header.specs.Tables.{before, items_of, many_from}
use Rattle.dwarf_line_header.proofs.TableLemmas.{many_bad, many_end, many_more, is_ok-before, items_before}

first_held : (content : ℕ) (held : Option ValueRecord) (v : Item) (vs : List Item)
    → held_first held (first_value content (v ∷ vs)) ≡ held_first (held_first held (first_value content (v ∷ []))) (first_value content vs)
first_held content (Some x) v vs = refl
first_held content None v vs = by_test (nat_eq v.content content) refl
  where
    by_test : (b : Bool) → nat_eq v.content content ≡ b → held_first None (first_value content (v ∷ vs)) ≡ held_first (held_first None (first_value content (v ∷ []))) (first_value content vs)
    by_test true e = rw e refl
    by_test false e = rw e refl

rest_more : (s : UnitShape) (held : EntryValues) (v : Item) (r : Reading (List Item)) → with_rest held (before v r) ≡ with_rest (with_value held v) r
rest_more s held v (Ok vs) = rw (first_held DW_LNCT_PATH held.path v vs.0, first_held DW_LNCT_DIRECTORY_INDEX held.directory v vs.0) refl
rest_more s held v (Err e) = refl

-- If a pair follows, its value is read, and then the values of the other pairs.
pub gathered_more : (s : UnitShape) (held : EntryValues) (n i : ℕ) (pairs pairs' w next : Window) (p : Spec) (v : ValueRecord) → i < n → pair_from pairs ≡ Ok (p, pairs') → value_from s p w ≡ Ok (v, next) → is_ok (many_from pair_from (n - i) pairs) ≡ true
    → gathered s held (many_from pair_from (n - i) pairs) w ≡ gathered s (with_value held (record { content = p.attribute; value = v })) (many_from pair_from (n - (i + 1)) pairs') next
unfolding gathered values_from
gathered_more s held n i pairs pairs' w next p v lt pair value good =
    let more = many_more pair_from n i pairs pairs' p lt pair in
    let whole : is_ok (before p (many_from pair_from (n - (i + 1)) pairs')) ≡ true = ap (λ (r : Reading (List Spec)). is_ok r) (sym more) ∙ good in
    let item : Item = record { content = p.attribute; value = v } in
    rw (more, items_before p (many_from pair_from (n - (i + 1)) pairs') whole, value) (rest_more s held item (values_from s (items_of (many_from pair_from (n - (i + 1)) pairs')) next))

pub gathered_bad : (s : UnitShape) (held : EntryValues) (n i : ℕ) (pairs pairs' w : Window) (p : Spec) (e : BadFile) → i < n → pair_from pairs ≡ Ok (p, pairs') → value_from s p w ≡ Err e → is_ok (many_from pair_from (n - i) pairs) ≡ true
    → gathered s held (many_from pair_from (n - i) pairs) w ≡ Err e
unfolding gathered values_from
gathered_bad s held n i pairs pairs' w p e lt pair value good =
    let more = many_more pair_from n i pairs pairs' p lt pair in
    let whole : is_ok (before p (many_from pair_from (n - (i + 1)) pairs')) ≡ true = ap (λ (r : Reading (List Spec)). is_ok r) (sym more) ∙ good in
    rw (more, items_before p (many_from pair_from (n - (i + 1)) pairs') whole, value) refl

pub gathered_end : (s : UnitShape) (held : EntryValues) (n i : ℕ) (pairs w : Window) → n ≤ i → gathered s held (many_from pair_from (n - i) pairs) w ≡ Ok (held, w)
unfolding gathered values_from
gathered_end s held n i pairs w le = rw (many_end pair_from n i pairs le) (by_values held)
  where
    by_held : (o : Option ValueRecord) → held_first o None ≡ o
    by_held None = refl
    by_held (Some x) = refl

    by_values : (held : EntryValues) → with_rest held (Ok ([], w)) ≡ Ok (held, w)
    by_values held = rw (by_held held.path, by_held held.directory) refl

-- The pairs that are left can be read.
pub pairs_good : (n i : ℕ) (pairs pairs' : Window) (p : Spec) → i < n → pair_from pairs ≡ Ok (p, pairs') → is_ok (many_from pair_from (n - i) pairs) ≡ true → is_ok (many_from pair_from (n - (i + 1)) pairs') ≡ true
pairs_good n i pairs pairs' p lt pair good =
    let more = many_more pair_from n i pairs pairs' p lt pair in
    sym (is_ok-before p (many_from pair_from (n - (i + 1)) pairs')) ∙ (ap (λ (r : Reading (List Spec)). is_ok r) (sym more) ∙ good)

pub pairs_stop : (n i : ℕ) (pairs : Window) (e : BadFile) → i < n → pair_from pairs ≡ Err e → is_ok (many_from pair_from (n - i) pairs) ≡ false
pairs_stop n i pairs e lt bad = rw (many_bad pair_from n i pairs e lt bad) refl

-- If nothing is known, the result is that of the values alone.
pub gathered_is : (s : UnitShape) (pairs : Reading (List Spec)) (w : Window) → gathered s (record { path = None; directory = None }) pairs w ≡ entry_values_from s (items_of pairs) w
unfolding gathered entry_values_from
gathered_is s pairs w = by_values (values_from s (items_of pairs) w)
  where
    by_values : (r : Reading (List Item)) → with_rest (record { path = None; directory = None }) r ≡ (r >>= λ (values : List Item × Window). Ok (picked values.0, values.1))
    by_values (Ok vs) = refl
    by_values (Err e) = refl
