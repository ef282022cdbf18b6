-- The values of a root, one after another.
use Rattle.std.proofs.Common.{◌≡◌, ◌≤◌, ◌<◌, ◌+◌, ℕ, drop, get_or, ◌==◌, Bool, true, false, List, [], ◌∷◌, length, Option, Some, None, Result, Ok, Err, refl, sym, ap, subst, ◌∙◌}
use Rattle.std.proofs.lemmas.List.{drop_all, drop_more}
use Rattle.std.specs.Prelude.{if◌then◌else◌}
use Rattle.size_core.specs.declared.fault.BadFile.{BadFile}
use Rattle.size_core.specs.declared.fault.Fault.TheVariants.{BadAbbrev}
use Rattle.size_core.specs.Checks.{◌>>=◌, bad}
use Rattle.byte_cursor.specs.Window.{Window}
use Rattle.dwarf_abbrev.specs.declared.shape.UnitShape.{UnitShape}
use Rattle.dwarf_abbrev.specs.declared.spec.Spec.{Spec}
use Rattle.dwarf_abbrev.specs.Declarations.{Declaration, Table, declared}
use Rattle.dwarf_abbrev.specs.Listing.{left}
use Rattle.dwarf_abbrev.specs.Reads.{uleb_from}
use Rattle.dwarf_abbrev.specs.Values.{ValueRecord, value_from}
use Rattle.dwarf_units.specs.declared.constants.TheConstants.{DW_AT_NAME, DW_AT_STMT_LIST, DW_AT_LOW_PC, DW_AT_HIGH_PC, DW_AT_RANGES, DW_AT_STR_OFFSETS_BASE, DW_AT_ADDR_BASE, DW_AT_RNGLISTS_BASE}
use Rattle.dwarf_units.specs.declared.unit.DwarfUnit.{DwarfUnit}
use Rattle.dwarf_units.specs.Filling.{AreRootsOf, AreSpecsOf, code_in, code_of, slot, with_value, known, filled, filled_from, root_code}
use Rattle.dwarf_units.specs.Roots.{RootRecord, declared_values, root_in, root_values, root_with, values_from, first_value}

abbrev pub V : Type 0
V = Option ValueRecord

-- Roots with equal values are equal.
module _ (r : RootRecord) where
  unfoldable pub with_values : V → V → V → V → V → V → V → V → RootRecord
  with_values a b c d e f g h = record r { name = a; low = b; high = c; ranges = d; lines = e; str_base = f; addr_base = g; list_base = h }

  pub same_values : (a b c d e f g h a' b' c' d' e' f' g' h' : V) → a ≡ a' → b ≡ b' → c ≡ c' → d ≡ d' → e ≡ e' → f ≡ f' → g ≡ g' → h ≡ h'
      → with_values a b c d e f g h ≡ with_values a' b' c' d' e' f' g' h'
  same_values a b c d e f g h a' b' c' d' e' f' g' h' p q s t u v x y =
      ap (λ (z : V). with_values z b c d e f g h) p ∙ ap (λ (z : V). with_values a' z c d e f g h) q ∙ ap (λ (z : V). with_values a' b' z d e f g h) s ∙ ap (λ (z : V). with_values a' b' c' z e f g h) t
      ∙ ap (λ (z : V). with_values a' b' c' d' z f g h) u ∙ ap (λ (z : V). with_values a' b' c' d' e' z g h) v ∙ ap (λ (z : V). with_values a' b' c' d' e' f' z h) x ∙ ap (λ (z : V). with_values a' b' c' d' e' f' g' z) y

-- One more value that is known, or one more value that is still to come.
known_step : (wanted attribute : ℕ) (old : V) (v : ValueRecord) (vs : List (ℕ × ValueRecord)) → known old wanted ((attribute, v) ∷ vs) ≡ known (slot wanted attribute old v) wanted vs
unfolding first_value
known_step wanted attribute (Some first) v vs = by_test (attribute == wanted)
  where
    by_test : (b : Bool) → Some first ≡ known (if b then Some first else Some first) wanted vs
    by_test true = refl
    by_test false = refl
known_step wanted attribute None v vs = by_test (attribute == wanted)
  where
    by_test : (b : Bool) → (if b then Some v else first_value wanted vs) ≡ known (if b then Some v else None) wanted vs
    by_test true = refl
    by_test false = refl

known_none : (wanted : ℕ) (old : V) → known old wanted [] ≡ old
unfolding first_value
known_none wanted (Some first) = refl
known_none wanted None = refl

filled_step : (r : RootRecord) (attribute : ℕ) (v : ValueRecord) (vs : List (ℕ × ValueRecord)) → filled r ((attribute, v) ∷ vs) ≡ filled (with_value attribute v r) vs
unfolding with_values
filled_step r n v vs = same_values r _ _ _ _ _ _ _ _ _ _ _ _ _ _ _ _
    (known_step DW_AT_NAME n r.name v vs) (known_step DW_AT_LOW_PC n r.low v vs) (known_step DW_AT_HIGH_PC n r.high v vs) (known_step DW_AT_RANGES n r.ranges v vs)
    (known_step DW_AT_STMT_LIST n r.lines v vs) (known_step DW_AT_STR_OFFSETS_BASE n r.str_base v vs) (known_step DW_AT_ADDR_BASE n r.addr_base v vs) (known_step DW_AT_RNGLISTS_BASE n r.list_base v vs)

filled_none : (r : RootRecord) → filled r [] ≡ r
unfolding with_values
filled_none r = same_values r _ _ _ _ _ _ _ _ _ _ _ _ _ _ _ _
    (known_none DW_AT_NAME r.name) (known_none DW_AT_LOW_PC r.low) (known_none DW_AT_HIGH_PC r.high) (known_none DW_AT_RANGES r.ranges)
    (known_none DW_AT_STMT_LIST r.lines) (known_none DW_AT_STR_OFFSETS_BASE r.str_base) (known_none DW_AT_ADDR_BASE r.addr_base) (known_none DW_AT_RNGLISTS_BASE r.list_base)

-- No value is left.
pub filled_end : (shape : UnitShape) (w : Window) (r : RootRecord) → filled_from shape [] w r ≡ Ok r
unfolding filled_from values_from
filled_end shape w r = ap (λ (x : RootRecord). Ok x) (filled_none r)

-- A value, and then the rest.
pub filled_more : (shape : UnitShape) (s : Spec) (ss : List Spec) (w next : Window) (v : ValueRecord) (r : RootRecord) → value_from shape s w ≡ Ok (v, next)
    → filled_from shape (s ∷ ss) w r ≡ filled_from shape ss next (with_value s.attribute v r)
unfolding filled_from values_from
filled_more shape s ss w next v r is = rw is (by_rest (values_from shape ss next))
  where
    by_rest : (rest : Result (List (ℕ × ValueRecord)) BadFile) → ((rest >>= λ vs. Ok ((s.attribute, v) ∷ vs)) >>= λ vs. Ok (filled r vs)) ≡ (rest >>= λ vs. Ok (filled (with_value s.attribute v r) vs))
    by_rest (Ok vs) = ap (λ (x : RootRecord). Ok x) (filled_step r s.attribute v vs)
    by_rest (Err e) = refl

-- The first fault among the values.
pub filled_bad : (shape : UnitShape) (s : Spec) (ss : List Spec) (w : Window) (e : BadFile) (r : RootRecord) → value_from shape s w ≡ Err e → filled_from shape (s ∷ ss) w r ≡ Err e
unfolding filled_from values_from
filled_bad shape s ss w e r is = rw is refl

-- The same of a slice of attributes, from an index on.
pub listed_end : (shape : UnitShape) (specs : List Spec) (i : ℕ) (w : Window) (r : RootRecord) → length specs ≤ i → filled_from shape (drop i specs) w r ≡ Ok r
listed_end shape specs i w r le = rw (drop_all i specs le) (filled_end shape w r)

pub listed_more : (shape : UnitShape) (specs : List Spec) (i : ℕ) (d : Spec) (w next : Window) (v : ValueRecord) (r : RootRecord) → i < length specs → value_from shape (get_or specs i d) w ≡ Ok (v, next)
    → filled_from shape (drop i specs) w r ≡ filled_from shape (drop (i + 1) specs) next (with_value (get_or specs i d).attribute v r)
listed_more shape specs i d w next v r lt is = rw (drop_more specs i d lt) (filled_more shape (get_or specs i d) (drop (i + 1) specs) w next v r is)

pub listed_bad : (shape : UnitShape) (specs : List Spec) (i : ℕ) (d : Spec) (w : Window) (e : BadFile) (r : RootRecord) → i < length specs → value_from shape (get_or specs i d) w ≡ Err e
    → filled_from shape (drop i specs) w r ≡ Err e
listed_bad shape specs i d w e r lt is = rw (drop_more specs i d lt) (filled_bad shape (get_or specs i d) (drop (i + 1) specs) w e r is)

-- A root by its code, and the values after the code.
abbrev Values : Type 0
Values = Result (List (ℕ × ValueRecord)) BadFile

module _ (table : Table) (unit : DwarfUnit) where
  values_after : Result (Option (ℕ × Window)) BadFile → Values
  values_after (Err e) = Err e
  values_after (Ok None) = Ok []
  values_after (Ok (Some code)) = declared_values unit.shape unit.place (declared table.declarations code.0) code.1

  values_by_code : root_values table unit ≡ values_after (root_code unit)
  unfolding root_values root_code values_after
  values_by_code = by_end (left unit.body == 0)
    where
      none : Values
      none = Ok []

      by_end : (b : Bool) → (if b then Ok [] else uleb_from unit.body >>= (λ code. if code.0 == 0 then Ok [] else declared_values unit.shape unit.place (declared table.declarations code.0) code.1))
          ≡ values_after (if b then Ok None else uleb_from unit.body >>= (λ code. if code.0 == 0 then Ok None else Ok (Some code)))
      by_end true = refl
      by_end false = by_code (uleb_from unit.body)
        where
          by_zero : (code : ℕ × Window) (b : Bool) → (if b then Ok [] else declared_values unit.shape unit.place (declared table.declarations code.0) code.1) ≡ values_after (if b then Ok None else Ok (Some code))
          by_zero code true = refl
          by_zero code false = refl

          by_code : (r : Result (ℕ × Window) BadFile) → (r >>= (λ code. if code.0 == 0 then Ok [] else declared_values unit.shape unit.place (declared table.declarations code.0) code.1))
              ≡ values_after (r >>= (λ code. if code.0 == 0 then Ok None else Ok (Some code)))
          by_code (Err e) = refl
          by_code (Ok code) = by_zero code (code.0 == 0)

  pub root_none : root_code unit ≡ Ok None → root_in table unit ≡ Ok (root_with unit table [])
  unfolding values_after
  root_none is = rw (values_by_code, is) refl

  pub root_bad : (e : BadFile) → root_code unit ≡ Err e → root_in table unit ≡ Err e
  unfolding values_after
  root_bad e is = rw (values_by_code, is) refl

  pub root_undeclared : (n : ℕ) (w : Window) → root_code unit ≡ Ok (Some (n, w)) → declared table.declarations n ≡ None → root_in table unit ≡ bad BadAbbrev unit.place
  unfolding values_after
  root_undeclared n w is none = rw (values_by_code, is, none) refl

  pub root_declared : (n : ℕ) (w : Window) (d : Declaration) → root_code unit ≡ Ok (Some (n, w)) → declared table.declarations n ≡ Some d
      → root_in table unit ≡ filled_from unit.shape d.specs w (root_with unit table [])
  unfolding values_after filled_from first_value
  root_declared n w d is found = rw (values_by_code, is, found) refl

  -- An index of the table has the declaration of the code.
  indexed : (index : ℕ → Option (List Spec)) (n : ℕ) (d : Option Declaration) (specs : Option (List Spec)) → ((q : ℕ) → AreRootsOf (declared table.declarations q) (index q)) → declared table.declarations n ≡ d → index n ≡ specs → AreRootsOf d specs
  indexed index n d specs rightly e i = subst (λ (s : Option (List Spec)). AreRootsOf d s) i (subst (λ (x : Option Declaration). AreRootsOf x (index n)) e (rightly n))

  pub root_unlisted : (index : ℕ → Option (List Spec)) (n : ℕ) (w : Window) → ((q : ℕ) → AreRootsOf (declared table.declarations q) (index q)) → root_code unit ≡ Ok (Some (n, w)) → index n ≡ None
      → root_in table unit ≡ bad BadAbbrev unit.place
  root_unlisted index n w rightly is none = by_declaration (declared table.declarations n) refl
    where
      by_declaration : (d : Option Declaration) → declared table.declarations n ≡ d → root_in table unit ≡ bad BadAbbrev unit.place
      by_declaration None e = root_undeclared n w is e
      by_declaration (Some d) e = absurd (indexed index n (Some d) None rightly e none)

  pub root_listed : (index : ℕ → Option (List Spec)) (n : ℕ) (w : Window) (specs : List Spec) → ((q : ℕ) → AreRootsOf (declared table.declarations q) (index q)) → root_code unit ≡ Ok (Some (n, w)) → index n ≡ Some specs
      → w.at ≤ length w.bytes → root_in table unit ≡ filled_from unit.shape specs w (root_with unit table [])
  root_listed index n w specs rightly is some within = by_declaration (declared table.declarations n) refl
    where
      by_declaration : (d : Option Declaration) → declared table.declarations n ≡ d → root_in table unit ≡ filled_from unit.shape specs w (root_with unit table [])
      by_declaration None e = absurd (indexed index n None (Some specs) rightly e some)
      by_declaration (Some d) e = root_declared n w d is e ∙ sym (indexed index n (Some d) (Some specs) rightly e some unit.shape w (root_with unit table []) within)

  -- Attributes that give the same roots as the declaration of the code.
  with_code : (n : ℕ) (w : Window) (specs : List Spec) → AreSpecsOf table.declarations (code_of unit) specs → root_code unit ≡ Ok (Some (n, w)) → AreRootsOf (declared table.declarations n) (Some specs)
  with_code n w specs given is = subst (λ (r : Result (Option (ℕ × Window)) BadFile). AreSpecsOf table.declarations (code_in r) specs) is given

  pub root_known : (n : ℕ) (w : Window) (specs : List Spec) → AreSpecsOf table.declarations (code_of unit) specs → root_code unit ≡ Ok (Some (n, w)) → w.at ≤ length w.bytes
      → root_in table unit ≡ filled_from unit.shape specs w (root_with unit table [])
  root_known n w specs given is within = by_declaration (declared table.declarations n) refl (with_code n w specs given is)
    where
      by_declaration : (d : Option Declaration) → declared table.declarations n ≡ d → AreRootsOf d (Some specs) → root_in table unit ≡ filled_from unit.shape specs w (root_with unit table [])
      by_declaration None e same = absurd same
      by_declaration (Some d) e same = root_declared n w d is e ∙ sym (same unit.shape w (root_with unit table []) within)
