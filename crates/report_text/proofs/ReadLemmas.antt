-- Records of separated values are read back from their text.
use Rattle.std.proofs.Common.{◌≡◌, ℕ, suc, ◌<◌, ◌==◌, ◌||◌, Bool, true, false, List, [], ◌∷◌, ◌++◌, Some, length, map, flat_map, option_map, refl, sym, ap, subst, ◌∙◌, inl, inr, append_assoc, arith}
use Rattle.std.specs.List.{AllByRecursion, list_any}
use Rattle.std.proofs.lemmas.Bool.{cases_Bool, eq-eqb, eqb-true, ne_eqb}
use Rattle.std.proofs.lemmas.List.{append-nil}
use Rattle.csv.specs.Writing.{escaped, field_text, fields_text, is_blank, needs_byte, row_text}
use Rattle.report_text.specs.Reading.{all_of, cut, quoted_value, read_records, record_of, value_of, wants_quotes, with_first, without_return}
use Rattle.report_text.specs.Records.{Fields, delimited}

not-true : (x : Bool) → (x ≡ true → ⊥) → x ≡ false
not-true true n = absurd (n refl)
not-true false n = refl

or-left : (a b : Bool) → (a || b) ≡ false → a ≡ false
or-left false b e = refl
or-left true b e = cc e

or-right : (a b : Bool) → (a || b) ≡ false → b ≡ false
or-right false b e = e
or-right true b e = cc e

-- The pieces of a text with more bytes at its start.
onto : List ℕ → Fields → Fields
onto [] pieces = pieces
onto (b ∷ text) pieces = with_first b (onto text pieces)

onto-first : (text piece : List ℕ) (pieces : Fields) → onto text (piece ∷ pieces) ≡ (text ++ piece) ∷ pieces
unfolding onto
onto-first [] piece pieces = refl
onto-first (b ∷ text) piece pieces = ap (with_first b) (onto-first text piece pieces)

onto-more : (a b : List ℕ) (pieces : Fields) → onto (a ++ b) pieces ≡ onto a (onto b pieces)
unfolding onto
onto-more [] b pieces = refl
onto-more (x ∷ a) b pieces = ap (with_first x) (onto-more a b pieces)

module _ (d : ℕ) (not_quote : (d == 34) ≡ false) (not_return : (d == 13) ≡ false) (not_feed : (d == 10) ≡ false) where
  -- A byte that needs no quotes is none of the bytes that have a meaning.
  plain-byte : (b : ℕ) → needs_byte (delimited d) b ≡ false → ((b == d) ≡ false) × ((b == 34) ≡ false) × ((b == 13) ≡ false) × ((b == 10) ≡ false)
  plain-byte b e =
      let a = not-true (b == d) (λ t. cc (rw t at e)) in
      let q = not-true (b == 34) (λ t. cc (rw (a, t) at e)) in
      let r = not-true (b == 13) (λ t. cc (rw (a, q, t) at e)) in
      let n = not-true (b == 10) (λ t. cc (rw (a, q, r, t) at e)) in
      (a, q, r, n)

  -- No byte of a text needs quotes.
  abbrev Plain : List ℕ → Type 0
  Plain text = list_any (needs_byte (delimited d)) text ≡ false

  -- A mark at which a text is cut. It is a byte that needs quotes, and isn't the quote.
  abbrev IsMark : ℕ → Type 0
  IsMark mark = ((b : ℕ) → needs_byte (delimited d) b ≡ false → (b == mark) ≡ false) × ((34 == mark) ≡ false)

  -- The text of a field isn't cut.
  module _ (mark : ℕ) (is : IsMark mark) (of_empty : Fields) where
    cut-plain : (text tail : List ℕ) → Plain text → cut mark of_empty false (text ++ tail) ≡ onto text (cut mark of_empty false tail)
    unfolding cut onto
    cut-plain [] tail e = refl
    cut-plain (b ∷ text) tail e =
        let own = or-left _ _ e in
        rw (is.0 b own, (plain-byte b own).1) (ap (with_first b) (cut-plain text tail (or-right _ _ e)))

    -- A quote that begins quotes, and one that ends them.
    cut-opens : (tail : List ℕ) → cut mark of_empty false (34 ∷ tail) ≡ with_first 34 (cut mark of_empty true tail)
    unfolding cut
    cut-opens tail = rw is.1 refl

    cut-closes : (tail : List ℕ) → cut mark of_empty true (34 ∷ tail) ≡ with_first 34 (cut mark of_empty false tail)
    unfolding cut
    cut-closes tail = rw is.1 refl

    cut-inside : (b : ℕ) (tail : List ℕ) → (b == 34) ≡ false → cut mark of_empty true (b ∷ tail) ≡ with_first b (cut mark of_empty true tail)
    unfolding cut
    cut-inside b tail e = elim (cases_Bool (b == mark)) [
      | inl same ↦ rw (same, e) refl
      | inr other ↦ rw (other, e) refl
    ]

    cut-quoted : (text tail : List ℕ) → cut mark of_empty true (escaped (delimited d) text ++ (34 ∷ tail)) ≡ onto (escaped (delimited d) text ++ (34 ∷ [])) (cut mark of_empty false tail)
    unfolding escaped onto
    cut-quoted [] tail = cut-closes tail
    cut-quoted (b ∷ text) tail = elim (cases_Bool (b == 34)) [
      | inl same ↦
          rw (same, eqb-true b 34 same) (cut-closes _ ∙ ap (with_first 34) (cut-opens _ ∙ ap (with_first 34) (cut-quoted text tail)))
      | inr other ↦
          rw other (cut-inside b _ other ∙ ap (with_first b) (cut-quoted text tail))
    ]

    cut-field : (field tail : List ℕ) → cut mark of_empty false (field_text (delimited d) field ++ tail) ≡ onto (field_text (delimited d) field) (cut mark of_empty false tail)
    unfolding onto
    cut-field field tail = elim (cases_Bool (list_any (needs_byte (delimited d)) field)) [
      | inl needs ↦
          rw needs (cut-opens _ ∙ ap (with_first 34) (ap (λ t. cut mark of_empty true t) (append_assoc (escaped (delimited d) field) (34 ∷ []) tail) ∙ cut-quoted field tail))
      | inr plain ↦ rw plain (cut-plain field tail plain)
    ]

  d-mark : IsMark d
  d-mark = ((λ b e. (plain-byte b e).0), not-true (34 == d) (λ t. cc (rw (sym (eqb-true 34 d t)) at not_quote)))

  line-mark : IsMark 10
  line-mark = ((λ b e. (plain-byte b e).3), refl)

  -- The value of a field in quotes.
  unquoted-byte : (b : ℕ) (text : List ℕ) → (b == 34) ≡ false → quoted_value false (b ∷ text) ≡ option_map (λ value. b ∷ value) (quoted_value false text)
  unfolding quoted_value
  unquoted-byte b text e = rw e refl

  quoted-is : (text : List ℕ) → quoted_value false (escaped (delimited d) text ++ (34 ∷ [])) ≡ Some text
  unfolding quoted_value escaped
  quoted-is [] = refl
  quoted-is (b ∷ text) = elim (cases_Bool (b == 34)) [
    | inl same ↦ rw (same, eqb-true b 34 same) (ap (option_map (λ value. 34 ∷ value)) (quoted-is text))
    | inr other ↦ rw other (unquoted-byte b (escaped (delimited d) text ++ 34 ∷ []) other ∙ ap (option_map (λ value. b ∷ value)) (quoted-is text))
  ]

  none-wanted : (text : List ℕ) → Plain text → list_any wants_quotes text ≡ false
  none-wanted [] e = refl
  none-wanted (b ∷ text) e =
      let own = plain-byte b (or-left _ _ e) in
      rw (own.1, own.2) (none-wanted text (or-right _ _ e))

  -- The value of a field that isn't in quotes.
  plain-is : (text : List ℕ) → Plain text → value_of text ≡ Some text
  plain-is [] e = refl
  plain-is (b ∷ text) e =
      let own = plain-byte b (or-left _ _ e) in
      let rest : Plain text = or-right _ _ e in
      rw (own.1, own.2, none-wanted text rest) refl

  -- A line that doesn't end in a carriage return.
  ended-cons : (b : ℕ) (text : List ℕ) → (b == 13) ≡ false → without_return text ≡ text → without_return (b ∷ text) ≡ b ∷ text
  unfolding without_return
  ended-cons b [] e is = rw e refl
  ended-cons b (c ∷ text) e is = ap (λ t. b ∷ t) is

  ended-append : (text : List ℕ) (b : ℕ) (more : List ℕ) → without_return (b ∷ more) ≡ b ∷ more → without_return (text ++ (b ∷ more)) ≡ text ++ (b ∷ more)
  unfolding without_return
  ended-append [] b more is = is
  ended-append (x ∷ []) b more is = ap (λ t. x ∷ t) is
  ended-append (x ∷ y ∷ text) b more is = ap (λ t. x ∷ t) (ended-append (y ∷ text) b more is)

  ended-plain : (text : List ℕ) → Plain text → without_return text ≡ text
  unfolding without_return
  ended-plain [] e = refl
  ended-plain (b ∷ text) e = ended-cons b text (plain-byte b (or-left _ _ e)).2 (ended-plain text (or-right _ _ e))

  ended-quote : without_return (34 ∷ []) ≡ 34 ∷ []
  unfolding without_return
  ended-quote = refl

  -- A text that is read as a field of this value.
  record IsField (text field : List ℕ) : Type 0 where
    whole : (mark : ℕ) → IsMark mark → (of_empty : Fields) (tail : List ℕ) → cut mark of_empty false (text ++ tail) ≡ onto text (cut mark of_empty false tail)
    value : value_of text ≡ Some field
    ended : without_return text ≡ text

  written-field : (field : List ℕ) → IsField (field_text (delimited d) field) field
  written-field field = elim (cases_Bool (list_any (needs_byte (delimited d)) field)) [
    | inl needs ↦ record {
      whole = λ mark is of_empty tail. cut-field mark is of_empty field tail;
      value = rw needs (quoted-is field);
      ended = rw needs (ended-append (34 ∷ escaped (delimited d) field) 34 [] ended-quote);
    }
    | inr plain ↦ record {
      whole = λ mark is of_empty tail. cut-field mark is of_empty field tail;
      value = rw plain (plain-is field plain);
      ended = rw plain (ended-plain field plain);
    }
  ]

  written-blank : IsField (34 ∷ 34 ∷ []) []
  unfolding onto quoted_value without_return
  written-blank = record {
    whole = λ mark is of_empty tail. cut-opens mark is of_empty (34 ∷ tail) ∙ ap (with_first 34) (cut-closes mark is of_empty tail);
    value = refl;
    ended = refl;
  }

  -- The fields after the first one.
  cut-rest : (of_empty xs : Fields) (tail : List ℕ) → cut 10 of_empty false (fields_text (delimited d) xs ++ tail) ≡ onto (fields_text (delimited d) xs) (cut 10 of_empty false tail)
  unfolding cut onto fields_text
  cut-rest of_empty [] tail = refl
  cut-rest of_empty (x ∷ xs) tail =
      rw (not_feed, not_quote) (ap (with_first d)
      (ap (λ t. cut 10 of_empty false t) (append_assoc (field_text (delimited d) x) (fields_text (delimited d) xs) tail)
      ∙ (cut-field 10 line-mark of_empty x (fields_text (delimited d) xs ++ tail)
      ∙ (ap (onto (field_text (delimited d) x)) (cut-rest of_empty xs tail)
      ∙ sym (onto-more (field_text (delimited d) x) (fields_text (delimited d) xs) (cut 10 of_empty false tail))))))

  cut-fields : (xs : Fields) → cut d ([] ∷ []) false (fields_text (delimited d) xs) ≡ [] ∷ map (field_text (delimited d)) xs
  unfolding cut fields_text
  cut-fields [] = refl
  cut-fields (x ∷ xs) =
      let one = field_text (delimited d) x in
      rw (eq-eqb d d refl, not_quote) (ap (λ ps. [] ∷ ps)
      (cut-field d d-mark ([] ∷ []) x (fields_text (delimited d) xs)
      ∙ (ap (onto one) (cut-fields xs)
      ∙ (onto-first one [] (map (field_text (delimited d)) xs) ∙ ap (λ t. t ∷ map (field_text (delimited d)) xs) (append-nil one)))))

  all-fields : (xs : Fields) → all_of (map value_of (map (field_text (delimited d)) xs)) ≡ Some xs
  unfolding all_of
  all-fields [] = refl
  all-fields (x ∷ xs) = rw ((written-field x).value, all-fields xs) refl

  line-ended : (text : List ℕ) (xs : Fields) → without_return text ≡ text → without_return (text ++ fields_text (delimited d) xs) ≡ text ++ fields_text (delimited d) xs
  unfolding fields_text
  line-ended text [] is = ap without_return (append-nil text) ∙ (is ∙ sym (append-nil text))
  line-ended text (x ∷ xs) is =
      ended-append text d _ (ended-cons d _ not_return (line-ended (field_text (delimited d) x) xs (written-field x).ended))

  -- The record on a line.
  line-read : (text x : List ℕ) (xs : Fields) → IsField text x → record_of d (without_return (text ++ fields_text (delimited d) xs)) ≡ Some (x ∷ xs)
  unfolding all_of
  line-read text x xs is =
      let pieces : cut d ([] ∷ []) false (text ++ fields_text (delimited d) xs) ≡ text ∷ map (field_text (delimited d)) xs =
      is.whole d d-mark ([] ∷ []) (fields_text (delimited d) xs)
      ∙ (ap (onto text) (cut-fields xs)
      ∙ (onto-first text [] (map (field_text (delimited d)) xs) ∙ ap (λ t. t ∷ map (field_text (delimited d)) xs) (append-nil text))) in
      ap (record_of d) (line-ended text xs is.ended)
      ∙ (ap (λ ps. all_of (map value_of ps)) pieces ∙ rw (is.value, all-fields xs) refl)

  cut-line : (text x : List ℕ) (xs : Fields) (tail : List ℕ) → IsField text x
      → cut 10 [] false ((text ++ fields_text (delimited d) xs) ++ (10 ∷ tail)) ≡ (text ++ fields_text (delimited d) xs) ∷ cut 10 [] false tail
  unfolding cut
  cut-line text x xs tail is =
      let others = fields_text (delimited d) xs in
      ap (λ t. cut 10 [] false t) (append_assoc text others (10 ∷ tail))
      ∙ (is.whole 10 line-mark [] (others ++ (10 ∷ tail))
      ∙ (ap (onto text) (cut-rest [] xs (10 ∷ tail))
      ∙ (sym (onto-more text others ([] ∷ cut 10 [] false tail))
      ∙ (onto-first (text ++ others) [] (cut 10 [] false tail) ∙ ap (λ t. t ∷ cut 10 [] false tail) (append-nil (text ++ others))))))

  not-zero : (n : ℕ) → (suc n == 0) ≡ true → ⊥
  not-zero n e = cc (sym e ∙ ne_eqb (suc n) 0 (λ z. cc z))

  -- A field whose text is empty is empty.
  empty-field : (x : List ℕ) → (length (field_text (delimited d) x) == 0) ≡ true → x ≡ []
  empty-field [] e = refl
  empty-field (b ∷ rest) e = elim (cases_Bool (list_any (needs_byte (delimited d)) (b ∷ rest))) [
    | inl needs ↦ absurd (not-zero _ (rw needs at e))
    | inr plain ↦ absurd (not-zero _ (rw plain at e))
  ]

  -- The text of a record is the text of its first field, and those of the others, on one line.
  record IsLine (x : List ℕ) (xs : Fields) : Type 0 where
    text : List ℕ
    is : IsField text x
    line : row_text (delimited d) (x ∷ xs) ≡ (text ++ fields_text (delimited d) xs) ++ (10 ∷ [])

  full-line : (x : List ℕ) (xs : Fields) → is_blank (delimited d) (x ∷ xs) ≡ false → IsLine x xs
  full-line x xs e = record { text = field_text (delimited d) x; is = written-field x; line = rw e refl }

  row-line : (x : List ℕ) (xs : Fields) → IsLine x xs
  unfolding is_blank fields_text escaped
  row-line x (y ∷ xs) = full-line x (y ∷ xs) refl
  row-line x [] = elim (cases_Bool (length (field_text (delimited d) x) == 0)) [
    | inl none ↦ record {
      text = 34 ∷ 34 ∷ [];
      is = subst (IsField (34 ∷ 34 ∷ [])) (sym (empty-field x none)) written-blank;
      line = rw (empty-field x none) refl;
    }
    | inr some ↦ full-line x [] some
  ]

  -- The records are read back.
  pub read-back : (records : List Fields) → AllByRecursion (λ r. 0 < length r) records → read_records d (flat_map (row_text (delimited d)) records) ≡ Some records
  unfolding read_records cut all_of
  read-back [] some = refl
  read-back ([] ∷ records) some = absurd (omega (arith, some.0))
  read-back ((x ∷ xs) ∷ records) some =
      let l = row-line x xs in
      let rest = flat_map (row_text (delimited d)) records in
      let line : row_text (delimited d) (x ∷ xs) ++ rest ≡ (l.text ++ fields_text (delimited d) xs) ++ (10 ∷ rest) =
      ap (λ t. t ++ rest) l.line ∙ append_assoc (l.text ++ fields_text (delimited d) xs) (10 ∷ []) rest in
      let pieces = ap (λ t. cut 10 [] false t) line ∙ cut-line l.text x xs rest l.is in
      ap (λ ps. all_of (map (record_of d) (map without_return ps))) pieces ∙ rw (line-read l.text x xs l.is, read-back records some.1) refl
