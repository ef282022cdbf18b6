-- The names that are kept, with one more, and the names of symbols and of spans.
use Rattle.std.proofs.Common.{◌≡◌, ℕ, ◌==◌, Bool, true, false, Bor, List, [], ◌∷◌, ◌++◌, Option, Some, None, IfSome, refl, sym, subst, ◌∙◌, eqb-true, arith}
use Rattle.std.specs.Prelude.{All}
use Rattle.std.proofs.lemmas.List.Elements.{All-push}
use Rattle.std.specs.BTreeMap.{BTreeMap, IsEmpty, IsUnchanged, Updates, get, is_at}
use Rattle.std.specs.Cmp.{unsigned_tied}
use Rattle.std.specs.Ordering.{nat_cmp}
use Rattle.byte_cursor.specs.Numbers.{text}
use Rattle.macho_symbols.specs.declared.spans.NamedSpan.{NamedSpan}
use Rattle.macho_symbols.specs.declared.symbol.PlacedSymbol.{PlacedSymbol}
use Rattle.macho_symbols.specs.Names.{AreNamed, AreNamedSpans, AreNamesIn}

abbrev Kept : Type 0
Kept = BTreeMap ℕ (Bor (List ℕ))

-- a name that is found is that at its offset
pub found_name : (strings : List ℕ) (kept : Kept) (at : ℕ) (found : Option (Bor (List ℕ))) → AreNamesIn strings kept → found ≡ get nat_cmp kept at → IfSome found (λ name. text strings at ≡ Some name.now)
found_name strings kept at None are is = tt
found_name strings kept at (Some name) are is = are.each at name (sym is)

pub no_names : (strings : List ℕ) (kept : Kept) → IsEmpty kept → AreNamesIn strings kept
no_names strings kept empty = record { each = λ at name is. let none : get nat_cmp kept at ≡ None = rw empty refl in cc (none, is) }

pub names_same : (strings : List ℕ) (old new : Kept) → IsUnchanged old new → AreNamesIn strings old → AreNamesIn strings new
names_same strings old new same names = record {
  each = λ at name is. let before : get nat_cmp new at ≡ get nat_cmp old at = rw same refl in names.each at name (sym before ∙ is);
}

pub names_put : (strings : List ℕ) (old new : Kept) (place : ℕ) (name : Bor (List ℕ)) → Updates nat_cmp old new place (Some name) → AreNamesIn strings old → text strings place ≡ Some name.now → AreNamesIn strings new
names_put strings old new place name updates names here = record { each = λ at other is. by_offset at other is (place == at) refl }
  where
    by_offset : (at : ℕ) (other : Bor (List ℕ)) → get nat_cmp new at ≡ Some other → (b : Bool) → (place == at) ≡ b → text strings at ≡ Some other.now
    by_offset n other is true same =
        let tied : is_at (nat_cmp place) n ≡ true = unsigned_tied place n ∙ same in
        let got : get nat_cmp new n ≡ Some name = rw tied at (updates.0 n) in
        let put : name ≡ other = cc (got, is) in
        subst (λ (m : ℕ). text strings m ≡ Some other.now) (eqb-true place n same) (subst (λ (x : Bor (List ℕ)). text strings place ≡ Some x.now) put here)
    by_offset n other is false apart =
        let tied : is_at (nat_cmp place) n ≡ false = unsigned_tied place n ∙ apart in
        let got : get nat_cmp new n ≡ get nat_cmp old n = rw tied at (updates.0 n) in
        names.each n other (sym got ∙ is)

-- symbols, and one more
abbrev Named : List ℕ → PlacedSymbol → Type 0
Named file s = text file s.name_place ≡ Some s.name.now

pub none_named : (file : List ℕ) (symbols : List PlacedSymbol) → symbols ≡ [] → AreNamed file symbols
none_named file symbols empty = record { each = subst (All (Named file)) (sym empty) (λ i d lt. absurd (omega (arith, lt))) }

pub named_more : (file : List ℕ) (old new : List PlacedSymbol) (s : PlacedSymbol) → new ≡ old ++ s ∷ [] → AreNamed file old → text file s.name_place ≡ Some s.name.now → AreNamed file new
named_more file old new s made named here = record { each = subst (All (Named file)) (sym made) (All-push (Named file) old s named.each here) }

-- spans, and one more
abbrev HasText : List ℕ → NamedSpan → Type 0
HasText file s = text file s.name_place ≡ Some s.name.now

pub no_spans_named : (file : List ℕ) (spans : List NamedSpan) → spans ≡ [] → AreNamedSpans file spans
no_spans_named file spans empty = record { each = subst (All (HasText file)) (sym empty) (λ i d lt. absurd (omega (arith, lt))) }

pub spans_named_more : (file : List ℕ) (old new : List NamedSpan) (s : NamedSpan) → new ≡ old ++ s ∷ [] → AreNamedSpans file old → text file s.name_place ≡ Some s.name.now → AreNamedSpans file new
spans_named_more file old new s made named here = record { each = subst (All (HasText file)) (sym made) (All-push (HasText file) old s named.each here) }
