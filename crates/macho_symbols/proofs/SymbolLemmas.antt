-- The symbols of a table lie in the file, and so do their names.
use Rattle.std.proofs.Common.{◌≡◌, ℕ, suc, ◌+◌, ◌*◌, ◌<◌, ◌≤◌, ◌==◌, Bool, true, false, List, [], length, take, drop, Option, None, Some, Ok, Err, refl, ap, length-drop, arith}
use Rattle.std.specs.Prelude.{position, if◌then◌else◌}
use Rattle.std.specs.Option.{option_map}
use Rattle.std.proofs.Math.Nat.{mul-le-mul_right}
use Rattle.std.proofs.lemmas.List.{length-take}
use Rattle.std.proofs.lemmas.List.Quantifiers.{position-Some}
use Rattle.size_core.specs.declared.fault.Fault.TheVariants.{NameOutside}
use Rattle.byte_cursor.specs.Encoding.{four}
use Rattle.byte_cursor.specs.Numbers.{text}
use Rattle.byte_cursor.proofs.Windows.{text-window}
use Rattle.macho_symbols.specs.declared.answer.SpanAnswer.{SpanAnswer}
use Rattle.macho_symbols.specs.declared.answer.SpanAnswer.TheVariants.{Bad, NoMemory}
use Rattle.macho_symbols.specs.declared.symbol_table.SymbolTable.{SymbolTable}
use Rattle.macho_records.specs.declared.layout.TheConstants.{NLIST_STRX}
use Rattle.macho_records.specs.Layout.{encoding_of, symbol_len}
use Rattle.macho_symbols.specs.Symbols.{HasTable, place_of_name, present, strings, symbol_name, symbol_of}
use Rattle.macho_symbols.specs.Taken.{ForBad}

pub symbol_within : (file : List ℕ) (t : SymbolTable) (k : ℕ) → HasTable file t → k < t.nsyms → t.symoff + k * symbol_len file + symbol_len file ≤ length file
symbol_within file t k known lt =
    let more : suc k * symbol_len file ≤ t.nsyms * symbol_len file = mul-le-mul_right (symbol_len file) (omega arith) in
    omega (arith, more, known.symbols)

-- a text that is there begins in the bytes
text_within : (bytes : List ℕ) (at : ℕ) (t : List ℕ) → text bytes at ≡ Some t → at < length bytes
unfolding text
text_within bytes at t is = by_end (position (λ b. b == 0) (drop at bytes)) refl is
  where
    by_end : (r : Option ℕ) → position (λ b. b == 0) (drop at bytes) ≡ r → option_map (λ n. take n (drop at bytes)) r ≡ Some t → at < length bytes
    by_end None e is = cc
    by_end (Some n) e is = let there = position-Some (λ b. b == 0) (drop at bytes) n 0 e in omega (arith, there.0, length-drop at bytes)

present_some : (o : Option (List ℕ)) (place : ℕ) (t : List ℕ) → present o NameOutside place ≡ Ok t → o ≡ Some t
present_some None place t e = cc e
present_some (Some s) place t e = let same : s ≡ t = cc e in ap (λ (x : List ℕ). Some x) same

-- a name that isn't empty is the text at its file offset
pub name_placed : (file : List ℕ) (t : SymbolTable) (place : ℕ) (name : List ℕ) → symbol_name file t place ≡ Ok name → 0 < length name → text file (place_of_name file t place) ≡ Some name
unfolding symbol_name
name_placed file t place name is some = by_offset (four (encoding_of file) file place NLIST_STRX == 0) is
  where
    by_offset : (b : Bool) → (if b then Ok [] else present (text (strings file t) (four (encoding_of file) file place NLIST_STRX)) NameOutside place) ≡ Ok name → text file (place_of_name file t place) ≡ Some name
    by_offset true is = let none : name ≡ [] = cc is in absurd (omega (arith, some, ap length none))
    by_offset false is =
        let there : text (strings file t) (four (encoding_of file) file place NLIST_STRX) ≡ Some name = present_some _ _ name is in
        let within = text_within (strings file t) (four (encoding_of file) file place NLIST_STRX) name there in
        text-window file t.stroff t.strsize (four (encoding_of file) file place NLIST_STRX) name (omega (arith, within, length-take t.strsize (drop t.stroff file))) there

-- the fault of a name is that of its symbol
pub symbol_bad : (file : List ℕ) (t : SymbolTable) (k : ℕ) (e : SpanAnswer) → ForBad e (λ bad. symbol_name file t (t.symoff + k * symbol_len file) ≡ Err bad) → ForBad e (λ bad. symbol_of file t k ≡ Err bad)
unfolding symbol_of
symbol_bad file t k (Bad bad) is = rw is refl
symbol_bad file t k NoMemory is = tt
