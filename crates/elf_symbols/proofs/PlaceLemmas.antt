-- The names of symbols by their file offsets.
use Rattle.std.proofs.Common.{◌≡◌, ℕ, ◌+◌, ◌-◌, ◌^◌, ◌<◌, ◌≤◌, ◌==◌, Bool, true, false, List, [], length, get_or, take, drop, Option, None, Some, Ok, refl, ap, ◌∙◌, length-drop, arith}
use Rattle.std.specs.Prelude.{position, if◌then◌else◌}
use Rattle.std.specs.Option.{option_map}
use Rattle.std.proofs.lemmas.Grind.{common_steps}
use Rattle.std.proofs.lemmas.List.{drop-drop, drop-take, get_or-take, length-take}
use Rattle.std.proofs.lemmas.List.Quantifiers.{position-Some}
use Rattle.std.proofs.lemmas.List.Sums.{position_or_len_is}
use Rattle.size_core.specs.declared.fault.Fault.TheVariants.{NameOutside}
use Rattle.byte_cursor.specs.Numbers.{text}
use Rattle.byte_cursor.proofs.Windows.{text-window}
use Rattle.byte_cursor.proofs.Zeros.{at_place}
use Rattle.elf_file.specs.Tables.{has_bytes, section_at, section_bytes}
use Rattle.elf_symbols.specs.Symbols.{bytes_place, name_at, name_start, names_of, present, symbol_place}
use Rattle.elf_symbols.specs.Names.{IsNameAt, name_offset, name_place, symbol_name}

-- a text and the zero byte after it lie in the bytes
text_within : (bytes : List ℕ) (at : ℕ) (t : List ℕ) → text bytes at ≡ Some t → at + length t < length bytes
unfolding text
text_within bytes at t is = by_end (position (λ b. b == 0) (drop at bytes)) refl is
  where
    by_end : (r : Option ℕ) → position (λ b. b == 0) (drop at bytes) ≡ r → option_map (λ n. take n (drop at bytes)) r ≡ Some t → at + length t < length bytes
    by_end None e is = cc
    by_end (Some n) e is =
        let there = position-Some (λ b. b == 0) (drop at bytes) n 0 e in
        let same : take n (drop at bytes) ≡ t = cc is in
        omega (arith, there.0, length-drop at bytes, ap length same, length-take n (drop at bytes))

-- the first item that passes is the first of the first n items, if it is among them
in_front : (p : ℕ → Bool) (xs : List ℕ) (n i : ℕ) → position p xs ≡ Some i → i < n → position p (take n xs) ≡ Some i
in_front p xs n i h lt =
    let there = position-Some p xs i 0 h in
    let within : i < length (take n xs) = omega (arith, there.0, length-take n xs) in
    let passes : p (get_or (take n xs) i 0) ≡ true = ap p (get_or-take n xs i 0 lt) ∙ there.1 in
    let before : (k : ℕ) → k < i → p (get_or (take n xs) k 0) ≡ false = λ k less. ap p (get_or-take n xs k 0 (omega arith)) ∙ there.2 k less in
    at_place p (take n xs) i (position_or_len_is p (take n xs) i 0 (omega arith) before (λ _. passes)) within

cut : (ys : List ℕ) (n : ℕ) (t : List ℕ) (r : Option ℕ) → position (λ b. b == 0) ys ≡ r → option_map (λ m. take m ys) r ≡ Some t → length t < n
    → option_map (λ m. take m (take n ys)) (position (λ b. b == 0) (take n ys)) ≡ Some t
cut ys n t None e is lt = cc
cut ys n t (Some m) e is lt =
    let there = position-Some (λ b. b == 0) ys m 0 e in
    let same : take m ys ≡ t = cc is in
    let low : m < n = omega (arith, there.0, lt, ap length same, length-take m ys) in
    let shorter : take m (take n ys) ≡ take m ys = grind (arith, common_steps, low) in
    rw (in_front (λ b. b == 0) ys n m e low) (ap (λ (x : List ℕ). Some x) shorter ∙ is)

rest_of : (bytes : List ℕ) (start len at : ℕ) → at ≤ len → drop at (take len (drop start bytes)) ≡ take (len - at) (drop (start + at) bytes)
rest_of bytes start len at le =
    let whole : len ≡ at + (len - at) = omega arith in
    let front : drop at (take (at + (len - at)) (drop start bytes)) ≡ take (len - at) (drop at (drop start bytes)) = drop-take at (len - at) (drop start bytes) in
    ap (λ n. drop at (take n (drop start bytes))) whole ∙ front ∙ ap (take (len - at)) (drop-drop at start bytes)

-- a text of the file whose end is in a window is a text of the window
text_cut : (bytes : List ℕ) (start len at : ℕ) (t : List ℕ) → text bytes (start + at) ≡ Some t → at + length t < length (take len (drop start bytes)) → text (take len (drop start bytes)) at ≡ Some t
unfolding text
text_cut bytes start len at t is fits =
    let size = length-take len (drop start bytes) in
    let le : at ≤ len = omega (arith, fits, size) in
    let low : length t < len - at = omega (arith, fits, size) in
    rw (rest_of bytes start len at le) (cut (drop (start + at) bytes) (len - at) t (position (λ b. b == 0) (drop (start + at) bytes)) refl is low)

-- the bytes of a section and their offset
bytes_are : (file : List ℕ) (j : ℕ) → 0 < length (section_bytes file j) → section_bytes file j ≡ take (section_at file j).size (drop (section_at file j).offset file)
unfolding section_bytes
bytes_are file j some = by_bytes (has_bytes file j) some
  where
    by_bytes : (b : Bool) → 0 < length (if b then take (section_at file j).size (drop (section_at file j).offset file) else [])
        → (if b then take (section_at file j).size (drop (section_at file j).offset file) else []) ≡ take (section_at file j).size (drop (section_at file j).offset file)
    by_bytes true some = refl
    by_bytes false some = absurd (omega arith)

place_is : (file : List ℕ) (j : ℕ) → 0 < length (section_bytes file j) → bytes_place file j ≡ (section_at file j).offset
unfolding bytes_place
place_is file j some = let e : (length (section_bytes file j) == 0) ≡ false = grind (arith, common_steps) in rw e refl

pub place_small : (file : List ℕ) (j : ℕ) → length file < 2 ^ 32 → bytes_place file j < 2 ^ 32
unfolding bytes_place
place_small file j small = by_length (length (section_bytes file j) == 0) refl
  where
    by_length : (b : Bool) → (length (section_bytes file j) == 0) ≡ b → (if b then 0 else (section_at file j).offset) < 2 ^ 32
    by_length true e = omega arith
    by_length false e =
        let some : 0 < length (section_bytes file j) = grind (arith, common_steps) in
        let size = ap length (bytes_are file j some) in
        omega (arith, some, small, size, length-take (section_at file j).size (drop (section_at file j).offset file), length-drop (section_at file j).offset file)

-- a text of a section is a text of the file
placed : (file : List ℕ) (j at : ℕ) (t : List ℕ) → text (section_bytes file j) at ≡ Some t → text file (bytes_place file j + at) ≡ Some t
placed file j at t is =
    let within = text_within (section_bytes file j) at t is in
    let some : 0 < length (section_bytes file j) = omega (arith, within) in
    let e = bytes_are file j some in
    let le : at ≤ (section_at file j).size = omega (arith, within, ap length e, length-take (section_at file j).size (drop (section_at file j).offset file)) in
    rw (place_is file j some) (text-window file (section_at file j).offset (section_at file j).size at t le (rw e at is))

kept : (file : List ℕ) (j at : ℕ) (t : List ℕ) → text file (bytes_place file j + at) ≡ Some t → at + length t < length (section_bytes file j) → text (section_bytes file j) at ≡ Some t
kept file j at t is fits =
    let some : 0 < length (section_bytes file j) = omega (arith, fits) in
    let e = bytes_are file j some in
    let there : text file ((section_at file j).offset + at) ≡ Some t = rw (place_is file j some) at is in
    rw e (text_cut file (section_at file j).offset (section_at file j).size at t there (rw e at fits))

-- a name that isn't empty is the text at its file offset
present_some : (o : Option (List ℕ)) (place : ℕ) (t : List ℕ) → present o NameOutside place ≡ Ok t → o ≡ Some t
present_some None place t e = cc e
present_some (Some s) place t e = let same : s ≡ t = cc e in ap (λ (x : List ℕ). Some x) same

pub name_placed : (file : List ℕ) (i k : ℕ) (t : List ℕ) → symbol_name file i k ≡ Ok t → 0 < length t → text file (name_place file i k) ≡ Some t
unfolding name_at
name_placed file i k t is some = by_offset (name_start file (symbol_place file i k) == 0) is
  where
    by_offset : (b : Bool) → (if b then Ok [] else present (text (names_of file i) (name_start file (symbol_place file i k))) NameOutside (symbol_place file i k)) ≡ Ok t
        → text file (name_place file i k) ≡ Some t
    by_offset true is = let none : t ≡ [] = cc is in absurd (omega (arith, some, ap length none))
    by_offset false is = placed file (section_at file i).link (name_start file (symbol_place file i k)) t (present_some _ _ t is)

-- the text at the file offset of a name is the name, if its end is in the table's names
pub is_name : (file : List ℕ) (i k : ℕ) (t : List ℕ) → text file (name_place file i k) ≡ Some t → 0 < name_start file (symbol_place file i k)
    → name_start file (symbol_place file i k) + length t < length (names_of file i) → IsNameAt file (name_offset file i k) t
unfolding name_at
is_name file i k t is some fits = λ place same.
    let other : (name_start file (symbol_place file i k) == 0) ≡ false = grind (arith, common_steps) in
    rw (same, other, kept file (section_at file i).link (name_start file (symbol_place file i k)) t is fits) refl

-- a name that isn't empty has an offset, and ends in the table's names
pub name_fits : (file : List ℕ) (i k : ℕ) (t : List ℕ) → symbol_name file i k ≡ Ok t → 0 < length t
    → (0 < name_start file (symbol_place file i k)) × (name_start file (symbol_place file i k) + length t < length (names_of file i))
unfolding name_at
name_fits file i k t is some = by_offset (name_start file (symbol_place file i k) == 0) refl is
  where
    by_offset : (b : Bool) → (name_start file (symbol_place file i k) == 0) ≡ b
        → (if b then Ok [] else present (text (names_of file i) (name_start file (symbol_place file i k))) NameOutside (symbol_place file i k)) ≡ Ok t
        → (0 < name_start file (symbol_place file i k)) × (name_start file (symbol_place file i k) + length t < length (names_of file i))
    by_offset true e is = let none : t ≡ [] = cc is in absurd (omega (arith, some, ap length none))
    by_offset false e is =
        let some : 0 < name_start file (symbol_place file i k) = grind (arith, common_steps) in
        (some, text_within (names_of file i) (name_start file (symbol_place file i k)) t (present_some _ _ t is))
