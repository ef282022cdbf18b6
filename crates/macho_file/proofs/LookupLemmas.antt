-- An item of a list by its number.
use Rattle.std.proofs.Common.{◌≡◌, ℕ, zero, suc, ◌+◌, ◌-◌, ◌*◌, ◌<◌, ◌≤◌, true, Some, Ok, List, [], ◌∷◌, ◌++◌, length, map, slice_get, refl, ap, ◌∙◌, arith, length-append}
use Rattle.std.proofs.lemmas.Grind.{common_steps}
use Rattle.std.proofs.Math.Nat.{mul-le-mul_right}
use Rattle.std.specs.List.{flat_map}
use Rattle.size_core.specs.Checks.{first_of}
use Rattle.byte_cursor.specs.declared.encoding.Encoding.{Encoding}
use Rattle.macho_file.specs.declared.command.Command.{Command}
use Rattle.macho_records.specs.Layout.{encoding_of}
use Rattle.macho_file.specs.Commands.{is_segment, form_of, segment_len, section_len, section_count_of}
use Rattle.macho_file.specs.Tables.{SectionRecord, section_at, sections_from, sections_of}
use Rattle.macho_file.specs.Checks.{command_checks, segment_checks, section_fits}
use Rattle.macho_file.specs.Known.{IsInside, SameSegments}
use Rattle.macho_file.proofs.TableLemmas.{sections_of_segment, segment_inside}
use Rattle.macho_file.proofs.WalkLemmas.{both}

pub first_is : {X : Type 0} (xs : List X) (x : X) (rest : List X) (k : ℕ) → xs ≡ x ∷ rest → k ≡ 0 → slice_get xs k ≡ Some x
first_is xs x rest k is none = rw (is, none) refl

pub next_is : {X : Type 0} (xs : List X) (x : X) (rest : List X) (k : ℕ) → xs ≡ x ∷ rest → 0 < k → slice_get xs k ≡ slice_get rest (k - 1)
next_is xs x rest zero is some = absurd (omega arith)
next_is xs x rest (suc k) is some = let one : suc k - 1 ≡ k = omega arith in rw (is, one) refl

front : {X : Type 0} (xs ys : List X) (k : ℕ) → k < length xs → slice_get (xs ++ ys) k ≡ slice_get xs k
front [] ys k lt = absurd (omega arith)
front (x ∷ xs) ys zero lt = refl
front (x ∷ xs) ys (suc k) lt = front xs ys k (omega arith)

back : {X : Type 0} (xs ys : List X) (k : ℕ) → length xs ≤ k → slice_get (xs ++ ys) k ≡ slice_get ys (k - length xs)
back [] ys k le = let same : k - 0 ≡ k = omega arith in rw same refl
back (x ∷ xs) ys zero le = absurd (omega arith)
back (x ∷ xs) ys (suc k) le = let same : suc k - suc (length xs) ≡ k - length xs = omega arith in rw same (back xs ys k (omega arith))

row_at : (file : List ℕ) (form : Encoding) (n place k : ℕ) → k < n → slice_get (sections_from file form place n) k ≡ Some (section_at file form (place + k * section_len form))
unfolding sections_from
row_at file form zero place k lt = absurd (omega arith)
row_at file form (suc n) place zero lt = let same : place + 0 * section_len form ≡ place = omega arith in rw same refl
row_at file form (suc n) place (suc k) lt =
    let same : place + suc k * section_len form ≡ place + section_len form + k * section_len form = omega arith in
    rw same (row_at file form n (place + section_len form) k (omega arith))

-- Section k is in the next segment.
pub section_here : (file : List ℕ) (cs : List Command) (c : Command) (rest : List Command) (k : ℕ) → SameSegments file cs (c ∷ rest) → is_segment c ≡ true → k < section_count_of file c
    → slice_get (flat_map (sections_of file) cs) k
    ≡ Some (section_at file (form_of (encoding_of file) c) (c.place + segment_len (form_of (encoding_of file) c) + k * section_len (form_of (encoding_of file) c)))
unfolding sections_of
section_here file cs c rest k same is lt =
    let form = form_of (encoding_of file) c in
    let within : k < length (sections_of file c) = omega (arith, sections_of_segment file c is) in
    rw same.sections_are (front (sections_of file c) (flat_map (sections_of file) rest) k within
    ∙ rw is (row_at file form (section_count_of file c) (c.place + segment_len form) k lt))

-- Section k is in a later segment.
pub section_later : (file : List ℕ) (cs : List Command) (c : Command) (rest : List Command) (k : ℕ) → SameSegments file cs (c ∷ rest) → is_segment c ≡ true → section_count_of file c ≤ k
    → slice_get (flat_map (sections_of file) cs) k ≡ slice_get (flat_map (sections_of file) rest) (k - section_count_of file c)
section_later file cs c rest k same is le =
    let past : length (sections_of file c) ≤ k = omega (arith, sections_of_segment file c is) in
    rw (same.sections_are, ← sections_of_segment file c is) (back (sections_of file c) (flat_map (sections_of file) rest) k past)

pub section_left : (file : List ℕ) (cs : List Command) (c : Command) (rest : List Command) (k : ℕ) → SameSegments file cs (c ∷ rest) → is_segment c ≡ true → section_count_of file c ≤ k
    → k < length (flat_map (sections_of file) cs) → k - section_count_of file c < length (flat_map (sections_of file) rest)
section_left file cs c rest k same is le lt =
    omega (arith, ap length same.sections_are, length-append (sections_of file c) (flat_map (sections_of file) rest), sections_of_segment file c is)

rows_within : (at k count len end : ℕ) → k < count → at + count * len ≤ end → at + k * len + len ≤ end
rows_within at k count len end lt le =
    let more : suc k * len ≤ count * len = mul-le-mul_right len (omega arith) in
    omega (arith, more)

-- The header of section k of a segment lies in the file.
pub section_within : (file : List ℕ) (e : Encoding) (c : Command) (k : ℕ) → e ≡ encoding_of file → IsInside file c → is_segment c ≡ true → k < section_count_of file c
    → c.place + segment_len (form_of e c) + k * section_len (form_of e c) + section_len (form_of e c) ≤ length file
section_within file e c k encoding known is lt =
    rows_within (c.place + segment_len (form_of e c)) k (section_count_of file c) (section_len (form_of e c)) (length file) lt (segment_inside file e c encoding known is)

-- Each of some sections passes its check.
fits_at : (file : List ℕ) (xs : List SectionRecord) (k : ℕ) (x : SectionRecord) → first_of (map (section_fits file) xs) ≡ Ok tt → slice_get xs k ≡ Some x → section_fits file x ≡ Ok tt
fits_at file [] k x fit at = cc
fits_at file (y ∷ ys) zero x fit at = let same : y ≡ x = cc in rw (← same) (both (section_fits file y) (first_of (map (section_fits file) ys)) fit).0
fits_at file (y ∷ ys) (suc k) x fit at = fits_at file ys k x (both (section_fits file y) (first_of (map (section_fits file) ys)) fit).1 at

pub sections_checked : (file : List ℕ) (c : Command) → first_of (command_checks file c) ≡ Ok tt → is_segment c ≡ true → first_of (map (section_fits file) (sections_of file c)) ≡ Ok tt
unfolding command_checks segment_checks
sections_checked file c fit is = grind (arith, common_steps)

pub section_fits_here : (file : List ℕ) (c : Command) (k : ℕ) → first_of (command_checks file c) ≡ Ok tt → is_segment c ≡ true → k < section_count_of file c
    → section_fits file (section_at file (form_of (encoding_of file) c) (c.place + segment_len (form_of (encoding_of file) c) + k * section_len (form_of (encoding_of file) c))) ≡ Ok tt
unfolding sections_of
section_fits_here file c k fit is lt =
    let form = form_of (encoding_of file) c in
    let place = c.place + segment_len form in
    fits_at file (sections_of file c) k (section_at file form (place + k * section_len form)) (sections_checked file c fit is) (rw is (row_at file form (section_count_of file c) place k lt))
