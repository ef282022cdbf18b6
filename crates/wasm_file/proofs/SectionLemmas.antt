-- The sections of a module, one after another.
use Rattle.std.proofs.Common.{◌≡◌, ℕ, zero, suc, ◌+◌, ◌-◌, ◌<◌, ◌≤◌, true, false, List, [], ◌∷◌, length, take, drop, ◌*◌, ◌%◌, Option, Some, None, Ok, Err, refl, sym, ap, ◌∙◌, arith}
use Rattle.std.proofs.lemmas.Grind.{common_steps}
use Rattle.std.proofs.lemmas.List.{length-take}
use Rattle.std.specs.Prelude.{Bool, if◌then◌else◌, option_map, nat_lt, nat_le, Result, is_some}
use Rattle.size_core.specs.declared.fault.BadFile.{BadFile}
use Rattle.size_core.specs.declared.fault.Fault.TheVariants.{Truncated, BadLeb, SectionPastEnd}
use Rattle.size_core.specs.Checks.{◌>>=◌, ◌>>◌, demand}
use Rattle.byte_cursor.specs.Numbers.{leb, uleb}
use Rattle.byte_cursor.specs.Window.{Window}
use Rattle.wasm_file.specs.Numbers.{number_at}
use Rattle.wasm_file.specs.Sections.{SectionRecord, present, section_at, size_at, section_of, sections_within, sections_from, to_come, are_there, AreThere, IsFound, IsUnreadable}

-- A number has at least one byte.
leb_some : (bytes : List ℕ) (x : ℕ × ℕ) → leb bytes ≡ Some x → 0 < x.1
unfolding leb
leb_some [] x h = cc
leb_some (b ∷ bytes) x h = by_end (nat_lt b 128) (leb bytes) h
  where
    by_end : (last : Bool) (rest : Option (ℕ × ℕ)) → (if last then Some (b, 1) else option_map (λ x. (b % 128 + 128 * x.0, x.1 + 1)) rest) ≡ Some x → 0 < x.1
    by_end true rest e = let one : 1 ≡ x.1 = ap (λ (p : ℕ × ℕ). p.1) (let same : (b, 1) ≡ x = cc in same) in omega arith
    by_end false None e = cc
    by_end false (Some y) e = let one : y.1 + 1 ≡ x.1 = ap (λ (p : ℕ × ℕ). p.1) (let same : (b % 128 + 128 * y.0, y.1 + 1) ≡ x = cc in same) in omega arith

-- The offset after a number is greater.
pub number_forward : (bytes : List ℕ) (at : ℕ) (x : ℕ × ℕ) → number_at bytes at ≡ Some x → at < x.1
unfolding number_at
number_forward bytes at x h = grind (arith, common_steps, leb_some)

size_forward : (file : List ℕ) (at place : ℕ) (size : ℕ × ℕ) → size_at file at place ≡ Ok size → at < size.1
unfolding size_at
size_forward file at place size h = by_end (uleb file at) (number_at file at) refl h
  where
    by_end : (end : Option (ℕ × ℕ)) (read : Option (ℕ × ℕ)) → number_at file at ≡ read → (demand (is_some end) Truncated place >> (present read BadLeb place >>= (λ size. Ok size))) ≡ Ok size → at < size.1
    by_end None read is e = cc
    by_end (Some x) None is e = cc
    by_end (Some x) (Some y) is e =
        let same : y ≡ size = cc in
        number_forward file at size (is ∙ ap (λ (z : ℕ × ℕ). Some z) same)

-- The contents of a section follow its id and its size field, and it ends in the file.
pub record HasRoom (file : List ℕ) (at : ℕ) (s : SectionRecord) : Type 0 where
  pub stands : s.place ≡ at
  pub contents : at + length s.contents.bytes < s.place + s.len
  pub within : s.place + s.len ≤ length file

pub has_room : (file : List ℕ) (at : ℕ) (s : SectionRecord) → section_at file at ≡ Ok s → HasRoom file at s
unfolding section_at
has_room file at s h = by_size (size_at file (at + 1) at) refl h
  where
    by_end : (size : ℕ × ℕ) (b : Bool) → nat_le (size.1 + size.0) (length file) ≡ b → at + 1 < size.1 → (demand b SectionPastEnd at >> Ok (section_of file at size)) ≡ Ok s → HasRoom file at s
    by_end size false is forward e = cc
    by_end size true is forward e =
        let same : section_of file at size ≡ s = cc in
        let place : at ≡ s.place = ap (λ (t : SectionRecord). t.place) same in
        let len : size.1 + size.0 - at ≡ s.len = ap (λ (t : SectionRecord). t.len) same in
        let bytes : length (take size.0 (drop size.1 file)) ≡ length s.contents.bytes = ap (λ (t : SectionRecord). length t.contents.bytes) same in
        let short = length-take size.0 (drop size.1 file) in
        let ends : size.1 + size.0 ≤ length file = grind (arith, common_steps) in
        record { stands = sym place; contents = omega arith; within = omega arith }

    by_size : (read : Result (ℕ × ℕ) BadFile) → size_at file (at + 1) at ≡ read → (read >>= (λ size. demand (nat_le (size.1 + size.0) (length file)) SectionPastEnd at >> Ok (section_of file at size))) ≡ Ok s → HasRoom file at s
    by_size (Err e) is e2 = cc
    by_size (Ok size) is e2 = by_end size (nat_le (size.1 + size.0) (length file)) refl (size_forward file (at + 1) at size is) e2

-- The next section begins at a greater offset.
pub goes_on : (file : List ℕ) (at : ℕ) (s : SectionRecord) → section_at file at ≡ Ok s → at < s.place + s.len
goes_on file at s h = let room = has_room file at s h in omega arith

pub stands_at : (file : List ℕ) (at : ℕ) (s : SectionRecord) → section_at file at ≡ Ok s → s.place ≡ at
stands_at file at s h = (has_room file at s h).stands

-- A larger bound changes nothing if the bound is enough.
pub same_fuel : (file : List ℕ) (m n at : ℕ) → length file ≤ at + m → length file ≤ at + n → sections_within m file at ≡ sections_within n file at
unfolding sections_within
same_fuel file zero zero at p q = refl
same_fuel file zero (suc n) at p q = let past : nat_lt at (length file) ≡ false = grind (arith, common_steps) in rw past refl
same_fuel file (suc m) zero at p q = let past : nat_lt at (length file) ≡ false = grind (arith, common_steps) in rw past refl
same_fuel file (suc m) (suc n) at p q = by_reading (λ next forward. same_fuel file m n next (omega arith) (omega arith)) (section_at file at) refl
  where
    by_reading : ((next : ℕ) → at < next → sections_within m file next ≡ sections_within n file next) → (read : Result SectionRecord BadFile) → section_at file at ≡ read
        → sections_within (suc m) file at ≡ sections_within (suc n) file at
    by_reading rests (Err e) is = rw is refl
    by_reading rests (Ok s) is = rw (is, rests (s.place + s.len) (goes_on file at s is)) refl

one_within : (file : List ℕ) (fuel at : ℕ) (s : SectionRecord) → at < length file → section_at file at ≡ Ok s → sections_within (suc fuel) file at ≡ Ok s ∷ sections_within fuel file (s.place + s.len)
unfolding sections_within
one_within file fuel at s lt is = let within : nat_lt at (length file) ≡ true = grind (arith, common_steps) in rw (within, is) refl

bad_within : (file : List ℕ) (fuel at : ℕ) (e : BadFile) → at < length file → section_at file at ≡ Err e → sections_within (suc fuel) file at ≡ Err e ∷ []
unfolding sections_within
bad_within file fuel at e lt is = let within : nat_lt at (length file) ≡ true = grind (arith, common_steps) in rw (within, is) refl

-- No section begins at the end of the file.
pub none_left : (file : List ℕ) (at : ℕ) → length file ≤ at → sections_from file at ≡ []
unfolding sections_from sections_within
none_left file at past = let none : length file - at ≡ 0 = omega arith in rw none refl

-- A section that can't be read is the last item.
pub one_bad : (file : List ℕ) (at : ℕ) (e : BadFile) → at < length file → section_at file at ≡ Err e → sections_from file at ≡ Err e ∷ []
unfolding sections_from
one_bad file at e lt is = same_fuel file (length file - at) (suc (length file - at)) at (omega arith) (omega arith) ∙ bad_within file (length file - at) at e lt is

-- After a section come those from its end on.
pub one_more : (file : List ℕ) (at : ℕ) (s : SectionRecord) → at < length file → section_at file at ≡ Ok s → sections_from file at ≡ Ok s ∷ sections_from file (s.place + s.len)
unfolding sections_from
one_more file at s lt is =
    let forward : at < s.place + s.len = goes_on file at s is in
    let rest : sections_within (length file - at) file (s.place + s.len) ≡ sections_within (length file - (s.place + s.len)) file (s.place + s.len)
    = same_fuel file (length file - at) (length file - (s.place + s.len)) (s.place + s.len) (omega arith) (omega arith) in
    same_fuel file (length file - at) (suc (length file - at)) at (omega arith) (omega arith) ∙ one_within file (length file - at) at s lt is
    ∙ ap (λ (read : List (Result SectionRecord BadFile)). Ok s ∷ read) rest

-- No section is left.
pub fault_end : (w : Window) → length w.bytes ≤ w.at → are_there w ≡ Ok tt
unfolding are_there
fault_end w past = rw (none_left w.bytes w.at past) refl

pub section_end : (w : Window) → length w.bytes ≤ w.at → to_come w ≡ []
unfolding to_come
section_end w past = rw (none_left w.bytes w.at past) refl

-- A section can't be read.
pub fault_here : (w : Window) (e : BadFile) → w.at < length w.bytes → IsUnreadable w e → are_there w ≡ Err e
unfolding are_there
fault_here w e lt h = rw (one_bad w.bytes w.at e lt h.fault) refl

-- A section is found.
pub found_forward : (w : Window) (s : SectionRecord) (next : Window) → IsFound w s next → w.at < next.at
found_forward w s next h =
    let forward = goes_on w.bytes w.at s h.read in
    let at : next.at ≡ s.place + s.len = ap (λ (v : Window). v.at) h.same in
    omega arith

pub found_smaller : (w : Window) (s : SectionRecord) (next : Window) → w.at < length w.bytes → IsFound w s next → length next.bytes - next.at < length w.bytes - w.at
found_smaller w s next lt h =
    let forward = found_forward w s next h in
    let bytes : length next.bytes ≡ length w.bytes = ap (λ (v : Window). length v.bytes) h.same in
    omega arith

pub found_whole : (w : Window) (s : SectionRecord) (next : Window) → w.base ≡ 0 → IsFound w s next → next.base ≡ 0
found_whole w s next whole h = ap (λ (v : Window). v.base) h.same ∙ whole

pub fault_later : (w : Window) (s : SectionRecord) (next : Window) → w.at < length w.bytes → IsFound w s next → are_there w ≡ are_there next
unfolding are_there
fault_later w s next lt h = rw (one_more w.bytes w.at s lt h.read, h.same) refl

pub section_next : (w : Window) (s : SectionRecord) (next : Window) → w.at < length w.bytes → IsFound w s next → to_come w ≡ s ∷ to_come next
unfolding to_come
section_next w s next lt h = rw (one_more w.bytes w.at s lt h.read, h.same) refl

pub still_there : (w : Window) (s : SectionRecord) (next : Window) → w.at < length w.bytes → AreThere w → IsFound w s next → AreThere next
still_there w s next lt known h = record {
  whole = found_whole w s next known.whole h;
  there = sym (fault_later w s next lt h) ∙ known.there;
}
