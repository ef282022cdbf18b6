-- Each read leaves fewer bytes.
use Rattle.std.proofs.Common.{◌≡◌, ℕ, ℤ, pos, zero, suc, ◌+◌, ◌-◌, ◌*◌, ◌%◌, ◌<◌, ◌≤◌, ◌==◌, Bool, true, false, List, [], ◌∷◌, length, drop, Option, Some, None, Result, Ok, Err, refl, ap, arith, length-drop}
use Rattle.std.proofs.lemmas.Grind.{common_steps}
use Rattle.std.specs.Prelude.{nat_lt, slice_index, if◌then◌else◌}
use Rattle.std.specs.Option.{option_map}
use Rattle.size_core.specs.declared.fault.BadFile.{BadFile}
use Rattle.size_core.specs.Checks.{◌>>=◌, ◌>>◌, Check}
use Rattle.byte_cursor.specs.declared.order.Order.{Order}
use Rattle.byte_cursor.specs.declared.order.Order.TheVariants.{Little}
use Rattle.byte_cursor.specs.Numbers.{leb, uleb, signed, field}
use Rattle.byte_cursor.specs.Reads.{sub_window, whole, unsigned_value, signed_value, leb_len}
use Rattle.byte_cursor.specs.Window.{Window, place_of, moved}
use Rattle.std.specs.Int.{Width, byte_len, w8, w32, w64}
use Rattle.dwarf_abbrev.specs.declared.constants.TheConstants.{DW_FORM_IMPLICIT_CONST, WIDE_LENGTH}
use Rattle.dwarf_abbrev.specs.declared.declaration.Head.{Head}
use Rattle.dwarf_abbrev.specs.Reads.{uleb_from, sleb_from, byte_from, num_from, faults_at}
use Rattle.dwarf_abbrev.specs.Lengths.{checked_length, contents_from, initial_length_from, rest_of_length}
use Rattle.dwarf_abbrev.specs.Listing.{left, listing_from, going_on, Shortens}
use Rattle.dwarf_abbrev.specs.Declarations.{constant_from, is_end, rest_of_spec, spec_from, specs_from, rest_of_head, head_from, Declaration, rest_of_declaration, declaration_from, declarations_from}

-- Fewer than n bytes remain after a read.
abbrev pub Below : {X : Type 0} → ℕ → Result (X × Window) BadFile → Type 0
Below n (Ok x) = left x.1 < n
Below n (Err e) = Unit {0}

pub bind_below : {A B : Type 0} (m n : ℕ) (r : Result (A × Window) BadFile) (f : A × Window → Result (B × Window) BadFile) → Below m r → ((x : A × Window) → left x.1 < m → Below n (f x)) → Below n (r >>= f)
bind_below m n (Ok x) f h k = k x h
bind_below m n (Err e) f h k = tt

pub read_below : {A : Type 0} (n : ℕ) (r : Result A BadFile) (next : Window) → left next < n → Below n (r >>= λ v. Ok (v, next))
read_below n (Ok x) next h = h
read_below n (Err e) next h = tt

pub if_below : {A : Type 0} (n : ℕ) (b : Bool) (r s : Result (A × Window) BadFile) → Below n r → Below n s → Below n (if b then r else s)
if_below n true r s h k = h
if_below n false r s h k = k

-- A number takes at least one byte.
pub leb_takes : (ys : List ℕ) (x : ℕ × ℕ) → leb ys ≡ Some x → (0 < x.1) × (0 < length ys)
unfolding leb
leb_takes [] x h = cc
leb_takes (y ∷ ys) x h = (ends (nat_lt y 128) (leb ys) h, omega arith)
  where
    ends : (small : Bool) (rest : Option (ℕ × ℕ)) → (if small then Some (y, 1) else option_map (λ (z : ℕ × ℕ). (y % 128 + 128 * z.0, z.1 + 1)) rest) ≡ Some x → 0 < x.1
    ends true rest e =
        let same : (y, 1) ≡ x = cc in
        let one : 1 ≡ x.1 = ap (λ (p : ℕ × ℕ). p.1) same in
        omega arith
    ends false None e = cc
    ends false (Some z) e =
        let same : (y % 128 + 128 * z.0, z.1 + 1) ≡ x = cc in
        let more : z.1 + 1 ≡ x.1 = ap (λ (p : ℕ × ℕ). p.1) same in
        omega arith

less : (w : Window) (k : ℕ) → 0 < k → w.at < length w.bytes → left (moved w true k) < left w
less w k some within = omega arith

uleb_less : (w : Window) (x : ℕ × ℕ) → uleb w.bytes w.at ≡ Some x → left (moved w true x.1) < left w
uleb_less w x is =
    let takes = leb_takes (drop w.at w.bytes) x is in
    let some : 0 < length (drop w.at w.bytes) = takes.1 in
    let size : length (drop w.at w.bytes) ≡ length w.bytes - w.at = length-drop w.at w.bytes in
    less w x.1 takes.0 (omega arith)

pub uleb_below : (w : Window) → Below (left w) (uleb_from w)
unfolding uleb_from
uleb_below w = by_number (uleb w.bytes w.at) refl
  where
    by_number : (u : Option (ℕ × ℕ)) → uleb w.bytes w.at ≡ u → Below (left w) (unsigned_value u (place_of w) >>= λ n. Ok (n, moved w true (leb_len u)))
    by_number None is = tt
    by_number (Some x) is = read_below (left w) (unsigned_value (Some x) (place_of w)) (moved w true x.1) (uleb_less w x is)

pub sleb_below : (w : Window) → Below (left w) (sleb_from w)
unfolding sleb_from
sleb_below w = by_number (uleb w.bytes w.at) refl
  where
    with_sign : ℕ × ℕ → ℤ × ℕ
    with_sign x = (signed (slice_index w.bytes (w.at + x.1 - 1)) x.1 x.0, x.1)

    by_number : (u : Option (ℕ × ℕ)) → uleb w.bytes w.at ≡ u → Below (left w) (signed_value (option_map (λ (x : ℕ × ℕ). (signed (slice_index w.bytes (w.at + x.1 - 1)) x.1 x.0, x.1)) u) (place_of w) >>= λ n. Ok (n, moved w true (leb_len (option_map (λ (x : ℕ × ℕ). (signed (slice_index w.bytes (w.at + x.1 - 1)) x.1 x.0, x.1)) u))))
    by_number None is = tt
    by_number (Some x) is = read_below (left w) (signed_value (Some (signed (slice_index w.bytes (w.at + x.1 - 1)) x.1 x.0, x.1)) (place_of w)) (moved w true x.1) (uleb_less w x is)

pub byte_below : (w : Window) → Below (left w) (byte_from w)
unfolding num_from
byte_below w = by_size (nat_lt (length w.bytes) (w.at + 1)) refl
  where
    by_size : (short : Bool) → nat_lt (length w.bytes) (w.at + 1) ≡ short → Below (left w) (whole (if short then None else Some (field w.bytes w.at w8 Little)) (place_of w) >>= λ n. Ok (n, moved w true 1))
    by_size true is = tt
    by_size false is = let within : w.at < length w.bytes = grind (arith, common_steps) in less w 1 (omega arith) within

constant_below : (form : ℕ) (w : Window) → Below (suc (left w)) (constant_from form w)
unfolding constant_from
constant_below form w = if_below (suc (left w)) (form == DW_FORM_IMPLICIT_CONST) (sleb_from w) (Ok (pos 0, w)) (weaker (sleb_from w) (sleb_below w)) (omega arith)
  where
    weaker : (r : Result (ℤ × Window) BadFile) → Below (left w) r → Below (suc (left w)) r
    weaker (Ok x) h = let lt : left x.1 < left w = h in omega arith
    weaker (Err e) h = tt

-- An attribute specification takes bytes, and so does the end of the list.
rest_of_spec_below : (attribute form : ℕ) (w : Window) → Below (suc (left w)) (rest_of_spec attribute form w)
unfolding rest_of_spec
rest_of_spec_below attribute form w = if_below (suc (left w)) (is_end attribute form) (Ok (None, w)) _ (omega arith)
    (bind_below (suc (left w)) (suc (left w)) (constant_from form w) _ (constant_below form w) (λ c lt. lt))

pub weaker : {X : Type 0} (m n : ℕ) (r : Result (X × Window) BadFile) → m ≤ n → Below m r → Below n r
weaker m n (Ok x) le h = let lt : left x.1 < m = h in omega arith
weaker m n (Err e) le h = tt

pub spec_below : (w : Window) → Below (left w) (spec_from w)
unfolding spec_from
spec_below w = bind_below (left w) (left w) (uleb_from w) _ (uleb_below w) (λ attribute less.
    bind_below (left attribute.1) (left w) (uleb_from attribute.1) _ (uleb_below attribute.1) (λ form fewer.
    weaker (suc (left form.1)) (left w) (rest_of_spec attribute.0 form.0 form.1) (omega arith) (rest_of_spec_below attribute.0 form.0 form.1)))

pub below_at : {X : Type 0} (n : ℕ) (r : Result (X × Window) BadFile) (x : X) (next : Window) → Below n r → r ≡ Ok (x, next) → left next < n
below_at {X = X} n (Ok y) x next h is = let same : y ≡ (x, next) = cc in let e : left y.1 ≡ left next = ap (λ (p : X × Window). left p.1) same in omega (arith, h)
below_at n (Err e) x next h is = cc

pub spec_shortens : Shortens spec_from
spec_shortens w next i is = below_at (left w) (spec_from w) (Some i) next (spec_below w) is

-- After the records of a window no more bytes remain than in the window.
pub end_below : {X : Type 0} (read : Window → Result (Option X × Window) BadFile) → ((w : Window) → Below (suc (left w)) (read w)) → (fuel : ℕ) (w next : Window) → (listing_from read fuel w).end ≡ Ok next → left next ≤ left w
unfolding listing_from
end_below read below zero w next is = cc
end_below {X = X} read below (suc fuel) w next is = by_reading (λ at ends. end_below read below fuel at next ends) (read w) (below w) is
  where
    by_reading : ((at : Window) → (listing_from read fuel at).end ≡ Ok next → left next ≤ left at) → (r : Result (Option X × Window) BadFile) → Below (suc (left w)) r → (going_on r (listing_from read fuel)).end ≡ Ok next → left next ≤ left w
    by_reading rests (Err e) h is = cc
    by_reading rests (Ok (None, at)) h is =
        let same : at ≡ next = cc in
        let e : left at ≡ left next = ap left same in
        let lt : left at < suc (left w) = h in
        omega arith
    by_reading rests (Ok (Some i, at)) h is =
        let rest : left next ≤ left at = rests at is in
        let lt : left at < suc (left w) = h in
        omega arith

pub specs_end : (w next : Window) → (specs_from w).end ≡ Ok next → left next ≤ left w
specs_end w next is = end_below spec_from (λ v. weaker (left v) (suc (left v)) (spec_from v) (omega arith) (spec_below v)) (suc (left w)) w next is

no_record : {X : Type 0} (i : X) (at next : Window) (none : Result (Option X × Window) BadFile) → none ≡ Ok (None, at) → none ≡ Ok (Some i, next) → ⊥
no_record {X = X} i at next none is e =
    let empty : Option X × Window = (None, at) in
    let full : Option X × Window = (Some i, next) in
    let pair : empty ≡ full = cc in
    let first : None ≡ Some i = ap (λ (p : Option X × Window). p.0) pair in
    cc

rest_of_head_below : (code : ℕ) (w : Window) → Below (suc (left w)) (rest_of_head code w)
unfolding rest_of_head
rest_of_head_below code w = if_below (suc (left w)) (code == 0) (Ok (None, w)) _ (omega arith)
    (bind_below (left w) (suc (left w)) (uleb_from w) _ (uleb_below w) (λ tag less.
    bind_below (left tag.1) (suc (left w)) (byte_from tag.1) _ (byte_below tag.1) (λ children fewer. omega arith)))

pub head_shortens : Shortens head_from
unfolding head_from
head_shortens w next i is = by_end (left w == 0) is
  where
    by_end : (b : Bool) → (if b then Ok (None, w) else uleb_from w >>= (λ code. rest_of_head code.0 code.1)) ≡ Ok (Some i, next) → left next < left w
    by_end true e = absurd (no_record i w next (Ok (None, w)) refl e)
    by_end false e = below_at (left w) (uleb_from w >>= (λ code. rest_of_head code.0 code.1)) (Some i) next
        (bind_below (left w) (left w) (uleb_from w) _ (uleb_below w) (λ code less. weaker (suc (left code.1)) (left w) (rest_of_head code.0 code.1) (omega arith) (rest_of_head_below code.0 code.1))) e

with_specs : Head → Window → Window → Result (Option Declaration × Window) BadFile
with_specs head at behind = Ok (Some (record { code = head.code; tag = head.tag; specs = (specs_from at).items }), behind)

specs_below : (n : ℕ) (head : Head) (at : Window) (end : Result Window BadFile) → ((behind : Window) → end ≡ Ok behind → left behind < n) → Below n (end >>= with_specs head at)
unfolding with_specs
specs_below n head at (Err e) h = tt
specs_below n head at (Ok behind) h = h behind refl

-- A declaration takes at least one byte, and the end of the table none.
rest_of_declaration_below : (n : ℕ) (head : Option Head) (w : Window) → left w < n → Below n (rest_of_declaration head w)
unfolding rest_of_declaration with_specs
rest_of_declaration_below n None w lt = lt
rest_of_declaration_below n (Some head) w lt = specs_below n head w (specs_from w).end (λ behind ends. let le : left behind ≤ left w = specs_end w behind ends in omega arith)

pub declaration_shortens : Shortens declaration_from
unfolding declaration_from rest_of_declaration
declaration_shortens w next i is = by_head (head_from w) refl is
  where
    by_head : (h : Result (Option Head × Window) BadFile) → head_from w ≡ h → (h >>= λ head. rest_of_declaration head.0 head.1) ≡ Ok (Some i, next) → left next < left w
    by_head (Err e) reads e' = cc
    by_head (Ok (None, at)) reads e = absurd (no_record i at next (Ok (None, at)) refl e)
    by_head (Ok (Some head, at)) reads e = below_at (left w) (rest_of_declaration (Some head) at) (Some i) next (rest_of_declaration_below (left w) (Some head) at (head_shortens w at head reads)) e

head_below : (w : Window) → Below (suc (left w)) (head_from w)
unfolding head_from
head_below w = if_below (suc (left w)) (left w == 0) (Ok (None, w)) _ (omega arith)
    (bind_below (left w) (suc (left w)) (uleb_from w) _ (uleb_below w) (λ code fewer. weaker (suc (left code.1)) (suc (left w)) (rest_of_head code.0 code.1) (omega arith) (rest_of_head_below code.0 code.1)))

declaration_below : (w : Window) → Below (suc (left w)) (declaration_from w)
unfolding declaration_from
declaration_below w = bind_below (suc (left w)) (suc (left w)) (head_from w) _ (head_below w) (λ head fewer. rest_of_declaration_below (suc (left w)) head.0 head.1 fewer)

-- After the declarations of a table no more bytes remain than before them.
pub declarations_end : (w next : Window) → (declarations_from w).end ≡ Ok next → left next ≤ left w
declarations_end w next is = end_below declaration_from declaration_below (suc (left w)) w next is

-- A number of some width takes at least one byte.
pub num_below : (width : Width) (order : Order) (w : Window) → 0 < byte_len width → Below (left w) (num_from width order w)
unfolding num_from
num_below width order w some = by_size (nat_lt (length w.bytes) (w.at + byte_len width)) refl
  where
    by_size : (short : Bool) → nat_lt (length w.bytes) (w.at + byte_len width) ≡ short → Below (left w) (whole (if short then None else Some (field w.bytes w.at width order)) (place_of w) >>= λ n. Ok (n, moved w true (byte_len width)))
    by_size true is = tt
    by_size false is = let within : w.at + byte_len width ≤ length w.bytes = grind (arith, common_steps) in omega arith

rest_of_length_below : (order : Order) (first : ℕ × Window) → Below (suc (left first.1)) (rest_of_length order first)
rest_of_length_below order first = if_below (suc (left first.1)) (first.0 == WIDE_LENGTH) (num_from w64 order first.1 >>= (λ n. Ok (record { len = n.0; wide = true }, n.1))) (Ok (record { len = first.0; wide = false }, first.1))
    (bind_below (left first.1) (suc (left first.1)) (num_from w64 order first.1) _ (num_below w64 order first.1 (omega arith)) (λ n fewer. omega arith)) (omega arith)

check_below : {X : Type 0} (n : ℕ) (c : Check) (r : Result (X × Window) BadFile) → Below n r → Below n (c >> r)
check_below n (Ok x) r h = h
check_below n (Err e) r h = tt

placed_below : {X : Type 0} (n place : ℕ) (r : Result (X × Window) BadFile) → Below n r → Below n (faults_at place r)
placed_below n place (Ok x) h = h
placed_below n place (Err e) h = tt

-- An initial length takes at least one byte.
pub length_below : (order : Order) (w : Window) → Below (left w) (initial_length_from order w)
unfolding initial_length_from checked_length
length_below order w = placed_below (left w) (place_of w) _ (bind_below (left w) (left w) (num_from w32 order w) _ (num_below w32 order w (omega arith)) (λ first fewer.
    check_below (left w) _ _ (bind_below (suc (left first.1)) (left w) (rest_of_length order first) _ (rest_of_length_below order first) (λ initial less.
    let shorter : left initial.1 < left w = omega arith in check_below (left w) _ (Ok initial) shorter))))

-- Contents may be empty.
pub contents_below : (len : ℕ) (w : Window) → Below (suc (left w)) (contents_from len w)
unfolding contents_from
contents_below len w = read_below (suc (left w)) (sub_window w w.at len) (moved w true len) (omega arith)
