-- Lists of items, read one after another.
use Rattle.std.proofs.Common.{◌≡◌, ℕ, suc, ◌+◌, ◌-◌, ◌<◌, ◌≤◌, true, List, [], ◌∷◌, Some, None, Ok, Err, refl, sym, ap, ◌∙◌, arith}
use Rattle.std.specs.Prelude.{is_ok, slice_get}
use Rattle.size_core.specs.declared.fault.BadFile.{BadFile}
use Rattle.byte_cursor.specs.Window.{Window}
use Rattle.dwarf_abbrev.specs.Reads.{Reading}
use Rattle.dwarf_line_header.specs.Tables.{before, items_of, many_from, passed_over}

-- A read with one more item before it ends at the same window, and fails like the read.
pub passed_over-before : {X : Type 0} (x : X) (r : Reading (List X)) → passed_over (before x r) ≡ passed_over r
unfolding passed_over
passed_over-before x (Ok xs) = refl
passed_over-before x (Err e) = refl

pub is_ok-before : {X : Type 0} (x : X) (r : Reading (List X)) → is_ok (before x r) ≡ is_ok r
is_ok-before x (Ok xs) = refl
is_ok-before x (Err e) = refl

-- The items of a read with one more item before it.
pub items_before : {X : Type 0} (x : X) (r : Reading (List X)) → is_ok (before x r) ≡ true → items_of (before x r) ≡ x ∷ items_of r
items_before x (Ok xs) good = refl
items_before x (Err e) good = cc

pub item_here : {X : Type 0} (x : X) (r : Reading (List X)) → is_ok (before x r) ≡ true → slice_get (items_of (before x r)) 0 ≡ Some x
item_here x (Ok xs) good = refl
item_here x (Err e) good = cc

pub item_later : {X : Type 0} (x : X) (r : Reading (List X)) (k : ℕ) → slice_get (items_of (before x r)) (suc k) ≡ slice_get (items_of r) k
item_later x (Ok xs) k = refl
item_later x (Err e) k = refl

-- If items can be skipped, they can be read, and the window after them is the same.
pub passed_is : {X : Type 0} (r : Reading (List X)) (w : Window) → passed_over r ≡ Ok (tt, w) → r ≡ Ok (items_of r, w)
unfolding passed_over
passed_is (Ok x) w h = let both : (tt, x.1) ≡ (tt, w) = cc in let e : x.1 ≡ w = ap (λ (p : Unit {0} × Window). p.1) both in rw e refl
passed_is (Err e) w h = cc

pub passed_is_ok : {X : Type 0} (r : Reading (List X)) (w : Window) → passed_over r ≡ Ok (tt, w) → is_ok r ≡ true
passed_is_ok {X = X} r w h = ap (λ (s : Reading (List X)). is_ok s) (passed_is r w h)

pub passed_is_not : {X : Type 0} (r : Reading (List X)) (e : BadFile) → passed_over r ≡ Err e → r ≡ Err e
unfolding passed_over
passed_is_not (Ok x) e h = cc
passed_is_not (Err d) e h = cc

-- A walk over the items up to index k: it is at this item, or the item comes later.
pub walk_here : {X : Type 0} (k i : ℕ) (x : X) (r rest : Reading (List X)) → r ≡ before x rest → is_ok r ≡ true → i ≡ k → slice_get (items_of r) (k - i) ≡ Some x
walk_here {X = X} k i x r rest is good same =
    let none : k - i ≡ 0 = omega arith in
    let whole : is_ok (before x rest) ≡ true = ap (λ (s : Reading (List X)). is_ok s) (sym is) ∙ good in
    rw (none, is) (item_here x rest whole)

pub walk_on : {X : Type 0} (k i : ℕ) (x : X) (r rest : Reading (List X)) → r ≡ before x rest → i < k → slice_get (items_of r) (k - i) ≡ slice_get (items_of rest) (k - (i + 1))
walk_on k i x r rest is lt =
    let more : k - i ≡ suc (k - (i + 1)) = omega arith in
    rw (more, is) (item_later x rest (k - (i + 1)))

-- A number of items whose next one can't be read.
pub many_bad : {X : Type 0} (read : Window → Reading X) (n i : ℕ) (w : Window) (e : BadFile) → i < n → read w ≡ Err e → many_from read (n - i) w ≡ Err e
unfolding many_from
many_bad read n i w e lt is = let k : n - i ≡ suc (n - (i + 1)) = omega arith in rw (k, is) refl

-- A number of items whose next one can be read.
pub many_more : {X : Type 0} (read : Window → Reading X) (n i : ℕ) (w next : Window) (x : X) → i < n → read w ≡ Ok (x, next) → many_from read (n - i) w ≡ before x (many_from read (n - (i + 1)) next)
unfolding many_from
many_more read n i w next x lt is = let k : n - i ≡ suc (n - (i + 1)) = omega arith in rw (k, is) refl

-- No item is left.
pub many_end : {X : Type 0} (read : Window → Reading X) (n i : ℕ) (w : Window) → n ≤ i → many_from read (n - i) w ≡ Ok ([], w)
unfolding many_from
many_end read n i w le = let k : n - i ≡ 0 = omega arith in rw k refl

-- The same, for skipping them.
pub pass_bad : {X : Type 0} (read : Window → Reading X) (n i : ℕ) (w : Window) (e : BadFile) → i < n → read w ≡ Err e → passed_over (many_from read (n - i) w) ≡ Err e
unfolding passed_over
pass_bad read n i w e lt is = rw (many_bad read n i w e lt is) refl

pub pass_more : {X : Type 0} (read : Window → Reading X) (n i : ℕ) (w next : Window) (x : X) → i < n → read w ≡ Ok (x, next) → passed_over (many_from read (n - i) w) ≡ passed_over (many_from read (n - (i + 1)) next)
pass_more read n i w next x lt is = rw (many_more read n i w next x lt is) (passed_over-before x (many_from read (n - (i + 1)) next))

pub pass_end : {X : Type 0} (read : Window → Reading X) (n i : ℕ) (w : Window) → n ≤ i → passed_over (many_from read (n - i) w) ≡ Ok (tt, w)
unfolding passed_over
pass_end read n i w le = rw (many_end read n i w le) refl

-- The same, seen by its items.
pub items_bad : {X : Type 0} (read : Window → Reading X) (n i k : ℕ) (w : Window) (e : BadFile) → i < n → read w ≡ Err e → slice_get (items_of (many_from read (n - i) w)) k ≡ None
items_bad read n i k w e lt is = rw (many_bad read n i w e lt is) refl

pub items_end : {X : Type 0} (read : Window → Reading X) (n i k : ℕ) (w : Window) → n ≤ i → slice_get (items_of (many_from read (n - i) w)) k ≡ None
items_end read n i k w le = rw (many_end read n i w le) refl

pub many_good : {X : Type 0} (read : Window → Reading X) (n i : ℕ) (w next : Window) (x : X) → i < n → read w ≡ Ok (x, next) → is_ok (many_from read (n - i) w) ≡ true → is_ok (many_from read (n - (i + 1)) next) ≡ true
many_good {X = X} read n i w next x lt is good =
    sym (is_ok-before x (many_from read (n - (i + 1)) next)) ∙ (ap (λ (r : Reading (List X)). is_ok r) (sym (many_more read n i w next x lt is)) ∙ good)
