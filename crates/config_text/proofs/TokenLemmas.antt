-- The tokens of the next bytes.
use Rattle.std.proofs.Common.{◌≡◌, ◌∙◌, ◌<◌, ◌≤◌, ◌+◌, ◌-◌, ◌==◌, ◌&&◌, subst, ℕ, zero, suc, List, [], ◌∷◌, ◌++◌, Bool, true, false, not, Option, Some, None, Err, refl, sym, ap, ap₂, take, drop, length, get_or, arith, if◌then◌else◌, append_assoc}
use Rattle.std.proofs.lemmas.List.{append-nil}
use Rattle.std.proofs.lemmas.Grind.{common_steps}
use Rattle.std.proofs.lemmas.Bool.Decides.{nat_tests}
use Rattle.config_text.specs.Tokens.{Token, Word, Quoted, Mark, Broken, Stray, End, Placed, Between, InWord, InString, InEscape, is_blank, is_quote, is_mark, begins_word, is_in_word, escaped, from_escape, spelled, quoted_before, before, joined, tokens, Place, ahead}
use Rattle.config_text.specs.declared.config.ConfigKind.TheVariants.{Syntax}
use Rattle.config_text.specs.Grammar.{Field, Draft, is_the_mark, at_value, bad, Value}
use Rattle.config_text.specs.Config.{sources_from, sources_after}
use Rattle.config_text.specs.Reads.{begins_token, begins_string, begins_name, IsAhead}

-- What holds for both branches holds for the choice between them.
pub chosen : {A : Type 0} (P : A → Type 0) (b : Bool) (x y : A) → (b ≡ true → P x) → (b ≡ false → P y) → P (if b then x else y)
chosen P true x y first second = first refl
chosen P false x y first second = second refl

if_false : {A : Type 0} (b : Bool) (x y : A) → b ≡ false → (if b then x else y) ≡ y
if_false true x y is = cc
if_false false x y is = refl

if_true : {A : Type 0} (b : Bool) (x y : A) → b ≡ true → (if b then x else y) ≡ x
if_true true x y is = refl
if_true false x y is = cc

-- A name ends before the first byte that it can't contain.
pub word_spelled : (bytes : List ℕ) (k start at : ℕ) (name : List ℕ) → k ≤ length bytes
    → ((i : ℕ) → i < k → is_in_word (get_or bytes i 0) ≡ true) → (k < length bytes → is_in_word (get_or bytes k 0) ≡ false)
    → spelled bytes (InWord start name) at ≡ (start, Word (name ++ take k bytes)) ∷ spelled (drop k bytes) Between (at + k)
word_spelled [] zero start at name within inside end =
    ap₂ (λ (n : List ℕ) (e : ℕ). let ts : List Placed = (start, Word n) ∷ (e, End) ∷ [] in ts) (sym (append-nil name)) (omega arith)
word_spelled [] (suc k) start at name within inside end = absurd (omega arith)
word_spelled (c ∷ cs) zero start at name within inside end =
    let other : is_in_word c ≡ false = end (omega arith) in
    if_false (is_in_word c) (spelled cs (InWord start (name ++ c ∷ [])) (at + 1)) ((start, Word name) ∷ spelled (c ∷ cs) Between at) other
    ∙ ap₂ (λ (n : List ℕ) (e : ℕ). let ts : List Placed = (start, Word n) ∷ spelled (c ∷ cs) Between e in ts) (sym (append-nil name)) (omega arith)
word_spelled (c ∷ cs) (suc k) start at name within inside end =
    let here : is_in_word c ≡ true = inside 0 (omega arith) in
    let more = word_spelled cs k start (at + 1) (name ++ c ∷ []) (omega arith) (λ i lt. inside (suc i) (omega arith)) (λ lt. end (omega arith)) in
    if_true (is_in_word c) (spelled cs (InWord start (name ++ c ∷ [])) (at + 1)) ((start, Word name) ∷ spelled (c ∷ cs) Between at) here
    ∙ more
    ∙ ap₂ (λ (n : List ℕ) (e : ℕ). let ts : List Placed = (start, Word n) ∷ spelled (drop k cs) Between e in ts) (append_assoc name (c ∷ []) (take k cs)) (omega arith)

-- TOKENS BY THEIR FIRST BYTE

word_is_ahead : (test : Token → Bool) → ((n : List ℕ) → test (Word n) ≡ true) → (cs : List ℕ) (start : ℕ) (name : List ℕ) (at : ℕ)
    → IsAhead test start (joined (spelled cs (InWord start name) at))
word_is_ahead test holds [] start name at = record { token = Word name; later = (at, End) ∷ []; is = refl; holds = holds name }
word_is_ahead test holds (c ∷ cs) start name at =
    let P : List Placed → Type 0 = λ (ts : List Placed). IsAhead test start (joined ts) in
    chosen P (is_in_word c) _ _ (λ _. word_is_ahead test holds cs start (name ++ c ∷ []) (at + 1))
    (λ _. record { token = Word name; later = joined (spelled (c ∷ cs) Between at); is = refl; holds = holds name })

-- A test that holds of each token with this first byte holds of the token.
module _ (test : Token → Bool) (value_holds : (v : List ℕ) → test (Quoted v) ≡ true) (broken_holds : (q : ℕ) → test (Broken q) ≡ true) where
  string_is_ahead : (cs : List ℕ) (quote start : ℕ) (value : List ℕ) (at : ℕ)
      → IsAhead test start (spelled cs (InString quote start value) at) × IsAhead test start (spelled cs (InEscape quote start value) at)
  string_is_ahead [] quote start value at = (
    record { token = Broken start; later = []; is = refl; holds = broken_holds start },
    record { token = Broken start; later = []; is = refl; holds = broken_holds start },
  )
  string_is_ahead (c ∷ cs) quote start value at =
      let P : List Placed → Type 0 = IsAhead test start in
      let broken : P ((start, Broken start) ∷ []) = record { token = Broken start; later = []; is = refl; holds = broken_holds start } in (
        chosen P (c == quote) _ _ (λ _. record { token = Quoted value; later = spelled cs Between (at + 1); is = refl; holds = value_holds value })
            (λ _. chosen P (c == 92) _ _ (λ _. (string_is_ahead cs quote start value (at + 1)).1)
            (λ _. chosen P (c == 10) _ _ (λ _. broken) (λ _. (string_is_ahead cs quote start (value ++ c ∷ []) (at + 1)).0))),
        elim (escaped c) as (λ (o : Option ℕ). P (from_escape (λ next. spelled cs next (at + 1)) quote start value o))
            [ Some x ↦ (string_is_ahead cs quote start (value ++ x ∷ []) (at + 1)).0 | None ↦ broken ],
      )

  quoted_is_ahead : (start : ℕ) (v : List ℕ) (ts : List Placed) → IsAhead test start (quoted_before start v ts)
  quoted_is_ahead start v [] = record { token = Quoted v; later = []; is = refl; holds = value_holds v }
  quoted_is_ahead start v ((next, Quoted more) ∷ ts) = record { token = Quoted (v ++ more); later = ts; is = refl; holds = value_holds (v ++ more) }
  quoted_is_ahead start v ((next, Broken quote) ∷ ts) = record { token = Broken quote; later = ts; is = refl; holds = broken_holds quote }
  quoted_is_ahead start v ((next, Word name) ∷ ts) = record { token = Quoted v; later = (next, Word name) ∷ ts; is = refl; holds = value_holds v }
  quoted_is_ahead start v ((next, Mark byte) ∷ ts) = record { token = Quoted v; later = (next, Mark byte) ∷ ts; is = refl; holds = value_holds v }
  quoted_is_ahead start v ((next, Stray) ∷ ts) = record { token = Quoted v; later = (next, Stray) ∷ ts; is = refl; holds = value_holds v }
  quoted_is_ahead start v ((next, End) ∷ ts) = record { token = Quoted v; later = (next, End) ∷ ts; is = refl; holds = value_holds v }

  before_is_ahead : (start : ℕ) (t : Token) (ts : List Placed) → test t ≡ true → IsAhead test start (before start t ts)
  before_is_ahead start (Quoted v) ts holds = quoted_is_ahead start v ts
  before_is_ahead start (Word name) ts holds = record { token = Word name; later = ts; is = refl; holds = holds }
  before_is_ahead start (Mark byte) ts holds = record { token = Mark byte; later = ts; is = refl; holds = holds }
  before_is_ahead start (Broken quote) ts holds = record { token = Broken quote; later = ts; is = refl; holds = holds }
  before_is_ahead start Stray ts holds = record { token = Stray; later = ts; is = refl; holds = holds }
  before_is_ahead start End ts holds = record { token = End; later = ts; is = refl; holds = holds }

  joined_is_ahead : (start : ℕ) (ts : List Placed) → IsAhead test start ts → IsAhead test start (joined ts)
  joined_is_ahead start ts s =
      let P : List Placed → Type 0 = λ (xs : List Placed). IsAhead test start (joined xs) in
      subst P (sym s.is) (before_is_ahead start s.token (joined s.later) s.holds)

-- A byte that is part of a token.
byte_is_ahead : (test : Token → Bool) (at c : ℕ) (cs : List ℕ) → is_blank c ≡ false → (c == 35) ≡ false → (is_mark c ≡ true → test (Mark c) ≡ true)
    → (begins_word c ≡ true → (n : List ℕ) → test (Word n) ≡ true) → (is_quote c ≡ true → (v : List ℕ) → test (Quoted v) ≡ true)
    → (is_quote c ≡ true → (q : ℕ) → test (Broken q) ≡ true) → test Stray ≡ true → IsAhead test at (joined (spelled (c ∷ cs) Between at))
byte_is_ahead test at c cs full code mark_holds word_holds value_holds broken_holds stray_holds =
    let P : List Placed → Type 0 = λ (ts : List Placed). IsAhead test at (joined ts) in
    chosen P (is_blank c) _ _ (λ e. cc)
    (λ _. chosen P (c == 35) _ _ (λ e. cc)
    (λ _. chosen P (is_mark c) _ _ (λ e. record { token = Mark c; later = joined (spelled cs Between (at + 1)); is = refl; holds = mark_holds e })
    (λ _. chosen P (begins_word c) _ _ (λ e. word_is_ahead test (word_holds e) cs at (c ∷ []) (at + 1))
    (λ _. chosen P (is_quote c) _ _
    (λ e. joined_is_ahead test (value_holds e) (broken_holds e) at _ (string_is_ahead test (value_holds e) (broken_holds e) cs c at [] (at + 1)).0)
    (λ _. record { token = Stray; later = []; is = refl; holds = stray_holds })))))

both_parts : (a b : Bool) → (not a && not b) ≡ true → (a ≡ false) × (b ≡ false)
both_parts true b h = cc
both_parts false true h = cc
both_parts false false h = (refl, refl)

-- A test that holds of each token that the first byte can begin holds of the token.
pub first_is_ahead : (test : Token → Bool) (at : ℕ) (rest : List ℕ) → begins_token rest ≡ true
    → (rest ≡ [] → test End ≡ true) → ((c : ℕ) (cs : List ℕ) → rest ≡ c ∷ cs → is_mark c ≡ true → test (Mark c) ≡ true)
    → (begins_name rest ≡ true → (n : List ℕ) → test (Word n) ≡ true) → (begins_string rest ≡ true → (v : List ℕ) → test (Quoted v) ≡ true)
    → (begins_string rest ≡ true → (q : ℕ) → test (Broken q) ≡ true) → test Stray ≡ true → IsAhead test at (tokens at rest)
unfolding tokens
first_is_ahead test at [] begins end_holds mark_holds word_holds value_holds broken_holds stray_holds =
    record { token = End; later = []; is = refl; holds = end_holds refl }
first_is_ahead test at (c ∷ cs) begins end_holds mark_holds word_holds value_holds broken_holds stray_holds =
    let parts = both_parts (is_blank c) (c == 35) begins in
    byte_is_ahead test at c cs parts.0 parts.1 (mark_holds c cs refl) word_holds value_holds broken_holds stray_holds

rest_taken : (c : ℕ) (cs : List ℕ) → take (length (c ∷ cs) - 1) (drop 1 (c ∷ cs)) ≡ cs
rest_taken c cs = grind (arith, common_steps)

-- The parts of a slice that isn't empty.
pub slice_parts : (s tail : List ℕ) → 0 < length s → tail ≡ take (length s - 1) (drop 1 s) → s ≡ get_or s 0 0 ∷ tail
slice_parts [] tail some is = absurd (omega arith)
slice_parts (c ∷ cs) tail some is = ap (λ (t : List ℕ). c ∷ t) (sym (is ∙ rest_taken c cs))

word_apart : (c : ℕ) → begins_word c ≡ true → (is_blank c ≡ false) × ((c == 35) ≡ false) × (is_mark c ≡ false) × (is_in_word c ≡ true)
word_apart c begins = (grind (arith, nat_tests), grind (arith, nat_tests), grind (arith, nat_tests), grind (arith, nat_tests))

word_tokens : (at : ℕ) (rest name tail : List ℕ) (len : ℕ) → begins_name rest ≡ true
    → len ≤ length rest → ((k : ℕ) → k < len → is_in_word (get_or rest k 0) ≡ true) → (len < length rest → is_in_word (get_or rest len 0) ≡ false)
    → name ≡ take len rest → tail ≡ drop len rest
    → tokens at rest ≡ (at, Word name) ∷ tokens (at + len) tail
unfolding tokens
word_tokens at [] name tail len begins within inside end taken left = cc
word_tokens at (c ∷ cs) name tail len begins within inside end taken left =
    let apart = word_apart c begins in
    ap joined
    (if_false (is_blank c) _ _ apart.0 ∙ if_false (c == 35) _ _ apart.1 ∙ if_false (is_mark c) _ _ apart.2 ∙ if_true (begins_word c) _ _ begins
    ∙ sym (if_true (is_in_word c) (spelled cs (InWord at (c ∷ [])) (at + 1)) ((at, Word []) ∷ spelled (c ∷ cs) Between at) apart.3)
    ∙ word_spelled (c ∷ cs) len at at [] within inside end)
    ∙ ap₂ (λ (n t : List ℕ). let ts : List Placed = (at, Word n) ∷ tokens (at + len) t in ts) (sym taken) (sym left)

-- READERS

unequal : (c byte : ℕ) → (c ≡ byte → ⊥) → not (c == byte) ≡ true
unequal c byte apart = grind (arith, nat_tests)

pub end_ahead : (old new : Place) (at : ℕ) (rest : List ℕ) → record { at = at; rest = rest } ≡ new
    → spelled new.rest Between new.at ≡ spelled old.rest Between old.at → length rest < 1 → ahead old ≡ (at, End) ∷ []
unfolding tokens
end_ahead old new at [] view same none = ap joined (sym same ∙ ap (λ (p : Place). spelled p.rest Between p.at) (sym view))
end_ahead old new at (c ∷ cs) view same none = absurd (omega arith)

pub begins_name_first : (rest : List ℕ) → 1 ≤ length rest → begins_name rest ≡ begins_word (get_or rest 0 0)
begins_name_first [] some = absurd (omega arith)
begins_name_first (c ∷ cs) some = refl

-- VALUES

pub quoted_again : (at next : ℕ) (v more : List ℕ) (ts : List Placed) → quoted_before at v (quoted_before next more ts) ≡ quoted_before at (v ++ more) ts
quoted_again at next v more [] = refl
quoted_again at next v more ((q, Quoted last) ∷ ts) = ap (λ (x : List ℕ). let xs : List Placed = (at, Quoted x) ∷ ts in xs) (sym (append_assoc v more last))
quoted_again at next v more ((q, Broken quote) ∷ ts) = refl
quoted_again at next v more ((q, Word name) ∷ ts) = refl
quoted_again at next v more ((q, Mark byte) ∷ ts) = refl
quoted_again at next v more ((q, Stray) ∷ ts) = refl
quoted_again at next v more ((q, End) ∷ ts) = refl

-- A string and the bytes after it.
pub string_ahead : (old new after : Place) (v : List ℕ) → spelled old.rest Between old.at ≡ (old.at, Quoted v) ∷ spelled new.rest Between new.at
    → spelled after.rest Between after.at ≡ spelled new.rest Between new.at → ahead old ≡ quoted_before old.at v (ahead after)
unfolding tokens
string_ahead old new after v is same = ap joined is ∙ ap (λ (ts : List Placed). quoted_before old.at v (joined ts)) (sym same)

abbrev pub is_no_string : Token → Bool
is_no_string (Quoted value) = false
is_no_string (Broken quote) = false
is_no_string (Word name) = true
is_no_string (Mark byte) = true
is_no_string Stray = true
is_no_string End = true

-- The next token isn't a string.
no_string_ahead : (at : ℕ) (rest : List ℕ) → begins_token rest ≡ true → begins_string rest ≡ false → IsAhead is_no_string at (tokens at rest)
no_string_ahead at rest begins other =
    first_is_ahead is_no_string at rest begins (λ _. refl) (λ c cs is mark. refl) (λ _ n. refl) (λ e v. cc) (λ e q. cc) refl

quoted_before_other : (start : ℕ) (v : List ℕ) (at : ℕ) (t : Token) (ts : List Placed) → is_no_string t ≡ true
    → quoted_before start v ((at, t) ∷ ts) ≡ (start, Quoted v) ∷ (at, t) ∷ ts
quoted_before_other start v at (Quoted value) ts other = cc
quoted_before_other start v at (Broken quote) ts other = cc
quoted_before_other start v at (Word name) ts other = refl
quoted_before_other start v at (Mark byte) ts other = refl
quoted_before_other start v at Stray ts other = refl
quoted_before_other start v at End ts other = refl

-- A value ends if no string follows it.
pub value_ends : (start : ℕ) (v : List ℕ) (p : Place) → begins_token p.rest ≡ true → begins_string p.rest ≡ false
    → quoted_before start v (ahead p) ≡ (start, Quoted v) ∷ ahead p
value_ends start v p begins other =
    let s = no_string_ahead p.at p.rest begins other in
    let P : List Placed → Type 0 = λ (ts : List Placed). quoted_before start v ts ≡ (start, Quoted v) ∷ ts in
    subst P (sym s.is) (quoted_before_other start v p.at s.token s.later s.holds)

other_value : (field : Field) (d : Draft) (at : ℕ) (t : Token) → is_no_string t ≡ true → at_value field d at t ≡ bad Syntax at
other_value field d at (Quoted value) other = cc
other_value field d at (Broken quote) other = cc
other_value field d at (Word name) other = refl
other_value field d at (Mark byte) other = refl
other_value field d at Stray other = refl
other_value field d at End other = refl

-- A value is missing if no string begins.
pub value_missing : (field : Field) (d : Draft) (p : Place) → begins_token p.rest ≡ true → begins_string p.rest ≡ false
    → sources_from (ahead p) (Value field) d ≡ Err (Syntax, p.at)
value_missing field d p begins other =
    let s = no_string_ahead p.at p.rest begins other in
    ap (λ (ts : List Placed). sources_from ts (Value field) d) s.is
    ∙ ap (sources_after s.later) (other_value field d p.at s.token s.holds)

-- Blanks change no token.
pub same_ahead : (old new : Place) → spelled new.rest Between new.at ≡ spelled old.rest Between old.at → ahead new ≡ ahead old
unfolding tokens
same_ahead old new same = ap joined same

-- The next token is a mark.
pub mark_ahead : (old new : Place) (at c : ℕ) (rest tail : List ℕ) → record { at = at; rest = rest } ≡ new
    → spelled new.rest Between new.at ≡ spelled old.rest Between old.at → begins_token new.rest ≡ true
    → rest ≡ c ∷ tail → is_mark c ≡ true → ahead old ≡ (at, Mark c) ∷ ahead (record { at = at + 1; rest = tail })
unfolding tokens
mark_ahead old new at c rest tail view same begins is mark =
    let here : spelled (c ∷ tail) Between at ≡ spelled old.rest Between old.at = ap (λ (r : List ℕ). spelled r Between at) (sym is) ∙ ap (λ (p : Place). spelled p.rest Between p.at) view ∙ same in
    let parts = both_parts (is_blank c) (c == 35) (ap begins_token (sym is) ∙ ap (λ (p : Place). begins_token p.rest) view ∙ begins) in
    ap joined (sym here
    ∙ if_false (is_blank c) _ _ parts.0 ∙ if_false (c == 35) _ _ parts.1 ∙ if_true (is_mark c) _ _ mark)

-- The next token is another one.
pub other_ahead : (test : Token → Bool) (old new : Place) (at : ℕ) (rest : List ℕ) → record { at = at; rest = rest } ≡ new
    → spelled new.rest Between new.at ≡ spelled old.rest Between old.at → begins_token new.rest ≡ true
    → (rest ≡ [] → test End ≡ true) → ((c : ℕ) (cs : List ℕ) → rest ≡ c ∷ cs → is_mark c ≡ true → test (Mark c) ≡ true)
    → (begins_name rest ≡ true → (n : List ℕ) → test (Word n) ≡ true) → (begins_string rest ≡ true → (v : List ℕ) → test (Quoted v) ≡ true)
    → (begins_string rest ≡ true → (q : ℕ) → test (Broken q) ≡ true) → test Stray ≡ true → IsAhead test at (ahead old)
unfolding tokens
other_ahead test old new at rest view same begins end_holds mark_holds word_holds value_holds broken_holds stray_holds =
    let here : joined (spelled rest Between at) ≡ joined (spelled old.rest Between old.at) = ap joined (ap (λ (p : Place). spelled p.rest Between p.at) view ∙ same) in
    let P : List Placed → Type 0 = IsAhead test at in
    subst P here (first_is_ahead test at rest (ap (λ (p : Place). begins_token p.rest) view ∙ begins) end_holds mark_holds word_holds value_holds broken_holds stray_holds)

-- The next token isn't this mark.
pub none_ahead : (byte : ℕ) (old new : Place) (at : ℕ) (rest : List ℕ) → record { at = at; rest = rest } ≡ new
    → spelled new.rest Between new.at ≡ spelled old.rest Between old.at → begins_token new.rest ≡ true
    → ((c : ℕ) (cs : List ℕ) → rest ≡ c ∷ cs → c ≡ byte → ⊥)
    → (ahead new ≡ ahead old) × IsAhead (λ t. not (is_the_mark byte t)) new.at (ahead old)
unfolding tokens
none_ahead byte old new at rest view same begins other =
    let test : Token → Bool = λ (t : Token). not (is_the_mark byte t) in
    let P : ℕ → Type 0 = λ (start : ℕ). IsAhead test start (ahead old) in (
      ap joined same,
      subst P (ap (λ (p : Place). p.at) view)
          (other_ahead test old new at rest view same begins (λ _. refl) (λ c cs is mark. unequal c byte (other c cs is))
          (λ _ n. refl) (λ _ v. refl) (λ _ q. refl) refl),
    )

-- The next token is a name.
pub word_ahead : (p : Place) (at : ℕ) (rest name tail : List ℕ) (len : ℕ) → record { at = at; rest = rest } ≡ p → begins_name p.rest ≡ true
    → len ≤ length rest → ((k : ℕ) → k < len → is_in_word (get_or rest k 0) ≡ true) → (len < length rest → is_in_word (get_or rest len 0) ≡ false)
    → name ≡ take len rest → tail ≡ drop len rest → ahead p ≡ (p.at, Word name) ∷ ahead (record { at = at + len; rest = tail })
unfolding tokens
word_ahead p at rest name tail len view begins within inside end taken left =
    let P : Place → Type 0 = λ (q : Place). ahead q ≡ (q.at, Word name) ∷ ahead (record { at = at + len; rest = tail }) in
    subst P view (word_tokens at rest name tail len (ap (λ (q : Place). begins_name q.rest) view ∙ begins) within inside end taken left)
