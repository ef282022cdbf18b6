-- Values that are text, or aren't.
use Rattle.std.proofs.Common.{◌≡◌, ◌∙◌, ℕ, List, Result, Ok, sym, ap, Bool, true, false, if◌then◌else◌, refl}
use Rattle.std.specs.Prelude.{IsUtf8}
use Rattle.std.specs.Str.{is_utf8}
use Rattle.std.proofs.lemmas.Str.{IsUtf8-from_is_utf8, is_utf8-from_IsUtf8}
use Rattle.config_text.specs.declared.config.ConfigKind.TheVariants.{NotUtf8}
use Rattle.config_text.specs.Grammar.{Fault, text_read, bad}

pub text_ok : (at : ℕ) (value read text : List ℕ) → read ≡ value → text ≡ read → IsUtf8 read → text_read at value ≡ Ok text
text_ok at value read text whole same utf8 =
    ap (text_read at) (sym whole)
    ∙ ap (λ (b : Bool). let r : Result (List ℕ) Fault = (if b then Ok read else bad NotUtf8 at) in r) (is_utf8-from_IsUtf8 read utf8)
    ∙ ap Ok (sym same)

not_utf8 : (value : List ℕ) (b : Bool) → is_utf8 value ≡ b → (IsUtf8 value → ⊥) → b ≡ false
not_utf8 value true is fails = absurd (fails (IsUtf8-from_is_utf8 value is))
not_utf8 value false is fails = refl

pub text_bad : (at : ℕ) (value read : List ℕ) → read ≡ value → (IsUtf8 read → ⊥) → text_read at value ≡ bad NotUtf8 at
text_bad at value read whole fails =
    ap (text_read at) (sym whole)
    ∙ ap (λ (b : Bool). let r : Result (List ℕ) Fault = (if b then Ok read else bad NotUtf8 at) in r) (not_utf8 read (is_utf8 read) refl fails)
