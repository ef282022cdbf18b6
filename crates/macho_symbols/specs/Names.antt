-- The names of symbols and of spans by their file offsets.
use Rattle.std.specs.Prelude.{◌≡◌, ◌<◌, ℕ, All, List, Some, length}
use Rattle.std.specs.Borrow.{Bor}
use Rattle.std.specs.BTreeMap.{BTreeMap, get}
use Rattle.std.specs.Ordering.{nat_cmp}
use Rattle.byte_cursor.specs.Numbers.{text}
use Rattle.macho_symbols.specs.declared.spans.NamedSpan.{NamedSpan}
use Rattle.macho_symbols.specs.declared.symbol.PlacedSymbol.{PlacedSymbol}

-- Each name that is kept is that at its offset in the string table: the bytes from there up to the next zero byte.
pub record AreNamesIn (strings : List ℕ) (kept : BTreeMap ℕ (Bor (List ℕ))) : Type 0 where
  pub each : (at : ℕ) (name : Bor (List ℕ)) → get nat_cmp kept at ≡ Some name → text strings at ≡ Some name.now

-- The name of a symbol, if it isn't empty, is the text at its file offset.
abbrev pub IsNamed : List ℕ → PlacedSymbol → Type 0
IsNamed file s = 0 < length s.name.now → text file s.name_place ≡ Some s.name.now

-- The names of these symbols are the texts at their file offsets.
pub record AreNamed (file : List ℕ) (symbols : List PlacedSymbol) : Type 0 where
  pub each : All (λ (s : PlacedSymbol). text file s.name_place ≡ Some s.name.now) symbols

-- The names of these spans are the texts at their file offsets.
pub record AreNamedSpans (file : List ℕ) (spans : List NamedSpan) : Type 0 where
  pub each : All (λ (s : NamedSpan). text file s.name_place ≡ Some s.name.now) spans
