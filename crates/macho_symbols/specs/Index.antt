-- An index of symbols by position.
use Rattle.std.specs.Prelude.{◌≡◌, ℕ, ◌+◌, ◌*◌, ◌^◌, ◌<◌, ◌≤◌, List, [], ◌∷◌, length, All, Contains, Some, slice_get, slice_index_or}
use Rattle.std.specs.List.Sorted.{IsNonDecreasingBy}
use Rattle.macho_symbols.specs.declared.index.Key.{Key}
use Rattle.macho_symbols.specs.Symbols.{SymbolRecord}

-- The position of a symbol: sect * 2^64 + value.
abbrev pub position : SymbolRecord → ℕ
position s = s.sect * 2 ^ 64 + s.value

-- The key of symbol i of a list.
abbrev pub key_of : ℕ → SymbolRecord → Key
key_of i s = record { position = position s; number = i }

-- The keys of these symbols, which are numbered from i on.
abbrev pub keys_from : ℕ → List SymbolRecord → List Key
keys_from i [] = []
keys_from i (s ∷ rest) = key_of i s ∷ keys_from (i + 1) rest

-- A key is that of one of the symbols.
abbrev pub IsKeyIn : List SymbolRecord → Key → Type 0
IsKeyIn all k = (s : SymbolRecord) × (slice_get all k.number ≡ Some s) × (k ≡ key_of k.number s)

-- The values of the symbols are addresses.
pub record AreAddresses (all : List SymbolRecord) : Type 0 where
  pub small : All (λ (s : SymbolRecord). s.value < 2 ^ 64) all

-- The index of these symbols: their keys, sorted by position. Keys with the same position are sorted by number.
pub record IsIndex (all : List SymbolRecord) (keys : List Key) : Type 0 where
  pub known : All (IsKeyIn all) keys
  pub there : (i : ℕ) (s : SymbolRecord) → slice_get all i ≡ Some s → Contains keys (key_of i s)
  pub rises : IsNonDecreasingBy (λ (k : Key). k.position) keys
  pub in_order : (i j : ℕ) (d : Key) → i ≤ j → j < length keys → (slice_index_or keys i d).position ≡ (slice_index_or keys j d).position
      → (slice_index_or keys i d).number ≤ (slice_index_or keys j d).number
