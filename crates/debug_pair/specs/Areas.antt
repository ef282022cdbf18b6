-- Areas of notes in a file (gABI, Note Section).
use Rattle.std.specs.Prelude.{◌≡◌, ℕ, List, [], ◌∷◌, Option, None, length, take, drop}
use Rattle.elf_file.specs.Layout.{encoding_of}
use Rattle.debug_pair.specs.Identities.{build_id}
use Rattle.debug_pair.specs.declared.searched.Searched.{Searched}

-- These bytes are in the file, from this offset on.
abbrev pub IsArea : List ℕ → ℕ → List ℕ → Type 0
IsArea file offset area = area ≡ take (length area) (drop offset file)

-- The notes of the area that was searched last have no build ID.
abbrev pub HasNoId : List ℕ → Searched → Type 0
HasNoId file last = build_id (encoding_of file).order (take last.len (drop last.offset file) ∷ []) ≡ None

-- A search of these areas found their first build ID. If they have none, the area that was searched last has none
-- either.
pub record Finds (file : List ℕ) (areas : List (List ℕ)) (found : Option (List ℕ)) (last : Searched) : Type 0 where
  pub id : found ≡ build_id (encoding_of file).order areas
  pub none : found ≡ None → HasNoId file last
