-- The debug section that is found by a name.
use Rattle.std.proofs.Common.{◌≡◌, ℕ, true, false, List, [], ◌∷◌, refl}
use Rattle.std.specs.Prelude.{find}
use Rattle.macho_file.specs.Tables.{SectionRecord}
use Rattle.macho_claims.specs.DebugSections.{is_debug, no_window, window_at, window_over}

pub found_here : (file name : List ℕ) (ss : List SectionRecord) (s : SectionRecord) (rest : List SectionRecord) → ss ≡ s ∷ rest → is_debug name s ≡ true
    → window_at file (find (is_debug name) ss) ≡ window_over file s
found_here file name ss s rest is passes = rw (is, passes) refl

pub found_later : (file name : List ℕ) (ss : List SectionRecord) (s : SectionRecord) (rest : List SectionRecord) → ss ≡ s ∷ rest → is_debug name s ≡ false
    → window_at file (find (is_debug name) ss) ≡ window_at file (find (is_debug name) rest)
found_later file name ss s rest is fails = rw (is, fails) refl

pub none_found : (file name : List ℕ) (ss : List SectionRecord) → ss ≡ [] → window_at file (find (is_debug name) ss) ≡ no_window
none_found file name ss is = rw is refl
