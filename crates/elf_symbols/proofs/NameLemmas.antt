-- Symbols with one st_name have one name.
use Rattle.std.proofs.Common.{◌≡◌, ℕ, ◌==◌, Bool, true, false, List, [], Option, None, Some, Ok}
use Rattle.std.specs.Prelude.{if◌then◌else◌}
use Rattle.size_core.specs.declared.fault.Fault.TheVariants.{NameOutside}
use Rattle.byte_cursor.specs.Numbers.{text}
use Rattle.elf_symbols.specs.Symbols.{name_at, name_start, present}

-- the offset of a symbol matters only if there is a fault
present_any : (o : Option (List ℕ)) (p q : ℕ) (t : List ℕ) → present o NameOutside p ≡ Ok t → present o NameOutside q ≡ Ok t
present_any None p q t e = cc e
present_any (Some s) p q t e = e

pub name_any : (file names : List ℕ) (p q : ℕ) (t : List ℕ) → name_start file q ≡ name_start file p → name_at file names p ≡ Ok t → name_at file names q ≡ Ok t
unfolding name_at
name_any file names p q t same e = rw same (by_offset (name_start file p == 0) e)
  where
    by_offset : (b : Bool) → (if b then Ok [] else present (text names (name_start file p)) NameOutside p) ≡ Ok t
        → (if b then Ok [] else present (text names (name_start file p)) NameOutside q) ≡ Ok t
    by_offset true e = e
    by_offset false e = present_any (text names (name_start file p)) p q t e
