-- The bytes that a name holds, if the files report them.
use Rattle.std.proofs.Common.{ℕ, ◌+◌, ◌<◌, List, [], length, Option, None, Some, refl, arith}
use Rattle.std.specs.Prelude.{replicate}
use Rattle.std.proofs.lemmas.List.{length-replicate}
use Rattle.outside.specs.Held.{Pairs, held_bytes, IsHeld, IsLonger}

pub held-some : (held : Option Pairs) (name : List ℕ) → (bytes : List ℕ) × IsHeld held name bytes
held-some None name = ([], tt)
held-some (Some pairs) name = (held_bytes pairs name, refl)

-- If a read reports more bytes than the limit, there are such bytes.
pub held-long : (held : Option Pairs) (name : List ℕ) (limit before now : ℕ) → IsLonger held name limit before now → (bytes : List ℕ) × (IsHeld held name bytes × (limit < length bytes))
held-long None name limit before now longer = (replicate (limit + 1) 0, (tt, omega (arith, length-replicate {A = ℕ} (limit + 1) 0)))
held-long (Some pairs) name limit before now longer = (held_bytes pairs name, (refl, longer))
