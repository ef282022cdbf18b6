-- Which sizes are shown.
use Rattle.std.specs.Prelude.{ℕ, Bool, true, false, if◌then◌else◌}
use Rattle.size_core.specs.declared.choices.Domain.{Domain}
use Rattle.size_core.specs.declared.choices.Domain.TheVariants.{Vm, File, Both}

-- Whether VM sizes are shown.
abbrev pub shows_vm : Domain → Bool
shows_vm Vm = true
shows_vm File = false
shows_vm Both = true

-- Whether file sizes are shown.
abbrev pub shows_file : Domain → Bool
shows_file Vm = false
shows_file File = true
shows_file Both = true

-- A size, which counts as 0 if it isn't shown.
abbrev pub shown : Bool → ℕ → ℕ
shown shows size = if shows then size else 0
