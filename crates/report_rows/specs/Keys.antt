-- Sort keys.
use Rattle.std.specs.Prelude.{ℕ, Bool, ◌||◌, nat_lt, if◌then◌else◌}
use Rattle.size_core.specs.declared.choices.Sort.{Sort}
use Rattle.size_core.specs.declared.choices.Sort.TheVariants.{Vm, File, Both}
use Rattle.report_rows.specs.declared.row.RowOptions.{RowOptions}
use Rattle.report_rows.specs.Shown.{shows_vm, shows_file, shown}

-- The size that a sort order selects: one of the two, or the larger.
abbrev pub chosen : Sort → ℕ → ℕ → ℕ
chosen Vm vm file = vm
chosen File vm file = file
chosen Both vm file = if nat_lt vm file then file else vm

-- The sort key: the shown size that rows are sorted by.
abbrev pub key_of : RowOptions → ℕ → ℕ → ℕ
key_of o vm file = chosen o.sort (shown (shows_vm o.domain) vm) (shown (shows_file o.domain) file)

-- Whether a shown size is above 0.
abbrev pub is_shown : RowOptions → ℕ → ℕ → Bool
is_shown o vm file = nat_lt 0 (shown (shows_vm o.domain) vm) || nat_lt 0 (shown (shows_file o.domain) file)
