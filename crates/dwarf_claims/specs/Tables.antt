-- What is kept while units are read, and that it is the same as if it were read again.
use Rattle.std.specs.Prelude.{◌≡◌, ℕ, ◌+◌, ◌≤◌, All, List, [], ◌∷◌, map, Option, None, Some, Ok}
use Rattle.size_model.specs.declared.view.LabelledClaim.{LabelledClaim}
use Rattle.claim_sheet.specs.Known.{AreAdded, IsKnown}
use Rattle.claim_sheet.specs.Sheets.{Sheet}
use Rattle.dwarf_abbrev.specs.Declarations.{table_at}
use Rattle.dwarf_units.specs.declared.sections.Sections.{Sections}
use Rattle.dwarf_claims.specs.declared.last_program.LastProgram.{LastProgram}
use Rattle.dwarf_claims.specs.declared.lines.LastRead.{LastRead}
use Rattle.dwarf_claims.specs.declared.table.LastTable.{LastTable}
use Rattle.dwarf_claims.specs.declared.table.LastTables.{LastTables}
use Rattle.dwarf_claims.specs.declared.known.KnownUnit.{KnownUnit}
use Rattle.dwarf_claims.specs.declared.unit.LastUnit.{LastUnit}
use Rattle.dwarf_claims.specs.Codes.{IsKnownOf}
use Rattle.dwarf_claims.specs.KnownRanges.{AreRangesOf}
use Rattle.dwarf_claims.specs.KnownLabels.{IsLabelOf}
use Rattle.dwarf_claims.specs.LineClaims.{reading_at}

-- A table of abbreviations is the one at its offset in `.debug_abbrev`.
pub record IsReadTable (s : Sections) (t : LastTable) : Type 0 where
  pub table : (place : ℕ) → table_at s.abbrev t.offset place ≡ Ok t.table
  pub known : IsKnownOf t.table.declarations t.known

-- The same table at the same offset, with what is known of its declarations now.
pub record IsStillTable (old new : LastTable) : Type 0 where
  pub known : IsKnownOf new.table.declarations new.known
  pub table : new.table ≡ old.table
  pub offset : new.offset ≡ old.offset

-- The kept table, if there is one, is the one at its offset.
abbrev pub IsTableOf : Sections → Option LastTable → Type 0
IsTableOf s None = Unit {0}
IsTableOf s (Some t) = IsReadTable s t

-- Both kept tables are those at their offsets.
abbrev pub AreTablesOf : Sections → LastTables → Type 0
AreTablesOf s t = IsTableOf s t.recent × IsTableOf s t.older

-- The kept line program was read at its offset in `.debug_line`, as units of its shape read it, and its claims were
-- added to the sheet at its positions.
pub record IsAddedProgram (s : Sections) (sheet : Sheet) (p : LastProgram) : Type 0 where
  pub claims : List LabelledClaim
  pub read : (place : ℕ) → reading_at s p.shape p.offset place ≡ Ok claims
  pub added : AreAdded sheet p.first p.end claims

-- The same, if a line program is kept.
abbrev pub IsProgramOf : Sections → Sheet → Option LastProgram → Type 0
IsProgramOf s sheet None = Unit {0}
IsProgramOf s sheet (Some p) = IsAddedProgram s sheet p

-- The kept tables are those at their offsets, and the kept line program is on the sheet.
abbrev pub IsReadOf : Sections → Sheet → LastRead → Type 0
IsReadOf s sheet last = AreTablesOf s last.tables × IsProgramOf s sheet last.program

-- The kept tables, ranges and label are what reading them again would return, and the label is known on the sheet.
pub record IsUnitOf (s : Sections) (sheet : Sheet) (last : LastUnit) : Type 0 where
  pub tables : AreTablesOf s last.tables
  pub ranges : AreRangesOf s last.ranges
  pub label : IsLabelOf s last.label
  pub known : IsKnown sheet.made last.label.label

-- A unit that was read: its offset in `.debug_info`, and its label.
abbrev pub shown_unit : KnownUnit → ℕ × List ℕ
shown_unit u = (u.offset, u.label.text.now)

-- The units that were read, in order.
abbrev pub shown_units : List KnownUnit → List (ℕ × List ℕ)
shown_units units = map shown_unit units

-- If the label of one of these units has a claim, the claim has this label.
unfoldable pub AreKnownUnits : List LabelledClaim → List KnownUnit → Type 0
AreKnownUnits made units = All (λ u. IsKnown made u.label) units

-- The offsets of these units rise, and none is below n.
abbrev pub Ascends : ℕ → List (ℕ × List ℕ) → Type 0
Ascends n [] = Unit {0}
Ascends n (unit ∷ units) = (n ≤ unit.0) × Ascends (unit.0 + 1) units

-- The units that were read, in order of their offsets, and known on a sheet with these claims.
pub record AreReadUnits (made : List LabelledClaim) (units : List KnownUnit) : Type 0 where
  pub ascend : Ascends 0 (shown_units units)
  pub known : AreKnownUnits made units
