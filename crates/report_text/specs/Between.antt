-- The state between two records while a table is written.
use Rattle.std.specs.Prelude.{◌≡◌, ◌≤◌, ⊤, ℕ, List, [], ◌∷◌, ◌++◌, Some, false, length, map, take, drop}
use Rattle.std.specs.List.{flat_map}
use Rattle.std.specs.declared.option.Option.{Option}
use Rattle.csv.specs.Writing.{row_text, writer_setup, fields_written, has_written, text_written}
use Rattle.csv.specs.declared.writer.Writer.{Writer}
use Rattle.report_rows.specs.declared.row.Row.{Row}
use Rattle.report_rows.specs.declared.row.RowKind.{RowKind}
use Rattle.report_rows.specs.declared.row.RowKind.TheVariants.{Label, Others}
use Rattle.report_rows.specs.Trees.{AreLevels}
use Rattle.report_text.specs.Labels.{others_text}
use Rattle.report_text.specs.Records.{Fields, delimited, labels_above, leaf_records}

-- A writer puts this byte between fields, is between two records, and has written this text.
pub record IsReady {W : Type 0} (contents : W → Option (List ℕ)) (delimiter : ℕ) (w : Writer W) (text : List ℕ) : Type 0 where
  pub set : writer_setup w ≡ delimited delimiter
  pub none : fields_written w ≡ 0
  pub clean : has_written w ≡ false
  pub is : text_written contents w ≡ Some text

-- A path has the labels of the rows that the next row is under, for each level up to a highest one.
pub record IsPath (highest : ℕ) (path : Fields) (before : List Row) : Type 0 where
  pub long : highest ≤ length path
  pub labels : (level : ℕ) → level ≤ highest → take level path ≡ labels_above level before

-- This many rows have been processed. What is written, with the records of the other rows, is the whole text.
pub record HasCome {W : Type 0} {X : Type 0} (contents : W → Option (List ℕ)) (delimiter : ℕ) (as_row : X → Row)
    (sizes : X → Fields) (depth : ℕ) (rows : List X) (whole : List ℕ) (i : ℕ) (path : Fields) (w : Writer W) : Type 0 where
  pub before : List Row
  pub highest : ℕ
  pub text : List ℕ
  pub levels : AreLevels depth highest (map as_row (drop i rows))
  pub on_path : IsPath highest path before
  pub ready : IsReady contents delimiter w text
  pub rest : text ++ flat_map (row_text (delimited delimiter)) (leaf_records as_row sizes depth before (drop i rows)) ≡ whole

-- If the row is an Others row, this is its text.
abbrev pub HasText : RowKind → List ℕ → Type 0
HasText (Label label) text = ⊤
HasText (Others count) text = text ≡ others_text count

-- A path with the label of a row, if the row has one.
abbrev pub entered : Fields → RowKind → Fields
entered path (Label label) = path ++ (label ∷ [])
entered path (Others count) = path
