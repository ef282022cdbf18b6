-- Example texts of separated values.
use Rattle.std.specs.Prelude.{◌≡◌, List, [], ◌∷◌, Some, None, codes}
use Rattle.report_text.specs.Reading.{read_csv, read_tsv}
use Rattle.report_text.specs.Records.{Fields}

-- The records of the first examples of RFC 4180.
abbrev pub letters : List Fields
letters = (codes "aaa" ∷ codes "bbb" ∷ codes "ccc" ∷ []) ∷ (codes "zzz" ∷ codes "yyy" ∷ codes "xxx" ∷ []) ∷ []

-- The examples of RFC 4180, section 2, in its order, and some more texts. The last four aren't separated values.
pub record WorkedReadings : Type 0 where
  pub line_each : read_csv (codes "aaa,bbb,ccc\r\nzzz,yyy,xxx\r\n") ≡ Some letters
  pub last_line : read_csv (codes "aaa,bbb,ccc\r\nzzz,yyy,xxx") ≡ Some letters
  pub header : read_csv (codes "field_name,field_name\r\naaa,bbb\r\n")
      ≡ Some ((codes "field_name" ∷ codes "field_name" ∷ []) ∷ (codes "aaa" ∷ codes "bbb" ∷ []) ∷ [])
  pub spaces : read_csv (codes " a , b ") ≡ Some ((codes " a " ∷ codes " b " ∷ []) ∷ [])
  pub in_quotes : read_csv (codes "\"aaa\",\"bbb\",\"ccc\"\r\nzzz,yyy,xxx") ≡ Some letters
  pub line_break : read_csv (codes "\"aaa\",\"b\r\nbb\",\"c,c\"\r\n")
      ≡ Some ((codes "aaa" ∷ codes "b\r\nbb" ∷ codes "c,c" ∷ []) ∷ [])
  pub two_quotes : read_csv (codes "\"aaa\",\"b\"\"bb\",\"ccc\"") ≡ Some ((codes "aaa" ∷ codes "b\"bb" ∷ codes "ccc" ∷ []) ∷ [])
  pub line_feeds : read_csv (codes "sections,vmsize\n.text,12\n.data,\n")
      ≡ Some ((codes "sections" ∷ codes "vmsize" ∷ []) ∷ (codes ".text" ∷ codes "12" ∷ []) ∷ (codes ".data" ∷ [] ∷ []) ∷ [])
  pub tabs : read_tsv (codes "a,b\t\"c\td\"\n") ≡ Some ((codes "a,b" ∷ codes "c\td" ∷ []) ∷ [])
  pub no_text : read_csv [] ≡ Some []
  pub quote_inside : read_csv (codes "a\"b\n") ≡ None
  pub text_after_quotes : read_csv (codes "\"a\"b\n") ≡ None
  pub open_quotes : read_csv (codes "\"a\n") ≡ None
  pub return_inside : read_csv (codes "a\rb\n") ≡ None
