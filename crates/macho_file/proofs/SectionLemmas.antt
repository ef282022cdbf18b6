-- The remaining sections.
use Rattle.std.proofs.Common.{◌≡◌, ℕ, zero, suc, ◌+◌, ◌-◌, ◌<◌, true, List, [], ◌∷◌, ◌++◌, refl, ◌∙◌, arith}
use Rattle.std.specs.List.{flat_map}
use Rattle.byte_cursor.specs.declared.encoding.Encoding.{Encoding}
use Rattle.macho_file.specs.declared.command.Command.{Command}
use Rattle.macho_records.specs.Layout.{encoding_of}
use Rattle.macho_file.specs.Commands.{is_segment, form_of, segment_len, section_len, section_count_of}
use Rattle.macho_file.specs.Tables.{SectionRecord, section_at, sections_from, sections_of}
use Rattle.macho_file.specs.Known.{SameSegments}

-- The sections of the current segment, and then those of the remaining commands.
abbrev pub to_come : List ℕ → Encoding → ℕ → ℕ → List Command → List SectionRecord
to_come file form place left cs = sections_from file form place left ++ flat_map (sections_of file) cs

pub section_next : (file : List ℕ) (form : Encoding) (place left : ℕ) (cs : List Command) → 0 < left
    → to_come file form place left cs ≡ section_at file form place ∷ to_come file form (place + section_len form) (left - 1) cs
unfolding sections_from
section_next file form place zero cs some = absurd (omega arith)
section_next file form place (suc left) cs some = let k : suc left - 1 ≡ left = omega arith in rw k refl

pub sections_begin : (file : List ℕ) (form : Encoding) (place left : ℕ) (cs : List Command) (c : Command) (rest : List Command) → left ≡ 0
    → SameSegments file cs (c ∷ rest) → is_segment c ≡ true
    → to_come file form place left cs
    ≡ to_come file (form_of (encoding_of file) c) (c.place + segment_len (form_of (encoding_of file) c)) (section_count_of file c) rest
unfolding sections_from sections_of
sections_begin file form place left cs c rest none same is = rw none (same.sections_are ∙ rw is refl)

pub sections_none : (file : List ℕ) (form : Encoding) (place left : ℕ) (cs : List Command) → left ≡ 0 → SameSegments file cs [] → to_come file form place left cs ≡ []
unfolding sections_from
sections_none file form place left cs none same = rw none same.sections_are
