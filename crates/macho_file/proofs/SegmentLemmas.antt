-- The segments among commands.
use Rattle.std.proofs.Common.{◌≡◌, ℕ, ◌+◌, true, false, List, [], ◌∷◌, length, refl, ◌∙◌}
use Rattle.std.specs.List.{flat_map}
use Rattle.macho_file.specs.declared.command.Command.{Command}
use Rattle.macho_file.specs.Commands.{is_segment, section_count_of}
use Rattle.macho_file.specs.Tables.{sections_of, segment_at, segments_from}
use Rattle.macho_file.specs.Known.{SameSegments}
use Rattle.macho_file.proofs.TableLemmas.{sections_more, sections_of_segment, sections_of_other}

pub same_segments : (file : List ℕ) (cs : List Command) → SameSegments file cs cs
same_segments file cs = record { segments_are = λ first. refl; sections_are = refl }

pub same_at : (file : List ℕ) (cs ds es : List Command) → SameSegments file cs ds → ds ≡ es → SameSegments file cs es
same_at file cs ds es same is = record { segments_are = λ first. rw (← is) (same.segments_are first); sections_are = rw (← is) same.sections_are }

segments_by : (file : List ℕ) (first : ℕ) (c : Command) (cs : List Command) → is_segment c ≡ false → segments_from file first (c ∷ cs) ≡ segments_from file first cs
segments_by file first c cs other = rw other refl

sections_by : (file : List ℕ) (c : Command) (cs : List Command) → is_segment c ≡ false → flat_map (sections_of file) (c ∷ cs) ≡ flat_map (sections_of file) cs
sections_by file c cs other = rw (sections_of_other file c other) refl

-- A command that isn't a segment is skipped.
pub skip_command : (file : List ℕ) (cs ds : List Command) (c : Command) (rest : List Command)
    → SameSegments file cs ds → ds ≡ c ∷ rest → is_segment c ≡ false → SameSegments file cs rest
skip_command file cs ds c rest same is other =
    let at = same_at file cs ds (c ∷ rest) same is in record {
      segments_are = λ first. at.segments_are first ∙ segments_by file first c rest other;
      sections_are = at.sections_are ∙ sections_by file c rest other;
    }

segment_first : (file : List ℕ) (first : ℕ) (c : Command) (rest : List Command) → is_segment c ≡ true
    → segments_from file first (c ∷ rest) ≡ segment_at file c first ∷ segments_from file (first + section_count_of file c) rest
segment_first file first c rest is = rw is refl

-- The next segment, and the others.
pub segments_next : (file : List ℕ) (first : ℕ) (cs : List Command) (c : Command) (rest : List Command) → SameSegments file cs (c ∷ rest) → is_segment c ≡ true
    → segments_from file first cs ≡ segment_at file c first ∷ segments_from file (first + section_count_of file c) rest
segments_next file first cs c rest same is = same.segments_are first ∙ segment_first file first c rest is

pub segments_none : (file : List ℕ) (first : ℕ) (cs : List Command) → SameSegments file cs [] → segments_from file first cs ≡ []
segments_none file first cs same = same.segments_are first

-- How many sections remain.
pub sections_counted : (file : List ℕ) (cs : List Command) (c : Command) (rest : List Command) → SameSegments file cs (c ∷ rest) → is_segment c ≡ true
    → length (flat_map (sections_of file) cs) ≡ section_count_of file c + length (flat_map (sections_of file) rest)
sections_counted file cs c rest same is = rw (same.sections_are) (sections_more file c rest ∙ rw (sections_of_segment file c is) refl)
