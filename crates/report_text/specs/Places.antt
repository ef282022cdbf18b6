-- The explanation of a location.
use Rattle.std.specs.Prelude.{ℕ, ◌==◌, Bool, List, [], ◌∷◌, ◌++◌, codes, decimal, if◌then◌else◌}
use Rattle.std.specs.List.{flat_map}
use Rattle.size_core.specs.declared.claim.Side.{Side}
use Rattle.size_core.specs.declared.claim.Side.TheVariants.{File, Vm, Both}
use Rattle.size_core.specs.declared.place.Place.{Place}
use Rattle.size_core.specs.declared.place.Place.TheVariants.{Offset, Address}
use Rattle.place_explain.specs.declared.named.NamedClaim.{NamedClaim}
use Rattle.place_explain.specs.declared.named.PlaceSource.{PlaceSource}
use Rattle.report_text.specs.Labels.{escaped, shortened}

-- A line that ends in a number.
unfoldable pub number_line : List ℕ → ℕ → List ℕ
number_line before n = before ++ (decimal n ++ codes "\n")

-- A line that ends in a name or a label.
unfoldable pub name_line : Bool → List ℕ → List ℕ → List ℕ
name_line wide before text = before ++ (escaped (shortened wide text) ++ codes "\n")

-- The address space before an address. It is left out if it is 0.
unfoldable pub space_text : ℕ → List ℕ
space_text space = if space == 0 then [] else decimal space ++ codes ":"

-- The first line: a file offset, or an address with its address space.
unfoldable pub place_line : Place → List ℕ
place_line (Offset o) = number_line (codes "file offset ") o
place_line (Address space x) = number_line (codes "address " ++ space_text space) x

-- The text for a claim's side.
abbrev pub side_text : Side → List ℕ
side_text File = codes " file "
side_text Vm = codes " vm "
side_text Both = codes " both "

-- The rest of a claim's line after its rank: its number, its side and its label.
unfoldable pub claim_text : Bool → NamedClaim → List ℕ
claim_text wide c = decimal c.number ++ name_line wide (side_text c.side) c.label

-- A claim's line.
abbrev pub claim_line : Bool → List ℕ → NamedClaim → List ℕ
claim_line wide rank c = rank ++ claim_text wide c

-- The line of a claim that isn't the first one.
abbrev pub beaten_line : Bool → NamedClaim → List ℕ
beaten_line wide c = claim_line wide (codes "  beaten #") c

-- The lines of the claims that cover the location. The first claim gives the label.
unfoldable pub claim_lines : Bool → List NamedClaim → List ℕ
claim_lines wide [] = codes "  first none\n"
claim_lines wide (c ∷ cs) = claim_line wide (codes "  first #") c ++ flat_map (beaten_line wide) cs

-- The line for the claims that a limit leaves out, if there are any.
unfoldable pub more_line : ℕ → List ℕ
more_line more = if more == 0 then [] else number_line (codes "  more ") more

-- The lines of a data source.
unfoldable pub source_lines : Bool → PlaceSource → List ℕ
source_lines wide s = name_line wide (codes "source ") s.name
    ++ (name_line wide (codes "  label ") s.label ++ (claim_lines wide s.claims ++ more_line s.more))

-- The explanation of a location: its line, and the lines of each data source.
unfoldable pub place_report_text : Place → List PlaceSource → Bool → List ℕ
place_report_text spot sources wide = place_line spot ++ flat_map (source_lines wide) sources
