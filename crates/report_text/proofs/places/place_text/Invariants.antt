use Rattle.std.proofs.Common.{◌≡◌, ◌++◌, take}
use Rattle.std.specs.List.{flat_map}
use Rattle.report_text.specs.Places.{place_line, source_lines}
use Rattle.report_text.proofs.places.place_text.Given as goal

-- The location, and the data sources so far.
abbrev pub invariant-loop-source : goal.invariant-loop-source
invariant-loop-source l = l.text.items ≡ place_line l.place ++ flat_map (source_lines l.wide) (take l.source-index l.sources)
