-- The next section doesn't have the name.
use Rattle.std.proofs.Common.{◌∙◌, List, sym}
use Rattle.std.proofs.lemmas.List.Elements.{All-rest}
use Rattle.macho_file.specs.Shown.{section_shown}
use Rattle.macho_file.specs.Tables.{SectionRecord}
use Rattle.macho_file.specs.WellFormed.{Fits}
use Rattle.macho_claims.proofs.DebugLemmas.{found_later}
use Rattle.macho_claims.proofs.dwarf_sections.window_named.Goals as goal

pub loop-section-preserved : goal.loop-section-preserved
loop-section-preserved c =
    let next = section_shown c.in-Some.section in
    let rest : List SectionRecord = c.next.new.self in record {
      rest = sym (found_later c.args.file.now c.args.name.now c.loop-section.section-iterator next rest c.in-Some.ensures.steps (sym c.is_debug.ensures ∙ c.if-is_debug.false)) ∙ c.loop-section.invariant.rest;
      fit = All-rest (Fits c.args.file.now) next rest c.loop-section.section-iterator c.in-Some.ensures.steps c.loop-section.invariant.fit;
    }
