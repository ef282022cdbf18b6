-- Three claims, one after the other.
use Rattle.std.proofs.Common.{◌∙◌}
use Rattle.std.proofs.lemmas.Result.{on_ok_weaker}
use Rattle.claim_sheet.proofs.SheetLemmas.{adding_three}
use Rattle.elf_claims.specs.Claims.{header_claims}
use Rattle.elf_claims.proofs.headers.add_headers.Goals as goal

pub returns : goal.returns
unfolding header_claims
returns c =
    let first = rw (c.in_file.ensures, c.span-header.ensures, c.pick.ensures, c.encoding.ensures) at c.in_ok-add.ensures.adds.made in
    let next = rw c.segment_table_reach.ensures at c.in_ok-add-2.ensures.adds.made in
    let last = rw c.section_table_reach.ensures at c.add-3.ensures.adds.made in
    record {
      made = on_ok_weaker c.add-3.result (adding_three c.args.sheet.now c.add.new.self c.add-2.new.self c.add-3.new.self _ _ _ first next) last;
      kept = c.add-3.ensures.adds.kept ∙ c.add-2.ensures.adds.kept ∙ c.add.ensures.adds.kept;
    }
