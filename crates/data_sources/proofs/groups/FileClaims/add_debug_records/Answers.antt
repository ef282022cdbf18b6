-- A source over the parts of the file has no claims.
use Rattle.std.proofs.Common.{rules}
use Rattle.claim_sheet.proofs.SheetLemmas.{adding_none}
use Rattle.data_sources.proofs.groups.FileClaims.add_debug_records.Goals as goal

pub returns-in-Segments : goal.returns-in-Segments
returns-in-Segments c = search (rules, adding_none)
