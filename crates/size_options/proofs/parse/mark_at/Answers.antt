use Rattle.std.proofs.Common.{rules, tests, ◌≡◌, ◌∙◌, string_bytes, unwrap_or, position, length}
use Rattle.std.proofs.lemmas.Iterator.{YieldsList-from_slice}
use Rattle.std.proofs.lemmas.Iterator.Search.{position_from_yields_List}
use Rattle.size_options.specs.Words.{is_mark}
use Rattle.size_options.proofs.UsageLemmas.{mark_is, mark_within}
use Rattle.size_options.proofs.parse.mark_at.Goals as goal

pub returns : goal.returns
returns c =
    let words = c.args.words.now in
    let found = position_from_yields_List (λ w. is_mark (string_bytes w)) _ _ c.position.result c.position.ensures.ran (YieldsList-from_slice words cc) (λ x b q k. search (rules, tests)) in
    let gives : c.unwrap_or.result ≡ unwrap_or (position (λ w. is_mark (string_bytes w)) words) (length words) = search rules in
    let at = gives ∙ mark_is string_bytes words in
    record { at = at; within = rw at (mark_within string_bytes words) }
