-- The claims are those of the built-in source, and their labels have new numbers.
use Rattle.std.proofs.Common.{◌≡◌, ◌<◌, ℕ, List, length, map, get_or, ap, ◌∙◌, arith}
use Rattle.std.proofs.lemmas.List.{length-map}
use Rattle.custom_rewrites.specs.Rewriting.{rewritten}
use Rattle.size_model.specs.Sizes.{with_rewriting}
use Rattle.file_profile.specs.Numbering.{renumbered}
use Rattle.file_profile.proofs.ClaimLemmas.{yields-made}
use Rattle.file_profile.proofs.LabelLemmas.{plain-view, renumbered-all, renumbered-view, renumbered-within}
use Rattle.file_profile.proofs.ListLemmas.{same-get}
use Rattle.file_profile.proofs.claims.claims_of_source.Goals as goal

pub returns : goal.returns
returns c =
    let expected = c.in_ok-made.ensures.yields.made in
    let f : List ℕ → List ℕ = (λ label. rewritten label c.in-Some.rewrites.now) in
    let labels = c.claims_by-2.new.pool in
    let pool = c.rewritten_numbers.new.pool in
    let numbers = c.in_ok-numbers.numbers.items in
    let is = c.in_ok-numbers.ensures.numbers in
    let base = c.in_ok-made.made in
    let claims : c.renumber.new.claims.items ≡ map (renumbered numbers) base.claims.items = rw c.deref.ensures.value at c.renumber.ensures in
    let lt : base.unmapped < length labels = expected.shown.unmapped in
    let number : get_or numbers base.unmapped 0 ≡ c.index.result.now = same-get numbers base.unmapped c.index.result.now 0 (omega (arith, is.count, lt)) c.index.ensures in
    record {
      yields = yields-made (record {
        made = expected.made;
        are = expected.are;
        shown = record {
          count = rw claims (length-map base.claims.items (renumbered numbers) ∙ expected.shown.count);
          numbered = rw claims (renumbered-all f labels pool numbers is base.claims.items expected.shown.numbered);
          unmapped = rw (← number) (renumbered-within f labels pool numbers is base.unmapped lt);
          view = rw (claims, ← number, c.in-Some.is) (renumbered-view f labels pool numbers is base.claims.items base.unmapped expected.shown.numbered lt
              ∙ ap (with_rewriting f) (expected.shown.view ∙ plain-view c.args.chosen.now.base expected.made));
        };
      });
      kept = c.in_ok-numbers.ensures.kept;
    }
