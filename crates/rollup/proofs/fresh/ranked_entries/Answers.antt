use Rattle.std.proofs.Common.{◌≡◌, ◌++◌, ◌∷◌, [], List, ℕ, get_or, map, sym, ap, subst, ◌∙◌, arith}
use Rattle.std.specs.Global.{Vec}
use Rattle.std.specs.Prelude.{All}
use Rattle.std.proofs.lemmas.List.{map-append}
use Rattle.std.proofs.lemmas.List.Elements.{All-push}
use Rattle.std.proofs.lemmas.Option.{get_or_from_slice_get}
use Rattle.rollup.specs.declared.fresh.Keyed.{Keyed}
use Rattle.rollup.specs.Order.{IsRanked, rank_in}
use Rattle.rollup.specs.Sizes.{Entry, entry_of, no_entry}
use Rattle.rollup.proofs.Ranks.{range_more}
use Rattle.rollup.proofs.fresh.ranked_entries.Goals as goal

pub loop-entry-preserved : goal.loop-entry-preserved
loop-entry-preserved c =
    let es = c.args.file.sizes.now in
    let i = c.loop-entry.entry in
    let here : get_or es i no_entry ≡ entry_of c.get.result.0.now c.get.result.1 = get_or_from_slice_get es i (entry_of c.get.result.0.now c.get.result.1) no_entry c.get.ensures in
    let one : Keyed (Vec ℕ) = record { key = c.in_ok-key.key; entry = i } in
    let ranked : IsRanked c.args.ranks.now es one = record {
      within = omega (arith, c.len-entry-end.ensures);
      along = c.in_ok-key.ensures ∙ ap (λ (e : Entry). map (rank_in c.args.ranks.now) e.numbers) (sym here);
    } in
    let made = c.in_ok-push.ensures.items in
    record {
      entries = ap (map (λ (r : Keyed (Vec ℕ)). r.entry)) made
          ∙ (map-append (λ (r : Keyed (Vec ℕ)). r.entry) c.loop-entry.ranked.items (one ∷ []) ∙ (ap (λ (l : List ℕ). l ++ i ∷ []) c.loop-entry.invariant.entries ∙ sym (range_more i)));
      ranks = subst (All (IsRanked c.args.ranks.now es)) (sym made) (All-push (IsRanked c.args.ranks.now es) c.loop-entry.ranked.items one c.loop-entry.invariant.ranks ranked);
    }
