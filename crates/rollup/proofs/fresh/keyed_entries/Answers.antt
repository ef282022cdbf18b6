use Rattle.std.proofs.Common.{◌≡◌, ◌<◌, ◌++◌, ◌∷◌, [], List, ℕ, get_or, length, map, refl, sym, ap, subst, ◌∙◌, arith}
use Rattle.std.specs.Prelude.{All}
use Rattle.std.proofs.lemmas.List.{map-append}
use Rattle.std.proofs.lemmas.List.Elements.{All-push}
use Rattle.std.proofs.lemmas.Option.{get_or_from_slice_get}
use Rattle.rollup.specs.declared.fresh.Keyed.{Keyed}
use Rattle.rollup.specs.Order.{IsKeyed, digits_after, rank_in}
use Rattle.rollup.specs.Sizes.{Entry, entry_of, no_entry}
use Rattle.rollup.proofs.Ranks.{range_more}
use Rattle.rollup.proofs.fresh.keyed_entries.Goals as goal

pub loop-entry-preserved : goal.loop-entry-preserved
loop-entry-preserved c =
    let es = c.args.file.sizes.now in
    let ranks = c.args.ranks.now in
    let i = c.loop-entry.entry in
    let here : get_or es i no_entry ≡ entry_of c.get.result.0.now c.get.result.1 = get_or_from_slice_get es i (entry_of c.get.result.0.now c.get.result.1) no_entry c.get.ensures in
    let numbers : (get_or es i no_entry).numbers ≡ c.get.result.0.now = ap (λ (e : Entry). e.numbers) here in
    let one : Keyed ℕ = record { key = c.in-Some.key; entry = i } in
    let keyed : IsKeyed ranks c.args.depth es one = record {
      within = omega (arith, c.len-entry-end.ensures);
      deep = ap length numbers ∙ c.if-numbers-depth.false;
      below = subst (λ ns. All (λ r. r < length ranks) (map (rank_in ranks) ns)) (sym numbers) (c.in-Some.ensures.below c.in-Some.key refl);
      key = c.in-Some.ensures.digits c.in-Some.key refl ∙ ap (λ ns. digits_after (length ranks) 0 (map (rank_in ranks) ns)) (sym numbers);
    } in
    let made = c.in_ok-push.ensures.items in
    record {
      entries = ap (map (λ (k : Keyed ℕ). k.entry)) made
          ∙ (map-append (λ (k : Keyed ℕ). k.entry) c.loop-entry.keyed.items (one ∷ []) ∙ (ap (λ (l : List ℕ). l ++ i ∷ []) c.loop-entry.invariant.entries ∙ sym (range_more i)));
      keys = subst (All (IsKeyed ranks c.args.depth es)) (sym made) (All-push (IsKeyed ranks c.args.depth es) c.loop-entry.keyed.items one c.loop-entry.invariant.keys keyed);
    }
