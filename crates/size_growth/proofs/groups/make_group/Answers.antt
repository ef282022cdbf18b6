use Rattle.std.proofs.Common.{◌≡◌, ◌<◌, ◌+◌, ◌-◌, ◌∙◌, List, refl, ap, sym, subst, length, take, drop, arith}
use Rattle.std.specs.Prelude.{All}
use Rattle.std.proofs.lemmas.List.{take_rest, length-drop}
use Rattle.std.proofs.lemmas.List.Elements.{All-drop}
use Rattle.size_growth.specs.declared.growth.GrowthPath.{GrowthPath}
use Rattle.size_growth.proofs.ListLemmas.{deep-at}
use Rattle.size_growth.proofs.RunLemmas.{run-is}
use Rattle.size_growth.proofs.SumLemmas.{fits_part}
use Rattle.size_growth.proofs.groups.make_group.Goals as goal

pub run_len-requires-clause-deep : goal.run_len-requires-clause-deep
run_len-requires-clause-deep c =
    let D : GrowthPath → Type 0 = λ p. c.args.level < length p.path in
    subst (All D) (sym (take_rest c.args.paths.now c.args.from)) (All-drop D c.args.from c.args.paths.now (deep-at c.args.levels.depth c.args.level c.args.paths.now c.requires.part c.requires.below))

pub sums-sizes-requires : goal.sums-sizes-requires
sums-sizes-requires c = fits_part (λ (p : GrowthPath). p.sizes) c.args.paths.now c.args.from (c.args.from + c.run_len.result - c.args.from) c.requires.part.fits

pub returns-clause-group : goal.returns-clause-group
returns-clause-group c =
    let ran = c.run_len.ensures in
    let rest = take (length c.args.paths.now - c.args.from) (drop c.args.from c.args.paths.now) in
    let long : length rest ≡ length c.args.paths.now - c.args.from = ap (λ (xs : List GrowthPath). length xs) (take_rest c.args.paths.now c.args.from) ∙ length-drop c.args.from c.args.paths.now in
    record {
      some = omega (arith, ran.some);
      within = omega (arith, ran.within, long, c.requires.inside);
      key = c.growth_key.ensures;
      kind = refl;
      sizes = c.sums-sizes.ensures;
    }

pub returns-clause-run : goal.returns-clause-run
returns-clause-run c =
    let ran = c.run_len.ensures in
    run-is c.args.level c.args.paths.now c.args.from c.run_len.result ran.some ran.same ran.next
