use Rattle.std.proofs.Common.{◌≡◌, ◌+◌, ◌<◌, take, refl, sym, ap, ◌∙◌, arith, option_map}
use Rattle.std.proofs.lemmas.Option.{same_Some}
use Rattle.size_model.specs.Count.{count_from}
use Rattle.size_model.specs.Plain.{first_mapped_size}
use Rattle.size_model.specs.Sizes.{counts_for}
use Rattle.size_model.proofs.Counts.{count-zero, byte_fits, byte_more}
use Rattle.size_model.proofs.Memory.{counts_at, counts_at-address, start_of, addresses_of, first_mapped_size-window}
use Rattle.size_model.proofs.counting.size_of_load.Goals as goal

pub loop-distance-init : goal.loop-distance-init
loop-distance-init g c =
    sym (count-zero (counts_at (counts_for (option_map (λ t. g.T.LabelTest.holds t.now) c.args.filter) c.args.prefix.now) c.args.file.now (take c.args.i c.args.file.now.loads) c.get-load.result.now) (start_of c.get-load.result.now))

pub overflow_add-size : goal.overflow_add-size
overflow_add-size g c =
    omega (arith, c.min-addresses.ensures, byte_fits (counts_at (counts_for (option_map (λ t. g.T.LabelTest.holds t.now) c.args.filter) c.args.prefix.now) c.args.file.now (take c.args.i c.args.file.now.loads) c.get-load.result.now) (start_of c.get-load.result.now) c.loop-distance.distance c.loop-distance.size c.in_ok-size.field-0 c.loop-distance.invariant)

pub loop-distance-preserved : goal.loop-distance-preserved
loop-distance-preserved g c =
    let inside : c.loop-distance.distance < addresses_of c.get-load.result.now = omega (arith, c.min-addresses.ensures) in
    byte_more (counts_at (counts_for (option_map (λ t. g.T.LabelTest.holds t.now) c.args.filter) c.args.prefix.now) c.args.file.now (take c.args.i c.args.file.now.loads) c.get-load.result.now) (start_of c.get-load.result.now) c.loop-distance.distance (start_of c.get-load.result.now + c.loop-distance.distance) c.loop-distance.size c.in_ok-size.field-0 c.loop-distance.invariant refl
    (c.in_ok-size.ensures ∙ sym (counts_at-address (counts_for (option_map (λ t. g.T.LabelTest.holds t.now) c.args.filter) c.args.prefix.now) c.args.file.now (take c.args.i c.args.file.now.loads) c.get-load.result.now c.loop-distance.distance inside))

pub returns : goal.returns
returns g c = λ load e.
    let loads = take c.args.i c.args.file.now.loads in
    let same : c.get-load.result.now ≡ load = same_Some _ _ (sym c.get-load.ensures ∙ e) in
    let all : c.loop-distance.distance ≡ addresses_of c.get-load.result.now = omega (arith, c.min-addresses.ensures) in
    c.loop-distance.invariant
    ∙ (ap (count_from (counts_at (counts_for (option_map (λ t. g.T.LabelTest.holds t.now) c.args.filter) c.args.prefix.now) c.args.file.now loads c.get-load.result.now) (start_of c.get-load.result.now)) all
    ∙ (sym (first_mapped_size-window (counts_for (option_map (λ t. g.T.LabelTest.holds t.now) c.args.filter) c.args.prefix.now) c.args.file.now loads c.get-load.result.now (omega arith) (omega arith))
    ∙ ap (first_mapped_size (counts_for (option_map (λ t. g.T.LabelTest.holds t.now) c.args.filter) c.args.prefix.now) c.args.file.now loads) same))
