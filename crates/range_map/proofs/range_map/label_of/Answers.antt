use Rattle.std.proofs.Common.{◌-◌, ◌^◌, rules, arith, leb, ◌∙◌, sym}
use Rattle.std.proofs.lemmas.List.Sorted.{IsPartitionPoint-from_clause, IsPartitionedBy-leb}
use Rattle.size_model.specs.declared.piece.Piece.{Piece}
use Rattle.range_map.specs.Sweep.{no_piece}
use Rattle.range_map.proofs.LookUp.{StartsBy, starts_rise, label_before_all, label_by_last}
use Rattle.range_map.proofs.Pieces.{EndsBy-get}
use Rattle.range_map.proofs.range_map.label_of.Goals as goal

pub returns-then-after-eq0 : goal.returns-then-after-eq0
returns-then-after-eq0 c =
    let point : StartsBy c.args.x c.args.pieces.now c.partition_point-after.result =
    IsPartitionPoint-from_clause (λ (p : Piece). leb p.start c.args.x) c.args.pieces.now c.partition_point-after.result c.partition_point-after.ensures.partitioned (IsPartitionedBy-leb (λ (p : Piece). p.start) c.args.pieces.now c.args.x (starts_rise c.args.pieces.now c.requires.tidy)) (λ a r f k. search rules) in
    sym (label_before_all c.args.pieces.now c.args.x (rw c.if-after-eq0.true at point))

pub overflow_add-piece : goal.overflow_add-piece
overflow_add-piece c =
    let h = EndsBy-get c.args.pieces.now (2 ^ 97) (c.partition_point-after.result - 1) no_piece c.requires.fits (let b = c.partition_point-after.ensures.bound in let z = c.if-after-eq0.false in omega arith) in
    omega arith

pub returns : goal.returns
returns c =
    let point : StartsBy c.args.x c.args.pieces.now c.partition_point-after.result =
    IsPartitionPoint-from_clause (λ (p : Piece). leb p.start c.args.x) c.args.pieces.now c.partition_point-after.result c.partition_point-after.ensures.partitioned (IsPartitionedBy-leb (λ (p : Piece). p.start) c.args.pieces.now c.args.x (starts_rise c.args.pieces.now c.requires.tidy)) (λ a r f k. search rules) in
    c.then_some.ensures ∙ sym (label_by_last c.args.pieces.now c.args.x c.partition_point-after.result c.requires.tidy point c.partition_point-after.ensures.bound (let z = c.if-after-eq0.false in omega arith))
