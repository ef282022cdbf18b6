use Rattle.range_map.proofs.Places.{length-laid}
use Rattle.range_map.proofs.Segments.{EndsBy-laid, EndsBy-claims}
use Rattle.range_map.proofs.range_map.RangeMap.build.Goals as goal

pub pieces_of-requires-clause-fits : goal.pieces_of-requires-clause-fits
pieces_of-requires-clause-fits c = EndsBy-claims c.args.claims.now c.requires

pub invariant_of-result : goal.invariant_of-result
invariant_of-result c = record {
  tidy = c.in_ok-pieces.ensures.tidy;
  fits = EndsBy-laid _ c.args.claims.now _ (EndsBy-claims c.args.claims.now c.requires) c.in_ok-pieces.ensures;
}

pub returns-clause-few : goal.returns-clause-few
returns-clause-few c = length-laid _ _ c.in_ok-pieces.ensures
