use Rattle.size_model.proofs.Places.{place_count-laid}
use Rattle.size_model.proofs.laws.range_adds_two_places.Goals as goal

pub returns : goal.returns
returns c = λ old new range n tidy laid. place_count-laid old new range n laid
