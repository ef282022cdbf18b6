use Rattle.outside.proofs.GivenLemmas.{zip-push}
use Rattle.outside.proofs.given.Given.add.Goals as goal

pub returns : goal.returns
returns c =
    rw (← c.self.view_is, c.add.ensures, c.add-2.ensures, c.as_bytes.ensures.value)
    (zip-push c.self.inside.names.items c.self.inside.bytes.items c.args.name.now c.args.bytes.now c.self.invariant)
