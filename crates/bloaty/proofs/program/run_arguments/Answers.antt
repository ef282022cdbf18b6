-- The run is that of the whole call.
use Rattle.bloaty.proofs.program.run_arguments.Goals as goal

pub returns : goal.returns
returns g c = record {
  outcome = c.bloaty-outcome.result;
  is = c.status.ensures;
  run = c.bloaty-outcome.ensures.run;
  arguments = c.bloaty-outcome.ensures.words;
  reads = c.bloaty-outcome.ensures.files;
  patterns = c.bloaty-outcome.ensures.patterns;
  writes = c.bloaty-outcome.ensures.out;
  line = c.bloaty-outcome.ensures.err;
}
