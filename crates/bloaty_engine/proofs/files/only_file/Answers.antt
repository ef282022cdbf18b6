-- The only file is the one that the arguments name, or the synthetic one.
use Rattle.std.proofs.Common.{◌≡◌, length, refl, arith}
use Rattle.bloaty_engine.specs.Verdict.{first_name, next_limit}
use Rattle.bloaty_engine.proofs.InputLemmas.{batch-one, files-batch, files-made, first-file}
use Rattle.bloaty_engine.proofs.files.only_file.Goals as goal

pub returns-in-Some : goal.returns-in-Some
returns-in-Some g c = record {
  files = files-made g.F.Files c.args.run.now.limits c.args.run.now.options _ c.made_file.result c.args.files.now c.in-Some.n c.in-Some.is c.made_file.ensures;
  taken = rw c.in-Some.is (λ none. absurd cc);
}

pub returns-in-None : goal.returns-in-None
returns-in-None g c =
    let o = c.args.run.now.options in
    let limits = c.args.run.now.limits in
    let one : length o.files ≡ 1 = rw c.in-None.is at c.requires.one in
    let file = rw (c.first_name.ensures, c.next_limit.ensures) at c.read_file.ensures in
    let batch = batch-one g.F.Files limits 0 0 (next_limit limits 0) (first_name o) c.read_file.result c.args.files.now c.read_file.new.files (omega arith) refl file in
    record {
      files = files-batch g.F.Files limits o _ c.read_file.result c.args.files.now c.read_file.new.files c.in-None.is (rw (first-file o c.in-None.is one) batch);
      taken = λ none. file.taken;
    }
