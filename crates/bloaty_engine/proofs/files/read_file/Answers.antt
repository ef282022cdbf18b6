-- A read that returned no bytes. The name has some bytes all the same.
use Rattle.std.proofs.Common.{refl, sym}
use Rattle.run_outcome.specs.declared.outcome.Outcome.TheVariants.{ReadFailed, TooLong, NoMemory}
use Rattle.bloaty_engine.proofs.HeldLemmas.{held-long, held-some}
use Rattle.bloaty_engine.proofs.StepLemmas.{read-fails}
use Rattle.bloaty_engine.proofs.TakenLemmas.{at-least-longer}
use Rattle.bloaty_engine.proofs.files.read_file.Goals as goal

pub returns-in-Err-Failed : goal.returns-in-Err-Failed
returns-in-Err-Failed g c =
    let read = c.read.ensures in
    let fails = rw c.in-Err-Failed.field-0-is at c.in-Err-Failed.ensures in
    let h = held-some (g.F.Files.held c.args.files.now) c.args.name.now in
    read-fails g.F.Files {number = c.args.number} {limit = c.args.limit} {name = c.args.name.now} {end = (ReadFailed c.args.number)} {s = c.args.files.now} {t = c.read.new.self} h.0 h.1 refl fails.ungiven read.asked read.held read.later read.more read.most
    (λ i e. (fails.failed refl, fails.told refl)) (λ e. absurd cc) (λ i e. absurd cc) (λ i late e. (sym e.0, e.1))

pub returns-in-Err-TooLong : goal.returns-in-Err-TooLong
returns-in-Err-TooLong g c =
    let read = c.read.ensures in
    let fails = rw c.in-Err-TooLong.field-0-is at c.in-Err-TooLong.ensures in
    let h = held-long (g.F.Files.held c.args.files.now) c.args.name.now c.args.limit _ _ (fails.too_long refl) in
    read-fails g.F.Files {number = c.args.number} {limit = c.args.limit} {name = c.args.name.now} {end = (TooLong c.args.number)} {s = c.args.files.now} {t = c.read.new.self} h.0 h.1.0 (refl, h.1.1) fails.ungiven read.asked read.held read.later read.more read.most
    (λ i e. absurd cc) (λ e. fails.uncounted (λ q. cc)) (λ i e. at-least-longer (g.F.Files.held c.args.files.now) c.args.name.now c.args.limit _ _ (fails.too_long refl)) (λ i late e. (sym e.0, e.1))

pub returns-in-Err-NoMemory : goal.returns-in-Err-NoMemory
returns-in-Err-NoMemory g c =
    let read = c.read.ensures in
    let fails = rw c.in-Err-NoMemory.field-0-is at c.in-Err-NoMemory.ensures in
    let h = held-some (g.F.Files.held c.args.files.now) c.args.name.now in
    read-fails g.F.Files {number = c.args.number} {limit = c.args.limit} {name = c.args.name.now} {end = NoMemory} {s = c.args.files.now} {t = c.read.new.self} h.0 h.1 tt fails.ungiven read.asked read.held read.later read.more read.most
    (λ i e. absurd cc) (λ e. fails.uncounted (λ q. cc)) (λ i e. absurd cc) (λ i late e. absurd e)
