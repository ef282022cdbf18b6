-- The binary search finds the unit of the offset.
use Rattle.std.proofs.Common.{sym, rules, Ok, Err}
use Rattle.std.proofs.lemmas.List.Sorted.{answers_always}
use Rattle.dwarf_claims.specs.declared.known.KnownUnit.{KnownUnit}
use Rattle.dwarf_claims.proofs.Ascending.{searched}
use Rattle.dwarf_claims.proofs.known.label_at.Goals as goal

pub returns-in-Ok-clause-label : goal.returns-in-Ok-clause-label
returns-in-Ok-clause-label c =
    sym (searched c.args.units.now c.requires c.args.offset (Ok c.in-Ok.i) c.in-Ok.ensures.bound
    (c.in-Ok.ensures.position (λ (u : KnownUnit). u.offset) (answers_always _ _ _ (λ f a r q called. search rules))) _)

pub returns-in-Err-clause-label : goal.returns-in-Err-clause-label
returns-in-Err-clause-label c =
    sym (searched c.args.units.now c.requires c.args.offset (Err c.in-Err.field-0) c.in-Err.ensures.bound
    (c.in-Err.ensures.position (λ (u : KnownUnit). u.offset) (answers_always _ _ _ (λ f a r q called. search rules))))
