-- An entry that claims nothing with any base.
use Rattle.std.proofs.Common.{◌-◌, refl}
use Rattle.dwarf_ranges.specs.Entries.{item_of}
use Rattle.dwarf_ranges.proofs.HollowLemmas.{given_offsets, given_range}
use Rattle.dwarf_ranges.proofs.hollow.after_entry.Goals as goal

pub returns-in-EndOfList : goal.returns-in-EndOfList
unfolding item_of
returns-in-EndOfList c = λ s table place base. rw c.in-EndOfList.is refl

pub returns-in-BaseAddress : goal.returns-in-BaseAddress
unfolding item_of
returns-in-BaseAddress c = λ s table place base. rw c.in-BaseAddress.is refl

pub returns-in-OffsetPair : goal.returns-in-OffsetPair
unfolding item_of
returns-in-OffsetPair c = λ s table place base. rw c.in-OffsetPair.is (given_offsets c.args.shape.now.address base c.in-OffsetPair.begin c.in-OffsetPair.end c.then_some.result c.then_some.ensures)

pub returns-in-StartEnd : goal.returns-in-StartEnd
unfolding item_of
returns-in-StartEnd c = λ s table place base.
    rw c.in-StartEnd.is (given_range c.args.shape.now.address c.in-StartEnd.start (c.in-StartEnd.end - c.in-StartEnd.start) c.then_some-in-StartEnd.result (rw (c.claims_nothing.ensures, c.saturating_sub.ensures) at c.then_some-in-StartEnd.ensures))

pub returns-in-StartLength : goal.returns-in-StartLength
unfolding item_of
returns-in-StartLength c = λ s table place base.
    rw c.in-StartLength.is (given_range c.args.shape.now.address c.in-StartLength.start c.in-StartLength.len c.then_some-in-StartLength.result (rw c.claims_nothing-in-StartLength.ensures at c.then_some-in-StartLength.ensures))
