-- Each line is that of its outcome.
use Rattle.run_outcome.proofs.line.tell.Goals as goal

pub returns-in-Config-clause-writes : goal.returns-in-Config-clause-writes
returns-in-Config-clause-writes g c = rw c.in-Config.is (rw (c.file_name.ensures, c.config_fault.ensures) at c.tell_fault.ensures.writes)

pub returns-in-UnknownSource-clause-writes : goal.returns-in-UnknownSource-clause-writes
returns-in-UnknownSource-clause-writes g c = rw c.in-UnknownSource.is (rw c.source_name.ensures at c.write_pieces.ensures.writes)

pub returns-in-PatternSyntax-clause-writes : goal.returns-in-PatternSyntax-clause-writes
returns-in-PatternSyntax-clause-writes g c = rw c.in-PatternSyntax.is c.tell_pattern.ensures.writes

pub returns-in-PatternTooBig-clause-writes : goal.returns-in-PatternTooBig-clause-writes
returns-in-PatternTooBig-clause-writes g c = rw c.in-PatternTooBig.is c.tell_pattern-in-PatternTooBig.ensures.writes

pub returns-in-MappedTooLarge-clause-writes : goal.returns-in-MappedTooLarge-clause-writes
returns-in-MappedTooLarge-clause-writes g c = rw c.in-MappedTooLarge.is c.write_pieces-in-MappedTooLarge.ensures.writes

pub returns-in-WriteFailed-clause-writes : goal.returns-in-WriteFailed-clause-writes
returns-in-WriteFailed-clause-writes g c = rw c.in-WriteFailed.is c.write_pieces-in-WriteFailed.ensures.writes

pub returns-in-PlaceOutside-clause-writes : goal.returns-in-PlaceOutside-clause-writes
returns-in-PlaceOutside-clause-writes g c = rw c.in-PlaceOutside.is c.write_pieces-in-PlaceOutside.ensures.writes
