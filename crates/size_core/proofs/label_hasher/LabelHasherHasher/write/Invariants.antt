-- The hasher has taken the bytes up to the index.
use Rattle.std.proofs.Common.{◌≡◌, take}
use Rattle.std.specs.List.{fold}
use Rattle.size_core.specs.LabelHash.{add_byte}
use Rattle.size_core.proofs.label_hasher.LabelHasherHasher.write.Given as goal

abbrev pub invariant-loop-byte : goal.invariant-loop-byte
invariant-loop-byte l = l.self ≡ fold add_byte l.fn.self (take l.byte-index l.bytes)
