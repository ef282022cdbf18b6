-- No label is known before the first symbol.
use Rattle.elf_claims.proofs.known_symbols.KnownSymbols.of.Goals as goal

pub returns : goal.returns
returns c = λ made. record { numbers = c.in_ok-numbers.ensures; names = c.of-names.ensures made }
