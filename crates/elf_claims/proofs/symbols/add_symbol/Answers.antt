-- The labels are known after the claim of the symbol if they were known before.
use Rattle.std.proofs.Common.{List, ℕ, refl, subst}
use Rattle.elf_claims.specs.KnownSymbols.{AreNamesOf}
use Rattle.elf_claims.proofs.SymbolLemmas.{named_after}
use Rattle.elf_claims.proofs.symbols.add_symbol.Goals as goal

pub add_reach-requires : goal.add_reach-requires
add_reach-requires c = (c.in_ok-read.ensures.known c.args.sheet.now.made c.requires.names.known).last

pub returns-clause-names : goal.returns-clause-names
returns-clause-names c =
    let are = subst (λ (file : List ℕ). AreNamesOf file c.read.new.self) c.requires.file c.in_ok-read.ensures.names in
    named_after c.args.file.now c.args.sheet.now c.add_reach.new.sheet _ c.read.new.self _ c.in_ok-add_reach.ensures.adds.made refl refl refl c.in_ok-add_reach.ensures.text c.in_ok-add_reach.ensures.known
    are (c.in_ok-read.ensures.known c.args.sheet.now.made c.requires.names.known)
