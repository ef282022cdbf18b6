-- A symbol has the fault of its name, and the labels that were read stay known.
use Rattle.std.proofs.Common.{◌≡◌, ℕ, List, Err, refl}
use Rattle.size_core.specs.declared.fault.BadFile.{BadFile}
use Rattle.size_model.specs.declared.view.LabelledClaim.{LabelledClaim}
use Rattle.claim_sheet.specs.Known.{IsKnown}
use Rattle.claim_sheet.specs.Sheets.{Sheet, adding}
use Rattle.elf_symbols.specs.Names.{symbol_name}
use Rattle.elf_symbols.specs.Symbols.{symbol_at}
use Rattle.claim_sheet.proofs.LongNameLemmas.{known_after}
use Rattle.elf_claims.specs.declared.symbol_names.SymbolNames.{SymbolNames}
use Rattle.elf_claims.specs.KnownSymbols.{AreLabelsOn, AreNamed, AreNamesOf}
use Rattle.elf_claims.specs.SymbolClaims.{symbol_claim}

pub symbol_bad : (file : List ℕ) (i k : ℕ) (b : BadFile) → symbol_name file i k ≡ Err b → symbol_claim file i k ≡ Err b
unfolding symbol_claim symbol_at
symbol_bad file i k b e = rw e refl

-- a claim under the last label
pub named_after : (file : List ℕ) (s t : Sheet) (xs : List LabelledClaim) (old new : SymbolNames) → t ≡ adding s xs → new.name ≡ old.name → new.place ≡ old.place → new.long ≡ old.long
    → new.label.text.now ≡ old.label.text.now → IsKnown t.made new.label → AreNamesOf file old → AreLabelsOn s.made old → AreNamed file t.made new
named_after file s t xs old new e name place long text last are known = record {
  are = record {
    last = rw (name, text) are.last;
    place = rw (place, text) are.place;
    long = rw long are.long;
    of_file = rw long are.of_file;
  };
  known = record {
    last = last;
    long = rw long (known_after s t xs old.long e known.long);
  };
}
