-- An opened file has the bytes of the file.
use Rattle.std.proofs.Common.{◌≡◌, ℕ, Bool, true, false, List, Ok, Err, refl}
use Rattle.std.specs.Prelude.{Result, IfOk, if◌then◌else◌}
use Rattle.size_core.specs.declared.fault.BadFile.{BadFile}
use Rattle.size_core.specs.Checks.{◌>>=◌, ◌>>◌, Check, first_of}
use Rattle.elf_file.specs.ElfChecks.{elf_checks}
use Rattle.macho_file.specs.Checks.{macho_checks}
use Rattle.wasm_file.specs.Module.{module_checks}
use Rattle.wasm_file.specs.Records.{under}
use Rattle.data_sources.specs.declared.binary.Binary.{Binary}
use Rattle.data_sources.specs.declared.binary.Binary.TheVariants.{Elf, Macho, Wasm}
use Rattle.data_sources.specs.Groups.{bytes_of}
use Rattle.data_sources.specs.Kind.{is_archive, is_elf, is_macho, is_universal, is_wasm}
use Rattle.data_sources.specs.Opened.{opened}

-- what was opened, if anything, has the bytes of the file
abbrev Shows : List ℕ → Result Binary BadFile → Type 0
Shows file r = IfOk r (λ binary. bytes_of binary ≡ file)

either : (file : List ℕ) (b : Bool) (one other : Result Binary BadFile) → Shows file one → Shows file other → Shows file (if b then one else other)
either file true one other p q = p
either file false one other p q = q

checked : (make : List ℕ → Binary) → ((f : List ℕ) → bytes_of (make f) ≡ f) → (file : List ℕ) (c : Check) → Shows file ((c >> Ok file) >>= λ f. Ok (make f))
checked make shows file (Ok u) = shows file
checked make shows file (Err e) = tt

checked-wasm : (file : List ℕ) (c : Check) → Shows file (under c file >>= λ f. Ok (Wasm f))
checked-wasm file (Ok u) = refl
checked-wasm file (Err e) = tt

shows : (file : List ℕ) → Shows file (opened file)
unfolding opened
shows file =
    either file (is_archive file) _ _ tt
    (either file (is_universal file) _ _ tt
    (either file (is_elf file) _ _ (checked (λ f. Elf f) (λ f. refl) file (first_of (elf_checks file)))
    (either file (is_macho file) _ _ (checked (λ f. Macho f) (λ f. refl) file (first_of (macho_checks file)))
    (either file (is_wasm file) _ _ (checked-wasm file (first_of (module_checks file))) tt))))

pub opened-bytes : (file : List ℕ) (binary : Binary) → opened file ≡ Ok binary → bytes_of binary ≡ file
opened-bytes file binary e = rw e at (shows file)
