-- The symbols that a loop collects.
use Rattle.std.proofs.Common.{◌≡◌, ℕ, suc, ◌+◌, ◌-◌, ◌<◌, ◌≤◌, Bool, true, false, List, [], ◌∷◌, ◌++◌, length, Result, Ok, Err, refl, sym, ap, ◌∙◌, arith, append_assoc, length-append, if◌then◌else◌}
use Rattle.std.specs.List.{filter}
use Rattle.std.proofs.lemmas.List.{append-nil}
use Rattle.size_core.specs.declared.fault.BadFile.{BadFile}
use Rattle.size_core.specs.Checks.{◌>>=◌}
use Rattle.macho_symbols.specs.declared.answer.SpanAnswer.{SpanAnswer}
use Rattle.macho_symbols.specs.declared.answer.SpanAnswer.TheVariants.{Bad, NoMemory}
use Rattle.macho_symbols.specs.declared.extent.Extent.{Extent}
use Rattle.macho_symbols.specs.declared.symbol_table.SymbolTable.{SymbolTable}
use Rattle.macho_symbols.specs.Symbols.{SymbolRecord, symbol_of}
use Rattle.macho_symbols.specs.Spans.{symbols_from, takes_part}
use Rattle.macho_symbols.specs.Taken.{ForBad, prepend, taken_from}

filter_one : (p : SymbolRecord → Bool) (s : SymbolRecord) (rest : List SymbolRecord) (b : Bool) → p s ≡ b
    → filter p (s ∷ rest) ≡ (if b then s ∷ [] else []) ++ filter p rest
filter_one p s rest true is = rw is refl
filter_one p s rest false is = rw is refl

prepend_both : (front more : List SymbolRecord) (reading : Result (List SymbolRecord) BadFile) → prepend front (prepend more reading) ≡ prepend (front ++ more) reading
unfolding prepend
prepend_both front more (Ok rest) = ap Ok (sym (append_assoc front more rest))
prepend_both front more (Err e) = refl

read_one : (p : SymbolRecord → Bool) (s : SymbolRecord) (reading : Result (List SymbolRecord) BadFile)
    → ((reading >>= (λ rest. Ok (s ∷ rest))) >>= (λ read. Ok (filter p read))) ≡ prepend (if p s then s ∷ [] else []) (reading >>= (λ read. Ok (filter p read)))
unfolding prepend
read_one p s (Ok rest) = ap Ok (filter_one p s rest (p s) refl)
read_one p s (Err e) = refl

-- A symbol that was read, and those after it.
taken_step : (file : List ℕ) (t : SymbolTable) (all : List Extent) (k n : ℕ) (s : SymbolRecord) → symbol_of file t k ≡ Ok s
    → taken_from file t all k (suc n) ≡ prepend (if takes_part all s then s ∷ [] else []) (taken_from file t all (k + 1) n)
unfolding taken_from symbols_from
taken_step file t all k n s is = rw is (read_one (takes_part all) s (symbols_from file t (k + 1) n))

pub taken_next : (file : List ℕ) (t : SymbolTable) (all : List Extent) (front new : List SymbolRecord) (k n : ℕ) (s : SymbolRecord) → k < n → symbol_of file t k ≡ Ok s
    → new ≡ front ++ (if takes_part all s then s ∷ [] else []) → prepend front (taken_from file t all k (n - k)) ≡ prepend new (taken_from file t all (k + 1) (n - (k + 1)))
taken_next file t all front new k n s lt is made =
    let m : n - k ≡ suc (n - (k + 1)) = omega arith in
    let one : taken_from file t all k (n - k) ≡ prepend (if takes_part all s then s ∷ [] else []) (taken_from file t all (k + 1) (n - (k + 1))) = rw m (taken_step file t all k (n - (k + 1)) s is) in
    rw (one, made) (prepend_both front (if takes_part all s then s ∷ [] else []) (taken_from file t all (k + 1) (n - (k + 1))))

pub taken_bad : (file : List ℕ) (t : SymbolTable) (all : List Extent) (front : List SymbolRecord) (k n : ℕ) (e : BadFile) → k < n → symbol_of file t k ≡ Err e
    → prepend front (taken_from file t all k (n - k)) ≡ Err e
unfolding prepend taken_from symbols_from
taken_bad file t all front k n e lt is = let m : n - k ≡ suc (n - (k + 1)) = omega arith in rw (m, is) refl

-- The fault of a symbol is that of the symbols from it on.
pub taken_for_bad : (file : List ℕ) (t : SymbolTable) (all : List Extent) (front : List SymbolRecord) (k n : ℕ) (whole : Result (List SymbolRecord) BadFile) (e : SpanAnswer) → k < n
    → prepend front (taken_from file t all k (n - k)) ≡ whole → ForBad e (λ bad. symbol_of file t k ≡ Err bad) → ForBad e (λ bad. whole ≡ Err bad)
taken_for_bad file t all front k n whole (Bad bad) lt same is = sym same ∙ taken_bad file t all front k n bad lt is
taken_for_bad file t all front k n whole NoMemory lt same is = tt

pub taken_end : (file : List ℕ) (t : SymbolTable) (all : List Extent) (front : List SymbolRecord) (k n : ℕ) → n ≤ k → prepend front (taken_from file t all k (n - k)) ≡ Ok front
unfolding prepend taken_from symbols_from
taken_end file t all front k n le = let m : n - k ≡ 0 = omega arith in rw m (ap Ok (append-nil front))

-- A loop starts with no symbols.
pub taken_none : (reading : Result (List SymbolRecord) BadFile) → prepend [] reading ≡ reading
unfolding prepend
taken_none (Ok rest) = refl
taken_none (Err e) = refl

one_at_most : (s : SymbolRecord) (b : Bool) → length (if b then s ∷ [] else []) ≤ 1
one_at_most s true = omega arith
one_at_most s false = omega arith

pub few_more : (all : List Extent) (front new : List SymbolRecord) (s : SymbolRecord) → new ≡ front ++ (if takes_part all s then s ∷ [] else []) → length new ≤ length front + 1
few_more all front new s made = rw (made, length-append) (omega (arith, one_at_most s (takes_part all s)))
