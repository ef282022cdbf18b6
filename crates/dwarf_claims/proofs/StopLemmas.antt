-- Walks that stop at a fault.
use Rattle.std.proofs.Common.{◌≡◌, List, [], ◌∷◌, ◌++◌, ◌∙◌, Result, Ok, Err, ap, sym}
use Rattle.std.proofs.lemmas.List.{append-nil}
use Rattle.std.specs.Result.{IsErrAnd}
use Rattle.size_core.specs.declared.fault.BadFile.{BadFile}
use Rattle.claim_sheet.specs.Sheets.{Sheet, adding_read}
use Rattle.claim_sheet.specs.Read.{read_list}
use Rattle.claim_sheet.specs.Adds.{AddsRead}
use Rattle.claim_sheet.specs.declared.stop.Stop.{Stop}
use Rattle.claim_sheet.specs.declared.stop.Stop.TheVariants.{Bad}
use Rattle.claim_sheet.proofs.LoopLemmas.{bad_read, joined_front}
use Rattle.dwarf_claims.specs.UnitClaims.{Reading}

pub append_none : {A : Type 0} (xs : List A) → xs ++ [] ≡ xs
append_none xs = append-nil xs

-- what a walk returns that stopped at the first of what is left
pub stopped : {X Y : Type 0} (s t u : Sheet) (all left first : Reading) (e : Stop) (q : Result Y Stop) → adding_read t left ≡ adding_read s all → t.pool ≡ s.pool → ((b : BadFile) → first ≡ Err b → left ≡ Err b) → AddsRead {X = X} (Err e) t u first → IsErrAnd q (λ d. d ≡ e)
    → AddsRead q s u all
stopped s t u all left first e (Ok v) rest kept fault adds same = absurd same
stopped s t u all left first e (Err d) rest kept fault adds same = record {
  made = tt;
  bad = λ b is. let stop : e ≡ Bad b = cc in bad_read s all b (sym rest ∙ ap (adding_read t) (fault b (adds.bad b (ap Err stop))));
  kept = adds.kept ∙ kept;
}

pub list_stops : {A X Y : Type 0} (f : A → Reading) (s t u : Sheet) (all : Reading) (x : A) (xs ys : List A) (e : Stop) (q : Result Y Stop) → adding_read t (read_list f ys) ≡ adding_read s all → t.pool ≡ s.pool → ys ≡ x ∷ xs
    → AddsRead {X = X} (Err e) t u (f x) → IsErrAnd q (λ d. d ≡ e) → AddsRead q s u all
unfolding read_list
list_stops f s t u all x xs ys e q rest kept is = stopped s t u all (read_list f ys) (f x) e q rest kept (λ b fault. rw is (joined_front (f x) (read_list f xs) b fault))
