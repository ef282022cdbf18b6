-- With a debug file, the counted content is that of the file.
use Rattle.std.proofs.Common.{◌≡◌, ℕ, ◌+◌, ◌-◌, ◌^◌, Bool, true, false, cond, nat_lt, List, length, Result, Ok, Err, refl, ap, ◌∙◌}
use Rattle.size_model.specs.declared.view.FileView.{FileView}
use Rattle.size_model.specs.declared.view.SourceView.{SourceView}
use Rattle.size_model.specs.Loads.{mapped_count}
use Rattle.data_sources.specs.declared.binary.Binary.{Binary}
use Rattle.data_sources.specs.Groups.{bytes_of}
use Rattle.data_sources.specs.Loads.{loads_of}
use Rattle.data_sources.specs.Opened.{opened}
use Rattle.data_sources.proofs.OpenedLemmas.{opened-bytes}
use Rattle.file_profile.specs.declared.answer.OpenedAnswer.{OpenedAnswer}
use Rattle.file_profile.specs.declared.answer.OpenedAnswer.TheVariants.{MappedTooLarge}
use Rattle.file_profile.specs.declared.answer.SourceAnswer.{SourceAnswer}
use Rattle.file_profile.specs.declared.answer.PairAnswer.{PairAnswer}
use Rattle.file_profile.specs.declared.answer.PairAnswer.TheVariants.{Bad, NoMatch}
use Rattle.file_profile.specs.declared.answer.PairFile.TheVariants.{Own, Debug}
use Rattle.file_profile.specs.Claims.{OpenedFile}
use Rattle.file_profile.specs.Identity.{is_pair}
use Rattle.file_profile.specs.Laws.{IsOfFile}
use Rattle.file_profile.specs.PairViews.{if_pair, opened_as, opened_pair, pair_viewed, paired, when_opened}
use Rattle.file_profile.specs.Answers.{of_file_pair, refused_as}
use Rattle.file_profile.specs.Sources.{Chosen}
use Rattle.file_profile.specs.Views.{as_view, opened_viewed, view_within, views_of}
use Rattle.file_profile.proofs.ClaimLemmas.{choice-ok}

-- Mapping the error keeps an `Ok` as it is.
pub ok-before : {X A B : Type 0} (word : A → B) (r : Result X A) (x : X) → refused_as word r ≡ Ok x → r ≡ Ok x
ok-before word (Ok y) x e = cc
ok-before word (Err a) x e = cc

pub record IsOf (binary : Binary) (f : FileView) : Type 0 where
  pub len : f.len ≡ length (bytes_of binary)
  pub loads : f.loads ≡ loads_of binary

as-view-of : (binary : Binary) (r : Result (List SourceView) SourceAnswer) (f : FileView) → as_view binary r ≡ Ok f → IsOf binary f
as-view-of binary (Ok views) f e = record { len = cc; loads = cc }
as-view-of binary (Err answer) f e = let wrong : ⊥ = cc in absurd wrong

within-is : (mapped : ℕ) (r : Result FileView OpenedAnswer) (f : FileView) → view_within mapped r ≡ Ok f → r ≡ Ok f
within-is mapped (Ok v) f e = ap Ok (choice-ok (nat_lt (2 ^ 63 - 1) (mapped + mapped_count v.loads)) MappedTooLarge v f e).1
within-is mapped (Err answer) f e = cc

pub of-viewed : (mapped limit : ℕ) (o : OpenedFile) (sources : List Chosen) (f : FileView) → opened_viewed mapped limit o sources ≡ Ok f → IsOf o.binary f
unfolding opened_viewed
of-viewed mapped limit o sources f e = as-view-of o.binary (views_of limit o sources) f (within-is mapped (as_view o.binary (views_of limit o sources)) f e)

when-ok : {X Y : Type 0} (r : Result X PairAnswer) (next : X → Result Y PairAnswer) (y : Y) → when_opened r next ≡ Ok y → (x : X) × (r ≡ Ok x) × (next x ≡ Ok y)
when-ok (Ok x) next y e = (x, refl, e)
when-ok (Err answer) next y e = let wrong : ⊥ = cc in absurd wrong

pair-is : (b : Bool) (f o : OpenedFile) → ◌≡◌ {A = Result OpenedFile PairAnswer} (cond b (Ok f) (Err NoMatch)) (Ok o) → f ≡ o
pair-is true f o e = cc
pair-is false f o e = cc

own-of-pair : (name file debug : List ℕ) (o : OpenedFile) → opened_pair name file debug ≡ Ok o → opened file ≡ Ok o.binary
unfolding opened_pair
own-of-pair name file debug o e =
    let own = when-ok (opened_as Own (opened file)) (λ binary. when_opened (opened_as Debug (opened debug)) (λ other. if_pair name binary other)) o e in
    let both = when-ok (opened_as Debug (opened debug)) (λ other. if_pair name own.0 other) o own.2 in
    ok-before (Bad Own) (opened file) own.0 own.1 ∙ ap (λ (f : OpenedFile). Ok f.binary) (pair-is (is_pair own.0 both.0) (paired name own.0 both.0) o both.2)

pub of-file : (mapped limit : ℕ) (name : List ℕ) (sources : List Chosen) (f : FileView) (file debug : List ℕ) → pair_viewed mapped limit name file debug sources ≡ Ok f → IsOfFile file f
unfolding pair_viewed
of-file mapped limit name sources f file debug e =
    let pair = when-ok (opened_pair name file debug) (λ o. refused_as of_file_pair (opened_viewed mapped limit o sources)) f e in
    let is = of-viewed mapped limit pair.0 sources f (ok-before of_file_pair (opened_viewed mapped limit pair.0 sources) f pair.2) in
    let sound = own-of-pair name file debug pair.0 pair.1 in
    record {
      len = is.len ∙ ap length (opened-bytes file (pair.0).binary sound);
      loads = λ binary opens. let same : (pair.0).binary ≡ binary = cc in is.loads ∙ ap loads_of same;
    }
