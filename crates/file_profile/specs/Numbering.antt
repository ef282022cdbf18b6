-- The claims of a data source on a file, if labels are numbers of a pool.
use Rattle.std.specs.Prelude.{◌≡◌, ℕ, ◌<◌, List, length, get_or, slice_get, Some, Vec}
use Rattle.std.specs.List.{AllZip}
use Rattle.std.specs.declared.alloc.Global.{Global}
use Rattle.size_core.specs.declared.claim.Claim.{Claim}
use Rattle.size_model.specs.declared.view.LabelledClaim.{LabelledClaim}
use Rattle.size_model.specs.Numbered.{numbered_view}
use Rattle.claim_sheet.specs.Made.{AreNumbered, texts}
use Rattle.file_profile.specs.declared.claims.Numbered.{Numbered}
use Rattle.file_profile.specs.Sources.{Chosen}
use Rattle.file_profile.specs.Views.{source_view}

-- A claim whose label is replaced by the number at that index.
abbrev pub renumbered : List ℕ → Claim → Claim
renumbered numbers c = record c { label = get_or numbers c.label 0 }

-- Each label of one pool has a number in another pool, and the text of that number is the rewritten label.
pub record IsRenumbering (rewritten : List ℕ → List ℕ) (labels pool : List (List ℕ)) (numbers : List ℕ) : Type 0 where
  pub count : length numbers ≡ length labels
  pub texts : AllZip (λ n label. slice_get pool n ≡ Some (rewritten label)) numbers labels

-- These claims, with labels that are numbers of the pool.
pub record AreClaims (pool : List (List ℕ)) (made : List LabelledClaim) (v : Vec Claim Global) : Type 0 where
  pub are : made ≡ texts pool v.items
  pub numbered : AreNumbered pool v.items

-- A data source with these claims, its labels rewritten. Each label has a number in the pool.
pub record IsNumbered (chosen : Chosen) (pool : List (List ℕ)) (made : List LabelledClaim) (n : Numbered) : Type 0 where
  pub count : length n.claims.items ≡ length made
  pub numbered : AreNumbered pool n.claims.items
  pub unmapped : n.unmapped < length pool
  pub view : numbered_view pool n.claims.items n.unmapped ≡ source_view chosen made
