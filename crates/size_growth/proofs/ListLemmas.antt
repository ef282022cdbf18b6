-- Rows are listed item by item.
use Rattle.std.proofs.Common.{◌≡◌, ℕ, ◌-◌, ◌<◌, List, [], ◌∷◌, ◌++◌, length, take, drop, refl, ap, ◌∙◌, arith}
use Rattle.std.specs.Prelude.{All}
use Rattle.std.proofs.lemmas.List.Elements.{All-take, All-drop}
use Rattle.report_rows.specs.declared.row.RowOptions.{RowOptions}
use Rattle.size_growth.specs.declared.growth.GrowthPath.{GrowthPath}
use Rattle.size_growth.specs.declared.growth.GrowthSizes.{GrowthSizes}
use Rattle.size_growth.specs.declared.row.GrowthRow.{GrowthRow}
use Rattle.size_growth.specs.declared.row.GrowthTree.{GrowthTree}
use Rattle.size_growth.specs.Groups.{IsPart}
use Rattle.size_growth.specs.Paths.{IsGrowth, sums}
use Rattle.size_growth.specs.Rows.{growth_tree, listing}
use Rattle.size_growth.specs.Runs.{table_at}
use Rattle.size_growth.proofs.SumLemmas.{fits_part}

-- Paths from one index up to another are a part.
pub part-of : (depth : ℕ) (paths : List GrowthPath) (from n : ℕ) → IsPart depth paths → IsPart depth (take n (drop from paths))
part-of depth paths from n part =
    let D : GrowthPath → Type 0 = λ p. length p.path ≡ depth in
    record {
      deep = All-take D n (drop from paths) (All-drop D from paths part.deep);
      fits = fits_part (λ (p : GrowthPath). p.sizes) paths from n part.fits;
    }

pub whole-part : (depth n : ℕ) (paths seen : List GrowthPath) → IsGrowth depth paths → n ≡ depth → seen ≡ paths → IsPart n seen
whole-part depth n paths seen known d e = rw (d, e) (record { deep = known.deep; fits = known.fits })

pub deep-at : (depth level : ℕ) (paths : List GrowthPath) → IsPart depth paths → level < depth → All (λ (p : GrowthPath). level < length p.path) paths
deep-at depth level paths part lt k d inside = omega (arith, part.deep k d inside)

-- From the first label on, paths are themselves.
whole : (paths : List GrowthPath) → table_at 0 paths ≡ paths
whole [] = refl
whole (p ∷ paths) = ap (λ t. p ∷ t) (whole paths)

same-tree : (depth : ℕ) (s t : GrowthSizes) (a b : List GrowthRow) → s ≡ t → a ≡ b → ◌≡◌ {A = GrowthTree} (record { depth = depth; sizes = s; rows = a }) (record { depth = depth; sizes = t; rows = b })
same-tree depth s t a b e f = rw (e, f) refl

-- A tree by its parts.
pub tree-is : (o : RowOptions) (depth n : ℕ) (sizes : GrowthSizes) (rows out : List GrowthRow) (paths seen : List GrowthPath) → n ≡ depth → seen ≡ paths → sizes ≡ sums seen → out ≡ []
    → rows ≡ out ++ listing o (n - 0) 0 (table_at 0 seen) → ◌≡◌ {A = GrowthTree} (record { depth = n; sizes = sizes; rows = rows }) (growth_tree o depth paths)
tree-is o depth n sizes rows out paths seen d s summed none made =
    let k : n - 0 ≡ n = omega arith in
    let e : rows ≡ listing o n 0 seen =
    made ∙ (ap (λ xs. xs ++ listing o (n - 0) 0 (table_at 0 seen)) none ∙ (ap (λ t. listing o (n - 0) 0 t) (whole seen) ∙ ap (λ j. listing o j 0 seen) k)) in
    same-tree n sizes (sums seen) rows (listing o n 0 seen) summed e ∙ (ap (λ m. growth_tree o m seen) d ∙ ap (growth_tree o depth) s)
