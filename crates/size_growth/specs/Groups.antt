-- Groups of paths that share their label at a level, and the entries that they represent.
use Rattle.std.specs.Prelude.{◌≡◌, ◌≢◌, ℕ, ◌+◌, ◌-◌, ◌<◌, ◌≤◌, List, [], ◌∷◌, ⊤, All, length, map, take, drop, get_or}
use Rattle.std.specs.List.{AllByRecursion}
use Rattle.report_rows.specs.declared.row.RowOptions.{RowOptions}
use Rattle.size_growth.specs.declared.growth.GrowthPath.{GrowthPath}
use Rattle.size_growth.specs.declared.groups.Group.{Group}
use Rattle.report_rows.specs.declared.groups.Kind.TheVariants.{Label, Others}
use Rattle.size_growth.specs.GroupKinds.{kind_of}
use Rattle.size_growth.specs.Keys.{growth_key}
use Rattle.size_growth.specs.Paths.{sums}
use Rattle.size_growth.specs.Rows.{Entry}
use Rattle.size_growth.specs.Runs.{table_at}
use Rattle.size_growth.specs.Sizes.{Fits, sums_by}

-- The labels of paths at a level.
abbrev pub labels_at : ℕ → List GrowthPath → List (List ℕ)
labels_at level paths = map (λ (p : GrowthPath). get_or p.path level []) paths

-- Paths of this depth, with sums that fit in 63 bits.
pub record IsPart (depth : ℕ) (paths : List GrowthPath) : Type 0 where
  pub deep : All (λ (p : GrowthPath). length p.path ≡ depth) paths
  pub fits : Fits (sums paths)

-- The paths from one index up to another.
abbrev pub mid : ℕ → ℕ → List GrowthPath → List GrowthPath
mid from to paths = take (to - from) (drop from paths)

-- The entry that a group represents.
abbrev pub group_entry : ℕ → List GrowthPath → Group → Entry
group_entry level paths g = record {
  kind = kind_of (get_or (labels_at level paths) g.from []) g.kind;
  sizes = g.sizes;
  below = table_at (level + 1) (mid g.from g.to paths);
}

-- Paths from one index up to another that share their label at a level. The next path has another label.
pub record IsRun (level : ℕ) (paths : List GrowthPath) (from to : ℕ) : Type 0 where
  pub same : (k : ℕ) → from ≤ k → k < to → get_or (labels_at level paths) k [] ≡ get_or (labels_at level paths) from []
  pub next : to < length paths → get_or (labels_at level paths) to [] ≢ get_or (labels_at level paths) from []

-- A group of a label: at least one path, with the sums of their sizes and the key.
pub record IsGroup (o : RowOptions) (paths : List GrowthPath) (g : Group) : Type 0 where
  pub some : g.from < g.to
  pub within : g.to ≤ length paths
  pub key : g.key.0 ≡ growth_key o g.sizes
  pub kind : g.kind ≡ Label
  pub sizes : g.sizes ≡ sums (mid g.from g.to paths)

-- The groups are in the order of their paths.
abbrev pub Rise : List Group → Type 0
Rise [] = ⊤
Rise (g ∷ gs) = AllByRecursion (λ (h : Group). g.from < h.from) gs × Rise gs

-- The paths of a group. A group of a label has at least one.
pub record IsRange (paths : List GrowthPath) (g : Group) : Type 0 where
  pub inside : g.from ≤ g.to
  pub within : g.to ≤ length paths
  pub some : g.kind ≡ Label → g.from < g.to

-- The key of a group is that of its sizes.
abbrev pub HasKey : RowOptions → Group → Type 0
HasKey o g = g.key.0 ≡ growth_key o g.sizes

-- One group for these groups, which a limit leaves out.
abbrev pub others_group : RowOptions → List Group → Group
others_group o left =
    let sizes = sums_by (λ (g : Group). g.sizes) left in
    record { key = record { 0 = growth_key o sizes }; from = 0; to = 0; kind = Others (length left); sizes = sizes }
