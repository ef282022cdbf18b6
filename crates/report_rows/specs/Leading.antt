-- Groups of a level that come first, kept one by one, and those that are left out.
use Rattle.std.specs.Prelude.{◌≡◌, ℕ, ◌+◌, ◌^◌, ◌<◌, ◌≤◌, false, List, ◌∷◌, ◌++◌, All, length}
use Rattle.std.specs.List.{sum_by}
use Rattle.std.specs.List.Sorted.{IsPermutation, IsSorted}
use Rattle.std.specs.Ordering.{is_lt, nat_cmp}
use Rattle.report_rows.specs.declared.row.RowOptions.{RowOptions}
use Rattle.report_rows.specs.declared.groups.Kind.TheVariants.{Others}
use Rattle.report_rows.specs.declared.groups.Group.{Group}
use Rattle.report_rows.specs.declared.leading.LeftOut.{LeftOut}
use Rattle.report_rows.specs.Groups.{group_cmp}
use Rattle.report_rows.specs.Keys.{key_of}
use Rattle.report_rows.specs.Order.{placed}

-- The number of these groups, and the sums of their sizes.
abbrev pub sums_of : List Group → LeftOut
sums_of groups =
    record { count = length groups; vm = sum_by (λ (g : Group). g.vm) groups; file = sum_by (λ (g : Group). g.file) groups }

-- The same with one more group.
abbrev pub with_group : LeftOut → Group → LeftOut
with_group left g = record { count = left.count + 1; vm = left.vm + g.vm; file = left.file + g.file }

-- One group for those that are left out.
abbrev pub one_group : RowOptions → LeftOut → Group
one_group o left =
    record { key = record { 0 = key_of o left.vm left.file }; from = 0; to = 0; kind = Others left.count; vm = left.vm; file = left.file }

-- The number and the sums fit in 64 bits with one more group.
pub record CanAdd (left : LeftOut) (g : Group) : Type 0 where
  pub count_fits : left.count + 1 < 2 ^ 64
  pub vm_fits : left.vm + g.vm < 2 ^ 64
  pub file_fits : left.file + g.file < 2 ^ 64

-- A list of groups gets one more, and stays sorted.
pub record Inserts (g : Group) (old new : List Group) : Type 0 where
  pub same : IsPermutation (g ∷ old) new
  pub ordered : IsSorted group_cmp old → IsSorted group_cmp new

-- Some of these groups are kept, sorted and at most as many as the limit, and the others are left out. None of the
-- others comes before one that is kept, and there are others only if as many as the limit are kept. The number and the
-- sums are those of the others.
pub record Leads (limit : ℕ) (groups kept : List Group) (left : LeftOut) : Type 0 where
  pub others : List Group
  pub same : IsPermutation groups (kept ++ others)
  pub ordered : IsSorted group_cmp kept
  pub after : All (λ g. All (λ h. is_lt (group_cmp g h) ≡ false) kept) others
  pub most : length kept ≤ limit
  pub full : 0 < length others → length kept ≡ limit
  pub sums : left ≡ sums_of others

-- The groups that are kept, and one group for those that are left out, if there are any.
pub record WithOthers (o : RowOptions) (kept : List Group) (left : LeftOut) (made : List Group) : Type 0 where
  pub none : left.count ≡ 0 → made ≡ kept
  pub some : 0 < left.count → made ≡ placed (λ g h. nat_cmp h.key.0 g.key.0) (one_group o left) kept
