-- The extents of a fork, one record after another.
use Rattle.std.proofs.Common.{◌≡◌, ℕ, zero, suc, ◌<◌, ◌≤◌, List, [], ◌∷◌, ◌++◌, length, refl, arith}
use Rattle.std.specs.Prelude.{find}
use Rattle.std.proofs.lemmas.Bool.{le-leb, lt-leb}
use Rattle.hfs_tree.specs.declared.extent.Extent.{Extent}
use Rattle.hfs_volume.specs.declared.overflow.Overflow.{Overflow}
use Rattle.hfs_volume.specs.Overflow.{block_count, comes_after, next_extents, fork_extents}

module _ (rows : List Overflow) (id fork needed : ℕ) (so_far : List Extent) where
  -- there are enough
  pub enough : (left : ℕ) → needed ≤ block_count so_far → fork_extents left rows id fork needed so_far ≡ so_far
  unfolding fork_extents
  enough zero there = refl
  enough (suc more) there = rw (le-leb needed (block_count so_far) there) refl

  -- or no more
  pub no_more : (left : ℕ) (next : List Extent) → block_count so_far < needed → next ≡ next_extents (find (comes_after id fork (block_count so_far)) rows) → length next ≡ 0
      → fork_extents left rows id fork needed so_far ≡ so_far
  unfolding fork_extents
  no_more zero next less is none = refl
  no_more (suc more) [] less is none = rw (lt-leb needed (block_count so_far) less, ← is) refl
  no_more (suc more) (e ∷ es) less is none = absurd (omega arith)

  -- or more
  pub more_after : (left more : ℕ) (next : List Extent) → left ≡ suc more → block_count so_far < needed → next ≡ next_extents (find (comes_after id fork (block_count so_far)) rows) → 0 < length next
      → fork_extents left rows id fork needed so_far ≡ fork_extents more rows id fork needed (so_far ++ next)
  unfolding fork_extents
  more_after left more [] some less is there = absurd (omega arith)
  more_after left more (e ∷ es) some less is there = rw some (rw (lt-leb needed (block_count so_far) less, ← is) refl)

  -- and at the end
  pub no_left : (left : ℕ) → left ≡ 0 → fork_extents left rows id fork needed so_far ≡ so_far
  unfolding fork_extents
  no_left left none = rw none refl
