-- The blocks of a fork from one on, by what the map says of it.
use Rattle.std.proofs.Common.{◌≡◌, ℕ, zero, suc, ◌+◌, ◌-◌, Bool, true, false, if◌then◌else◌, List, [], ◌∷◌, ◌++◌, Option, None, Some, ◌&&◌, not, refl, subst, arith}
use Rattle.std.proofs.lemmas.List.Sums.{sum_by_push}
use Rattle.std.specs.Prelude.{IfSome}
use Rattle.hfs_volume.specs.Overflow.{block_count}
use Rattle.std.specs.List.{list_any}
use Rattle.hfs_tree.specs.declared.extent.Extent.{Extent}
use Rattle.mfs_volume.specs.Chain.{has_block, next_of, one_block, is_extent_of, extents_from}

module _ (map : List ℕ) (before : List Extent) (block : ℕ) where
  -- it isn't in the map, or is there already
  pub stops : (n more : ℕ) → n ≡ suc more → (has_block map block && not (list_any (is_extent_of (block - 2)) before)) ≡ false → extents_from map n before block ≡ None
  unfolding extents_from
  stops n more left none = rw left (rw none refl)

  -- or it is a block of the fork
  pub goes_on : (n more : ℕ) → n ≡ suc more → (has_block map block && not (list_any (is_extent_of (block - 2)) before)) ≡ true
      → extents_from map n before block ≡ extents_from map more (before ++ one_block block ∷ []) (next_of map block)
  unfolding extents_from
  goes_on n more left some = rw left (rw some refl)

  -- and at the end
  pub ends : (n : ℕ) → n ≡ 0 → extents_from map n before block ≡ Some before
  unfolding extents_from
  ends n none = rw none refl

-- a fork has as many blocks as it needs
pub count_is : (map : List ℕ) (n : ℕ) (before : List Extent) (block : ℕ) → IfSome (extents_from map n before block) (λ extents. block_count extents ≡ block_count before + n)
unfolding extents_from
count_is map zero before block = omega arith
count_is map (suc more) before block =
    let one : block_count (before ++ one_block block ∷ []) + more ≡ block_count before + suc more = omega (arith, sum_by_push (λ (e : Extent). e.count) before (one_block block)) in
    by_case (has_block map block && not (list_any (is_extent_of (block - 2)) before))
    (subst (λ (k : ℕ). IfSome (extents_from map more (before ++ one_block block ∷ []) (next_of map block)) (λ extents. block_count extents ≡ k)) one
    (count_is map more (before ++ one_block block ∷ []) (next_of map block)))
  where
    others : Option (List Extent)
    others = extents_from map more (before ++ one_block block ∷ []) (next_of map block)

    by_case : (is : Bool) → IfSome others (λ extents. block_count extents ≡ block_count before + suc more)
        → IfSome (if is then others else None) (λ extents. block_count extents ≡ block_count before + suc more)
    by_case true rest = rest
    by_case false rest = tt
