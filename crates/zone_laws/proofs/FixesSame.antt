-- Two tables that lock the same handles and have the same pointers: the same requests fit, and the same blocks may be
-- purged for them.
use Rattle.std.proofs.Common.{arith, ◌≡◌, ℕ, ◌+◌, Bool, not, cond, List, [], ◌∷◌, refl, ap, ◌∙◌}
use Rattle.std.specs.Prelude.{◌||◌, ◌&&◌, nat_le}
use Rattle.mac_base.specs.declared.block.Kind.{Kind}
use Rattle.mac_base.specs.HeadKind.{Shape}
use Rattle.mac_base.specs.ZoneMap.{ZoneMap}
use Rattle.mac_base.specs.HandleTable.{HandleTable, is_locked, is_pointer}
use Rattle.mac_base.specs.Gap.{Gap, gaps, gaps_with, is_fixed, some_gap_has, own_gap, gap_after}
use Rattle.mac_base.specs.declared.request.Request.{Request}
use Rattle.mac_base.specs.declared.request.Request.TheVariants.{NewBlock, NewEmpty, NewPointer, NewMaster, Reserve, Resize, Replace}
use Rattle.mac_base.specs.Request.{stays, fits, size_of, room_of, size_needed, searched, blocks_to_purge}
use Rattle.zone_laws.proofs.GapAppend.{same_test}

-- the same numbers are locked handles, and the same are pointers
pub record FixesSame (t u : HandleTable) : Type 0 where
  pub locked : (x : ℕ) → is_locked u x ≡ is_locked t x
  pub pointer : (x : ℕ) → is_pointer u x ≡ is_pointer t x

-- a table and itself
pub fixes-refl : (t : HandleTable) → FixesSame t t
fixes-refl t = record { locked = λ x. refl; pointer = λ x. refl }

-- one after the other
pub fixes-then : (t u v : HandleTable) → FixesSame t u → FixesSame u v → FixesSame t v
fixes-then t u v a b = record { locked = λ x. b.locked x ∙ a.locked x; pointer = λ x. b.pointer x ∙ a.pointer x }

fixed-kind : (t u : HandleTable) → FixesSame t u → (k : Kind) → is_fixed u k ≡ is_fixed t k
fixed-kind t u same v3 = grind arith

-- the same blocks are fixed
pub fixed-same : (t u : HandleTable) → FixesSame t u → is_fixed u ≡ is_fixed t
fixed-same t u same = same_test (fixed-kind t u same)

-- the same numbers stay
pub stays-same : (t u : HandleTable) → FixesSame t u → (x : ℕ) → stays u x ≡ stays t x
stays-same t u same x = ap (λ b. b || is_locked u x) (same.pointer x) ∙ ap (λ b. is_pointer t x || b) (same.locked x)

-- a map has the same gaps
pub gaps-same : (t u : HandleTable) → FixesSame t u → (m : ZoneMap) → gaps u m ≡ gaps t m
gaps-same t u same [] = refl
gaps-same t u same (e ∷ es) = ap (λ b. gaps_with b e es (gaps u es)) (fixed-kind t u same e.kind) ∙ ap (gaps_with (is_fixed t e.kind) e es) (gaps-same t u same es)

-- whether x can have k bytes, by whether it stays and by the gaps
can_grow_in : ℕ → ℕ → ZoneMap → Bool → List Gap → Bool
can_grow_in x k m fixed gs = nat_le k (size_of x m + room_of (cond fixed (gap_after x gs) (own_gap x gs))) || (not fixed && some_gap_has k gs)

-- the same requests fit
pub fits-same : (s : Shape) (t u : HandleTable) → FixesSame t u → (r : Request) (m : ZoneMap) → fits s u r m ≡ fits s t r m
unfolding can_grow_in
fits-same s t u same (NewBlock n) m = ap (some_gap_has (size_needed s (NewBlock n))) (gaps-same t u same m)
fits-same s t u same NewEmpty m = refl
fits-same s t u same (NewPointer n) m = ap (some_gap_has (size_needed s (NewPointer n))) (gaps-same t u same m)
fits-same s t u same NewMaster m = ap (some_gap_has (size_needed s NewMaster)) (gaps-same t u same m)
fits-same s t u same (Reserve n) m = ap (some_gap_has (size_needed s (Reserve n))) (gaps-same t u same m)
fits-same s t u same (Resize x n) m = let k : ℕ = size_needed s (Resize x n) in ap (λ b. can_grow_in x k m b (gaps u m)) (stays-same t u same x) ∙ ap (can_grow_in x k m (stays t x)) (gaps-same t u same m)
fits-same s t u same (Replace h n) m = ap (some_gap_has (size_needed s (Replace h n))) (gaps-same t u same (searched (Replace h n) m))

-- the same blocks may be purged for them
pub blocks_to_purge-same : (t u : HandleTable) → FixesSame t u → (r : Request) (m : ZoneMap) → blocks_to_purge u r m ≡ blocks_to_purge t r m
blocks_to_purge-same t u same (NewBlock n) m = refl
blocks_to_purge-same t u same NewEmpty m = refl
blocks_to_purge-same t u same (NewPointer n) m = refl
blocks_to_purge-same t u same NewMaster m = refl
blocks_to_purge-same t u same (Reserve n) m = refl
blocks_to_purge-same t u same (Resize x n) m = grind (arith, gaps-same, stays-same)
blocks_to_purge-same t u same (Replace h n) m = refl
