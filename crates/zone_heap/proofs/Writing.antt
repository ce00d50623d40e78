-- Bytes written in the block of a handle or a pointer.
use Rattle.std.proofs.Common.{◌≡◌, ℕ, ◌+◌, ◌≤◌, Bool, true, false, cond, List, length, take, drop, ◌++◌, refl, ◌∙◌, arith, length-append, length-drop}
use Rattle.std.specs.Prelude.{◌||◌}
use Rattle.std.proofs.lemmas.List.{length-take}
use Rattle.mac_base.specs.declared.block.Status.TheVariants.{NotLive, Empty, Lent, Full}
use Rattle.mac_base.specs.BlockStatus.{status_of}
use Rattle.mac_base.specs.HandleTable.{HandleTable, has_block, is_handle, is_lent, is_pointer}
use Rattle.mac_base.specs.ZoneState.{written}

-- what is full has a block
pub full-has_block : (t : HandleTable) (x : ℕ) → status_of t x ≡ Full → has_block t x ≡ true
full-has_block t x is = by_tests (is_handle t x || is_pointer t x) (has_block t x) is
  where
    by_tests : (live has : Bool) → cond live (cond has (cond (is_lent t x) Lent Full) Empty) NotLive ≡ Full → has ≡ true
    by_tests true true is = refl
    by_tests true false is = absurd (cc is)
    by_tests false true is = refl
    by_tests false false is = absurd (cc is)

-- and isn't lent
pub full-here : (t : HandleTable) (x : ℕ) → status_of t x ≡ Full → is_lent t x ≡ false
full-here t x is = by_tests (is_handle t x || is_pointer t x) (has_block t x) (is_lent t x) is
  where
    by_tests : (live has lent : Bool) → cond live (cond has (cond lent Lent Full) Empty) NotLive ≡ Full → lent ≡ false
    by_tests true true true is = absurd (cc is)
    by_tests true true false is = refl
    by_tests true false lent is = absurd (cc is)
    by_tests false has lent is = absurd (cc is)

-- also where bytes of others are written over those from an offset on
pub length-copied : (start offset n : ℕ) (source target : List ℕ) → start + n ≤ length source → offset + n ≤ length target → length (written offset (take n (drop start source)) target) ≡ length target
length-copied start offset n source target within_source within_target =
    let bytes : List ℕ = take n (drop start source) in
    let long : length bytes ≡ n = omega (arith, length-take n (drop start source), length-drop start source) in
    let front = length-append (take offset target) bytes in
    let after = length-drop (offset + length bytes) target in
    length-append (take offset target ++ bytes) (drop (offset + length bytes) target) ∙ omega (arith, length-take offset target)
