-- What each change leaves of all that is kept of leaves.
use Rattle.std.proofs.Common.{◌≡◌, ℕ, ◌+◌, ◌<◌, ◌≤◌, true, List, ◌∷◌, refl, ap, sym, ◌∙◌, subst}
use Rattle.std.specs.Prelude.{◌⊎◌, length}
use Rattle.mac_base.specs.Heap.{Heap}
use Rattle.mac_base.specs.HeadKind.{Shape}
use Rattle.mac_base.specs.ZoneMap.{address_after, total_size}
use Rattle.mac_base.specs.ZoneState.{ZoneState, with_heap}
use Rattle.linked_zone.specs.Changes.{carried_up, cut_in_two, enlarged, extended, held_there, joined_pair, relocated, sunk}
use Rattle.linked_zone.specs.Fit.{Fits}
use Rattle.linked_zone.specs.Places.{BlockOf, CanCut, CanGrow, CanHold, FreeAt, FreePair, ParcelAt, ParcelUpTo}
use Rattle.sum_tree.specs.declared.span.Span.{Span}
use Rattle.sum_tree.specs.Span.{heavy}
use Rattle.zone_index.specs.declared.leaves.LeafSums.{LeafSums}
use Rattle.zone_index.specs.Free.{summing_largest}
use Rattle.zone_index.specs.Leaves.{AreSums, leaf, leaf_count}
use Rattle.zone_index.specs.LeafSums.{AreLeaves, HasLeaf, LeafTouched, LeavesPassed, LeavesTouched, SameSums}
use Rattle.zone_index.specs.Rooms.{summing_rooms}
use Rattle.zone_index.specs.Runs.{none_fixed}
use Rattle.zone_index.specs.Weights.{weights}
use Rattle.zone_index.proofs.Changed.{OneOther}
use Rattle.zone_index.proofs.FreeSums.{largest_are}
use Rattle.zone_index.proofs.RoomSums.{rooms_are}
use Rattle.zone_index.proofs.SumsChanged.{parcel_split, run_split, sums-carry, sums-extended, sums-grown, sums-held, sums-merge, sums-other, sums-relocated, sums-sink, sums-split}
use Rattle.zone_index.proofs.SumsRenewed.{sum_touched-first, sum_touched-next, sums-still}

-- a leaf of a zone has its sums
pub leaf-there : (i z : ZoneState) → i ≡ z → (k : ℕ) (l : LeafSums) → AreLeaves i l → k < leaf_count z → HasLeaf l k
leaf-there i z is k l a inside = record {
  rooms = subst (λ (n : ℕ). k < n) (sym (a.rooms.are.places ∙ ap leaf_count is)) inside;
  largest = subst (λ (n : ℕ). k < n) (sym (a.largest.places ∙ ap leaf_count is)) inside;
}

-- and so it has where they are the same
pub leaf-same : (k : ℕ) (old new : LeafSums) → SameSums old new → HasLeaf old k → HasLeaf new k
leaf-same k old new same has = record {
  rooms = subst (λ (xs : List Span). k < length xs) (sym same.rooms) has.rooms;
  largest = subst (λ xs. k < length xs) (sym same.largest) has.largest;
}

pub leaf-touched : (k i : ℕ) (old new : LeafSums) → LeafTouched old new i → HasLeaf old k → HasLeaf new k
leaf-touched k i old new t = leaf-same k old new (record { rooms = t.rooms.sums; largest = t.largest.sums })

-- one more leaf is touched
pub touched-first : {z l : ZoneState} {i : ℕ} (old new : LeafSums) (at : ℕ) → z ≡ l → i ≡ leaf l.shape at → LeafTouched old new i → LeavesTouched z.shape old new (λ n. n ≡ at)
touched-first {z = z} {l = l} old new at same is t = record {
  rooms = sum_touched-first z l old.rooms new.rooms at same is t.rooms;
  largest = sum_touched-first z l old.largest new.largest at same is t.largest;
}

pub touched-next : {z l : ZoneState} {i : ℕ} {P : ℕ → Type 0} (old middle new : LeafSums) (at : ℕ) → LeavesTouched z.shape old middle P → z ≡ l → i ≡ leaf l.shape at → LeafTouched middle new i → LeavesTouched z.shape old new (λ n. P n ⊎ (n ≡ at))
touched-next {z = z} {l = l} old middle new at first same is t = record {
  rooms = sum_touched-next z l old.rooms middle.rooms new.rooms at first.rooms same is t.rooms;
  largest = sum_touched-next z l old.largest middle.largest new.largest at first.largest same is t.largest;
}

-- what is right of each of them is right of all
both : (z w : ZoneState) (old new : LeafSums) → AreLeaves z old → w.shape ≡ z.shape → new.rooms.sums ≡ old.rooms.sums → AreSums summing_rooms w new.rooms → AreSums summing_largest w new.largest → AreLeaves w new
both z w old new a shape same rooms largest = record {
  rooms = record {
    are = rooms;
    light = subst (λ (s : Shape). heavy new.rooms.sums ≤ s.limit) (sym shape) (subst (λ (xs : List Span). heavy xs ≤ z.shape.limit) (sym same) a.rooms.light);
  };
  largest = largest;
}

-- the same blocks weigh the same
pub leaves-still : (z : ZoneState) (heap : Heap) (l : LeafSums) → AreLeaves z l → heap.map ≡ z.heap.map → weights heap.table z.heap.map ≡ weights z.heap.table z.heap.map → AreLeaves (with_heap heap z) l
leaves-still z heap l a same weigh = both z (with_heap heap z) l l a refl refl (sums-still summing_rooms z heap l.rooms a.rooms.are same weigh) (sums-still summing_largest z heap l.largest a.largest same weigh)

module _ (z : ZoneState) (old new : LeafSums) (a : AreLeaves z old) where
  pub leaves-split : {at size : ℕ} (can : CanCut z at size) → LeavesTouched z.shape old new (λ n. (n ≡ at) ⊎ (n ≡ at + size)) → AreLeaves (cut_in_two size z can.free) new
  leaves-split {at} {size} can t = both z (cut_in_two size z can.free) old new a refl t.rooms.sums (sums-split summing_rooms rooms_are z old.rooms new.rooms a.rooms.are can t.rooms) (sums-split summing_largest largest_are z old.largest new.largest a.largest can t.largest)

  pub leaves-merge : {at : ℕ} (pair : FreePair z at) → LeavesTouched z.shape old new (λ n. (n ≡ at) ⊎ (n ≡ at + pair.first)) → AreLeaves (joined_pair z pair) new
  leaves-merge {at} pair t = both z (joined_pair z pair) old new a refl t.rooms.sums (sums-merge summing_rooms rooms_are z old.rooms new.rooms a.rooms.are pair t.rooms) (sums-merge summing_largest largest_are z old.largest new.largest a.largest pair t.largest)

  pub leaves-held : {x size n at : ℕ} (can : CanHold z x size n) → at ≡ address_after z.shape can.before → LeavesTouched z.shape old new (λ m. (m ≡ at) ⊎ (m ≡ at + size)) → AreLeaves (held_there z can) new
  leaves-held {size = size} {at = at} can place t = both z (held_there z can) old new a refl t.rooms.sums (sums-held summing_rooms rooms_are z old.rooms new.rooms a.rooms.are can place t.rooms) (sums-held summing_largest largest_are z old.largest new.largest a.largest can place t.largest)

  pub leaves-grown : {x size n at : ℕ} (can : CanGrow z x size n) → at ≡ address_after z.shape can.before → LeavesTouched z.shape old new (λ m. ((m ≡ at) ⊎ (m ≡ at + can.here.size)) ⊎ (m ≡ at + size)) → AreLeaves (enlarged z can) new
  leaves-grown {size = size} {at = at} can place t = both z (enlarged z can) old new a refl t.rooms.sums (sums-grown summing_rooms rooms_are z old.rooms new.rooms a.rooms.are can place t.rooms) (sums-grown summing_largest largest_are z old.largest new.largest a.largest can place t.largest)

  pub leaves-extended : {end : ℕ} → end ≡ address_after z.shape z.heap.map → LeavesTouched z.shape old new (λ n. n ≡ end) → AreLeaves (extended z) new
  leaves-extended {end} place t = both z (extended z) old new a refl t.rooms.sums (sums-extended summing_rooms rooms_are z old.rooms new.rooms a.rooms.are place t.rooms) (sums-extended summing_largest largest_are z old.largest new.largest a.largest place t.largest)

-- the block of one leaf is another
pub leaves-other : (z : ZoneState) (heap : Heap) (at : ℕ) (old new : LeafSums) → AreLeaves z old → OneOther z heap at → LeavesTouched z.shape old new (λ n. n ≡ at) → AreLeaves (with_heap heap z) new
leaves-other z heap at old new a o t =
    both z (with_heap heap z) old new a refl t.rooms.sums (sums-other summing_rooms rooms_are z heap at old.rooms new.rooms a.rooms.are o t.rooms) (sums-other summing_largest largest_are z heap at old.largest new.largest a.largest o t.largest)

-- the old block is free first, and then the free one is the handle's
pub leaves-relocated : (z : ZoneState) (old new : LeafSums) (a : AreLeaves z old) (at : ℕ) (t : LeavesTouched z.shape old new (λ n. n ≡ at)) (h k to : ℕ) (last : LeafSums) (free : FreeAt z to) → Fits z → BlockOf z h at
    → LeavesTouched z.shape new last (λ n. n ≡ to) → AreLeaves (relocated h k z free) last
leaves-relocated z old new a at t h k to last free fits b u =
    both z (relocated h k z free) old last a refl (u.rooms.sums ∙ t.rooms.sums)
    (sums-relocated summing_rooms rooms_are z old.rooms new.rooms a.rooms.are at t.rooms h k to last.rooms free fits b u.rooms)
    (sums-relocated summing_largest largest_are z old.largest new.largest a.largest at t.largest h k to last.largest free fits b u.largest)

-- a block passes others
module _ (z : ZoneState) (old middle new : LeafSums) (a : AreLeaves z old) (same : SameSums old middle) where
  pub leaves-carry : {at end : ℕ} (parcel : ParcelAt z at end) → none_fixed z.heap.table (parcel.here ∷ parcel.blocks) ≡ true → (low : ℕ) → (is : low ≡ at + parcel.here.size) → LeavesPassed old middle (parcel_split z parcel low is) end
      → LeavesTouched z.shape middle new (λ n. (n ≡ at) ⊎ (n ≡ at + total_size parcel.blocks)) → AreLeaves (carried_up z parcel) new
  leaves-carry parcel loose low is p t =
      both z (carried_up z parcel) old new a refl (t.rooms.sums ∙ same.rooms)
      (sums-carry summing_rooms rooms_are z old.rooms middle.rooms new.rooms a.rooms.are parcel loose low is same.rooms p.rooms t.rooms)
      (sums-carry summing_largest largest_are z old.largest middle.largest new.largest a.largest parcel loose low is same.largest p.largest t.largest)

  pub leaves-sink : {start at : ℕ} (parcel : ParcelUpTo z start at) → none_fixed z.heap.table parcel.blocks ≡ true → LeavesPassed old middle (run_split z parcel) at
      → LeavesTouched z.shape middle new (λ n. (n ≡ at) ⊎ (n ≡ start)) → AreLeaves (sunk z parcel) new
  leaves-sink parcel loose p t =
      both z (sunk z parcel) old new a refl (t.rooms.sums ∙ same.rooms)
      (sums-sink summing_rooms rooms_are z old.rooms middle.rooms new.rooms a.rooms.are parcel loose same.rooms p.rooms t.rooms)
      (sums-sink summing_largest largest_are z old.largest middle.largest new.largest a.largest parcel loose same.largest p.largest t.largest)
