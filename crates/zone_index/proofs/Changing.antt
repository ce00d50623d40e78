-- What each change leaves of what is remembered of pages.
use Rattle.std.proofs.Common.{◌≡◌, ℕ, ◌+◌, List, Option}
use Rattle.mac_base.specs.Heap.{Heap}
use Rattle.mac_base.specs.ZoneMap.{address_after}
use Rattle.mac_base.specs.ZoneState.{ZoneState, with_heap}
use Rattle.linked_zone.specs.Changes.{carried_up, cut_in_two, enlarged, extended, held_there, joined_pair, relocated, sunk}
use Rattle.linked_zone.specs.Fit.{Fits}
use Rattle.linked_zone.specs.Places.{BlockOf, CanCut, CanGrow, CanHold, FreeAt, FreePair, ParcelAt, ParcelUpTo}
use Rattle.zone_index.specs.declared.sums.Sums.{Sums}
use Rattle.zone_index.specs.Pages.{ArePages, Forgets, page}
use Rattle.zone_index.proofs.Changed.{OneOther, carry-renews, emptied_first, extended-renews, grown-renews, held-renews, merge-renews, moved_in-other, moved_out-other, other-renews, sink-renews, split-renews}
use Rattle.zone_index.proofs.PagesRenewed.{pages-renewed}

module _ (z : ZoneState) (old new : List (Option Sums)) (a : ArePages z old) where
  pub pages-split : {at size : ℕ} (can : CanCut z at size) → Forgets old new (page z.shape at) (page z.shape (at + size)) → ArePages (cut_in_two size z can.free) new
  pages-split {at} {size} can = pages-renewed z (cut_in_two size z can.free).heap at (at + size) old new a (split-renews z can)

  pub pages-merge : {at : ℕ} (pair : FreePair z at) → Forgets old new (page z.shape at) (page z.shape (at + pair.first)) → ArePages (joined_pair z pair) new
  pages-merge {at} pair = pages-renewed z (joined_pair z pair).heap at (at + pair.first) old new a (merge-renews z pair)

  pub pages-carry : {at end : ℕ} (parcel : ParcelAt z at end) → Forgets old new (page z.shape at) (page z.shape end) → ArePages (carried_up z parcel) new
  pages-carry {at} {end} parcel = pages-renewed z (carried_up z parcel).heap at end old new a (carry-renews z parcel)

  pub pages-sink : {start at : ℕ} (parcel : ParcelUpTo z start at) → Forgets old new (page z.shape start) (page z.shape (at + parcel.here.size)) → ArePages (sunk z parcel) new
  pages-sink {start} {at} parcel = pages-renewed z (sunk z parcel).heap start (at + parcel.here.size) old new a (sink-renews z parcel)

  pub pages-held : {x size n at : ℕ} (can : CanHold z x size n) → at ≡ address_after z.shape can.before → Forgets old new (page z.shape at) (page z.shape (at + size)) → ArePages (held_there z can) new
  pages-held {size = size} {at = at} can place = pages-renewed z (held_there z can).heap at (at + size) old new a (held-renews z can place)

  pub pages-grown : {x size n at : ℕ} (can : CanGrow z x size n) → at ≡ address_after z.shape can.before → Forgets old new (page z.shape at) (page z.shape (at + size)) → ArePages (enlarged z can) new
  pages-grown {size = size} {at = at} can place = pages-renewed z (enlarged z can).heap at (at + size) old new a (grown-renews z can place)

  pub pages-extended : {end : ℕ} → end ≡ address_after z.shape z.heap.map → Forgets old new (page z.shape end) (page z.shape end) → ArePages (extended z) new
  pages-extended {end} place = pages-renewed z (extended z).heap end end old new a (extended-renews z place)

-- the page in which a block begins was forgotten, and it is another
pub pages-other : (z : ZoneState) (heap : Heap) (at : ℕ) (old new : List (Option Sums)) → ArePages z old → OneOther z heap at → Forgets old new (page z.shape at) (page z.shape at) → ArePages (with_heap heap z) new
pages-other z heap at old new a o = pages-renewed z heap at at old new a (other-renews z heap at o)

-- the old block is free first, and then the free one is the handle's
pub pages-relocated : (z : ZoneState) (old new : List (Option Sums)) (a : ArePages z old) (at : ℕ) (f : Forgets old new (page z.shape at) (page z.shape at)) (h k to : ℕ) (last : List (Option Sums)) (free : FreeAt z to) → Fits z → BlockOf z h at
    → Forgets new last (page z.shape to) (page z.shape to) → ArePages (relocated h k z free) last
pages-relocated z old new a at f h k to last free fits b =
    pages-other (with_heap (emptied_first z h fits b k) z) (relocated h k z free).heap to new last (pages-other z (emptied_first z h fits b k) at old new a (moved_out-other z h fits b k) f) (moved_in-other z h fits b k free)
