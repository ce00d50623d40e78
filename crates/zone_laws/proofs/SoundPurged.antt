-- A sound heap stays sound where handles are purged.
use Rattle.std.proofs.Common.{arith, ◌≡◌, ℕ, true, List, [], ◌∷◌, ap, ◌∙◌, Contains}
use Rattle.std.proofs.lemmas.List.Elements.{All-contains, filter_passes}
use Rattle.std.proofs.lemmas.Bool.{and_parts}
use Rattle.mac_base.specs.HeadKind.{Shape}
use Rattle.mac_base.specs.ZoneMap.{ZoneMap}
use Rattle.mac_base.specs.HandleTable.{HandleTable, EmptyHandle, live_handle, is_handle}
use Rattle.mac_base.specs.Request.{candidates_in}
use Rattle.mac_base.specs.Heap.{Heap, with_emptied, with_all_emptied, all_purged}
use Rattle.mac_base.specs.Sound.{Sound}
use Rattle.zone_laws.proofs.Tables.{with_live_agrees, live_at-with_live_same, by_number, full_handle}
use Rattle.zone_laws.proofs.SlotPlaces.{Contains-here, Contains-later}
use Rattle.zone_laws.proofs.SoundReleased.{sound-emptied}

-- a handle stays one when another, or itself, becomes empty
pub is_handle-emptied : (heap : Heap) (h y : ℕ) → is_handle heap.table y ≡ true → is_handle (with_emptied heap h).table y ≡ true
is_handle-emptied heap h = by_number (λ y. is_handle heap.table y ≡ true → is_handle (with_emptied heap h).table y ≡ true) h
    (λ _. ap live_handle (live_at-with_live_same h EmptyHandle heap.table))
    (λ y apart live. ap live_handle ((with_live_agrees h EmptyHandle heap.table).others y apart) ∙ live)

-- some handles become empty
pub sound-all_emptied : (s : Shape) (hs : List ℕ) (heap : Heap) → Sound s heap → ((h : ℕ) → Contains hs h → is_handle heap.table h ≡ true) → Sound s (with_all_emptied hs heap)
sound-all_emptied s [] heap sound live = sound
sound-all_emptied s (h ∷ hs) heap sound live = sound-all_emptied s hs (with_emptied heap h) (sound-emptied s heap h sound (live h (Contains-here h hs)))
    (λ y c. is_handle-emptied heap h y (live y (Contains-later h hs y c)))

-- what may be purged is a handle
pub candidate-handle : (t : HandleTable) (protected : List ℕ) (m : ZoneMap) (h : ℕ) → Contains (candidates_in t protected m) h → is_handle t h ≡ true
candidate-handle t protected m h c = grind (arith, All-contains, and_parts, filter_passes, full_handle)

-- all handles that may be purged become empty
pub sound-all_purged : (s : Shape) (heap : Heap) → Sound s heap → Sound s (all_purged heap)
sound-all_purged s heap sound = sound-all_emptied s (candidates_in heap.table [] heap.map) heap sound (candidate-handle heap.table [] heap.map)
