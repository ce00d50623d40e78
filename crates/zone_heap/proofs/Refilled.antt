-- A sound zone stays sound where it is another but for contents.
use Rattle.std.proofs.Common.{◌≡◌, length, Option, Some, None, refl, ap, sym, ◌∙◌, subst}
use Rattle.std.specs.Prelude.{Bool, ◌||◌, ◌==◌}
use Rattle.std.specs.List.{list_any}
use Rattle.std.specs.Ordering.{nat_cmp}
use Rattle.std.specs.FinMap.{is_sorted}
use Rattle.mac_base.specs.HandleTable.{Live, EmptyHandle, FullHandle, Pointer, live_bytes, live_flags, live_full, live_handle, live_pointer}
use Rattle.mac_base.specs.Heap.{Heap, with_table}
use Rattle.mac_base.specs.Sound.{Sound}
use Rattle.mac_base.specs.ZoneState.{ZoneState}
use Rattle.linked_zone.specs.Structure.{DifferInContents, blank_live}
use Rattle.linked_zone.proofs.Shown.{sorted-each}
use Rattle.zone_laws.proofs.SoundWritten.{SameShape, sound-same_shape}
use Rattle.zone_index.proofs.Alike.{AreAlike, alike-same, alike-tables, blank, blank-full, blank-handle, blank-long, blank-pointer}
use Rattle.zone_heap.specs.Attempts.{SoundZone}

-- a pointer or a locked handle is one
abbrev stays : Option Live → Bool
stays o = live_pointer o || (live_flags o).lock

blank-stays : (o : Option Live) → stays (blank o) ≡ stays o
blank-stays None = refl
blank-stays (Some EmptyHandle) = refl
blank-stays (Some (FullHandle flags bytes)) = refl
blank-stays (Some (Pointer bytes)) = refl

pub sound-refilled : (z w : ZoneState) → DifferInContents z w → SoundZone z → SoundZone w
sound-refilled z w d s =
    let alike : AreAlike z.heap.table w.heap.table = alike-tables z.heap w.heap d.heap in
    let rise = sym (sorted-each (λ x. blank_live) w.heap.table.live) ∙ ap (λ (h : Heap). is_sorted nat_cmp h.table.live) (sym d.heap) ∙ sorted-each (λ x. blank_live) z.heap.table.live ∙ s.sound.suits.coherent.in_order in
    let lent = ap (λ (h : Heap). h.table.lent) d.heap in
    let shape : SameShape z.heap.table w.heap.table = record {
      full = alike-same live_full blank-full z.heap.table w.heap.table alike;
      pointer = alike-same live_pointer blank-pointer z.heap.table w.heap.table alike;
      long = alike-same (λ o. length (live_bytes o)) blank-long z.heap.table w.heap.table alike;
    } in
    let with_new : Sound z.shape (with_table w.heap.table z.heap) = sound-same_shape z.shape z.heap w.heap.table s.sound shape (alike-same live_handle blank-handle z.heap.table w.heap.table alike) rise in
    record {
      sound = subst (λ (heap : Heap). Sound w.shape heap) (λ i. record { table = w.heap.table; map = (d.heap i).map; free_slots = (d.heap i).free_slots }) (subst (λ s. Sound s (with_table w.heap.table z.heap)) d.shape with_new);
      fixed = λ x is. alike-same stays blank-stays z.heap.table w.heap.table alike x ∙ s.fixed x (ap (list_any (λ y. y == x)) lent ∙ is);
    }
