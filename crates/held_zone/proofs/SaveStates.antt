-- A zone that is made of its bytes is the zone that it was, and wakes in them so.
use Rattle.std.proofs.Common.{◌≡◌, ◌-◌, ℕ, List, [], ◌++◌, length, replicate, refl, ap, sym, ◌∙◌}
use Rattle.linked_zone.specs.Adopting.{IsZoneIn}
use Rattle.linked_zone.specs.Image.{IsImage}
use Rattle.linked_zone.specs.Sizes.{sizes_of}
use Rattle.linked_zone.specs.Structure.{HasStructure, shown}
use Rattle.linked_zone.proofs.OneZone.{one_zone}
use Rattle.linked_zone.proofs.Structured.{own-shown, own-structure}
use Rattle.mac_base.specs.Sound.{Sound}
use Rattle.mac_base.specs.ZoneSizes.{ZoneSizes, ArePossible}
use Rattle.mac_base.specs.ZoneState.{ZoneState, woken_in}
use Rattle.raw_region.specs.State.{State as Region}
use Rattle.held_zone.specs.Asleep.{awake_as, new_loans, with_these_lent}
use Rattle.held_zone.specs.Attaching.{IsIdle, IsZoneOf}
use Rattle.held_zone.specs.State.{State}
use Rattle.held_zone.proofs.LentAgain.{lent-none}
use Rattle.held_zone.proofs.Filled.{zone-in}

-- what is made of the image of a zone is the zone again, in other memory
pub restored_same : (old : ZoneState) (image : List ℕ) (new : ZoneState) → Sound old.shape old.heap → old.heap.table.lent ≡ []
    → ArePossible (sizes_of old) → length image ≡ (sizes_of old).size → IsImage old image → IsZoneOf (sizes_of old) image new → new ≡ record old { memory = new.memory }
restored_same old image new sound none possible long is made =
    let sizes = sizes_of old in
    let all : List ℕ = image ++ replicate (sizes.limit - length image) 0 in
    let within = possible.within in
    let before : IsZoneOf sizes image old = record { sizes_are = refl; sound = sound; nothing_lent = none; bytes = is } in
    one_zone sizes possible all new old (zone-in sizes image new long within made) (zone-in sizes image old long within before)

-- bytes have the structure of the zone that is attached in them, and it is awake in them with the contents and flags
-- that it had
pub attached_wakes : (sizes : ZoneSizes) (r : Region) (s : State) → IsZoneIn sizes r.bytes s.zone → IsIdle s
    → HasStructure s.zone r.bytes × (awake_as r s ≡ record s { zone = record s.zone { memory = woken_in s.zone.memory r.name } })
attached_wakes sizes r s zone idle =
    let same = own-shown s.zone zone.sound zone.nothing_lent r.bytes zone.inside in
    let none : with_these_lent s.waiting (shown s.zone r.bytes).heap ≡ s.zone.heap =
    (λ i. with_these_lent (idle.waiting i) (same i).heap) ∙ lent-none s.zone.heap zone.nothing_lent in
    let loans : new_loans (shown s.zone r.bytes).heap.table s.waiting ≡ s.loans = ap (new_loans (shown s.zone r.bytes).heap.table) idle.waiting ∙ sym idle.loans in (
      own-structure s.zone zone.sound zone.nothing_lent r.bytes zone.inside,
      λ i. record { zone = record s.zone { memory = woken_in s.zone.memory r.name; heap = none i }; loans = loans i; left = s.left; asks = s.asks; waiting = sym idle.waiting i; guest = s.guest; purges = s.purges },
    )
