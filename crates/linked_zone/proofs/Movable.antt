-- Blocks that may move: what is in one, and what the slot of its handle can say.
use Rattle.std.proofs.Common.{◌≡◌, ℕ, true, false, refl, Option, Some, None}
use Rattle.std.proofs.lemmas.Bool.{not-true}
use Rattle.mac_base.specs.declared.block.Flags.{Flags}
use Rattle.mac_base.specs.declared.block.HeadKind.{HeadKind}
use Rattle.mac_base.specs.declared.block.Kind.{Kind}
use Rattle.mac_base.specs.declared.block.Kind.TheVariants as kind
use Rattle.mac_base.specs.HandleTable.{Live, EmptyHandle, FullHandle, Pointer, live_full}
use Rattle.mac_base.specs.Loans.{is_here}
use Rattle.mac_base.specs.ZoneState.{ZoneState}
use Rattle.zone_records.specs.declared.slot.Slot.TheVariants as slot
use Rattle.zone_records.specs.Places.{can_say}
use Rattle.linked_zone.specs.Following.{moved_to}
use Rattle.linked_zone.specs.Owned.{Owners, owners_of, content_of, lent_of, slot_flags, slot_of_live}
use Rattle.linked_zone.specs.Places.{is_movable}

-- what is in a block that may move is the same elsewhere
pub content-moves : (o : Owners) (a b : ℕ) (k : Kind) → is_movable k ≡ true → content_of o a k ≡ content_of o b k
content-moves o a b kind.Free moves = refl
content-moves o a b kind.Master moves = absurd (cc moves)
content-moves o a b (kind.Ptr p) moves = absurd (cc moves)
content-moves o a b (kind.Rel h) moves = refl

-- what isn't lent has a block that isn't
pub here-unlent : (z : ZoneState) (k : Kind) → is_here z.heap.table k ≡ true → lent_of (owners_of z) k ≡ false
here-unlent z kind.Free here = refl
here-unlent z kind.Master here = refl
here-unlent z (kind.Ptr p) here = not-true _ here
here-unlent z (kind.Rel h) here = not-true _ here

-- a handle's slot can say where its block's contents are to begin
pub moved-said : (heads : HeadKind) (l : Option Live) (old new next : ℕ) → live_full l ≡ true → ((flags : Flags) → can_say heads (slot.Full (slot_flags heads flags) new) ≡ true) → can_say heads (moved_to new (slot_of_live heads l old next)) ≡ true
moved-said heads None old new next full said = absurd (cc full)
moved-said heads (Some EmptyHandle) old new next full said = absurd (cc full)
moved-said heads (Some (FullHandle flags bytes)) old new next full said = said flags
moved-said heads (Some (Pointer bytes)) old new next full said = absurd (cc full)
