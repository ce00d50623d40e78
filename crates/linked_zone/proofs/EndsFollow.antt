-- How a slot follows its handle's block to another place.
use Rattle.std.proofs.Common.{◌≡◌, ℕ, Bool, true, false, cond, eqb, refl, ap, sym, ◌∙◌, subst, Contains}
use Rattle.std.specs.Prelude.{⊤}
use Rattle.std.specs.List.{list_all}
use Rattle.std.proofs.lemmas.Bool.{eqb-true}
use Rattle.mac_base.specs.declared.block.Flags.{Flags}
use Rattle.mac_base.specs.declared.block.Kind.{Kind}
use Rattle.mac_base.specs.declared.block.Kind.TheVariants as kind
use Rattle.mac_base.specs.HeadKind.{Shape}
use Rattle.mac_base.specs.Suits.{slots}
use Rattle.mac_base.specs.ZoneMap.{ZoneMap, is_named}
use Rattle.mac_base.specs.ZoneState.{Memory}
use Rattle.zone_laws.proofs.Tables.{eqb_swap}
use Rattle.zone_records.specs.declared.slot.Slot.{Slot}
use Rattle.zone_records.specs.declared.slot.Slot.TheVariants as slot
use Rattle.zone_records.specs.Changes.{with_slot}
use Rattle.zone_records.specs.Places.{SlotAt, can_say}
use Rattle.zone_records.specs.Records.{ZoneRecords, with_blocks}
use Rattle.linked_zone.specs.Fit.{has_room}
use Rattle.linked_zone.specs.Following.{moved_to, CanMove, CanFollow, followed}
use Rattle.linked_zone.specs.Owned.{Owners}
use Rattle.linked_zone.specs.Places.{is_movable}
use Rattle.linked_zone.proofs.Owning.{image, slot_set, slot-at, slot-written}

-- ---- in any blocks

-- the block is a handle's
follows : (z : ZoneRecords) (k : Kind) (h contents : ℕ) → k ≡ kind.Rel h → (can : CanFollow z k contents) → (move : CanMove z h contents) × (followed z k contents can ≡ with_slot (moved_to contents move.there.here) z move.there)
follows z k h contents is = subst (λ k. (can : CanFollow z k contents) → (move : CanMove z h contents) × (followed z k contents can ≡ with_slot (moved_to contents move.there.here) z move.there)) (sym is) (λ can. (can, refl))

-- what has no block says the same
stays : (said : Slot) (contents : ℕ) → ((flags : Flags) (old : ℕ) → said ≡ slot.Full flags old → ⊥) → moved_to contents said ≡ said
stays (slot.Free next) contents other = refl
stays slot.Empty contents other = refl
stays (slot.Full flags old) contents other = absurd (other flags old refl)

module _ (z : ZoneRecords) (k : Kind) (h number contents : ℕ) (is : k ≡ kind.Rel h) (same : number ≡ h) where
  -- so its slot stays
  pub follow-kept : (said : Slot) → ((s : SlotAt z number) → said ≡ s.here) → ((flags : Flags) (old : ℕ) → said ≡ slot.Full flags old → ⊥) → (can : CanFollow z k contents) → z ≡ followed z k contents can
  follow-kept said reads other can =
      let f = follows z k h contents is can in
      let here : said ≡ f.0.there.here = (subst (λ n. (s : SlotAt z n) → said ≡ s.here) same reads) f.0.there in
      sym (f.1 ∙ ap (λ w. with_slot w z f.0.there) (ap (moved_to contents) (sym here) ∙ stays said contents other ∙ here) ∙ ap (λ bs. with_blocks bs z) (sym f.0.there.blocks))

  module _ (flags : Flags) (old : ℕ) (reads : (s : SlotAt z number) → slot.Full flags old ≡ s.here) (can : CanFollow z k contents) where
    there : moved_to contents (follows z k h contents is can).0.there.here ≡ slot.Full flags contents
    there = ap (moved_to contents) (sym ((subst (λ n. (s : SlotAt z n) → slot.Full flags old ≡ s.here) same reads) (follows z k h contents is can).0.there))

    -- a handle's can say where the contents begin
    pub follow-said : can_say z.shape.heads (slot.Full flags contents) ≡ true
    follow-said = ap (can_say z.shape.heads) (sym there) ∙ (follows z k h contents is can).0.said

    -- and says so
    pub follow-written : (again : ℕ) (n : ZoneRecords) → again ≡ h → ((s : SlotAt z again) → n ≡ with_slot (slot.Full flags contents) z s) → n ≡ followed z k contents can
    follow-written again n too writes =
        let f = follows z k h contents is can in
        (subst (λ a. (s : SlotAt z a) → n ≡ with_slot (slot.Full flags contents) z s) too writes) f.0.there ∙ ap (λ w. with_slot w z f.0.there) (sym there) ∙ sym f.1

-- ---- in the blocks of a map

-- the owners whose slot follows
abbrev pub following : Kind → ℕ → Owners → Owners
following kind.Free contents o = o
following kind.Master contents o = o
following (kind.Ptr p) contents o = o
following (kind.Rel h) contents o = slot_set o h (moved_to contents (o.slot h))

-- what is known of the slot of a handle's block
abbrev pub Follows : Owners → Shape → ZoneMap → Kind → ℕ → Type 0
Follows o s m kind.Free contents = ⊤
Follows o s m kind.Master contents = ⊤
Follows o s m (kind.Ptr p) contents = ⊤
Follows o s m (kind.Rel h) contents = Contains (slots s m) h × (can_say s.heads (moved_to contents (o.slot h)) ≡ true)

-- where it is known, it is so of the kind of a handle's block
pub follows-from : (o : Owners) (s : Shape) (m : ZoneMap) (k : Kind) (contents : ℕ) → ((h : ℕ) → k ≡ kind.Rel h → Contains (slots s m) h × (can_say s.heads (moved_to contents (o.slot h)) ≡ true)) → Follows o s m k contents
follows-from o s m kind.Free contents each = tt
follows-from o s m kind.Master contents each = tt
follows-from o s m (kind.Ptr p) contents each = tt
follows-from o s m (kind.Rel h) contents each = each h refl

module _ (memory : Memory) (s : Shape) (front : ℕ) (o : Owners) (m : ZoneMap) (rooms : list_all (has_room s) m ≡ true) (contents : ℕ) where
  abbrev can_follow : (k : Kind) → Follows o s m k contents → CanFollow (image memory s front o m) k contents
  can_follow kind.Free known = tt
  can_follow kind.Master known = tt
  can_follow (kind.Ptr p) known = tt
  can_follow (kind.Rel h) known = record { there = slot-at memory s front o m h rooms known.0; said = known.1 }

  is_followed : (k : Kind) (known : Follows o s m k contents) → followed (image memory s front o m) k contents (can_follow k known) ≡ image memory s front (following k contents o) m
  is_followed kind.Free known = refl
  is_followed kind.Master known = refl
  is_followed (kind.Ptr p) known = refl
  is_followed (kind.Rel h) known = slot-written memory s front o m h rooms known.0 (moved_to contents (o.slot h))

  -- a slot among them can follow
  pub following-can : (r : ZoneRecords) (k : Kind) → r ≡ image memory s front o m → Follows o s m k contents → CanFollow r k contents
  following-can r k is known = subst (λ r. CanFollow r k contents) (sym is) (can_follow k known)

  -- and they are those of the owners with it
  pub following-image : (r n : ZoneRecords) (k : Kind) → r ≡ image memory s front o m → Follows o s m k contents → ((can : CanFollow r k contents) → n ≡ followed r k contents can) → n ≡ image memory s front (following k contents o) m
  following-image r n k is known then = (subst (λ (r : ZoneRecords). (can : CanFollow r k contents) → n ≡ followed r k contents can) is then) (can_follow k known) ∙ is_followed k known

-- what each slot says then
pub following-slot : (k : Kind) (contents : ℕ) (o : Owners) (y : ℕ) → is_movable k ≡ true → (following k contents o).slot y ≡ cond (is_named y k) (moved_to contents (o.slot y)) (o.slot y)
following-slot kind.Free contents o y moves = refl
following-slot kind.Master contents o y moves = refl
following-slot (kind.Ptr p) contents o y moves = absurd (cc moves)
following-slot (kind.Rel h) contents o y moves = ap (λ b. cond b (moved_to contents (o.slot h)) (o.slot y)) (eqb_swap y h) ∙ by_test (eqb h y) refl
  where
    by_test : (b : Bool) → eqb h y ≡ b → cond b (moved_to contents (o.slot h)) (o.slot y) ≡ cond b (moved_to contents (o.slot y)) (o.slot y)
    by_test true is = ap (λ x. moved_to contents (o.slot x)) (eqb-true h y is)
    by_test false is = refl

-- the flags and bytes stay
pub following-flags : (k : Kind) (contents : ℕ) (o : Owners) (y : ℕ) → (following k contents o).flags y ≡ o.flags y
following-flags kind.Free contents o y = refl
following-flags kind.Master contents o y = refl
following-flags (kind.Ptr p) contents o y = refl
following-flags (kind.Rel h) contents o y = refl

pub following-bytes : (k : Kind) (contents : ℕ) (o : Owners) (y : ℕ) → (following k contents o).bytes y ≡ o.bytes y
following-bytes kind.Free contents o y = refl
following-bytes kind.Master contents o y = refl
following-bytes (kind.Ptr p) contents o y = refl
following-bytes (kind.Rel h) contents o y = refl

-- and what is lent
pub following-lent : (k : Kind) (contents : ℕ) (o : Owners) (y : ℕ) → (following k contents o).lent y ≡ o.lent y
following-lent kind.Free contents o y = refl
following-lent kind.Master contents o y = refl
following-lent (kind.Ptr p) contents o y = refl
following-lent (kind.Rel h) contents o y = refl
