-- A new master block is placed: a free block is cut, and then it has the slots.
use Rattle.std.proofs.Common.{◌≡◌, ℕ, ◌+◌, ◌≤◌, ◌∷◌, ◌++◌, Some, refl, ap, sym, ◌∙◌, subst, arith, IsTrue}
use Rattle.std.specs.List.{list_all}
use Rattle.mac_base.specs.declared.block.Entry.{Entry}
use Rattle.mac_base.specs.declared.block.Kind.TheVariants.{Free, Master}
use Rattle.mac_base.specs.declared.request.Request.TheVariants.{NewMaster}
use Rattle.mac_base.specs.Heap.{granted}
use Rattle.mac_base.specs.HeadKind.{head_size, master_length, slot_count}
use Rattle.mac_base.specs.Serve.{take_lowest, taken}
use Rattle.mac_base.specs.Sound.{Sound}
use Rattle.mac_base.specs.Suits.{is_block_size, slots_from}
use Rattle.mac_base.specs.ZoneMap.{ZoneMap, block, is_named, address_after, total_size}
use Rattle.mac_base.specs.ZoneState.{ZoneState}
use Rattle.zone_laws.proofs.Lent.{KeepsLent, contents_of-same}
use Rattle.zone_laws.proofs.Maps.{total_size-append}
use Rattle.zone_laws.proofs.Placing.{TakenAt}
use Rattle.zone_laws.proofs.SuitsTaken.{addresses-untaken}
use Rattle.zone_laws.proofs.SoundMaster.{sound-master_taken}
use Rattle.linked_zone.specs.Changes.{with_master}
use Rattle.linked_zone.specs.Places.{FreeAt, RoomFor}
use Rattle.zone_heap.specs.Joins.{CanTake, with_front}
use Rattle.zone_heap.proofs.Contents.{head-within}
use Rattle.zone_heap.proofs.Pointers.{ChosenBlock, block_room, cut-is}
use Rattle.zone_heap.proofs.Taking.{taken-parts, take_lowest-there}

-- a free block's contents begin within the zone's limit
pub contents_near : (z : ZoneState) (at : ℕ) → Sound z.shape z.heap → FreeAt z at → at + head_size z.shape.heads ≤ z.shape.base + z.shape.limit
contents_near z at sound f =
    let e = block Free f.size in
    let all : total_size z.heap.map ≡ total_size f.before + (f.size + total_size f.after) = ap total_size f.map ∙ total_size-append f.before (e ∷ f.after) in
    let large = head-within z.shape f.before e f.after (subst (λ m. IsTrue (list_all (λ (e : Entry). is_block_size z.shape e.size) m)) f.map sound.suits.sizes) in
    let within = sound.within in
    let place = f.place in
    omega arith

module _ (z : ZoneState) (k at : ℕ) (c : ChosenBlock z master_length k at) where
  -- the address of the first slot
  abbrev pub first_slot : ℕ
  first_slot = at + head_size z.shape.heads

  -- the map with the master block
  abbrev pub master_map : ZoneMap
  master_map = c.low.free.before ++ (taken z.shape k Master c.low.free.size ++ c.low.free.after)

  -- and the zone
  abbrev pub master_zone : ZoneState
  master_zone = record { memory = z.memory; shape = z.shape; heap = granted NewMaster first_slot master_map z.heap }

  -- the map is what it was once the lowest block is taken
  pub master_taken : take_lowest z.shape k Master z.heap.map ≡ Some master_map
  master_taken = ap (take_lowest z.shape k Master) c.low.free.map ∙ take_lowest-there z.shape k Master c.low.free.before c.low.free.size c.low.free.after c.low.lowest c.low.large

  master_at : TakenAt z.shape k Master z.heap.map master_map
  master_at = record { before = c.low.free.before; size = c.low.free.size; after = c.low.free.after; was = c.low.free.map; is = refl; fits = c.low.large }

  -- the zone stays sound
  pub master-sound : Sound z.shape master_zone.heap
  master-sound =
      subst (λ j. (a : TakenAt z.shape j Master z.heap.map master_map) → first_slot ≡ address_after z.shape a.before + head_size z.shape.heads → Sound z.shape master_zone.heap) (sym c.size)
      (λ a here. sound-master_taken z.shape z.heap first_slot master_map c.sound a here)
      (record { before = c.low.free.before; size = c.low.free.size; after = c.low.free.after; was = c.low.free.map; is = refl; fits = c.low.large })
      (ap (λ a. a + head_size z.shape.heads) c.low.free.place)

  -- and what is lent is kept
  pub master-keeps : KeepsLent z.shape z.heap master_zone.heap
  master-keeps = record {
    lent = refl;
    contents = λ x lent. contents_of-same z.shape x z.heap.map master_map (addresses-untaken z.shape k Master z.heap.map master_map master_at (is_named x) refl refl);
    long = λ x lent. refl;
    fixed = λ x lent fixed. fixed;
  }

  -- once the free block is cut, it becomes that zone
  pub master-done : (cut last : ZoneState) → ((take : CanTake z at k) → cut ≡ with_front z take) → ((r : RoomFor cut at master_length) → last ≡ with_master cut r.free) → last ≡ master_zone
  master-done cut last front build =
      subst (λ w. (r : RoomFor w at master_length) → last ≡ with_master w r.free) (cut-is z master_length k at c cut front) build (block_room z master_length k at c)
      ∙ ap (λ m. let new : ZoneState = record { memory = z.memory; shape = z.shape; heap = record { table = z.heap.table; map = c.low.free.before ++ m; free_slots = slots_from slot_count first_slot ++ z.heap.free_slots } } in new)
      (sym (taken-parts z.shape k Master c.low.free.size c.low.free.after))
