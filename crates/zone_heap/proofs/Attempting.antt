-- Attempts to place a block, by the zone in which room was made for it.
use Rattle.std.proofs.Common.{◌≡◌, ℕ, ◌+◌, ◌<◌, ◌≤◌, Bool, true, false, [], ◌∷◌, ◌++◌, Some, None, Option, refl, ap, sym, ◌∙◌, subst, append_assoc, IsFalse}
use Rattle.std.specs.Prelude.{is_some, not, slice_index, option_map, option_and_then}
use Rattle.mac_base.specs.declared.block.Entry.{Entry}
use Rattle.mac_base.specs.declared.block.Kind.{Kind}
use Rattle.mac_base.specs.declared.block.Kind.TheVariants.{Free, Master, Ptr, Rel}
use Rattle.mac_base.specs.declared.request.Request.{Request}
use Rattle.mac_base.specs.declared.request.Request.TheVariants.{NewBlock, NewPointer, NewMaster, Reserve}
use Rattle.mac_base.specs.Gap.{Gap, gaps, filled, some_gap_has}
use Rattle.mac_base.specs.HeadKind.{need, head_size, master_length}
use Rattle.mac_base.specs.Heap.{Heap, front_slot, granted, has_none}
use Rattle.mac_base.specs.Request.{fits}
use Rattle.mac_base.specs.Serve.{begins_free, cleared, contents_at_gap, gives, placed_fixed, placed_relocatable, serve, take_lowest, taken}
use Rattle.mac_base.specs.ZoneMap.{ZoneMap, block}
use Rattle.mac_base.specs.ZoneState.{ZoneState}
use Rattle.zone_laws.proofs.Fitting.{begins_free-cleared, is_some-lowest_gap, size_needed-positive, serve-NewBlock, serve-NewPointer, serve-NewMaster, serve-Reserve}
use Rattle.zone_laws.proofs.GapParts.{lowest_gap-is}
use Rattle.zone_laws.proofs.Placing.{has_free-is}
use Rattle.linked_zone.specs.Places.{LowestAt}
use Rattle.zone_heap.specs.Gaps.{with_gap}
use Rattle.zone_heap.specs.Attempts.{IsServed, IsRefused, SoundZone, lacks_slot}
use Rattle.zone_heap.specs.declared.shortage.Shortage.TheVariants.{NoRoom}
use Rattle.zone_heap.specs.Room.{IsCleared, IsOpened, LacksRoom}
use Rattle.zone_heap.proofs.Finding.{before_none}
use Rattle.zone_heap.proofs.Masters.{first_slot, master_map, master_taken, master_zone}
use Rattle.zone_heap.proofs.Placing.{Chosen, lowest-taken, placed_map, placed_zone}
use Rattle.zone_heap.proofs.Pointers.{ChosenBlock, pointer_at, pointer_map, pointer_taken, pointer_zone}
use Rattle.zone_heap.proofs.Taking.{take_lowest-there}

-- ---- no room

-- what isn't there is none
pub none_of : {A : Type 0} (o : Option A) → is_some o ≡ false → o ≡ None
none_of None h = refl
none_of (Some a) h = absurd (cc h)

-- a request for k bytes that is served exactly where it fits is refused where no gap has room for them
pub refused : (old new : ZoneState) (r : Request) (k : ℕ) → IsFalse (lacks_slot r old.heap) → fits old.shape old.heap.table r old.heap.map ≡ some_gap_has k (gaps old.heap.table old.heap.map)
    → is_some (serve old.shape old.heap.table (front_slot old.heap) old.heap.map r) ≡ fits old.shape old.heap.table r old.heap.map → LacksRoom k old new → IsRefused r old NoRoom new
refused old new r k slot size served lacks =
    let few = size ∙ sym (is_some-lowest_gap old.heap.table k old.heap.map) ∙ ap is_some lacks.0 in
    (slot, few, ap (option_map (λ (found : ℕ × ZoneMap). (found.0, granted r found.0 found.1 old.heap))) (none_of _ (served ∙ few)), lacks.1)

module _ (old new : ZoneState) (k n : ℕ) (size : k ≡ need old.shape.heads n) (lacks : LacksRoom k old new) where
  fits_size : some_gap_has (need old.shape.heads n) (gaps old.heap.table old.heap.map) ≡ some_gap_has k (gaps old.heap.table old.heap.map)
  fits_size = ap (λ k. some_gap_has k (gaps old.heap.table old.heap.map)) (sym size)

  pub block_refused : has_none old.heap.free_slots ≡ false → IsRefused (NewBlock n) old NoRoom new
  block_refused slot = refused old new (NewBlock n) k slot fits_size (serve-NewBlock old.shape old.heap.table (front_slot old.heap) old.heap.map n) lacks

  pub pointer_refused : IsRefused (NewPointer n) old NoRoom new
  pointer_refused = refused old new (NewPointer n) k refl fits_size (serve-NewPointer old.shape old.heap.table (front_slot old.heap) old.heap.map n) lacks

  pub reserve_refused : IsRefused (Reserve n) old NoRoom new
  reserve_refused = refused old new (Reserve n) k refl fits_size (serve-Reserve old.shape old.heap.table (front_slot old.heap) old.heap.map n) lacks

pub master_refused : (old new : ZoneState) (k : ℕ) → k ≡ need old.shape.heads master_length → LacksRoom k old new → IsRefused NewMaster old NoRoom new
master_refused old new k size lacks =
    refused old new NewMaster k refl (ap (λ k. some_gap_has k (gaps old.heap.table old.heap.map)) (sym size)) (serve-NewMaster old.shape old.heap.table (front_slot old.heap) old.heap.map) lacks

-- ---- a relocatable block

-- a new handle has its block in the zone in which room was made
pub block_served : (old z last : ZoneState) (h n k at : ℕ) → IsOpened old k at z → (p : Chosen z h n k at) → has_none old.heap.free_slots ≡ false → last ≡ placed_zone z h n k at p → IsServed (NewBlock n) old h last
block_served old z last h n k at o p slot is =
    let s = old.shape in
    let t = old.heap.table in
    let m = placed_map z h n k at p in
    let give : ℕ → Option ZoneMap → Option (ℕ × Heap) = λ x found. option_map (λ (f : ℕ × ZoneMap). (f.0, granted (NewBlock n) f.0 f.1 old.heap)) (option_map (gives x) found) in
    let front : front_slot old.heap ≡ h = ap (λ (w : ZoneState). front_slot w.heap) (sym o.zone) ∙ ap (λ xs. slice_index xs 0) p.front in
    let size : need s.heads n ≡ k = ap (λ (w : ZoneState). need w.shape.heads n) (sym o.zone) ∙ sym p.size in
    let found : placed_relocatable s t (need s.heads n) (Rel h) old.heap.map ≡ Some m =
    ap (λ k. placed_relocatable s t k (Rel h) old.heap.map) size ∙ o.taken (Rel h) ∙ ap (λ (w : ZoneState). take_lowest w.shape k (Rel h) w.heap.map) (sym o.zone)
    ∙ ap (λ k. take_lowest z.shape k (Rel h) z.heap.map) p.size ∙ lowest-taken z h n k at p in (
      slot,
      ap (λ x. give x (placed_relocatable s t (need s.heads n) (Rel x) old.heap.map)) front ∙ ap (give h) found ∙ ap (λ (w : ZoneState). Some (h, granted (NewBlock n) h m w.heap)) (sym o.zone) ∙ ap (λ (w : ZoneState). Some (h, w.heap)) (sym is),
      ap (λ (w : ZoneState). w.shape) is ∙ ap (λ (w : ZoneState). w.shape) o.zone,
    )

-- ---- a block that stays

-- blocks that begin with k free bytes
record FrontFree (k : ℕ) (b : ZoneMap) : Type 0 where
  pub size : ℕ
  pub back : ZoneMap
  pub was : b ≡ block Free size ∷ back
  pub large : k ≤ size

front_free : (k : ℕ) (b : ZoneMap) → begins_free k b ≡ true → FrontFree k b
front_free k [] begins = absurd (cc begins)
front_free k (e ∷ es) begins =
    let free = has_free-is k e begins in
    record { size = e.size; back = es; was = ap (λ kind. let here : Entry = record { size = e.size; kind = kind } in here ∷ es) free.0; large = free.1 }

module _ (old new : ZoneState) (k at n : ℕ) (size : k ≡ need old.shape.heads n) (c : IsCleared old k at new) where
  abbrev g : Gap
  g = c.gap

  -- some bytes are needed
  some : 0 < k
  some = subst (λ k. 0 < k) (sym size) (size_needed-positive old.shape (Reserve n))

  -- the gap begins with them
  front : FrontFree k (cleared k g.blocks)
  front = front_free k (cleared k g.blocks) (begins_free-cleared k g.blocks some (lowest_gap-is old.heap.table old.heap.map k g c.lowest).1)

  map_parts : filled g (cleared k g.blocks) ≡ g.before ++ block Free front.size ∷ (front.back ++ g.after)
  map_parts = ap (filled g) front.was ∙ append_assoc g.before (block Free front.size ∷ front.back) g.after

  -- they are the lowest free block with room
  cleared_low : LowestAt new k at
  cleared_low = subst (λ w. LowestAt w k at) (sym c.zone) (let low : LowestAt (with_gap old g (cleared k g.blocks)) k at = record {
    free = record { before = g.before; size = front.size; after = front.back ++ g.after; map = map_parts; place = c.start };
    large = front.large;
    lowest = before_none old.heap.table k old.heap.map g c.lowest;
  } in low)

  -- and can be chosen
  pub chosen_cleared : SoundZone new → ChosenBlock new n k at
  chosen_cleared s = record { sound = s.sound; low = cleared_low; size = size ∙ ap (λ (w : ZoneState). need w.shape.heads n) (sym c.zone) }

  -- a block that stays takes them
  cleared_taken : (kind : ℕ → Kind) → placed_fixed old.shape old.heap.table k kind old.heap.map
      ≡ option_map (λ m. (at + head_size new.shape.heads, m)) (take_lowest new.shape k (kind (at + head_size new.shape.heads)) new.heap.map)
  cleared_taken kind = there ∙ ap (λ (w : ZoneState). option_map (λ m. (at + head_size w.shape.heads, m)) (take_lowest w.shape k (kind (at + head_size w.shape.heads)) w.heap.map)) (sym c.zone)
    where
      in_gap : Gap → Option (ℕ × ZoneMap)
      in_gap g = option_map (λ blocks. (contents_at_gap old.shape g, filled g blocks)) (take_lowest old.shape k (kind (contents_at_gap old.shape g)) (cleared k g.blocks))

      there : placed_fixed old.shape old.heap.table k kind old.heap.map
          ≡ option_map (λ m. (at + head_size old.shape.heads, m)) (take_lowest old.shape k (kind (at + head_size old.shape.heads)) (filled g (cleared k g.blocks)))
      there =
          let s = old.shape in
          let p = contents_at_gap s g in
          let block_there = taken s k (kind p) front.size in
          ap (option_and_then (λ (g : Gap). option_map (λ blocks. (contents_at_gap s g, filled g blocks)) (take_lowest s k (kind (contents_at_gap s g)) (cleared k g.blocks)))) c.lowest
          ∙ ap (option_map (λ blocks. (p, filled g blocks))) (ap (take_lowest s k (kind p)) front.was ∙ take_lowest-there s k (kind p) [] front.size front.back refl front.large)
          ∙ ap (λ m. Some (p, m)) (append_assoc g.before (block_there ++ front.back) g.after ∙ ap (λ m. g.before ++ m) (append_assoc block_there front.back g.after))
          ∙ sym (ap (option_map (λ m. (p, m))) (ap (take_lowest s k (kind p)) map_parts ∙ take_lowest-there s k (kind p) g.before front.size (front.back ++ g.after) (before_none old.heap.table k old.heap.map g c.lowest) front.large))
          ∙ ap (λ at. option_map (λ m. (at + head_size s.heads, m)) (take_lowest s k (kind (at + head_size s.heads)) (filled g (cleared k g.blocks)))) (sym c.start)

  -- a new pointer has its block in the zone in which room was made
  pub pointer_served : (last : ZoneState) (p : ChosenBlock new n k at) → last ≡ pointer_zone new n k at p → IsServed (NewPointer n) old (pointer_at new n k at p) last
  pointer_served last p is =
      let x = pointer_at new n k at p in
      let m = pointer_map new n k at p in
      let give : Option (ℕ × ZoneMap) → Option (ℕ × Heap) = option_map (λ (f : ℕ × ZoneMap). (f.0, granted (NewPointer n) f.0 f.1 old.heap)) in (
        refl,
        ap (λ k. give (placed_fixed old.shape old.heap.table k (λ q. Ptr q) old.heap.map)) (sym size) ∙ ap give (cleared_taken (λ q. Ptr q))
            ∙ ap (λ o. give (option_map (λ m. (x, m)) o)) (ap (λ k. take_lowest new.shape k (Ptr x) new.heap.map) p.size ∙ pointer_taken new n k at p)
            ∙ ap (λ (w : ZoneState). Some (x, granted (NewPointer n) x m w.heap)) (sym c.zone) ∙ ap (λ (w : ZoneState). Some (x, w.heap)) (sym is),
        ap (λ (w : ZoneState). w.shape) is ∙ ap (λ (w : ZoneState). w.shape) c.zone,
      )

-- a request for a master block is served with the block that was chosen
pub master_served : (old new : ZoneState) (k at : ℕ) (size : k ≡ need old.shape.heads master_length) (c : IsCleared old k at new) (last : ZoneState) (p : ChosenBlock new master_length k at) → last ≡ master_zone new k at p → IsServed NewMaster old (first_slot new k at p) last
master_served old new k at size c last p is =
    let x = first_slot new k at p in
    let m = master_map new k at p in
    let give : Option (ℕ × ZoneMap) → Option (ℕ × Heap) = option_map (λ (f : ℕ × ZoneMap). (f.0, granted NewMaster f.0 f.1 old.heap)) in (
      refl,
      ap (λ k. give (placed_fixed old.shape old.heap.table k (λ q. Master) old.heap.map)) (sym size) ∙ ap give (cleared_taken old new k at master_length size c (λ q. Master))
          ∙ ap (λ o. give (option_map (λ m. (x, m)) o)) (master_taken new k at p)
          ∙ ap (λ (w : ZoneState). Some (x, granted NewMaster x m w.heap)) (sym c.zone) ∙ ap (λ (w : ZoneState). Some (x, w.heap)) (sym is),
      ap (λ (w : ZoneState). w.shape) is ∙ ap (λ (w : ZoneState). w.shape) c.zone,
    )

-- where a slot is there, some are free
pub slot_there : (there none : Bool) → there ≡ not none → there ≡ true → none ≡ false
slot_there there true is h = absurd (cc (is, h))
slot_there there false is h = refl
