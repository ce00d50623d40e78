-- Bytes have at most one zone of some sizes in them: who adopts the bytes of a zone gets this zone.
use Rattle.std.proofs.Common.{◌≡◌, ℕ, ◌<◌, ◌^◌, List, [], ◌∷◌, ◌++◌, map, refl, ap, sym, ◌∙◌, subst, arith, Contains}
use Rattle.std.specs.Prelude.{slice_index}
use Rattle.byteorder.specs.Endian.{big_number}
use Rattle.mac_base.proofs.Reach.{end-small}
use Rattle.mac_base.specs.Heap.{front_slot}
use Rattle.mac_base.specs.Sound.{Sound}
use Rattle.mac_base.specs.ZoneSizes.{ZoneSizes, ArePossible, shape_of}
use Rattle.mac_base.specs.ZoneState.{ZoneState}
use Rattle.raw_region.specs.Bytes.{part}
use Rattle.block_bytes.proofs.AdoptedBlocks.{same-blocks}
use Rattle.block_bytes.proofs.ZoneHeads.{front-read}
use Rattle.block_bytes.specs.Layout.{Layout, address_after, free_total, first_free, rendered}
use Rattle.block_bytes.specs.ZoneHead.{front_field}
use Rattle.zone_laws.proofs.SlotPlaces.{Contains-here}
use Rattle.zone_records.specs.Reading.{record_in}
use Rattle.zone_records.specs.Records.{ZoneRecords}
use Rattle.linked_zone.specs.Adopting.{IsZoneIn}
use Rattle.linked_zone.specs.Owned.{records_of}
use Rattle.linked_zone.specs.Reading.{state_in}
use Rattle.linked_zone.specs.Sizes.{sizes_of}
use Rattle.linked_zone.specs.Structure.{IsIn}
use Rattle.linked_zone.proofs.AdoptedBack.{blocks-in, layout_in, stands-in}
use Rattle.linked_zone.proofs.EndsSaid.{slot-range}
use Rattle.linked_zone.proofs.ReadBack.{read_back}

module _ (spec : ZoneSizes) (possible : ArePossible spec) (bytes : List ℕ) where
  module _ (z : ZoneState) (zone : IsZoneIn spec bytes z) where
    abbrev l : Layout
    l = layout_in spec possible bytes z zone

    -- its first free slot is an address
    front-small : front_slot z.heap < 2 ^ 32
    front-small = by_slots z.heap.free_slots (λ x c.
        let range = (slot-range (records_of z) z (stands-in spec possible bytes z zone) x (((stands-in spec possible bytes z zone).fits.slots.free x).0 c).0).1 in
        let end = end-small z.shape.heads in omega arith)
      where
        by_slots : (xs : List ℕ) → ((x : ℕ) → Contains xs x → x < 0x1_0000_0000) → slice_index xs 0 < 2 ^ 32
        by_slots [] each = let none : 0 < 0x1_0000_0000 = omega arith in none
        by_slots (x ∷ xs) each = each x (Contains-here x xs)

    -- the zone's header says it
    front-there : big_number 4 (part bytes front_field 4) ≡ front_slot z.heap
    front-there =
        let first : l.front ≡ front_slot z.heap = ap (λ (r : ZoneRecords). r.front) zone.inside.image.same in
        ap (λ (xs : List ℕ). big_number 4 (part xs front_field 4)) (sym (blocks-in spec possible bytes z zone).image)
        ∙ front-read (address_after l l.blocks) l.front (free_total l.heads l.blocks) (first_free l.heads (address_after l []) l.blocks) (rendered l.heads l.base l.blocks ++ l.spare) (subst (λ n. n < 2 ^ 32) (sym first) front-small)
        ∙ first

    shape-there : z.shape ≡ shape_of spec
    shape-there = λ i. record { heads = (zone.sizes i).heads; base = (zone.sizes i).base; limit = (zone.sizes i).limit }

    blocks-there : (records_of z).blocks ≡ map (record_in spec.heads spec.base) l.blocks
    blocks-there =
        let inside = blocks-in spec possible bytes z zone in
        ap (λ (r : ZoneRecords). r.blocks) (sym zone.inside.image.same) ∙ (λ i. map (record_in (inside.heads i) (inside.base i)) l.blocks)

    read-there : state_in (records_of z) ≡ z
    read-there = let stands = stands-in spec possible bytes z zone in read_back z stands.fits stands.rooms stands.low

  -- two zones in the bytes are the same but for their memory
  pub one_zone : (z w : ZoneState) → IsZoneIn spec bytes z → IsZoneIn spec bytes w → z ≡ record w { memory = z.memory }
  one_zone z w first second =
      let one = blocks-in spec possible bytes z first in
      let two = blocks-in spec possible bytes w second in
      let shape = shape-there z first ∙ sym (shape-there w second) in
      let front : front_slot z.heap ≡ front_slot w.heap = sym (front-there z first) ∙ front-there w second in
      let blocks : (records_of z).blocks ≡ (records_of w).blocks =
      blocks-there z first
      ∙ ap (map (record_in spec.heads spec.base)) (same-blocks spec possible bytes one.all (layout_in spec possible bytes z first) (layout_in spec possible bytes w second) one two)
      ∙ sym (blocks-there w second) in
      let records : records_of z ≡ record (records_of w) { memory = z.memory } = λ i. record { memory = z.memory; shape = shape i; front = front i; blocks = blocks i } in
      sym (read-there z first) ∙ ap state_in records ∙ ap (λ (s : ZoneState). record s { memory = z.memory }) (read-there w second)

-- a sound zone of which nothing is lent is the one in its bytes
pub own_zone : (z : ZoneState) (bytes : List ℕ) → Sound z.shape z.heap → z.heap.table.lent ≡ [] → IsIn z bytes → IsZoneIn (sizes_of z) bytes z
own_zone z bytes sound none inside = record { sizes = refl; sound = sound; nothing_lent = none; inside = inside }

-- so who adopts these bytes gets the zone again
pub zone_again : (z : ZoneState) (bytes : List ℕ) → ArePossible (sizes_of z) → Sound z.shape z.heap → z.heap.table.lent ≡ [] → IsIn z bytes → (w : ZoneState) → IsZoneIn (sizes_of z) bytes w → w ≡ record z { memory = w.memory }
zone_again z bytes possible sound none inside w zone = one_zone (sizes_of z) possible bytes w z zone (own_zone z bytes sound none inside)
