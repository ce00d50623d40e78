-- How growth to the limit ends.
use Rattle.std.proofs.Common.{◌≡◌, ℕ, ◌+◌, ◌-◌, ◌%◌, ◌<◌, ◌≤◌, Bool, true, false, cond, eqb, [], ◌∷◌, ◌++◌, refl, ap, sym, ◌∙◌, arith}
use Rattle.std.proofs.lemmas.Bool.Decides.{nat_tests}
use Rattle.mac_base.specs.declared.block.Entry.{Entry}
use Rattle.mac_base.specs.declared.block.HeadKind.TheVariants.{Bits24, Bits32}
use Rattle.mac_base.specs.declared.block.Kind.TheVariants.{Free}
use Rattle.mac_base.specs.HeadKind.{Shape, zone_header}
use Rattle.mac_base.specs.Heap.{front_slot}
use Rattle.mac_base.specs.Suits.{is_block_size}
use Rattle.mac_base.specs.ZoneMap.{block, free_block, total_size, address_after}
use Rattle.mac_base.specs.ZoneSizes.{ArePossible}
use Rattle.mac_base.specs.ZoneState.{ZoneState}
use Rattle.zone_records.specs.Changes as records
use Rattle.zone_records.specs.Changes.{free_record}
use Rattle.zone_records.specs.Records.{ZoneRecords}
use Rattle.zone_records.specs.Records as blocks
use Rattle.linked_zone.specs.Changes.{extended}
use Rattle.linked_zone.specs.Fit.{has_room}
use Rattle.linked_zone.specs.Owned.{Owners, owners_of, records_of, records_from}
use Rattle.linked_zone.specs.Sizes.{sizes_of}
use Rattle.linked_zone.proofs.Standing.{Stands, Kept, kept}
use Rattle.linked_zone.proofs.Owning.{records_from-append, records-total, image-same}
use Rattle.linked_zone.proofs.EndsSaid.{size-room}
use Rattle.linked_zone.proofs.ChangeExtended.{extended-total, extended-fits, extended-pointers, passes-after}

-- a free block of n bytes is one in the blocks too
records_from-free : (o : Owners) (s : Shape) (at n : ℕ) → records_from o s at (free_block n) ≡ free_record n
records_from-free o s at n = by_test (eqb n 0)
  where
    by_test : (b : Bool) → records_from o s at (cond b [] (block Free n ∷ [])) ≡ cond b [] (blocks.block_record blocks.Free n ∷ [])
    by_test true = refl
    by_test false = refl

-- enough bytes make a block
enough : (s : Shape) (n : ℕ) → n % 4 ≡ 0 → 16 ≤ n → is_block_size s n ≡ true
enough s n even large = elim s.heads as (λ heads. is_block_size (record s { heads = heads }) n ≡ true) [ Bits24 ↦ grind (arith, nat_tests) | Bits32 ↦ grind (arith, nat_tests) ]

module _ (r : ZoneRecords) (z : ZoneState) (held : Stands r z) (possible : ArePossible (sizes_of z)) where
  abbrev left : ℕ
  left = z.shape.limit - (zone_header + total_size z.heap.map)

  -- the bytes up to the limit are none, or make a block
  left-size : 0 < left → is_block_size z.shape left ≡ true
  left-size some =
      let even = possible.even_size in
      let even' = possible.even_limit in
      let growth = possible.growth (omega arith) in
      enough z.shape left (omega arith) (omega arith)

  -- the blocks of the grown zone
  left-blocks : records.extended (records_of z) ≡ records_of (extended z)
  left-blocks =
      let o = owners_of z in
      let at = address_after z.shape [] in
      ap (λ k. record { memory = z.memory; shape = z.shape; front = front_slot z.heap; blocks = records_from o z.shape at z.heap.map ++ free_record (z.shape.limit - (zone_header + k)) }) (records-total o z.shape at z.heap.map)
      ∙ ap (λ bs. record { memory = z.memory; shape = z.shape; front = front_slot z.heap; blocks = records_from o z.shape at z.heap.map ++ bs }) (sym (records_from-free o z.shape (at + total_size z.heap.map) left))
      ∙ ap (λ bs. record { memory = z.memory; shape = z.shape; front = front_slot z.heap; blocks = bs }) (sym (records_from-append o z.shape at z.heap.map (free_block left)))
      ∙ sym (image-same z.memory z.shape (front_slot z.heap) o (owners_of (extended z)) (extended z).heap.map (λ x _. extended-pointers z x) (λ x. refl) (λ x. refl) (λ x. refl))

  -- the zone is grown to its limit
  pub extend-ends : (n : ZoneRecords) → n ≡ records.extended r → Kept n (extended z)
  extend-ends n is =
      let total = extended-total z held.within in
      kept n (extended z) (record {
        blocks = is ∙ ap records.extended held.blocks ∙ left-blocks;
        fits = extended-fits z held.fits;
        sizes = passes-after (λ (e : Entry). is_block_size z.shape e.size) z.heap.map left held.sizes left-size;
        rooms = passes-after (has_room z.shape) z.heap.map left held.rooms (λ some. size-room z.shape Free left refl (left-size some));
        within = omega arith;
        even = held.even;
        low = held.low;
        high = held.high;
      })
