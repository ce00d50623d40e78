-- How the calls end that cut a free block in two and make one of two.
use Rattle.std.proofs.Common.{◌≡◌, ℕ, ◌+◌, ◌-◌, true, [], ◌∷◌, ◌++◌, refl, sym, ◌∙◌, subst, arith}
use Rattle.std.specs.List.{list_all}
use Rattle.std.proofs.lemmas.Bool.{and_parts, and_from}
use Rattle.mac_base.specs.declared.block.Entry.{Entry}
use Rattle.mac_base.specs.declared.block.Kind.TheVariants.{Free}
use Rattle.mac_base.specs.Heap.{front_slot}
use Rattle.mac_base.specs.Suits.{is_block_size}
use Rattle.mac_base.specs.ZoneMap.{ZoneMap, block}
use Rattle.mac_base.specs.ZoneState.{ZoneState}
use Rattle.zone_laws.proofs.Maps.{Exchanged}
use Rattle.zone_records.specs.Changes as records
use Rattle.zone_records.specs.Places as places
use Rattle.zone_records.specs.Records.{ZoneRecords}
use Rattle.linked_zone.specs.Changes.{with_map, cut_in_two, joined_pair}
use Rattle.linked_zone.specs.Fit.{Fits, has_room}
use Rattle.linked_zone.specs.Owned.{owners_of, records_of, slot_of}
use Rattle.linked_zone.specs.Places.{CanCut, FreePair}
use Rattle.linked_zone.proofs.Standing.{Stands, Kept}
use Rattle.linked_zone.proofs.Owning.{image-same}
use Rattle.linked_zone.proofs.Ends.{lower, middle, upper, parts-before, parts-after, parts-place, ended}
use Rattle.linked_zone.proofs.EndsSaid.{part-passes, size-room, size-sum}
use Rattle.linked_zone.proofs.ChangeCut.{cut_exchange, cut-fits, cut-pointers, joined_exchange, joined-fits, joined-pointers}

-- free blocks in place of others
free_ends : (r n : ZoneRecords) (z : ZoneState) (m : ZoneMap) (x : Exchanged z.heap.map m) → Stands r z → Fits (with_map m z) → ((y : ℕ) → slot_of (with_map m z) y ≡ slot_of z y)
    → list_all (λ (e : Entry). is_block_size z.shape e.size) x.right ≡ true → list_all (has_room z.shape) x.right ≡ true
    → n ≡ record { memory = z.memory; shape = z.shape; front = front_slot z.heap; blocks = lower (owners_of z) z.shape x.before ++ (middle (owners_of z) z.shape x.before x.right ++ upper (owners_of z) z.shape x.before x.left x.after) }
    → Kept n (with_map m z)
free_ends r n z m x held fits slots sizes rooms is = ended z (with_map m z).heap x r n held fits sizes rooms
    (parts-after z (with_map m z).heap x n (front_slot z.heap) (owners_of z) (λ y _. refl) (λ y _. refl) (λ y _. (refl, refl, refl)) (λ y _. (refl, refl, refl)) is
    ∙ sym (image-same z.memory z.shape (front_slot z.heap) (owners_of z) (owners_of (with_map m z)) m (λ y _. slots y) (λ y. refl) (λ y. refl) (λ y. refl)))

module _ (r : ZoneRecords) (z : ZoneState) (held : Stands r z) where
  module _ (at size : ℕ) (can : CanCut z at size) where
    abbrev cut : Exchanged z.heap.map (cut_in_two size z can.free).heap.map
    cut = cut_exchange z at size can.free can.smaller

    abbrev there : places.CanCut (records_of z) at size
    there = record {
      free = record {
        before = lower (owners_of z) z.shape can.free.before;
        size = can.free.size;
        after = upper (owners_of z) z.shape can.free.before cut.left can.free.after;
        blocks = parts-before z (cut_in_two size z can.free).heap cut;
        place = parts-place z (cut_in_two size z can.free).heap cut at can.free.place;
      };
      smaller = (let smaller = can.smaller in omega arith);
      front = can.front;
      rest = can.rest;
    }

    -- a free block of the zone can be cut in its blocks
    pub split-can : places.CanCut r at size
    split-can = subst (λ r. places.CanCut r at size) (sym held.blocks) there

    -- it is
    pub split-ends : (n : ZoneRecords) → ((can : places.CanCut r at size) → n ≡ records.cut_in_two size r can.free) → Kept n (cut_in_two size z can.free)
    split-ends n is = free_ends r n z (cut_in_two size z can.free).heap.map cut held (cut-fits z at size can.free can.smaller held.fits) (cut-pointers z at size can.free can.smaller)
        (and_from (is_block_size z.shape size) _ can.front (and_from (is_block_size z.shape (can.free.size - size)) true can.rest refl))
        (and_from (has_room z.shape (block Free size)) _ (size-room z.shape Free size refl can.front) (and_from (has_room z.shape (block Free (can.free.size - size))) true (size-room z.shape Free (can.free.size - size) refl can.rest) refl))
        ((subst (λ (r : ZoneRecords). (can : places.CanCut r at size) → n ≡ records.cut_in_two size r can.free) held.blocks is) there)

  module _ (at : ℕ) (pair : FreePair z at) where
    abbrev joined : Exchanged z.heap.map (joined_pair z pair).heap.map
    joined = joined_exchange z at pair

    abbrev both : places.FreePair (records_of z) at
    both = record {
      before = lower (owners_of z) z.shape pair.before;
      first = pair.first;
      second = pair.second;
      after = upper (owners_of z) z.shape pair.before joined.left pair.after;
      blocks = parts-before z (joined_pair z pair).heap joined;
      place = parts-place z (joined_pair z pair).heap joined at pair.place;
    }

    -- two free neighbours of the zone are neighbours in its blocks
    pub merge-can : places.FreePair r at
    merge-can = subst (λ r. places.FreePair r at) (sym held.blocks) both

    -- they are one
    pub merge-ends : (n : ZoneRecords) → ((pair : places.FreePair r at) → n ≡ records.joined_pair r pair) → Kept n (joined_pair z pair)
    merge-ends n is = free_ends r n z (joined_pair z pair).heap.map joined held (joined-fits z at pair held.fits) (joined-pointers z at pair)
        (and_from (is_block_size z.shape (pair.first + pair.second)) true size refl)
        (and_from (has_room z.shape (block Free (pair.first + pair.second))) true (size-room z.shape Free (pair.first + pair.second) refl size) refl)
        ((subst (λ (r : ZoneRecords). (pair : places.FreePair r at) → n ≡ records.joined_pair r pair) held.blocks is) both)
      where
        size : is_block_size z.shape (pair.first + pair.second) ≡ true
        size =
            let both = part-passes (λ (e : Entry). is_block_size z.shape e.size) pair.before (block Free pair.first ∷ block Free pair.second ∷ []) pair.after z.heap.map pair.map held.sizes in
            let first = and_parts (is_block_size z.shape pair.first) _ both in
            size-sum z.shape pair.first pair.second first.0 (and_parts (is_block_size z.shape pair.second) true first.1).0
