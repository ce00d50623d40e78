-- The places of a handle's block and of a free block, and the blocks once the free one is the handle's.
use Rattle.std.proofs.Common.{◌≡◌, ℕ, true, false, eqb, [], ◌∷◌, ◌++◌, ap, sym, ◌∙◌, arith, append_assoc, inl, inr}
use Rattle.mac_base.specs.declared.block.Entry.{Entry}
use Rattle.mac_base.specs.declared.block.Kind.TheVariants as kind
use Rattle.mac_base.specs.HandleTable.{is_full}
use Rattle.mac_base.specs.ZoneMap.{ZoneMap, block, address_after}
use Rattle.mac_base.specs.ZoneState.{ZoneState}
use Rattle.zone_laws.proofs.Maps.{total_size-append}
use Rattle.zone_laws.proofs.Owners.{none_named}
use Rattle.zone_laws.proofs.Tables.{eqb_same}
use Rattle.zone_records.specs.Records.{Free, block_record, handle_record}
use Rattle.linked_zone.specs.Changes.{relocated}
use Rattle.linked_zone.specs.Fit.{Fits}
use Rattle.linked_zone.specs.Owned.{Owners, owners_of, records_from}
use Rattle.linked_zone.specs.Places.{FreeAt, BlockOf}
use Rattle.linked_zone.proofs.Owning.{SameOf}
use Rattle.linked_zone.proofs.ChangeBlock.{freed-none, freed-only, none_named-parts}
use Rattle.linked_zone.proofs.ChangeEmptied.{emptied-none_before, emptied-none_after}
use Rattle.linked_zone.proofs.TwoPlaces.{Between, either-first, TwoPlaces, turned_round, spread_places, spread-from, spread-same}

-- The places of the block of h and of a free one, what is there, and what is once that is the block of h.
pub record Moving (z : ZoneState) (h n from at : ℕ) (b : BlockOf z h from) (free : FreeAt z at) : Type 0 where
  pub places : TwoPlaces z.shape from at b.size free.size
  pub was : records_from (owners_of z) z.shape (address_after z.shape []) z.heap.map
      ≡ places.listed (handle_record h ((owners_of z).flags h) ((owners_of z).bytes h) b.size ((owners_of z).lent h)) (block_record Free free.size)
  pub is : (q : Owners) → ((y : ℕ) → q.slot y ≡ (owners_of z).slot y) → ((y : ℕ) → eqb y h ≡ false → SameOf (owners_of z) q y)
      → records_from q z.shape (address_after z.shape []) (relocated h n z free).heap.map ≡ places.listed (block_record Free b.size) (handle_record h (q.flags h) (q.bytes h) free.size (q.lent h))

module _ (z : ZoneState) (h n from at : ℕ) (fits : Fits z) (full : is_full z.heap.table h ≡ true) (b : BlockOf z h from) (free : FreeAt z at) where
  abbrev o : Owners
  o = owners_of z

  abbrev old : Entry
  old = block (kind.Rel h) b.size

  abbrev room : Entry
  room = block kind.Free free.size

  -- the handle's block is below the free one
  from_below : Between b.before b.after old free.before free.after room → Moving z h n from at b free
  from_below w =
      let none = emptied-none_before z h fits full from b in
      let others = none_named-parts h w.mid room free.after (ap (none_named h) (sym w.lower) ∙ emptied-none_after z h fits full from b) in
      let place = free.place in
      let sum = ap (address_after z.shape) w.upper in
      let parts = total_size-append b.before (old ∷ w.mid) in
      record {
        places = spread_places o z.shape b.before b.size w.mid free.size free.after from at b.place (omega arith);
        was = ap (records_from o z.shape (address_after z.shape [])) (b.map ∙ ap (λ (m : ZoneMap). b.before ++ old ∷ m) w.lower)
            ∙ spread-from o z.shape b.before b.size w.mid free.size free.after (kind.Rel h) kind.Free;
        is = λ q slot same.
            ap (records_from q z.shape (address_after z.shape []))
            ((λ i. freed-only h free.before b.before old w.mid w.upper (eqb_same h) none others.0 i ++ block (kind.Rel h) free.size ∷ freed-none h free.after others.1 i)
            ∙ append_assoc b.before (block kind.Free b.size ∷ w.mid) (block (kind.Rel h) free.size ∷ free.after))
            ∙ spread-from q z.shape b.before b.size w.mid free.size free.after kind.Free (kind.Rel h)
            ∙ spread-same o z.shape b.before b.size w.mid free.size free.after q h none others.0 others.1 slot same
            (block_record Free b.size) (handle_record h (q.flags h) (q.bytes h) free.size (q.lent h));
      }

  -- it is above
  from_above : Between free.before free.after room b.before b.after old → Moving z h n from at b free
  from_above w =
      let none = emptied-none_after z h fits full from b in
      let others = none_named-parts h free.before room w.mid (ap (none_named h) (sym w.upper) ∙ emptied-none_before z h fits full from b) in
      let place = b.place in
      let sum = ap (address_after z.shape) w.upper in
      let parts = total_size-append free.before (room ∷ w.mid) in
      record {
        places = turned_round (spread_places o z.shape free.before free.size w.mid b.size b.after at from free.place (omega arith));
        was = ap (records_from o z.shape (address_after z.shape [])) (free.map ∙ ap (λ (m : ZoneMap). free.before ++ room ∷ m) w.lower)
            ∙ spread-from o z.shape free.before free.size w.mid b.size b.after kind.Free (kind.Rel h);
        is = λ q slot same.
            ap (records_from q z.shape (address_after z.shape []))
            (λ i. freed-none h free.before others.0 i ++ block (kind.Rel h) free.size ∷ freed-only h free.after w.mid old b.after w.lower (eqb_same h) others.1 none i)
            ∙ spread-from q z.shape free.before free.size w.mid b.size b.after (kind.Rel h) kind.Free
            ∙ spread-same o z.shape free.before free.size w.mid b.size b.after q h others.0 others.1 none slot same
            (handle_record h (q.flags h) (q.bytes h) free.size (q.lent h)) (block_record Free b.size);
      }

  -- so both have their places
  pub moving : Moving z h n from at b free
  moving = elim (either-first b.before b.after free.before free.after old room (sym b.map ∙ free.map) (λ same. let kinds : kind.Rel h ≡ kind.Free = ap (λ (e : Entry). e.kind) same in cc kinds)) [
    | inl w ↦ from_below w
    | inr w ↦ from_above w
  ]
