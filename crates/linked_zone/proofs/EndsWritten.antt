-- What is left after a slice of the bytes of a handle or a pointer.
use Rattle.std.proofs.Common.{◌≡◌, ℕ, ◌+◌, ◌<◌, true, false, cond, eqb, List, [], ◌∷◌, ◌++◌, refl, ap, sym, ◌∙◌, arith}
use Rattle.std.specs.List.{list_all}
use Rattle.std.proofs.lemmas.Bool.Decides.{nat_tests}
use Rattle.std.proofs.lemmas.List.Folds.{list_all-append}
use Rattle.std.proofs.lemmas.Bool.{and_parts}
use Rattle.mac_base.specs.declared.block.Entry.{Entry}
use Rattle.mac_base.specs.HeadKind.{Shape, head_size, slot_count}
use Rattle.mac_base.specs.HandleTable.{bytes_of, has_block}
use Rattle.mac_base.specs.Heap.{front_slot}
use Rattle.mac_base.specs.ZoneMap.{ZoneMap, total_size, address_after}
use Rattle.mac_base.specs.ZoneState.{ZoneState, overwritten, with_contents}
use Rattle.zone_laws.proofs.Maps.{Exchanged}
use Rattle.zone_laws.proofs.Tables.{eqb_same}
use Rattle.zone_laws.proofs.SlotPlaces.{some_size}
use Rattle.zone_records.specs.Records.{ZoneRecords, BlockRecord, with_bytes}
use Rattle.zone_records.specs.Records as records
use Rattle.zone_records.specs.WritingBack.{overwritten_at, with_contents_at}
use Rattle.linked_zone.specs.Fit.{has_room}
use Rattle.linked_zone.specs.Owned.{Owners, owners_of, header_flags, content_of, lent_of, record_of, records_from}
use Rattle.linked_zone.specs.Places.{NamedAt}
use Rattle.linked_zone.proofs.Standing.{Stands, Kept}
use Rattle.linked_zone.proofs.Owning.{SameOf, same_but}
use Rattle.linked_zone.proofs.Ends.{lower, upper, parts-after, ended-same}
use Rattle.linked_zone.proofs.EndsSized.{flags-stay, content-named}
use Rattle.linked_zone.proofs.ChangeSized.{names-one}
use Rattle.linked_zone.proofs.ChangeWritten.{rewritten, written-fits, written-pointers, written-bytes, written-other_bytes}
use Rattle.linked_zone.proofs.Found.{named-held}

-- a block with bytes written over its own
abbrev written_over : List ℕ → BlockRecord → BlockRecord
written_over ws b = record b { content = with_bytes (overwritten (records.bytes_of b.content) ws) b.content }

-- the block at an address is written, and no other, where each before it has some bytes
overwritten-there : (o : Owners) (s : Shape) (start at : ℕ) (ws : List ℕ) (low : ZoneMap) (e : Entry) (high : ZoneMap) → list_all (has_room s) low ≡ true → at ≡ start + total_size low
    → overwritten_at start at ws (records_from o s start (low ++ e ∷ high))
    ≡ records_from o s start low ++ written_over ws (record_of o s (start + total_size low) e) ∷ records_from o s ((start + total_size low) + e.size) high
overwritten-there o s start at ws [] e high rooms place =
    let same : start ≡ start + 0 = omega arith in
    let here : eqb start at ≡ true = grind (arith, nat_tests) in
    ap (λ b. cond b (written_over ws (record_of o s start e) ∷ records_from o s (start + e.size) high) (record_of o s start e ∷ overwritten_at (start + e.size) at ws (records_from o s (start + e.size) high))) here
    ∙ ap (λ a. written_over ws (record_of o s a e) ∷ records_from o s (a + e.size) high) same
overwritten-there o s start at ws (f ∷ low) e high rooms place =
    let parts = and_parts (has_room s f) (list_all (has_room s) low) rooms in
    let some = some_size (head_size s.heads) slot_count f parts.0 in
    let apart : eqb start at ≡ false = differs start at f.size (total_size low) (omega arith) place in
    let same : (start + f.size) + total_size low ≡ start + total_size (f ∷ low) = omega arith in
    let bs = records_from o s (start + f.size) (low ++ e ∷ high) in
    ap (λ b. cond b (written_over ws (record_of o s start f) ∷ bs) (record_of o s start f ∷ overwritten_at (start + f.size) at ws bs)) apart
    ∙ ap (λ bs. record_of o s start f ∷ bs) (overwritten-there o s (start + f.size) at ws low e high parts.1 (omega arith)
    ∙ ap (λ a. records_from o s (start + f.size) low ++ written_over ws (record_of o s a e) ∷ records_from o s (a + e.size) high) same)
  where
    differs : (a b size more : ℕ) → 0 < size → b ≡ a + (size + more) → eqb a b ≡ false
    differs a b size more some is = grind (arith, nat_tests)

module _ (r : ZoneRecords) (z : ZoneState) (held : Stands r z) (x at : ℕ) (has : has_block z.heap.table x ≡ true) (place : NamedAt z x at) where
  abbrev start : ℕ
  start = address_after z.shape []

  abbrev there : ℕ
  there = (start + total_size place.before) + head_size z.shape.heads

  -- the blocks with other bytes in that of x
  abbrev pub refilled_there : List ℕ → List BlockRecord
  refilled_there bytes = lower (owners_of z) z.shape place.before
      ++ record { size = place.here.size; content = with_bytes bytes (content_of (owners_of z) there place.here.kind); lent = lent_of (owners_of z) place.here.kind } ∷ upper (owners_of z) z.shape place.before (place.here ∷ []) place.after

  -- they stand for the zone in which x has these
  pub rewritten-kept : (bytes : List ℕ) (m : ZoneRecords) → m ≡ record { memory = z.memory; shape = z.shape; front = front_slot z.heap; blocks = refilled_there bytes } → Kept m (rewritten z x bytes)
  rewritten-kept bytes m is =
      let w = rewritten z x bytes in
      let o = owners_of z in
      let q = owners_of w in
      let one = names-one z x place.before place.here place.after held.fits place.map place.named in
      let same : (y : ℕ) → eqb y x ≡ false → SameOf o q y = λ y apart.
      (ap (header_flags z.shape.heads) (flags-stay x bytes z.heap.table y), written-other_bytes z x bytes held.fits has y (λ is. absurd (cc (apart, is, eqb_same x))), refl) in
      let content : content_of q there place.here.kind ≡ with_bytes bytes (content_of o there place.here.kind) =
      content-named o q there x place.here.kind place.named (ap (header_flags z.shape.heads) (flags-stay x bytes z.heap.table x))
      ∙ ap (λ bytes. with_bytes bytes (content_of o there place.here.kind)) (written-bytes z x bytes held.fits has) in
      let whole : Exchanged z.heap.map w.heap.map = record { before = place.before; left = place.here ∷ []; right = place.here ∷ []; after = place.after; was = place.map; is = place.map; as_large = refl } in
      ended-same r m z w.heap held refl (written-fits z x bytes held.fits has)
      (parts-after z w.heap whole m (front_slot z.heap) q (λ y c. written-pointers z x bytes held.fits has y) (λ y c. written-pointers z x bytes held.fits has y)
      (same_but o q x place.before one.none_before same) (same_but o q x place.after one.none_after same)
      (is ∙ ap (λ c. record { memory = z.memory; shape = z.shape; front = front_slot z.heap; blocks = lower o z.shape place.before ++ (record { size = place.here.size; content = c; lent = lent_of o place.here.kind } ∷ upper o z.shape place.before (place.here ∷ []) place.after) }) (sym content)))

  -- what is left after a slice stands for the zone with these bytes written over the old ones
  pub lent-kept : (ws : List ℕ) → Kept (with_contents_at r at ws) (with_contents z x ws)
  lent-kept ws =
      let o = owners_of z in
      let rooms = (and_parts (list_all (has_room z.shape) place.before) _ (sym (ap (list_all (has_room z.shape)) place.map ∙ list_all-append (has_room z.shape) place.before (place.here ∷ place.after)) ∙ held.rooms)).0 in
      let address = place.place in
      let end : (start + total_size place.before) + place.here.size ≡ (start + total_size place.before) + total_size (place.here ∷ []) = omega arith in
      rewritten-kept (overwritten (bytes_of z.heap.table x) ws) (with_contents_at r at ws)
      (ap (λ r. with_contents_at r at ws) held.blocks
      ∙ ap (λ bs. record { memory = z.memory; shape = z.shape; front = front_slot z.heap; blocks = bs })
      (ap (λ m. overwritten_at start at ws (records_from o z.shape start m)) place.map
      ∙ overwritten-there o z.shape start at ws place.before place.here place.after rooms (omega arith)
      ∙ ap (λ a. lower o z.shape place.before ++ (written_over ws (record_of o z.shape (start + total_size place.before) place.here) ∷ records_from o z.shape a place.after)) end
      ∙ ap (λ old. refilled_there (overwritten old ws)) (named-held o there x place.here.kind place.named).1))
