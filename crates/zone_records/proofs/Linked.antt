-- Where each block is right by itself, handles' blocks and slots find each other, and nothing can be joined or cut.
use Rattle.std.proofs.Common.{◌≡◌, ℕ, ◌+◌, ◌*◌, ◌<◌, Bool, true, ◌||◌, ◌&&◌, List, [], ◌∷◌, ◌++◌, length, map, refl, ap, sym, ◌∙◌, subst, arith, Contains, append_assoc}
use Rattle.std.specs.Prelude.{◌^◌}
use Rattle.std.specs.List.{list_all}
use Rattle.std.proofs.lemmas.Bool.{and_parts, and_from}
use Rattle.std.proofs.lemmas.List.Folds.{list_all-append}
use Rattle.mac_base.specs.declared.block.Flags.{Flags}
use Rattle.mac_base.specs.declared.block.HeadKind.{HeadKind}
use Rattle.mac_base.specs.HeadKind.{head_size, zone_header}
use Rattle.mac_base.specs.Suits.{has_length}
use Rattle.mac_base.specs.ZoneSizes.{ZoneSizes, ArePossible}
use Rattle.mac_base.specs.ZoneState.{Memory}
use Rattle.raw_region.specs.Bytes.{part}
use Rattle.byteorder.specs.Endian.{big_number}
use Rattle.block_bytes.specs.declared.header.Role.{Role}
use Rattle.block_bytes.specs.declared.header.Role.TheVariants as role
use Rattle.block_bytes.specs.Layout as raw
use Rattle.block_bytes.specs.Adopting as blocks
use Rattle.block_bytes.specs.Layout.{RawBlock, Layout, BlockAt, size_of, image_of, free_total, first_free, rendered}
use Rattle.block_bytes.specs.ZoneHead.{front_field}
use Rattle.block_bytes.proofs.AdoptedBlocks.{same-blocks}
use Rattle.block_bytes.proofs.ZoneHeads.{front-read}
use Rattle.block_bytes.proofs.Same.{same-block}
use Rattle.block_bytes.proofs.Walking.{size_of-pos}
use Rattle.zone_records.specs.declared.slot.Slot.TheVariants as slot
use Rattle.zone_records.specs.Adopting.{AreChained, AreLinked, AreTight, Follow, HasBlock, HasSlot}
use Rattle.zone_records.specs.Linking.{AreRight, LinkedAs, TightAs, Names}
use Rattle.zone_records.specs.Places.{FreePair, HandleBlockAt, is_free}
use Rattle.zone_records.specs.Reading.{AreSound, content_in, has_use, record_in, records_in}
use Rattle.zone_records.specs.Records.{BlockRecord, ZoneRecords, Free, block_record, length_of}
use Rattle.zone_records.specs.Slots.{slots_of_zone}
use Rattle.zone_records.proofs.Apart.{read, read-append, total-append}
use Rattle.zone_records.proofs.Held.{held-read, sound-one, two, address-is}
use Rattle.zone_records.proofs.Headers.{length-same}
use Rattle.zone_records.proofs.Holding.{handle-block, handle-is}
use Rattle.zone_records.proofs.Looking.{of-block, free-record, sound-parts}
use Rattle.zone_records.proofs.MasterBlocks.{image-long}
use Rattle.zone_records.proofs.Ranked.{within}
use Rattle.zone_records.proofs.ZoneSlots.{slot-address, slot-in, slot-listed}

-- a role that says a free block
free-role : (heads : HeadKind) (base : ℕ) (r : Role) (bytes : List ℕ) → content_in heads base r bytes ≡ Free → r ≡ role.Free
free-role heads base role.Free bytes is = refl
free-role heads base role.Fixed bytes is = absurd (cc is)
free-role heads base role.Master bytes is = absurd (cc is)
free-role heads base (role.Relocatable offset flags) bytes is = absurd (cc is)

module _ (l : Layout) (sound : AreSound l) where
  abbrev z : ZoneRecords
  z = records_in l

  -- the handle's block that a block of bytes is
  pub handle-at : (at : ℕ) (b : BlockAt l at) (offset : ℕ) (flags : Flags) → b.here.role ≡ role.Relocatable offset flags → (h : HandleBlockAt z at) × (h.handle ≡ l.base + offset)
  handle-at at b offset flags is =
      let r = of-block l z (held-read l sound) at b in (
        record {
          before = r.before;
          size = size_of l.heads b.here;
          handle = l.base + offset;
          flags = flags;
          bytes = b.here.contents;
          lent = b.here.lent;
          after = r.after;
          blocks = r.blocks ∙ ap (λ (k : Role). r.before ++ record { size = size_of l.heads b.here; content = content_in l.heads l.base k b.here.contents; lent = b.here.lent } ∷ r.after) is;
          place = r.place;
        },
        refl,
      )

  -- by its slot
  pub linked-slot : AreRight l → (at : ℕ) (b : HandleBlockAt z at) → HasSlot z at b
  linked-slot right at b =
      let block = handle-block l z (held-read l sound) at b in let said = handle-is l z (held-read l sound) at b in
      let named : Names z (l.base + said.0) (at + head_size l.heads) = subst (λ r. LinkedAs l at r block.here.contents) said.1 (right at block).linked in
      record { flags = named.0; slot_is = subst (λ h. Contains (slots_of_zone z) (h, slot.Full named.0 (at + head_size l.heads))) said.2 named.1 }

  -- by its block
  pub linked-block : AreRight l → (h : ℕ) (flags : Flags) (contents : ℕ) → Contains (slots_of_zone z) (h, slot.Full flags contents) → HasBlock z h contents
  linked-block right h flags contents c =
      let i = slot-in l sound h (slot.Full flags contents) c in
      let keep = subst (λ r. LinkedAs l i.at r i.block.here.contents) i.master (right i.at i.block).linked in
      subst (λ n. HasBlock z n contents) (sym i.place) (keep i.index i.few flags contents (sym i.said))

  pub linked-made : AreRight l → AreChained z → AreLinked z
  linked-made right free = record { blocks = linked-slot right; slots = linked-block right; free = free }

  -- and conversely
  linked-as : AreLinked z → (at : ℕ) (b : BlockAt l at) (r : Role) → b.here.role ≡ r → LinkedAs l at r b.here.contents
  unfolding handle-at
  linked-as links at b role.Free is = tt
  linked-as links at b role.Fixed is = tt
  linked-as links at b role.Master is = λ k few flags contents says.
      links.slots (at + head_size l.heads + 4 * k) flags contents
      (slot-listed l sound (at + head_size l.heads + 4 * k) (slot.Full flags contents) (record { at = at; block = b; master = is; index = k; few = few; place = refl; said = sym says }))
  linked-as links at b (role.Relocatable offset flags) is =
      let h = handle-at at b offset flags is in let has = links.blocks at h.0 in (has.flags, has.slot_is)

  -- two free neighbours
  tight-apart : AreRight l → (at : ℕ) → FreePair z at → ⊥
  tight-apart right at p =
      let held = held-read l sound in
      let t = two l z held p.before (block_record Free p.first) (block_record Free p.second) p.after p.blocks in
      let first : t.block.role ≡ role.Free = free-role l.heads l.base t.block.role t.block.contents (ap (λ (r : BlockRecord). r.content) t.same) in
      let second : t.other.role ≡ role.Free = free-role l.heads l.base t.other.role t.other.contents (ap (λ (r : BlockRecord). r.content) t.same_other) in
      let b : BlockAt l at = record { before = t.first; here = t.block; after = t.other ∷ t.rest; blocks = t.blocks; place = p.place ∙ address-is l z held t.first p.before t.lower } in
      let total = total-append l.heads t.first (t.block ∷ []) in let place = b.place in
      let c : BlockAt l (at + size_of l.heads t.block) = record {
        before = t.first ++ t.block ∷ [];
        here = t.other;
        after = t.rest;
        blocks = t.blocks ∙ sym (append_assoc t.first (t.block ∷ []) (t.other ∷ t.rest));
        place = omega arith;
      } in
      subst (λ r. TightAs l at r (size_of l.heads t.block) (length t.block.contents)) first (right at b).tight c second

  -- lengths
  abbrev has_by : HeadKind → ℕ → Role → List ℕ → ℕ → Type 0
  has_by heads base r bytes size = (is_free (content_in heads base r bytes) || has_length z.shape size (length_of (content_in heads base r bytes))) ≡ true

  length_by : (r : Role) (bytes : List ℕ) (at size : ℕ) → has_use l.base r (length bytes) ≡ true → TightAs l at r size (length bytes) → has_by l.heads l.base r bytes size
  length_by role.Free bytes at size used tight = refl
  length_by role.Fixed bytes at size used tight = tight
  length_by role.Master bytes at size used tight = ap (has_length z.shape size) (sym (length-same l.heads l.base role.Master bytes used (λ is. absurd (cc is)))) ∙ tight
  length_by (role.Relocatable offset flags) bytes at size used tight = tight

  lengths_from : AreRight l → (before after : List RawBlock) → l.blocks ≡ before ++ after → list_all (λ (b : BlockRecord). is_free b.content || has_length z.shape b.size (length_of b.content)) (read l.heads l.base after) ≡ true
  lengths_from right before [] is = refl
  lengths_from right before (b ∷ bs) is =
      let at = raw.address_after l before in
      let used = (sound-parts l.heads l.base b (sound-one l before b bs sound is)).use_is in
      and_from _ _ (length_by b.role b.contents at (size_of l.heads b) used (right at (record { before = before; here = b; after = bs; blocks = is; place = refl })).tight)
      (lengths_from right (before ++ b ∷ []) bs (is ∙ sym (append_assoc before (b ∷ []) bs)))

  pub tight-made : AreRight l → AreTight z
  tight-made right = record { apart = tight-apart right; lengths = lengths_from right [] l.blocks refl }

  -- and conversely
  tight_used : (r : Role) (bytes : List ℕ) (at size : ℕ) → has_use l.base r (length bytes) ≡ true → (r ≡ role.Free → ⊥) → has_by l.heads l.base r bytes size → has_length z.shape size (length bytes) ≡ true
  tight_used role.Free bytes at size used other has = absurd (other refl)
  tight_used role.Fixed bytes at size used other has = has
  tight_used role.Master bytes at size used other has = ap (has_length z.shape size) (length-same l.heads l.base role.Master bytes used other) ∙ has
  tight_used (role.Relocatable offset flags) bytes at size used other has = has

  one_has : AreTight z → (at : ℕ) (b : BlockAt l at) → has_by l.heads l.base b.here.role b.here.contents (size_of l.heads b.here)
  one_has tight at b =
      let p : BlockRecord → Bool = (λ (b : BlockRecord). is_free b.content || has_length z.shape b.size (length_of b.content)) in
      let before = read l.heads l.base b.before in let rest = read l.heads l.base (b.here ∷ b.after) in
      let all : (list_all p before && list_all p rest) ≡ true = sym (list_all-append p before rest) ∙ ap (list_all p) (sym (ap (read l.heads l.base) b.blocks ∙ read-append l.heads l.base b.before (b.here ∷ b.after))) ∙ tight.lengths in
      (and_parts _ _ (and_parts (list_all p before) (list_all p rest) all).1).0

  -- the block after one
  pub next-is : (at : ℕ) (b : BlockAt l at) (next : BlockAt l (at + size_of l.heads b.here)) → (rest : List RawBlock) × (b.after ≡ next.here ∷ rest)
  next-is at b next = from b.after b.blocks
    where
      from : (after : List RawBlock) → l.blocks ≡ b.before ++ b.here ∷ after → (rest : List RawBlock) × (after ≡ next.here ∷ rest)
      from [] is =
          let place = b.place in let sum = ap (raw.total_of l.heads) is in let more = total-append l.heads b.before (b.here ∷ []) in
          let end = (within l (at + size_of l.heads b.here) next).1 in let some = size_of-pos l.heads next.here in absurd (omega arith)
      from (c ∷ cs) is =
          let place = b.place in let total = total-append l.heads b.before (b.here ∷ []) in
          let mine : BlockAt l (at + size_of l.heads b.here) = record {
            before = b.before ++ b.here ∷ [];
            here = c;
            after = cs;
            blocks = is ∙ sym (append_assoc b.before (b.here ∷ []) (c ∷ cs));
            place = omega arith;
          } in
          (cs, ap (λ (x : RawBlock). x ∷ cs) (same-block l (at + size_of l.heads b.here) mine next))

  apart_as : AreTight z → (at : ℕ) (b : BlockAt l at) → b.here.role ≡ role.Free → (next : BlockAt l (at + size_of l.heads b.here)) → next.here.role ≡ role.Free → ⊥
  apart_as tight at b free next other =
      let n = next-is at b next in
      let r = of-block l z (held-read l sound) at b in
      let first = free-record l.heads l.base b.here free (sound-one l b.before b.here b.after sound b.blocks) in
      let second = free-record l.heads l.base next.here other (sound-one l next.before next.here next.after sound next.blocks) in
      tight.apart at (record {
        before = r.before;
        first = size_of l.heads b.here;
        second = size_of l.heads next.here;
        after = read l.heads l.base n.0;
        blocks = r.blocks ∙ (λ i. r.before ++ first i ∷ (ap (read l.heads l.base) n.1 ∙ ap (λ (x : BlockRecord). x ∷ read l.heads l.base n.0) second) i);
        place = r.place;
      })

  used_as : AreTight z → (at : ℕ) (b : BlockAt l at) (r : Role) → b.here.role ≡ r → (r ≡ role.Free → ⊥) → has_length z.shape (size_of l.heads b.here) (length b.here.contents) ≡ true
  used_as tight at b r is other =
      tight_used b.here.role b.here.contents at (size_of l.heads b.here) (sound-parts l.heads l.base b.here (sound-one l b.before b.here b.after sound b.blocks)).use_is (λ free. other (sym is ∙ free)) (one_has tight at b)

  tight-as : AreTight z → (at : ℕ) (b : BlockAt l at) (r : Role) → b.here.role ≡ r → TightAs l at r (size_of l.heads b.here) (length b.here.contents)
  tight-as tight at b role.Free is = apart_as tight at b is
  tight-as tight at b role.Fixed is = used_as tight at b role.Fixed is (λ no. absurd (cc no))
  tight-as tight at b role.Master is = used_as tight at b role.Master is (λ no. absurd (cc no))
  tight-as tight at b (role.Relocatable offset flags) is = used_as tight at b (role.Relocatable offset flags) is (λ no. absurd (cc no))

  -- so all blocks are right where links and sizes are
  pub right-made : AreLinked z → AreTight z → AreRight l
  right-made links tight at b = record { linked = linked-as links at b b.here.role refl; tight = tight-as tight at b b.here.role refl }

-- a zone's memory has no part in it
module _ (z : ZoneRecords) (memory : Memory) where
  abbrev named : ZoneRecords
  named = record z { memory = memory }

  links-named : AreLinked named → AreLinked z
  links-named links = record {
    blocks = λ at b. let h = links.blocks at (record { before = b.before; size = b.size; handle = b.handle; flags = b.flags; bytes = b.bytes; lent = b.lent; after = b.after; blocks = b.blocks; place = b.place }) in
        record { flags = h.flags; slot_is = h.slot_is };
    slots = λ h flags contents c. let k = links.slots h flags contents c in let b = k.block in record {
      at = k.at;
      block = record { before = b.before; size = b.size; handle = b.handle; flags = b.flags; bytes = b.bytes; lent = b.lent; after = b.after; blocks = b.blocks; place = b.place };
      handle_is = k.handle_is;
      place = k.place;
    };
    free = record { free = links.free.free; follow = links.free.follow; all = links.free.all; once = links.free.once };
  }

  tight-named : AreTight named → AreTight z
  tight-named tight = record {
    apart = λ at p. tight.apart at (record { before = p.before; first = p.first; second = p.second; after = p.after; blocks = p.blocks; place = p.place });
    lengths = tight.lengths;
  }

-- the zone's number of the first free slot is in its bytes
front-in : (bytes : List ℕ) (l : Layout) → image_of l ≡ bytes → l.front < 2 ^ 32 → big_number 4 (part bytes front_field 4) ≡ l.front
front-in bytes l image small =
    ap (λ (xs : List ℕ). big_number 4 (part xs front_field 4)) (sym image)
    ∙ front-read (raw.address_after l l.blocks) l.front (free_total l.heads l.blocks) (first_free l.heads (raw.address_after l []) l.blocks) (rendered l.heads l.base l.blocks ++ l.spare) small

first_small : (l : Layout) → AreSound l → (xs : List ℕ) → Follow (slots_of_zone (records_in l)) l.front xs → l.front < 2 ^ 32
unfolding Follow
first_small l sound [] f = let is = f in omega arith
first_small l sound (h ∷ hs) f = let is = f.0 in let small = (slot-address l sound h (slot.Free f.1.0) f.1.1.0).1 in omega arith

-- it has 32 bits where free slots follow one another
front-small : (l : Layout) → AreSound l → AreChained (records_in l) → l.front < 2 ^ 32
front-small l sound a = first_small l sound a.free a.follow

-- another zone in the same bytes
module _ (spec : ZoneSizes) (possible : ArePossible spec) (bytes : List ℕ) (l k : Layout) (first : blocks.IsZoneIn spec bytes l) (second : blocks.IsZoneIn spec bytes k) where
  limit-is : (m : Layout) → blocks.IsZoneIn spec bytes m → zone_header + raw.total_of m.heads m.blocks + length m.spare ≡ spec.limit
  limit-is m zone = sym (image-long m) ∙ ap (λ (xs : List ℕ). length xs) zone.image ∙ zone.all

  -- is the same but for its memory
  same-records : l.front ≡ k.front → records_in k ≡ record (records_in l) { memory = k.memory }
  same-records front =
      let heads = second.heads ∙ sym first.heads in let base = second.base ∙ sym first.base in
      let limit = limit-is k second ∙ sym (limit-is l first) in let bs = same-blocks spec possible bytes first.all k l second first in
      λ i. record { memory = k.memory; shape = record { heads = heads i; base = base i; limit = limit i }; front = sym front i; blocks = map (record_in (heads i) (base i)) (bs i) }

  pub right-same : AreSound l → AreSound k → l.front < 2 ^ 32 → AreLinked (records_in k) → AreTight (records_in k) → AreRight l × AreChained (records_in l)
  right-same sound other small links tight =
      let front : l.front ≡ k.front = sym (front-in bytes l first.image small) ∙ front-in bytes k second.image (front-small k other links.free) in
      let same = same-records front in
      let mine : AreLinked (records_in l) = links-named (records_in l) k.memory (subst AreLinked same links) in
      let own : AreTight (records_in l) = tight-named (records_in l) k.memory (subst AreTight same tight) in
      (right-made l sound mine own, mine.free)
