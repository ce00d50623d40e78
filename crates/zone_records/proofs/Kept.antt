-- What stays where a zone's structure is written among bytes.
use Rattle.std.proofs.Common.{◌≡◌, ℕ, suc, ◌+◌, ◌-◌, ◌*◌, ◌<◌, ◌≤◌, true, false, List, [], ◌∷◌, length, inl, inr, refl, ap, sym, ◌∙◌, arith}
use Rattle.std.specs.Prelude.{◌/◌, slice_index}
use Rattle.mac_base.specs.declared.block.HeadKind.{HeadKind}
use Rattle.mac_base.specs.HeadKind.{head_size, zone_header}
use Rattle.raw_region.specs.Bytes.{part}
use Rattle.raw_region.proofs.Indexes.{index-part}
use Rattle.raw_region.proofs.Laws.{length-part}
use Rattle.block_bytes.specs.declared.header.Role.{Role}
use Rattle.block_bytes.specs.declared.header.Role.TheVariants as role
use Rattle.block_bytes.specs.Layout as raw
use Rattle.block_bytes.specs.Layout.{RawBlock, Layout, BlockAt}
use Rattle.block_bytes.specs.Finding as finding
use Rattle.block_bytes.specs.Structure.{InHeader, InMaster}
use Rattle.zone_records.specs.declared.structure.Part.{Part}
use Rattle.zone_records.specs.declared.structure.Part.TheVariants.{ZoneHeader, BlockHeader, MasterPointer}
use Rattle.zone_records.specs.Parts.{HoldsByte, LiesOutside, IsInPart, OthersStay, ContentsStay}
use Rattle.zone_records.specs.Places.{RecordAt, has_bytes}
use Rattle.zone_records.specs.Reading.{content_in}
use Rattle.zone_records.specs.Records.{BlockRecord, ZoneRecords, bytes_of}
use Rattle.zone_records.proofs.Held.{Held, address-is, heads-is, base-is}
use Rattle.zone_records.proofs.Looking.{of-record, of-block}
use Rattle.zone_records.proofs.MasterBlocks.{contents-long}
use Rattle.zone_records.proofs.Ranked.{one-block, within}
use Rattle.zone_records.proofs.Slots.{slot-at, slot_one, slot-role, slot-place, slot-few, slot-long}

-- ---- in general

-- two lists with the same elements are one
same-elements : (xs ys : List ℕ) → length xs ≡ length ys → ((k : ℕ) → k < length xs → slice_index xs k ≡ slice_index ys k) → xs ≡ ys
same-elements [] [] long same = refl
same-elements [] (y ∷ ys) long same = absurd (omega arith)
same-elements (x ∷ xs) [] long same = absurd (omega arith)
same-elements (x ∷ xs) (y ∷ ys) long same =
    (λ i. same 0 (omega arith) i ∷ xs) ∙ ap (λ zs. y ∷ zs) (same-elements xs ys (omega arith) (λ k below. same (suc k) (omega arith)))

-- two parts with the same bytes are one
pub same-part : (xs ys : List ℕ) (at n : ℕ) → at + n ≤ length xs → at + n ≤ length ys → ((k : ℕ) → at ≤ k → k < at + n → slice_index xs k ≡ slice_index ys k) → part xs at n ≡ part ys at n
same-part xs ys at n first second same =
    let long = length-part xs at n first in
    same-elements (part xs at n) (part ys at n) (long ∙ sym (length-part ys at n second)) (λ k below.
    let here : at + k - at ≡ k = omega arith in
    ap (slice_index (part xs at n)) (sym here) ∙ index-part xs at n (at + k) (omega arith) (omega arith) ∙ same (at + k) (omega arith) (omega arith)
    ∙ sym (index-part ys at n (at + k) (omega arith) (omega arith)) ∙ ap (slice_index (part ys at n)) here)

-- ---- all parts

-- a block has no more bytes than its contents
bytes-fewer : (heads : HeadKind) (base : ℕ) (r : Role) (contents : List ℕ) → length (bytes_of (content_in heads base r contents)) ≤ length contents
bytes-fewer heads base role.Free contents = omega arith
bytes-fewer heads base role.Fixed contents = omega arith
bytes-fewer heads base role.Master contents = omega arith
bytes-fewer heads base (role.Relocatable offset flags) contents = omega arith

module _ (l : Layout) (z : ZoneRecords) (held : Held l z) where
  -- a byte in no part is in no header
  pub beside-headers : (k : ℕ) → ((p : Part) → IsInPart z k p → ⊥) → InHeader l k → ⊥
  beside-headers k none h =
      let base = base-is l z held in
      let heads = ap head_size (heads-is l z held) in
      let low = h.low in
      let high = h.high in
      none BlockHeader (record { start = h.start; block = of-block l z held h.start h.block; low = omega arith; high = omega arith })

  -- and in no master block
  pub beside-masters : (k : ℕ) → ((p : Part) → IsInPart z k p → ⊥) → InMaster l k → ⊥
  beside-masters k none m =
      let base = base-is l z held in
      let low = m.low in
      let high = m.high in
      let long = contents-long l held.sound m.start m.block m.master in
      let first = m.start + head_size l.heads in
      let index : ℕ = (l.base + k - first) / 4 in
      let x = first + 4 * index in
      none MasterPointer (record { number = x; slot = (slot-at l z held x m.start index m.block m.master (omega arith) refl).0; low = omega arith; high = omega arith })

  -- the bytes of a handle's or a pointer's block are in no part
  module _ (start : ℕ) (r : RecordAt z start) (has : has_bytes r.here.content ≡ true) (k : ℕ)
      (low : start - z.shape.base + head_size z.shape.heads ≤ k) (high : k < start - z.shape.base + head_size z.shape.heads + length (bytes_of r.here.content)) where
    abbrev own : BlockAt l start
    own = (of-record l z held start r).block

    same : content_in l.heads l.base own.here.role own.here.contents ≡ r.here.content
    same = ap (λ (b : BlockRecord). b.content) (of-record l z held start r).same

    few : length (bytes_of r.here.content) ≤ length own.here.contents
    few = let e = ap (λ c. length (bytes_of c)) same in let fewer = bytes-fewer l.heads l.base own.here.role own.here.contents in omega arith

    pub bytes-apart : (p : Part) → IsInPart z k p → ⊥
    bytes-apart ZoneHeader inside = let base = base-is l z held in let first = (within l start own).0 in omega arith
    bytes-apart BlockHeader inside =
        let base = base-is l z held in
        let heads = ap head_size (heads-is l z held) in
        let other = (of-record l z held inside.start inside.block).block in
        let lower = inside.low in
        let upper = inside.high in
        let fewer = few in
        let first = (within l start own).0 in
        let one = one-block l start inside.start (l.base + k) own other (omega arith) (omega arith) (omega arith) (omega arith) in
        let at = one.0 in
        omega arith
    bytes-apart MasterPointer inside =
        let base = base-is l z held in
        let heads = ap head_size (heads-is l z held) in
        let o = slot_one l z held inside.number inside.slot in
        let there = slot-place l z held inside.number inside.slot in
        let index = slot-few l z held inside.number inside.slot in
        let long = slot-long l z held inside.number inside.slot in
        let lower = inside.low in
        let upper = inside.high in
        let fewer = few in
        let first = (within l start own).0 in
        let other : BlockAt l (raw.address_after l o.first) = record { before = o.first; here = o.block; after = o.rest; blocks = o.blocks; place = refl } in
        let one = one-block l start (raw.address_after l o.first) (l.base + k) own other (omega arith) (omega arith) (omega arith) (omega arith) in
        let master : has_bytes (content_in l.heads l.base own.here.role own.here.contents) ≡ false =
        ap (λ (b : RawBlock). has_bytes (content_in l.heads l.base b.role b.contents)) one.1 ∙ ap (λ r. has_bytes (content_in l.heads l.base r o.block.contents)) (slot-role l z held inside.number inside.slot).0 in
        let no : false ≡ true = sym master ∙ ap has_bytes same ∙ has in
        cc no

  -- so they stay where all other bytes do
  pub contents-stay : (old new : List ℕ) → length old ≡ z.shape.limit → length new ≡ z.shape.limit → zone_header + raw.total_of l.heads l.blocks ≤ z.shape.limit → OthersStay z old new → ContentsStay z old new
  contents-stay old new all others_all fits stay start r has =
      let own = (of-record l z held start r).block in
      let base = base-is l z held in
      let heads = ap head_size (heads-is l z held) in
      let e = ap (λ (b : BlockRecord). length (bytes_of b.content)) (of-record l z held start r).same in
      let fewer = bytes-fewer l.heads l.base own.here.role own.here.contents in
      let range = within l start own in
      let low = range.0 in
      let high = range.1 in
      same-part new old (start - z.shape.base + head_size z.shape.heads) (length (bytes_of r.here.content)) (omega arith) (omega arith)
      (λ k lower upper. stay k (bytes-apart start r has k lower upper))

-- ---- the block that has a byte

module _ (l : Layout) (z : ZoneRecords) (held : Held l z) (at : ℕ) where
  pub holds-from : (start : ℕ) → finding.HoldsByte l at start → HoldsByte z at start
  holds-from start h = record { block = of-block l z held start h.block; low = h.low; high = h.high }

  pub outside-from : finding.LiesOutside l at → LiesOutside z at
  outside-from out =
      let first = address-is l z held [] [] refl in
      let last = address-is l z held l.blocks z.blocks (ap (λ (z : ZoneRecords). z.blocks) held.shows) in
      elim out [ inl below ↦ inl (omega arith) | inr above ↦ inr (omega arith) ]
