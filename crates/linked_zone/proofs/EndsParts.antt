-- What stays where a zone's structure is written among bytes, and which block has a byte.
use Rattle.std.proofs.Common.{◌≡◌, ℕ, ◌+◌, ◌-◌, Bool, true, false, List, [], length, inl, inr, Option, Some, None, refl, ap, sym, ◌∙◌, subst, arith}
use Rattle.std.specs.Prelude.{IfSome, IfNone}
use Rattle.mac_base.specs.declared.block.Block.{Block}
use Rattle.mac_base.specs.declared.block.Kind.TheVariants as kind
use Rattle.mac_base.specs.HandleTable.{Live, EmptyHandle, FullHandle, Pointer, live_at, live_bytes, live_full, live_pointer, bytes_of, is_full, is_pointer}
use Rattle.mac_base.specs.HeadKind.{head_size}
use Rattle.mac_base.specs.BlockReport.{block_flags, report_at}
use Rattle.mac_base.specs.Suits.{wanted_length}
use Rattle.mac_base.specs.ZoneMap.{block, address_after, contents_of}
use Rattle.mac_base.specs.ZoneState.{ZoneState}
use Rattle.raw_region.specs.Bytes.{part}
use Rattle.zone_records.specs.declared.structure.Part.{Part}
use Rattle.zone_records.specs.declared.structure.Part.TheVariants.{ZoneHeader, BlockHeader, MasterPointer}
use Rattle.zone_records.specs.Faults as record_faults
use Rattle.zone_records.specs.Parts as records
use Rattle.zone_records.specs.Places.{has_bytes}
use Rattle.zone_records.specs.Records.{BlockRecord, ZoneRecords}
use Rattle.zone_records.specs.Records as record_words
use Rattle.linked_zone.specs.Faults.{IsFirstFault}
use Rattle.linked_zone.specs.Owned.{content_of, owners_of, records_of}
use Rattle.linked_zone.specs.Parts.{IsHolder, LiesOutside, IsInPart, OthersStay, ContentsStay}
use Rattle.linked_zone.specs.Places.{EntryAt}
use Rattle.zone_records.specs.Structure as record_structure
use Rattle.linked_zone.specs.Structure.{HasStructure, shown, shown_live}
use Rattle.linked_zone.proofs.ChangeEmptied.{own_block}
use Rattle.linked_zone.proofs.EndsStructure.{has-from, has-to}
use Rattle.linked_zone.proofs.Found.{pointer-block}
use Rattle.linked_zone.proofs.Located.{of-entry, of-record, slot-of}
use Rattle.linked_zone.proofs.Owning.{records-total}
use Rattle.linked_zone.proofs.Reported.{reported-here}
use Rattle.linked_zone.proofs.Shown.{if_live, shown-at, shown-bytes, shown-pointed}
use Rattle.linked_zone.proofs.Standing.{Stands}

-- a part of the blocks' structure is one of the zone's
part-from : (z : ZoneState) (k : ℕ) (p : Part) → records.IsInPart (records_of z) k p → IsInPart z k p
part-from z k ZoneHeader inside = inside
part-from z k BlockHeader inside = record { start = inside.start; block = (of-record (records_of z) z refl inside.start inside.block).entry; low = inside.low; high = inside.high }
part-from z k MasterPointer inside = record { number = inside.number; slot = slot-of (records_of z) z refl inside.number inside.slot; low = inside.low; high = inside.high }

module _ (r : ZoneRecords) (z : ZoneState) (held : Stands r z) (old new : List ℕ) where
  -- bytes in no part stay
  pub others-from : records.OthersStay r old new → OthersStay z old new
  others-from stay k none = subst (λ r. records.OthersStay r old new) held.blocks stay k (λ p inside. none p (part-from z k p inside))

  -- the contents of a block at an address
  block-stays : records.ContentsStay r old new → (at : ℕ) (e : EntryAt z at) (contents : List ℕ) → let content = (of-entry (records_of z) z refl at e).there.here.content in
      has_bytes content ≡ true → record_words.bytes_of content ≡ contents → (start : ℕ) → start ≡ at + head_size z.shape.heads
      → part new (start - z.shape.base) (length contents) ≡ part old (start - z.shape.base) (length contents)
  block-stays stay at e contents has are start is =
      let own = subst (λ r. records.ContentsStay r old new) held.blocks stay at (of-entry (records_of z) z refl at e).there has in
      let place = e.place in
      let same : at - z.shape.base + head_size z.shape.heads ≡ start - z.shape.base = omega arith in
      subst (λ n. part new n (length contents) ≡ part old n (length contents)) same
      (subst (λ xs. part new (at - z.shape.base + head_size z.shape.heads) (length xs) ≡ part old (at - z.shape.base + head_size z.shape.heads) (length xs)) are own)

  -- so do those of handles and pointers
  pub contents-from : records.ContentsStay r old new → ContentsStay z old new
  contents-from stay x = by_test (is_full z.heap.table x) refl
    where
      other : (o : Option Live) → live_full o ≡ false → live_pointer o ≡ false → live_bytes (if_live (shown_live z.shape z.heap.map new x) o) ≡ live_bytes (if_live (shown_live z.shape z.heap.map old x) o)
      other None empty apart = refl
      other (Some EmptyHandle) empty apart = refl
      other (Some (FullHandle flags had)) empty apart = absurd (cc empty)
      other (Some (Pointer had)) empty apart = absurd (cc apart)

      by_pointer : (b : Bool) → is_full z.heap.table x ≡ false → is_pointer z.heap.table x ≡ b → bytes_of (shown z new).heap.table x ≡ bytes_of (shown z old).heap.table x
      by_pointer true empty live =
          let own = pointer-block z held.fits held.rooms x live in
          let there = of-entry (records_of z) z refl own.at own.entry in
          let content : there.there.here.content ≡ record_words.Fixed (bytes_of z.heap.table x) = ap (λ (b : BlockRecord). b.content) there.here ∙ ap (content_of (owners_of z) (own.at + head_size z.shape.heads)) own.kind in
          shown-pointed z new x live
          ∙ block-stays stay own.at own.entry (bytes_of z.heap.table x) (ap has_bytes content) (ap record_words.bytes_of content) x own.number
          ∙ sym (shown-pointed z old x live)
      by_pointer false empty apart = ap live_bytes (shown-at z new x) ∙ other (live_at z.heap.table x) empty apart ∙ sym (ap live_bytes (shown-at z old x))

      by_test : (b : Bool) → is_full z.heap.table x ≡ b → bytes_of (shown z new).heap.table x ≡ bytes_of (shown z old).heap.table x
      by_test true full =
          let own = own_block z x held.fits full in
          let b = own.block in
          let e : EntryAt z own.at = record { before = b.before; here = block (kind.Rel x) b.size; after = b.after; map = b.map; place = b.place } in
          let there = of-entry (records_of z) z refl own.at e in
          let content = ap (λ (b : BlockRecord). b.content) there.here in
          shown-bytes z new x full
          ∙ block-stays stay own.at e (bytes_of z.heap.table x) (ap has_bytes content) (ap record_words.bytes_of content) (contents_of z.shape x z.heap.map) own.contents
          ∙ sym (shown-bytes z old x full)
      by_test false empty = by_pointer (is_pointer z.heap.table x) empty refl

module _ (r : ZoneRecords) (z : ZoneState) (held : Stands r z) (at : ℕ) where
  module _ (start : ℕ) (h : records.HoldsByte r at start) where
    abbrev e : EntryAt z start
    e = (of-record r z held.blocks start h.block).entry

    -- the report of the block that has the byte
    abbrev said : Block
    said = record { address = start; entry = e.here; length = wanted_length z.heap.table e.here.kind; flags = block_flags z.heap.table e.here.kind }

    is-said : Some said ≡ report_at z.shape z.heap start
    is-said = reported-here r z held start e e.here (wanted_length z.heap.table e.here.kind) (block_flags z.heap.table e.here.kind) refl refl refl

    said-holds : IsHolder z at said
    said-holds =
        let size = ap (λ (b : BlockRecord). b.size) (of-record r z held.blocks start h.block).here in
        let high = h.high in
        record { there = sym is-said; low = h.low; high = omega arith }

    pub holder-some : (o : Option Block) → o ≡ report_at z.shape z.heap start → IfSome o (λ b. IsHolder z at b)
    holder-some o is = subst (λ o. IfSome o (λ b. IsHolder z at b)) (is-said ∙ sym is) said-holds

    pub holder-none : (o : Option Block) → o ≡ report_at z.shape z.heap start → IfNone o (LiesOutside z at)
    holder-none o is = subst (λ o. IfNone o (LiesOutside z at)) (is-said ∙ sym is) tt

  pub outside-from : records.LiesOutside r at → LiesOutside z at
  outside-from out = subst (λ r. records.LiesOutside r at → LiesOutside z at) (sym held.blocks) (λ out.
      let total = records-total (owners_of z) z.shape (address_after z.shape []) z.heap.map in
      elim out [ inl below ↦ inl (omega arith) | inr above ↦ inr (omega arith) ]) out

  pub outside-none : (o : Option Block) → LiesOutside z at → IfNone o (LiesOutside z at)
  outside-none None out = out
  outside-none (Some b) out = tt

-- the first fault of the blocks is that of the zone
module _ (r : ZoneRecords) (z : ZoneState) (held : Stands r z) (bytes : List ℕ) where
  pub fault-from : (found : ℕ × Part) → record_faults.IsFirstFault r bytes found.0 found.1 → IsFirstFault z bytes found.0 found.1
  fault-from found f = record {
    inside = subst (λ r. records.IsInPart r found.0 found.1 → IsInPart z found.0 found.1) (sym held.blocks) (part-from z found.0 found.1) f.inside;
    right = f.right;
    structure = has-from r z held f.right f.structure;
    same = f.same;
    wrong = λ others has same. f.wrong others (has-to r z held others has) same;
  }

  -- and where there is none, bytes have the structure of both
  pub whole-from : (o : Option (ℕ × Part)) → IfNone o (record_structure.HasStructure r bytes) → IfNone o (HasStructure z bytes)
  whole-from None has = has-from r z held bytes has
  whole-from (Some found) has = tt
