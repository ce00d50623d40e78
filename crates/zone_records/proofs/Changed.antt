-- The first slot of which bytes say other flags.
use Rattle.std.proofs.Common.{◌≡◌, ℕ, ◌+◌, ◌-◌, ◌*◌, ◌<◌, ◌≤◌, List, [], ◌∷◌, ◌++◌, slice_index, refl, ap, sym, ◌∙◌, subst, arith, append-nil, append_assoc, inl, inr}
use Rattle.mac_base.specs.declared.block.Flags.{Flags}
use Rattle.mac_base.specs.declared.block.HeadKind.{HeadKind}
use Rattle.mac_base.specs.declared.block.HeadKind.TheVariants.{Bits24, Bits32}
use Rattle.mac_base.specs.FlagState.{flags_from}
use Rattle.mac_base.specs.HeadKind.{head_size, zone_header}
use Rattle.block_bytes.specs.Finding.{HoldsByte, LiesOutside}
use Rattle.block_bytes.specs.Layout.{RawBlock, Layout, size_of, total_of, address_after}
use Rattle.block_bytes.specs.Structure.{EachMaster, AgreeUpTo}
use Rattle.block_bytes.proofs.WrittenOwn.{each-join}
use Rattle.zone_records.specs.declared.slot.Slot.{Slot}
use Rattle.zone_records.specs.declared.slot.Slot.TheVariants as slot
use Rattle.zone_records.specs.Masters.{OtherFlags, SameWhere, slot_of}
use Rattle.zone_records.specs.Reading.{AreSound, records_in}
use Rattle.zone_records.specs.Structure.{FirstChanged, NoneChanged, said_flags, shown_slot}
use Rattle.zone_records.proofs.Apart.{total-append}
use Rattle.zone_records.proofs.Held.{Held, sound-one}
use Rattle.zone_records.proofs.MasterBlocks.{Done, done-more, each-made, each-map, next_block}
use Rattle.zone_records.proofs.Slots.{master-long, slot-at}
use Rattle.zone_records.proofs.Structures.{flags-where}

-- bytes say other flags only of a handle in a zone of 24-bit blocks
record IsFull (heads : HeadKind) (bytes : List ℕ) (at : ℕ) (s : Slot) : Type 0 where
  old : Flags
  contents : ℕ
  full : s ≡ slot.Full old contents
  said : said_flags heads bytes at old ≡ flags_from (slice_index bytes at)
  differ : flags_from (slice_index bytes at) ≡ old → ⊥

is-full : (heads : HeadKind) (bytes : List ℕ) (at : ℕ) (s : Slot) → (shown_slot heads bytes at s ≡ s → ⊥) → IsFull heads bytes at s
is-full heads bytes at (slot.Free next) other = absurd (other refl)
is-full heads bytes at slot.Empty other = absurd (other refl)
is-full Bits24 bytes at (slot.Full old contents) other = record { old = old; contents = contents; full = refl; said = refl; differ = λ same. other (ap (λ f. slot.Full f contents) same) }
is-full Bits32 bytes at (slot.Full old contents) other = absurd (other refl)

module _ (l : Layout) (sound : AreSound l) (bytes : List ℕ) where
  abbrev pub held : Held l (records_in l)
  held = record { shows = refl; sound = sound }

  -- no slot of these blocks is at an address from another on, where they end before it
  pub none-low : (from m : ℕ) (bs rest : List RawBlock) → l.blocks ≡ bs ++ rest → address_after l bs ≤ m → ((x : ℕ) → from ≤ x → address_after l [] ≤ x → m ≤ x) → EachMaster (SameWhere (λ x. from ≤ x) l bytes) l.heads zone_header bs
  none-low from m bs rest is low above = each-made (SameWhere (λ x. from ≤ x) l bytes) l.heads zone_header bs (λ xs b ys parts master k few reached.
      let whole : l.blocks ≡ xs ++ b ∷ (ys ++ rest) = is ∙ ap (λ bs. bs ++ rest) parts ∙ append_assoc xs (b ∷ ys) rest in
      let long = master-long l.heads l.base b (sound-one l xs b (ys ++ rest) sound whole) master in
      let total = ap (total_of l.heads) parts ∙ total-append l.heads xs (b ∷ ys) in
      let high = above (l.base + (zone_header + total_of l.heads xs + head_size l.heads) + 4 * k) reached (omega arith) in
      absurd (omega arith))

  -- so the search begins at the block that has the byte there
  pub begins : (from m start : ℕ) → ((x : ℕ) → from ≤ x → address_after l [] ≤ x → m ≤ x) → HoldsByte l m start → Done l (SameWhere (λ x. from ≤ x) l bytes) start
  begins from m start above h =
      let b = h.block in
      let place = b.place in
      let low = h.low in
      record {
        split = record { before = b.before; after = b.here ∷ b.after; blocks = b.blocks; place = b.place };
        each = none-low from m b.before (b.here ∷ b.after) b.blocks (omega arith) above;
      }

  -- where all are the same, none has changed
  pub none-changed : (from : ℕ) → EachMaster (SameWhere (λ x. from ≤ x) l bytes) l.heads zone_header l.blocks → NoneChanged (records_in l) bytes from
  none-changed from all x s reached = flags-where l bytes (records_in l) held (λ x. from ≤ x) all x s reached

  -- so they are where all blocks end before the address
  pub none-outside : (from m : ℕ) → ((x : ℕ) → from ≤ x → address_after l [] ≤ x → m ≤ x) → address_after l [] ≤ m → LiesOutside l m → NoneChanged (records_in l) bytes from
  none-outside from m above low outside = none-changed from (none-low from m l.blocks [] (sym (append-nil l.blocks)) (elim outside [ inl below ↦ absurd (omega arith) | inr high ↦ high ]) above)

  -- and where all up to one are, that is the first
  pub first-changed : (from at master there : ℕ) (flags : Flags) (done : Done l (SameWhere (λ x. from ≤ x) l bytes) at) (next : AgreeUpTo l bytes (at - l.base) done.split.after master)
      → OtherFlags l bytes (master - l.base + head_size l.heads) next.here.contents from there flags → FirstChanged (records_in l) bytes from there flags
  first-changed from at master there flags done next found =
      let split = done.split in
      let block = next_block l bytes at split master next in
      let start = master - l.base + head_size l.heads in
      let where_is = block.place in
      let place : there ≡ master + head_size l.heads + 4 * found.index = (let e = found.place in omega arith) in
      let s = slot-at l (records_in l) held there master found.index block next.master found.few place in
      let offset : start + 4 * found.index ≡ there - l.base = (let e = found.place in omega arith) in
      let full = is-full l.heads bytes (start + 4 * found.index) (slot_of l.heads next.here.contents found.index) found.other in
      let P : ℕ → Type 0 = λ x. (from ≤ x) × (x < there) in
      let long = master-long l.heads l.base next.here (sound-one l block.before next.here block.after sound block.blocks) next.master in
      let end = master + size_of l.heads next.here in
      let upto = done-more l bytes (SameWhere P l bytes) at
      (record { split = split; each = each-map (SameWhere (λ x. from ≤ x) l bytes) l.heads (SameWhere P l bytes) (λ at contents own k few h. own k few h.0) zone_header split.before done.each })
      master end next refl found.before in
      let few = found.few in
      let above : EachMaster (SameWhere P l bytes) l.heads (zone_header + total_of l.heads upto.split.before) upto.split.after =
      each-made (SameWhere P l bytes) l.heads (zone_header + total_of l.heads upto.split.before) upto.split.after (λ xs b ys is master k few h. let high = h.1 in let e = upto.split.place in absurd (omega arith)) in
      let all = subst (EachMaster (SameWhere P l bytes) l.heads zone_header) (sym upto.split.blocks) (each-join (SameWhere P l bytes) l.heads zone_header upto.split.before upto.split.after upto.each above) in
      record {
        named = s.0;
        old = full.old;
        contents = full.contents;
        full = s.1 ∙ full.full;
        said = found.said ∙ sym full.said ∙ ap (λ n. said_flags l.heads bytes n full.old) offset;
        differ = λ same. full.differ (sym found.said ∙ same);
        reached = found.reached;
        first = λ x s reached below. flags-where l bytes (records_in l) held P all x s (reached, below);
      }
