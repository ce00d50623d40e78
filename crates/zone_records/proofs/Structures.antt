-- Bytes have a zone's structure exactly where its headers are in their places and they agree with its master blocks.
use Rattle.std.proofs.Common.{◌≡◌, ℕ, ◌+◌, ◌-◌, ◌*◌, ◌≤◌, true, List, [], ◌∷◌, ◌++◌, length, take, drop, refl, ap, sym, ◌∙◌, subst, arith, append_assoc, length-append, length-drop, take-append-drop, take_at, drop_at}
use Rattle.std.specs.List.{All, list_all}
use Rattle.std.proofs.lemmas.Bool.{and_parts, and_from}
use Rattle.mac_base.specs.HeadKind.{head_size, slot_count, zone_header}
use Rattle.mac_base.specs.ZoneState.{Memory}
use Rattle.block_bytes.specs.declared.header.Role.TheVariants as role
use Rattle.block_bytes.specs.ZoneHead.{zone_head}
use Rattle.block_bytes.specs.Layout as raw
use Rattle.block_bytes.specs.Layout.{RawBlock, Layout, BlockAt, size_of, rendered, is_possible, header_bytes, image_of, zone_bytes, free_total, first_free, has_owner}
use Rattle.block_bytes.specs.Structure as raw_structure
use Rattle.block_bytes.specs.Structure.{EachMaster, HasHead, HasHeaders}
use Rattle.block_bytes.proofs.Parts.{length-header}
use Rattle.block_bytes.proofs.Rendered.{length-rendered}
use Rattle.block_bytes.proofs.Structures.{alike-shown, structure-from, structure-head, structure-headers}
use Rattle.zone_records.specs.declared.structure.Agreement.{Agreement}
use Rattle.zone_records.specs.Masters.{SlotsAgree, SlotsSame, BlocksAgree, BlocksSame, SameWhere}
use Rattle.zone_records.specs.Places.{SlotAt}
use Rattle.zone_records.specs.Reading.{records_in, is_sound, AreSound, HasWords}
use Rattle.zone_records.specs.Records.{ZoneRecords, total_of}
use Rattle.zone_records.specs.Structure.{Means, Agrees, IsIn, HasStructure, SameFlags, shown, shown_blocks, shown_slot}
use Rattle.zone_records.proofs.Apart.{read, total-read}
use Rattle.zone_records.proofs.Blocks.{sound-possible}
use Rattle.zone_records.proofs.Held.{Held, heads-is, base-is}
use Rattle.zone_records.proofs.MasterBlocks.{image-long, each-made, each-map, each-one}
use Rattle.zone_records.proofs.ReadSlots.{slot-read}
use Rattle.zone_records.proofs.Slots.{slot_one, slot-role, slot-place, slot-at}
use Rattle.zone_records.proofs.Meaning.{means-same}
use Rattle.zone_records.proofs.ShownBlocks.{are-shown, blocks-are, total-shown}

-- all sound blocks are possible
all-possible : (l : Layout) (bs : List RawBlock) → list_all (is_sound l.heads l.base) bs ≡ true → list_all (is_possible l.heads) bs ≡ true
all-possible l [] sound = refl
all-possible l (b ∷ bs) sound =
    let parts = and_parts (is_sound l.heads l.base b) (list_all (is_sound l.heads l.base) bs) sound in
    and_from _ _ (sound-possible l.heads l.base b parts.0) (all-possible l bs parts.1)

-- the first bytes of a zone are those of its blocks
image-front : (l : Layout) (n : ℕ) → n ≡ zone_header + raw.total_of l.heads l.blocks → take n (image_of l) ≡ zone_bytes l
image-front l n is =
    let rest = rendered l.heads l.base l.blocks in
    ap (take n) (sym (append_assoc (header_bytes l) rest l.spare))
    ∙ take_at (zone_bytes l) l.spare n (omega (arith, length-append (header_bytes l) rest, length-header l, length-rendered l.heads l.base l.blocks))

-- a zone is in the bytes of its blocks
pub in-image : (l : Layout) (z : ZoneRecords) → Held l z → IsIn z (image_of l)
in-image l z held =
    let size : zone_header + total_of z.blocks ≡ zone_header + raw.total_of l.heads l.blocks = ap (λ n. zone_header + n) (sym (ap (λ (z : ZoneRecords). total_of z.blocks) held.shows) ∙ total-read l.heads l.base l.blocks) in
    record {
      all = image-long l ∙ ap (λ (z : ZoneRecords). z.shape.limit) held.shows;
      image = record { layout = l; form = image-front l (zone_header + total_of z.blocks) size; possible = all-possible l l.blocks held.sound.blocks; words = held.sound.words; same = held.shows };
    }

module _ (l : Layout) (bytes : List ℕ) where
  -- the zone with the contents that bytes have is read off blocks with these
  pub held-shown : (z : ZoneRecords) → Held l z → length bytes ≡ length (image_of l) → EachMaster (SlotsAgree l.heads bytes slot_count) l.heads zone_header l.blocks → Held (raw_structure.shown l bytes) (shown z bytes)
  held-shown z held all slots =
      let long = image-long l in
      let fits : zone_header + raw.total_of l.heads l.blocks ≤ length bytes = omega arith in
      let are = are-shown l.heads l.base bytes zone_header l.blocks fits held.sound.blocks slots in
      let total = (alike-shown l.heads bytes zone_header l.blocks fits).total in
      let left = length-drop (zone_header + raw.total_of l.heads l.blocks) bytes in
      let limit : zone_header + raw.total_of l.heads (raw_structure.shown_blocks l.heads bytes zone_header l.blocks) + length (drop (zone_header + raw.total_of l.heads l.blocks) bytes)
      ≡ zone_header + raw.total_of l.heads l.blocks + length l.spare = omega arith in
      let high = held.sound.high in
      record {
        shows = (λ i. record { memory = l.memory; shape = record { heads = l.heads; base = l.base; limit = limit i }; front = l.front; blocks = are.same i }) ∙ ap (λ z. shown z bytes) held.shows;
        sound = record { blocks = are.sound; words = are.words; even = held.sound.even; high = omega arith };
      }

  -- bytes that have all headers and agree with the master blocks have the structure
  pub structure-made : (z : ZoneRecords) → Held l z → HasHead l bytes → BlocksAgree l bytes zone_header l.blocks → HasStructure z bytes
  structure-made z held head agree =
      let same = structure-from l bytes head agree.headers in
      subst (IsIn (shown z bytes)) same.image (in-image (raw_structure.shown l bytes) (shown z bytes) (held-shown z held head.all agree.masters))

  -- and those that have the structure do
  pub record Structured : Type 0 where
    pub blocks : raw_structure.HasStructure l bytes
    pub masters : EachMaster (SlotsAgree l.heads bytes slot_count) l.heads zone_header l.blocks

  from-parts : AreSound l → length bytes ≡ length (image_of l) → (bs : List RawBlock) (n : ℕ) → n ≡ zone_header + raw.total_of l.heads l.blocks → take n bytes ≡ zone_bytes (raw.with_blocks bs l)
      → list_all (is_possible l.heads) bs ≡ true → All (HasWords l.heads) bs → read l.heads l.base bs ≡ shown_blocks l.heads bytes zone_header (read l.heads l.base l.blocks) → Structured
  from-parts sound all bs n size form possible words same =
      let long = image-long l in
      let fits : zone_header + raw.total_of l.heads l.blocks ≤ length bytes = omega arith in
      let m : Layout = raw.with_blocks bs l in
      let head = header_bytes m in
      let rest = rendered l.heads l.base bs in
      let whole : bytes ≡ head ++ (rest ++ drop n bytes) = sym (take-append-drop n bytes) ∙ ap (λ xs. xs ++ drop n bytes) form ∙ append_assoc head rest (drop n bytes) in
      let after : drop zone_header bytes ≡ rest ++ drop n bytes = ap (drop zone_header) whole ∙ drop_at head (rest ++ drop n bytes) zone_header (length-header m) in
      let are = blocks-are l.heads l.base bytes zone_header l.blocks bs (drop n bytes) fits sound.blocks possible words same after in
      record {
        blocks = record {
          all = all;
          image = (λ i. let cs = sym are.0 i in zone_head (l.base + zone_header + raw.total_of l.heads cs) l.front (free_total l.heads cs) (first_free l.heads (l.base + zone_header + 0) cs) ++ (rendered l.heads l.base cs ++ drop (sym size i) bytes)) ∙ sym whole;
        };
        masters = are.1;
      }

  pub structure-parts : (z : ZoneRecords) → Held l z → HasStructure z bytes → Structured
  structure-parts z held has =
      let own : HasStructure (records_in l) bytes = subst (λ z. HasStructure z bytes) (sym held.shows) has in
      let m = own.image.layout in
      let same = own.image.same in
      let named : m ≡ record l { memory = m.memory; blocks = m.blocks; spare = m.spare } = (λ i. record {
        memory = m.memory;
        heads = ap (λ (z : ZoneRecords). z.shape.heads) same i;
        base = ap (λ (z : ZoneRecords). z.shape.base) same i;
        front = ap (λ (z : ZoneRecords). z.front) same i;
        blocks = m.blocks;
        spare = m.spare;
      }) in
      let size : zone_header + total_of (shown_blocks l.heads bytes zone_header (read l.heads l.base l.blocks)) ≡ zone_header + raw.total_of l.heads l.blocks =
      ap (λ n. zone_header + n) (total-shown l.heads bytes zone_header (read l.heads l.base l.blocks) ∙ total-read l.heads l.base l.blocks) in
      from-parts held.sound (own.all ∙ sym (image-long l)) m.blocks _ size
      (own.image.form ∙ ap zone_bytes named)
      (subst (λ (m : Layout). list_all (is_possible m.heads) m.blocks ≡ true) named own.image.possible)
      (subst (λ (m : Layout). All (HasWords m.heads) m.blocks) named own.image.words)
      (ap (λ (m : Layout). read m.heads m.base m.blocks) (sym named) ∙ ap (λ (z : ZoneRecords). z.blocks) same)

  pub structure-head_is : (z : ZoneRecords) → Held l z → HasStructure z bytes → HasHead l bytes
  structure-head_is z held has = structure-head l bytes (structure-parts z held has).blocks

  pub structure-agrees : (z : ZoneRecords) → Held l z → HasStructure z bytes → BlocksAgree l bytes zone_header l.blocks
  structure-agrees z held has = let parts = structure-parts z held has in record { headers = structure-headers l bytes parts.blocks; masters = parts.masters }

-- bytes that agree with all master blocks agree with the one at an address
pub agree-at : (l : Layout) (bytes : List ℕ) → BlocksAgree l bytes zone_header l.blocks → (at : ℕ) (b : BlockAt l at) → b.here.role ≡ role.Master → SlotsAgree l.heads bytes slot_count (at - l.base + head_size l.heads) b.here.contents
agree-at l bytes agree at b master =
    let place = b.place in
    subst (λ n. SlotsAgree l.heads bytes slot_count n b.here.contents) (let e : zone_header + raw.total_of l.heads b.before + head_size l.heads ≡ at - l.base + head_size l.heads = omega arith in e)
    (each-one (SlotsAgree l.heads bytes slot_count) l.heads zone_header b.before b.here b.after (subst (EachMaster (SlotsAgree l.heads bytes slot_count) l.heads zone_header) b.blocks agree.masters) master)

module _ (l : Layout) (bytes : List ℕ) (z : ZoneRecords) (held : Held l z) where
  -- of some addresses flags are the same where they are in each master block
  pub flags-where : (P : ℕ → Type 0) → EachMaster (SameWhere P l bytes) l.heads zone_header l.blocks → (x : ℕ) (s : SlotAt z x) → P x → shown_slot z.shape.heads bytes (x - z.shape.base) s.here ≡ s.here
  flags-where P same x s holds =
      let o = slot_one l z held x s in
      let k = length s.slots_before in
      let role = slot-role l z held x s in
      let said = slot-read l.heads slot_count o.block.contents s.slots_before s.here s.slots_after role.1 in
      let start = zone_header + raw.total_of l.heads o.first + head_size l.heads in
      let base = base-is l z held in
      let there = slot-place l z held x s in
      let place : start + 4 * k ≡ x - z.shape.base = omega arith in
      let own = each-one (SameWhere P l bytes) l.heads zone_header o.first o.block o.rest (subst (EachMaster (SameWhere P l bytes) l.heads zone_header) o.blocks same) role.0 k said.0
      (subst P (let e : x ≡ l.base + start + 4 * k = omega arith in e) holds) in
      (λ i. shown_slot (sym (heads-is l z held) i) bytes (sym place i) (said.1 i)) ∙ own ∙ sym said.1

  -- so of all
  pub flags-from : BlocksSame l bytes zone_header l.blocks → SameFlags z bytes
  flags-from same x s =
      flags-where (λ _. Unit {0}) (each-map (SlotsSame l.heads bytes slot_count) l.heads (SameWhere (λ _. Unit {0}) l bytes) (λ at contents own k few _. own k few) zone_header l.blocks same) x s tt

  pub flags-to : SameFlags z bytes → BlocksSame l bytes zone_header l.blocks
  flags-to same = each-made (SlotsSame l.heads bytes slot_count) l.heads zone_header l.blocks (λ xs b ys is master k few.
      let start = raw.address_after l xs in
      let x = start + head_size l.heads + 4 * k in
      let s = slot-at l z held x start k (record { before = xs; here = b; after = ys; blocks = is; place = refl }) master few refl in
      let base = base-is l z held in
      let place : x - z.shape.base ≡ zone_header + raw.total_of l.heads xs + head_size l.heads + 4 * k = omega arith in
      (λ i. shown_slot (heads-is l z held i) bytes (sym place i) (sym s.1 i)) ∙ same x s.0 ∙ s.1)

  -- so bytes agree with the zone as they do with its blocks
  pub agrees : (a : Agreement) → HasHead l bytes → Means a (BlocksAgree l bytes zone_header l.blocks) (BlocksSame l bytes zone_header l.blocks) → Agrees z bytes a
  agrees a head told = means-same _ _ _ _ a (structure-made l bytes z held head) (structure-agrees l bytes z held) (λ _ same. flags-from same) (λ _ same. flags-to same) told

-- the zone in other memory
pub elsewhere : (l : Layout) (z : ZoneRecords) (memory : Memory) → Held l z → Held (record l { memory = memory }) (record z { memory = memory })
elsewhere l z memory held = record {
  shows = ap (λ (z : ZoneRecords). record z { memory = memory }) held.shows;
  sound = record { blocks = held.sound.blocks; words = held.sound.words; even = held.sound.even; high = held.sound.high };
}
