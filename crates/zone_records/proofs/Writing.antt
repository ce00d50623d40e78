-- Master blocks that are written among bytes.
use Rattle.std.proofs.Common.{◌≡◌, ℕ, ◌+◌, List, ◌∷◌, ◌++◌, refl, ap, sym, ◌∙◌, subst}
use Rattle.mac_base.specs.HeadKind.{head_size, slot_count, zone_header}
use Rattle.raw_region.specs.Bytes.{part}
use Rattle.block_bytes.specs.declared.header.Role.TheVariants as role
use Rattle.block_bytes.specs.Layout.{RawBlock, Layout, BlockAt, total_of, address_after}
use Rattle.block_bytes.specs.Structure.{AreWritten, EachMaster}
use Rattle.zone_records.specs.Masters.{SlotsAgree, SlotsSame, BlocksSame}
use Rattle.zone_records.specs.Reading.{AreSound}
use Rattle.zone_records.proofs.Comparing.{equal-agree}
use Rattle.zone_records.proofs.MasterBlocks.{contents-long, contents-words, each-made, each-one}
use Rattle.zone_records.proofs.SaidSlots.{master-written}

-- where all master blocks are written, bytes agree with them and say the same flags
module _ (l : Layout) (sound : AreSound l) (bytes : List ℕ) (each : EachMaster (AreWritten bytes) l.heads zone_header l.blocks) where
  own : (xs : List RawBlock) (b : RawBlock) (ys : List RawBlock) → l.blocks ≡ xs ++ b ∷ ys → b.role ≡ role.Master
      → SlotsAgree l.heads bytes slot_count (zone_header + total_of l.heads xs + head_size l.heads) b.contents × SlotsSame l.heads bytes slot_count (zone_header + total_of l.heads xs + head_size l.heads) b.contents
  own xs b ys is master =
      let block : BlockAt l (address_after l xs) = record { before = xs; here = b; after = ys; blocks = is; place = refl } in
      let start = zone_header + total_of l.heads xs + head_size l.heads in
      equal-agree l.heads b.contents bytes start
      (ap (part bytes start) (sym (contents-long l sound (address_after l xs) block master)) ∙ each-one (AreWritten bytes) l.heads zone_header xs b ys (subst (EachMaster (AreWritten bytes) l.heads zone_header) is each) master) (contents-words l sound (address_after l xs) block master)

  pub written-agree : EachMaster (SlotsAgree l.heads bytes slot_count) l.heads zone_header l.blocks
  written-agree = each-made (SlotsAgree l.heads bytes slot_count) l.heads zone_header l.blocks (λ xs b ys is master. (own xs b ys is master).0)

  pub written-same : EachMaster (SlotsSame l.heads bytes slot_count) l.heads zone_header l.blocks
  written-same = each-made (SlotsSame l.heads bytes slot_count) l.heads zone_header l.blocks (λ xs b ys is master. (own xs b ys is master).1)

-- and where bytes agree with them and say the same flags, they are written
pub all-written : (l : Layout) → AreSound l → (bytes : List ℕ) → EachMaster (SlotsAgree l.heads bytes slot_count) l.heads zone_header l.blocks → BlocksSame l bytes zone_header l.blocks → EachMaster (AreWritten bytes) l.heads zone_header l.blocks
all-written l sound bytes agree same = each-made (AreWritten bytes) l.heads zone_header l.blocks (λ xs b ys is master.
    let block : BlockAt l (address_after l xs) = record { before = xs; here = b; after = ys; blocks = is; place = refl } in
    let start = zone_header + total_of l.heads xs + head_size l.heads in
    ap (part bytes start) (contents-long l sound (address_after l xs) block master)
    ∙ master-written l.heads bytes start b.contents
    (each-one (SlotsAgree l.heads bytes slot_count) l.heads zone_header xs b ys (subst (EachMaster (SlotsAgree l.heads bytes slot_count) l.heads zone_header) is agree) master)
    (each-one (SlotsSame l.heads bytes slot_count) l.heads zone_header xs b ys (subst (EachMaster (SlotsSame l.heads bytes slot_count) l.heads zone_header) is same) master)
    (contents-words l sound (address_after l xs) block master))
