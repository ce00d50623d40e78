-- Bytes that have a zone's own bytes agree with it.
use Rattle.std.proofs.Common.{◌≡◌, ℕ, ◌+◌, List, ◌∷◌, ◌++◌, sym, ap, ◌∙◌, subst}
use Rattle.mac_base.specs.HeadKind.{head_size, slot_count, zone_header}
use Rattle.raw_region.specs.Bytes.{part}
use Rattle.block_bytes.specs.declared.header.Role.TheVariants.{Master}
use Rattle.block_bytes.specs.Layout.{RawBlock, Layout, address_after, total_of}
use Rattle.block_bytes.specs.Structure.{AreWritten, HasOwn}
use Rattle.zone_records.specs.Masters.{BlocksAgree, BlocksSame, SlotsAgree, SlotsSame}
use Rattle.zone_records.specs.Reading.{AreSound}
use Rattle.zone_records.proofs.Comparing.{equal-agree}
use Rattle.zone_records.proofs.MasterBlocks.{contents-long, contents-words, each-made, each-one}
use Rattle.zone_records.proofs.Touched.{block_there}

module _ (l : Layout) (sound : AreSound l) (bytes : List ℕ) (own : HasOwn l bytes zone_header l.blocks) where
  -- so they do with a master block
  own-master : (xs : List RawBlock) (b : RawBlock) (ys : List RawBlock) → l.blocks ≡ xs ++ b ∷ ys → b.role ≡ Master
      → SlotsAgree l.heads bytes slot_count (zone_header + total_of l.heads xs + head_size l.heads) b.contents × SlotsSame l.heads bytes slot_count (zone_header + total_of l.heads xs + head_size l.heads) b.contents
  own-master xs b ys is master =
      let at = zone_header + total_of l.heads xs + head_size l.heads in
      let there = block_there l xs b ys is in
      let long = contents-long l sound (address_after l xs) there master in
      let written : AreWritten bytes at b.contents = each-one (AreWritten bytes) l.heads zone_header xs b ys (subst (λ bs. HasOwn l bytes zone_header bs) is own).masters master in
      equal-agree l.heads b.contents bytes at (ap (part bytes at) (sym long) ∙ written) (contents-words l sound (address_after l xs) there master)

  pub own-tells : BlocksAgree l bytes zone_header l.blocks × BlocksSame l bytes zone_header l.blocks
  own-tells = (
    record { headers = own.headers; masters = each-made (SlotsAgree l.heads bytes slot_count) l.heads zone_header l.blocks (λ xs b ys is master. (own-master xs b ys is master).0) },
    each-made (SlotsSame l.heads bytes slot_count) l.heads zone_header l.blocks (λ xs b ys is master. (own-master xs b ys is master).1),
  )
