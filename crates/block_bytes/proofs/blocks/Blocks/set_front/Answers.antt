use Rattle.std.proofs.Common.{◌∙◌, inr, length, slice_index, refl, ap, sym, subst, arith}
use Rattle.byteorder.specs.Endian.{big_bytes}
use Rattle.raw_region.proofs.Numbers.{length-big_bytes}
use Rattle.raw_region.specs.State.{State}
use Rattle.raw_region.proofs.Free.{free_within}
use Rattle.raw_region.proofs.Indexes.{index-written-apart}
use Rattle.block_bytes.specs.Layout.{Layout, with_front}
use Rattle.block_bytes.specs.Reading.{layout_of}
use Rattle.block_bytes.specs.ZoneHead.{front_field}
use Rattle.block_bytes.proofs.Settled.{header-free, front-changed}
use Rattle.block_bytes.proofs.Parts.{IsRead}
use Rattle.block_bytes.proofs.Recorded.{IsReadWhole, changed-whole, grows-same, own-same}
use Rattle.block_bytes.proofs.blocks.Blocks.set_front.Goals as goal

pub set_front-requires-clause-free : goal.set_front-requires-clause-free
set_front-requires-clause-free c = free_within (header-free c.self.inside c.self.invariant.layout) front_field 4 (omega arith) (omega arith)

-- what the fields stand for then
written_then : (c : goal.After-set_front) → IsReadWhole (record c.self.inside { memory = c.set_front.new.self }) (with_front c.args.front (layout_of c.self.inside))
written_then c = let z = c.self.inside in let bytes = z.memory.bytes in let ws = big_bytes 4 c.args.front in
    changed-whole z (record z { memory = c.set_front.new.self }) (with_front c.args.front (layout_of z)) z.kept c.self.invariant refl refl refl
    (subst (λ (m : State). IsRead (record z { memory = m }) (with_front c.args.front (layout_of z))) (sym c.set_front.ensures)
    (front-changed z c.self.invariant.layout c.base-base.ensures.possible c.args.front c.ranges.front.fits))
    (grows-same (length bytes) z.kept)
    (own-same z.spec.heads (layout_of z).blocks bytes c.set_front.new.self.bytes z.kept
    (λ i above. ap (λ (m : State). slice_index m.bytes i) c.set_front.ensures ∙ index-written-apart bytes front_field ws i (inr (let long = length-big_bytes 4 c.args.front in omega arith))))

pub invariant_of-self : goal.invariant_of-self
invariant_of-self c = (written_then c).whole

pub returns : goal.returns
returns c = (written_then c).view ∙ ap (λ (l : Layout). with_front c.args.front l) c.self.view_is
