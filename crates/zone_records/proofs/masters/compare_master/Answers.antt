use Rattle.std.proofs.Common.{◌≡◌, ◌+◌, ◌-◌, ◌∙◌, refl, sym, ap, arith}
use Rattle.mac_base.specs.declared.block.HeadKind.{HeadKind}
use Rattle.mac_base.specs.HeadKind.{head_size, slot_count}
use Rattle.raw_region.specs.Bytes.{part}
use Rattle.block_bytes.specs.Layout.{BlockAt}
use Rattle.zone_records.specs.Masters.{SlotsAgree, SlotsSame}
use Rattle.zone_records.specs.Structure.{Means}
use Rattle.zone_records.proofs.Comparing.{equal-agree}
use Rattle.zone_records.proofs.MasterBlocks.{IsOpen, is-open, open-to, contents-words, contents-unlent}
use Rattle.zone_records.proofs.masters.compare_master.Goals as goal
use Rattle.zone_records.proofs.masters.compare_master.Goals.{After-head_size}

pub contents-ours-requires : goal.contents-ours-requires
contents-ours-requires c = contents-unlent c.args.blocks.now c.requires.sound c.args.at c.requires.block (c.requires.master c.requires.block)

-- what was read
opened : (c : After-head_size) (heads : HeadKind) → heads ≡ c.args.blocks.now.heads → (b : BlockAt c.args.blocks.now c.args.at) → IsOpen c.args.blocks.now c.args.at b heads c.base.result c.head_size.result c.contents-ours.result.now
opened c heads is b =
    is-open c.args.blocks.now c.requires.sound c.args.at b (c.requires.master b) heads c.base.result c.head_size.result c.contents-ours.result.now
    is (c.base.ensures.value ∙ c.spec-spec.ensures.base) (c.head_size.ensures ∙ ap head_size (c.heads.ensures ∙ c.spec-spec.ensures.heads)) (c.contents-ours.ensures b)

pub has_at-requires : goal.has_at-requires
has_at-requires c = let o = opened (goal.at.has_at-requires c).After-head_size _ (c.heads.ensures ∙ c.spec-spec.ensures.heads) c.requires.block in let whole = c.requires.whole in omega arith

pub returns-then-has_at : goal.returns-then-has_at
returns-then-has_at c b =
    let l = c.args.blocks.now in
    let o = opened (goal.at.returns-then-has_at c).After-head_size _ (c.heads.ensures ∙ c.spec-spec.ensures.heads) b in
    let bytes = c.args.bytes.now in
    equal-agree l.heads b.here.contents bytes (c.args.at - l.base + head_size l.heads)
    ((λ i. part bytes (c.args.at - sym o.base_is i + sym o.head_is i) (sym o.long i)) ∙ c.if-has_at.ensures.0 refl ∙ o.same) (contents-words l c.requires.sound c.args.at b (c.requires.master b))

pub compare_slots-requires : goal.compare_slots-requires
compare_slots-requires c =
    let o = opened (goal.at.compare_slots-requires c).After-head_size _ (c.heads-2.ensures ∙ c.spec-spec.ensures.heads) c.requires.block in
    let whole = c.requires.whole in
    record { long = o.long; inside = omega arith; right = o.right }

pub returns : goal.returns
returns c b =
    let o = opened (goal.at.returns c).After-head_size _ (c.heads-2.ensures ∙ c.spec-spec.ensures.heads) b in
    open-to o (λ heads start contents. Means c.compare_slots.result (SlotsAgree heads c.args.bytes.now slot_count start contents) (SlotsSame heads c.args.bytes.now slot_count start contents))
    (c.args.at - c.base.result + c.head_size.result) (λ i. c.args.at - o.base_is i + o.head_is i) c.compare_slots.ensures
