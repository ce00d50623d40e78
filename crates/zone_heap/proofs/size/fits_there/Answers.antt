use Rattle.std.proofs.Common.{◌≡◌, ◌+◌, ◌∙◌, ap, sym, arith}
use Rattle.std.specs.Prelude.{nat_le}
use Rattle.mac_base.specs.declared.block.Entry.{Entry}
use Rattle.mac_base.specs.HeadKind.{need}
use Rattle.mac_base.specs.Serve.{free_in_front}
use Rattle.mac_base.specs.ZoneSizes.{ZoneSizes}
use Rattle.zone_heap.proofs.Growing.{free-within}
use Rattle.zone_heap.proofs.Resizing.{fits-there}
use Rattle.zone_heap.proofs.Sizing.{Standing, end-there, entry_named}
use Rattle.zone_heap.proofs.size.fits_there.Goals as goal
use Rattle.zone_heap.proofs.size.fits_there.Goals.{After-free_after}

-- the block
abbrev standing : (c : After-free_after) → Standing c.args.zone.now c.args.block c.args.length c.need_for.result c.address_of-at.result
standing c = record {
  sound = c.requires.sound.sound;
  block = c.requires.block;
  named = c.address_of-at.ensures;
  size = c.need_for.ensures ∙ ap (λ heads. need heads c.args.length) (c.heads.ensures ∙ ap (λ (s : ZoneSizes). s.heads) c.spec-spec.ensures.sizes);
}

-- its bytes with the free ones right after it
both : (c : After-free_after) → c.entry_at.result.size + c.free_after.result ≡ c.address_of-at.ensures.here.size + free_in_front c.address_of-at.ensures.after
both c =
    ap (λ (e : Entry). e.size + c.free_after.result) (c.entry_at.ensures (entry_named c.address_of-at.ensures))
    ∙ ap (λ m. c.address_of-at.ensures.here.size + m) (c.free_after.ensures (entry_named c.address_of-at.ensures))

pub overflow_add-result : goal.overflow_add-result
overflow_add-result c =
    let w = (goal.at.overflow_add-result c).After-free_after in
    let base = c.base.ensures.value ∙ ap (λ (s : ZoneSizes). s.base) c.spec-spec.ensures.sizes in
    let limit = c.limit.ensures.value ∙ ap (λ (s : ZoneSizes). s.limit) c.spec-spec.ensures.sizes in
    omega (arith, both w, free-within c.address_of-at.ensures.after, end-there c.args.zone.now c.args.block c.args.length c.need_for.result c.address_of-at.result (standing w), base, limit, c.if-prove.false)

pub returns : goal.returns
returns c =
    let w = (goal.at.returns c).After-free_after in
    ap (nat_le c.need_for.result) (both w) ∙ sym (fits-there c.args.zone.now c.args.block c.args.length c.need_for.result c.address_of-at.result (standing w))
