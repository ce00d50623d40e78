use Rattle.std.proofs.Common.{◌+◌, ◌∙◌, ap, arith}
use Rattle.mac_base.specs.HeadKind.{head_size}
use Rattle.mac_base.specs.ZoneMap.{contents_of}
use Rattle.mac_base.specs.ZoneState.{ZoneState}
use Rattle.mac_base.specs.HandleTable.{is_full}
use Rattle.mac_base.specs.ZoneSizes.{ZoneSizes}
use Rattle.zone_heap.proofs.Contents.{below_limit, contents_there}
use Rattle.zone_heap.proofs.zone.Zone.contents_address.Goals as goal

pub prove-unreachable-requires : goal.prove-unreachable-requires
prove-unreachable-requires c =
    let z = c.self.inside.pointers in
    let base = c.base.ensures.value ∙ ap (λ (s : ZoneSizes). s.base) (rw c.linked-linked.ensures at c.spec-spec.ensures.sizes) in
    let limit = c.limit.ensures.value ∙ ap (λ (s : ZoneSizes). s.limit) (rw c.linked-linked.ensures at c.spec-spec.ensures.sizes) in
    let below = below_limit z c.args.handle c.block_of-at.result c.self.invariant.sound (rw c.linked-linked.ensures at c.block_of-at.ensures) in
    omega (arith, c.if-prove.true)

pub overflow_add-result : goal.overflow_add-result
overflow_add-result c =
    let z = c.self.inside.pointers in
    let base = c.base.ensures.value ∙ ap (λ (s : ZoneSizes). s.base) (rw c.linked-linked.ensures at c.spec-spec.ensures.sizes) in
    let limit = c.limit.ensures.value ∙ ap (λ (s : ZoneSizes). s.limit) (rw c.linked-linked.ensures at c.spec-spec.ensures.sizes) in
    let below = below_limit z c.args.handle c.block_of-at.result c.self.invariant.sound (rw c.linked-linked.ensures at c.block_of-at.ensures) in
    let head = c.head_size.ensures ∙ ap head_size c.heads.ensures ∙ ap (λ (s : ZoneSizes). head_size s.heads) (rw c.linked-linked.ensures at c.spec-spec.ensures.sizes) in
    let reach = c.base.ensures.reach in
    omega arith

pub returns : goal.returns
returns c =
    let z = c.self.inside.pointers in
    let full = ap (λ (z : ZoneState). is_full z.heap.table c.args.handle) c.self.view_is ∙ c.requires in
    let size = c.head_size.ensures ∙ ap head_size c.heads.ensures ∙ ap (λ (s : ZoneSizes). head_size s.heads) (rw c.linked-linked.ensures at c.spec-spec.ensures.sizes) in
    ap (λ n. c.block_of-at.result + n) size
    ∙ contents_there z c.args.handle c.block_of-at.result c.self.invariant.sound full (rw c.linked-linked.ensures at c.block_of-at.ensures)
    ∙ ap (λ (z : ZoneState). contents_of z.shape c.args.handle z.heap.map) c.self.view_is
