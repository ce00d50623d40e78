use Rattle.std.proofs.Common.{◌≡◌, ◌∙◌, ◌+◌, ◌-◌, ap, sym, arith}
use Rattle.mac_base.specs.HeadKind.{head_size}
use Rattle.mac_base.specs.HandleTable.{flags_of, live_at}
use Rattle.mac_base.specs.ZoneSizes.{ZoneSizes}
use Rattle.zone_heap.proofs.Contents.{below_limit, contents_there}
use Rattle.held_zone.proofs.Keeping.{full-handle, kept-own, kept-said, slot-above, slot-below}
use Rattle.held_zone.proofs.repairing.right_flags.Goals as goal

pub overflow_add-contents : goal.overflow_add-contents
overflow_add-contents c =
    let below = below_limit c.args.zone.now c.args.handle c.block_of.result c.requires.sound c.block_of.ensures in
    let base = ap (λ (s : ZoneSizes). s.base) c.spec-spec.ensures.sizes in
    let limit = ap (λ (s : ZoneSizes). s.limit) c.spec-spec.ensures.sizes in
    let heads = ap head_size (c.in-Bits24.ensures ∙ ap (λ (s : ZoneSizes). s.heads) c.spec-spec.ensures.sizes) in
    let value = c.base-base.ensures.value in
    let reach = c.base-base.ensures.reach in
    omega arith

pub overflow_sub-at : goal.overflow_sub-at
overflow_sub-at c =
    let handle = full-handle (live_at c.args.zone.now.heap.table c.args.handle) c.requires.full in
    let above = slot-above c.args.zone.now c.requires.sound c.args.handle handle in
    let base = ap (λ (s : ZoneSizes). s.base) c.spec-spec.ensures.sizes in
    let value = c.base-base.ensures.value in
    omega arith

pub word_at-requires : goal.word_at-requires
word_at-requires c =
    let handle = full-handle (live_at c.args.zone.now.heap.table c.args.handle) c.requires.full in
    let below = slot-below c.args.zone.now c.requires.sound c.args.handle handle in
    let base = ap (λ (s : ZoneSizes). s.base) c.spec-spec.ensures.sizes in
    let value = c.base-base.ensures.value in
    let within = c.requires.sound.within in
    let long = c.requires.long in
    omega arith

pub returns-then-word_at-contents : goal.returns-then-word_at-contents
returns-then-word_at-contents c =
    let z = c.args.zone.now in
    let sizes = c.spec-spec.ensures.sizes in
    let value = c.base-base.ensures.value ∙ ap (λ (s : ZoneSizes). s.base) sizes in
    let place : c.number.result - c.base-base.result ≡ c.args.handle - z.shape.base = λ i. c.number.ensures i - value i in
    let heads = sym (ap (λ (s : ZoneSizes). s.heads) sizes) ∙ sym c.in-Bits24.ensures in
    let wide : c.head_size.result ≡ head_size z.shape.heads = c.head_size.ensures ∙ ap head_size (sym heads) in
    let begins = ap (λ n. c.block_of.result + n) wide ∙ contents_there z c.args.handle c.block_of.result c.requires.sound c.requires.full c.block_of.ensures in
    kept-said z c.args.bytes.now c.args.handle (c.number.result - c.base-base.result) c.word_at.result (c.block_of.result + c.head_size.result) c.flags_from.result (flags_of z.heap.table c.args.handle)
    heads place c.word_at.ensures begins c.if-word_at-contents.true c.flags_from.ensures

pub returns-else-word_at-contents : goal.returns-else-word_at-contents
returns-else-word_at-contents c =
    let z = c.args.zone.now in
    let sizes = c.spec-spec.ensures.sizes in
    let value = c.base-base.ensures.value ∙ ap (λ (s : ZoneSizes). s.base) sizes in
    let place : c.number.result - c.base-base.result ≡ c.args.handle - z.shape.base = λ i. c.number.ensures i - value i in
    let heads = sym (ap (λ (s : ZoneSizes). s.heads) sizes) ∙ sym c.in-Bits24.ensures in
    let wide : c.head_size.result ≡ head_size z.shape.heads = c.head_size.ensures ∙ ap head_size (sym heads) in
    let begins = ap (λ n. c.block_of.result + n) wide ∙ contents_there z c.args.handle c.block_of.result c.requires.sound c.requires.full c.block_of.ensures in
    c.flags-own.ensures
    ∙ kept-own z c.args.bytes.now c.args.handle (c.number.result - c.base-base.result) c.word_at.result (c.block_of.result + c.head_size.result) (flags_of z.heap.table c.args.handle)
    place c.word_at.ensures begins c.if-word_at-contents.false
