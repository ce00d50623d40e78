use Rattle.std.proofs.Common.{◌≡◌, ◌-◌, ◌<◌, ◌≤◌, ◌∙◌, ap, arith}
use Rattle.mac_base.specs.declared.block.Entry.{Entry}
use Rattle.mac_base.specs.HeadKind.{smallest_block}
use Rattle.mac_base.specs.ZoneSizes.{ZoneSizes}
use Rattle.zone_heap.proofs.Cutting.{entry_taken, cut_taken, with_front-cut, with_front-whole}
use Rattle.zone_heap.proofs.zone.cut.Goals as goal

pub overflow_sub-whole : goal.overflow_sub-whole
overflow_sub-whole c = omega (arith, ap (λ (e : Entry). e.size) ((rw c.linked-linked.ensures at c.entry_at-whole.ensures) (entry_taken c.requires)), c.requires.fits)

pub split-requires : goal.split-requires
split-requires c =
    let small : c.smallest_block.result ≡ smallest_block c.args.pointers.now.shape.heads = c.smallest_block.ensures ∙ ap smallest_block c.heads-heads.ensures ∙ ap (λ (s : ZoneSizes). smallest_block s.heads) (rw c.linked-linked.ensures at c.spec.ensures.sizes) in
    let whole = ap (λ (e : Entry). e.size) ((rw c.linked-linked.ensures at c.entry_at-whole.ensures) (entry_taken c.requires)) in
    cut_taken c.requires (omega (arith, small, whole, c.if-whole-size.true))

pub returns-then-whole-size : goal.returns-then-whole-size
returns-then-whole-size c take =
    let small : c.smallest_block.result ≡ smallest_block c.args.pointers.now.shape.heads = c.smallest_block.ensures ∙ ap smallest_block c.heads-heads.ensures ∙ ap (λ (s : ZoneSizes). smallest_block s.heads) (rw c.linked-linked.ensures at c.spec.ensures.sizes) in
    let whole = ap (λ (e : Entry). e.size) ((rw c.linked-linked.ensures at c.entry_at-whole.ensures) (entry_taken take)) in
    let enough : smallest_block c.args.pointers.now.shape.heads ≤ take.free.size - c.args.size = omega (arith, small, whole, c.if-whole-size.true) in
    c.split.ensures (cut_taken take enough) ∙ with_front-cut c.args.pointers.now c.args.at c.args.size take enough

pub returns-else-whole-size : goal.returns-else-whole-size
returns-else-whole-size c take =
    let small : c.smallest_block.result ≡ smallest_block c.args.pointers.now.shape.heads = c.smallest_block.ensures ∙ ap smallest_block c.heads-heads.ensures ∙ ap (λ (s : ZoneSizes). smallest_block s.heads) (rw c.linked-linked.ensures at c.spec.ensures.sizes) in
    let whole = ap (λ (e : Entry). e.size) ((rw c.linked-linked.ensures at c.entry_at-whole.ensures) (entry_taken take)) in
    let few : take.free.size - c.args.size < smallest_block c.args.pointers.now.shape.heads = omega (arith, small, whole, c.if-whole-size.false) in
    with_front-whole c.args.pointers.now c.args.at c.args.size take few
