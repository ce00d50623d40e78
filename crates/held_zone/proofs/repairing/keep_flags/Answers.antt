use Rattle.std.proofs.Common.{◌≡◌, ◌∙◌, ◌+◌, false, ap, arith, refl, subst}
use Rattle.mac_base.specs.HandleTable.{is_handle}
use Rattle.mac_base.specs.ZoneSizes.{ZoneSizes}
use Rattle.mac_base.specs.ZoneState.{ZoneState}
use Rattle.linked_zone.specs.Sizes.{sizes_of}
use Rattle.held_zone.proofs.Keeping.{keeps-begin, keeps-end, keeps-next, keeps-past}
use Rattle.held_zone.proofs.repairing.keep_flags.Goals as goal

pub loop-from-init : goal.loop-from-init
loop-from-init c =
    let sizes = c.spec-spec.ensures.sizes ∙ ap sizes_of c.linked.ensures.zone in
    let base = c.base-base.ensures.value ∙ ap (λ (s : ZoneSizes). s.base) sizes in
    keeps-begin c.args.memory.now c.args.bytes.now c.args.waiting.now (c.base-base.result + 52) c.linked.ensures.sound (omega arith)

pub loop-from-preserved-in-Some : goal.loop-from-preserved-in-Some
loop-from-preserved-in-Some c =
    let further = c.in-Some.ensures.further in
    keeps-past c.args.memory.now c.loop-from.memory c.args.bytes.now c.args.waiting.now c.loop-from.from c.in-Some.next (omega arith) c.loop-from.invariant
    (λ y low high. subst (λ (z : ZoneState). is_handle z.heap.table y ≡ false) c.linked-in-loop-from.ensures.zone (c.in-Some.ensures.none y low high))

pub loop-from-preserved : goal.loop-from-preserved
loop-from-preserved c =
    keeps-next c.args.memory.now c.loop-from.memory c.keep_at.new.memory c.args.bytes.now c.args.waiting.now c.loop-from.from (c.loop-from.from + 1) refl c.loop-from.invariant c.keep_at.ensures

pub returns : goal.returns
returns c =
    let sizes = c.spec-spec.ensures.sizes ∙ ap sizes_of c.linked.ensures.zone in
    let base = c.base-base.ensures.value ∙ ap (λ (s : ZoneSizes). s.base) sizes in
    let size = c.size.ensures.value ∙ ap (λ (s : ZoneSizes). s.size) sizes in
    let far = c.loop-from-test.false in
    keeps-end c.args.memory.now c.loop-from.memory c.args.bytes.now c.args.waiting.now c.loop-from.from c.linked.ensures.sound (omega arith) c.loop-from.invariant
