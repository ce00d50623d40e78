use Rattle.std.proofs.Common.{◌∙◌, ap, arith}
use Rattle.mac_base.specs.ZoneSizes.{ZoneSizes}
use Rattle.held_zone.proofs.NilFlags.{none-end}
use Rattle.held_zone.proofs.nil_flags.next_nil_flags.Goals as goal

pub returns-clause-none : goal.returns-clause-none
returns-clause-none c =
    let sizes = c.spec-spec.ensures.sizes in
    let base = c.base.ensures.value ∙ ap (λ (s : ZoneSizes). s.base) sizes in
    let size = c.size.ensures.value ∙ ap (λ (s : ZoneSizes). s.size) sizes in
    let far = c.loop-at-test.false in
    none-end c.args.zone.now c.args.bytes.now c.args.from c.loop-at.at c.requires.sound c.loop-at.invariant.1 (omega arith)
