use Rattle.std.proofs.Common.{ap, arith, sym}
use Rattle.mac_base.specs.ZoneSizes.{ZoneSizes}
use Rattle.held_zone.proofs.Keeping.{slot-above, slot-below}
use Rattle.held_zone.proofs.NilFlags.{nil-handle}
use Rattle.held_zone.proofs.nil_flags.has_nil_flags.Goals as goal

pub overflow_sub-high : goal.overflow_sub-high
overflow_sub-high c =
    let above = slot-above c.args.zone.now c.requires.sound c.args.at (nil-handle c.args.zone.now c.args.at (sym c.if-not-is_nil.ensures)) in
    let base = ap (λ (s : ZoneSizes). s.base) c.spec.ensures.sizes in
    let value = c.base.ensures.value in
    omega arith

pub bounds-bytes-at : goal.bounds-bytes-at
bounds-bytes-at c =
    let below = slot-below c.args.zone.now c.requires.sound c.args.at (nil-handle c.args.zone.now c.args.at (sym c.if-not-is_nil.ensures)) in
    let base = ap (λ (s : ZoneSizes). s.base) c.spec.ensures.sizes in
    let value = c.base.ensures.value in
    let within = c.requires.sound.within in
    let long = c.requires.long in
    omega arith
