use Rattle.std.proofs.Common.{ap, ◌∙◌, arith}
use Rattle.mac_base.specs.declared.block.Entry.{Entry}
use Rattle.mac_base.specs.ZoneSizes.{ZoneSizes}
use Rattle.zone_index.proofs.Ending.{begins-last, begins-zone}
use Rattle.zone_index.proofs.fixed.gap_start.Goals as goal

pub overflow_add-result : goal.overflow_add-result
overflow_add-result c =
    let z = c.args.zone.now in
    let sizes = c.spec-spec.ensures.possible in
    let b = begins-last z sizes c.args.end c.requires.front c.in-Some.at c.in-Some.ensures.last in
    let size = ap (λ (e : Entry). e.size) (c.entry_at.ensures b.entry) in
    omega (arith, b.sum, size, c.ranges.end.fits)

pub returns-in-Some : goal.returns-in-Some
returns-in-Some c front =
    let z = c.args.zone.now in
    let sizes = c.spec-spec.ensures.possible in
    let b = begins-last z sizes c.args.end front c.in-Some.at c.in-Some.ensures.last in
    let size = ap (λ (e : Entry). e.size) (c.entry_at.ensures b.entry) in
    omega (arith, b.sum, size)

pub returns-in-None : goal.returns-in-None
returns-in-None c front =
    let z = c.args.zone.now in
    let sizes = c.spec-spec.ensures.possible in
    let read = c.spec-spec.ensures.sizes in
    let base = c.base.ensures.value ∙ ap (λ (s : ZoneSizes). s.base) read in
    omega (arith, base, begins-zone z sizes c.args.end front c.in-None.ensures.none)
