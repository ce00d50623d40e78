use Rattle.std.proofs.Common.{ap, ◌∙◌, arith}
use Rattle.mac_base.specs.ZoneSizes.{ZoneSizes}
use Rattle.zone_index.proofs.Ending.{ends-next, ends-zone}
use Rattle.zone_index.proofs.fixed.gap_end.Goals as goal

pub returns-in-Some : goal.returns-in-Some
returns-in-Some c rest =
    let z = c.args.zone.now in
    let sizes = c.spec-spec.ensures.possible in
    ends-next z sizes c.args.start rest c.in-Some.at c.in-Some.ensures.next

pub returns-in-None : goal.returns-in-None
returns-in-None c rest =
    let z = c.args.zone.now in
    let sizes = c.spec-spec.ensures.possible in
    let read = c.spec-spec.ensures.sizes in
    let base = c.base.ensures.value ∙ ap (λ (s : ZoneSizes). s.base) read in
    let size = c.size.ensures.value ∙ ap (λ (s : ZoneSizes). s.size) read in
    omega (arith, base, size, ends-zone z sizes c.args.start rest c.in-None.ensures.none)
