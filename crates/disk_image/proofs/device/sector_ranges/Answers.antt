use Rattle.std.proofs.Common.{◌≡◌, ℕ, ◌+◌, ◌-◌, suc, ap, sym, ◌∙◌, arith}
use Rattle.disk_image.specs.Devices.{sectors}
use Rattle.disk_image.proofs.Sectors.{sector_more, no_sector}
use Rattle.disk_image.proofs.device.sector_ranges.Goals as goal

pub loop-sector-init : goal.loop-sector-init
loop-sector-init c =
    let all : c.args.count - 0 ≡ c.args.count = omega arith in
    rw c.new-ranges.ensures.items (ap (λ (k : ℕ). sectors c.args.head 0 k) all)

pub loop-sector-preserved : goal.loop-sector-preserved
loop-sector-preserved c =
    let left : c.args.count - c.loop-sector.sector ≡ suc (c.args.count - (c.loop-sector.sector + 1)) = omega (arith, c.loop-sector-test.true) in
    rw c.in_ok-push.ensures.items (sym (sector_more c.loop-sector.ranges.items c.args.head c.loop-sector.sector _ _ left) ∙ c.loop-sector.invariant)

pub returns : goal.returns
returns c = sym (no_sector c.loop-sector.ranges.items c.args.head c.loop-sector.sector _ (omega (arith, c.loop-sector-test.false))) ∙ c.loop-sector.invariant
