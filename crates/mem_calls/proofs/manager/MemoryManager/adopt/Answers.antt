use Rattle.std.proofs.Common.{ap, arith}
use Rattle.mac_base.specs.ZoneSizes.{ZoneSizes}
use Rattle.mem_calls.proofs.manager.MemoryManager.adopt.Goals as goal

pub invariant_of-result : goal.invariant_of-result
invariant_of-result c =
    let same = ap (λ (s : ZoneSizes). s.limit) c.in_ok-zone.ensures.zone.0.sizes in
    omega arith
