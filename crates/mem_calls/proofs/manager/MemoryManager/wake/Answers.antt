use Rattle.std.proofs.Common.{◌∙◌, subst}
use Rattle.mac_base.specs.ZoneState.{ZoneState}
use Rattle.linked_zone.specs.Structure.{Agrees}
use Rattle.mem_calls.proofs.FlagsTaken.{part-all}
use Rattle.mem_calls.proofs.manager.MemoryManager.wake.Goals as goal

pub wake_as-requires-clause-agrees : goal.wake_as-requires-clause-agrees
wake_as-requires-clause-agrees c =
    subst (λ (z : ZoneState). Agrees z c.args.region.bytes c.agreement-agreement.result) (c.linked-linked.ensures.zone ∙ c.self.view_is)
    (subst (λ bytes. Agrees c.linked-linked.result.now bytes c.agreement-agreement.result) (c.bytes.ensures.value ∙ part-all c.args.region.bytes c.len.result c.len.ensures) c.agreement-agreement.ensures)
