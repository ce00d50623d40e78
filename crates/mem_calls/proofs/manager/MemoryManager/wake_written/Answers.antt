use Rattle.std.proofs.Common.{◌∙◌, sym, subst}
use Rattle.mac_base.specs.ZoneState.{ZoneState}
use Rattle.linked_zone.specs.Structure.{Agrees}
use Rattle.linked_zone.specs.Written.{DifferIn}
use Rattle.mem_calls.proofs.FlagsTaken.{part-all}
use Rattle.mem_calls.proofs.manager.MemoryManager.wake_written.Goals as goal

pub agreement_in-agreement-requires : goal.agreement_in-agreement-requires
agreement_in-agreement-requires c = record {
  told = subst (λ (z : ZoneState). DifferIn z c.bytes.result.now c.args.written.now) (sym (c.linked-linked.ensures.zone ∙ c.self.view_is))
      (subst (λ bytes. DifferIn c.args.self.now bytes c.args.written.now) (sym (c.bytes.ensures.value ∙ part-all c.args.region.bytes c.len.result c.len.ensures)) c.requires.told);
}

pub wake_as-requires-clause-agrees : goal.wake_as-requires-clause-agrees
wake_as-requires-clause-agrees c =
    subst (λ (z : ZoneState). Agrees z c.args.region.bytes c.agreement_in-agreement.result) (c.linked-linked.ensures.zone ∙ c.self.view_is)
    (subst (λ bytes. Agrees c.linked-linked.result.now bytes c.agreement_in-agreement.result) (c.bytes.ensures.value ∙ part-all c.args.region.bytes c.len.result c.len.ensures) c.agreement_in-agreement.ensures)
