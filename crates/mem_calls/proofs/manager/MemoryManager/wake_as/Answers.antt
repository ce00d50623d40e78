use Rattle.std.proofs.Common.{◌≡◌, ◌∙◌, false, ap, refl, subst, sym}
use Rattle.mac_base.specs.ZoneState.{ZoneState, woken_in}
use Rattle.linked_zone.specs.Structure.{Agrees, HasStructure, shown}
use Rattle.mem_calls.proofs.FlagsTaken.{part-all}
use Rattle.mem_calls.proofs.manager.MemoryManager.wake_as.Goals as goal

pub take_flags-requires-clause-agrees : goal.take_flags-requires-clause-agrees
take_flags-requires-clause-agrees c =
    subst (λ (z : ZoneState). Agrees z c.bytes.result.now c.args.agreement) (sym c.self.view_is)
    (subst (λ bytes. Agrees c.args.self.now bytes c.args.agreement) (sym (c.bytes.ensures.value ∙ part-all c.args.region.bytes c.len.result c.len.ensures)) c.requires.agrees)

pub returns-then-not-take_flags-clause-damaged : goal.returns-then-not-take_flags-clause-damaged
returns-then-not-take_flags-clause-damaged c =
    let other = c.if-not-take_flags.ensures.damaged refl in (
      λ has. other.0 (subst (λ (z : ZoneState). HasStructure z c.bytes.result.now) (sym c.self.view_is) (subst (HasStructure c.args.self.now) (sym (c.bytes.ensures.value ∙ part-all c.args.region.bytes c.len.result c.len.ensures)) has)),
      refl,
      other.1 ∙ c.self.view_is,
    )

pub wake-requires-clause-asleep : goal.wake-requires-clause-asleep
wake-requires-clause-asleep c = ap (λ (z : ZoneState). z.memory.kept) (c.if-not-take_flags.ensures.same refl).1.others ∙ ap (λ (z : ZoneState). z.memory.kept) c.self.view_is ∙ c.requires.asleep

pub returns-clause-awake : goal.returns-clause-awake
returns-clause-awake c =
    let z = c.self.inside.zone in
    let bytes = c.args.region.bytes in
    let whole = c.bytes.ensures.value ∙ part-all bytes c.len.result c.len.ensures in
    let takes = c.if-not-take_flags.ensures.same refl in (
      subst (λ (z : ZoneState). HasStructure z bytes) c.self.view_is (subst (HasStructure z) whole takes.0),
      c.wake.ensures ∙ ap (λ (s : ZoneState). record s { memory = woken_in s.memory c.args.region.name })
          (subst (λ bs. shown c.take_flags.new.zone bs ≡ shown z bs) whole takes.1.others ∙ ap (λ (z : ZoneState). shown z bytes) c.self.view_is),
    )
