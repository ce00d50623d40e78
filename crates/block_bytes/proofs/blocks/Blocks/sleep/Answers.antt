use Rattle.std.proofs.Common.{sym, ap, subst, ◌∙◌}
use Rattle.raw_region.specs.State.{State}
use Rattle.block_bytes.specs.Layout.{Layout, NothingLent}
use Rattle.block_bytes.specs.Reading.{layout_of}
use Rattle.block_bytes.specs.Sleeping.{FallsAsleep}
use Rattle.block_bytes.proofs.Asleep.{IsSlept, slept}
use Rattle.block_bytes.proofs.blocks.Blocks.sleep.Goals as goal

-- what the fields stand for then
slept_then : (c : goal.After-into_region) → IsSlept c.self.inside c.replace-before.new.dest c.take.new.self
slept_then c =
    slept c.self.inside c.self.invariant c.base-base.ensures.possible (subst NothingLent (sym c.self.view_is) c.requires.nothing_lent) c.in_ok-region.field-0 (sym c.take.ensures.value ∙ c.in_ok-region.was)
    c.replace-before.new.dest c.write_changed.new.bytes c.len-all.result (c.replace-before.ensures.after ∙ c.of.ensures) c.len-all.ensures (c.write_changed.auto.bytes ∙ c.bytes_mut.ensures.len)
    c.take.new.self c.take.ensures.after c.write_changed.ensures.same c.write_changed.ensures.masters

pub invariant_of-self-3 : goal.invariant_of-self-3
invariant_of-self-3 c = (slept_then c).whole

pub returns-clause-asleep : goal.returns-clause-asleep
returns-clause-asleep c = subst (λ (l : Layout). FallsAsleep l (layout_of (record c.self.inside { memory = c.replace-before.new.dest; kept = c.take.new.self }))) c.self.view_is (slept_then c).asleep

pub returns-clause-lent : goal.returns-clause-lent
returns-clause-lent c = ap (λ (m : State). m.lent) (c.into_region.ensures ∙ c.replace-before.ensures.value) ∙ (slept_then c).lent
