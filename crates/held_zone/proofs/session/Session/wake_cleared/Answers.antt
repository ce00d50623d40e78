use Rattle.std.proofs.Common.{◌∙◌, ap, refl}
use Rattle.raw_region.specs.State.{State as Region}
use Rattle.mem_calls.proofs.FlagsTaken.{part-all}
use Rattle.held_zone.proofs.Guests.{sleeps-cleared}
use Rattle.held_zone.proofs.NilFlags.{damaged-none}
use Rattle.held_zone.proofs.session.Session.wake_cleared.Goals as goal

pub returns-then-not-has_nil_flags-clause-asleep :
    goal.returns-then-not-has_nil_flags-clause-asleep
returns-then-not-has_nil_flags-clause-asleep c = (damaged-none c.args.self.now.zone c.args.region.bytes c.requires.damaged c.if-not-has_nil_flags.ensures, refl, refl)

pub returns-clause-asleep : goal.returns-clause-asleep
returns-clause-asleep c =
    let old = c.args.self.now in let given = c.args.region in let cleared = c.clear_in.new.region in let slept = c.in-Err.ensures.asleep in
    let back = c.deref.ensures.value ∙ c.in-Ok.ensures.items ∙ c.bytes.ensures.value ∙ part-all given.bytes c.len.result c.len.ensures in (
      sleeps-cleared c.in-Err.field-0.why old given.bytes cleared.bytes c.requires.damaged c.clear_in.ensures.cleared slept.0,
      c.write_all.ensures ∙ (λ i. record (slept.1 i) { bytes = back i }) ∙ ap (λ (r : Region). let now : Region = record r { bytes = given.bytes } in now) c.clear_in.ensures.others,
      slept.2,
    )
