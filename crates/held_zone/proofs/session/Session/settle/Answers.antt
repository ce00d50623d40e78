use Rattle.std.proofs.Common.{◌∙◌, sym, ap}
use Rattle.held_zone.specs.State.{State}
use Rattle.held_zone.proofs.Settled.{settled}
use Rattle.held_zone.proofs.session.Session.settle.Goals as goal

pub returns : goal.returns
returns c =
    settled c.args.self.now c.linked.result.now c.args.region c.bytes_mut.result.now c.write_structure.new.bytes c.len-all.result
    (sym (ap (λ (s : State). s.zone) c.self.view_is) ∙ sym c.linked.ensures.zone) c.requires.whole c.len-all.ensures (c.write_structure.auto.bytes ∙ c.bytes_mut.ensures.len ∙ c.len-all.ensures) c.bytes_mut.ensures.value
    c.write_structure.ensures.same c.write_structure.ensures.flags c.write_structure.ensures.others c.write_structure.ensures.contents
