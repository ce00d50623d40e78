use Rattle.std.proofs.Common.{◌≡◌, ◌∙◌, ℕ, List, ap, length, subst, sym}
use Rattle.mac_base.specs.ZoneState.{ZoneState}
use Rattle.raw_region.specs.State.{State as Region}
use Rattle.mem_calls.proofs.FlagsTaken.{part-all}
use Rattle.held_zone.specs.NilFlags.{IsCleared}
use Rattle.held_zone.specs.State.{State}
use Rattle.held_zone.proofs.Guests.{all-written}
use Rattle.held_zone.proofs.session.Session.clear_in.Goals as goal

pub clear-requires-clause-long : goal.clear-requires-clause-long
clear-requires-clause-long c =
    let given = c.args.region.now.bytes in
    let own : c.bytes_mut.result.now ≡ given = c.bytes_mut.ensures.value ∙ part-all given c.len-all.result c.len-all.ensures in
    ap length own ∙ c.requires.long ∙ sym (ap (λ (s : State). s.zone.shape.limit) c.self.view_is) ∙ sym (ap (λ (z : ZoneState). z.shape.limit) c.linked.ensures.zone)

pub returns-clause-cleared : goal.returns-clause-cleared
returns-clause-cleared c =
    let given = c.args.region.now.bytes in let new = c.clear.new.bytes in
    let own : c.bytes_mut.result.now ≡ given = c.bytes_mut.ensures.value ∙ part-all given c.len-all.result c.len-all.ensures in
    let clear : IsCleared c.args.self.now.zone given new = subst (λ (s : State). IsCleared s.zone given new) c.self.view_is
    (subst (λ (z : ZoneState). IsCleared z given new) c.linked.ensures.zone (subst (λ (bs : List ℕ). IsCleared c.linked.result.now bs new) own c.clear.ensures)) in
    subst (λ (r : Region). IsCleared c.args.self.now.zone given r.bytes) (sym (all-written c.args.region.now new c.len-all.result c.len-all.ensures clear.long)) clear

pub returns-clause-others : goal.returns-clause-others
returns-clause-others c =
    let given = c.args.region.now in let new = c.clear.new.bytes in
    let own : c.bytes_mut.result.now ≡ given.bytes = c.bytes_mut.ensures.value ∙ part-all given.bytes c.len-all.result c.len-all.ensures in
    let whole = all-written given new c.len-all.result c.len-all.ensures (c.clear.ensures.long ∙ ap length own) in
    whole ∙ sym (ap (λ (r : Region). let now : Region = record given { bytes = r.bytes } in now) whole)
