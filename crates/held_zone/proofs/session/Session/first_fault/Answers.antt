use Rattle.std.proofs.Common.{◌≡◌, ◌∙◌, ◌≤◌, ℕ, List, ap, arith, length, subst, sym}
use Rattle.mac_base.specs.HeadKind.{zone_header}
use Rattle.mac_base.specs.ZoneState.{ZoneState}
use Rattle.raw_region.specs.State.{State as Region}
use Rattle.mem_calls.proofs.FlagsTaken.{part-all}
use Rattle.held_zone.specs.Checking.{Finds}
use Rattle.held_zone.specs.Fields.{fielded, managed}
use Rattle.held_zone.specs.State.{State}
use Rattle.held_zone.proofs.Guests.{managed-long}
use Rattle.held_zone.proofs.Headers.{fielded-back}
use Rattle.held_zone.proofs.session.Session.first_fault.Goals as goal

pub first_fault-found-requires-clause-long : goal.first_fault-found-requires-clause-long
first_fault-found-requires-clause-long c =
    c.bytes.ensures.len ∙ c.len.ensures ∙ managed-long c.args.region.now c.put_aside-fields.new.region c.put_aside-fields.ensures.region ∙ c.requires.long
    ∙ sym (ap (λ (s : State). s.zone.shape.limit) c.self.view_is) ∙ sym (ap (λ (z : ZoneState). z.shape.limit) c.linked-zone.ensures.zone)

pub write_in-requires-clause-long : goal.write_in-requires-clause-long
write_in-requires-clause-long c =
    let same = managed-long c.args.region.now c.put_aside-fields.new.region c.put_aside-fields.ensures.region in
    let long = c.requires.long in let value = c.limit-limit.ensures.value in let large = c.limit-limit.ensures.large in
    omega arith

pub returns-clause-checked : goal.returns-clause-checked
returns-clause-checked c =
    let bytes : c.bytes.result.now ≡ managed c.args.region.now.bytes =
    c.bytes.ensures.value ∙ part-all c.put_aside-fields.new.region.bytes c.len.result c.len.ensures ∙ ap (λ (r : Region). r.bytes) c.put_aside-fields.ensures.region in
    subst (λ (s : State). Finds s.zone (managed c.args.region.now.bytes) c.first_fault-found.result) c.self.view_is
    (subst (λ (z : ZoneState). Finds z (managed c.args.region.now.bytes) c.first_fault-found.result) c.linked-zone.ensures.zone
    (subst (λ (bs : List ℕ). Finds c.linked-zone.result.now bs c.first_fault-found.result) bytes c.first_fault-found.ensures))

pub returns-clause-same : goal.returns-clause-same
returns-clause-same c =
    let long = c.requires.long in let value = c.limit-limit.ensures.value in let large = c.limit-limit.ensures.large in
    let all : zone_header ≤ length c.args.region.now.bytes = omega arith in
    c.write_in.ensures.region ∙ (λ i. fielded (c.put_aside-fields.ensures.fields i) (c.put_aside-fields.ensures.region i)) ∙ fielded-back c.args.region.now all
