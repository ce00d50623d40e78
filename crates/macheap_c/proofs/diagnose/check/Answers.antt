use mir.Syntax.{w16}
use Rattle.std.proofs.Common.{rules, ◌≡◌, ◌∙◌, ℤ, ap, length, Option, Some, subst, sym}
use Rattle.std.proofs.lemmas.Int.{to_z-of_z}
use Rattle.raw_region.specs.State.{State as Region}
use Rattle.held_zone.specs.Asleep.{region_of}
use Rattle.macheap_c.specs.Diagnose.{ChecksIn}
use Rattle.macheap_c.proofs.Checking.{checked}
use Rattle.macheap_c.proofs.diagnose.check.Goals as goal

pub returns : goal.returns
returns c =
    let there : region_of c.args.memory.now.host ≡ Some c.in-Some.region = search rules in
    let long : length c.in-Some.region.bytes ≡ c.args.session.now.zone.shape.limit = search rules in
    let back = c.put-2.ensures ∙ ap (λ (r : Region). Some r) c.first_fault-found.ensures.same in
    subst (λ (code : ℤ). ChecksIn c.args.session.now (region_of c.args.memory.now.host) code c.args.fault.now c.show_fault.new.fault (region_of c.put-2.new.self.host)) (sym (to_z-of_z w16 c.show_fault.result (search rules)))
    (checked c.args.session.now (region_of c.args.memory.now.host) (region_of c.put-2.new.self.host) c.in-Some.region c.first_fault-found.result c.show_fault.result c.args.fault.now c.show_fault.new.fault
    there long c.first_fault-found.ensures.checked c.show_fault.ensures back)
