use Rattle.std.proofs.Common.{rules, ◌≡◌, length, Some}
use Rattle.held_zone.specs.Asleep.{IsSettled, region_of}
use Rattle.macheap_c.proofs.Guests.{made_in}
use Rattle.macheap_c.proofs.guest.make.Goals as goal

pub returns-in-Ok : goal.returns-in-Ok
returns-in-Ok c =
    let there : region_of c.args.memory.now.host ≡ Some c.in-Some.region = search rules in
    let long : length c.in-Some.region.bytes ≡ c.args.spec.limit = search rules in
    let settled : IsSettled c.in-Ok.session.value c.in-Some.region c.settle.result = search rules in
    made_in c.args.spec (region_of c.args.memory.now.host) (region_of c.put_written.new.self.host) c.put-in-Ok.new.self.zone.held.session c.in-Some.region c.settle.result c.in-Ok.session.value
    there long c.in-Ok.ensures.new settled (search rules) c.put_written.ensures
