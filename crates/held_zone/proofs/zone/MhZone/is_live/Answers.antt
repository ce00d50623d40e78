use Rattle.held_zone.proofs.There.{there}
use Rattle.held_zone.proofs.zone.MhZone.is_live.Goals as goal

pub returns : goal.returns
returns c = there c.args.self.now.live c.args.self.now.held.session c.args.self.now.agrees
