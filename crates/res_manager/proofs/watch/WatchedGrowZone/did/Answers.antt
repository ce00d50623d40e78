use Rattle.std.proofs.Common.{refl}
use Rattle.res_manager.proofs.Noting.{told-forgets}
use Rattle.res_manager.proofs.watch.WatchedGrowZone.did.Goals as goal
use Rattle.res_manager.proofs.watch.WatchedGrowZone.did.Goals.{in-Some, in_default}

pub invariant_of-self : goal.invariant_of-self
invariant_of-self g c =
    let self = c.args.self.now in
    let told = told-forgets c.args.call c.args.code (g.G.GrowZone.asks self.procedure.now) g.B.Before.files c.requires in
    record {
      forgotten = elim c.match-disposed_by.branch [
        | in-Some w ↦ rw (w.self-is, w.forget.ensures, self.forgotten, c.did.ensures.asks, told, ← c.disposed_by.ensures, w.in-Some.is) refl
        | in_default w ↦ rw (w.self-is, self.forgotten, c.did.ensures.asks, told, ← c.disposed_by.ensures, w.in_default.is) refl
      ];
    }
