use Rattle.std.proofs.Common.{◌≡◌, take}
use Rattle.mem_calls.proofs.Telling.{calls_at, Carries}
use Rattle.mem_calls.proofs.request.carry_out.Given as goal

abbrev pub invariant-loop-place : goal.invariant-loop-place
invariant-loop-place g l = Carries l.initial.zone l.protected (g.G.GrowZone.asks l.initial.procedure) (calls_at (take l.place-index l.place-items)) l.zone (g.G.GrowZone.asks l.procedure)
    × (g.G.GrowZone.source l.procedure ≡ g.G.GrowZone.source l.initial.procedure)
