use Rattle.zone_records.specs.Reading.{AreSound}
use Rattle.zone_records.proofs.FreeWalk.{Walked}
use Rattle.zone_records.proofs.chained.is_chained.Given as goal

abbrev pub invariant-loop-step : goal.invariant-loop-step
invariant-loop-step l = (sound : AreSound l.blocks) → Walked l.blocks sound l.at l._step
