use Rattle.std.proofs.Common.{◌≡◌, ◌-◌, length}
use Rattle.image_paths.specs.Names.{name_from}
use Rattle.image_paths.proofs.Reading.{name_before}
use Rattle.image_paths.proofs.path.name_of.Given as goal

abbrev pub invariant-loop-step : goal.invariant-loop-step
invariant-loop-step l = name_from (length l.fn.text) l.fn.text ≡ name_before l.name.items (name_from (length l.fn.text - l.step) l.rest)
