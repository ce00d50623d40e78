use Rattle.std.proofs.Common.{◌≡◌, ◌-◌, ◌+◌, length, map}
use Rattle.image_paths.specs.Paths.{items_of, names_before, names_from, names_in}
use Rattle.image_paths.proofs.path.names_in.Given as goal

abbrev pub invariant-loop-step : goal.invariant-loop-step
invariant-loop-step l = names_in l.fn.text ≡ names_before (map items_of l.names.items) (names_from (length l.fn.text - l.step) (l.step + 1) l.rest)
