use Rattle.std.proofs.Common.{[], ◌∷◌}
use Rattle.file_replace.specs.declared.place.Event.TheVariants.{Found}
use Rattle.file_replace.specs.Memory.{seen}
use Rattle.file_replace.proofs.mem_place.begun.Given as goal

abbrev pub ghost-of_events_beside : goal.ghost-of_events_beside
ghost-of_events_beside a = Found (seen a._first.now) ∷ []
