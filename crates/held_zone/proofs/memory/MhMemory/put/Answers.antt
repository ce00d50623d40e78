use Rattle.std.proofs.Common.{◌∙◌, Some, sym}
use Rattle.raw_region.specs.State.{State as Region}
use Rattle.held_zone.proofs.memory.MhMemory.put.Goals as goal

pub returns : goal.returns
returns c = let region = c.args.region in
    c.put_written.ensures ∙ (λ j. Some (let now : Region = record region { name = (region.name.0, sym c.requires.fresh j) } in now))
