-- What the answer of a function that draws is.
use Rattle.std.specs.Prelude.{◌≡◌, ⊤, Result, Ok, Err}
use Rattle.fork_pictures.specs.declared.fault.Fault.{Fault}
use Rattle.fork_pictures.specs.declared.fault.NotDrawn.{NotDrawn}
use Rattle.fork_pictures.specs.declared.fault.NotDrawn.TheVariants as unmade
use Rattle.fork_pictures.specs.Image.{Image}

-- the picture, or the fault, but that the host may have no memory
abbrev pub Draws : Result Image NotDrawn → Result Image Fault → Type 0
Draws (Ok image) drawn = drawn ≡ Ok image
Draws (Err (unmade.Fault fault)) drawn = drawn ≡ Err fault
Draws (Err unmade.HostFull) drawn = ⊤
