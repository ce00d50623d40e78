-- What resource files that C holds own.
use Rattle.std.specs.Prelude.{◌≡◌, ◌⊎◌, Option, Some, None, Bool, true, false}
use base.Fml.{Fml, ftrue}
use denote.RawPtr.{Ptr}
use Rattle.held_files.specs.Forks.{ForksState}
use Rattle.held_files.specs.contracts.files.ForkFiles.{the_row}
use Rattle.held_zone.specs.Held.{chunk}
use Rattle.held_zone.specs.State.{State}
use Rattle.std_alloc.specs.Box.Ownership.{box_owns}

-- files at a pointer, and the right to free their memory; nothing where there are none
abbrev pub held : Option ForksState → Ptr → Fml
held None p = ftrue
held (Some files) p = box_owns chunk the_row p files

-- whether files are there
abbrev pub is_there : Option ForksState → Bool
is_there None = false
is_there (Some files) = true

-- There is no zone, or there is one, and there are no files.
abbrev pub LacksOne : Option State → Option ForksState → Type 0
LacksOne zone files = (zone ≡ None) ⊎ ((session : State) × (zone ≡ Some session) × (files ≡ None))
