-- What a zone that C holds owns.
use Rattle.std.specs.Prelude.{Option, Some, None, Bool, true, false}
use base.Fml.{Fml, ftrue}
use mir.Syntax.{Ty}
use denote.RawPtr.{Ptr}
use Rattle.held_zone.specs.State.{State}
use Rattle.held_zone.specs.contracts.session.Session.{the_row}
use Rattle.std_alloc.specs.Box.Ownership.{box_owns}
use Rattle.std_heap.specs.contracts.GlobalAllocator.TheImpl.{ghosts}

-- the right to free memory of the host's heap
abbrev pub chunk : Ty → Ptr → Fml
chunk = ghosts.dealloc_token (record { memory = record { seal = tt } })

-- a session at a pointer, and the right to free its memory; nothing where there is no session
abbrev pub held : Option State → Ptr → Fml
held None p = ftrue
held (Some session) p = box_owns chunk the_row p session

-- whether a session is there
abbrev pub is_there : Option State → Bool
is_there None = false
is_there (Some session) = true
