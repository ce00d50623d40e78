-- Whether there is a session.
use Rattle.std.proofs.Common.{◌≡◌, Bool, true, false, Option, Some, None, refl}
use Rattle.std.specs.Prelude.{MatchBool}
use Rattle.held_zone.specs.Held.{is_there}
use Rattle.held_zone.specs.State.{State}

-- it is there, or there is none
pub there : (live : Bool) (session : Option State) → live ≡ is_there session → MatchBool live ((one : State) × (session ≡ Some one)) (session ≡ None)
there true (Some one) is = (one, refl)
there true None is = absurd (cc is)
there false (Some one) is = absurd (cc is)
there false None is = refl
