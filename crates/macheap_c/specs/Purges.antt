-- What C holds of the handles that calls purge, and what it is shown of them.
use Rattle.std.specs.Prelude.{◌≡◌, ℕ, ℤ, pos, not, ◌==◌, List, length, take, Option, Some, None}
use Rattle.mac_base.specs.ZoneState.{written}
use Rattle.held_zone.specs.Purges.{holding}
use Rattle.held_zone.specs.declared.host_err.HostErr.TheVariants.{NotThere}
use Rattle.held_zone.specs.HostCodes.{host_code}
use Rattle.held_zone.specs.State.{State}

-- C holds calls that would purge from now on, unless `on` is 0: then no more.
abbrev pub HoldTold : ℕ → Option State → ℤ → Option State → Type 0
HoldTold on None code new = (code ≡ host_code NotThere) × (new ≡ None)
HoldTold on (Some old) code new = (code ≡ pos 0) × (new ≡ Some (record old { purges = holding (not (on == 0)) old.purges }))

-- the handle whose turn it is, where the last call was held
abbrev pub turn_of : State → Option ℕ
turn_of s = s.purges.turn

-- C is shown how many handles the last call purged, and the first of them, over as many numbers as it has room for.
abbrev pub PurgedTold : Option State → ℤ → List ℕ × ℕ → List ℕ × ℕ → Option State → Type 0
PurgedTold None code before shown new = (code ≡ host_code NotThere) × (shown ≡ before) × (new ≡ None)
PurgedTold (Some old) code before shown new =
    (code ≡ pos 0) × (shown ≡ (written 0 (take (length before.0) old.purges.first) before.0, old.purges.count)) × (new ≡ Some old)
