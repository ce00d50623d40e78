-- What C learns of the handles that its calls purge.
use Rattle.std.specs.Prelude.{ℕ, min, Bool, false, List, [], length, take, Option, Some, None}

-- whether calls are held that would purge; the handle whose turn it is, if the last call was held; and the handles that
-- the last call purged, in order: the first of them, and how many there were
pub record Purges : Type 0 where
  pub held : Bool
  pub turn : Option ℕ
  pub first : List ℕ
  pub count : ℕ

-- the most handles of one call that are noted
abbrev pub most_noted : ℕ
most_noted = 1024

-- the most that are counted
abbrev pub most_counted : ℕ
most_counted = 0xFFFF_FFFF

-- no call is held, and none purged
abbrev pub no_purges : Purges
no_purges = record { held = false; turn = None; first = []; count = 0 }

-- the last call purged these handles, in this order
abbrev pub purged_these : List ℕ → Purges → Purges
purged_these hs p = record p { turn = None; first = take most_noted hs; count = min (length hs) most_counted }

-- the last call was held, and this handle's turn it is
abbrev pub waits_for : ℕ → Purges → Purges
waits_for h p = record p { turn = Some h; first = []; count = 0 }

-- calls that would purge are held from now on, or not
abbrev pub holding : Bool → Purges → Purges
holding on p = record p { held = on }
