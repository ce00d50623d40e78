-- What a crash may leave of a fork and its journal, which are one device with one clock.
use Rattle.std.specs.Prelude.{◌≡◌, ℕ, ◌⊎◌, ◌||◌, Bool, true, false, List, [], ◌∷◌, ⊤}
use Rattle.fork_disk.specs.Crash.{AlwaysFinds, Finds}
use Rattle.fork_disk.specs.Disk.{Torn, CutShort}
use Rattle.fork_journal.specs.declared.pair.Side.{Side}
use Rattle.fork_journal.specs.declared.pair.Side.TheVariants.{Fork, Journal}

-- the bytes of both sides
pub record Contents : Type 0 where
  pub fork : List ℕ
  pub journal : List ℕ

abbrev pub side_of : Side → Contents → List ℕ
side_of Fork c = c.fork
side_of Journal c = c.journal

abbrev pub other : Side → Side
other Fork = Journal
other Journal = Fork

-- a step of one side, while the other stays
abbrev pub OnSide : Side → (List ℕ → List ℕ → Type 0) → Contents → Contents → Type 0
OnSide Fork step old new = step old.fork new.fork × (new.journal ≡ old.journal)
OnSide Journal step old new = step old.journal new.journal × (new.fork ≡ old.fork)

-- What happened to a pair: it was found so at a start; n bytes of a side were written at an offset, or a side was cut
-- to n bytes, at least in part; a side was synced while it read so; a sync of a side failed.
pub data Event : Type 0 where
  Found : Contents → Event
  Wrote : Side → ℕ → ℕ → Event
  Cut : Side → ℕ → Event
  Synced : Side → List ℕ → Event
  Failed : Side → Event

-- the events of both sides since it was opened, the last one first
abbrev pub History : Type 0
History = List Event

-- one side is the other
abbrev pub is_same : Side → Side → Bool
is_same Fork Fork = true
is_same Journal Journal = true
is_same Fork Journal = false
is_same Journal Fork = false

abbrev pub fails_on : Event → Side → Bool
fails_on (Found c) side = false
fails_on (Wrote other at n) side = false
fails_on (Cut other n) side = false
fails_on (Synced other bytes) side = false
fails_on (Failed other) side = is_same other side

-- a sync of this side has failed
abbrev pub has_failed : Side → History → Bool
has_failed side [] = false
has_failed side (event ∷ past) = fails_on event side || has_failed side past

-- What a crash after these events may leave. Where nothing is known of the pair, that is anything: what is read of it
-- may wait to be written, as in a file that was just copied. Each write and each cut may be done in part or not at all, by itself, and
-- of this a sync leaves only what its side read then. A sync that failed may have dropped what waited for it, so after
-- one no later sync of its side counts.
abbrev pub MayLeave : History → Contents → Type 0
MayLeave [] c = ⊤
MayLeave (Found d ∷ past) c = c ≡ d
MayLeave (Wrote side at n ∷ past) c = (d : Contents) × MayLeave past d × OnSide side (Torn at n) d c
MayLeave (Cut side n ∷ past) c = (d : Contents) × MayLeave past d × OnSide side (CutShort n) d c
MayLeave (Synced side bytes ∷ past) c = MayLeave past c × (has_failed side past ≡ false → side_of side c ≡ bytes)
MayLeave (Failed side ∷ past) c = MayLeave past c

-- each outcome of a crash now has P
abbrev pub Leaves : (Contents → Type 0) → History → Type 0
Leaves = Finds MayLeave

-- each outcome of a crash has P, whenever it comes
abbrev pub AlwaysLeaves : (Contents → Type 0) → History → History → Type 0
AlwaysLeaves = AlwaysFinds MayLeave

-- the event came, or none did
abbrev pub Follows : Event → History → History → Type 0
Follows event old new = (new ≡ event ∷ old) ⊎ (new ≡ old)

-- what an older crash might have left, and then a step of one side
abbrev pub LeftWith : Side → (List ℕ → List ℕ → Type 0) → History → Contents → Type 0
LeftWith side step old c = (d : Contents) × MayLeave old d × OnSide side step d c

-- a crash leaves these bytes on this side, and on the other what it might have left before
abbrev pub Settles : Side → List ℕ → History → History → Type 0
Settles side bytes old new = Leaves (LeftWith side (λ _ now. now ≡ bytes) old) new
