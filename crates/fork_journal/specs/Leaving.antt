-- What a crash leaves of one side, call by call.
use Rattle.std.specs.Prelude.{◌≡◌, ℕ, ◌-◌, nat_le, Bool, true, false, if◌then◌else◌, List, [], ◌∷◌, ◌++◌, length, take, drop, get_or, replicate}
use Rattle.fork_disk.specs.Disk.{bytes_at, put_at, Torn, CutShort}
use Rattle.fork_journal.specs.declared.leaving.Choice.{Choice}
use Rattle.fork_journal.specs.declared.leaving.Fate.{Fate}
use Rattle.fork_journal.specs.declared.leaving.Fate.TheVariants.{Lost, Kept, Filled}
use Rattle.fork_journal.specs.declared.pair.Side.{Side}
use Rattle.fork_journal.specs.declared.mem_pair.Call.{Call}
use Rattle.fork_journal.specs.declared.mem_pair.Call.TheVariants as calls
use Rattle.fork_journal.specs.Crash.{is_same}
use Rattle.fork_journal.specs.Record.{overwritten}

-- the call was one of this side
abbrev pub is_on : Side → Call → Bool
is_on side (calls.Write other at bytes) = is_same side other
is_on side (calls.Cut other n) = is_same side other
is_on side (calls.Sync other) = is_same side other

-- what its side reads after a call
abbrev pub read_then : Call → List ℕ → List ℕ
read_then (calls.Write side at bytes) read = overwritten at bytes.items read
read_then (calls.Cut side n) read = take n read
read_then (calls.Sync side) read = read

-- what a crash may leave of its side after a call, by what it read before and what a crash might have left then
abbrev pub IsLeft : Call → List ℕ → List ℕ → List ℕ → Type 0
IsLeft (calls.Write side at bytes) read old left = Torn at (length bytes.items) old left
IsLeft (calls.Cut side n) read old left = CutShort n old left
IsLeft (calls.Sync side) read old left = left ≡ read

-- what a side reads after a call of either
abbrev pub read_after : Side → Call → List ℕ → List ℕ
read_after side call read = if is_on side call then read_then call read else read

-- and what a crash may leave of it
pub record IsLeftOn (side : Side) (call : Call) (read old left : List ℕ) : Type 0 where
  pub own : is_on side call ≡ true → IsLeft call read old left
  pub other : is_on side call ≡ false → left ≡ old

-- what a crash may leave of a side after these calls
abbrev pub AreLeft : Side → List Call → List ℕ → List ℕ → List ℕ → Type 0
AreLeft side [] read old left = left ≡ old
AreLeft side (call ∷ later) read old left = (next : List ℕ) × IsLeftOn side call read old next × AreLeft side later (read_after side call read) next left

-- the bytes in the range of a write, as a crash leaves them by a fate
abbrev pub range_by : Fate → ℕ → List ℕ → List ℕ → List ℕ
range_by Lost at bytes old = bytes_at (length bytes) at old ++ replicate (length bytes - (length old - at)) 0
range_by Kept at bytes old = bytes
range_by Filled at bytes old = replicate (length bytes) 255

-- what is past a cut to n bytes
abbrev pub past_by : Fate → ℕ → List ℕ → List ℕ
past_by Lost n old = drop n old
past_by Kept n old = drop n old
past_by Filled n old = replicate (length old - n) 255

-- what is left of a write by a choice, of a cut, and of a call of the side
abbrev pub write_by : Choice → ℕ → List ℕ → List ℕ → List ℕ
write_by choice at bytes old = if nat_le at (length old)
    then (if choice.has_new_length then put_at at (range_by choice.fate at bytes old) old else take (length old) (put_at at (range_by choice.fate at bytes old) old))
    else old

abbrev pub cut_by : Choice → ℕ → List ℕ → List ℕ
cut_by choice n old = if choice.has_new_length then take n old else (take n old ++ past_by choice.fate n old)

abbrev pub call_by : Call → Choice → List ℕ → List ℕ → List ℕ
call_by (calls.Write side at bytes) choice read old = write_by choice at bytes.items old
call_by (calls.Cut side n) choice read old = cut_by choice n old
call_by (calls.Sync side) choice read old = read

-- a call without a choice was done whole
abbrev pub whole : Choice
whole = record { fate = Kept; has_new_length = true }

-- What is left of a side after these calls, by a choice for each call of either side. The side read so before them, and
-- a crash would have left these bytes of it.
abbrev pub left_by : Side → List Call → List Choice → List ℕ → List ℕ → List ℕ
left_by side [] choices read old = old
left_by side (call ∷ later) choices read old = left_by side later (drop 1 choices) (read_after side call read)
    (if is_on side call then call_by call (get_or choices 0 whole) read old else old)
