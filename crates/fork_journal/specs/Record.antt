-- The calls of a pair in memory that changed it or made it stable, and what they made of it.
use Rattle.std.specs.Prelude.{◌≡◌, ℕ, nat_le, if◌then◌else◌, List, [], ◌∷◌, ◌++◌, length, take, refl}
use Rattle.fork_journal.specs.declared.pair.Side.{Side}
use Rattle.fork_journal.specs.declared.pair.Side.TheVariants.{Fork, Journal}
use Rattle.fork_journal.specs.declared.mem_pair.Call.{Call}
use Rattle.fork_journal.specs.declared.mem_pair.Call.TheVariants as calls
use Rattle.fork_disk.specs.Disk.{put_at}
use Rattle.fork_journal.specs.Crash.{Contents, Found, Wrote, Cut, Synced, History, side_of}

-- a pair with other bytes on one side
abbrev pub with_side : Side → List ℕ → Contents → Contents
with_side Fork bytes c = record c { fork = bytes }
with_side Journal bytes c = record c { journal = bytes }

-- bytes over what is there, and past the end; nothing is written where they begin after it
abbrev pub overwritten : ℕ → List ℕ → List ℕ → List ℕ
overwritten at bytes old = if nat_le at (length old) then put_at at bytes old else old

-- a pair in memory: as it reads, and its history
pub record Kept : Type 0 where
  pub contents : Contents
  pub history : History

abbrev pub after_call : Call → Kept → Kept
after_call (calls.Write side at bytes) kept = record {
  contents = with_side side (overwritten at bytes.items (side_of side kept.contents)) kept.contents;
  history = Wrote side at (length bytes.items) ∷ kept.history;
}
after_call (calls.Cut side n) kept = record {
  contents = with_side side (take n (side_of side kept.contents)) kept.contents;
  history = Cut side n ∷ kept.history;
}
after_call (calls.Sync side) kept = record {
  contents = kept.contents;
  history = Synced side (side_of side kept.contents) ∷ kept.history;
}

-- the first call first
abbrev pub after_calls : List Call → Kept → Kept
after_calls [] kept = kept
after_calls (call ∷ later) kept = after_calls later (after_call call kept)

-- found so, without a call
abbrev pub found : List ℕ → List ℕ → Kept
found fork journal = record { contents = record { fork = fork; journal = journal }; history = Found (record { fork = fork; journal = journal }) ∷ [] }

-- one call more
pub after_calls-push : (list : List Call) (call : Call) (kept : Kept) → after_calls (list ++ call ∷ []) kept ≡ after_call call (after_calls list kept)
after_calls-push [] call kept = refl
after_calls-push (first ∷ later) call kept = after_calls-push later call (after_call first kept)
