-- How requests run in the zone: attempts, trials, turns of the grow-zone procedure, and the whole run.
use Rattle.std.specs.Prelude.{◌≡◌, ℕ, ◌+◌, ◌≤◌, ◌==◌, Bool, true, false, not, List, [], ◌∷◌, ◌++◌, length, Option, Some, None, Result, Ok, Err, is_some, IsTrue, IsFalse}
use Rattle.std.specs.List.{list_all}
use Rattle.std.specs.Option.{ok_or, option_map_or}
use Rattle.mac_base.specs.declared.error.OsErr.{OsErr}
use Rattle.mac_base.specs.declared.error.OsErr.TheVariants.{MemFullErr}
use Rattle.mac_base.specs.HeadKind.{Shape}
use Rattle.mac_base.specs.Attempt.{attempted}
use Rattle.mac_base.specs.HandleTable.{with_bytes}
use Rattle.mac_base.specs.Heap.{Heap, with_table}
use Rattle.mac_base.specs.ZoneState.{ZoneState}
use Rattle.mac_base.specs.declared.releasing.ReleasingCall.{ReleasingCall}
use Rattle.mac_base.specs.declared.request.Request.{Request}
use Rattle.mac_base.specs.declared.request.Request.TheVariants.{NewMaster, Resize}
use Rattle.mac_base.specs.Request.{fits}
use Rattle.mac_base.specs.GrowZone.{Answer, Ask, new_ask, answers_in, most_answers, carried_out}
use Rattle.mac_base.specs.ExactRequest.{Ending, asked, prepared, request_run}
use Rattle.mac_base.specs.ExactStep.{after_master}
use Rattle.zone_heap.specs.Attempts.{lacks_slot}

-- an attempt where a slot is free for a new handle: it gives a number just where the request fits
abbrev pub EndsAttempt : ZoneState → Request → Option ℕ → ZoneState → Type 0
EndsAttempt old r (Some x) new = IsTrue (fits old.shape old.heap.table r old.heap.map) × (attempted old.shape r old.heap ≡ Some (x, new.heap)) × (new.shape ≡ old.shape)
EndsAttempt old r None new = IsFalse (fits old.shape old.heap.table r old.heap.map) × (attempted old.shape r old.heap ≡ None) × (new ≡ old)

-- a trial: an attempt in the heap that is prepared for it
abbrev pub IsTrial : Shape → List ℕ → Request → Heap → Option ℕ → Heap → Type 0
IsTrial s protected r old (Some x) new = attempted s r (prepared s protected r old) ≡ Some (x, new)
IsTrial s protected r old None new = (attempted s r (prepared s protected r old) ≡ None) × (new ≡ prepared s protected r old)

-- the last of the asks has this answer, of which no call has been carried out
abbrev pub IsNewlyAnswered : Answer → List Ask → Type 0
IsNewlyAnswered a asks = (before : List Ask) × (needed : ℕ) × (asks ≡ before ++ new_ask needed (Some a) ∷ [])

-- the asks with these calls carried out for the last of them
abbrev pub with_carried : List (ReleasingCall × Option OsErr) → List Ask → List Ask
with_carried done [] = []
with_carried done (a ∷ []) = record a { carried = a.carried ++ done } ∷ []
with_carried done (a ∷ b ∷ asks) = a ∷ with_carried done (b ∷ asks)

-- the calls of an answer, and none where there is no procedure
abbrev pub calls_in : Option Answer → List ReleasingCall
calls_in (Some a) = a.calls
calls_in None = []

-- whether an answer is worth another trial
abbrev pub is_worth : Option Answer → Bool
is_worth answer = option_map_or (λ (a : Answer). not (a.value == 0)) answer false

-- the procedure is asked for a request, and its answer's calls are carried out
abbrev pub IsTurn : Shape → List ℕ → Request → Heap → List Ask → Bool → List Ask → Heap → Type 0
IsTurn s protected r old before again after new = (answer : Option Answer)
    × (after ≡ before ++ asked s r answer (carried_out s protected (calls_in answer) old) ∷ [])
    × (again ≡ is_worth answer) × (new ≡ (carried_out s protected (calls_in answer) old).heap)

-- the procedure may be asked so many times more in this call
pub record MayAskMore (allowed : ℕ) (asks : List Ask) : Type 0 where
  pub few : length asks + allowed ≤ most_answers
  pub answered : IsTrue (list_all (λ (a : Ask). is_some a.answer) asks)

-- a request runs with some asks after those before, and leaves so many answers of those that are allowed
pub record IsRun (s : Shape) (protected : List ℕ) (r : Request) (allowed left : ℕ) (before after : List Ask) (old : Heap) (given : Option ℕ) (new : Heap) : Type 0 where
  pub asks : List Ask
  pub follows : after ≡ before ++ asks
  pub run : request_run s protected r allowed (answers_in asks) old ≡ record { given = given; heap = new; asks = asks; left = [] }
  pub counted : length asks + left ≡ allowed

-- the run of a call's request, after one for a master block where no slot is free for its handle
abbrev pub call_run : Shape → List ℕ → Request → List Answer → Heap → Bool → Ending
call_run s protected r answers heap false = request_run s protected r most_answers answers heap
call_run s protected r answers heap true =
    let master = request_run s protected NewMaster most_answers answers heap in
    let e = after_master s protected r master master.given in
    record e { asks = master.asks ++ e.asks }

-- what it gave, or memFullErr
abbrev pub given_or_full : Option ℕ → Result ℕ OsErr
given_or_full given = ok_or given MemFullErr

-- the request of a call runs with these asks, and gives a number, or none where it is not served
pub record IsCallRun (s : Shape) (protected : List ℕ) (r : Request) (asks : List Ask) (old : Heap) (result : Result ℕ OsErr) (new : Heap) : Type 0 where
  pub given : Option ℕ
  pub result_is : result ≡ given_or_full given
  pub run : call_run s protected r (answers_in asks) old (lacks_slot r old) ≡ record { given = given; heap = new; asks = asks; left = [] }

-- the handle or pointer whose block a request has made or given another size, where it gave the number x
abbrev pub block_given : Request → ℕ → ℕ
block_given (Resize y n) x = y
block_given _ x = x

-- the heap with these bytes in that block, where the request gave a number
abbrev pub filled : Request → List ℕ → Result ℕ OsErr → Heap → Heap
filled r bytes (Ok x) heap = with_table (with_bytes (block_given r x) bytes heap.table) heap
filled r bytes (Err code) heap = heap

-- the request of a call runs, and where it gives a number these bytes come into its block
pub record IsCopyRun (s : Shape) (protected : List ℕ) (r : Request) (bytes : List ℕ) (asks : List Ask) (old : Heap) (result : Result ℕ OsErr) (new : Heap) : Type 0 where
  pub mid : Heap
  pub run : IsCallRun s protected r asks old result mid
  pub fills : new ≡ filled r bytes result mid

-- a result without its number
abbrev pub done : Result ℕ OsErr → Result (Unit {0}) OsErr
done (Ok x) = Ok (record {})
done (Err code) = Err code
