-- The calls that the steps of a trace make, and what they keep.
use Rattle.std.specs.Prelude.{◌≡◌, ◌≢◌, ℕ, List, [], ◌∷◌, ◌++◌, Option, Some, None, Result, Ok, IsTrue, slice_index}
use Rattle.mac_base.specs.declared.error.OsErr.{OsErr}
use Rattle.mac_base.specs.HandleTable.{HandleTable, is_locked, live_at}
use Rattle.mac_base.specs.declared.memory_call.MemoryCall.{MemoryCall}
use Rattle.mac_base.specs.declared.memory_call.MemoryCall.TheVariants.{OnBlock, Requesting}
use Rattle.mac_base.specs.declared.memory_call.RequestingCall.TheVariants.{NewHandle, SetHandleSize}
use Rattle.mac_base.specs.declared.memory_call.BlockCall.TheVariants.{HLock, HUnlock, HPurge, DisposeHandle}
use Rattle.mac_base.specs.declared.reply.Results.TheVariants as results
use Rattle.mac_base.specs.GrowZone.{Answer, Ask, asked_in_vain}
use Rattle.mac_base.specs.Outcomes.{Outcome, done_outcome}
use Rattle.mac_base.specs.declared.releasing.ReleasingCall.{ReleasingCall}
use Rattle.paint_trace.specs.declared.procedure.Carried.{Carried}
use Rattle.paint_trace.specs.declared.procedure.Procedure.{Procedure}
use Rattle.paint_trace.specs.declared.trace.Action.{Action}
use Rattle.paint_trace.specs.declared.trace.Action.TheVariants as action

-- the answer that gives up a cushion
abbrev pub giving_up : ReleasingCall → Answer
giving_up call = record { calls = call ∷ []; value = 1 }

-- the call of it, once it was carried out
abbrev pub call_made : Option Carried → List (ReleasingCall × Option OsErr)
call_made None = []
call_made (Some made) = (made.call, made.code) ∷ []

-- what was asked and answered by giving up the cushion
abbrev pub given_asks : Option ReleasingCall → Option ℕ → Option Carried → List Ask
given_asks (Some call) (Some needed) carried = record { needed = needed; answer = Some (giving_up call); carried = call_made carried } ∷ []
given_asks _ _ _ = []

-- the answers that there were when the call began
abbrev pub answers_of : Option ReleasingCall → List Answer
answers_of None = []
answers_of (Some call) = giving_up call ∷ []

-- what the procedure was asked in the running call
abbrev pub asks_of : Procedure → List Ask
asks_of procedure = given_asks procedure.cushion procedure.given_for procedure.carried ++ asked_in_vain procedure.in_vain

-- the answers that it had when the call began
abbrev pub source_of : Procedure → List Answer
source_of procedure = answers_of procedure.cushion

-- the call of a step whose block has the handle h
abbrev pub call_of : ℕ → Action → MemoryCall
call_of h (action.NewHandle size) = Requesting (NewHandle size)
call_of h (action.SetHandleSize size) = Requesting (SetHandleSize h size)
call_of h action.HLock = OnBlock (HLock h)
call_of h action.HUnlock = OnBlock (HUnlock h)
call_of h action.HPurge = OnBlock (HPurge h)
call_of h action.DisposeHandle = OnBlock (DisposeHandle h)

-- the outcome of a step that ended so, where its block has the handle h then
abbrev pub outcome_of : ℕ → Action → Result (Unit {0}) OsErr → Outcome
outcome_of h (action.NewHandle size) (Ok u) = Ok (results.Handle h)
outcome_of h step result = done_outcome result

-- h is none of a trace's handles
abbrev pub IsOther : List ℕ → ℕ → Type 0
IsOther handles h = (block : ℕ) → slice_index handles block ≢ h

-- each handle that was locked, and is none of these, is as it was, with its flags and its bytes; and it is none of the
-- new ones
abbrev pub KeepsOthers : List ℕ → HandleTable → List ℕ → HandleTable → Type 0
KeepsOthers handles old new_handles new = (h : ℕ) → IsTrue (is_locked old h) → IsOther handles h → (live_at new h ≡ live_at old h) × IsOther new_handles h

-- each handle that was locked is as it was, with its flags and its bytes
abbrev pub KeepsLocked : HandleTable → HandleTable → Type 0
KeepsLocked old new = (h : ℕ) → IsTrue (is_locked old h) → live_at new h ≡ live_at old h
