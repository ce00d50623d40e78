-- The answers that C queues for the grow-zone procedure, and what it is shown of its asks.
use Rattle.std.specs.Prelude.{◌≡◌, ℕ, ℤ, pos, ◌==◌, ◌++◌, if◌then◌else◌, nat_le, Bool, List, [], ◌∷◌, length, map, Option, Some, None, option_map}
use Rattle.std.specs.List.{flat_map, list_all, slice_get}
use Rattle.std.specs.Option.{option_map_or, option_to_list}
use Rattle.mac_base.specs.Codes.{code_of}
use Rattle.mac_base.specs.declared.error.OsErr.{OsErr}
use Rattle.mac_base.specs.declared.releasing.ReleasingCall.{ReleasingCall}
use Rattle.mac_base.specs.declared.releasing.ReleasingCall.TheVariants.{DisposesHandle, DisposesPtr, Empties}
use Rattle.mac_base.specs.GrowZone.{Answer, Ask}
use Rattle.macheap_c.specs.declared.growing.MhAnswer.{MhAnswer}
use Rattle.macheap_c.specs.declared.growing.MhAsk.{MhAsk}
use Rattle.macheap_c.specs.declared.growing.MhCarried.{MhCarried}
use Rattle.macheap_c.specs.declared.growing.MhRelease.{MhRelease}
use Rattle.held_zone.specs.declared.host_err.HostErr.{HostErr}
use Rattle.held_zone.specs.declared.host_err.HostErr.TheVariants.{BadNumber, NotThere}
use Rattle.held_zone.specs.HostCodes.{Shows, host_code, such}
use Rattle.held_zone.specs.State.{State, queue_refusal}

-- whether a place of an answer is of a known kind: no call is 0, and there are three kinds of calls
abbrev pub is_known : MhRelease → Bool
is_known r = nat_le r.kind 3

-- the call at a place of an answer, if it has one
abbrev pub release_of : MhRelease → Option ReleasingCall
release_of r = if r.kind == 1 then Some (DisposesHandle r.operand)
    else if r.kind == 2 then Some (DisposesPtr r.operand)
    else if r.kind == 3 then Some (Empties r.operand)
    else None

-- the places of an answer, in order
abbrev pub places_of : MhAnswer → List MhRelease
places_of a = a.first ∷ a.second ∷ a.third ∷ a.fourth ∷ a.fifth ∷ a.sixth ∷ a.seventh ∷ a.eighth ∷ []

-- the answer that C gives, if all its places are of known kinds
abbrev pub answer_of : MhAnswer → Option Answer
answer_of a = if list_all is_known (places_of a) then Some (record { calls = flat_map option_to_list (map release_of (places_of a)); value = a.value }) else None

-- the answer waits after the others, and nothing was asked, unless it is refused
abbrev pub QueuedUnless : Option HostErr → State → Answer → ℤ → Option State → Type 0
QueuedUnless None old answer code new = (code ≡ pos 0) × (new ≡ Some (record old { left = old.left ++ answer ∷ []; asks = [] }))
QueuedUnless (Some refusal) old answer code new = (code ≡ host_code refusal) × (new ≡ Some old)

-- the answer waits; where it is none, it is refused
abbrev pub IsQueued : State → Option Answer → ℤ → Option State → Type 0
IsQueued old (Some answer) code new = QueuedUnless (queue_refusal old) old answer code new
IsQueued old None code new = (code ≡ host_code BadNumber) × (new ≡ Some old)

-- C queues an answer.
abbrev pub AnswerTold : Option State → MhAnswer → ℤ → Option State → Type 0
AnswerTold None answer code new = (code ≡ host_code NotThere) × (new ≡ None)
AnswerTold (Some old) answer code new = IsQueued old (answer_of answer) code new

-- an ask as C is shown it: what was needed, whether it was answered and by which value, and how many calls were carried
-- out
abbrev pub shown_ask : Ask → MhAsk
shown_ask a = record { needed = a.needed; answered = option_map_or (λ (answer : Answer). 1) a.answer 0; value = option_map_or (λ (answer : Answer). answer.value) a.answer 0; carried = length a.carried }

-- the kind of a call of an answer
abbrev pub kind_of : ReleasingCall → ℕ
kind_of (DisposesHandle h) = 1
kind_of (DisposesPtr p) = 2
kind_of (Empties h) = 3

-- its operand
abbrev pub operand_of : ReleasingCall → ℕ
operand_of (DisposesHandle h) = h
operand_of (DisposesPtr p) = p
operand_of (Empties h) = h

-- a call that was carried out, as C is shown it
abbrev pub shown_carried : ReleasingCall × Option OsErr → MhCarried
shown_carried c = record { kind = kind_of c.0; operand = operand_of c.0; code = option_map_or code_of c.1 (pos 0) }

-- C is shown something of a state, where there is such a thing. The state stays.
abbrev pub IsShown : {A : Type 0} → (State → Option A) → Option State → ℤ → A → A → Option State → Type 0
IsShown of None code before shown new = (code ≡ host_code NotThere) × (shown ≡ before) × (new ≡ None)
IsShown of (Some old) code before shown new = Shows (such (of old)) code before shown × (new ≡ Some old)

-- how often the last call asked
abbrev pub asks_made : State → Option ℕ
asks_made s = Some (length s.asks)

-- its nth ask
abbrev pub ask_at : ℕ → State → Option MhAsk
ask_at n s = option_map shown_ask (slice_get s.asks n)

-- the calls that were carried out for it
abbrev pub carried_for : Option Ask → List (ReleasingCall × Option OsErr)
carried_for None = []
carried_for (Some a) = a.carried

-- the mth call that was carried out for the nth ask
abbrev pub carried_at : ℕ → ℕ → State → Option MhCarried
carried_at n m s = option_map shown_carried (slice_get (carried_for (slice_get s.asks n)) m)
