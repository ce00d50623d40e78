-- What C gets from a call.
use Rattle.std.specs.Prelude.{◌≡◌, ℕ, ℤ, pos, Bool, true, false, List, [], Result, Option, Some, None, Ok, Err, unwrap_or, IsTrue}
use Rattle.mac_base.specs.Codes.{code_of}
use Rattle.mac_base.specs.declared.error.OsErr.{OsErr}
use Rattle.held_calls.specs.declared.window.Window.{Window}
use Rattle.held_calls.specs.Holding.{IsWindow}
use Rattle.linked_zone.specs.Loans.{KeepsLoans}
use Rattle.mac_base.specs.Heap.{Heap}
use Rattle.mac_base.specs.ZoneState.{ZoneState, with_heap}
use Rattle.mac_base.specs.declared.loan_call.LoanCall.{LoanCall}
use Rattle.mac_base.specs.declared.loan_call.LoanCall.TheVariants.{LentPeek, Return}
use Rattle.mac_base.specs.declared.memory_call.MemoryCall.{MemoryCall}
use Rattle.mac_base.specs.declared.reply.Results.{Results}
use Rattle.mac_base.specs.declared.reply.Results.TheVariants.{Handle, Pointer, Address, Number, TwoNumbers, Bytes}
use Rattle.mac_base.specs.ExactStep.{exact_step}
use Rattle.mac_base.specs.LoanStep.{Loans, LoanStep, loan_refusal}
use Rattle.mac_base.specs.Outcomes.{Outcome}
use Rattle.mem_calls.specs.Purges.{PurgesInTurn, before_call}
use Rattle.held_zone.specs.declared.session.CallEnd.{CallEnd}
use Rattle.held_zone.specs.declared.session.CallEnd.TheVariants.{Held, Ended}
use Rattle.held_zone.specs.declared.host_err.HostErr.TheVariants.{NotThere, WouldPurge}
use Rattle.held_zone.specs.HostCodes.{host_code}
use Rattle.held_zone.specs.Purges.{purged_these, waits_for}
use Rattle.held_zone.specs.State.{State, with_no_asks}

-- the code of an outcome; where there is no zone that is awake, one of the host's
abbrev pub code_told : Option Outcome → ℤ
code_told None = host_code NotThere
code_told (Some (Ok results)) = pos 0
code_told (Some (Err code)) = code_of code

-- the number that results are
abbrev pub number_in : Results → Option ℕ
number_in (Handle handle) = Some handle
number_in (Pointer pointer) = Some pointer
number_in (Address address) = Some address
number_in (Number n) = Some n
number_in _ = None

-- the two numbers that results are
abbrev pub numbers_in : Results → Option (ℕ × ℕ)
numbers_in (TwoNumbers first second) = Some (first, second)
numbers_in _ = None

-- the number that an outcome gives, written over the one that was there, which stays where it gives none
abbrev pub number_told : ℕ → Option Outcome → ℕ
number_told before (Some (Ok results)) = unwrap_or (number_in results) before
number_told before _ = before

-- the same of two numbers
abbrev pub numbers_told : ℕ × ℕ → Option Outcome → ℕ × ℕ
numbers_told before (Some (Ok results)) = unwrap_or (numbers_in results) before
numbers_told before _ = before

-- the bytes that an outcome shows, written over as many others, which stay where it shows none
abbrev pub bytes_told : List ℕ → Option Outcome → List ℕ
bytes_told before (Some (Ok (Bytes bytes))) = bytes
bytes_told before _ = before

-- the outcome of a call that shows bytes
abbrev pub shown_outcome : Result (Unit {0}) OsErr → List ℕ → Outcome
shown_outcome (Ok u) bytes = Ok (Bytes bytes)
shown_outcome (Err code) bytes = Err code

-- whether a call on a lent block shows bytes
abbrev pub shows : LoanCall → Bool
shows (LentPeek block offset count) = true
shows _ = false

-- What is lent stays so, and where it is in the memory of the host.
pub record StaysLent (old new : ZoneState) : Type 0 where
  pub keeps : KeepsLoans old new

-- From a state, the call ends so and leaves this one: just as the Memory Manager makes it, where the procedure gives
-- the answers that are left, first in, first out. What is lent stays where it is, what waits to be lent waits on, and the guest's fields
-- stay.
abbrev pub Makes : State → MemoryCall → Outcome → State → Type 0
Makes old call outcome new = (exact_step old.zone.shape old.left old.zone.heap call ≡ record { outcome = outcome; heap = new.zone.heap; asks = new.asks; left = new.left })
    × (new.zone.shape ≡ old.zone.shape) × (new.loans ≡ old.loans) × (new.waiting ≡ old.waiting) × (new.guest ≡ old.guest) × StaysLent old.zone new.zone × (new.purges ≡ old.purges)

-- The same for a call on a block that is lent or is to be lent, which asks nothing. The zone stays where it is in the
-- memory of the host.
abbrev pub MakesLoan : State → LoanCall → Outcome → State → Type 0
MakesLoan old call outcome new = LoanStep old.zone.shape old.loans old.zone.heap call outcome new.loans new.zone.heap
    × (new.zone.shape ≡ old.zone.shape) × (new.zone.memory ≡ old.zone.memory) × (new.left ≡ old.left) × (new.asks ≡ []) × (new.waiting ≡ old.waiting) × (new.guest ≡ old.guest) × (new.purges ≡ old.purges)

-- The same where there may be no zone: then there is no outcome.
abbrev pub Called : Option State → MemoryCall → Option Outcome → Option State → Type 0
Called None call None None = Unit {0}
Called (Some old) call (Some outcome) (Some new) = Makes old call outcome new
Called _ call _ _ = ⊥

-- the same for a call on a block that is lent
abbrev pub LoanCalled : Option State → LoanCall → Option Outcome → Option State → Type 0
LoanCalled None call None None = Unit {0}
LoanCalled (Some old) call (Some outcome) (Some new) = MakesLoan old call outcome new
LoanCalled _ call _ _ = ⊥

-- Purges are held, and the call would purge this handle first: it is only made up to there (`before_call`), and asks
-- nothing.
pub record IsHeld (old : State) (call : MemoryCall) (new : State) : Type 0 where
  pub held : IsTrue old.purges.held
  pub handle : ℕ
  pub next : (before_call old.zone.shape old.zone.heap call).next ≡ Some handle
  pub state : new ≡ record old { zone = with_heap (before_call old.zone.shape old.zone.heap call).heap old.zone; asks = []; purges = waits_for handle old.purges }
  pub lent : StaysLent old.zone new.zone

-- The call is made, and these handles are noted: each that it purged before it took an answer, in turn. Where purges are
-- held there is none.
pub record MakesNoting (old : State) (call : MemoryCall) (outcome : Outcome) (new : State) : Type 0 where
  pub purged : List ℕ
  pub last : Heap
  pub turns : PurgesInTurn old.zone.shape call old.zone.heap purged last
  pub none_held : IsTrue old.purges.held → purged ≡ []
  pub makes : Makes (record old { purges = purged_these purged old.purges }) call outcome new

-- how a call of C ends from a state
abbrev pub EndsIn : State → MemoryCall → CallEnd → State → Type 0
EndsIn old call Held new = IsHeld old call new
EndsIn old call (Ended None) new = ⊥
EndsIn old call (Ended (Some outcome)) new = MakesNoting old call outcome new

-- the same where there may be no zone
abbrev pub EndsCall : Option State → MemoryCall → CallEnd → Option State → Type 0
EndsCall None call (Ended None) None = Unit {0}
EndsCall (Some old) call end (Some new) = EndsIn old call end new
EndsCall _ call _ _ = ⊥

-- the code of a call's end
abbrev pub end_code : CallEnd → ℤ
end_code Held = host_code WouldPurge
end_code (Ended outcome) = code_told outcome

-- and the number that it gives, over the one that was there
abbrev pub end_number : ℕ → CallEnd → ℕ
end_number before Held = before
end_number before (Ended outcome) = number_told before outcome

-- or two numbers
abbrev pub end_numbers : ℕ × ℕ → CallEnd → ℕ × ℕ
end_numbers before Held = before
end_numbers before (Ended outcome) = numbers_told before outcome

-- The call is made or held, and C gets this code.
abbrev pub Told : Option State → MemoryCall → ℤ → Option State → Type 0
Told old call code new = (end : CallEnd) × (code ≡ end_code end) × EndsCall old call end new

-- The call is made or held, and C gets this code and this number, where another one was.
abbrev pub ToldNumber : Option State → MemoryCall → ℤ → ℕ → ℕ → Option State → Type 0
ToldNumber old call code before number new = (end : CallEnd) × (code ≡ end_code end) × (number ≡ end_number before end) × EndsCall old call end new

-- The same for two numbers.
abbrev pub ToldNumbers : Option State → MemoryCall → ℤ → ℕ × ℕ → ℕ × ℕ → Option State → Type 0
ToldNumbers old call code before numbers new = (end : CallEnd) × (code ≡ end_code end) × (numbers ≡ end_numbers before end) × EndsCall old call end new

-- A call that copies bytes out is made, which never purges, and C gets this code and these bytes, where others were.
abbrev pub ToldBytes : Option State → MemoryCall → ℤ → List ℕ → List ℕ → Option State → Type 0
ToldBytes old call code before bytes new = (outcome : Option Outcome) × (code ≡ code_told outcome) × (bytes ≡ bytes_told before outcome) × Called old call outcome new

-- A call on a block that is lent is made, and C gets this code.
abbrev pub LoanTold : Option State → LoanCall → ℤ → Option State → Type 0
LoanTold old call code new = (outcome : Option Outcome) × (code ≡ code_told outcome) × LoanCalled old call outcome new

-- The same for bytes.
abbrev pub LoanToldBytes : Option State → LoanCall → ℤ → List ℕ → List ℕ → Option State → Type 0
LoanToldBytes old call code before bytes new = (outcome : Option Outcome) × (code ≡ code_told outcome) × (bytes ≡ bytes_told before outcome) × LoanCalled old call outcome new

-- the window is on the bytes that C has of x, unless the call is refused: then there is the refusal's code, and what
-- was there stays
abbrev pub ShowsWindow : Option OsErr → ZoneState → Loans → ℕ → ℤ → Window → Window → Type 0
ShowsWindow None zone loans x code before window = (code ≡ pos 0) × IsWindow zone loans x window
ShowsWindow (Some refusal) zone loans x code before window = (code ≡ code_of refusal) × (window ≡ before)

-- C is shown the window on the bytes that it has of a block, unless it is refused as a Return of the block is. All
-- stays but what was asked.
abbrev pub WindowTold : Option State → ℕ → ℤ → Window → Window → Option State → Type 0
WindowTold None block code before window new = (code ≡ host_code NotThere) × (window ≡ before) × (new ≡ None)
WindowTold (Some old) block code before window new = ShowsWindow (loan_refusal old.zone.shape old.zone.heap (Return block)) old.zone old.loans block code before window × (new ≡ Some (with_no_asks old))
