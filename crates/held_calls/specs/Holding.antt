-- The loans that a program holds.
use Rattle.std.specs.Prelude.{◌≡◌, ℕ, ◌==◌, Bool, if◌then◌else◌, List, [], ◌∷◌, ◌++◌, length, map, Option, Some, None, IsFalse}
use Rattle.std.specs.List.{list_any, flat_map}
use Rattle.std.specs.Option.{option_to_list}
use Rattle.mac_base.specs.HandleTable.{is_lent}
use Rattle.mac_base.specs.ZoneState.{ZoneState, written}
use Rattle.linked_zone.specs.Loans.{IsLoanOf}
use Rattle.mac_base.specs.declared.loan_call.LoanCall.{LoanCall}
use Rattle.mac_base.specs.LoanStep.{Loans, LoanStep, held_bytes}
use Rattle.mac_base.specs.Outcomes.{Outcome}
use Rattle.raw_region.specs.State.{Loan}
use denote.RawPtr.{◌+ₚ◌}
use Rattle.held_calls.specs.declared.loans.Held.{Held}
use Rattle.held_calls.specs.declared.window.Window.{Window}

-- the loans at these places, in their order
abbrev pub held_at : List (Option Held) → List Held
held_at places = flat_map option_to_list places

-- the blocks that are lent, each with the bytes that its holder has
abbrev pub loans_of : List Held → Loans
loans_of held = map (λ (h : Held). (h.block, h.loan.bytes)) held

-- the blocks that are lent
abbrev pub blocks_of : List Held → List ℕ
blocks_of held = map (λ (h : Held). h.block) held

-- whether the loan of x is held
abbrev pub is_held : ℕ → List Held → Bool
is_held x held = list_any (λ (h : Held). h.block == x) held

-- each is the loan of its block
abbrev pub EachIsLoan : ZoneState → List Held → Type 0
EachIsLoan zone [] = Unit {0}
EachIsLoan zone (h ∷ hs) = IsLoanOf zone h.block h.loan × EachIsLoan zone hs

-- no block is there twice
abbrev pub EachOnce : List Held → Type 0
EachOnce [] = Unit {0}
EachOnce (h ∷ hs) = IsFalse (is_held h.block hs) × EachOnce hs

-- just what is lent is held, each loan once
pub record Holds (zone : ZoneState) (held : List Held) : Type 0 where
  pub each : EachIsLoan zone held
  pub once : EachOnce held
  pub all : (x : ℕ) → is_lent zone.heap.table x ≡ is_held x held

-- the loan with bytes written over some of its own
abbrev pub loan_written : ℕ → List ℕ → Loan → Loan
loan_written at bytes loan = record loan { bytes = written at bytes loan.bytes }

-- the loans once bytes are written into that of x
abbrev pub held_written : ℕ → ℕ → List ℕ → List Held → List Held
held_written x at bytes [] = []
held_written x at bytes (h ∷ hs) = if h.block == x then record h { loan = loan_written at bytes h.loan } ∷ hs else h ∷ held_written x at bytes hs

-- the first loan of x at these places is at the nth of them
pub record StandsAt (x : ℕ) (places : List (Option Held)) (n : ℕ) : Type 0 where
  pub before : List (Option Held)
  pub held : Held
  pub after : List (Option Held)
  pub parts : places ≡ before ++ Some held ∷ after
  pub place : n ≡ length before
  pub is : held.block ≡ x
  pub first : IsFalse (is_held x (held_at before))

-- the nth of these places is free
pub record FreeAt (places : List (Option Held)) (n : ℕ) : Type 0 where
  pub before : List (Option Held)
  pub after : List (Option Held)
  pub parts : places ≡ before ++ None ∷ after
  pub place : n ≡ length before

-- x is the first block whose loan is held
pub record IsFirst (x : ℕ) (held : List Held) : Type 0 where
  pub loan : Loan
  pub others : List Held
  pub parts : held ≡ record { block = x; loan = loan } ∷ others

-- the loan of x is taken out, and the others stay in order
pub record TakenOut (x : ℕ) (old : List Held) (loan : Loan) (new : List Held) : Type 0 where
  pub before : List Held
  pub after : List Held
  pub was : old ≡ before ++ record { block = x; loan = loan } ∷ after
  pub is : new ≡ before ++ after
  pub first : IsFalse (is_held x before)

-- From the old zone and the loans that were held, the call may have this outcome and leave the new ones.
abbrev pub LoanSteps : ZoneState → List Held → LoanCall → Outcome → ZoneState → List Held → Type 0
LoanSteps old held call outcome new new_held = LoanStep old.shape (loans_of held) old.heap call outcome (loans_of new_held) new.heap × (new.shape ≡ old.shape)

-- the window is on the bytes of a loan: it begins where they are in the memory of the host, and has as many
abbrev pub IsOn : Loan → Window → Type 0
IsOn loan window = (window.start ≡ loan.name.0 +ₚ loan.at) × (window.length ≡ length loan.bytes)

-- the window is on the loan of x, which could be taken out
abbrev pub IsOnLoan : ℕ → List Held → Window → Type 0
IsOnLoan x held window = (loan : Loan) × (rest : List Held) × TakenOut x held loan rest × IsOn loan window

-- the window is on the bytes that the holder has of x: where the loan of x is in the memory of the zone
pub record IsWindow (zone : ZoneState) (loans : Loans) (x : ℕ) (window : Window) : Type 0 where
  pub loan : Loan
  pub is : IsLoanOf zone x loan
  pub bytes : loan.bytes ≡ held_bytes x loans
  pub on : IsOn loan window
