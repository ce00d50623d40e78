-- What the calls on lent blocks do.
use Rattle.std.specs.Prelude.{◌≡◌, ℕ, not, ◌==◌, if◌then◌else◌, List, [], ◌∷◌, ◌++◌, length, take, drop, map, filter, Option, Some, None, Ok, Err}
use Rattle.mac_base.specs.declared.error.OsErr.{OsErr}
use Rattle.mac_base.specs.HeadKind.{Shape}
use Rattle.mac_base.specs.HandleTable.{HandleTable, bytes_of}
use Rattle.mac_base.specs.Heap.{Heap}
use Rattle.mac_base.specs.Loans.{lent_out, returned}
use Rattle.mac_base.specs.declared.loan_call.LoanCall.{LoanCall}
use Rattle.mac_base.specs.declared.loan_call.LoanCall.TheVariants as loan_call
use Rattle.mac_base.specs.declared.reply.Results.{Results}
use Rattle.mac_base.specs.declared.reply.Results.TheVariants.{Nothing, Bytes}
use Rattle.mac_base.specs.ZoneState.{written}
use Rattle.mac_base.specs.Outcomes.{Outcome}
use Rattle.mac_base.specs.Tests.{Test, IsBlock, NotEmpty, NotLent, MayBeLent, IsLent, IsWithin, first_refusal}

-- the blocks that are lent, each with the bytes that its holder has
abbrev pub Loans : Type 0
Loans = List (ℕ × List ℕ)

-- the bytes that the holder of x has
abbrev pub held_bytes : ℕ → Loans → List ℕ
held_bytes x [] = []
held_bytes x (loan ∷ loans) = if loan.0 == x then loan.1 else held_bytes x loans

-- the loans once the holder of x has these bytes
abbrev pub with_held : ℕ → List ℕ → Loans → Loans
with_held x bytes loans = map (λ (loan : ℕ × List ℕ). if loan.0 == x then (x, bytes) else loan) loans

-- the loans without that of x
abbrev pub without_loan : ℕ → Loans → Loans
without_loan x loans = filter (λ (loan : ℕ × List ℕ). not (loan.0 == x)) loans

-- the tests of each call, in their order
abbrev pub tests_of_loan : LoanCall → List Test
tests_of_loan (loan_call.Lend x) = IsBlock x ∷ NotEmpty x ∷ NotLent x ∷ MayBeLent x ∷ []
tests_of_loan (loan_call.LentPeek x at n) = IsBlock x ∷ IsLent x ∷ IsWithin x at n ∷ []
tests_of_loan (loan_call.LentPoke x at bytes) = IsBlock x ∷ IsLent x ∷ IsWithin x at (length bytes) ∷ []
tests_of_loan (loan_call.Return x) = IsBlock x ∷ IsLent x ∷ []

-- the refusal of a call, if it is refused
abbrev pub loan_refusal : Shape → Heap → LoanCall → Option OsErr
loan_refusal s heap call = first_refusal s heap (tests_of_loan call)

-- the loans after a call that is not refused: a loan begins with the bytes of the block
abbrev pub loans_after : LoanCall → HandleTable → Loans → Loans
loans_after (loan_call.Lend x) t loans = loans ++ (x, bytes_of t x) ∷ []
loans_after (loan_call.LentPeek x at n) t loans = loans
loans_after (loan_call.LentPoke x at bytes) t loans = with_held x (written at bytes (held_bytes x loans)) loans
loans_after (loan_call.Return x) t loans = without_loan x loans

-- the heap after it: what comes back has the bytes that its holder left
abbrev pub heap_after_loan : LoanCall → Loans → Heap → Heap
heap_after_loan (loan_call.Lend x) loans heap = lent_out x heap
heap_after_loan (loan_call.LentPeek x at n) loans heap = heap
heap_after_loan (loan_call.LentPoke x at bytes) loans heap = heap
heap_after_loan (loan_call.Return x) loans heap = returned x (held_bytes x loans) heap

-- what it gives
abbrev pub loan_results : LoanCall → Loans → Results
loan_results (loan_call.LentPeek x at n) loans = Bytes (take n (drop at (held_bytes x loans)))
loan_results _ loans = Nothing

-- the heap once all loans came back
abbrev pub all_returned : Loans → Heap → Heap
all_returned [] heap = heap
all_returned (loan ∷ loans) heap = all_returned loans (returned loan.0 loan.1 heap)

-- a call by its refusal, if it is refused: then nothing changes
abbrev pub LoanStepUnless : Option OsErr → Loans → Heap → LoanCall → Outcome → Loans → Heap → Type 0
LoanStepUnless (Some code) loans heap call outcome new_loans new_heap = (outcome ≡ Err code) × (new_loans ≡ loans) × (new_heap ≡ heap)
LoanStepUnless None loans heap call outcome new_loans new_heap = (outcome ≡ Ok (loan_results call loans))
    × (new_loans ≡ loans_after call heap.table loans) × (new_heap ≡ heap_after_loan call loans heap)

-- From these loans and this heap, the call may end so and leave these.
abbrev pub LoanStep : Shape → Loans → Heap → LoanCall → Outcome → Loans → Heap → Type 0
LoanStep s loans heap call outcome new_loans new_heap = LoanStepUnless (loan_refusal s heap call) loans heap call outcome new_loans new_heap
