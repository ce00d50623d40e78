-- Contents are moved and never read: calls do the same in a cipher, which gives each byte another in its stead.
use Rattle.std.specs.Prelude.{◌≡◌, ℕ, List, map, Ok, Err}
use Rattle.mac_base.specs.HandleTable.{HandleTable, Live, EmptyHandle, FullHandle, Pointer}
use Rattle.mac_base.specs.HeadKind.{Shape}
use Rattle.mac_base.specs.Heap.{Heap, with_table}
use Rattle.mac_base.specs.declared.loan_call.LoanCall.{LoanCall}
use Rattle.mac_base.specs.declared.loan_call.LoanCall.TheVariants as loan_call
use Rattle.mac_base.specs.declared.memory_call.MemoryCall.{MemoryCall}
use Rattle.mac_base.specs.declared.memory_call.MemoryCall.TheVariants.{Filling, OnBlock}
use Rattle.mac_base.specs.declared.memory_call.BlockCall.TheVariants.{Poke}
use Rattle.mac_base.specs.declared.memory_call.FillingCall.TheVariants.{NewHandleOf, SetHandleTo, Append}
use Rattle.mac_base.specs.declared.reply.Results.{Results}
use Rattle.mac_base.specs.declared.reply.Results.TheVariants as results
use Rattle.mac_base.specs.ExactStep.{StepEnd, exact_step, heap_after, outcomes_to}
use Rattle.mac_base.specs.GrowZone.{Answer}
use Rattle.mac_base.specs.LoanStep.{Loans}
use Rattle.mac_base.specs.Outcomes.{Outcome}
use Rattle.zone_laws.specs.Act.{Act, AreDone, Calls, Done, Loads, Moment, OnLoan, Unloads}

-- what is live, with its bytes in the cipher
abbrev pub live_ciphered : (ℕ → ℕ) → Live → Live
live_ciphered cipher EmptyHandle = EmptyHandle
live_ciphered cipher (FullHandle flags bytes) = FullHandle flags (map cipher bytes)
live_ciphered cipher (Pointer bytes) = Pointer (map cipher bytes)

-- the table with all bytes in the cipher
abbrev pub table_ciphered : (ℕ → ℕ) → HandleTable → HandleTable
table_ciphered cipher t = record t { live = map (λ (entry : ℕ × Live). (entry.0, live_ciphered cipher entry.1)) t.live }

-- the heap with all contents in the cipher; flags, lengths, places and free slots are as before
abbrev pub heap_ciphered : (ℕ → ℕ) → Heap → Heap
heap_ciphered cipher heap = with_table (table_ciphered cipher heap.table) heap

-- the call with the bytes that it brings in the cipher
abbrev pub call_ciphered : (ℕ → ℕ) → MemoryCall → MemoryCall
call_ciphered cipher (OnBlock (Poke x at bytes)) = OnBlock (Poke x at (map cipher bytes))
call_ciphered cipher (Filling (NewHandleOf bytes)) = Filling (NewHandleOf (map cipher bytes))
call_ciphered cipher (Filling (SetHandleTo h bytes)) = Filling (SetHandleTo h (map cipher bytes))
call_ciphered cipher (Filling (Append h bytes)) = Filling (Append h (map cipher bytes))
call_ciphered cipher call = call

-- the results with the bytes that they show in the cipher
abbrev pub results_ciphered : (ℕ → ℕ) → Results → Results
results_ciphered cipher (results.Bytes bytes) = results.Bytes (map cipher bytes)
results_ciphered cipher r = r

-- the outcome with the bytes that it shows in the cipher
abbrev pub outcome_ciphered : (ℕ → ℕ) → Outcome → Outcome
outcome_ciphered cipher (Ok r) = Ok (results_ciphered cipher r)
outcome_ciphered cipher (Err refusal) = Err refusal

-- the end of a call with all bytes in the cipher; asks and answers are as before
abbrev pub end_ciphered : (ℕ → ℕ) → StepEnd → StepEnd
end_ciphered cipher end = record end { outcome = outcome_ciphered cipher end.outcome; heap = heap_ciphered cipher end.heap }

-- the loans with the bytes that their holders have in the cipher
abbrev pub loans_ciphered : (ℕ → ℕ) → Loans → Loans
loans_ciphered cipher loans = map (λ (loan : ℕ × List ℕ). (loan.0, map cipher loan.1)) loans

-- the call on a lent block with the bytes that it brings in the cipher
abbrev pub loan_call_ciphered : (ℕ → ℕ) → LoanCall → LoanCall
loan_call_ciphered cipher (loan_call.LentPoke x at bytes) = loan_call.LentPoke x at (map cipher bytes)
loan_call_ciphered cipher call = call

-- the act with the bytes that it brings and shows in the cipher
abbrev pub act_ciphered : (ℕ → ℕ) → Act → Act
act_ciphered cipher (Calls call asks outcome) = Calls (call_ciphered cipher call) asks (outcome_ciphered cipher outcome)
act_ciphered cipher (OnLoan call outcome) = OnLoan (loan_call_ciphered cipher call) (outcome_ciphered cipher outcome)
act_ciphered cipher (Loads h flags bytes) = Loads h flags (map cipher bytes)
act_ciphered cipher (Unloads call) = Unloads call

-- the moment with all bytes in the cipher
abbrev pub moment_ciphered : (ℕ → ℕ) → Moment → Moment
moment_ciphered cipher at = record { heap = heap_ciphered cipher at.heap; loans = loans_ciphered cipher at.loans }

-- acts that were done, with all bytes in the cipher
abbrev pub done_ciphered : (ℕ → ℕ) → List Done → List Done
done_ciphered cipher acts = map (λ (done : Done). record { act = act_ciphered cipher done.act; left = moment_ciphered cipher done.left }) acts

-- A call on a heap in a cipher ends as it does, in the cipher. The cipher keeps 0, since new room is filled with zeros.
-- So where each byte ends up doesn't depend on the bytes: if all are numbered, the numbers say where each came from.
abbrev pub MovesContents : Type 0
MovesContents = (cipher : ℕ → ℕ) → cipher 0 ≡ 0 → (s : Shape) (answers : List Answer) (heap : Heap) (call : MemoryCall)
    → exact_step s answers (heap_ciphered cipher heap) (call_ciphered cipher call) ≡ end_ciphered cipher (exact_step s answers heap call)

-- Every run is also one in the cipher, of calls, calls on lent blocks and loads, with the same asks and answers.
abbrev pub RunsMoveContents : Type 0
RunsMoveContents = (cipher : ℕ → ℕ) → cipher 0 ≡ 0 → (s : Shape) (from : Moment) (acts : List Done) → AreDone s from acts → AreDone s (moment_ciphered cipher from) (done_ciphered cipher acts)

-- the cipher in which each byte is 0, so that contents are blank
abbrev pub blank : ℕ → ℕ
blank byte = 0

-- Calls that differ in the bytes that they bring, on heaps that differ in contents, end alike but for contents:
-- with the same code, number or address, asks and answers left, flags, lengths, places and free slots.
abbrev pub IgnoresContents : Type 0
IgnoresContents = (s : Shape) (answers : List Answer) (heap other : Heap) (call with_others : MemoryCall)
    → heap_ciphered blank heap ≡ heap_ciphered blank other → call_ciphered blank call ≡ call_ciphered blank with_others
    → end_ciphered blank (exact_step s answers heap call) ≡ end_ciphered blank (exact_step s answers other with_others)

-- So do calls in a row.
abbrev pub RunsIgnoreContents : Type 0
RunsIgnoreContents = (s : Shape) (heap other : Heap) (calls with_others : List MemoryCall)
    → heap_ciphered blank heap ≡ heap_ciphered blank other → map (call_ciphered blank) calls ≡ map (call_ciphered blank) with_others
    → (heap_ciphered blank (heap_after s heap calls) ≡ heap_ciphered blank (heap_after s other with_others))
    × (map (outcome_ciphered blank) (outcomes_to s heap calls) ≡ map (outcome_ciphered blank) (outcomes_to s other with_others))
