-- The steps of calls that make no request.
use Rattle.std.proofs.Common.{◌≡◌, ℕ, ◌+◌, ◌-◌, ◌≤◌, Option, List, [], ◌++◌, length, take, drop, sym, ap, subst, refl, Some, None, Ok, Err}
use Rattle.std.proofs.Math.Nat.{add-sub_cancel_left}
use borrow.Rule.Slice.PartMut.{post_of}
use Rattle.mac_base.specs.declared.error.OsErr.{OsErr}
use Rattle.mac_base.specs.HandleTable.{bytes_of}
use Rattle.mac_base.specs.ZoneState.{ZoneState, with_contents}
use Rattle.mac_base.specs.declared.memory_call.MemoryCall.{MemoryCall}
use Rattle.mac_base.specs.declared.memory_call.MemoryCall.TheVariants.{OnBlock, Showing}
use Rattle.mac_base.specs.declared.memory_call.BlockCall.TheVariants.{Poke}
use Rattle.mac_base.specs.declared.memory_call.ShowingCall.TheVariants.{Peek}
use Rattle.mac_base.specs.declared.reply.Results.TheVariants.{Nothing, Bytes}
use Rattle.mac_base.specs.ExactStep.{step_unless}
use Rattle.mac_base.specs.RequestRun.{RequestRun}
use Rattle.mac_base.specs.Tests.{refusal}
use Rattle.zone_laws.proofs.Steps.{step-refused, step-Peek, step-Poke}
use Rattle.mem_calls.proofs.Brought.{block_written}
use Rattle.held_calls.specs.Making.{MemorySteps}

-- a call that is refused
pub refused_step : (zone : ZoneState) (call : MemoryCall) (code : OsErr) → refusal zone.shape zone.heap call ≡ Some code → MemorySteps zone call [] (Err code) zone
refused_step zone call code refused = (step-refused RequestRun zone.shape zone.heap call code refused, ap (λ (o : Option OsErr). step_unless zone.shape [] zone.heap call o) refused, refl)

-- a Peek that isn't refused
pub peek_step : (zone : ZoneState) (x at n : ℕ) (contents bytes : List ℕ) → refusal zone.shape zone.heap (Showing (Peek x at n)) ≡ None → contents ≡ bytes_of zone.heap.table x → bytes ≡ take (at + n - at) (drop at contents) → MemorySteps zone (Showing (Peek x at n)) [] (Ok (Bytes bytes)) zone
peek_step zone x at n contents bytes passed whole is =
    let shown : bytes ≡ take n (drop at (bytes_of zone.heap.table x)) = rw (← whole, ← add-sub_cancel_left at n) is in
    let P : List ℕ → Type 0 = λ bs. MemorySteps zone (Showing (Peek x at n)) [] (Ok (Bytes bs)) zone in
    subst P (sym shown) (step-Peek RequestRun zone.shape zone.heap x at n passed, ap (λ (o : Option OsErr). step_unless zone.shape [] zone.heap (Showing (Peek x at n)) o) passed, refl)

-- a Poke that isn't refused
pub poke_step : (zone : ZoneState) (x at : ℕ) (bytes contents copied : List ℕ) → refusal zone.shape zone.heap (Showing (Peek x at (length bytes))) ≡ None → at + length bytes ≤ length (bytes_of zone.heap.table x) → contents ≡ bytes_of zone.heap.table x → copied ≡ bytes
    → MemorySteps zone (OnBlock (Poke x at bytes)) [] (Ok Nothing) (with_contents zone x (take at contents ++ (copied ++ post_of at (at + length bytes - at) contents)))
poke_step zone x at bytes contents copied passed within whole all =
    let P : ZoneState → Type 0 = λ new. MemorySteps zone (OnBlock (Poke x at bytes)) [] (Ok Nothing) new in
    subst P (sym (block_written zone x at bytes contents copied within whole all))
    (step-Poke RequestRun zone.shape zone.heap x at bytes passed, ap (λ (o : Option OsErr). step_unless zone.shape [] zone.heap (OnBlock (Poke x at bytes)) o) passed, refl)
