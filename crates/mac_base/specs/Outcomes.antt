-- What calls give, read off the heap as the call leaves it.
use Rattle.std.specs.Prelude.{Result, Ok, Err, ℕ, ◌+◌, ◌-◌, [], length, take, drop, unwrap_or}
use Rattle.mac_base.specs.declared.error.OsErr.{OsErr}
use Rattle.mac_base.specs.HeadKind.{Shape, zone_header}
use Rattle.mac_base.specs.ZoneMap.{ZoneMap, address_after, total_size, free_bytes, largest_free, contents_of, handle_at}
use Rattle.mac_base.specs.HandleTable.{bytes_of, flags_of}
use Rattle.mac_base.specs.Reports.{largest_room, purge_space, largest_purge_space}
use Rattle.mac_base.specs.Heap.{Heap}
use Rattle.mac_base.specs.FlagState.{state_of}
use Rattle.mac_base.specs.BlockReport.{reports_from}
use Rattle.mac_base.specs.declared.memory_call.MemoryCall.{MemoryCall}
use Rattle.mac_base.specs.declared.memory_call.MemoryCall.TheVariants.{Filling, OnBlock, OnZone, Requesting, Showing}
use Rattle.mac_base.specs.declared.memory_call.BlockCall.TheVariants.{GetHandleSize, GetPtrSize, HGetState, RecoverHandle, Deref}
use Rattle.mac_base.specs.declared.memory_call.FillingCall.TheVariants.{HandToHand, PtrToHand, NewHandleOf}
use Rattle.mac_base.specs.declared.memory_call.RequestingCall.TheVariants.{NewHandle, NewEmptyHandle, NewPtr}
use Rattle.mac_base.specs.declared.memory_call.ShowingCall.TheVariants.{Peek}
use Rattle.mac_base.specs.declared.memory_call.ShowingCall.TheVariants as showing_call
use Rattle.mac_base.specs.declared.memory_call.ZoneCall.TheVariants.{CompactMem, MaxMem, PurgeSpace, MaxBlock, FreeMem}
use Rattle.mac_base.specs.declared.reply.Results.{Results}
use Rattle.mac_base.specs.declared.reply.Results.TheVariants.{Nothing, Handle, Pointer, Address, Number, TwoNumbers, Bytes, Blocks}

-- how a call ends: with its results, or with the code of its refusal
abbrev pub Outcome : Type 0
Outcome = Result Results OsErr

-- the bytes by which the zone may still grow
abbrev pub growth_left : Shape → ZoneMap → ℕ
growth_left s m = s.limit - (zone_header + total_size m)

-- The outcome of a call that is not refused and makes no request.
abbrev pub outcome_of : Shape → Heap → MemoryCall → Outcome
outcome_of s heap (OnBlock (GetHandleSize h)) = Ok (Number (length (bytes_of heap.table h)))
outcome_of s heap (OnBlock (GetPtrSize p)) = Ok (Number (length (bytes_of heap.table p)))
outcome_of s heap (OnBlock (HGetState h)) = Ok (Number (state_of (flags_of heap.table h)))
outcome_of s heap (OnBlock (RecoverHandle a)) = Ok (Handle (unwrap_or (handle_at s a heap.map) 0))
outcome_of s heap (OnBlock (Deref h)) = Ok (Address (contents_of s h heap.map))
outcome_of s heap (Showing (Peek x at n)) = Ok (Bytes (take n (drop at (bytes_of heap.table x))))
outcome_of s heap (OnZone (CompactMem n)) = Ok (Number (largest_free heap.map))
outcome_of s heap (OnZone MaxMem) = Ok (TwoNumbers (largest_free heap.map) (growth_left s heap.map))
outcome_of s heap (OnZone PurgeSpace) = Ok (TwoNumbers (purge_space heap.table heap.map) (largest_purge_space heap.table heap.map))
outcome_of s heap (OnZone MaxBlock) = Ok (Number (largest_room heap.table heap.map))
outcome_of s heap (OnZone FreeMem) = Ok (Number (free_bytes heap.map))
outcome_of s heap (Showing showing_call.ZoneMap) = Ok (Blocks (reports_from heap.table (address_after s []) heap.map))
outcome_of s heap _ = Ok Nothing

-- the results of a call whose request gave the number x
abbrev pub given_results : MemoryCall → ℕ → Results
given_results (Requesting (NewHandle n)) x = Handle x
given_results (Requesting NewEmptyHandle) x = Handle x
given_results (Requesting (NewPtr n)) x = Pointer x
given_results (Filling (HandToHand h)) x = Handle x
given_results (Filling (PtrToHand p n)) x = Handle x
given_results (Filling (NewHandleOf bytes)) x = Handle x
given_results _ x = Nothing

-- the outcome of a call that gives a handle
abbrev pub handle_outcome : Result ℕ OsErr → Outcome
handle_outcome (Ok handle) = Ok (Handle handle)
handle_outcome (Err code) = Err code

-- of one that gives a pointer
abbrev pub pointer_outcome : Result ℕ OsErr → Outcome
pointer_outcome (Ok pointer) = Ok (Pointer pointer)
pointer_outcome (Err code) = Err code

-- of one that gives an address
abbrev pub address_outcome : Result ℕ OsErr → Outcome
address_outcome (Ok address) = Ok (Address address)
address_outcome (Err code) = Err code

-- of one that gives a number
abbrev pub number_outcome : Result ℕ OsErr → Outcome
number_outcome (Ok n) = Ok (Number n)
number_outcome (Err code) = Err code

-- of one without a result
abbrev pub done_outcome : Result (Unit {0}) OsErr → Outcome
done_outcome (Ok u) = Ok Nothing
done_outcome (Err code) = Err code
