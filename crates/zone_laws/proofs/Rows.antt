-- Worked examples on small maps, computed.
use Rattle.std.proofs.Common.{◌≡◌, refl, ℕ, List, [], ◌∷◌, ◌++◌, Some, None, Ok, Err, replicate}
use Rattle.mac_base.specs.declared.block.Block.{Block}
use Rattle.mac_base.specs.declared.error.OsErr.{OsErr}
use Rattle.mac_base.specs.declared.error.OsErr.TheVariants.{ParamErr, MemFullErr, NilHandleErr, MemWzErr, MemPurErr, MemBcErr, MemLockedErr}
use Rattle.mac_base.specs.declared.block.HeadKind.TheVariants.{Bits24, Bits32}
use Rattle.mac_base.specs.declared.block.Kind.TheVariants.{Free, Master, Ptr, Rel}
use Rattle.mac_base.specs.HeadKind.{Shape, slot_count}
use Rattle.mac_base.specs.ZoneMap.{block}
use Rattle.mac_base.specs.HandleTable.{new_table, no_flags, zeros}
use Rattle.mac_base.specs.Suits.{slots_from}
use Rattle.mac_base.specs.Heap.{Heap, new_heap}
use Rattle.mac_base.specs.declared.memory_call.MemoryCall.{MemoryCall}
use Rattle.mac_base.specs.declared.memory_call.MemoryCall.TheVariants.{Filling, OnBlock, OnZone, Requesting, Showing}
use Rattle.mac_base.specs.declared.memory_call.BlockCall.TheVariants.{DisposeHandle, EmptyHandle, GetHandleSize, HLock, HPurge, HGetState, HSetState, MoveHHi, HLockHi, Deref, DisposePtr, GetPtrSize, RecoverHandle, Poke, BlockMove}
use Rattle.mac_base.specs.declared.memory_call.FillingCall.TheVariants.{HandToHand, PtrToHand, HandAndHand, PtrToXHand, PtrAndHand, NewHandleOf, SetHandleTo, Append}
use Rattle.mac_base.specs.declared.memory_call.RequestingCall.TheVariants.{NewHandle, NewPtr, ReserveMem, NewEmptyHandle, MoreMasters, SetHandleSize, SetPtrSize, ReallocateHandle}
use Rattle.mac_base.specs.declared.memory_call.ShowingCall.TheVariants.{Peek, ZoneMap as WalkZone}
use Rattle.mac_base.specs.declared.memory_call.ZoneCall.TheVariants.{CompactMem, PurgeMem, MaxMem, PurgeSpace, MaxBlock, FreeMem, MaxApplZone}
use Rattle.mac_base.specs.GrowZone.{Answer}
use Rattle.mac_base.specs.declared.releasing.ReleasingCall.TheVariants.{DisposesHandle, Empties}
use Rattle.mac_base.specs.declared.reply.Results.TheVariants.{Nothing, Handle, Pointer, Address, Number, TwoNumbers, Bytes, Blocks}
use Rattle.mac_base.specs.Outcomes.{Outcome}
use Rattle.mac_base.specs.ExactStep.{exact_step, heap_after, outcomes_to}
use Rattle.zone_laws.specs.MadeAgain.{made_again}

-- what a call gives, or the code of its refusal
abbrev done : Outcome
done = Ok Nothing

abbrev refused : OsErr → Outcome
refused code = Err code

abbrev handle : ℕ → Outcome
handle h = Ok (Handle h)

abbrev pointer : ℕ → Outcome
pointer p = Ok (Pointer p)

abbrev address : ℕ → Outcome
address a = Ok (Address a)

abbrev number : ℕ → Outcome
number n = Ok (Number n)

abbrev sizes : ℕ → ℕ → Outcome
sizes all one = Ok (TwoNumbers all one)

abbrev bytes : List ℕ → Outcome
bytes bs = Ok (Bytes bs)

abbrev blocks : List Block → Outcome
blocks bs = Ok (Blocks bs)

abbrev zone : Shape
zone = record { heads = Bits24; base = 0x0010_0000; limit = 4096 }

abbrev fresh : Heap
fresh = new_heap zone 4096

new_zone : fresh ≡ record { table = new_table; map = block Master 264 ∷ block Free 3780 ∷ []; free_slots = slots_from slot_count 0x0010_003C }
new_zone = refl

abbrev h1 : ℕ
h1 = 0x0010_003C

abbrev h2 : ℕ
h2 = 0x0010_0040

abbrev h3 : ℕ
h3 = 0x0010_0044

abbrev h4 : ℕ
h4 = 0x0010_0048

first_handle : (heap_after zone fresh (Requesting (NewHandle 100) ∷ [])).map ≡ block Master 264 ∷ block (Rel h1) 108 ∷ block Free 3672 ∷ []
first_handle = refl

first_handle_report : outcomes_to zone fresh (Requesting (NewHandle 100) ∷ (Showing WalkZone) ∷ []) ≡ handle h1 ∷ blocks (
    record { address = 0x0010_0034; entry = block Master 264; length = 256; flags = no_flags }
    ∷ record { address = 0x0010_013C; entry = block (Rel h1) 108; length = 100; flags = no_flags }
    ∷ record { address = 0x0010_01A8; entry = block Free 3672; length = 0; flags = no_flags } ∷ []) ∷ []
first_handle_report = refl

empty_contents : (heap_after zone fresh (Requesting (NewHandle 0) ∷ [])).map ≡ block Master 264 ∷ block (Rel h1) 12 ∷ block Free 3768 ∷ []
empty_contents = refl

whole_zone : (heap_after zone fresh (Requesting (NewHandle 3772) ∷ [])).map ≡ block Master 264 ∷ block (Rel h1) 3780 ∷ []
whole_zone = refl

too_large : outcomes_to zone fresh (Requesting (NewHandle 3773) ∷ []) ≡ refused MemFullErr ∷ []
too_large = refl

size_correction : (heap_after zone fresh (Requesting (NewHandle 3764) ∷ [])).map ≡ block Master 264 ∷ block (Rel h1) 3780 ∷ []
size_correction = refl

smallest_rest : (heap_after zone fresh (Requesting (NewHandle 3760) ∷ [])).map ≡ block Master 264 ∷ block (Rel h1) 3768 ∷ block Free 12 ∷ []
smallest_rest = refl

abbrev three : List MemoryCall
three = Requesting (NewHandle 1000) ∷ Requesting (NewHandle 1000) ∷ Requesting (NewHandle 1000) ∷ []

abbrev compacting_calls : List MemoryCall
compacting_calls = three ++ OnBlock (Poke h2 0 (66 ∷ 66 ∷ [])) ∷ OnBlock (DisposeHandle h1) ∷ Requesting (NewHandle 1500) ∷ []

compacted_for_handle : (heap_after zone fresh compacting_calls).map
    ≡ block Master 264 ∷ block (Rel h2) 1008 ∷ block (Rel h3) 1008 ∷ block (Rel h1) 1508 ∷ block Free 256 ∷ []
compacted_for_handle = refl

compacted_contents : outcomes_to zone (heap_after zone fresh compacting_calls) (Showing (Peek h2 0 2) ∷ []) ≡ bytes (66 ∷ 66 ∷ []) ∷ []
compacted_contents = refl

locked_in_the_way : outcomes_to zone (heap_after zone fresh (three ++ OnBlock (HLock h2) ∷ OnBlock (DisposeHandle h1) ∷ [])) (Requesting (NewHandle 1500) ∷ []) ≡ refused MemFullErr ∷ []
locked_in_the_way = refl

purged_in_order : outcomes_to zone (heap_after zone fresh three) (OnBlock (HPurge h1) ∷ OnBlock (HPurge h3) ∷ Requesting (NewHandle 1500) ∷ OnBlock (GetHandleSize h1) ∷ OnBlock (GetHandleSize h3) ∷ [])
    ≡ done ∷ done ∷ handle h4 ∷ refused NilHandleErr ∷ number 1000 ∷ []
purged_in_order = refl

compacted_before_purging : outcomes_to zone (heap_after zone fresh three) (OnBlock (HPurge h3) ∷ OnBlock (DisposeHandle h1) ∷ Requesting (NewHandle 1500) ∷ OnBlock (GetHandleSize h3) ∷ [])
    ≡ done ∷ done ∷ handle h1 ∷ number 1000 ∷ []
compacted_before_purging = refl

moved_high : (heap_after zone fresh (Requesting (NewPtr 200) ∷ Requesting (NewPtr 100) ∷ OnBlock (DisposePtr 0x0010_0144) ∷ Requesting (NewHandle 50) ∷ OnBlock (MoveHHi h1) ∷ OnBlock (HLock h1) ∷ [])).map
    ≡ block Master 264 ∷ block Free 148 ∷ block (Rel h1) 60 ∷ block (Ptr 0x0010_0214) 108 ∷ block Free 3464 ∷ []
moved_high = refl

moved_high_replies : outcomes_to zone fresh (Requesting (NewPtr 200) ∷ Requesting (NewPtr 100) ∷ OnBlock (DisposePtr 0x0010_0144) ∷ Requesting (NewHandle 50) ∷ OnBlock (MoveHHi h1) ∷ OnBlock (HLock h1) ∷ OnBlock (MoveHHi h1) ∷ [])
    ≡ pointer 0x0010_0144 ∷ pointer 0x0010_0214 ∷ done ∷ handle h1 ∷ done ∷ done ∷ refused MemLockedErr ∷ []
moved_high_replies = refl

appended_to_itself : outcomes_to zone fresh (Requesting (NewHandle 2) ∷ OnBlock (Poke h1 0 (97 ∷ 98 ∷ [])) ∷ Filling (HandAndHand h1 h1) ∷ Showing (Peek h1 0 4) ∷ (Requesting NewEmptyHandle) ∷ Filling (HandAndHand h2 h1) ∷ OnBlock (GetHandleSize h1) ∷ [])
    ≡ handle h1 ∷ done ∷ done ∷ bytes (97 ∷ 98 ∷ 97 ∷ 98 ∷ []) ∷ handle h2 ∷ refused NilHandleErr ∷ number 4 ∷ []
appended_to_itself = refl

-- an answer that disposes of a protected handle and is worth another trial, and one that is worth none
abbrev two_answers : List Answer
two_answers = record { calls = DisposesHandle h1 ∷ []; value = 40 } ∷ record { calls = []; value = 0 } ∷ []

protected_from_answer : (exact_step zone two_answers (heap_after zone fresh (Requesting (NewHandle 3000) ∷ [])) (Requesting (SetHandleSize h1 3800))).asks
    ≡ record { needed = 3808; answer = Some (record { calls = DisposesHandle h1 ∷ []; value = 40 }); carried = [] }
    ∷ record { needed = 3808; answer = Some (record { calls = []; value = 0 }); carried = [] } ∷ []
protected_from_answer = refl

abbrev one : Answer
one = record { calls = []; value = 1 }

sixteen_answers : (exact_step zone (replicate 17 one) fresh (Requesting (NewHandle 4000))).left ≡ one ∷ []
sixteen_answers = refl

room_released : (exact_step zone (record { calls = DisposesHandle h1 ∷ []; value = 1 } ∷ []) (heap_after zone fresh (Requesting (NewHandle 2000) ∷ [])) (Requesting (NewHandle 3000))).outcome ≡ handle h1
room_released = refl

pointer_goes_low : outcomes_to zone fresh (Requesting (NewHandle 100) ∷ Requesting (NewPtr 20) ∷ OnBlock (Deref h1) ∷ []) ≡ handle h1 ∷ pointer 0x0010_0144 ∷ address 0x0010_0F9C ∷ []
pointer_goes_low = refl

zone_grows : (heap_after zone (new_heap zone 1024) (Requesting (NewHandle 500) ∷ OnBlock (HPurge h1) ∷ Requesting (NewHandle 1000) ∷ [])).map
    ≡ block Master 264 ∷ block (Rel h1) 508 ∷ block (Rel h2) 1008 ∷ block Free 2264 ∷ []
zone_grows = refl

disposed_handle : outcomes_to zone fresh (Requesting (NewHandle 8) ∷ OnBlock (Deref h1) ∷ OnBlock (RecoverHandle 0x0010_0144) ∷ OnBlock (DisposeHandle h1) ∷ OnBlock (DisposeHandle h1) ∷ OnBlock (RecoverHandle 0x0010_0144) ∷ OnBlock (HLock 0) ∷ Requesting (NewHandle 8) ∷ OnBlock (GetHandleSize h1) ∷ [])
    ≡ handle h1 ∷ address 0x0010_0144 ∷ handle h1 ∷ done ∷ refused MemWzErr ∷ refused MemBcErr ∷ refused NilHandleErr ∷ handle h1 ∷ number 8 ∷ []
disposed_handle = refl

purge_space : outcomes_to zone fresh (Requesting (NewHandle 1000) ∷ OnBlock (HPurge h1) ∷ (OnZone PurgeSpace) ∷ (OnZone MaxBlock) ∷ OnZone (PurgeMem 3000) ∷ OnZone (PurgeMem 3781) ∷ [])
    ≡ handle h1 ∷ done ∷ sizes 3780 3780 ∷ number 2772 ∷ done ∷ refused MemFullErr ∷ []
purge_space = refl

handle_grows_in_gap : (heap_after zone fresh (Requesting (NewHandle 100) ∷ Requesting (NewHandle 100) ∷ Requesting (SetHandleSize h1 200) ∷ [])).map
    ≡ block Master 264 ∷ block (Rel h1) 208 ∷ block Free 3464 ∷ block (Rel h2) 108 ∷ []
handle_grows_in_gap = refl

pointer_grows : outcomes_to zone fresh (Requesting (NewPtr 100) ∷ Requesting (NewHandle 100) ∷ Requesting (SetPtrSize 0x0010_0144 200) ∷ OnBlock (Deref h1) ∷ []) ≡ pointer 0x0010_0144 ∷ handle h1 ∷ done ∷ address 0x0010_0F9C ∷ []
pointer_grows = refl

high_and_compacted : outcomes_to zone fresh (Requesting (NewHandle 100) ∷ Requesting (NewHandle 100) ∷ OnBlock (DisposeHandle h1) ∷ OnBlock (HLockHi h2) ∷ OnBlock (Deref h2) ∷ OnZone (CompactMem 0) ∷ OnZone (CompactMem 4000) ∷ Requesting (ReserveMem 500) ∷ [])
    ≡ handle h1 ∷ handle h2 ∷ done ∷ done ∷ address 0x0010_0F9C ∷ number 3672 ∷ number 3672 ∷ done ∷ []
high_and_compacted = refl

free_block_first : outcomes_to zone fresh (Requesting (NewHandle 100) ∷ Requesting (NewHandle 100) ∷ OnBlock (DisposeHandle h1) ∷ Requesting (NewHandle 200) ∷ OnBlock (Deref h2) ∷ []) ≡ handle h1 ∷ handle h2 ∷ done ∷ handle h1 ∷ address 0x0010_01B0 ∷ []
free_block_first = refl

grown_by_call : outcomes_to zone (new_heap zone 1024) (Requesting (NewHandle 500) ∷ OnBlock (HPurge h1) ∷ (OnZone MaxMem) ∷ (OnZone MaxApplZone) ∷ (OnZone MaxMem) ∷ []) ≡ handle h1 ∷ done ∷ sizes 708 3072 ∷ done ∷ sizes 3780 0 ∷ []
grown_by_call = refl

overlapping_move : outcomes_to zone fresh (Requesting (NewHandle 6) ∷ OnBlock (Poke h1 0 (97 ∷ 98 ∷ 99 ∷ 100 ∷ 101 ∷ 102 ∷ [])) ∷ OnBlock (BlockMove h1 0 h1 2 4) ∷ Showing (Peek h1 0 6) ∷ OnBlock (BlockMove h1 0 h1 3 4) ∷ [])
    ≡ handle h1 ∷ done ∷ done ∷ bytes (97 ∷ 98 ∷ 97 ∷ 98 ∷ 99 ∷ 100 ∷ []) ∷ refused ParamErr ∷ []
overlapping_move = refl

reallocated : outcomes_to zone fresh (Requesting (NewHandle 1000) ∷ Requesting (ReallocateHandle h1 4000) ∷ OnBlock (GetHandleSize h1) ∷ Requesting (ReallocateHandle h1 3772) ∷ OnBlock (GetHandleSize h1) ∷ [])
    ≡ handle h1 ∷ refused MemFullErr ∷ number 1000 ∷ done ∷ number 3772 ∷ []
reallocated = refl

-- 63 handles, and one more that leaves no room for a master block
abbrev sixty_three : List MemoryCall
sixty_three = replicate 63 (Requesting (NewHandle 0))

no_master_block : outcomes_to zone (heap_after zone fresh (sixty_three ++ Requesting (NewHandle 2916) ∷ [])) (Requesting (NewHandle 0) ∷ []) ≡ refused MemFullErr ∷ []
no_master_block = refl

-- and one that leaves room for the master block alone
master_block_stays : outcomes_to zone (heap_after zone fresh (sixty_three ++ Requesting (NewHandle 2752) ∷ [])) (Requesting (NewHandle 0) ∷ (Requesting NewEmptyHandle) ∷ []) ≡ refused MemFullErr ∷ handle 0x0010_0144 ∷ []
master_block_stays = refl

abbrev p1 : ℕ
p1 = 0x0010_0144

copies : outcomes_to zone fresh (Requesting (NewPtr 4) ∷ OnBlock (Poke p1 0 (97 ∷ 98 ∷ 99 ∷ 100 ∷ [])) ∷ Filling (PtrToHand p1 3) ∷ Filling (PtrAndHand p1 h1 2) ∷ Showing (Peek h1 0 5) ∷ Filling (PtrToXHand p1 h1 1) ∷ Filling (HandToHand h1) ∷ Showing (Peek h2 0 1)
    ∷ Requesting (SetHandleSize h1 300) ∷ Requesting (SetPtrSize p1 40) ∷ Requesting (ReallocateHandle h2 10) ∷ (Requesting MoreMasters) ∷ Requesting (ReserveMem 500) ∷ OnZone (PurgeMem 100) ∷ OnZone (CompactMem 4000) ∷ (OnZone MaxMem) ∷ (OnZone FreeMem) ∷ [])
    ≡ pointer p1 ∷ done ∷ handle h1 ∷ done ∷ bytes (97 ∷ 98 ∷ 99 ∷ 97 ∷ 98 ∷ []) ∷ done ∷ handle h2 ∷ bytes (97 ∷ [])
    ∷ done ∷ done ∷ done ∷ done ∷ done ∷ done ∷ number 3140 ∷ sizes 3140 0 ∷ number 3140 ∷ []
copies = refl

brings : outcomes_to zone fresh (Filling (NewHandleOf (97 ∷ 98 ∷ 99 ∷ [])) ∷ Filling (Append h1 (100 ∷ 101 ∷ [])) ∷ Showing (Peek h1 0 5) ∷ Filling (SetHandleTo h1 (120 ∷ [])) ∷ Showing (Peek h1 0 1) ∷ OnBlock (GetHandleSize h1) ∷ Filling (Append h2 []) ∷ Filling (NewHandleOf (zeros 3773)) ∷ [])
    ≡ handle h1 ∷ done ∷ bytes (97 ∷ 98 ∷ 99 ∷ 100 ∷ 101 ∷ []) ∷ done ∷ bytes (120 ∷ []) ∷ number 1 ∷ refused MemWzErr ∷ refused MemFullErr ∷ []
brings = refl

brings_map : (heap_after zone fresh (Filling (NewHandleOf (97 ∷ 98 ∷ 99 ∷ [])) ∷ Filling (Append h1 (zeros 100)) ∷ [])).map ≡ block Master 264 ∷ block (Rel h1) 112 ∷ block Free 3668 ∷ []
brings_map = refl

protected_from_purging : outcomes_to zone fresh (Requesting (NewHandle 2000) ∷ OnBlock (HPurge h1) ∷ Filling (HandToHand h1) ∷ OnBlock (GetHandleSize h1) ∷ []) ≡ handle h1 ∷ done ∷ refused MemFullErr ∷ number 2000 ∷ []
protected_from_purging = refl

copies_map : (heap_after zone fresh (Requesting (NewPtr 4) ∷ Filling (PtrToHand p1 3) ∷ Filling (PtrAndHand p1 h1 2) ∷ Filling (PtrToXHand p1 h1 1) ∷ Filling (HandToHand h1)
    ∷ Requesting (SetHandleSize h1 300) ∷ Requesting (SetPtrSize p1 40) ∷ Requesting (ReallocateHandle h2 10) ∷ (Requesting MoreMasters) ∷ Requesting (ReserveMem 500) ∷ OnZone (PurgeMem 100) ∷ OnZone (CompactMem 4000) ∷ (OnZone MaxMem) ∷ [])).map
    ≡ block Master 264 ∷ block (Ptr p1) 48 ∷ block Master 264 ∷ block (Rel h2) 20 ∷ block (Rel h1) 308 ∷ block Free 3140 ∷ []
copies_map = refl

answer_emptied : (exact_step zone (record { calls = Empties h1 ∷ DisposesHandle h2 ∷ []; value = 7 } ∷ record { calls = []; value = 0 } ∷ [])
    (heap_after zone fresh (Requesting (NewHandle 2000) ∷ Requesting (NewHandle 1000) ∷ [])) (Requesting (SetHandleSize h2 3500))).asks
    ≡ record { needed = 3508; answer = Some (record { calls = Empties h1 ∷ DisposesHandle h2 ∷ []; value = 7 }); carried = (Empties h1, None) ∷ [] } ∷ []
answer_emptied = refl

answer_emptied_sizes : outcomes_to zone (exact_step zone (record { calls = Empties h1 ∷ DisposesHandle h2 ∷ []; value = 7 } ∷ []) (heap_after zone fresh (Requesting (NewHandle 2000) ∷ Requesting (NewHandle 1000) ∷ [])) (Requesting (SetHandleSize h2 3500))).heap
    (OnBlock (GetHandleSize h1) ∷ OnBlock (GetHandleSize h2) ∷ []) ≡ refused NilHandleErr ∷ number 3500 ∷ []
answer_emptied_sizes = refl

-- bytes written and shown, and refusals in their order
poked : outcomes_to zone fresh (Requesting (NewHandle 4) ∷ OnBlock (Poke h1 0 (0 ∷ 255 ∷ [])) ∷ Showing (Peek h1 0 3) ∷ OnBlock (Poke h1 3 (97 ∷ 98 ∷ [])) ∷ OnBlock (DisposeHandle h1) ∷ Showing (Peek h1 0 1) ∷ Showing (Peek 0 0 1) ∷ [])
    ≡ handle h1 ∷ done ∷ bytes (0 ∷ 255 ∷ 0 ∷ []) ∷ refused ParamErr ∷ done ∷ refused MemWzErr ∷ refused NilHandleErr ∷ []
poked = refl

-- flags, and an empty handle, which has none
flagged : outcomes_to zone fresh (Requesting (NewHandle 100) ∷ OnBlock (HLock h1) ∷ OnBlock (HPurge h1) ∷ OnBlock (HGetState h1) ∷ OnBlock (HSetState h1 64) ∷ OnBlock (HGetState h1) ∷ OnBlock (HSetState h1 256) ∷ OnBlock (EmptyHandle h1) ∷ OnBlock (GetHandleSize h1) ∷ OnBlock (HLock h1) ∷ OnBlock (EmptyHandle h1) ∷ [])
    ≡ handle h1 ∷ done ∷ done ∷ number 192 ∷ done ∷ number 64 ∷ refused ParamErr ∷ done ∷ refused NilHandleErr ∷ refused NilHandleErr ∷ done ∷ []
flagged = refl

-- sizes of handles and pointers
sized : outcomes_to zone fresh (Requesting (NewPtr 20) ∷ OnBlock (GetPtrSize p1) ∷ Requesting (NewHandle 10) ∷ Requesting (SetHandleSize h1 30) ∷ OnBlock (GetHandleSize h1) ∷ Showing (Peek h1 8 4) ∷ Requesting (SetPtrSize p1 8) ∷ OnBlock (DisposePtr h1) ∷ OnBlock (DisposePtr p1) ∷ OnBlock (DisposePtr p1) ∷ [])
    ≡ pointer p1 ∷ number 20 ∷ handle h1 ∷ done ∷ number 30 ∷ bytes (0 ∷ 0 ∷ 0 ∷ 0 ∷ []) ∷ done ∷ refused MemWzErr ∷ done ∷ refused MemWzErr ∷ []
sized = refl

nothing_purged : outcomes_to zone fresh (OnZone (PurgeMem 3781) ∷ []) ≡ refused MemFullErr ∷ []
nothing_purged = refl

-- a range that ends after the block, calls on a locked handle, the largest size and one above it
bounds : outcomes_to zone fresh (Requesting (NewHandle 100) ∷ Showing (Peek h1 90 20) ∷ OnBlock (HLock h1) ∷ OnBlock (EmptyHandle h1) ∷ Requesting (ReallocateHandle h1 4) ∷ Requesting (NewHandle 8388608) ∷ Requesting (NewHandle 8388609) ∷ [])
    ≡ handle h1 ∷ refused ParamErr ∷ done ∷ refused MemPurErr ∷ refused MemPurErr ∷ refused MemFullErr ∷ refused ParamErr ∷ []
bounds = refl

-- where the zone is full the map stays as it is
full_zone_stays : (heap_after zone fresh (Requesting (NewHandle 3773) ∷ [])).map ≡ fresh.map
full_zone_stays = refl

-- a handle that could not grow keeps its bytes, and one that need not be purged too
kept_after_answers : outcomes_to zone (exact_step zone two_answers (heap_after zone fresh (Requesting (NewHandle 3000) ∷ [])) (Requesting (SetHandleSize h1 3800))).heap (OnBlock (GetHandleSize h1) ∷ []) ≡ number 3000 ∷ []
kept_after_answers = refl

kept_by_growth : outcomes_to zone (new_heap zone 1024) (Requesting (NewHandle 500) ∷ OnBlock (HPurge h1) ∷ Requesting (NewHandle 1000) ∷ OnBlock (GetHandleSize h1) ∷ []) ≡ handle h1 ∷ done ∷ handle h2 ∷ number 500 ∷ []
kept_by_growth = refl

-- the master block after which no room was left is in front, and all blocks above it
master_block_first : (heap_after zone fresh (sixty_three ++ Requesting (NewHandle 2752) ∷ Requesting (NewHandle 0) ∷ (Requesting NewEmptyHandle) ∷ [])).free_slots ≡ slots_from 63 0x0010_0148
master_block_first = refl

-- an answer between two calls
room_released_between : (made_again zone (record { calls = DisposesHandle h1 ∷ []; value = 1 } ∷ []) (heap_after zone fresh (Requesting (NewHandle 2000) ∷ []))
    (Requesting (NewHandle 3000))).0 ≡ handle h1
room_released_between = refl

-- Where no slot is free and an answer frees one, the call made again takes it. With the answer in it the call still
-- wants a master block.
abbrev all_live : Heap
all_live = heap_after zone fresh (sixty_three ++ Requesting (NewHandle 2916) ∷ [])

abbrev frees_slot : List Answer
frees_slot = record { calls = DisposesHandle h1 ∷ []; value = 1 } ∷ []

wants_master_block : (exact_step zone frees_slot all_live (Requesting NewEmptyHandle)).outcome ≡ refused MemFullErr
wants_master_block = refl

takes_freed_slot : (made_again zone frees_slot all_live (Requesting NewEmptyHandle)).0 ≡ handle h1
takes_freed_slot = refl

-- After 16 answers a call asks nothing more. Made again after the last of them it asks once more, in vain.
sixteen_asks : (exact_step zone (replicate 16 one) fresh (Requesting (NewHandle 4000))).asks
    ≡ replicate 16 (record { needed = 4008; answer = Some one; carried = [] })
sixteen_asks = refl

one_more_ask : (exact_step zone [] (exact_step zone (replicate 16 one) fresh (Requesting (NewHandle 4000))).heap (Requesting (NewHandle 4000))).asks
    ≡ record { needed = 4008; answer = None; carried = [] } ∷ []
one_more_ask = refl

-- An answer can't dispose of the handle of the call that asked. Between two calls it can, and the second is refused.
disposed_between : outcomes_to zone fresh (Requesting (NewHandle 3000) ∷ Requesting (SetHandleSize h1 3800) ∷ OnBlock (DisposeHandle h1) ∷ Requesting (SetHandleSize h1 3800) ∷ [])
    ≡ handle h1 ∷ refused MemFullErr ∷ done ∷ refused MemWzErr ∷ []
disposed_between = refl

-- ---- the same zone with 32-bit blocks

abbrev zone32 : Shape
zone32 = record { heads = Bits32; base = 0x0010_0000; limit = 4096 }

abbrev fresh32 : Heap
fresh32 = new_heap zone32 4096

-- its first slot is after a header of 12 bytes
abbrev g1 : ℕ
g1 = 0x0010_0040

first_handle_32 : outcomes_to zone32 fresh32 (Requesting (NewHandle 100) ∷ (Showing WalkZone) ∷ []) ≡ handle g1 ∷ blocks (
    record { address = 0x0010_0034; entry = block Master 268; length = 256; flags = no_flags }
    ∷ record { address = 0x0010_0140; entry = block (Rel g1) 112; length = 100; flags = no_flags }
    ∷ record { address = 0x0010_01B0; entry = block Free 3664; length = 0; flags = no_flags }
    ∷ []) ∷ []
first_handle_32 = refl

-- the largest block fits exactly, and one of a byte more doesn't
exact_fit_32 : outcomes_to zone32 fresh32 (Requesting (NewHandle 3764) ∷ []) ≡ handle g1 ∷ []
exact_fit_32 = refl

one_too_many_32 : outcomes_to zone32 fresh32 (Requesting (NewHandle 3765) ∷ []) ≡ refused MemFullErr ∷ []
one_too_many_32 = refl

-- less than 16 bytes stay in the block, and 16 are a block of their own
small_rest_32 : (heap_after zone32 fresh32 (Requesting (NewHandle 3752) ∷ [])).map ≡ block Master 268 ∷ block (Rel g1) 3776 ∷ []
small_rest_32 = refl

smallest_rest_32 : (heap_after zone32 fresh32 (Requesting (NewHandle 3748) ∷ [])).map ≡ block Master 268 ∷ block (Rel g1) 3760 ∷ block Free 16 ∷ []
smallest_rest_32 = refl
