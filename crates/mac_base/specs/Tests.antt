-- When the Memory Manager's calls are refused.
use Rattle.std.specs.Prelude.{ℕ, ◌+◌, Bool, not, ◌||◌, ◌==◌, nat_le, if◌then◌else◌, List, [], ◌∷◌, length, Option, Some, None, is_some}
use Rattle.std.specs.Option.{option_or}
use Rattle.mac_base.specs.declared.error.OsErr.{OsErr}
use Rattle.mac_base.specs.declared.error.OsErr.TheVariants.{ParamErr, NilHandleErr, MemWzErr, MemPurErr, MemBcErr, MemLockedErr}
use Rattle.mac_base.specs.HeadKind.{Shape, max_size}
use Rattle.mac_base.specs.ZoneMap.{handle_at}
use Rattle.mac_base.specs.HandleTable.{bytes_of, is_handle, is_pointer, is_full, is_locked, is_lent}
use Rattle.mac_base.specs.Heap.{Heap}
use Rattle.mac_base.specs.Loans.{may_be_lent}
use Rattle.mac_base.specs.FlagState.{state_locks}
use Rattle.mac_base.specs.declared.memory_call.MemoryCall.{MemoryCall}
use Rattle.mac_base.specs.declared.memory_call.MemoryCall.TheVariants.{Filling, OnBlock, OnZone, Requesting, Showing}
use Rattle.mac_base.specs.declared.memory_call.BlockCall.TheVariants.{DisposeHandle, DisposePtr, EmptyHandle, GetHandleSize, GetPtrSize, HLock, HPurge, HNoPurge, HSetRBit, HClrRBit, HUnlock, HGetState, HSetState, MoveHHi, HLockHi, RecoverHandle, Deref, Poke, BlockMove}
use Rattle.mac_base.specs.declared.memory_call.FillingCall.TheVariants.{HandToHand, PtrToHand, PtrToXHand, PtrAndHand, NewHandleOf, SetHandleTo, Append, HandAndHand}
use Rattle.mac_base.specs.declared.memory_call.RequestingCall.TheVariants.{NewHandle, NewPtr, ReserveMem, SetHandleSize, SetPtrSize, ReallocateHandle}
use Rattle.mac_base.specs.declared.memory_call.ShowingCall.TheVariants.{Peek}
use Rattle.mac_base.specs.declared.memory_call.ZoneCall.TheVariants.{CompactMem, PurgeMem}

-- what a call's operands are tested for
pub data Test : Type 0 where
  -- x is a live handle, a live pointer, or either
  IsHandle IsPointer IsBlock : ℕ → Test
  -- x is no empty handle;  x is not lent
  NotEmpty NotLent : ℕ → Test
  -- the handle is not locked, or else the call is refused by this code
  NotLocked : OsErr → ℕ → Test
  -- n is a possible size;  n is a possible state
  IsSize IsState : ℕ → Test
  -- n bytes from an offset on are within the block of x
  IsWithin : ℕ → ℕ → ℕ → Test
  -- x is lent;  x may be lent
  IsLent MayBeLent : ℕ → Test
  -- the handle is not lent, or the state keeps it locked
  KeepsLent : ℕ → ℕ → Test
  -- a handle's contents begin at the address
  IsContents : ℕ → Test

-- no refusal where the test passes
abbrev pub unless_passed : OsErr → Bool → Option OsErr
unless_passed code passed = if passed then None else Some code

-- the refusal of 0 first
abbrev pub unless_nil : ℕ → Option OsErr → Option OsErr
unless_nil x other = if x == 0 then Some NilHandleErr else other

-- the code by which a failed test refuses the call
abbrev pub refused_by : Shape → Heap → Test → Option OsErr
refused_by s heap (IsHandle h) = unless_nil h (unless_passed MemWzErr (is_handle heap.table h))
refused_by s heap (IsPointer p) = unless_passed MemWzErr (is_pointer heap.table p)
refused_by s heap (IsBlock x) = unless_nil x (unless_passed MemWzErr (is_handle heap.table x || is_pointer heap.table x))
refused_by s heap (NotEmpty x) = unless_passed NilHandleErr (is_full heap.table x || is_pointer heap.table x)
refused_by s heap (NotLent x) = unless_passed MemLockedErr (not (is_lent heap.table x))
refused_by s heap (NotLocked code h) = unless_passed code (not (is_locked heap.table h))
refused_by s heap (IsSize n) = unless_passed ParamErr (nat_le n max_size)
refused_by s heap (IsState n) = unless_passed ParamErr (nat_le n 255)
refused_by s heap (IsWithin x at n) = unless_passed ParamErr (nat_le (at + n) (length (bytes_of heap.table x)))
refused_by s heap (IsLent x) = unless_passed ParamErr (is_lent heap.table x)
refused_by s heap (MayBeLent x) = unless_passed ParamErr (may_be_lent heap.table x)
refused_by s heap (KeepsLent h n) = unless_passed MemLockedErr (state_locks n || not (is_lent heap.table h))
refused_by s heap (IsContents a) = unless_passed MemBcErr (is_some (handle_at s a heap.map))

-- the first refusal of a list of tests
abbrev pub first_refusal : Shape → Heap → List Test → Option OsErr
first_refusal s heap [] = None
first_refusal s heap (test ∷ tests) = option_or (refused_by s heap test) (first_refusal s heap tests)

-- the tests of each call, in their order
abbrev pub tests_of : MemoryCall → List Test
tests_of (Requesting (NewHandle n)) = IsSize n ∷ []
tests_of (Requesting (NewPtr n)) = IsSize n ∷ []
tests_of (Requesting (ReserveMem n)) = IsSize n ∷ []
tests_of (OnZone (CompactMem n)) = IsSize n ∷ []
tests_of (OnZone (PurgeMem n)) = IsSize n ∷ []
tests_of (OnBlock (DisposeHandle h)) = IsHandle h ∷ NotLent h ∷ []
tests_of (OnBlock (DisposePtr p)) = IsPointer p ∷ NotLent p ∷ []
tests_of (OnBlock (EmptyHandle h)) = IsHandle h ∷ NotLent h ∷ NotLocked MemPurErr h ∷ []
tests_of (Requesting (SetHandleSize h n)) = IsHandle h ∷ NotEmpty h ∷ NotLent h ∷ IsSize n ∷ []
tests_of (OnBlock (GetHandleSize h)) = IsHandle h ∷ NotEmpty h ∷ []
tests_of (Requesting (SetPtrSize p n)) = IsPointer p ∷ NotLent p ∷ IsSize n ∷ []
tests_of (OnBlock (GetPtrSize p)) = IsPointer p ∷ []
tests_of (Requesting (ReallocateHandle h n)) = IsHandle h ∷ NotLent h ∷ NotLocked MemPurErr h ∷ IsSize n ∷ []
tests_of (Filling (HandToHand h)) = IsHandle h ∷ NotEmpty h ∷ NotLent h ∷ []
tests_of (Filling (PtrToHand p n)) = IsPointer p ∷ NotLent p ∷ IsWithin p 0 n ∷ []
tests_of (Filling (PtrToXHand p h n)) = IsPointer p ∷ NotLent p ∷ IsHandle h ∷ NotEmpty h ∷ NotLent h ∷ IsWithin p 0 n ∷ []
tests_of (Filling (PtrAndHand p h n)) = IsPointer p ∷ NotLent p ∷ IsHandle h ∷ NotEmpty h ∷ NotLent h ∷ IsWithin p 0 n ∷ []
tests_of (Filling (NewHandleOf bytes)) = IsSize (length bytes) ∷ []
tests_of (Filling (SetHandleTo h bytes)) = IsHandle h ∷ NotEmpty h ∷ NotLent h ∷ IsSize (length bytes) ∷ []
tests_of (Filling (Append h bytes)) = IsHandle h ∷ NotEmpty h ∷ NotLent h ∷ IsSize (length bytes) ∷ []
tests_of (Filling (HandAndHand a b)) = IsHandle a ∷ NotEmpty a ∷ NotLent a ∷ IsHandle b ∷ NotEmpty b ∷ NotLent b ∷ []
tests_of (OnBlock (HLock h)) = IsHandle h ∷ NotEmpty h ∷ []
tests_of (OnBlock (HPurge h)) = IsHandle h ∷ NotEmpty h ∷ []
tests_of (OnBlock (HNoPurge h)) = IsHandle h ∷ NotEmpty h ∷ []
tests_of (OnBlock (HSetRBit h)) = IsHandle h ∷ NotEmpty h ∷ []
tests_of (OnBlock (HClrRBit h)) = IsHandle h ∷ NotEmpty h ∷ []
tests_of (OnBlock (HUnlock h)) = IsHandle h ∷ NotEmpty h ∷ NotLent h ∷ []
tests_of (OnBlock (HGetState h)) = IsHandle h ∷ NotEmpty h ∷ []
tests_of (OnBlock (HSetState h n)) = IsHandle h ∷ NotEmpty h ∷ IsState n ∷ KeepsLent h n ∷ []
tests_of (OnBlock (MoveHHi h)) = IsHandle h ∷ NotEmpty h ∷ NotLocked MemLockedErr h ∷ []
tests_of (OnBlock (HLockHi h)) = IsHandle h ∷ NotEmpty h ∷ NotLocked MemLockedErr h ∷ []
tests_of (OnBlock (RecoverHandle a)) = IsContents a ∷ []
tests_of (OnBlock (Deref h)) = IsHandle h ∷ NotEmpty h ∷ []
tests_of (Showing (Peek x at n)) = IsBlock x ∷ NotEmpty x ∷ NotLent x ∷ IsWithin x at n ∷ []
tests_of (OnBlock (Poke x at bytes)) = IsBlock x ∷ NotEmpty x ∷ NotLent x ∷ IsWithin x at (length bytes) ∷ []
tests_of (OnBlock (BlockMove x at y to n)) = IsBlock x ∷ NotEmpty x ∷ NotLent x ∷ IsBlock y ∷ NotEmpty y ∷ NotLent y ∷ IsWithin x at n ∷ IsWithin y to n ∷ []
tests_of _ = []

-- the refusal of a call, if it is refused before anything is changed
abbrev pub refusal : Shape → Heap → MemoryCall → Option OsErr
refusal s heap call = first_refusal s heap (tests_of call)

-- the operands that name blocks; a running call protects them
abbrev pub protected_by : MemoryCall → List ℕ
protected_by (Requesting (SetHandleSize h n)) = h ∷ []
protected_by (Requesting (SetPtrSize p n)) = p ∷ []
protected_by (Requesting (ReallocateHandle h n)) = h ∷ []
protected_by (Filling (HandToHand h)) = h ∷ []
protected_by (Filling (PtrToHand p n)) = p ∷ []
protected_by (Filling (PtrToXHand p h n)) = p ∷ h ∷ []
protected_by (Filling (PtrAndHand p h n)) = p ∷ h ∷ []
protected_by (Filling (SetHandleTo h bytes)) = h ∷ []
protected_by (Filling (Append h bytes)) = h ∷ []
protected_by (Filling (HandAndHand a b)) = a ∷ b ∷ []
protected_by _ = []
