-- A sound heap stays sound over the calls that exist first.
use Rattle.std.proofs.Common.{◌≡◌, ℕ, ◌+◌, ◌≤◌, true, List, [], ◌∷◌, ◌++◌, length, take, drop, None, ap, ◌∙◌, arith, length-append, length-take, length-drop}
use Rattle.mac_base.specs.HeadKind.{Shape}
use Rattle.mac_base.specs.declared.block.Flags.{Flags}
use Rattle.mac_base.specs.HandleTable.{bytes_of, with_bytes, with_flags, is_full}
use Rattle.mac_base.specs.Heap.{Heap, with_table}
use Rattle.mac_base.specs.Sound.{Sound}
use Rattle.mac_base.specs.Tests.{Test, IsHandle, IsBlock, NotEmpty, NotLent, IsWithin, first_refusal, refusal}
use Rattle.mac_base.specs.declared.memory_call.MemoryCall.TheVariants.{OnBlock}
use Rattle.mac_base.specs.declared.memory_call.BlockCall.TheVariants.{DisposeHandle, DisposePtr, EmptyHandle, Poke, BlockMove}
use Rattle.mac_base.specs.declared.releasing.ReleasingCall.TheVariants.{DisposesHandle, DisposesPtr, Empties}
use Rattle.mac_base.specs.Releasing.{heap_released}
use Rattle.mac_base.specs.ZoneState.{written}
use Rattle.zone_laws.proofs.SoundReleased.{sound-disposed}
use Rattle.zone_laws.proofs.SoundCarried.{sound-carried}
use Rattle.zone_laws.proofs.SoundWritten.{sound-written, sound-flags}
use Rattle.zone_laws.proofs.Refusals.{first_passed, passed-DisposeHandle, passed-IsWithin, passed-NotEmpty, passed-Poke}

-- bytes written within others leave as many
pub length-written : (at : ℕ) (bytes old : List ℕ) → at + length bytes ≤ length old → length (written at bytes old) ≡ length old
length-written at bytes old h =
    let front = take at old in
    let back = drop (at + length bytes) old in
    length-append (front ++ bytes) back ∙ ap (λ n. n + length back) (length-append front bytes) ∙ omega (arith, length-take at old, length-drop (at + length bytes) old)

-- a handle is disposed of
pub sound-DisposeHandle : (s : Shape) (heap : Heap) (h : ℕ) → Sound s heap → refusal s heap (OnBlock (DisposeHandle h)) ≡ None → Sound s (heap_released (DisposesHandle h) heap)
sound-DisposeHandle s heap h sound is = let facts = passed-DisposeHandle s heap h is in sound-disposed s heap h sound facts.live

-- bytes are written within a block
pub sound-Poke : (s : Shape) (heap : Heap) (x at : ℕ) (bytes : List ℕ) → Sound s heap → refusal s heap (OnBlock (Poke x at bytes)) ≡ None
    → Sound s (with_table (with_bytes x (written at bytes (bytes_of heap.table x)) heap.table) heap)
sound-Poke s heap x at bytes sound is =
    let facts = passed-Poke s heap x at bytes is in
    sound-written s heap x (written at bytes (bytes_of heap.table x)) sound facts.block (length-written at bytes (bytes_of heap.table x) facts.within)

-- a handle that passes as live and not empty has a block
pub passed-full : (s : Shape) (heap : Heap) (h : ℕ) (tests : List Test) → first_refusal s heap (IsHandle h ∷ NotEmpty h ∷ tests) ≡ None → is_full heap.table h ≡ true
passed-full s heap h tests is = grind arith

-- flags are set: HLock, HUnlock, HPurge, HNoPurge, HSetRBit, HClrRBit, HSetState and HLockHi all begin with the tests
-- of a live handle that isn't empty
pub sound-flagged : (s : Shape) (heap : Heap) (h : ℕ) (flags : Flags) (tests : List Test) → Sound s heap → first_refusal s heap (IsHandle h ∷ NotEmpty h ∷ tests) ≡ None → Sound s (with_table (with_flags h flags heap.table) heap)
sound-flagged s heap h flags tests sound is = sound-flags s heap h flags sound (passed-full s heap h tests is)

-- a pointer is disposed of
pub sound-DisposePtr : (s : Shape) (heap : Heap) (p : ℕ) → Sound s heap → refusal s heap (OnBlock (DisposePtr p)) ≡ None → Sound s (heap_released (DisposesPtr p) heap)
sound-DisposePtr s heap p sound is = sound-carried s heap (DisposesPtr p) sound is

-- a handle becomes empty
pub sound-EmptyHandle : (s : Shape) (heap : Heap) (h : ℕ) → Sound s heap → refusal s heap (OnBlock (EmptyHandle h)) ≡ None → Sound s (heap_released (Empties h) heap)
sound-EmptyHandle s heap h sound is = sound-carried s heap (Empties h) sound is

-- bytes of one block are written within another
pub sound-BlockMove : (s : Shape) (heap : Heap) (x at y to n : ℕ) → Sound s heap → refusal s heap (OnBlock (BlockMove x at y to n)) ≡ None
    → Sound s (with_table (with_bytes y (written to (take n (drop at (bytes_of heap.table x))) (bytes_of heap.table y)) heap.table) heap)
sound-BlockMove s heap x at y to n sound is =
    let one = first_passed s heap (IsBlock x) (NotEmpty x ∷ NotLent x ∷ IsBlock y ∷ NotEmpty y ∷ NotLent y ∷ IsWithin x at n ∷ IsWithin y to n ∷ []) is in
    let two = first_passed s heap (NotEmpty x) (NotLent x ∷ IsBlock y ∷ NotEmpty y ∷ NotLent y ∷ IsWithin x at n ∷ IsWithin y to n ∷ []) one.1 in
    let three = first_passed s heap (NotLent x) (IsBlock y ∷ NotEmpty y ∷ NotLent y ∷ IsWithin x at n ∷ IsWithin y to n ∷ []) two.1 in
    let four = first_passed s heap (IsBlock y) (NotEmpty y ∷ NotLent y ∷ IsWithin x at n ∷ IsWithin y to n ∷ []) three.1 in
    let five = first_passed s heap (NotEmpty y) (NotLent y ∷ IsWithin x at n ∷ IsWithin y to n ∷ []) four.1 in
    let six = first_passed s heap (NotLent y) (IsWithin x at n ∷ IsWithin y to n ∷ []) five.1 in
    let seven = first_passed s heap (IsWithin x at n) (IsWithin y to n ∷ []) six.1 in
    let eight = first_passed s heap (IsWithin y to n) [] seven.1 in
    let from_fits = passed-IsWithin s heap x at n seven.0 in
    let to_fits = passed-IsWithin s heap y to n eight.0 in
    let bytes = take n (drop at (bytes_of heap.table x)) in
    let as_many : length bytes ≡ n = length-take n (drop at (bytes_of heap.table x)) ∙ omega (arith, length-drop at (bytes_of heap.table x)) in
    sound-written s heap y (written to bytes (bytes_of heap.table y)) sound (passed-NotEmpty s heap y five.0) (length-written to bytes (bytes_of heap.table y) (omega arith))
