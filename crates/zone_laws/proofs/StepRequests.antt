-- What a call that is not refused knows of its request, and what it copies once that was served.
use Rattle.std.proofs.Common.{◌≡◌, ℕ, ◌+◌, ◌≤◌, true, List, [], ◌∷◌, ◌++◌, length, take, None, MatchOption, refl, ap, sym, ◌∙◌, arith, length-append, length-take}
use Rattle.std.specs.Prelude.{◌||◌, ◌==◌, ⊤}
use Rattle.std.proofs.lemmas.Bool.{or_right}
use Rattle.mac_base.specs.HeadKind.{Shape}
use Rattle.mac_base.specs.HandleTable.{bytes_of, is_full, is_handle, is_pointer, with_bytes}
use Rattle.mac_base.specs.declared.error.OsErr.TheVariants.{MemPurErr}
use Rattle.mac_base.specs.declared.request.Request.{Request}
use Rattle.mac_base.specs.declared.request.Request.TheVariants.{Resize, Replace}
use Rattle.mac_base.specs.Request.{is_among}
use Rattle.mac_base.specs.Heap.{Heap, with_table}
use Rattle.mac_base.specs.Sound.{Sound}
use Rattle.mac_base.specs.declared.memory_call.MemoryCall.{MemoryCall}
use Rattle.mac_base.specs.declared.memory_call.MemoryCall.TheVariants as memory_call
use Rattle.mac_base.specs.declared.memory_call.FillingCall.TheVariants as filling_call
use Rattle.mac_base.specs.declared.memory_call.RequestingCall.TheVariants as requesting_call
use Rattle.mac_base.specs.Tests.{IsHandle, IsPointer, NotEmpty, NotLent, NotLocked, IsSize, IsWithin, first_refusal, refusal, protected_by}
use Rattle.mac_base.specs.Effect.{request_of, table_copied}
use Rattle.zone_laws.proofs.SoundWritten.{sound-written}
use Rattle.zone_laws.proofs.Refusals.{first_passed, passed-IsHandle, passed-IsPointer, passed-IsWithin, passed-NotEmpty}
use Rattle.zone_laws.proofs.RunPermitted.{Guards, Gives, HasBytes}

-- what gets another size has a block, and what gets a new block is a handle
abbrev pub HasOperand : Heap → Request → Type 0
HasOperand heap (Resize y n) = (is_full heap.table y || is_pointer heap.table y) ≡ true
HasOperand heap (Replace h n) = is_handle heap.table h ≡ true
HasOperand heap _ = ⊤

-- the call's operands are protected and as its request needs them, and what it copies leaves a sound heap
pub record AsksSoundly (s : Shape) (heap : Heap) (call : MemoryCall) (r : Request) : Type 0 where
  pub guards : Guards (protected_by call) r
  pub operand : HasOperand heap r
  pub copied : (x : ℕ) (after : Heap) → Sound s after → Gives r x after → Sound s (with_table (table_copied call x heap.table after.table) after)

-- a number is among those that begin with it, and with it in the second place
pub first_among : (x : ℕ) (xs : List ℕ) → is_among (x ∷ xs) x ≡ true
first_among x xs = grind arith

pub second_among : (y x : ℕ) → is_among (y ∷ x ∷ []) x ≡ true
second_among y x = or_right (y == x) (is_among (x ∷ []) x) (first_among x [])

-- as many bytes are written as the new block has
copied-block : (s : Shape) (after : Heap) (x n : ℕ) (bytes : List ℕ) → Sound s after → HasBytes after x n → length bytes ≡ n → Sound s (with_table (with_bytes x bytes after.table) after)
copied-block s after x n bytes sound has long = sound-written s after x bytes sound has.0 (long ∙ sym has.1)

-- the first n of more bytes
pub length-taken : (n : ℕ) (bytes : List ℕ) → 0 + n ≤ length bytes → length (take n bytes) ≡ n
length-taken n bytes h = omega (arith, length-take n bytes)

module _ (s : Shape) (heap : Heap) where
  -- the tests of a pointer, its bytes, and a handle with a block
  record Copies (p h n : ℕ) : Type 0 where
    pub block : (is_full heap.table h || is_pointer heap.table h) ≡ true
    pub within : 0 + n ≤ length (bytes_of heap.table p)

  copies : (p h n : ℕ) → first_refusal s heap (IsPointer p ∷ NotLent p ∷ IsHandle h ∷ NotEmpty h ∷ NotLent h ∷ IsWithin p 0 n ∷ []) ≡ None → Copies p h n
  copies p h n is =
      let one = first_passed s heap (IsPointer p) (NotLent p ∷ IsHandle h ∷ NotEmpty h ∷ NotLent h ∷ IsWithin p 0 n ∷ []) is in
      let two = first_passed s heap (NotLent p) (IsHandle h ∷ NotEmpty h ∷ NotLent h ∷ IsWithin p 0 n ∷ []) one.1 in
      let three = first_passed s heap (IsHandle h) (NotEmpty h ∷ NotLent h ∷ IsWithin p 0 n ∷ []) two.1 in
      let four = first_passed s heap (NotEmpty h) (NotLent h ∷ IsWithin p 0 n ∷ []) three.1 in
      let five = first_passed s heap (NotLent h) (IsWithin p 0 n ∷ []) four.1 in
      let six = first_passed s heap (IsWithin p 0 n) [] five.1 in
      record { block = passed-NotEmpty s heap h four.0; within = passed-IsWithin s heap p 0 n six.0 }

  -- a handle whose block gets bytes from outside the zone has one
  brought_block : (h n : ℕ) → first_refusal s heap (IsHandle h ∷ NotEmpty h ∷ NotLent h ∷ IsSize n ∷ []) ≡ None → (is_full heap.table h || is_pointer heap.table h) ≡ true
  brought_block h n is =
      let one = first_passed s heap (IsHandle h) (NotEmpty h ∷ NotLent h ∷ IsSize n ∷ []) is in
      passed-NotEmpty s heap h (first_passed s heap (NotEmpty h) (NotLent h ∷ IsSize n ∷ []) one.1).0

  -- the second of two handles has a block
  second_block : (a b : ℕ) → first_refusal s heap (IsHandle a ∷ NotEmpty a ∷ NotLent a ∷ IsHandle b ∷ NotEmpty b ∷ NotLent b ∷ []) ≡ None → (is_full heap.table b || is_pointer heap.table b) ≡ true
  second_block a b is =
      let one = first_passed s heap (IsHandle a) (NotEmpty a ∷ NotLent a ∷ IsHandle b ∷ NotEmpty b ∷ NotLent b ∷ []) is in
      let two = first_passed s heap (NotEmpty a) (NotLent a ∷ IsHandle b ∷ NotEmpty b ∷ NotLent b ∷ []) one.1 in
      let three = first_passed s heap (NotLent a) (IsHandle b ∷ NotEmpty b ∷ NotLent b ∷ []) two.1 in
      let four = first_passed s heap (IsHandle b) (NotEmpty b ∷ NotLent b ∷ []) three.1 in
      let five = first_passed s heap (NotEmpty b) (NotLent b ∷ []) four.1 in
      passed-NotEmpty s heap b five.0

  -- the bytes of a pointer are as many as are asked for
  pointer_bytes : (p n : ℕ) → first_refusal s heap (IsPointer p ∷ NotLent p ∷ IsWithin p 0 n ∷ []) ≡ None → 0 + n ≤ length (bytes_of heap.table p)
  pointer_bytes p n is =
      let one = first_passed s heap (IsPointer p) (NotLent p ∷ IsWithin p 0 n ∷ []) is in
      let two = first_passed s heap (NotLent p) (IsWithin p 0 n ∷ []) one.1 in
      passed-IsWithin s heap p 0 n (first_passed s heap (IsWithin p 0 n) [] two.1).0

  -- a call that isn't refused asks so
  pub asks-soundly : (call : MemoryCall) → refusal s heap call ≡ None → MatchOption (request_of heap.table call) ⊤ (AsksSoundly s heap call)
  asks-soundly (memory_call.Requesting (requesting_call.NewHandle n)) is = record { guards = tt; operand = tt; copied = λ x after sound gives. sound }
  asks-soundly (memory_call.Requesting requesting_call.NewEmptyHandle) is = record { guards = tt; operand = tt; copied = λ x after sound gives. sound }
  asks-soundly (memory_call.Requesting (requesting_call.NewPtr n)) is = record { guards = tt; operand = tt; copied = λ x after sound gives. sound }
  asks-soundly (memory_call.Requesting requesting_call.MoreMasters) is = record { guards = tt; operand = tt; copied = λ x after sound gives. sound }
  asks-soundly (memory_call.Requesting (requesting_call.ReserveMem n)) is = record { guards = tt; operand = tt; copied = λ x after sound gives. sound }
  asks-soundly (memory_call.Requesting (requesting_call.SetHandleSize h n)) is =
      let one = first_passed s heap (IsHandle h) (NotEmpty h ∷ NotLent h ∷ IsSize n ∷ []) is in
      let two = first_passed s heap (NotEmpty h) (NotLent h ∷ IsSize n ∷ []) one.1 in
      record { guards = first_among h []; operand = passed-NotEmpty s heap h two.0; copied = λ x after sound gives. sound }
  asks-soundly (memory_call.Requesting (requesting_call.SetPtrSize p n)) is =
      let one = first_passed s heap (IsPointer p) (NotLent p ∷ IsSize n ∷ []) is in
      record { guards = first_among p []; operand = or_right (is_full heap.table p) (is_pointer heap.table p) (passed-IsPointer s heap p one.0); copied = λ x after sound gives. sound }
  asks-soundly (memory_call.Requesting (requesting_call.ReallocateHandle h n)) is =
      let one = first_passed s heap (IsHandle h) (NotLent h ∷ NotLocked MemPurErr h ∷ IsSize n ∷ []) is in
      record { guards = first_among h []; operand = (passed-IsHandle s heap h one.0).1; copied = λ x after sound gives. sound }
  asks-soundly (memory_call.Filling (filling_call.HandToHand h)) is = record { guards = tt; operand = tt; copied = λ x after sound gives. copied-block s after x (length (bytes_of heap.table h)) (bytes_of heap.table h) sound gives refl }
  asks-soundly (memory_call.Filling (filling_call.PtrToHand p n)) is =
      record { guards = tt; operand = tt; copied = λ x after sound gives. copied-block s after x n (take n (bytes_of heap.table p)) sound gives (length-taken n (bytes_of heap.table p) (pointer_bytes p n is)) }
  asks-soundly (memory_call.Filling (filling_call.PtrToXHand p h n)) is =
      let known = copies p h n is in
      record { guards = second_among p h; operand = known.block; copied = λ x after sound gives. copied-block s after h n (take n (bytes_of heap.table p)) sound gives (length-taken n (bytes_of heap.table p) known.within) }
  asks-soundly (memory_call.Filling (filling_call.PtrAndHand p h n)) is =
      let known = copies p h n is in
      record {
        guards = second_among p h;
        operand = known.block;
        copied = λ x after sound gives. copied-block s after h (length (bytes_of heap.table h) + n) (bytes_of heap.table h ++ take n (bytes_of heap.table p)) sound gives
            (length-append (bytes_of heap.table h) (take n (bytes_of heap.table p)) ∙ ap (λ k. length (bytes_of heap.table h) + k) (length-taken n (bytes_of heap.table p) known.within));
      }
  asks-soundly (memory_call.Filling (filling_call.NewHandleOf bytes)) is = record { guards = tt; operand = tt; copied = λ x after sound gives. copied-block s after x (length bytes) bytes sound gives refl }
  asks-soundly (memory_call.Filling (filling_call.SetHandleTo h bytes)) is =
      record { guards = first_among h []; operand = brought_block h (length bytes) is; copied = λ x after sound gives. copied-block s after h (length bytes) bytes sound gives refl }
  asks-soundly (memory_call.Filling (filling_call.Append h bytes)) is = record {
    guards = first_among h [];
    operand = brought_block h (length bytes) is;
    copied = λ x after sound gives. copied-block s after h (length (bytes_of heap.table h) + length bytes) (bytes_of heap.table h ++ bytes) sound gives (length-append (bytes_of heap.table h) bytes);
  }
  asks-soundly (memory_call.Filling (filling_call.HandAndHand a b)) is = record {
    guards = second_among a b;
    operand = second_block a b is;
    copied = λ x after sound gives. copied-block s after b (length (bytes_of heap.table b) + length (bytes_of heap.table a)) (bytes_of heap.table b ++ bytes_of heap.table a) sound gives (length-append (bytes_of heap.table b) (bytes_of heap.table a));
  }
  asks-soundly call is = tt
