-- A call that isn't refused can make its request.
use Rattle.std.proofs.Common.{◌≡◌, ℕ, ◌≤◌, true, not, nat_le, List, [], ◌∷◌, length, Option, Some, None, Result, Ok, Err, MatchOption, refl, ap, sym, ◌∙◌, subst, arith}
use Rattle.std.specs.Prelude.{◌&&◌, ⊤}
use Rattle.std.proofs.lemmas.Bool.{and_from, leb-true}
use Rattle.std.specs.Result.{result_ok}
use Rattle.mac_base.specs.declared.error.OsErr.{OsErr}
use Rattle.mac_base.specs.declared.error.OsErr.TheVariants.{MemPurErr, ParamErr}
use Rattle.mac_base.specs.declared.memory_call.MemoryCall.{MemoryCall}
use Rattle.mac_base.specs.declared.memory_call.MemoryCall.TheVariants as memory_call
use Rattle.mac_base.specs.declared.memory_call.FillingCall.{FillingCall}
use Rattle.mac_base.specs.declared.memory_call.FillingCall.TheVariants as filling_call
use Rattle.mac_base.specs.declared.memory_call.RequestingCall.{RequestingCall}
use Rattle.mac_base.specs.declared.memory_call.RequestingCall.TheVariants as requesting_call
use Rattle.mac_base.specs.Effect.{request_of}
use Rattle.mac_base.specs.HandleTable.{bytes_of, has_block, is_handle, is_lent, is_locked}
use Rattle.mac_base.specs.HeadKind.{Shape, max_size}
use Rattle.mac_base.specs.Heap.{Heap}
use Rattle.mac_base.specs.Sound.{Sound}
use Rattle.mac_base.specs.Tests.{Test, IsHandle, IsPointer, IsSize, IsWithin, NotEmpty, NotLent, NotLocked, first_refusal, refusal, refused_by}
use Rattle.mac_base.specs.ZoneState.{ZoneState}
use Rattle.zone_laws.proofs.Lengths.{bytes-within}
use Rattle.zone_laws.proofs.Refusals.{first_passed, passed, passed-IsHandle, passed-IsWithin, passed-NotEmpty, passed-NotLent, pointer-block}
use Rattle.zone_heap.specs.Attempts.{CanAsk, lacks_slot}
use Rattle.mem_calls.specs.Asking.{IsAskedBy, guarded_by}
use Rattle.mem_calls.specs.Purges.{before_asking, before_call, before_request, before_unless}
use Rattle.mem_calls.specs.Testing.{Answers}
use Rattle.mem_calls.specs.declared.purges.Asking.{Asking}

-- one fact, and then others
record First (A B : Type 0) : Type 0 where
  first : A
  then : B

module _ (z : ZoneState) where
  abbrev s : Shape
  s = z.shape

  abbrev heap : Heap
  heap = z.heap

  -- each of these tests passes
  abbrev Passes : List Test → Type 0
  Passes [] = ⊤
  Passes (test ∷ tests) = First (refused_by s heap test ≡ None) (Passes tests)

  all-pass : (tests : List Test) → first_refusal s heap tests ≡ None → Passes tests
  all-pass [] is = tt
  all-pass (test ∷ tests) is = let both = first_passed s heap test tests is in record { first = both.0; then = all-pass tests both.1 }

  -- a size that passes is possible
  size-passed : (n : ℕ) → refused_by s heap (IsSize n) ≡ None → n ≤ max_size
  size-passed n is = leb-true n max_size (passed ParamErr (nat_le n max_size) is)

  -- what gets another size has a block, which isn't lent
  here : (x : ℕ) → has_block heap.table x ≡ true → refused_by s heap (NotLent x) ≡ None → (has_block heap.table x && not (is_lent heap.table x)) ≡ true
  here x block lent = and_from (has_block heap.table x) (not (is_lent heap.table x)) block (ap not (passed-NotLent s heap x lent))

  pub can-requesting : (call : RequestingCall) → refusal s heap (memory_call.Requesting call) ≡ None
      → MatchOption (request_of heap.table (memory_call.Requesting call)) ⊤ (CanAsk z)
  can-requesting (requesting_call.NewHandle n) is =
      let p = all-pass (IsSize n ∷ []) is in let few = size-passed n p.first in record { size = omega (arith, few); operand = refl }
  can-requesting requesting_call.NewEmptyHandle is = record { size = omega arith; operand = refl }
  can-requesting (requesting_call.NewPtr n) is =
      let p = all-pass (IsSize n ∷ []) is in let few = size-passed n p.first in record { size = omega (arith, few); operand = refl }
  can-requesting requesting_call.MoreMasters is = record { size = omega arith; operand = refl }
  can-requesting (requesting_call.ReserveMem n) is =
      let p = all-pass (IsSize n ∷ []) is in let few = size-passed n p.first in record { size = omega (arith, few); operand = refl }
  can-requesting (requesting_call.SetHandleSize h n) is =
      let p = all-pass (IsHandle h ∷ NotEmpty h ∷ NotLent h ∷ IsSize n ∷ []) is in
      let few = size-passed n p.then.then.then.first in
      record { size = omega (arith, few); operand = here h (passed-NotEmpty s heap h p.then.first) p.then.then.first }
  can-requesting (requesting_call.SetPtrSize x n) is =
      let p = all-pass (IsPointer x ∷ NotLent x ∷ IsSize n ∷ []) is in
      let few = size-passed n p.then.then.first in
      record { size = omega (arith, few); operand = here x (pointer-block s heap x p.first) p.then.first }
  can-requesting (requesting_call.ReallocateHandle h n) is =
      let p = all-pass (IsHandle h ∷ NotLent h ∷ NotLocked MemPurErr h ∷ IsSize n ∷ []) is in
      let few = size-passed n p.then.then.then.first in
      record {
        size = omega (arith, few);
        operand = and_from (is_handle heap.table h) (not (is_locked heap.table h) && not (is_lent heap.table h)) (passed-IsHandle s heap h p.first).1
            (and_from (not (is_locked heap.table h)) (not (is_lent heap.table h)) (passed MemPurErr (not (is_locked heap.table h)) p.then.then.first)
            (ap not (passed-NotLent s heap h p.then.first)));
      }

  module _ (sound : Sound s heap) (limit : s.limit ≤ 0x4000_0000) where
    pub long : (x : ℕ) → has_block heap.table x ≡ true → length (bytes_of heap.table x) ≤ 0x4000_0000
    long x block = let few = bytes-within s heap x sound block in omega (arith, few, limit)

    pub can-filling : (call : FillingCall) → refusal s heap (memory_call.Filling call) ≡ None
        → MatchOption (request_of heap.table (memory_call.Filling call)) ⊤ (CanAsk z)
    can-filling (filling_call.HandToHand h) is =
        let p = all-pass (IsHandle h ∷ NotEmpty h ∷ NotLent h ∷ []) is in
        let few = long h (passed-NotEmpty s heap h p.then.first) in
        record { size = omega (arith, few); operand = refl }
    can-filling (filling_call.PtrToHand x n) is =
        let p = all-pass (IsPointer x ∷ NotLent x ∷ IsWithin x 0 n ∷ []) is in
        let within = passed-IsWithin s heap x 0 n p.then.then.first in
        let few = long x (pointer-block s heap x p.first) in
        record { size = omega (arith, within, few); operand = refl }
    can-filling (filling_call.PtrToXHand x h n) is =
        let p = all-pass (IsPointer x ∷ NotLent x ∷ IsHandle h ∷ NotEmpty h ∷ NotLent h ∷ IsWithin x 0 n ∷ []) is in
        let full = p.then.then.then in
        let within = passed-IsWithin s heap x 0 n full.then.then.first in
        let few = long x (pointer-block s heap x p.first) in
        record { size = omega (arith, within, few); operand = here h (passed-NotEmpty s heap h full.first) full.then.first }
    can-filling (filling_call.PtrAndHand x h n) is =
        let p = all-pass (IsPointer x ∷ NotLent x ∷ IsHandle h ∷ NotEmpty h ∷ NotLent h ∷ IsWithin x 0 n ∷ []) is in
        let full = p.then.then.then in
        let within = passed-IsWithin s heap x 0 n full.then.then.first in
        let few = long x (pointer-block s heap x p.first) in
        let block = passed-NotEmpty s heap h full.first in
        let own = long h block in
        record { size = omega (arith, within, few, own); operand = here h block full.then.first }
    can-filling (filling_call.NewHandleOf bytes) is =
        let p = all-pass (IsSize (length bytes) ∷ []) is in
        let few = size-passed (length bytes) p.first in record { size = omega (arith, few); operand = refl }
    can-filling (filling_call.SetHandleTo h bytes) is =
        let p = all-pass (IsHandle h ∷ NotEmpty h ∷ NotLent h ∷ IsSize (length bytes) ∷ []) is in
        let few = size-passed (length bytes) p.then.then.then.first in
        record { size = omega (arith, few); operand = here h (passed-NotEmpty s heap h p.then.first) p.then.then.first }
    can-filling (filling_call.Append h bytes) is =
        let p = all-pass (IsHandle h ∷ NotEmpty h ∷ NotLent h ∷ IsSize (length bytes) ∷ []) is in
        let few = size-passed (length bytes) p.then.then.then.first in
        let block = passed-NotEmpty s heap h p.then.first in
        let own = long h block in
        record { size = omega (arith, few, own); operand = here h block p.then.then.first }
    can-filling (filling_call.HandAndHand a b) is =
        let p = all-pass (IsHandle a ∷ NotEmpty a ∷ NotLent a ∷ IsHandle b ∷ NotEmpty b ∷ NotLent b ∷ []) is in
        let full = p.then.then.then.then in
        let block = passed-NotEmpty s heap b full.first in
        let few = long a (passed-NotEmpty s heap a p.then.first) in
        let own = long b block in
        record { size = omega (arith, few, own); operand = here b block full.then.first }

-- tests that passed
pub passes-ok : (refusal : Option OsErr) (tested : Result (Unit {0}) OsErr) (u : Unit {0}) → Answers refusal tested → result_ok tested ≡ Some u → refusal ≡ None
passes-ok refusal (Ok v) u answers is = answers
passes-ok refusal (Err code) u answers is = absurd (cc is)

-- what a call asks for can be asked
pub can-asked : (z : ZoneState) (call : MemoryCall) (a : Asking) → MatchOption (request_of z.heap.table call) ⊤ (CanAsk z) → IsAskedBy z call a → CanAsk z a.request
can-asked z call a can asked = subst (λ o. MatchOption o ⊤ (CanAsk z)) asked.request can

-- and so far it is made before it purges
pub before-asked : (z : ZoneState) (call : MemoryCall) (a : Asking) → refusal z.shape z.heap call ≡ None → IsAskedBy z call a
    → before_request z.shape (guarded_by a.guarded) a.request z.heap (lacks_slot a.request z.heap) ≡ before_call z.shape z.heap call
before-asked z call a passes asked =
    ap (λ protected. before_request z.shape protected a.request z.heap (lacks_slot a.request z.heap)) asked.guards
    ∙ sym (ap (before_unless z.shape z.heap call) passes ∙ ap (before_asking z.shape z.heap call) asked.request)
