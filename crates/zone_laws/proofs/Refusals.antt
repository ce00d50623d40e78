-- What a call knows that isn't refused.
use Rattle.std.proofs.Common.{◌≡◌, ◌≢◌, ℕ, ◌+◌, ◌≤◌, Bool, true, false, not, ◌||◌, nat_le, eqb, cond, List, [], ◌∷◌, length, Some, None, Option, refl, arith}
use Rattle.std.specs.Option.{option_or}
use Rattle.std.proofs.lemmas.Bool.{or_right, not-true, leb-true}
use Rattle.std.proofs.lemmas.Bool.Decides.{nat_tests}
use Rattle.mac_base.specs.declared.error.OsErr.{OsErr}
use Rattle.mac_base.specs.declared.error.OsErr.TheVariants.{ParamErr, NilHandleErr, MemWzErr, MemLockedErr}
use Rattle.mac_base.specs.HeadKind.{Shape}
use Rattle.mac_base.specs.HandleTable.{has_block, is_handle, is_pointer, is_full, is_lent, bytes_of}
use Rattle.mac_base.specs.Heap.{Heap}
use Rattle.mac_base.specs.Tests.{Test, IsHandle, IsPointer, IsBlock, NotEmpty, NotLent, IsWithin, unless_passed, refused_by, first_refusal, refusal}
use Rattle.mac_base.specs.declared.memory_call.MemoryCall.TheVariants.{OnBlock}
use Rattle.mac_base.specs.declared.memory_call.BlockCall.TheVariants.{DisposeHandle, Poke}

or_none : (a b : Option OsErr) → option_or a b ≡ None → (a ≡ None) × (b ≡ None)
or_none None b h = (refl, h)
or_none (Some code) b h = absurd (cc h)

-- a call that isn't refused passes its first test, and the others
pub first_passed : (s : Shape) (heap : Heap) (test : Test) (tests : List Test) → first_refusal s heap (test ∷ tests) ≡ None → (refused_by s heap test ≡ None) × (first_refusal s heap tests ≡ None)
first_passed s heap test tests h = or_none (refused_by s heap test) (first_refusal s heap tests) h

-- a call that isn't refused passes the first, second, .. of its tests
module _ (s : Shape) (heap : Heap) where
  pub test_1 : (a : Test) (rest : List Test) → first_refusal s heap (a ∷ rest) ≡ None → refused_by s heap a ≡ None
  test_1 a rest is = (first_passed s heap a rest is).0

  pub test_2 : (a b : Test) (rest : List Test) → first_refusal s heap (a ∷ b ∷ rest) ≡ None → refused_by s heap b ≡ None
  test_2 a b rest is = test_1 b rest (first_passed s heap a (b ∷ rest) is).1

  pub test_3 : (a b c : Test) (rest : List Test) → first_refusal s heap (a ∷ b ∷ c ∷ rest) ≡ None → refused_by s heap c ≡ None
  test_3 a b c rest is = test_2 b c rest (first_passed s heap a (b ∷ c ∷ rest) is).1

  pub test_4 : (a b c d : Test) (rest : List Test) → first_refusal s heap (a ∷ b ∷ c ∷ d ∷ rest) ≡ None → refused_by s heap d ≡ None
  test_4 a b c d rest is = test_3 b c d rest (first_passed s heap a (b ∷ c ∷ d ∷ rest) is).1

  pub test_5 : (a b c d e : Test) (rest : List Test) → first_refusal s heap (a ∷ b ∷ c ∷ d ∷ e ∷ rest) ≡ None → refused_by s heap e ≡ None
  test_5 a b c d e rest is = test_4 b c d e rest (first_passed s heap a (b ∷ c ∷ d ∷ e ∷ rest) is).1

  pub test_6 : (a b c d e f : Test) (rest : List Test) → first_refusal s heap (a ∷ b ∷ c ∷ d ∷ e ∷ f ∷ rest) ≡ None → refused_by s heap f ≡ None
  test_6 a b c d e f rest is = test_5 b c d e f rest (first_passed s heap a (b ∷ c ∷ d ∷ e ∷ f ∷ rest) is).1

pub passed : (code : OsErr) (b : Bool) → unless_passed code b ≡ None → b ≡ true
passed code true h = refl
passed code false h = absurd (cc h)

not_nil : (b : Bool) (o : Option OsErr) → cond b (Some NilHandleErr) o ≡ None → (b ≡ false) × (o ≡ None)
not_nil true o h = absurd (cc h)
not_nil false o h = (refl, h)

apart_from_nil : (x : ℕ) → eqb x 0 ≡ false → x ≢ 0
apart_from_nil x h = grind (arith, nat_tests)

-- what it means that a test passes
pub passed-IsHandle : (s : Shape) (heap : Heap) (h : ℕ) → refused_by s heap (IsHandle h) ≡ None → (h ≢ 0) × (is_handle heap.table h ≡ true)
passed-IsHandle s heap h is = let parts = not_nil (eqb h 0) (unless_passed MemWzErr (is_handle heap.table h)) is in (apart_from_nil h parts.0, passed MemWzErr (is_handle heap.table h) parts.1)

-- a pointer is live
pub passed-IsPointer : (s : Shape) (heap : Heap) (p : ℕ) → refused_by s heap (IsPointer p) ≡ None → is_pointer heap.table p ≡ true
passed-IsPointer s heap p is = passed MemWzErr (is_pointer heap.table p) is

-- so a pointer has a block
pub pointer-block : (s : Shape) (heap : Heap) (p : ℕ) → refused_by s heap (IsPointer p) ≡ None → has_block heap.table p ≡ true
pointer-block s heap p is = or_right (is_full heap.table p) (is_pointer heap.table p) (passed-IsPointer s heap p is)

-- what is passed as a block is a live handle or pointer
pub passed-IsBlock : (s : Shape) (heap : Heap) (x : ℕ) → refused_by s heap (IsBlock x) ≡ None → (x ≢ 0) × ((is_handle heap.table x || is_pointer heap.table x) ≡ true)
passed-IsBlock s heap x is = grind arith

-- what isn't empty has a block
pub passed-NotEmpty : (s : Shape) (heap : Heap) (x : ℕ) → refused_by s heap (NotEmpty x) ≡ None → (is_full heap.table x || is_pointer heap.table x) ≡ true
passed-NotEmpty s heap x is = passed NilHandleErr (is_full heap.table x || is_pointer heap.table x) is

-- nor is it lent
pub passed-NotLent : (s : Shape) (heap : Heap) (x : ℕ) → refused_by s heap (NotLent x) ≡ None → is_lent heap.table x ≡ false
passed-NotLent s heap x is = not-true (is_lent heap.table x) (passed MemLockedErr (not (is_lent heap.table x)) is)

-- bytes lie within a block
pub passed-IsWithin : (s : Shape) (heap : Heap) (x at n : ℕ) → refused_by s heap (IsWithin x at n) ≡ None → at + n ≤ length (bytes_of heap.table x)
passed-IsWithin s heap x at n is = leb-true (at + n) (length (bytes_of heap.table x)) (passed ParamErr (nat_le (at + n) (length (bytes_of heap.table x))) is)

-- a disposed handle is live, and not lent
pub record DisposesLive (heap : Heap) (h : ℕ) : Type 0 where
  pub not_nil : h ≢ 0
  pub live : is_handle heap.table h ≡ true
  pub not_lent : is_lent heap.table h ≡ false

-- what is known where DisposeHandle isn't refused
pub passed-DisposeHandle : (s : Shape) (heap : Heap) (h : ℕ) → refusal s heap (OnBlock (DisposeHandle h)) ≡ None → DisposesLive heap h
passed-DisposeHandle s heap h is =
    let first = first_passed s heap (IsHandle h) (NotLent h ∷ []) is in
    let second = first_passed s heap (NotLent h) [] first.1 in
    let handle = passed-IsHandle s heap h first.0 in
    record { not_nil = handle.0; live = handle.1; not_lent = passed-NotLent s heap h second.0 }

-- bytes are written within a block that isn't lent
pub record ReachesBlock (heap : Heap) (x at n : ℕ) : Type 0 where
  pub not_nil : x ≢ 0
  pub block : (is_full heap.table x || is_pointer heap.table x) ≡ true
  pub not_lent : is_lent heap.table x ≡ false
  pub within : at + n ≤ length (bytes_of heap.table x)

-- what is known where Poke isn't refused
pub passed-Poke : (s : Shape) (heap : Heap) (x at : ℕ) (bytes : List ℕ) → refusal s heap (OnBlock (Poke x at bytes)) ≡ None → ReachesBlock heap x at (length bytes)
passed-Poke s heap x at bytes is =
    let first = first_passed s heap (IsBlock x) (NotEmpty x ∷ NotLent x ∷ IsWithin x at (length bytes) ∷ []) is in
    let second = first_passed s heap (NotEmpty x) (NotLent x ∷ IsWithin x at (length bytes) ∷ []) first.1 in
    let third = first_passed s heap (NotLent x) (IsWithin x at (length bytes) ∷ []) second.1 in
    let fourth = first_passed s heap (IsWithin x at (length bytes)) [] third.1 in
    let any = passed-IsBlock s heap x first.0 in
    record { not_nil = any.0; block = passed-NotEmpty s heap x second.0; not_lent = passed-NotLent s heap x third.0; within = passed-IsWithin s heap x at (length bytes) fourth.0 }
