-- What is promised from any moment of a run to any later one, in the words of who uses handles and pointers.
use Rattle.std.specs.Prelude.{◌≡◌, ◌⊎◌, ℕ, ◌==◌, if◌then◌else◌, IsTrue, IsFalse, List, [], ◌∷◌, ◌++◌, take, drop, Contains, Some, None, Ok, Err, ⊤}
use Rattle.mac_base.specs.declared.error.OsErr.TheVariants.{MemFullErr}
use Rattle.mac_base.specs.HeadKind.{Shape}
use Rattle.mac_base.specs.HandleTable.{bytes_of, has_block, is_handle, is_lent, is_locked, is_pointer}
use Rattle.mac_base.specs.Heap.{Heap}
use Rattle.mac_base.specs.Releasing.{operand_of}
use Rattle.mac_base.specs.ZoneMap.{contents_of}
use Rattle.mac_base.specs.ZoneSizes.{ArePossible, ZoneSizes, shape_of}
use Rattle.mac_base.specs.ZoneState.{written}
use Rattle.mac_base.specs.declared.loan_call.LoanCall.TheVariants as loan_call
use Rattle.mac_base.specs.declared.memory_call.MemoryCall.{MemoryCall}
use Rattle.mac_base.specs.declared.memory_call.MemoryCall.TheVariants.{OnBlock}
use Rattle.mac_base.specs.declared.memory_call.BlockCall.TheVariants.{Deref}
use Rattle.mac_base.specs.declared.reply.Results.TheVariants.{Address, Bytes, Nothing}
use Rattle.mac_base.specs.LoanStep.{held_bytes}
use Rattle.mac_base.specs.Outcomes.{Outcome}
use Rattle.mac_base.specs.Released.{disposed_by, disposed_of}
use Rattle.zone_laws.specs.Act.{Act, Calls, Done, AreDone, Loads, Moment, OnLoan, Unloads, moment_after, new_zone}
use Rattle.zone_laws.specs.Course.{MayBeFull, MayLose}
use Rattle.zone_laws.specs.LastPut.{LastPut, Tells, put_in}
use Rattle.zone_laws.specs.LastSet.{HasFlags, LastSet, TellsFlags, set_in}

-- the bytes of x: its holder has them while it is lent
abbrev pub bytes_shown : Moment → ℕ → List ℕ
bytes_shown at x = if is_lent at.heap.table x then held_bytes x at.loans else bytes_of at.heap.table x

-- every handle that isn't empty and every pointer shows the bytes last put there
abbrev pub Shows : Moment → LastPut → Type 0
Shows at put = (x : ℕ) → IsTrue (has_block at.heap.table x) → bytes_shown at x ≡ put x

-- Deref gives the address of the contents
abbrev pub TellsAddress : Shape → Heap → MemoryCall → Outcome → Type 0
TellsAddress s heap (OnBlock (Deref h)) (Ok r) = r ≡ Address (contents_of s h heap.map)
TellsAddress s heap _ _ = ⊤

-- the reply of an act that is done at this moment gives the bytes last put, the flags last set, and where contents are
abbrev pub ActTells : Shape → Moment → Act → LastPut → LastSet → Type 0
ActTells s at (Calls call asks outcome) put set = Tells call outcome put × TellsFlags call outcome set × TellsAddress s at.heap call outcome
ActTells s at (OnLoan (loan_call.LentPeek x from n) (Ok r)) put set = r ≡ Bytes (take n (drop from (put x)))
ActTells s at _ put set = ⊤

-- the act may release or purge the block of x
abbrev pub ActMayLose : Shape → Heap → Act → ℕ → Type 0
ActMayLose s heap (Calls call asks outcome) x = MayLose s heap call asks outcome x
ActMayLose s heap (OnLoan call outcome) x = ⊥
ActMayLose s heap (Loads h flags bytes) x = ⊥
ActMayLose s heap (Unloads call) x = operand_of call ≡ x

-- the act may dispose of the handle h
abbrev pub ActMayDispose : Act → ℕ → Type 0
ActMayDispose (Calls call asks outcome) h = Contains (disposed_of call asks outcome) h
ActMayDispose (Unloads call) h = disposed_by (call, None) ≡ Some h
ActMayDispose _ h = ⊥

-- one of these acts, at its moment, is such
abbrev pub ByOne : (Moment → Act → Type 0) → Moment → List Done → Type 0
ByOne Said from [] = ⊥
ByOne Said from (done ∷ later) = Said from done.act ⊎ ByOne Said done.left later

-- if the act gives memFullErr, there was no room
abbrev pub FullWhereItMay : Shape → Heap → Act → Heap → Type 0
FullWhereItMay s old (Calls call asks outcome) new = (outcome ≡ Err MemFullErr) → MayBeFull s old call asks new
FullWhereItMay s old _ new = ⊤

-- the next of these acts, where there is one
abbrev pub OfNext : List Done → (Done → Type 0) → Type 0
OfNext [] P = ⊤
OfNext (done ∷ later) P = P done

-- h is a locked handle at each of these moments
abbrev pub IsLockedThroughout : ℕ → Moment → List Done → Type 0
IsLockedThroughout h from [] = IsTrue (is_locked from.heap.table h)
IsLockedThroughout h from (done ∷ later) = IsTrue (is_locked from.heap.table h) × IsLockedThroughout h done.left later

-- none of these acts returns the block of x
abbrev pub NotReturned : ℕ → List Done → Type 0
NotReturned x [] = ⊤
NotReturned x (done ∷ later) = (done.act ≡ OnLoan (loan_call.Return x) (Ok Nothing) → ⊥) × NotReturned x later

-- what an act of the holder of x makes of its bytes
abbrev pub written_by_holder : ℕ → Act → List ℕ → List ℕ
written_by_holder x (OnLoan (loan_call.LentPoke y at new) (Ok r)) bytes = if y == x then written at new bytes else bytes
written_by_holder x _ bytes = bytes

-- what its holder makes of its bytes in these acts
abbrev pub left_by_holder : ℕ → List Done → List ℕ → List ℕ
left_by_holder x [] bytes = bytes
left_by_holder x (done ∷ later) bytes = left_by_holder x later (written_by_holder x done.act bytes)

-- the contents of x are where they were
abbrev pub KeepsAddress : Shape → ℕ → Moment → Moment → Type 0
KeepsAddress s x from to = contents_of s x to.heap.map ≡ contents_of s x from.heap.map

-- what is promised from a moment on over these acts, where these bytes and flags were last put and set before
pub record Promised (s : Shape) (from : Moment) (acts : List Done) (put : LastPut) (set : LastSet) : Type 0 where
  -- Every handle and pointer shows the bytes last put there, and every handle has the flags last set.
  pub bytes : Shows (moment_after from acts) (put_in acts put)
  pub flags : HasFlags (moment_after from acts).heap.table (set_in acts set)
  -- So do the replies of Peek, LentPeek, GetHandleSize, GetPtrSize and HGetState; and Deref gives the address.
  pub replies : OfNext acts (λ done. ActTells s from done.act put set)
  -- A handle that stays locked keeps the address of its contents, and a pointer is that address as long as it lives.
  pub locked : (h : ℕ) → IsLockedThroughout h from acts → KeepsAddress s h from (moment_after from acts)
  pub pointers : (p : ℕ) → IsTrue (is_pointer (moment_after from acts).heap.table p) → contents_of s p (moment_after from acts).heap.map ≡ p
  -- Only unlocked purgeable handles become empty unasked, and only at MaxMem or for room that isn't there.
  pub emptied : (x : ℕ) → IsTrue (has_block from.heap.table x) → IsFalse (has_block (moment_after from acts).heap.table x)
      → ByOne (λ at act. ActMayLose s at.heap act x) from acts
  -- A handle stays one, also when empty, until a call, an answer or the Resource Manager disposes of it.
  pub handles : (h : ℕ) → IsTrue (is_handle from.heap.table h) → IsFalse (is_handle (moment_after from acts).heap.table h) → ByOne (λ at act. ActMayDispose act h) from acts
  -- memFullErr comes only where no usable gap has room; from PurgeMem, where no free block is that large.
  pub full : OfNext acts (λ done. FullWhereItMay s from.heap done.act done.left.heap)
  -- From Lend on, until it is returned, a block is lent and keeps its address,
  pub lent : (x : ℕ) (lend : Done) (between : List Done) → acts ≡ lend ∷ between → lend.act ≡ OnLoan (loan_call.Lend x) (Ok Nothing) → NotReturned x between
      → IsTrue (is_lent (moment_after from acts).heap.table x) × KeepsAddress s x from (moment_after from acts)
  -- and it comes back there with what its holder wrote.
  pub returned : (x : ℕ) (lend back : Done) (between : List Done) → acts ≡ lend ∷ between ++ back ∷ [] → lend.act ≡ OnLoan (loan_call.Lend x) (Ok Nothing)
      → NotReturned x between → back.act ≡ OnLoan (loan_call.Return x) (Ok Nothing)
      → KeepsAddress s x from (moment_after from acts) × (bytes_of (moment_after from acts).heap.table x ≡ left_by_holder x between (bytes_of from.heap.table x))

-- The promise, over every run from a new zone on.
abbrev pub AllPromised : Type 0
AllPromised = (z : ZoneSizes) (first acts : List Done) (put : LastPut) (set : LastSet) → ArePossible z → AreDone (shape_of z) (new_zone z) (first ++ acts)
    → Promised (shape_of z) (moment_after (new_zone z) first) acts (put_in first put) (set_in first set)
