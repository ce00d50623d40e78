-- What happens to a zone, act by act.
use Rattle.std.specs.Prelude.{◌≡◌, ℕ, IsTrue, IsFalse, List, [], ◌∷◌, length, ⊤}
use Rattle.mac_base.specs.declared.block.Flags.{Flags}
use Rattle.mac_base.specs.declared.releasing.ReleasingCall.{ReleasingCall}
use Rattle.mac_base.specs.declared.releasing.ReleasingCall.TheVariants.{DisposesHandle, DisposesPtr, Empties}
use Rattle.mac_base.specs.HeadKind.{Shape}
use Rattle.mac_base.specs.HandleTable.{FullHandle, bytes_of, is_full, is_handle, is_lent, is_pointer, with_live}
use Rattle.mac_base.specs.Heap.{Heap, new_heap, with_table}
use Rattle.mac_base.specs.Releasing.{heap_released, operand_of}
use Rattle.mac_base.specs.ZoneSizes.{ZoneSizes, shape_of}
use Rattle.mac_base.specs.declared.loan_call.LoanCall.{LoanCall}
use Rattle.mac_base.specs.declared.memory_call.MemoryCall.{MemoryCall}
use Rattle.mac_base.specs.ExactStep.{IsExactStep}
use Rattle.mac_base.specs.GrowZone.{Ask}
use Rattle.mac_base.specs.LoanStep.{Loans, LoanStep}
use Rattle.mac_base.specs.Outcomes.{Outcome}

-- the zone at a moment: its heap, and the blocks that are lent with the bytes that their holders have
pub record Moment : Type 0 where
  pub heap : Heap
  pub loans : Loans

-- a new zone, of which nothing is lent
abbrev pub new_zone : ZoneSizes → Moment
new_zone z = record { heap = new_heap (shape_of z) z.size; loans = [] }

-- what may happen in a zone: a call, a call on a lent block, a resource's bytes put into a block, or such a block given
-- up again
pub data Act : Type 0 where
  Calls : MemoryCall → List Ask → Outcome → Act
  OnLoan : LoanCall → Outcome → Act
  Loads : ℕ → Flags → List ℕ → Act
  Unloads : ReleasingCall → Act

-- a resource's bytes may be put there: into a block that is as long, and not lent
abbrev pub MayLoad : Heap → ℕ → List ℕ → Type 0
MayLoad heap h bytes = IsTrue (is_full heap.table h) × (length bytes ≡ length (bytes_of heap.table h)) × IsFalse (is_lent heap.table h)

-- the heap has what is to be released
abbrev pub HasOperand : Heap → ReleasingCall → Type 0
HasOperand heap (DisposesHandle h) = IsTrue (is_handle heap.table h)
HasOperand heap (DisposesPtr p) = IsTrue (is_pointer heap.table p)
HasOperand heap (Empties h) = IsTrue (is_handle heap.table h)

-- the act takes the zone from one moment to another
abbrev pub Does : Shape → Act → Moment → Moment → Type 0
Does s (Calls call asks outcome) old new = IsExactStep s old.heap call asks outcome new.heap × (new.loans ≡ old.loans)
Does s (OnLoan call outcome) old new = LoanStep s old.loans old.heap call outcome new.loans new.heap
Does s (Loads h flags bytes) old new = MayLoad old.heap h bytes × (new.heap ≡ with_table (with_live h (FullHandle flags bytes) old.heap.table) old.heap) × (new.loans ≡ old.loans)
Does s (Unloads call) old new = HasOperand old.heap call × IsFalse (is_lent old.heap.table (operand_of call)) × (new.heap ≡ heap_released call old.heap) × (new.loans ≡ old.loans)

-- an act that was done, and the moment that it left
pub record Done : Type 0 where
  pub act : Act
  pub left : Moment

-- each of these acts was done at the moment that the one before it left
abbrev pub AreDone : Shape → Moment → List Done → Type 0
AreDone s start [] = ⊤
AreDone s start (done ∷ later) = Does s done.act start done.left × AreDone s done.left later

-- the moment after these acts
abbrev pub moment_after : Moment → List Done → Moment
moment_after start [] = start
moment_after start (done ∷ later) = moment_after done.left later
