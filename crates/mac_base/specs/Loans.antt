-- Blocks that are lent: who has the loan of a block has its bytes, until they come back.
use Rattle.std.specs.Prelude.{◌≡◌, ℕ, ◌≤◌, Bool, true, not, ◌&&◌, ◌||◌, ◌==◌, nat_lt, List, [], ◌∷◌, ◌++◌, length, filter, IsTrue}
use Rattle.mac_base.specs.declared.block.Kind.{Kind}
use Rattle.mac_base.specs.declared.block.Kind.TheVariants.{Free, Master, Ptr, Rel}
use Rattle.mac_base.specs.ZoneMap.{ZoneMap}
use Rattle.mac_base.specs.HandleTable.{HandleTable, is_lent, is_locked, is_pointer, with_bytes}
use Rattle.mac_base.specs.Heap.{Heap, with_table}

-- the most blocks that may be lent at a time
abbrev pub most_loans : ℕ
most_loans = 8

-- the handle or pointer whose block this is, if it is one's
abbrev pub owner_of : Kind → List ℕ
owner_of Free = []
owner_of Master = []
owner_of (Ptr p) = p ∷ []
owner_of (Rel h) = h ∷ []

-- the handles and pointers that have blocks, in the order of these
abbrev pub owners : ZoneMap → List ℕ
owners [] = []
owners (e ∷ es) = owner_of e.kind ++ owners es

-- whether the block of this kind is no lent one
abbrev pub is_here : HandleTable → Kind → Bool
is_here t Free = true
is_here t Master = true
is_here t (Ptr p) = not (is_lent t p)
is_here t (Rel h) = not (is_lent t h)

-- whether x may be lent: a pointer or a locked handle, while there is a loan left
abbrev pub may_be_lent : HandleTable → ℕ → Bool
may_be_lent t x = (is_pointer t x || is_locked t x) && nat_lt (length t.lent) most_loans

-- the table in which just these are lent
abbrev pub with_lent : List ℕ → HandleTable → HandleTable
with_lent xs t = record t { lent = xs }

-- the heap once x is lent. Those that are lent are in the order of their blocks
abbrev pub lent_out : ℕ → Heap → Heap
lent_out x heap = with_table (with_lent (filter (λ y. y == x || is_lent heap.table y) (owners heap.map)) heap.table) heap

-- the heap once x came back with these bytes
abbrev pub returned : ℕ → List ℕ → Heap → Heap
returned x bytes heap = with_table (with_lent (filter (λ y. not (y == x)) heap.table.lent) (with_bytes x bytes heap.table)) heap

-- those that are lent have blocks, are few, and are in the order of these, each once
pub record LoansFit (heap : Heap) : Type 0 where
  pub in_order : heap.table.lent ≡ filter (is_lent heap.table) (owners heap.map)
  pub few : length heap.table.lent ≤ most_loans

-- they are pointers and locked handles
abbrev pub LoansAreFixed : Heap → Type 0
LoansAreFixed heap = (x : ℕ) → IsTrue (is_lent heap.table x) → IsTrue (is_pointer heap.table x || is_locked heap.table x)
