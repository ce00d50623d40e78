-- Loans of blocks.
use Rattle.std.specs.Prelude.{◌≡◌, ℕ, ◌+◌, length, IsTrue}
use Rattle.mac_base.specs.HandleTable.{bytes_of, is_lent}
use Rattle.mac_base.specs.ZoneMap.{contents_of}
use Rattle.mac_base.specs.ZoneState.{ZoneState}
use Rattle.raw_region.specs.State.{Loan}

-- x is lent, and this is its loan, maybe with other bytes
pub record IsLoanOf (z : ZoneState) (x : ℕ) (loan : Loan) : Type 0 where
  pub lent : IsTrue (is_lent z.heap.table x)
  pub memory : loan.name ≡ z.memory.region
  pub contents : z.shape.base + loan.at ≡ contents_of z.shape x z.heap.map
  pub long : length loan.bytes ≡ length (bytes_of z.heap.table x)

-- the zone stays in its memory, and each block that was lent is still lent, where it was: its loan can come back
abbrev pub KeepsLoans : ZoneState → ZoneState → Type 0
KeepsLoans old new = (new.memory ≡ old.memory) × ((x : ℕ) (loan : Loan) → IsLoanOf old x loan → IsLoanOf new x loan)

-- each block but that of x is still lent, where it was
abbrev pub KeepsOtherLoans : ℕ → ZoneState → ZoneState → Type 0
KeepsOtherLoans x old new = (y : ℕ) (loan : Loan) → (y ≡ x → ⊥) → IsLoanOf old y loan → IsLoanOf new y loan
