-- What a `&mut` slice of a region, or of a loan, leaves there.
use Rattle.std.specs.Prelude.{ℕ, List, take}
use Rattle.std.specs.Borrow.{Lends, Array, MutBor, Fml, u8}
use Rattle.raw_region.specs.State.{State, with_bytes, Loan, with_loan}
use Rattle.raw_region.specs.contracts.region.Region.{the_row as region}
use Rattle.raw_region.specs.contracts.loan.Lent.{the_row as loan}

-- the n bytes of the region r from `at` on end with what is left after the slice s
abbrev pub WritesBackBytes : MutBor State → ℕ → ℕ → MutBor (List ℕ) → Fml
WritesBackBytes r at n s = Lends region (Array u8 0) r s (λ ws. with_bytes r.now at (take n ws))

-- the loan l ends with what is left after the slice s
abbrev pub WritesBackLoan : MutBor Loan → MutBor (List ℕ) → Fml
WritesBackLoan l s = Lends loan (Array u8 0) l s (with_loan l.now)
