-- A region, and a range that it lent, as contracts see them.
use Rattle.std.specs.Prelude.{ℕ, ◌-◌, ◌&&◌, List, length, slice_index, nat_lt, if◌then◌else◌, Option, Some, None}
use Rattle.mac_base.specs.ZoneState.{Name}
use Rattle.raw_region.specs.Bytes.{written}
use Rattle.raw_region.specs.Span.{Span, covers, is_here}

-- a region: its name, which its loans have too, its bytes by offset, and the ranges that are lent. At a lent offset is the byte that was there when it
-- was lent, and no call can read it
pub record State : Type 0 where
  pub name : Name
  pub bytes : List ℕ
  pub lent : List Span

-- the region with ws written from `at` on
abbrev pub with_bytes : State → ℕ → List ℕ → State
with_bytes r at ws = record { name = r.name; bytes = written r.bytes at ws; lent = r.lent }

-- a loan: bytes of the region of that name, from the region's offset `at` on
pub record Loan : Type 0 where
  pub name : Name
  pub at : ℕ
  pub bytes : List ℕ

-- the loan with ws written from its first byte on
abbrev pub with_loan : Loan → List ℕ → Loan
with_loan l ws = record { name = l.name; at = l.at; bytes = written l.bytes 0 ws }

-- the region as a finite map from offsets: the byte at k, unless k is lent or after the end
abbrev pub byte_at : State → ℕ → Option ℕ
byte_at r k = if is_here r.lent k && nat_lt k (length r.bytes) then Some (slice_index r.bytes k) else None

-- the loan as a finite map from the region's offsets
abbrev pub loan_at : Loan → ℕ → Option ℕ
loan_at l k = if covers (l.at, length l.bytes) k then Some (slice_index l.bytes (k - l.at)) else None
