-- What a `&mut` slice of raw bytes leaves there.
use Rattle.std.specs.Prelude.{ℕ, List, take}
use mathlib.Core.Path.{sym, ◌∙◌}
use base.Fml.{Fml}
use denote.Array.{Array}
use denote.Builtin.{u8}
use denote.Ref.{MutBor}
use denote.Follow.{follows}
use Rattle.raw_region.specs.Bytes.{written, length-written}
use Rattle.raw_region.specs.declared.cells.Cells.{Cells}
use Rattle.raw_region.specs.contracts.cells.Cells.{the_row}

-- the bytes c with ws written from `at` on
abbrev pub with_written : Cells → ℕ → List ℕ → Cells
with_written c at ws = record { at = c.at; len = c.len; home = c.home; from = c.from; bytes = written c.bytes at ws; lent = c.lent; placed = c.placed; counted = c.counted ∙ sym (length-written c.bytes at ws); loans = c.loans; small = c.small }

-- the bytes c with the first n of ws written from `at` on
abbrev pub with_part : Cells → ℕ → ℕ → List ℕ → Cells
with_part c at n ws = with_written c at (take n ws)

-- the n bytes of c from `at` on end with what is left after the slice r
abbrev pub WritesBackPart : MutBor Cells → ℕ → ℕ → MutBor (List ℕ) → Fml
WritesBackPart c at n r = follows the_row (Array u8 0) c.ghost_name r.ghost_name (with_part c.now at n)
