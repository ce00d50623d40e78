-- What a `&mut` slice of a block leaves in the heap.
use Rattle.std.specs.Prelude.{ℕ, List}
use Rattle.std.specs.Borrow.{Lends, Array, MutBor, Fml, u8}
use Rattle.mac_base.specs.ZoneState.{ZoneState, with_contents}
use Rattle.mem_calls.specs.contracts.manager.MemoryManager.{the_row}

-- the heap ends with what is written through the slice in the block of x
abbrev pub WritesBackContents : MutBor ZoneState → ℕ → MutBor (List ℕ) → Fml
WritesBackContents memory x slice = Lends the_row (Array u8 0) memory slice (with_contents memory.now x)
