-- The private fields of raw memory that clauses inside the crate name.
use Rattle.std.specs.Prelude.{ℕ}
use denote.RawPtr.{Ptr}
use Rattle.raw_region.specs.declared.memory.Room.{Room}
use Rattle.raw_region.specs.declared.cells.Cells.{Cells}

-- where the room begins
abbrev pub room_at : Room → Ptr
room_at r = r.at

-- how many bytes there is room for
abbrev pub room_len : Room → ℕ
room_len r = r.len

-- where the bytes begin
abbrev pub cells_at : Cells → Ptr
cells_at c = c.at

-- how many bytes there are
abbrev pub cells_len : Cells → ℕ
cells_len c = c.len
