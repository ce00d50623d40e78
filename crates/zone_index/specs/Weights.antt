-- What blocks weigh in the sums of a zone.
use Rattle.std.specs.Prelude.{ℕ, ◌+◌, max, nat_lt, Bool, true, false, not, ◌&&◌, ◌||◌, if◌then◌else◌, List, [], ◌∷◌, map}
use Rattle.mac_base.specs.declared.block.Entry.{Entry}
use Rattle.mac_base.specs.declared.block.Kind.{Kind}
use Rattle.mac_base.specs.declared.block.Kind.TheVariants.{Free, Master, Ptr, Rel}
use Rattle.mac_base.specs.Gap.{is_fixed}
use Rattle.mac_base.specs.HandleTable.{HandleTable, is_purgeable}
use Rattle.mac_base.specs.ZoneMap.{ZoneMap, free_size}
use Rattle.zone_index.specs.declared.weight.Weight.{Weight}

-- whether a block is free, or that of a handle that may be purged
abbrev pub is_space : HandleTable → Kind → Bool
is_space t Free = true
is_space t Master = false
is_space t (Ptr p) = false
is_space t (Rel h) = is_purgeable t h

-- its bytes where it is, and 0 for any other
abbrev pub space_size : HandleTable → Entry → ℕ
space_size t e = if is_space t e.kind then e.size else 0

-- what a block weighs
abbrev pub weigh : HandleTable → Entry → Weight
weigh t e = record { bytes = e.size; free = free_size e; space = space_size t e; fixed = is_fixed t e.kind }

-- what each of these weighs
abbrev pub weights : HandleTable → ZoneMap → List Weight
weights t m = map (weigh t) m

-- all bytes
abbrev pub bytes_of : List Weight → ℕ
bytes_of [] = 0
bytes_of (w ∷ ws) = w.bytes + bytes_of ws

-- those that are free or may be purged
abbrev pub space_of : List Weight → ℕ
space_of [] = 0
space_of (w ∷ ws) = w.space + space_of ws

-- the most of a sort of bytes that one gap has, where r lie before the first block: a fixed block ends a gap
abbrev pub most : (Weight → ℕ) → ℕ → List Weight → ℕ
most sort r [] = r
most sort r (w ∷ ws) = if w.fixed then max r (most sort 0 ws) else most sort (r + sort w) ws

-- whether right after a free block there is none or a fixed one, where the first is after a free one, or not:
-- then no block can be moved down
abbrev pub in_order : Bool → List Weight → Bool
in_order free [] = true
in_order free (w ∷ ws) = (not free || w.fixed) && in_order (nat_lt 0 w.free) ws
