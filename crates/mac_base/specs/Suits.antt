-- When a zone map suits a handle table: each block has its owner, each owner its block.
use Rattle.std.specs.Prelude.{◌≡◌, ℕ, zero, suc, ◌+◌, ◌%◌, Bool, true, false, not, ◌&&◌, ◌||◌, ◌==◌, nat_le, nat_lt, if◌then◌else◌, List, [], ◌∷◌, length, flat_map, IsTrue, Contains}
use Rattle.std.specs.Ordering.{nat_cmp}
use Rattle.std.specs.List.{list_all}
use Rattle.std.specs.FinMap.{is_sorted}
use Rattle.mac_base.specs.declared.block.Entry.{Entry}
use Rattle.mac_base.specs.declared.block.Kind.{Kind}
use Rattle.mac_base.specs.declared.block.Kind.TheVariants.{Free, Master, Ptr, Rel}
use Rattle.mac_base.specs.HeadKind.{Shape, need, smallest_block, slot_count, master_length}
use Rattle.mac_base.specs.ZoneMap.{ZoneMap, is_free, is_master, addresses, contents_addresses}
use Rattle.mac_base.specs.HandleTable.{HandleTable, bytes_of, is_full, is_handle, is_pointer}

-- whether this is the block of the handle h
abbrev pub is_handle_block : ℕ → Kind → Bool
is_handle_block h (Rel g) = g == h
is_handle_block h _ = false

-- whether this is the block of the pointer p
abbrev pub is_pointer_block : ℕ → Kind → Bool
is_pointer_block p (Ptr q) = q == p
is_pointer_block p _ = false

-- whether the first block is free
abbrev pub starts_free : ZoneMap → Bool
starts_free [] = false
starts_free (e ∷ es) = is_free e.kind

-- whether no two free blocks are neighbours
abbrev pub free_apart : ZoneMap → Bool
free_apart [] = true
free_apart (e ∷ es) = not (is_free e.kind && starts_free es) && free_apart es

-- whether a size is a multiple of four and not below the smallest block
abbrev pub is_block_size : Shape → ℕ → Bool
is_block_size s n = (n % 4 == 0) && nat_le (smallest_block s.heads) n

-- whether a block of this size has room for n bytes, and less than a smallest block over
abbrev pub has_length : Shape → ℕ → ℕ → Bool
has_length s size n = nat_le (need s.heads n) size && nat_lt size (need s.heads n + smallest_block s.heads)

-- the bytes that a block's owner wants in it
abbrev pub wanted_length : HandleTable → Kind → ℕ
wanted_length t Free = 0
wanted_length t Master = master_length
wanted_length t (Ptr p) = length (bytes_of t p)
wanted_length t (Rel h) = length (bytes_of t h)

-- whether a block is free, or as long as its owner wants
abbrev pub has_owners_length : Shape → HandleTable → Entry → Bool
has_owners_length s t e = is_free e.kind || has_length s e.size (wanted_length t e.kind)

-- the addresses of n slots, the first at this address
abbrev pub slots_from : ℕ → ℕ → List ℕ
slots_from zero at = []
slots_from (suc n) at = at ∷ slots_from n (at + 4)

-- the addresses of the zone's slots, those of each master block in order
abbrev pub slots : Shape → ZoneMap → List ℕ
slots s m = flat_map (slots_from slot_count) (contents_addresses s is_master m)

-- each block has its owner, each owner its block, and each handle its slot
pub record Coherent (s : Shape) (t : HandleTable) (m : ZoneMap) : Type 0 where
  -- each handle that isn't empty has one block, and no other number has one
  pub handles : (h : ℕ) → length (addresses s (is_handle_block h) m) ≡ (if is_full t h then 1 else 0)
  -- each pointer has one block, whose contents begin at its number, and no other number has one
  pub pointers : (p : ℕ) → contents_addresses s (is_pointer_block p) m ≡ (if is_pointer t p then p ∷ [] else [])
  -- each live handle is the address of a slot
  pub in_slots : (h : ℕ) → IsTrue (is_handle t h) → Contains (slots s m) h
  -- the numbers of the table rise
  pub in_order : IsTrue (is_sorted nat_cmp t.live)

-- the zone map suits the handle table
pub record Suits (s : Shape) (t : HandleTable) (m : ZoneMap) : Type 0 where
  pub coherent : Coherent s t m
  -- free blocks are joined, and sizes are possible
  pub apart : IsTrue (free_apart m)
  pub sizes : IsTrue (list_all (λ (e : Entry). is_block_size s e.size) m)
  -- each block is as long as its owner wants
  pub lengths : IsTrue (list_all (has_owners_length s t) m)
