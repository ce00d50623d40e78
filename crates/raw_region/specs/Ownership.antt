-- What raw bytes own, and what a `&` to them holds. A function says which of the bytes are here: nothing is owned at
-- the others. A place is a block b and an offset o in it.
use Rattle.std.specs.Prelude.{ℕ, suc, ◌+◌, ◌-◌, Bool, true, false, List, [], ◌∷◌, replicate}
use mir.Syntax.{Ty, w8, ty_int, ty_array}
use base.Fraction.{full_share}
use base.Fml.{Lft, Fml, ffalse, ftrue, fsep, froom}
use denote.Builtin.{u8}
use denote.Memory.{part_at, shared_of}
use denote.RawPtr.{Ptr, block_ptr, null_ptr}
use denote.Sharing.{nothing, said, beside}

-- the byte x at (b, o), if it is here
abbrev pub cell : Bool → ℕ → ℕ → ℕ → Fml
cell true x b o = part_at u8 full_share x b o
cell false x b o = ftrue

-- the bytes xs from (b, o) on, of which the first is byte number k
abbrev pub cells : (ℕ → Bool) → ℕ → List ℕ → ℕ → ℕ → Fml
cells f k [] b o = ftrue
cells f k (x ∷ xs) b o = fsep (cell (f k) x b o) (cells f (suc k) xs b (o + 1))

-- the bytes xs from a pointer on, of which the first is byte number 0
abbrev pub owned : Ptr → (ℕ → Bool) → List ℕ → Fml
owned (block_ptr b o) f xs = cells f 0 xs b o
owned null_ptr f xs = ffalse

-- a `&` to the byte x at (b, o), if it is here
abbrev pub cell_lent : Bool → ℕ → ℕ → ℕ → Lft → Fml
cell_lent true x b o = shared_of u8 x b o
cell_lent false x b o = nothing

-- a `&` to each of the bytes xs that is here, from (b, o) on
abbrev pub cells_lent : (ℕ → Bool) → ℕ → List ℕ → ℕ → ℕ → Lft → Fml
cells_lent f k [] b o = nothing
cells_lent f k (x ∷ xs) b o = beside (cell_lent (f k) x b o) (cells_lent f (suc k) xs b (o + 1))

-- the same from a pointer on
abbrev pub shown : Ptr → (ℕ → Bool) → List ℕ → Lft → Fml
shown (block_ptr b o) f xs = cells_lent f 0 xs b o
shown null_ptr f xs = said ffalse

-- the type of n bytes, as an allocator sees them
abbrev pub bytes_type : ℕ → Ty
bytes_type n = ty_array (ty_int w8) n

-- n bytes from p on, of which the first k are zero and the others are not written
abbrev pub zeroed : Ptr → ℕ → ℕ → Fml
zeroed (block_ptr b o) n k = fsep (cells (λ _. true) 0 (replicate k 0) b o) (froom (bytes_type (n - k)) b (k + o))
zeroed null_ptr n k = ffalse
