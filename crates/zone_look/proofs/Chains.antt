-- One more block.
use Rattle.std.proofs.Common.{◌≡◌, ℕ, suc, ◌+◌, ◌∷◌, ◌++◌, List, [], length, map, take, Ok, Option, Some, None, true, false, cond, refl, sym, ap, ◌∙◌, subst, zero}
use Rattle.std.specs.Prelude.{slice_set, is_none, is_some}
use Rattle.std.proofs.lemmas.Bool.{false≢true}
use Rattle.std.proofs.lemmas.List.{length-map, map-append}
use Rattle.mac_base.specs.declared.block.Block.{Block}
use Rattle.zone_look.specs.Blocks.{AreBlocks, block_at}
use Rattle.zone_look.specs.declared.fault.Fault.{Fault}
use Rattle.zone_look.specs.Free.{free_list}
use Rattle.zone_look.specs.Look.{IsFound, IsWalk, put_in, trailer_size}
use Rattle.zone_look.specs.Look.IsFound.{all_blocks, bad_block}
use Rattle.zone_look.specs.Memory.{Memory, end_of, header_fault}

-- a block that begins where the last one ends is the next
pub blocks_more : (m : Memory) (end from at : ℕ) (bs : List Block) (b : Block) → AreBlocks m end from bs at → block_at m end at ≡ Ok b
    → AreBlocks m end from (bs ++ b ∷ []) (at + b.entry.size)
blocks_more m end from at [] b here is = (subst (λ (x : ℕ). block_at m end x ≡ Ok b) here is, ap (λ (x : ℕ). x + b.entry.size) here)
blocks_more m end from at (c ∷ bs) b chain is = (chain.0, blocks_more m end (from + c.entry.size) at bs b chain.1 is)

none_taken : {Y : Type 0} (n : ℕ) → take {A = Y} n [] ≡ []
none_taken zero = refl
none_taken (suc n) = refl

put_last : {Y : Type 0} (rows ys : List Y) (y : Y) → slice_set (put_in rows ys) (length ys) y ≡ put_in rows (ys ++ y ∷ [])
put_last [] [] y = refl
put_last [] (c ∷ ys) y = refl
put_last {Y = Y} (r ∷ rows) [] y = ap (λ front. y ∷ (front ++ rows)) (sym (none_taken {Y = Y} (length rows)))
put_last (r ∷ rows) (c ∷ ys) y = ap (λ after. c ∷ after) (put_last rows ys y)

-- a row in the place after those that are there
pub put_more : {X Y : Type 0} (f : X → Y) (rows : List Y) (xs : List X) (x : X) → slice_set (put_in rows (map f xs)) (length xs) (f x) ≡ put_in rows (map f (xs ++ x ∷ []))
put_more f rows xs x = ap (λ n. slice_set (put_in rows (map f xs)) n (f x)) (sym (length-map xs f)) ∙ put_last rows (map f xs) (f x)
    ∙ ap (put_in rows) (sym (map-append f xs (x ∷ [])))

-- where nothing is found the rows stay
pub put_none : {Y : Type 0} (rows : List Y) → put_in rows [] ≡ rows
put_none {Y = Y} rows = ap (λ front. front ++ rows) (none_taken {Y = Y} (length rows))

-- a walk that stops at a fault
pub walk_stops : (m : Memory) (end : ℕ) (blocks : List Block) (fault : Option Fault) → is_some fault ≡ true → end ≡ end_of m → header_fault m ≡ None
    → IsWalk m end fault blocks → IsFound m blocks [] fault
walk_stops m end blocks None is here headed walked = absurd (false≢true is)
walk_stops m end blocks (Some fault) is here headed walked = bad_block blocks fault headed (subst (λ (x : ℕ). IsWalk m x (Some fault) blocks) here walked)

-- one that comes to the end
pub walk_ends : (m : Memory) (end : ℕ) (blocks : List Block) (fault free_fault : Option Fault) → is_some fault ≡ false → end ≡ end_of m → header_fault m ≡ None
    → free_fault ≡ (free_list m end).fault → IsWalk m end fault blocks → IsFound m blocks (free_list m end).slots free_fault
walk_ends m end blocks (Some fault) free_fault isnt here headed free walked = absurd (false≢true (sym isnt))
walk_ends m end blocks None free_fault isnt here headed free walked =
    subst (λ (f : Option Fault). IsFound m blocks (free_list m end).slots f) (sym free)
    (subst (λ (x : ℕ). IsFound m blocks (free_list m x).slots (free_list m x).fault) (sym here)
    (all_blocks blocks headed (subst (λ (x : ℕ). IsWalk m x None blocks) here walked)))

-- the trailer where the header is right
pub trailer_told : (m : Memory) (end size : ℕ) → end ≡ end_of m → header_fault m ≡ None → size ≡ trailer_size m end
    → size ≡ cond (is_none (header_fault m)) (trailer_size m (end_of m)) 0
trailer_told m end size here headed is = is ∙ ap (trailer_size m) here ∙ ap (λ (fault : Option Fault). cond (is_none fault) (trailer_size m (end_of m)) 0) (sym headed)
