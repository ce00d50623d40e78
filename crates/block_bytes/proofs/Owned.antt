-- Which bytes are the zone's own, in lists of blocks.
use Rattle.std.proofs.Common.{◌≡◌, ℕ, ◌+◌, ◌≤◌, ◌<◌, ◌⊎◌, inl, inr, Bool, true, false, List, [], ◌∷◌, ◌++◌, length, refl, subst, arith, ⊎_elim}
use Rattle.std.specs.Prelude.{if◌then◌else◌}
use Rattle.mac_base.specs.declared.block.HeadKind.{HeadKind}
use Rattle.mac_base.specs.HeadKind.{head_size}
use Rattle.block_bytes.specs.Layout.{RawBlock, header_of, size_of, total_of}
use Rattle.block_bytes.specs.Record.{IsOwn, own_most, own_size}
use Rattle.block_bytes.specs.Structure.{is_master}

-- a byte is neither before so many bytes from a place on nor among them
abbrev pub IsOff : ℕ → ℕ → ℕ → Type 0
IsOff at n i = (i < at) ⊎ (at + n ≤ i)

module _ (heads : HeadKind) where
  -- a block has its own bytes
  pub own-within : (b : RawBlock) → own_size heads b ≤ size_of heads b
  own-within b = either (is_master b.role) (length b.contents) (length b.slack)
    where
      either : (master : Bool) (n m : ℕ) → head_size heads + (if master then n else 0) ≤ head_size heads + (n + m)
      either true n m = omega arith
      either false n m = omega arith

  -- own bytes are among those of the blocks
  pub own-low : (at : ℕ) (bs : List RawBlock) (i : ℕ) → IsOwn heads at bs i → at ≤ i
  own-low at [] i own = absurd own
  own-low at (b ∷ bs) i (inl here) = here.0
  own-low at (b ∷ bs) i (inr there) = let low = own-low (at + size_of heads b) bs i there in omega arith

  pub own-high : (at : ℕ) (bs : List RawBlock) (i : ℕ) → IsOwn heads at bs i → i < at + total_of heads bs
  own-high at [] i own = absurd own
  own-high at (b ∷ bs) i (inl here) = let within = own-within b in let high = here.1 in let e : total_of heads (b ∷ bs) ≡ size_of heads b + total_of heads bs = refl in omega arith
  own-high at (b ∷ bs) i (inr there) = let high = own-high (at + size_of heads b) bs i there in let e : total_of heads (b ∷ bs) ≡ size_of heads b + total_of heads bs = refl in omega arith

  -- those of two lists of blocks
  pub own-first : (at : ℕ) (xs ys : List RawBlock) (i : ℕ) → IsOwn heads at xs i → IsOwn heads at (xs ++ ys) i
  own-first at [] ys i own = absurd own
  own-first at (b ∷ xs) ys i (inl here) = inl here
  own-first at (b ∷ xs) ys i (inr there) = inr (own-first (at + size_of heads b) xs ys i there)

  moved : (at to : ℕ) (bs : List RawBlock) (i : ℕ) → at ≡ to → IsOwn heads at bs i → IsOwn heads to bs i
  moved at to bs i is own = subst (λ (n : ℕ). IsOwn heads n bs i) is own

  pub own-rest : (at to : ℕ) (xs ys : List RawBlock) (i : ℕ) → to ≡ at + total_of heads xs → IsOwn heads to ys i → IsOwn heads at (xs ++ ys) i
  own-rest at to [] ys i is own = moved to at ys i (let e : to ≡ at + 0 = is in omega arith) own
  own-rest at to (b ∷ xs) ys i is own = inr (own-rest (at + size_of heads b) to xs ys i (let e : to ≡ at + (size_of heads b + total_of heads xs) = is in omega arith) own)

  pub own-split : (at to : ℕ) (xs ys : List RawBlock) (i : ℕ) → to ≡ at + total_of heads xs → IsOwn heads at (xs ++ ys) i → IsOwn heads at xs i ⊎ IsOwn heads to ys i
  own-split at to [] ys i is own = inr (moved at to ys i (let e : to ≡ at + 0 = is in omega arith) own)
  own-split at to (b ∷ xs) ys i is (inl here) = inl (inl here)
  own-split at to (b ∷ xs) ys i is (inr there) =
      ⊎_elim (λ (h : IsOwn heads (at + size_of heads b) xs i). inl (inr h)) (λ (h : IsOwn heads to ys i). inr h)
      (own-split (at + size_of heads b) to xs ys i (let e : to ≡ at + (size_of heads b + total_of heads xs) = is in omega arith) there)

  -- blocks stand for others that take as many bytes: an own byte is one of theirs, or was an own byte and isn't among
  -- theirs
  pub own-replaced : (at to : ℕ) (before old new after : List RawBlock) (i : ℕ) → to ≡ at + total_of heads before → total_of heads new ≡ total_of heads old
      → IsOwn heads at (before ++ (new ++ after)) i
      → IsOwn heads to new i ⊎ (IsOwn heads at (before ++ (old ++ after)) i × IsOff to (total_of heads old) i)
  own-replaced at to before old new after i is same own = elim (own-split at to before (new ++ after) i is own) [
    | inl first ↦ inr (own-first at before (old ++ after) i first, inl (let high = own-high at before i first in omega arith))
    | inr rest ↦ elim (own-split to (to + total_of heads new) new after i refl rest) [
      | inl among ↦ inl among
      | inr last ↦ inr (
        own-rest at to before (old ++ after) i is (own-rest to (to + total_of heads new) old after i (omega arith) last),
        inr (let low = own-low (to + total_of heads new) after i last in omega arith),
      )
    ]
  ]

  -- that of one block
  pub own-one : (at : ℕ) (b : RawBlock) (i : ℕ) → IsOwn heads at (b ∷ []) i → (at ≤ i) × (i < at + own_size heads b)
  own-one at b i (inl here) = here
  own-one at b i (inr there) = absurd there

  -- there are no more than its header says
  pub own-most : (b : RawBlock) → own_size heads b ≤ own_most heads (header_of heads b)
  own-most b = either (is_master b.role) (length b.contents) (length b.slack)
    where
      either : (master : Bool) (n m : ℕ) → head_size heads + (if master then n else 0) ≤ (if master then head_size heads + (n + m) else head_size heads)
      either true n m = omega arith
      either false n m = omega arith

  -- nor more than it has bytes
  pub own-many : (b : RawBlock) → own_most heads (header_of heads b) ≤ size_of heads b
  own-many b = either (is_master b.role) (length b.contents) (length b.slack)
    where
      either : (master : Bool) (n m : ℕ) → (if master then head_size heads + (n + m) else head_size heads) ≤ head_size heads + (n + m)
      either true n m = omega arith
      either false n m = omega arith

  -- a block with contents and bytes over of the same lengths, for the same, stands for another: the own bytes are the
  -- same
  pub own-alike : (at : ℕ) (before : List RawBlock) (old new : RawBlock) (after : List RawBlock) → new.role ≡ old.role → length new.contents ≡ length old.contents → length new.slack ≡ length old.slack
      → (i : ℕ) → IsOwn heads at (before ++ new ∷ after) i → IsOwn heads at (before ++ old ∷ after) i
  own-alike at [] old new after role contents slack i (inl here) =
      inl (here.0, subst (λ (n : ℕ). i < at + n) (λ j. head_size heads + (if is_master (role j) then contents j else 0)) here.1)
  own-alike at [] old new after role contents slack i (inr there) = inr (moved (at + size_of heads new) (at + size_of heads old) after i (λ j. at + (head_size heads + (contents j + slack j))) there)
  own-alike at (b ∷ before) old new after role contents slack i (inl here) = inl here
  own-alike at (b ∷ before) old new after role contents slack i (inr there) = inr (own-alike (at + size_of heads b) before old new after role contents slack i there)

  -- where an own byte is after a block's header, the block is a master block
  pub own-contents : (at : ℕ) (before : List RawBlock) (here : RawBlock) (after : List RawBlock) (i : ℕ) → IsOwn heads at (before ++ here ∷ after) i
      → at + total_of heads before + head_size heads ≤ i → i < at + total_of heads before + size_of heads here → is_master here.role ≡ true
  own-contents at before here after i own low high = elim (own-split at (at + total_of heads before) before (here ∷ after) i refl own) [
    | inl first ↦ absurd (let below = own-high at before i first in omega arith)
    | inr rest ↦ by_rest rest
  ]
    where
      by_kind : (master : Bool) → i < at + total_of heads before + (head_size heads + (if master then length here.contents else 0)) → master ≡ true
      by_kind true below = refl
      by_kind false below = absurd (omega arith)

      by_rest : IsOwn heads (at + total_of heads before) (here ∷ after) i → is_master here.role ≡ true
      by_rest (inl one) = by_kind (is_master here.role) one.1
      by_rest (inr others) = absurd (let above = own-low (at + total_of heads before + size_of heads here) after i others in omega arith)
