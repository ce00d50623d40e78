-- Changes in which other blocks are in place of some, and none of them passes a test that didn't before, keep marks
-- right.
use Rattle.std.proofs.Common.{◌≡◌, ℕ, ◌+◌, ◌-◌, Bool, true, false, not, List, [], ◌∷◌, ◌++◌, refl, ap, sym, ◌∙◌, subst, append_assoc, inl, inr, arith}
use Rattle.std.specs.Prelude.{◌==◌, if◌then◌else◌}
use Rattle.std.proofs.lemmas.Bool.{and_from, and_parts, false≢true, not-true}
use Rattle.mac_base.specs.declared.block.Kind.{Kind}
use Rattle.mac_base.specs.declared.block.Kind.TheVariants.{Free, Ptr, Master, Rel}
use Rattle.mac_base.specs.Gap.{is_fixed}
use Rattle.mac_base.specs.HandleTable.{FullHandle, Pointer, no_flags, zeros, resized, bytes_of}
use Rattle.mac_base.specs.HeadKind.{head_size}
use Rattle.mac_base.specs.ZoneMap.{ZoneMap, block, free_block, total_size}
use Rattle.mac_base.specs.ZoneState.{ZoneState}
use Rattle.zone_laws.proofs.Arranging.{total_size-free_block}
use Rattle.zone_laws.proofs.Tables.{live_at-with_live_same}
use Rattle.zone_laws.proofs.Maps.{total_size-append}
use Rattle.linked_zone.specs.Changes.{carried_up, cut_in_two, enlarged, extended, fixed, held_there, joined_pair, pointed, sunk, with_master}
use Rattle.linked_zone.specs.Places.{CanCut, CanGrow, CanHold, FreeAt, FreePair, ParcelAt, ParcelUpTo}
use Rattle.zone_index.specs.Marks.{AreMarked}
use Rattle.zone_index.specs.Purging.{may_go}
use Rattle.zone_index.specs.Runs.{none_fixed}
use Rattle.zone_index.proofs.Passing.{HasPassing, none_passing, passing-split, passing-none}
use Rattle.zone_index.proofs.MarksKept.{still-marked}
use Rattle.zone_index.proofs.MarksReplaced.{passing-replaced}
use Rattle.zone_index.proofs.Rules.{Lives, Rule, fixes, goes, kinds-within, lives-same, lives-with_bytes, lives-with_live}
use Rattle.zone_index.proofs.Sizes.{all_parts}

-- a block that doesn't pass
pub alone : (p : Kind → Bool) (kind : Kind) (size k : ℕ) → p kind ≡ false → HasPassing p (block kind size ∷ []) k → ⊥
alone p kind size k none h = elim h [
  | inl here ↦ false≢true (sym none ∙ here.1)
  | inr later ↦ later.2
]

-- free bytes don't
pub free-loose : (p : Kind → Bool) → p Free ≡ false → (n k : ℕ) → HasPassing p (free_block n) k → ⊥
free-loose p none n k h = elim (n == 0) as (λ c. HasPassing p (if c then [] else block Free n ∷ []) k → ⊥) [
  | true ↦ λ h. h
  | false ↦ λ h. alone p Free n k none h
] h

-- nor does a block after others, if none does
pub last-loose : (p : Kind → Bool) (blocks : ZoneMap) (kind : Kind) (size k : ℕ) → none_passing p blocks ≡ true → p kind ≡ false → HasPassing p (blocks ++ block kind size ∷ []) k → ⊥
last-loose p blocks kind size k none unlocked h = elim (passing-split p blocks (block kind size ∷ []) k h) [
  | inl front ↦ passing-none p blocks k none front
  | inr back ↦ alone p kind size back.0 unlocked back.2
]

module _ (r : Rule) (z : ZoneState) (marks : List ℕ) (are : AreMarked r.test z marks) where
  -- the blocks of a part are others, of as many bytes, and pass only where the old ones did
  pub exchanged-marked : (new : ZoneState) → new.shape ≡ z.shape → Lives r new.heap.table z.heap.table → (before was others after : ZoneMap) → z.heap.map ≡ before ++ (was ++ after) → new.heap.map ≡ before ++ (others ++ after)
      → total_size others ≡ total_size was → ((k : ℕ) → HasPassing (r.test new.heap.table) others k → HasPassing (r.test z.heap.table) was k) → AreMarked r.test new marks
  exchanged-marked new shape lives before was others after map becomes same inside =
      let now = r.test new.heap.table in
      let old = r.test z.heap.table in
      still-marked r.test z new marks shape (λ n h.
      subst (λ m. HasPassing old m n) (sym map) (passing-replaced now old (kinds-within r new.heap.table z.heap.table lives) (r.free new.heap.table) before was others after same inside n (subst (λ m. HasPassing now m n) becomes h))) are

  -- a free block is another, which doesn't pass
  pub placed-marked : (new : ZoneState) → new.shape ≡ z.shape → Lives r new.heap.table z.heap.table → (at : ℕ) (free : FreeAt z at) (kind : Kind) → new.heap.map ≡ free.before ++ block kind free.size ∷ free.after → r.test new.heap.table kind ≡ false → AreMarked r.test new marks
  placed-marked new shape lives at free kind becomes none =
      exchanged-marked new shape lives free.before (block Free free.size ∷ []) (block kind free.size ∷ []) free.after free.map becomes refl (λ k h. absurd (alone (r.test new.heap.table) kind free.size k none h))

  pub extended-marked : AreMarked r.test (extended z) marks
  extended-marked = still-marked r.test z (extended z) marks refl (λ n h. elim (passing-split (r.test z.heap.table) z.heap.map (free_block _) n h) [
    | inl front ↦ front
    | inr back ↦ absurd (free-loose (r.test z.heap.table) (r.free z.heap.table) _ back.0 back.2)
  ]) are

  pub cut-marked : (at size : ℕ) (can : CanCut z at size) → AreMarked r.test (cut_in_two size z can.free) marks
  cut-marked at size can =
      let f = can.free in
      let p = r.test z.heap.table in
      let smaller = can.smaller in
      exchanged-marked (cut_in_two size z f) refl (lives-same r z.heap.table) f.before (block Free f.size ∷ []) (block Free size ∷ block Free (f.size - size) ∷ []) f.after f.map refl (omega arith)
      (λ k h. absurd (last-loose p (block Free size ∷ []) Free (f.size - size) k (and_from _ _ (ap not (r.free z.heap.table)) refl) (r.free z.heap.table) h))

  pub joined-marked : (at : ℕ) (pair : FreePair z at) → AreMarked r.test (joined_pair z pair) marks
  joined-marked at pair =
      exchanged-marked (joined_pair z pair) refl (lives-same r z.heap.table) pair.before (block Free pair.first ∷ block Free pair.second ∷ []) (block Free (pair.first + pair.second) ∷ []) pair.after pair.map refl (omega arith)
      (λ k h. absurd (alone (r.test z.heap.table) Free (pair.first + pair.second) k (r.free z.heap.table) h))

  -- a free block is that of a handle without flags
  pub pointed-marked : (h n at : ℕ) (free : FreeAt z at) → AreMarked r.test (pointed h n z free) marks
  pointed-marked h n at free =
      let new = pointed h n z free in
      placed-marked new refl (lives-with_live r h (FullHandle no_flags (zeros n)) z.heap.table (r.bare (zeros n))) at free (Rel h) refl
      (r.handle new.heap.table h ∙ (ap r.live (live_at-with_live_same h (FullHandle no_flags (zeros n)) z.heap.table) ∙ r.bare (zeros n)))

  -- a block is smaller, and the rest of it free
  pub held-marked : {x size n : ℕ} (can : CanHold z x size n) → AreMarked r.test (held_there z can) marks
  held-marked {x} {size} {n} can =
      let new = held_there z can in
      let lives = lives-with_bytes r x (resized n (bytes_of z.heap.table x)) z.heap.table in
      exchanged-marked new refl lives can.before (can.here ∷ []) (block (can.here).kind size ∷ free_block ((can.here).size - size)) can.after can.map (append_assoc can.before (block (can.here).kind size ∷ free_block ((can.here).size - size)) can.after)
      (let rest = total_size-free_block ((can.here).size - size) in let less = can.fits.within in omega arith)
      (λ k h. elim h [
        | inl here ↦ inl (here.0, kinds-within r new.heap.table z.heap.table lives (can.here).kind here.1)
        | inr later ↦ absurd (free-loose (r.test new.heap.table) (r.free new.heap.table) _ later.0 later.2)
      ])

  -- a block is larger, by bytes of the free one after it
  pub enlarged-marked : {x size n : ℕ} (can : CanGrow z x size n) → AreMarked r.test (enlarged z can) marks
  enlarged-marked {x} {size} {n} can =
      let new = enlarged z can in
      let lives = lives-with_bytes r x (resized n (bytes_of z.heap.table x)) z.heap.table in
      exchanged-marked new refl lives can.before (can.here ∷ block Free can.free ∷ []) (block (can.here).kind size ∷ free_block ((can.here).size + can.free - size)) can.after can.map (append_assoc can.before (block (can.here).kind size ∷ free_block ((can.here).size + can.free - size)) can.after)
      (let rest = total_size-free_block ((can.here).size + can.free - size) in let less = can.fits.within in omega arith)
      (λ k h. elim h [
        | inl here ↦ inl (here.0, kinds-within r new.heap.table z.heap.table lives (can.here).kind here.1)
        | inr later ↦ absurd (free-loose (r.test new.heap.table) (r.free new.heap.table) _ later.0 later.2)
      ])

-- a free block is a pointer's or a master block, which can't be purged
module _ (z : ZoneState) (marks : List ℕ) (are : AreMarked may_go z marks) where
  pub fixed-kept : (n at : ℕ) (free : FreeAt z at) → AreMarked may_go (fixed n z free) marks
  fixed-kept n at free =
      let p = at + head_size z.shape.heads in
      placed-marked goes z marks are (fixed n z free) refl (lives-with_live goes p (Pointer (zeros n)) z.heap.table refl) at free (Ptr p) refl refl

  pub master-kept : (at : ℕ) (free : FreeAt z at) → AreMarked may_go (with_master z free) marks
  master-kept at free = placed-marked goes z marks are (with_master z free) refl (lives-same goes z.heap.table) at free Master refl refl

-- runs of which no block is fixed
module _ (z : ZoneState) (marks : List ℕ) (are : AreMarked is_fixed z marks) where
  -- a block goes after others
  pub carried-marked : (start end : ℕ) (parcel : ParcelAt z start end) → none_fixed z.heap.table (parcel.here ∷ parcel.blocks) ≡ true → AreMarked is_fixed (carried_up z parcel) marks
  carried-marked start end parcel loose =
      let t = z.heap.table in
      let parts = and_parts (not (is_fixed t (parcel.here).kind)) (none_fixed t parcel.blocks) loose in
      exchanged-marked fixes z marks are (carried_up z parcel) refl (lives-same fixes t) parcel.before (parcel.here ∷ parcel.blocks) (parcel.blocks ++ parcel.here ∷ []) parcel.after parcel.map
      (ap (λ m. parcel.before ++ m) (sym (append_assoc parcel.blocks (parcel.here ∷ []) parcel.after)))
      (let all = total_size-append parcel.blocks (parcel.here ∷ []) in omega arith)
      (λ k h. absurd (last-loose (is_fixed t) parcel.blocks (parcel.here).kind (parcel.here).size k parts.1 (not-true _ parts.0) h))

  -- and before it
  pub sunk-marked : (start at : ℕ) (parcel : ParcelUpTo z start at) → none_fixed z.heap.table (parcel.blocks ++ parcel.here ∷ []) ≡ true → AreMarked is_fixed (sunk z parcel) marks
  sunk-marked start at parcel loose =
      let t = z.heap.table in
      let parts = all_parts _ parcel.blocks (parcel.here ∷ []) loose in
      exchanged-marked fixes z marks are (sunk z parcel) refl (lives-same fixes t) parcel.before (parcel.blocks ++ parcel.here ∷ []) (parcel.here ∷ parcel.blocks) parcel.after
      (parcel.map ∙ ap (λ m. parcel.before ++ m) (sym (append_assoc parcel.blocks (parcel.here ∷ []) parcel.after))) refl
      (let all = total_size-append parcel.blocks (parcel.here ∷ []) in omega arith)
      (λ k h. absurd (passing-none (is_fixed t) (parcel.here ∷ parcel.blocks) k (and_from _ _ (and_parts _ _ parts.1).0 parts.0) h))
