-- What is remembered of lengths stays so.
use Rattle.std.proofs.Common.{◌≡◌, ℕ, ◌+◌, ◌≤◌, List, [], ◌++◌, length, take, drop, Option, Some, None, true, false, eqb, inl, inr, refl, ap, sym, ◌∙◌, subst, arith}
use Rattle.std.specs.Prelude.{◌||◌}
use Rattle.std.proofs.lemmas.List.{length-append, length-take, length-drop}
use Rattle.std.proofs.lemmas.Bool.{eqb-true}
use Rattle.mac_base.specs.declared.block.Flags.{Flags}
use Rattle.mac_base.specs.HandleTable.{HandleTable, Live, EmptyHandle, FullHandle, Pointer, bytes_of, has_block, live_at, live_bytes, live_full, live_pointer, refilled, resized, with_bytes, with_flags, with_live, without}
use Rattle.mac_base.specs.ZoneState.{ZoneState, overwritten, written}
use Rattle.zone_laws.proofs.Tables.{by_number, live_at-with_live_same, live_at-without_same, with_live_agrees, without_agrees}
use Rattle.zone_laws.proofs.SoundResized.{length-resized}
use Rattle.zone_index.specs.declared.lengths.Lengths.{Lengths}
use Rattle.linked_zone.specs.Changes.{sized}
use Rattle.linked_zone.specs.Copying.{CanCopy, copied}
use Rattle.zone_index.specs.Lengths.{AreLengths, IsNoted, TellsSame}

-- every number has as many bytes in two tables
abbrev pub SameLengths : HandleTable → HandleTable → Type 0
SameLengths t u = (y : ℕ) → length (bytes_of u y) ≡ length (bytes_of t y)

-- each but x has
abbrev pub OtherLengths : ℕ → HandleTable → HandleTable → Type 0
OtherLengths x t u = (y : ℕ) → (y ≡ x → ⊥) → length (bytes_of u y) ≡ length (bytes_of t y)

pub lengths-kept : (t u : HandleTable) (l : Lengths) → AreLengths t l → SameLengths t u → AreLengths u l
lengths-kept t u l are same x n told = same x ∙ are x n told

pub lengths-noted : (t u : HandleTable) (x n : ℕ) (old new : Lengths) → AreLengths t old → IsNoted x n old new → length (bytes_of u x) ≡ n → OtherLengths x t u → AreLengths u new
lengths-noted t u x n old new are noted here others y m told = elim (noted y m told) [
  | inl at ↦ ap (λ y. length (bytes_of u y)) at.0 ∙ here ∙ sym at.1
  | inr other ↦ others y other.0 ∙ are y m other.1
]

apart : (y x : ℕ) → (y ≡ x → ⊥) → eqb y x ≡ false
apart y x other = elim (eqb y x) as (λ b. eqb y x ≡ b → b ≡ false) [ true ↦ λ same. absurd (other (eqb-true y x same)) | false ↦ λ h. refl ] refl

-- what x is given concerns x alone
pub others-with_live : (x : ℕ) (l : Live) (t : HandleTable) → OtherLengths x t (with_live x l t)
others-with_live x l t y other = ap (λ o. length (live_bytes o)) ((with_live_agrees x l t).others y (apart y x other))

pub others-without : (x : ℕ) (t : HandleTable) → OtherLengths x t (without x t)
others-without x t y other = ap (λ o. length (live_bytes o)) ((without_agrees x t).others y (apart y x other))

-- x has what it is given
pub bytes-with_live : (x : ℕ) (l : Live) (t : HandleTable) → bytes_of (with_live x l t) x ≡ live_bytes (Some l)
bytes-with_live x l t = ap live_bytes (live_at-with_live_same x l t)

-- and nothing once it is taken out
pub bytes-without : (x : ℕ) (t : HandleTable) → bytes_of (without x t) x ≡ []
bytes-without x t = ap live_bytes (live_at-without_same x t)

-- what has a block has the bytes that it is given
pub bytes-with_bytes : (x : ℕ) (bytes : List ℕ) (t : HandleTable) → has_block t x ≡ true → bytes_of (with_bytes x bytes t) x ≡ bytes
bytes-with_bytes x bytes t has = bytes-with_live x (refilled bytes (live_at t x)) t ∙ by_case (live_at t x) has
  where
    by_case : (o : Option Live) → (live_full o || live_pointer o) ≡ true → live_bytes (Some (refilled bytes o)) ≡ bytes
    by_case None is = absurd (cc is)
    by_case (Some EmptyHandle) is = absurd (cc is)
    by_case (Some (FullHandle flags old)) is = refl
    by_case (Some (Pointer old)) is = refl

-- a number that comes to have as many bytes
module _ (x : ℕ) (l : Live) (t : HandleTable) where
  pub same-with_live : length (live_bytes (Some l)) ≡ length (bytes_of t x) → SameLengths t (with_live x l t)
  same-with_live same = by_number (λ y. length (bytes_of (with_live x l t) y) ≡ length (bytes_of t y)) x (ap (λ xs. length xs) (bytes-with_live x l t) ∙ same) (λ y other. ap (λ o. length (live_bytes o)) ((with_live_agrees x l t).others y other))

pub same-without : (x : ℕ) (t : HandleTable) → live_at t x ≡ Some EmptyHandle → SameLengths t (without x t)
same-without x t empty =
    by_number (λ y. length (bytes_of (without x t) y) ≡ length (bytes_of t y)) x (ap (λ xs. length xs) (bytes-without x t) ∙ sym (ap (λ o. length (live_bytes o)) empty))
    (λ y other. ap (λ o. length (live_bytes o)) ((without_agrees x t).others y other))

pub same-with_bytes : (x : ℕ) (bytes : List ℕ) (t : HandleTable) → length bytes ≡ length (bytes_of t x) → SameLengths t (with_bytes x bytes t)
same-with_bytes x bytes t same = same-with_live x (refilled bytes (live_at t x)) t (by_case (live_at t x) same)
  where
    by_case : (o : Option Live) → length bytes ≡ length (live_bytes o) → length (live_bytes (Some (refilled bytes o))) ≡ length (live_bytes o)
    by_case None is = refl
    by_case (Some EmptyHandle) is = refl
    by_case (Some (FullHandle flags old)) is = is
    by_case (Some (Pointer old)) is = is

pub same-with_flags : (h : ℕ) (flags : Flags) (t : HandleTable) → SameLengths t (with_flags h flags t)
same-with_flags h flags t = same-with_live h (FullHandle flags (bytes_of t h)) t refl

pub length-overwritten : (old others : List ℕ) → length (overwritten old others) ≡ length old
length-overwritten old others = let first = length-take (length old) others in let last = length-drop (length others) old in let all = length-append (take (length old) others) (drop (length others) old) in omega arith

pub length-written : (at : ℕ) (bytes old : List ℕ) → at + length bytes ≤ length old → length (written at bytes old) ≡ length old
length-written at bytes old within =
    let first = length-take at old in let last = length-drop (at + length bytes) old in
    let front = length-append (take at old) bytes in let all = length-append (take at old ++ bytes) (drop (at + length bytes) old) in omega arith

pub length-part : (start n : ℕ) (bytes : List ℕ) → start + n ≤ length bytes → length (take n (drop start bytes)) ≡ n
length-part start n bytes within = let first = length-drop start bytes in let part = length-take n (drop start bytes) in omega arith

-- bytes that are copied over others
pub same-copied : (z : ZoneState) (from start to offset n : ℕ) → CanCopy z from start to offset n → SameLengths z.heap.table (copied from start to offset n z).heap.table
same-copied z from start to offset n can =
    let t = z.heap.table in
    let part : List ℕ = take n (drop start (bytes_of t from)) in
    let long = length-part start n (bytes_of t from) can.within_source in
    let within = can.within_target in
    same-with_bytes to (written offset part (bytes_of t to)) t (length-written offset part (bytes_of t to) (omega arith))

-- the zone is what the change makes of it
pub lengths-of : {z changed : ZoneState} (l : Lengths) → z ≡ changed → AreLengths changed.heap.table l → AreLengths z.heap.table l
lengths-of l is are = subst (λ (z : ZoneState). AreLengths z.heap.table l) (sym is) are

pub lengths-still : (t : HandleTable) (old new : Lengths) → AreLengths t old → TellsSame old new → AreLengths t new
lengths-still t old new are same x n told = are x n (same x n told)

-- the number y, which is x, is noted to have n bytes
module _ (t : HandleTable) (old new : Lengths) (x y n : ℕ) (one : y ≡ x) (are : AreLengths t old) (noted : IsNoted y n old new) where
  noted-x : IsNoted x n old new
  noted-x = subst (λ y. IsNoted y n old new) one noted

  pub lengths-given : (l : Live) → length (live_bytes (Some l)) ≡ n → AreLengths (with_live x l t) new
  lengths-given l long = lengths-noted t (with_live x l t) x n old new are noted-x (ap (λ xs. length xs) (bytes-with_live x l t) ∙ long) (others-with_live x l t)

  pub lengths-out : 0 ≡ n → AreLengths (without x t) new
  lengths-out none = lengths-noted t (without x t) x n old new are noted-x (ap (λ xs. length xs) (bytes-without x t) ∙ none) (others-without x t)

  pub lengths-sized : has_block t x ≡ true → AreLengths (sized x n t) new
  lengths-sized has =
      let bytes = resized n (bytes_of t x) in
      lengths-noted t (sized x n t) x n old new are noted-x (ap (λ xs. length xs) (bytes-with_bytes x bytes t has) ∙ length-resized n (bytes_of t x)) (others-with_live x (refilled bytes (live_at t x)) t)
