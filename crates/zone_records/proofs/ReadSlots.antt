-- The slots that the bytes of a master block's contents say, one read and one written.
use Rattle.std.proofs.Common.{◌≡◌, ℕ, zero, suc, ◌+◌, ◌*◌, ◌<◌, ◌≤◌, ◌^◌, List, [], ◌∷◌, ◌++◌, length, take, drop, refl, ap, ◌∙◌, arith, length-drop, drop-drop, drop_at, take_at}
use Rattle.std.specs.Prelude.{IsTrue}
use Rattle.byteorder.specs.Endian.{big_bytes, big_number}
use Rattle.raw_region.specs.Bytes.{part, written}
use Rattle.raw_region.proofs.Lists.{written_is}
use Rattle.raw_region.proofs.Numbers.{length-big_bytes, number-bytes}
use Rattle.mac_base.specs.declared.block.HeadKind.{HeadKind}
use Rattle.zone_records.specs.declared.slot.Slot.{Slot}
use Rattle.zone_records.specs.Places.{can_say}
use Rattle.zone_records.specs.Word.{slot_word, slot_in, slots_in}
use Rattle.zone_records.proofs.ReadWord.{slot_in-word, slot_word-below}

-- there are so many
pub length-slots_in : (heads : HeadKind) (n : ℕ) (bytes : List ℕ) → length (slots_in heads n bytes) ≡ n
unfolding slots_in
length-slots_in heads zero bytes = refl
length-slots_in heads (suc n) bytes = ap suc (length-slots_in heads n (drop 4 bytes))

-- the slot after some, and what it says
pub slot-read : (heads : HeadKind) (n : ℕ) (bytes : List ℕ) (before : List Slot) (here : Slot) (after : List Slot) → slots_in heads n bytes ≡ before ++ here ∷ after
    → (length before < n) × (here ≡ slot_in heads (big_number 4 (part bytes (4 * length before) 4)))
unfolding slots_in
slot-read heads zero bytes [] here after is = absurd (cc is)
slot-read heads zero bytes (s ∷ before) here after is = absurd (cc is)
slot-read heads (suc n) bytes [] here after is = (omega arith, cc is)
slot-read heads (suc n) bytes (s ∷ before) here after is =
    let rest = slot-read heads n (drop 4 bytes) before here after (cc is) in
    let few = rest.0 in (
      omega arith,
      rest.1 ∙ ap (λ xs. slot_in heads (big_number 4 (take 4 xs))) (drop-drop (4 * length before) 4 bytes ∙ ap (λ k. drop k bytes) (let e : 4 + 4 * length before ≡ 4 * suc (length before) = omega arith in e)),
    )

-- a write after the first four bytes leaves them
after_four : (bytes : List ℕ) (at : ℕ) (ws : List ℕ) → (take 4 (written bytes (suc (suc (suc (suc at)))) ws) ≡ take 4 bytes) × (drop 4 (written bytes (suc (suc (suc (suc at)))) ws) ≡ written (drop 4 bytes) at ws)
after_four [] at ws = (refl, refl)
after_four (a ∷ []) at ws = (refl, refl)
after_four (a ∷ b ∷ []) at ws = (refl, refl)
after_four (a ∷ b ∷ c ∷ []) at ws = (refl, refl)
after_four (a ∷ b ∷ c ∷ d ∷ bytes) at ws = (refl, refl)

-- the slot after some, written
word-written : (heads : HeadKind) (n : ℕ) (bytes : List ℕ) (before : List Slot) (here : Slot) (after : List Slot) (word : ℕ) → 4 * n ≤ length bytes → word < 256 ^ 4
    → slots_in heads n bytes ≡ before ++ here ∷ after → slots_in heads n (written bytes (4 * length before) (big_bytes 4 word)) ≡ before ++ slot_in heads word ∷ after
unfolding slots_in
word-written heads zero bytes [] here after word long small is = absurd (cc is)
word-written heads zero bytes (s ∷ before) here after word long small is = absurd (cc is)
word-written heads (suc n) bytes [] here after word long small is =
    let ws = big_bytes 4 word in
    let four : length ws ≡ 4 = length-big_bytes 4 word in
    let form : written bytes 0 ws ≡ ws ++ drop 4 bytes = written_is bytes 0 ws (omega arith) ∙ ap (λ k. ws ++ drop k bytes) four in
    let rest : slots_in heads n (drop 4 bytes) ≡ after = cc is in
    ap (λ xs. slot_in heads (big_number 4 (take 4 xs)) ∷ slots_in heads n (drop 4 xs)) form
    ∙ ap (λ xs. slot_in heads (big_number 4 xs) ∷ slots_in heads n (drop 4 (ws ++ drop 4 bytes))) (take_at ws (drop 4 bytes) 4 four)
    ∙ ap (λ xs. slot_in heads (big_number 4 ws) ∷ slots_in heads n xs) (drop_at ws (drop 4 bytes) 4 four)
    ∙ ap (λ k. slot_in heads k ∷ slots_in heads n (drop 4 bytes)) (number-bytes 4 word small)
    ∙ ap (λ xs. slot_in heads word ∷ xs) rest
word-written heads (suc n) bytes (s ∷ before) here after word long small is =
    let ws = big_bytes 4 word in
    let k = 4 * length before in
    let place : 4 * suc (length before) ≡ suc (suc (suc (suc k))) = omega arith in
    let parts = after_four bytes k ws in
    let first : slot_in heads (big_number 4 (take 4 bytes)) ≡ s = cc is in
    let cut = length-drop 4 bytes in
    let rest = word-written heads n (drop 4 bytes) before here after word (omega arith) small (cc is) in
    ap (λ at. slots_in heads (suc n) (written bytes at ws)) place
    ∙ ap (λ xs. slot_in heads (big_number 4 xs) ∷ slots_in heads n (drop 4 (written bytes (suc (suc (suc (suc k)))) ws))) parts.0
    ∙ ap (λ xs. slot_in heads (big_number 4 (take 4 bytes)) ∷ slots_in heads n xs) parts.1
    ∙ ap (λ x. x ∷ slots_in heads n (written (drop 4 bytes) k ws)) first
    ∙ ap (λ xs. s ∷ xs) rest

-- so where it says a slot
pub slot-written : (heads : HeadKind) (n : ℕ) (bytes : List ℕ) (before : List Slot) (here : Slot) (after : List Slot) (s : Slot) → 4 * n ≤ length bytes → IsTrue (can_say heads s)
    → slots_in heads n bytes ≡ before ++ here ∷ after → slots_in heads n (written bytes (4 * length before) (big_bytes 4 (slot_word heads s))) ≡ before ++ s ∷ after
slot-written heads n bytes before here after s long sayable is =
    word-written heads n bytes before here after (slot_word heads s) long (slot_word-below heads s sayable) is
    ∙ ap (λ x. before ++ x ∷ after) (slot_in-word heads s sayable)

-- a list of slots apart at a place
pub record SlotsAt (all : List Slot) (i : ℕ) : Type 0 where
  pub before : List Slot
  pub here : Slot
  pub after : List Slot
  pub slots : all ≡ before ++ here ∷ after
  pub place : length before ≡ i

pub slots_at : (all : List Slot) (i : ℕ) → i < length all → SlotsAt all i
slots_at [] i few = absurd (omega arith)
slots_at (s ∷ all) zero few = record { before = []; here = s; after = all; slots = refl; place = refl }
slots_at (s ∷ all) (suc i) few =
    let rest = slots_at all i (omega arith) in
    record { before = s ∷ rest.before; here = rest.here; after = rest.after; slots = ap (λ (xs : List Slot). s ∷ xs) rest.slots; place = ap suc rest.place }
