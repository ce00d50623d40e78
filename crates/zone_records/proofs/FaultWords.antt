-- Single bytes of master pointers.
use Rattle.std.proofs.Common.{◌≡◌, ℕ, zero, suc, ◌+◌, ◌-◌, ◌*◌, ◌/◌, ◌%◌, ◌<◌, ◌≤◌, Bool, true, false, eqb, cond, List, [], ◌∷◌, drop, refl, ap, sym, ◌∙◌, subst, arith}
use Rattle.std.specs.Prelude.{slice_index}
use Rattle.byteorder.specs.Endian.{big_bytes, big_number}
use Rattle.mac_base.specs.declared.block.HeadKind.{HeadKind}
use Rattle.mac_base.specs.declared.block.HeadKind.TheVariants.{Bits24, Bits32}
use Rattle.mac_base.specs.FlagState.{flags_from, state_of}
use Rattle.raw_region.specs.Bytes.{part}
use Rattle.raw_region.proofs.Indexes.{index-part}
use Rattle.raw_region.proofs.Numbers.{number-bytes}
use Rattle.zone_records.specs.declared.slot.Slot.{Slot}
use Rattle.zone_records.specs.declared.slot.Slot.TheVariants.{Free, Empty, Full}
use Rattle.zone_records.specs.Faults.{topped}
use Rattle.zone_records.specs.Masters.{WordAgrees, SlotAgrees, shown_by, slot_of, word_at}
use Rattle.zone_records.specs.Structure.{shown_slot}
use Rattle.zone_records.specs.Word.{slot_word, slot_in, slots_in, words_of}
use Rattle.zone_records.proofs.Comparing.{word-below, words-part}
use Rattle.zone_records.proofs.ReadWord.{state-range}

-- a number of four bytes has 32 bits
number-below : (n : ℕ) → big_number 4 (big_bytes 4 n) < 0x1_0000_0000
number-below n = omega arith

-- a word among the words of slots has 32 bits, and is that of what it says
pub own-small : (heads : HeadKind) (n : ℕ) (contents : List ℕ) → contents ≡ words_of heads (slots_in heads n contents) → (k : ℕ) → k < n → word_at contents (4 * k) < 0x1_0000_0000
own-small heads n contents is k few = subst (λ m. m < 0x1_0000_0000) (sym (ap (big_number 4) (words-part heads n contents is k few))) (number-below (slot_word heads (slot_of heads contents k)))

pub own-right : (heads : HeadKind) (n : ℕ) (contents : List ℕ) → contents ≡ words_of heads (slots_in heads n contents) → (k : ℕ) → k < n → slot_word heads (slot_of heads contents k) ≡ word_at contents (4 * k)
own-right heads n contents is k few =
    sym (ap (big_number 4) (words-part heads n contents is k few) ∙ number-bytes 4 (slot_word heads (slot_of heads contents k)) (word-below heads (word_at contents (4 * k)) (own-small heads n contents is k few)))

-- the low three bytes of a word don't depend on flags
low-shown : (heads : HeadKind) (xs : List ℕ) (at : ℕ) (s : Slot) → slot_word heads (shown_slot heads xs at s) % 0x100_0000 ≡ slot_word heads s % 0x100_0000
low-shown heads xs at (Free next) = refl
low-shown heads xs at Empty = refl
low-shown Bits24 xs at (Full flags contents) = let a = state_of (flags_from (slice_index xs at)) in let b = state_of flags in same_low a b contents
  where
    same_low : (a b c : ℕ) → (0x100_0000 * a + c) % 0x100_0000 ≡ (0x100_0000 * b + c) % 0x100_0000
    same_low a b c = omega arith
low-shown Bits32 xs at (Full flags contents) = refl

-- with other flags a word has 32 bits too
small-shown : (heads : HeadKind) (xs : List ℕ) (at w : ℕ) → w < 0x1_0000_0000 → slot_word heads (slot_in heads w) ≡ w → slot_word heads (shown_slot heads xs at (slot_in heads w)) < 0x1_0000_0000
small-shown Bits24 xs at w small right = by_tests (eqb w 0) (eqb (w / 0x100_0000 % 2) 1)
  where
    said : Bool → Bool → Slot
    said none free = cond none Empty (cond free (Free (w % 0x100_0000)) (Full (flags_from (w / 0x100_0000)) (w % 0x100_0000)))

    by_tests : (none free : Bool) → slot_word Bits24 (shown_slot Bits24 xs at (said none free)) < 0x1_0000_0000
    by_tests true free = omega arith
    by_tests false true = omega arith
    by_tests false false = let high = (state-range (flags_from (slice_index xs at))).1 in omega arith
small-shown Bits32 xs at w small right = subst (λ n. n < 0x1_0000_0000) (sym (as_said (slot_in Bits32 w) ∙ right)) small
  where
    as_said : (s : Slot) → slot_word Bits32 (shown_slot Bits32 xs at s) ≡ slot_word Bits32 s
    as_said (Free next) = refl
    as_said Empty = refl
    as_said (Full flags contents) = refl

-- what a slot says with the flags of bytes, by a word with their high byte
shown-topped : (heads : HeadKind) (xs : List ℕ) (at n : ℕ) (s : Slot) → n / 0x100_0000 ≡ slice_index xs at → shown_slot heads xs at s ≡ shown_by heads n s
shown-topped heads xs at n (Free next) is = refl
shown-topped heads xs at n Empty is = refl
shown-topped Bits24 xs at n (Full flags contents) is = ap (λ b. Full (flags_from b) contents) (sym is)
shown-topped Bits32 xs at n (Full flags contents) is = refl

-- bytes that agree with the slot that a word says
module _ (heads : HeadKind) (xs : List ℕ) (at w : ℕ) (small : w < 0x1_0000_0000) (right : slot_word heads (slot_in heads w) ≡ w) (agrees : SlotAgrees heads xs at (slot_in heads w)) where
  -- are those of this word
  abbrev theirs : ℕ
  theirs = slot_word heads (shown_slot heads xs at (slot_in heads w))

  theirs-small : theirs < 0x1_0000_0000
  theirs-small = small-shown heads xs at w small right

  theirs-low : theirs % 0x100_0000 ≡ w % 0x100_0000
  theirs-low = low-shown heads xs at (slot_in heads w) ∙ ap (λ n. n % 0x100_0000) right

  theirs-bytes : part xs at 4 ≡ big_bytes 4 theirs
  theirs-bytes = agrees.right ∙ ap (λ s. big_bytes 4 (slot_word heads s)) agrees.said

  theirs-word : word_at xs at ≡ theirs
  theirs-word = ap (big_number 4) theirs-bytes ∙ number-bytes 4 theirs theirs-small

  byte-there : (j : ℕ) → j < 4 → slice_index xs (at + j) ≡ slice_index (big_bytes 4 theirs) j
  byte-there j few =
      let here : at + j - at ≡ j = omega arith in
      sym (index-part xs at 4 (at + j) (omega arith) (omega arith)) ∙ (λ i. slice_index (theirs-bytes i) (here i))

  -- whose low bytes are those of their own
  pub low-byte : (j : ℕ) → 1 ≤ j → j < 4 → slice_index xs (at + j) ≡ slice_index (big_bytes 4 w) j
  low-byte zero some few = absurd (omega arith)
  low-byte (suc zero) some few = byte-there 1 (omega arith) ∙ (let e = theirs-low in let f : theirs / 0x1_0000 % 256 ≡ w / 0x1_0000 % 256 = omega arith in f)
  low-byte (suc (suc zero)) some few = byte-there 2 (omega arith) ∙ (let e = theirs-low in let f : theirs / 0x100 % 256 ≡ w / 0x100 % 256 = omega arith in f)
  low-byte (suc (suc (suc zero))) some few = byte-there 3 (omega arith) ∙ (let e = theirs-low in let f : theirs % 256 ≡ w % 256 = omega arith in f)
  low-byte (suc (suc (suc (suc j)))) some few = absurd (omega arith)

  -- and the word with their high byte agrees
  pub top-agrees : (byte : ℕ) → slice_index xs at ≡ byte → WordAgrees heads w (topped byte w)
  top-agrees byte is =
      let low = theirs-low in
      let fits = theirs-small in
      let first : slice_index xs at ≡ theirs / 0x100_0000 % 256 = ap (slice_index xs) (let e : at ≡ at + 0 = omega arith in e) ∙ byte-there 0 (omega arith) in
      let high : theirs / 0x100_0000 ≡ slice_index xs at = omega arith in
      let same : theirs ≡ topped byte w = omega arith in
      subst (WordAgrees heads w) same (record {
        said = ap (slot_in heads) (sym theirs-word) ∙ agrees.said ∙ shown-topped heads xs at theirs (slot_in heads w) high;
        right = ap (λ n. slot_word heads (slot_in heads n)) (sym theirs-word) ∙ ap (slot_word heads) agrees.said;
      })

  -- where the first byte is another, and the word with it agrees, they agree again
  pub topped-agrees : (ys : List ℕ) (byte : ℕ) → byte < 256 → part ys at 4 ≡ byte ∷ drop 1 (part xs at 4) → slice_index ys at ≡ byte → WordAgrees heads w (topped byte w) → SlotAgrees heads ys at (slot_in heads w)
  topped-agrees ys byte few is first word =
      let low = theirs-low in
      let n = topped byte w in
      let one : byte ≡ n / 0x100_0000 % 256 = omega arith in
      let two : theirs / 0x1_0000 % 256 ≡ n / 0x1_0000 % 256 = omega arith in
      let three : theirs / 0x100 % 256 ≡ n / 0x100 % 256 = omega arith in
      let four : theirs % 256 ≡ n % 256 = omega arith in
      let bytes : part ys at 4 ≡ big_bytes 4 n = is ∙ ap (λ zs. byte ∷ drop 1 zs) theirs-bytes ∙ (λ i. one i ∷ two i ∷ three i ∷ four i ∷ []) in
      let number : word_at ys at ≡ n = ap (big_number 4) bytes ∙ number-bytes 4 n (omega arith) in
      let high : n / 0x100_0000 ≡ slice_index ys at = omega arith in
      record {
        said = ap (slot_in heads) number ∙ word.said ∙ sym (shown-topped heads ys at n (slot_in heads w) high);
        right = bytes ∙ ap (big_bytes 4) (sym word.right) ∙ ap (λ m. big_bytes 4 (slot_word heads (slot_in heads m))) (sym number);
      }
