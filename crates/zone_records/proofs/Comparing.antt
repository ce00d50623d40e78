-- The words of a master block compared with other bytes.
use Rattle.std.proofs.Common.{◌≡◌, ℕ, zero, suc, ◌+◌, ◌*◌, ◌/◌, ◌%◌, ◌<◌, ◌≤◌, List, [], ◌∷◌, length, take, drop, get_or, refl, ap, sym, ◌∙◌, subst, arith, below_more, length-drop, length-take-le, drop-drop, drop_at, take_at}
use Rattle.std.proofs.lemmas.List.{get_or-drop, get_or-take}
use Rattle.std.proofs.lemmas.Bool.Decides.{nat_tests}
use Rattle.byteorder.specs.Endian.{big_bytes, big_number}
use Rattle.byteorder.specs.Numbers.{big_from-take, big_from-lt}
use Rattle.mac_base.specs.declared.block.HeadKind.{HeadKind}
use Rattle.mac_base.specs.declared.block.HeadKind.TheVariants.{Bits24, Bits32}
use Rattle.mac_base.specs.FlagState.{flags_from}
use Rattle.raw_region.specs.Bytes.{part}
use Rattle.raw_region.proofs.Laws.{part-part}
use Rattle.raw_region.proofs.Numbers.{length-big_bytes, number-bytes}
use Rattle.zone_records.specs.declared.slot.Slot.{Slot}
use Rattle.zone_records.specs.declared.slot.Slot.TheVariants.{Free, Empty, Full}
use Rattle.zone_records.specs.declared.structure.Agreement.{Agreement}
use Rattle.zone_records.specs.Masters.{WordAgrees, SameWord, SlotAgrees, SlotsAgree, SlotsSame, shown_by, slot_of, word_at}
use Rattle.zone_records.specs.Structure.{Means, worse, shown_slot}
use Rattle.zone_records.specs.Word.{slot_word, slot_in, slots_in, words_of}
use Rattle.zone_records.proofs.ReadWord.{state-range}
use Rattle.zone_records.proofs.Meaning.{means-both, means-same}

-- each of these is a byte
abbrev pub AreBytes : List ℕ → Type 0
AreBytes xs = (k : ℕ) → get_or xs k 0 < 256

-- the number at the front of what is left is the word at the offset
pub word-read : (m : ℕ) (xs : List ℕ) (at : ℕ) → 4 ≤ m → big_number 4 (take m (drop at xs)) ≡ word_at xs at
word-read m xs at some = big_from-take 0 4 m (drop at xs) (omega arith) ∙ sym (big_from-take 0 4 4 (drop at xs) (omega arith))

-- what is left is bytes
pub bytes-drop : (at : ℕ) (xs : List ℕ) → AreBytes xs → AreBytes (drop at xs)
bytes-drop at xs bytes k = let here : get_or xs (at + k) 0 < 256 = bytes (at + k) in let same = get_or-drop at xs k 0 in omega arith

-- a word of bytes has 32 bits
pub word-small : (xs : List ℕ) (at : ℕ) → AreBytes xs → word_at xs at < 0x1_0000_0000
word-small xs at bytes =
    let small : big_number 4 (drop at xs) < 0x1_0000_0000 = big_from-lt 0 4 (drop at xs) (bytes-drop at xs bytes) in
    subst (λ n. n < 0x1_0000_0000) (sym (big_from-take 0 4 4 (drop at xs) (omega arith))) small

-- its high byte is that at the offset
high-byte : (xs : List ℕ) (at : ℕ) → AreBytes xs → word_at xs at / 0x100_0000 ≡ get_or xs at 0
high-byte xs at bytes =
    let ys = drop at xs in
    let same : word_at xs at ≡ big_number 4 ys = big_from-take 0 4 4 ys (omega arith) in
    let rest = bytes-drop at xs bytes in
    let a = rest 1 in
    let b = rest 2 in
    let c = rest 3 in
    let high : big_number 4 ys / 0x100_0000 ≡ get_or ys 0 0 = omega arith in
    ap (λ n. n / 0x100_0000) same ∙ high ∙ get_or-drop at xs 0 0 ∙ ap (λ n. get_or xs n 0) (let e : at + 0 ≡ at = omega arith in e)

-- what a slot says with the flags of bytes, by their word
shown-word : (heads : HeadKind) (xs : List ℕ) (at : ℕ) (s : Slot) → AreBytes xs → shown_slot heads xs at s ≡ shown_by heads (word_at xs at) s
shown-word heads xs at (Free next) bytes = refl
shown-word heads xs at Empty bytes = refl
shown-word Bits24 xs at (Full flags contents) bytes = ap (λ n. Full (flags_from n) contents) (sym (high-byte xs at bytes))
shown-word Bits32 xs at (Full flags contents) bytes = refl

-- four bytes are those of their number
bytes-number : (xs : List ℕ) → length xs ≡ 4 → AreBytes xs → xs ≡ big_bytes 4 (big_number 4 xs)
bytes-number [] long bytes = absurd (omega arith)
bytes-number (a ∷ []) long bytes = absurd (omega arith)
bytes-number (a ∷ b ∷ []) long bytes = absurd (omega arith)
bytes-number (a ∷ b ∷ c ∷ []) long bytes = absurd (omega arith)
bytes-number (a ∷ b ∷ c ∷ d ∷ []) long bytes =
    let w = big_number 4 (a ∷ b ∷ c ∷ d ∷ []) in
    let first : a < 256 = bytes 0 in
    let second : b < 256 = bytes 1 in
    let third : c < 256 = bytes 2 in
    let last : d < 256 = bytes 3 in
    let ea : a ≡ w / 0x100_0000 % 256 = omega arith in
    let eb : b ≡ w / 0x1_0000 % 256 = omega arith in
    let ec : c ≡ w / 0x100 % 256 = omega arith in
    let ed : d ≡ w % 256 = omega arith in
    λ i. ea i ∷ eb i ∷ ec i ∷ ed i ∷ []
bytes-number (a ∷ b ∷ c ∷ d ∷ e ∷ xs) long bytes = absurd (omega arith)

bytes-take : (n : ℕ) (xs : List ℕ) → AreBytes xs → AreBytes (take n xs)
bytes-take zero xs bytes k = omega arith
bytes-take (suc n) [] bytes k = omega arith
bytes-take (suc n) (x ∷ xs) bytes zero = bytes 0
bytes-take (suc n) (x ∷ xs) bytes (suc k) = bytes-take n xs (λ k. bytes (suc k)) k

pub four-bytes : (xs : List ℕ) (at : ℕ) → AreBytes xs → at + 4 ≤ length xs → part xs at 4 ≡ big_bytes 4 (word_at xs at)
four-bytes xs at bytes inside =
    let left = length-drop at xs in
    bytes-number (part xs at 4) (length-take-le 4 (drop at xs) (omega arith)) (bytes-take 4 (drop at xs) (bytes-drop at xs bytes))

-- the word of a slot that a word says has 32 bits too
pub word-below : (heads : HeadKind) (w : ℕ) → w < 0x1_0000_0000 → slot_word heads (slot_in heads w) < 0x1_0000_0000
word-below Bits24 w small = let high = (state-range (flags_from (w / 0x100_0000))).1 in grind (arith, nat_tests)
word-below Bits32 w small = grind (arith, nat_tests)

-- the words of slots are those of each
pub words-part : (heads : HeadKind) (n : ℕ) (contents : List ℕ) → contents ≡ words_of heads (slots_in heads n contents) → (k : ℕ) → k < n → part contents (4 * k) 4 ≡ big_bytes 4 (slot_word heads (slot_of heads contents k))
unfolding slots_in
words-part heads zero contents is k few = absurd (omega arith)
words-part heads (suc n) contents is zero few =
    let w = slot_word heads (slot_in heads (big_number 4 (take 4 contents))) in
    ap (take 4) is ∙ take_at (big_bytes 4 w) (words_of heads (slots_in heads n (drop 4 contents))) 4 (length-big_bytes 4 w)
words-part heads (suc n) contents is (suc k) few =
    let w = slot_word heads (slot_in heads (big_number 4 (take 4 contents))) in
    let rest : drop 4 contents ≡ words_of heads (slots_in heads n (drop 4 contents)) = ap (drop 4) is ∙ drop_at (big_bytes 4 w) (words_of heads (slots_in heads n (drop 4 contents))) 4 (length-big_bytes 4 w) in
    let same : part (drop 4 contents) (4 * k) 4 ≡ part contents (4 * suc k) 4 = ap (take 4) (drop-drop (4 * k) 4 contents) ∙ ap (λ n. part contents n 4) (let e : 4 + 4 * k ≡ 4 * suc k = omega arith in e) in
    sym same ∙ words-part heads n (drop 4 contents) rest k (omega arith) ∙ ap (λ xs. big_bytes 4 (slot_word heads (slot_in heads (big_number 4 xs)))) same

-- so each word says its slot and is that of it
pub word-right : (heads : HeadKind) (n : ℕ) (contents : List ℕ) → AreBytes contents → contents ≡ words_of heads (slots_in heads n contents) → (k : ℕ) → k < n → slot_word heads (slot_of heads contents k) ≡ word_at contents (4 * k)
word-right heads n contents bytes is k few =
    let w = slot_word heads (slot_of heads contents k) in
    sym (ap (big_number 4) (words-part heads n contents is k few) ∙ number-bytes 4 w (word-below heads (word_at contents (4 * k)) (word-small contents (4 * k) bytes)))

module _ (heads : HeadKind) (ours theirs : List ℕ) (at k : ℕ) (bytes : AreBytes theirs) (inside : at + 4 ≤ length theirs) where
  -- bytes agree with a slot where their words agree
  slot-agrees : WordAgrees heads (word_at ours (4 * k)) (word_at theirs at) → SlotAgrees heads theirs at (slot_of heads ours k)
  slot-agrees w = record { said = w.said ∙ sym (shown-word heads theirs at (slot_of heads ours k) bytes); right = four-bytes theirs at bytes inside ∙ ap (big_bytes 4) (sym w.right) }

  word-agrees : SlotAgrees heads theirs at (slot_of heads ours k) → WordAgrees heads (word_at ours (4 * k)) (word_at theirs at)
  word-agrees s =
      let w = word_at theirs at in
      record {
        said = s.said ∙ shown-word heads theirs at (slot_of heads ours k) bytes;
        right = sym (ap (big_number 4) s.right ∙ number-bytes 4 (slot_word heads (slot_in heads w)) (word-below heads w (word-small theirs at bytes)));
      }

  -- a slot that agrees, and whose word is another, says other flags
  pub other-word : slot_word heads (slot_of heads ours k) ≡ word_at ours (4 * k) → SlotAgrees heads theirs at (slot_of heads ours k) → (word_at ours (4 * k) ≡ word_at theirs at → ⊥) → shown_slot heads theirs at (slot_of heads ours k) ≡ slot_of heads ours k → ⊥
  other-word right s differ same = differ (sym right ∙ ap (slot_word heads) (sym (s.said ∙ same)) ∙ (word-agrees s).right)

  -- one more slot
  pub compare-more : (start : ℕ) → at ≡ start + 4 * k → (a b : Agreement) → Means a (SlotsAgree heads theirs k start ours) (SlotsSame heads theirs k start ours)
      → Means b (WordAgrees heads (word_at ours (4 * k)) (word_at theirs at)) (SameWord heads (word_at ours (4 * k)) (word_at theirs at))
      → Means (worse a b) (SlotsAgree heads theirs (k + 1) start ours) (SlotsSame heads theirs (k + 1) start ours)
  compare-more start place a b first second =
      let s = slot_of heads ours k in
      let shown = shown-word heads theirs at s bytes in
      means-same _ _ _ _ (worse a b)
      (λ h. below_more _ _ h.0 (subst (λ n. SlotAgrees heads theirs n s) place (slot-agrees h.1)))
      (λ h. (λ j few. h j (omega arith), word-agrees (subst (λ n. SlotAgrees heads theirs n s) (sym place) (h k (omega arith)))))
      (λ _ h. below_more _ _ h.0 (subst (λ n. shown_slot heads theirs n s ≡ s) place (shown ∙ h.1)))
      (λ _ h. (λ j few. h j (omega arith), sym shown ∙ subst (λ n. shown_slot heads theirs n s ≡ s) (sym place) (h k (omega arith))))
      (means-both _ _ _ _ a b first second)

-- what a word says, with its own flags
shown-own : (heads : HeadKind) (w : ℕ) → shown_by heads w (slot_in heads w) ≡ slot_in heads w
shown-own Bits24 w = grind (arith, nat_tests)
shown-own Bits32 w = grind (arith, nat_tests)

-- a slot whose word is the same says the same flags
pub same-word : (heads : HeadKind) (ours theirs : List ℕ) (at k : ℕ) → AreBytes theirs → word_at ours (4 * k) ≡ word_at theirs at → shown_slot heads theirs at (slot_of heads ours k) ≡ slot_of heads ours k
same-word heads ours theirs at k bytes same =
    shown-word heads theirs at (slot_of heads ours k) bytes ∙ ap (λ w. shown_by heads w (slot_of heads ours k)) (sym same) ∙ shown-own heads (word_at ours (4 * k))

-- the words of slots are bytes
words-bytes : (heads : HeadKind) (ss : List Slot) → AreBytes (words_of heads ss)
words-bytes heads [] k = omega arith
words-bytes heads (s ∷ ss) zero = omega arith
words-bytes heads (s ∷ ss) (suc zero) = omega arith
words-bytes heads (s ∷ ss) (suc (suc zero)) = omega arith
words-bytes heads (s ∷ ss) (suc (suc (suc zero))) = omega arith
words-bytes heads (s ∷ ss) (suc (suc (suc (suc k)))) = words-bytes heads ss k

-- a slot that is in the same bytes says the same of them
shown-same : (heads : HeadKind) (ours theirs : List ℕ) (at there : ℕ) (s : Slot) → get_or theirs there 0 ≡ get_or ours at 0 → shown_slot heads theirs there s ≡ shown_slot heads ours at s
shown-same heads ours theirs at there (Free next) same = refl
shown-same heads ours theirs at there Empty same = refl
shown-same Bits24 ours theirs at there (Full flags contents) same = ap (λ n. Full (flags_from n) contents) same
shown-same Bits32 ours theirs at there (Full flags contents) same = refl

-- bytes that are the words of slots agree with them
pub equal-agree : (heads : HeadKind) (ours theirs : List ℕ) (at : ℕ) → part theirs at 256 ≡ ours → ours ≡ words_of heads (slots_in heads 64 ours) → SlotsAgree heads theirs 64 at ours × SlotsSame heads theirs 64 at ours
equal-agree heads ours theirs at same words = (
  λ k few. record { said = ap (slot_in heads) (word k few) ∙ sym (own k few); right = here k few ∙ words-part heads 64 ours words k few ∙ ap (λ w. big_bytes 4 (slot_word heads (slot_in heads w))) (sym (word k few)) },
  own,
)
  where
    here : (k : ℕ) → k < 64 → part theirs (at + 4 * k) 4 ≡ part ours (4 * k) 4
    here k few = sym (part-part theirs at 256 (4 * k) 4 (omega arith)) ∙ ap (λ xs. part xs (4 * k) 4) same

    word : (k : ℕ) → k < 64 → word_at theirs (at + 4 * k) ≡ word_at ours (4 * k)
    word k few = ap (big_number 4) (here k few)

    high : (k : ℕ) → k < 64 → get_or theirs (at + 4 * k) 0 ≡ get_or ours (4 * k) 0
    high k few = sym (get_or-drop at theirs (4 * k) 0) ∙ sym (get_or-take 256 (drop at theirs) (4 * k) 0 (omega arith)) ∙ ap (λ xs. get_or xs (4 * k) 0) same

    own : (k : ℕ) → k < 64 → shown_slot heads theirs (at + 4 * k) (slot_of heads ours k) ≡ slot_of heads ours k
    own k few = shown-same heads ours theirs (4 * k) (at + 4 * k) (slot_of heads ours k) (high k few)
        ∙ same-word heads ours ours (4 * k) k (subst AreBytes (sym words) (words-bytes heads (slots_in heads 64 ours))) refl
