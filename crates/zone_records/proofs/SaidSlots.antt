-- What many slots say in bytes, and each of them.
use Rattle.std.proofs.Common.{◌≡◌, ℕ, zero, suc, ◌+◌, ◌*◌, ◌<◌, List, ◌∷◌, ◌++◌, take, drop, refl, ap, sym, ◌∙◌, subst, arith, drop-drop}
use Rattle.std.proofs.lemmas.List.{take-take, drop-take}
use Rattle.byteorder.specs.Endian.{big_bytes, big_number}
use Rattle.mac_base.specs.declared.block.HeadKind.{HeadKind}
use Rattle.raw_region.specs.Bytes.{part}
use Rattle.raw_region.proofs.Laws.{part-add, part-part}
use Rattle.zone_records.specs.Masters.{SlotAgrees, SlotsAgree, SlotsSame, slot_of}
use Rattle.zone_records.specs.Structure.{shown_slot, shown_slots}
use Rattle.zone_records.specs.Word.{slot_word, slot_in, slots_in, words_of}
use Rattle.zone_records.proofs.Comparing.{words-part}

-- the slots after the first
pub slot_of-after : (heads : HeadKind) (contents : List ℕ) (k : ℕ) → slot_of heads (drop 4 contents) k ≡ slot_of heads contents (suc k)
slot_of-after heads contents k =
    ap (λ xs. slot_in heads (big_number 4 (take 4 xs))) (drop-drop (4 * k) 4 contents ∙ ap (λ n. drop n contents) (let e : 4 + 4 * k ≡ 4 * suc k = omega arith in e))

-- the first agrees, and those after it
agree-first : (heads : HeadKind) (bytes : List ℕ) (n at : ℕ) (contents : List ℕ) → SlotsAgree heads bytes (suc n) at contents → SlotAgrees heads bytes at (slot_of heads contents 0)
agree-first heads bytes n at contents agree = subst (λ j. SlotAgrees heads bytes j (slot_of heads contents 0)) (let e : at + 4 * 0 ≡ at = omega arith in e) (agree 0 (omega arith))

agree-rest : (heads : HeadKind) (bytes : List ℕ) (n at : ℕ) (contents : List ℕ) → SlotsAgree heads bytes (suc n) at contents → SlotsAgree heads bytes n (at + 4) (drop 4 contents)
agree-rest heads bytes n at contents agree k few = subst (λ j. SlotAgrees heads bytes j (slot_of heads (drop 4 contents) k)) (let e : at + 4 * suc k ≡ at + 4 + 4 * k = omega arith in e)
    (subst (SlotAgrees heads bytes (at + 4 * suc k)) (sym (slot_of-after heads contents k)) (agree (suc k) (omega arith)))

-- where each agrees, bytes say all of them
agree-said : (heads : HeadKind) (bytes : List ℕ) (n at : ℕ) (contents : List ℕ) → SlotsAgree heads bytes n at contents → slots_in heads n (drop at bytes) ≡ shown_slots heads bytes at (slots_in heads n contents)
unfolding slots_in
agree-said heads bytes zero at contents agree = refl
agree-said heads bytes (suc n) at contents agree =
    let here = agree-first heads bytes n at contents agree in
    let rest = agree-rest heads bytes n at contents agree in
    let more = agree-said heads bytes n (at + 4) (drop 4 contents) rest in
    λ i. here.said i ∷ (ap (slots_in heads n) (drop-drop 4 at bytes) ∙ more) i

-- and they are their words
agree-words : (heads : HeadKind) (bytes : List ℕ) (n at : ℕ) (contents : List ℕ) → SlotsAgree heads bytes n at contents → take (4 * n) (drop at bytes) ≡ words_of heads (slots_in heads n (drop at bytes))
unfolding slots_in
agree-words heads bytes zero at contents agree = refl
agree-words heads bytes (suc n) at contents agree =
    let here = agree-first heads bytes n at contents agree in
    let rest = agree-rest heads bytes n at contents agree in
    let more = agree-words heads bytes n (at + 4) (drop 4 contents) rest in
    let four : 4 * suc n ≡ 4 + 4 * n = omega arith in
    let after = drop-drop 4 at bytes in
    ap (λ k. part bytes at k) four ∙ part-add bytes at 4 (4 * n) ∙ (λ i. here.right i ++ (more ∙ ap (λ xs. words_of heads (slots_in heads n xs)) (sym after)) i)

-- where bytes say the same flags of each, they are as bytes show them
same-shown : (heads : HeadKind) (bytes : List ℕ) (n at : ℕ) (contents : List ℕ) → SlotsSame heads bytes n at contents → shown_slots heads bytes at (slots_in heads n contents) ≡ slots_in heads n contents
unfolding slots_in
same-shown heads bytes zero at contents same = refl
same-shown heads bytes (suc n) at contents same =
    let here : shown_slot heads bytes at (slot_of heads contents 0) ≡ slot_of heads contents 0 = subst (λ j. shown_slot heads bytes j (slot_of heads contents 0) ≡ slot_of heads contents 0) (let e : at + 4 * 0 ≡ at = omega arith in e) (same 0 (omega arith)) in
    let rest : SlotsSame heads bytes n (at + 4) (drop 4 contents) = λ k few. subst (λ j. shown_slot heads bytes j (slot_of heads (drop 4 contents) k) ≡ slot_of heads (drop 4 contents) k) (let e : at + 4 * suc k ≡ at + 4 + 4 * k = omega arith in e)
    (subst (λ s. shown_slot heads bytes (at + 4 * suc k) s ≡ s) (sym (slot_of-after heads contents k)) (same (suc k) (omega arith))) in
    let more = same-shown heads bytes n (at + 4) (drop 4 contents) rest in
    λ i. here i ∷ more i

-- a slot among the first bytes
slots-part : (heads : HeadKind) (n : ℕ) (xs : List ℕ) → slots_in heads n (take (4 * n) xs) ≡ slots_in heads n xs
unfolding slots_in
slots-part heads zero xs = refl
slots-part heads (suc n) xs =
    let four : 4 * suc n ≡ 4 + 4 * n = omega arith in
    λ i. slot_in heads (big_number 4 (take-take 4 (4 * suc n) xs (omega arith) i)) ∷ (ap (λ k. slots_in heads n (drop 4 (take k xs))) four ∙ ap (slots_in heads n) (drop-take 4 (4 * n) xs) ∙ slots-part heads n (drop 4 xs)) i

-- each of some slots that are said with other flags
each-said : (heads : HeadKind) (bytes : List ℕ) (n at : ℕ) (others contents : List ℕ) → slots_in heads n others ≡ shown_slots heads bytes at (slots_in heads n contents) → (k : ℕ) → k < n → slot_of heads others k ≡ shown_slot heads bytes (at + 4 * k) (slot_of heads contents k)
unfolding slots_in
each-said heads bytes zero at others contents is k few = absurd (omega arith)
each-said heads bytes (suc n) at others contents is zero few =
    let here : slot_of heads others 0 ≡ shown_slot heads bytes at (slot_of heads contents 0) = cc is in
    here ∙ ap (λ j. shown_slot heads bytes j (slot_of heads contents 0)) (let e : at ≡ at + 4 * 0 = omega arith in e)
each-said heads bytes (suc n) at others contents is (suc k) few =
    let rest : slots_in heads n (drop 4 others) ≡ shown_slots heads bytes (at + 4) (slots_in heads n (drop 4 contents)) = cc is in
    sym (slot_of-after heads others k) ∙ each-said heads bytes n (at + 4) (drop 4 others) (drop 4 contents) rest k (omega arith)
    ∙ (λ i. shown_slot heads bytes ((let e : at + 4 + 4 * k ≡ at + 4 * suc k = omega arith in e) i) (slot_of-after heads contents k i))

module _ (heads : HeadKind) (bytes : List ℕ) (at : ℕ) (contents : List ℕ) where
  abbrev here : List ℕ
  here = part bytes at 256

  -- a master block's bytes that agree say its slots, and are the words of these
  pub master-said : SlotsAgree heads bytes 64 at contents → slots_in heads 64 here ≡ shown_slots heads bytes at (slots_in heads 64 contents)
  master-said agree = slots-part heads 64 (drop at bytes) ∙ agree-said heads bytes 64 at contents agree

  pub master-words : SlotsAgree heads bytes 64 at contents → here ≡ words_of heads (slots_in heads 64 here)
  master-words agree = agree-words heads bytes 64 at contents agree ∙ ap (words_of heads) (sym (slots-part heads 64 (drop at bytes)))

  -- where they say the same flags too, they are the block's contents
  pub master-written : SlotsAgree heads bytes 64 at contents → SlotsSame heads bytes 64 at contents → contents ≡ words_of heads (slots_in heads 64 contents) → here ≡ contents
  master-written agree same words = master-words agree ∙ ap (words_of heads) (master-said agree ∙ same-shown heads bytes 64 at contents same) ∙ sym words

  -- and those that do agree
  pub master-agrees : slots_in heads 64 here ≡ shown_slots heads bytes at (slots_in heads 64 contents) → here ≡ words_of heads (slots_in heads 64 here) → SlotsAgree heads bytes 64 at contents
  master-agrees said words k few =
      let four : part here (4 * k) 4 ≡ part bytes (at + 4 * k) 4 = part-part bytes at 256 (4 * k) 4 (omega arith) in
      record {
        said = ap (λ xs. slot_in heads (big_number 4 xs)) (sym four) ∙ each-said heads bytes 64 at here contents said k few;
        right = sym four ∙ words-part heads 64 here words k few ∙ ap (λ xs. big_bytes 4 (slot_word heads (slot_in heads (big_number 4 xs)))) four;
      }
