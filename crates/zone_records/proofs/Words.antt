-- The words of slots: how many bytes they are, what they say, and one that is written.
use Rattle.std.proofs.Common.{◌≡◌, ℕ, zero, suc, ◌+◌, ◌-◌, ◌*◌, ◌%◌, ◌<◌, ◌≤◌, ◌^◌, nat_lt, true, List, [], ◌∷◌, ◌++◌, length, take, drop, refl, ap, sym, ◌∙◌, arith, append_assoc, append-nil, length-append, length-take-le, length-drop, drop-drop, take_at, drop_at}
use Rattle.std.specs.Prelude.{◌==◌}
use Rattle.std.specs.List.{list_all}
use Rattle.std.proofs.lemmas.Bool.Decides.{nat_tests}
use Rattle.std.proofs.lemmas.List.{take_all, drop_all, take-take, take-append-le}
use Rattle.std.proofs.lemmas.Bool.{and_parts, and_from}
use Rattle.byteorder.specs.Endian.{big_bytes, big_number}
use Rattle.mac_base.specs.declared.block.HeadKind.{HeadKind}
use Rattle.mac_base.specs.declared.block.HeadKind.TheVariants.{Bits24, Bits32}
use Rattle.mac_base.specs.HeadKind.{slot_count, address_end}
use Rattle.raw_region.specs.Bytes.{written}
use Rattle.raw_region.proofs.Numbers.{length-big_bytes, number-bytes}
use Rattle.block_bytes.proofs.Rendered.{written-middle}
use Rattle.zone_records.specs.declared.slot.Slot.{Slot}
use Rattle.zone_records.specs.declared.slot.Slot.TheVariants.{Free}
use Rattle.zone_records.specs.Places.{can_say}
use Rattle.zone_records.specs.Changes.{chained}
use Rattle.zone_records.specs.Word.{slot_word, slot_in, slots_in, words_of}
use Rattle.zone_records.proofs.ReadWord.{slot_in-word, slot_word-below}

-- each slot has four bytes
pub length-words : (heads : HeadKind) (ss : List Slot) → length (words_of heads ss) ≡ 4 * length ss
length-words heads [] = refl
length-words heads (s ∷ ss) =
    let here = length-big_bytes 4 (slot_word heads s) in
    let rest = length-words heads ss in
    let all = length-append (big_bytes 4 (slot_word heads s)) (words_of heads ss) in
    omega arith

-- the words of two lists of slots, one after the other
words-append : (heads : HeadKind) (xs ys : List Slot) → words_of heads (xs ++ ys) ≡ words_of heads xs ++ words_of heads ys
words-append heads [] ys = refl
words-append heads (s ∷ xs) ys = ap (λ ws. big_bytes 4 (slot_word heads s) ++ ws) (words-append heads xs ys) ∙ sym (append_assoc (big_bytes 4 (slot_word heads s)) (words_of heads xs) (words_of heads ys))

-- the word of the slot after some is written
pub words-written : (heads : HeadKind) (before : List Slot) (here : Slot) (after : List Slot) (s : Slot)
    → written (words_of heads (before ++ here ∷ after)) (4 * length before) (big_bytes 4 (slot_word heads s)) ≡ words_of heads (before ++ s ∷ after)
words-written heads before here after s =
    let old = length-big_bytes 4 (slot_word heads here) in
    let new = length-big_bytes 4 (slot_word heads s) in
    let front = length-words heads before in
    ap (λ ws. written ws (4 * length before) (big_bytes 4 (slot_word heads s))) (words-append heads before (here ∷ after))
    ∙ written-middle (words_of heads before) (big_bytes 4 (slot_word heads here)) (words_of heads after) (big_bytes 4 (slot_word heads s)) (4 * length before) (omega arith) (omega arith)
    ∙ sym (words-append heads before (s ∷ after))

-- the words of slots that can be said say these
pub slots-words : (heads : HeadKind) (ss : List Slot) → list_all (can_say heads) ss ≡ true → slots_in heads (length ss) (words_of heads ss) ≡ ss
unfolding slots_in
slots-words heads [] sayable = refl
slots-words heads (s ∷ ss) sayable =
    let parts = and_parts (can_say heads s) (list_all (can_say heads) ss) sayable in
    let word = big_bytes 4 (slot_word heads s) in
    let four : length word ≡ 4 = length-big_bytes 4 (slot_word heads s) in
    ap (λ xs. slot_in heads (big_number 4 xs) ∷ slots_in heads (length ss) (drop 4 (word ++ words_of heads ss))) (take_at word (words_of heads ss) 4 four)
    ∙ ap (λ xs. slot_in heads (big_number 4 word) ∷ slots_in heads (length ss) xs) (drop_at word (words_of heads ss) 4 four)
    ∙ ap (λ k. slot_in heads k ∷ slots_in heads (length ss) (words_of heads ss)) (number-bytes 4 (slot_word heads s) (slot_word-below heads s parts.0))
    ∙ (λ i. slot_in-word heads s parts.0 i ∷ slots-words heads ss parts.1 i)

-- there are as many chained slots as there are to be
pub length-chained : (n at last : ℕ) → length (chained n at last) ≡ n
length-chained zero at last = refl
length-chained (suc zero) at last = refl
length-chained (suc (suc n)) at last = ap suc (length-chained (suc n) (at + 4) last)

-- an address below the highest end, at a multiple of four, can be said
pub sayable-at : (heads : HeadKind) (x : ℕ) → x < address_end heads → x % 4 ≡ 0 → can_say heads (Free x) ≡ true
sayable-at Bits24 x low even = grind (arith, nat_tests)
sayable-at Bits32 x low even = and_from _ _ (below x low) (four x even)
  where
    below : (x : ℕ) → x < 0xFFFF_FFFF → nat_lt x (2 ^ 32) ≡ true
    below x low = grind (arith, nat_tests)

    four : (x : ℕ) → x % 4 ≡ 0 → (x % 4 == 0) ≡ true
    four x even = grind (arith, nat_tests)

-- so can chained slots
pub sayable-chain : (heads : HeadKind) (n at last : ℕ) → at % 4 ≡ 0 → at + 4 * n ≤ address_end heads → can_say heads (Free last) ≡ true → list_all (can_say heads) (chained n at last) ≡ true
sayable-chain heads zero at last even low end = refl
sayable-chain heads (suc zero) at last even low end = and_from _ _ end refl
sayable-chain heads (suc (suc n)) at last even low end = and_from _ _ (sayable-at heads (at + 4) (omega arith) (omega arith)) (sayable-chain heads (suc n) (at + 4) last (omega arith) (omega arith) end)

-- those of a master block have 256 bytes
pub length-chain : (heads : HeadKind) (ws : List ℕ) (at last : ℕ) → ws ≡ words_of heads (chained slot_count at last) → length ws ≡ 256
length-chain heads ws at last is = let count = length-chained slot_count at last in let all = length-words heads (chained slot_count at last) in ap length is ∙ omega arith

-- one more slot before those that are chained
chained-more : (i at last next : ℕ) → (i ≡ 0 → next ≡ last) → (0 < i → next ≡ at + 4) → Free next ∷ chained i (at + 4) last ≡ chained (suc i) at last
chained-more zero at last next first later = ap (λ n. Free n ∷ []) (first refl)
chained-more (suc i) at last next first later = ap (λ n. Free n ∷ chained (suc i) (at + 4) last) (later (omega arith))

-- of the slots of a new master block the last i are written, after bytes as they were, and `next` is what the slot
-- before them is to say
pub record Chaining (heads : HeadKind) (first last : ℕ) (old : List ℕ) (i next : ℕ) (now : List ℕ) : Type 0 where
  pub words : now ≡ take (4 * (64 - i)) old ++ words_of heads (chained i (first + 4 * (64 - i)) last)
  pub sayable : can_say heads (Free next) ≡ true
  pub none : i ≡ 0 → next ≡ last
  pub some : 0 < i → next ≡ first + 4 * (64 - i)

module _ (heads : HeadKind) (first last : ℕ) (old : List ℕ) (long : length old ≡ 256) (low : first + 256 ≤ address_end heads) (even : first % 4 ≡ 0) (end : can_say heads (Free last) ≡ true) where
  -- at first none is
  pub chain-starts : Chaining heads first last old 0 last old
  chain-starts = record {
    words = sym (append-nil (take 256 old) ∙ take-whole old 256 long);
    sayable = end;
    none = λ none. refl;
    some = λ some. absurd (omega arith);
  }
    where
      take-whole : (xs : List ℕ) (n : ℕ) → length xs ≡ n → take n xs ≡ xs
      take-whole xs n all = ap (take n) (sym (append-nil xs)) ∙ take_at xs [] n all

  module _ (i next : ℕ) (now : List ℕ) (f : Chaining heads first last old i next now) (below : i < 64) where
    -- once the slot before them is written, one more is
    pub chain-more : (place word x : ℕ) (bytes new : List ℕ) → place ≡ 4 * (63 - i) → word ≡ slot_word heads (Free next) → x ≡ first + place
        → bytes ≡ big_bytes 4 word ++ drop 4 (take (length now - place) (drop place now)) → new ≡ take place now ++ (bytes ++ drop (length now - place) (drop place now)) → Chaining heads first last old (i + 1) x new
    chain-more place word x bytes new there is next_is written ends =
        let k = length now - place in
        let front = take (4 * (64 - i)) old in
        let chain = chained i (first + 4 * (64 - i)) last in
        let after = words_of heads chain in
        let four : length front ≡ place + 4 = (let e = length-take-le (4 * (64 - i)) old (omega arith) in omega arith) in
        let left = length-drop place now in
        let part : take k (drop place now) ≡ drop place now = take_all k (drop place now) (omega arith) in
        let none : drop k (drop place now) ≡ [] = drop_all k (drop place now) (omega arith) in
        let kept : take place now ≡ take place old = ap (take place) f.words ∙ take-append-le place front after (omega arith) ∙ take-take place (4 * (64 - i)) old (omega arith) in
        let rest : drop 4 (drop place now) ≡ after = drop-drop 4 place now ∙ ap (drop (place + 4)) f.words ∙ drop_at front after (place + 4) four in
        let said : bytes ≡ words_of heads (Free next ∷ chain) = written ∙ (λ t. big_bytes 4 (is t) ++ drop 4 (part t)) ∙ ap (λ ws. big_bytes 4 (slot_word heads (Free next)) ++ ws) rest in
        let all : new ≡ take place old ++ words_of heads (Free next ∷ chain) =
        ends ∙ (λ t. kept t ++ (said t ++ none t)) ∙ ap (λ ws. take place old ++ ws) (append-nil (words_of heads (Free next ∷ chain))) in
        let start = first + 4 * (63 - i) in
        let at_four : first + 4 * (64 - i) ≡ start + 4 = omega arith in
        let more = chained-more i start last next f.none (λ some. f.some some ∙ at_four) in
        let one : suc i ≡ i + 1 = omega arith in
        let first_place : start ≡ first + 4 * (64 - (i + 1)) = omega arith in
        let last_place : place ≡ 4 * (64 - (i + 1)) = omega arith in
        record {
          words = all ∙ (λ t. take (last_place t) old ++ words_of heads (Free next ∷ chained i (at_four t) last))
              ∙ ap (λ ss. take (4 * (64 - (i + 1))) old ++ words_of heads ss) (more ∙ (λ t. chained (one t) (first_place t) last));
          sayable = sayable-at heads x (omega arith) (omega arith);
          none = λ none. absurd (omega arith);
          some = λ some. omega arith;
        }

  -- in the end all are
  pub chain-ends : (i next : ℕ) (now : List ℕ) → Chaining heads first last old i next now → i ≡ 64 → now ≡ words_of heads (chained slot_count first last)
  chain-ends i next now f all =
      let none : 4 * (64 - i) ≡ 0 = omega arith in
      let place : first + 4 * (64 - i) ≡ first = omega arith in
      f.words ∙ (λ t. take (none t) old ++ words_of heads (chained (all t) (place t) last))
