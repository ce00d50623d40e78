-- Blocks that have what they are for, in a zone that is adopted.
use Rattle.std.proofs.Common.{◌≡◌, ℕ, zero, suc, ◌+◌, ◌*◌, ◌%◌, ◌<◌, ◌≤◌, true, List, [], ◌∷◌, ◌++◌, length, take, drop, refl, ap, sym, ◌∙◌, subst, arith, append_assoc, append-nil, length-drop, drop-drop, ◌⊎◌, inl, inr}
use Rattle.std.specs.List.{All, list_all}
use Rattle.std.proofs.Math.Seq.{take-length}
use Rattle.std.proofs.lemmas.Bool.{and_parts, and_from}
use Rattle.std.proofs.lemmas.List.Elements.{All-append, All-cons, All-head, All-nil, All-same, All-tail}
use Rattle.byteorder.specs.Endian.{big_bytes, big_number}
use Rattle.mac_base.specs.declared.block.HeadKind.{HeadKind}
use Rattle.mac_base.specs.HeadKind.{zone_header, address_end}
use Rattle.mac_base.specs.ZoneSizes.{ZoneSizes, ArePossible}
use Rattle.raw_region.proofs.Laws.{part-add}
use Rattle.block_bytes.proofs.AdoptedBlocks.{one-unlent, same-blocks}
use Rattle.block_bytes.proofs.Rendered.{total_of-append}
use Rattle.block_bytes.proofs.Walking.{size_of-pos}
use Rattle.block_bytes.specs.Adopting as blocks
use Rattle.block_bytes.specs.declared.header.Role.TheVariants as role
use Rattle.std.specs.Prelude.{◌==◌, ◌^◌, nat_lt}
use Rattle.mac_base.specs.declared.block.Flags.{Flags}
use Rattle.std.proofs.lemmas.Bool.Decides.{nat_tests}
use Rattle.block_bytes.specs.Finding.{SplitAt}
use Rattle.block_bytes.specs.Layout.{RawBlock, Layout, BlockAt, UnlentAt, NothingLent, lent_count, size_of, total_of, is_possible, address_after}
use Rattle.zone_records.specs.Adopting.{IsUsed}
use Rattle.zone_records.specs.Masters.{slot_of, word_at}
use Rattle.zone_records.specs.Reading.{AreSound, HasWords, has_use, is_sound}
use Rattle.zone_records.specs.Word.{slot_word, slots_in, words_of}
use Rattle.zone_records.proofs.Comparing.{AreBytes, bytes-drop, four-bytes}
use Rattle.zone_records.proofs.Looking.{sound-parts}
use Rattle.zone_records.proofs.MasterBlocks.{image-long}
use Rattle.zone_records.proofs.SaidSlots.{slot_of-after}

-- where each word is that of its slot, bytes are the words of their slots
words_all : (heads : HeadKind) (n : ℕ) (xs : List ℕ) → AreBytes xs → 4 * n ≤ length xs → ((k : ℕ) → k < n → slot_word heads (slot_of heads xs k) ≡ word_at xs (4 * k)) → take (4 * n) xs ≡ words_of heads (slots_in heads n xs)
unfolding slots_in
words_all heads zero xs bytes long right = refl
words_all heads (suc n) xs bytes long right =
    let four : 4 * suc n ≡ 4 + 4 * n = omega arith in
    let cut = length-drop 4 xs in
    let first : take 4 xs ≡ big_bytes 4 (slot_word heads (slot_of heads xs 0)) = four-bytes xs 0 bytes (omega arith) ∙ ap (big_bytes 4) (sym (right 0 (omega arith))) in
    let more = words_all heads n (drop 4 xs) (bytes-drop 4 xs bytes) (omega arith)
    (λ k few. ap (slot_word heads) (slot_of-after heads xs k) ∙ right (suc k) (omega arith) ∙ sym (word-after k)) in
    ap (λ k. take k xs) four ∙ part-add xs 0 4 (4 * n) ∙ (λ i. first i ++ more i)
  where
    word-after : (k : ℕ) → word_at (drop 4 xs) (4 * k) ≡ word_at xs (4 * suc k)
    word-after k = ap (λ ys. big_number 4 (take 4 ys)) (drop-drop (4 * k) 4 xs ∙ ap (λ n. drop n xs) (let e : 4 + 4 * k ≡ 4 * suc k = omega arith in e))

pub words-from : (heads : HeadKind) (n : ℕ) (xs : List ℕ) → AreBytes xs → length xs ≡ 4 * n → ((k : ℕ) → k < n → slot_word heads (slot_of heads xs k) ≡ word_at xs (4 * k)) → xs ≡ words_of heads (slots_in heads n xs)
words-from heads n xs bytes long right = sym (ap (λ k. take k xs) (sym long) ∙ take-length xs) ∙ words_all heads n xs bytes (omega arith) right

module _ (heads : HeadKind) (base : ℕ) (b : RawBlock) where
  -- a block that may have any contents
  pub used-plain : (b.role ≡ role.Free) ⊎ (b.role ≡ role.Fixed) → IsUsed heads base b
  used-plain (inl free) = record { use_is = ap (λ r. has_use base r (length b.contents)) free; words = λ master. let no : role.Free ≡ role.Master = sym free ∙ master in absurd (cc no) }
  used-plain (inr fixed) = record { use_is = ap (λ r. has_use base r (length b.contents)) fixed; words = λ master. let no : role.Fixed ≡ role.Master = sym fixed ∙ master in absurd (cc no) }

  -- a handle's block by its handle
  pub used-handle : (offset : ℕ) (flags : Flags) → b.role ≡ role.Relocatable offset flags → base + offset < 2 ^ 32 → IsUsed heads base b
  used-handle offset flags is low = let e : nat_lt (base + offset) (2 ^ 32) ≡ true = grind (arith, nat_tests) in record {
    use_is = ap (λ r. has_use base r (length b.contents)) is ∙ e;
    words = λ master. let no : role.Relocatable offset flags ≡ role.Master = sym is ∙ master in absurd (cc no);
  }

  pub handle-used : (offset : ℕ) (flags : Flags) → b.role ≡ role.Relocatable offset flags → IsUsed heads base b → base + offset < 2 ^ 32
  handle-used offset flags is u = let e : nat_lt (base + offset) (2 ^ 32) ≡ true = sym (ap (λ r. has_use base r (length b.contents)) is) ∙ u.use_is in grind (arith, nat_tests)

  -- a master block by its words
  pub used-master : b.role ≡ role.Master → length b.contents ≡ 256 → b.contents ≡ words_of heads (slots_in heads 64 b.contents) → IsUsed heads base b
  used-master is long words = let e : (length b.contents == 256) ≡ true = grind (arith, nat_tests) in
      record { use_is = ap (λ r. has_use base r (length b.contents)) is ∙ e; words = λ master. words }

  pub master-length : b.role ≡ role.Master → IsUsed heads base b → length b.contents ≡ 256
  master-length is u = let e : (length b.contents == 256) ≡ true = sym (ap (λ r. has_use base r (length b.contents)) is) ∙ u.use_is in grind (arith, nat_tests)

module _ (l : Layout) where
  -- what a block is for
  abbrev Used : RawBlock → Type 0
  Used = IsUsed l.heads l.base

  -- the blocks before an address have what they are for
  pub record UsedUpTo (at : ℕ) : Type 0 where
    pub split : SplitAt l at
    pub used : All Used split.before

  pub used-none : (at : ℕ) → at ≡ address_after l [] → UsedUpTo at
  used-none at there = record { split = record { before = []; after = l.blocks; blocks = refl; place = there }; used = All-nil Used }

  -- the block that is next
  pub record NextHere (at : ℕ) (s : SplitAt l at) : Type 0 where
    pub here : RawBlock
    pub after : List RawBlock
    pub blocks : l.blocks ≡ s.before ++ here ∷ after
    pub within : at + size_of l.heads here ≤ address_after l l.blocks

  pub next-here : (at : ℕ) (s : SplitAt l at) → at < address_after l l.blocks → NextHere at s
  next-here at s below = from s.after s.blocks
    where
      from : (after : List RawBlock) → l.blocks ≡ s.before ++ after → NextHere at s
      from [] is = let sum = ap (total_of l.heads) is in let more = total_of-append l.heads s.before [] in let place = s.place in absurd (omega arith)
      from (b ∷ bs) is = let sum = ap (total_of l.heads) is in let more = total_of-append l.heads s.before (b ∷ bs) in let place = s.place in
          record { here = b; after = bs; blocks = is; within = omega arith }

  module _ (at : ℕ) (s : SplitAt l at) (n : NextHere at s) where
    abbrev pub block-here : BlockAt l at
    block-here = record { before = s.before; here = n.here; after = n.after; blocks = n.blocks; place = s.place }

    pub unlent-here : NothingLent l → UnlentAt l at
    unlent-here none = record { block = block-here; unlent = one-unlent s.before n.here n.after (ap lent_count (sym n.blocks) ∙ none) }

    -- it has what it is for too
    pub used-more : All Used s.before → Used n.here → (next : ℕ) → next ≡ at + size_of l.heads n.here → UsedUpTo next
    used-more all used next there = let sum = total_of-append l.heads s.before (n.here ∷ []) in let place = s.place in record {
      split = record { before = s.before ++ n.here ∷ []; after = n.after; blocks = n.blocks ∙ sym (append_assoc s.before (n.here ∷ []) n.after); place = omega arith };
      used = All-append Used s.before (n.here ∷ []) all (All-cons Used n.here [] used (All-nil Used));
    }

    pub one-used : All Used l.blocks → Used n.here
    one-used all = All-head Used n.here n.after (rest s.before (All-same Used (s.before ++ n.here ∷ n.after) l.blocks (sym n.blocks) all))
      where
        rest : (xs : List RawBlock) → All Used (xs ++ n.here ∷ n.after) → All Used (n.here ∷ n.after)
        rest [] all = all
        rest (x ∷ xs) all = rest xs (All-tail Used x (xs ++ n.here ∷ n.after) all)

  -- all have, where the blocks end
  pub used-all : (at : ℕ) → UsedUpTo at → address_after l l.blocks ≤ at → All Used l.blocks
  used-all at u ends = from u.split.after u.split.blocks
    where
      from : (after : List RawBlock) → l.blocks ≡ u.split.before ++ after → All Used l.blocks
      from [] is = All-same Used l.blocks u.split.before (is ∙ append-nil u.split.before) u.used
      from (b ∷ bs) is = let sum = ap (total_of l.heads) is in let more = total_of-append l.heads u.split.before (b ∷ bs) in let some = size_of-pos l.heads b in let place = u.split.place in absurd (omega arith)

  -- sound blocks have
  pub sound-used : (bs : List RawBlock) → list_all (is_sound l.heads l.base) bs ≡ true → All (HasWords l.heads) bs → All Used bs
  sound-used [] sound words = All-nil Used
  sound-used (b ∷ bs) sound words =
      let parts = and_parts (is_sound l.heads l.base b) (list_all (is_sound l.heads l.base) bs) sound in
      All-cons Used b bs (record { use_is = (sound-parts l.heads l.base b parts.0).use_is; words = All-head (HasWords l.heads) b bs words })
      (sound-used bs parts.1 (All-tail (HasWords l.heads) b bs words))

  -- possible blocks that have are sound, and have their words
  pub used-sound : (bs : List RawBlock) → list_all (is_possible l.heads) bs ≡ true → All Used bs → list_all (is_sound l.heads l.base) bs ≡ true
  used-sound [] possible used = refl
  used-sound (b ∷ bs) possible used =
      let parts = and_parts (is_possible l.heads b) (list_all (is_possible l.heads) bs) possible in
      and_from _ _ (and_from _ _ parts.0 (All-head Used b bs used).use_is) (used-sound bs parts.1 (All-tail Used b bs used))

  pub used-words : (bs : List RawBlock) → All Used bs → All (HasWords l.heads) bs
  used-words [] used = All-nil (HasWords l.heads)
  used-words (b ∷ bs) used = All-cons (HasWords l.heads) b bs (All-head Used b bs used).words (used-words bs (All-tail Used b bs used))

-- a zone in bytes is sound where its blocks have what they are for
pub sound-made : (spec : ZoneSizes) → ArePossible spec → (bytes : List ℕ) (l : Layout) → blocks.IsZoneIn spec bytes l → All (IsUsed l.heads l.base) l.blocks → AreSound l
sound-made spec possible bytes l zone used =
    let long : zone_header + total_of l.heads l.blocks + length l.spare ≡ spec.limit = sym (image-long l) ∙ ap length zone.image ∙ zone.all in
    let end = possible.end_low_enough in let even = possible.even_base in let base = zone.base in let heads = ap address_end zone.heads in
    record {
      blocks = used-sound l l.blocks (ap (λ heads. list_all (is_possible heads) l.blocks) zone.heads ∙ zone.possible) used;
      words = used-words l l.blocks used;
      even = ap (λ n. n % 4) base ∙ even;
      high = omega arith;
    }

-- where another zone in the bytes is sound, so is this one
pub used-same : (spec : ZoneSizes) → ArePossible spec → (bytes : List ℕ) (l k : Layout) → blocks.IsZoneIn spec bytes l → blocks.IsZoneIn spec bytes k → AreSound k → All (IsUsed l.heads l.base) l.blocks
used-same spec possible bytes l k first second sound =
    let heads : k.heads ≡ l.heads = second.heads ∙ sym first.heads in let base : k.base ≡ l.base = second.base ∙ sym first.base in
    All-same (IsUsed l.heads l.base) l.blocks k.blocks (same-blocks spec possible bytes first.all l k first second)
    (subst (λ n. All (IsUsed l.heads n) k.blocks) base (subst (λ h. All (IsUsed h k.base) k.blocks) heads (sound-used k k.blocks sound.blocks sound.words)))
