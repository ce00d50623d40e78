-- Blocks with what bytes have in their places: as blocks of bytes and as the list of what is in them.
use Rattle.std.proofs.Common.{◌≡◌, ℕ, ◌+◌, ◌*◌, ◌≤◌, ◌%◌, true, not, ◌&&◌, ◌||◌, nat_le, List, [], ◌∷◌, ◌++◌, length, take, drop, refl, ap, sym, ◌∙◌, subst, arith, append_assoc, drop-drop, take_at, drop_at}
use Rattle.std.specs.Prelude.{◌==◌}
use Rattle.std.specs.List.{All, list_all}
use Rattle.std.proofs.lemmas.Bool.{and_parts, eqb-true}
use Rattle.std.proofs.lemmas.Bool.Decides.{nat_tests}
use Rattle.std.proofs.lemmas.List.Elements.{All-cons, All-head, All-nil, All-tail}
use Rattle.mac_base.specs.declared.block.HeadKind.{HeadKind}
use Rattle.mac_base.specs.HeadKind.{head_size, smallest_block, slot_count}
use Rattle.raw_region.specs.Bytes.{part}
use Rattle.raw_region.proofs.Laws.{length-part}
use Rattle.block_bytes.specs.declared.header.Role.{Role}
use Rattle.block_bytes.specs.declared.header.Role.TheVariants as role
use Rattle.block_bytes.specs.Head.{head_bytes, most_over}
use Rattle.block_bytes.specs.Layout as raw
use Rattle.block_bytes.specs.Layout.{RawBlock, Layout, size_of, header_of, rendered, can_be_told, has_owner, is_possible}
use Rattle.block_bytes.specs.Structure as raw_structure
use Rattle.block_bytes.specs.Structure.{EachMaster, shown_block}
use Rattle.block_bytes.proofs.ReadBlocks.{IsPossible-from}
use Rattle.block_bytes.proofs.Heads.{length-head_bytes}
use Rattle.block_bytes.proofs.Structures.{IsLong, shown-long}
use Rattle.zone_records.specs.Masters.{SlotsAgree}
use Rattle.zone_records.specs.Reading.{content_in, record_in, has_use, is_sound, HasWords}
use Rattle.zone_records.specs.Records.{Master, BlockRecord, total_of}
use Rattle.zone_records.specs.Structure.{shown_content, shown_slots, shown_blocks}
use Rattle.zone_records.specs.Word.{slots_in, words_of}
use Rattle.zone_records.proofs.Apart.{read}
use Rattle.zone_records.proofs.Looking.{Sound, sound-parts}
use Rattle.zone_records.proofs.ReadSlots.{length-slots_in}
use Rattle.zone_records.proofs.SaidSlots.{master-said, master-words, master-agrees}
use Rattle.zone_records.proofs.Slots.{master-long}
use Rattle.zone_records.proofs.Words.{length-words}

-- sizes stay
pub total-shown : (heads : HeadKind) (bytes : List ℕ) (at : ℕ) (bs : List BlockRecord) → total_of (shown_blocks heads bytes at bs) ≡ total_of bs
total-shown heads bytes at [] = refl
total-shown heads bytes at (b ∷ bs) = ap (λ n. b.size + n) (total-shown heads bytes (at + b.size) bs)

module _ (heads : HeadKind) (base : ℕ) (bytes : List ℕ) where
  abbrev agree : ℕ → List ℕ → Type 0
  agree = SlotsAgree heads bytes slot_count

  -- what is in a block with the contents that bytes have
  content-said : (r : Role) (at : ℕ) (old : List ℕ) → (r ≡ role.Master → (length old ≡ 256) × SlotsAgree heads bytes slot_count at old) → content_in heads base r (part bytes at (length old)) ≡ shown_content heads bytes at (content_in heads base r old)
  content-said role.Free at old slots = refl
  content-said role.Fixed at old slots = refl
  content-said role.Master at old slots = let own = slots refl in ap (λ n. Master (slots_in heads slot_count (part bytes at n))) own.0 ∙ ap Master (master-said heads bytes at old own.1)
  content-said (role.Relocatable offset flags) at old slots = refl

  module _ (at : ℕ) (b : RawBlock) (fits : at + size_of heads b ≤ length bytes) where
    abbrev long : IsLong (shown_block heads bytes at b) b
    long = shown-long heads bytes at b fits

    -- a block is as sound with other contents
    sound-shown : is_sound heads base (shown_block heads bytes at b) ≡ is_sound heads base b
    sound-shown = λ i. (((head_size heads + (long.contents i + long.slack i)) % 4 == 0) && (nat_le (smallest_block heads) (head_size heads + (long.contents i + long.slack i))
        && (nat_le (long.slack i) (most_over heads) && (can_be_told heads b.role (long.slack i) && (not b.lent || has_owner b.role))))) && has_use base b.role (long.contents i)

    module _ (sound : is_sound heads base b ≡ true) (slots : b.role ≡ role.Master → SlotsAgree heads bytes slot_count (at + head_size heads) b.contents) where
      record-said : record_in heads base (shown_block heads bytes at b) ≡ record (record_in heads base b) { content = shown_content heads bytes (at + head_size heads) (content_in heads base b.role b.contents) }
      record-said = λ i. record {
        size = head_size heads + (long.contents i + long.slack i);
        content = content-said b.role (at + head_size heads) b.contents (λ is. (master-long heads base b sound is, slots is)) i;
        lent = b.lent;
      }

      words-said : HasWords heads (shown_block heads bytes at b)
      words-said is = subst (λ n. part bytes (at + head_size heads) n ≡ words_of heads (slots_in heads slot_count (part bytes (at + head_size heads) n))) (sym (master-long heads base b sound is))
          (master-words heads bytes (at + head_size heads) b.contents (slots is))

  -- so of many blocks
  pub record AreShown (at : ℕ) (bs : List RawBlock) : Type 0 where
    pub sound : list_all (is_sound heads base) (raw_structure.shown_blocks heads bytes at bs) ≡ true
    pub words : All (HasWords heads) (raw_structure.shown_blocks heads bytes at bs)
    pub same : read heads base (raw_structure.shown_blocks heads bytes at bs) ≡ shown_blocks heads bytes at (read heads base bs)

  pub are-shown : (at : ℕ) (bs : List RawBlock) → at + raw.total_of heads bs ≤ length bytes → list_all (is_sound heads base) bs ≡ true → EachMaster agree heads at bs → AreShown at bs
  are-shown at [] fits sound slots = record { sound = refl; words = All-nil (HasWords heads); same = refl }
  are-shown at (b ∷ bs) fits sound slots =
      let all : at + (size_of heads b + raw.total_of heads bs) ≤ length bytes = fits in
      let here : at + size_of heads b ≤ length bytes = omega arith in
      let parts = and_parts (is_sound heads base b) (list_all (is_sound heads base) bs) sound in
      let rest = are-shown (at + size_of heads b) bs (omega arith) parts.1 slots.1 in
      record {
        sound = (λ i. sound-shown at b here i && rest.sound i) ∙ ap (λ t. t && true) parts.0;
        words = All-cons (HasWords heads) (shown_block heads bytes at b) (raw_structure.shown_blocks heads bytes (at + size_of heads b) bs) (words-said at b here parts.0 slots.0) rest.words;
        same = λ i. record-said at b here parts.0 slots.0 i ∷ rest.same i;
      }

  -- ---- blocks that are those with the contents that bytes have

  -- what says the same of a block is for the same
  role-same : (r s : Role) (at : ℕ) (xs ys : List ℕ) → content_in heads base r xs ≡ shown_content heads bytes at (content_in heads base s ys) → r ≡ s
  role-same role.Free role.Free at xs ys is = refl
  role-same role.Free role.Fixed at xs ys is = absurd (cc is)
  role-same role.Free role.Master at xs ys is = absurd (cc is)
  role-same role.Free (role.Relocatable o f) at xs ys is = absurd (cc is)
  role-same role.Fixed role.Free at xs ys is = absurd (cc is)
  role-same role.Fixed role.Fixed at xs ys is = refl
  role-same role.Fixed role.Master at xs ys is = absurd (cc is)
  role-same role.Fixed (role.Relocatable o f) at xs ys is = absurd (cc is)
  role-same role.Master role.Free at xs ys is = absurd (cc is)
  role-same role.Master role.Fixed at xs ys is = absurd (cc is)
  role-same role.Master role.Master at xs ys is = refl
  role-same role.Master (role.Relocatable o f) at xs ys is = absurd (cc is)
  role-same (role.Relocatable o f) role.Free at xs ys is = absurd (cc is)
  role-same (role.Relocatable o f) role.Fixed at xs ys is = absurd (cc is)
  role-same (role.Relocatable o f) role.Master at xs ys is = absurd (cc is)
  role-same (role.Relocatable o f) (role.Relocatable p g) at xs ys is =
      let handle : base + o ≡ base + p = cc is in
      let offset : o ≡ p = omega arith in
      let flags : f ≡ g = cc is in
      λ i. role.Relocatable (offset i) (flags i)

  -- its contents are as long
  long-same : (r : Role) (at : ℕ) (xs ys : List ℕ) (m n : ℕ) → content_in heads base r xs ≡ shown_content heads bytes at (content_in heads base r ys) → at + length ys ≤ length bytes
      → can_be_told heads r m ≡ true → can_be_told heads r n ≡ true → length xs + m ≡ length ys + n → (r ≡ role.Master → length xs ≡ 256) → has_use base r (length ys) ≡ true → length xs ≡ length ys
  long-same role.Free at xs ys m n is fits told told_too all slots use_is = grind (arith, nat_tests)
  long-same role.Fixed at xs ys m n is fits told told_too all slots use_is = let same : xs ≡ part bytes at (length ys) = cc is in ap length same ∙ length-part bytes at (length ys) fits
  long-same role.Master at xs ys m n is fits told told_too all slots use_is = slots refl ∙ sym (eqb-true (length ys) 256 use_is)
  long-same (role.Relocatable o f) at xs ys m n is fits told told_too all slots use_is = let same : xs ≡ part bytes at (length ys) = cc is in ap length same ∙ length-part bytes at (length ys) fits

  -- the second of three lists in a row
  middle : (xs front mid rear : List ℕ) (at n k : ℕ) → drop at xs ≡ front ++ (mid ++ rear) → length front ≡ n → length mid ≡ k → (part xs (at + n) k ≡ mid) × (drop (at + n) xs ≡ mid ++ rear)
  middle xs front mid rear at n k is long_front long_mid =
      let after : drop (at + n) xs ≡ mid ++ rear = sym (drop-drop n at xs) ∙ ap (drop n) is ∙ drop_at front (mid ++ rear) n long_front in
      (ap (take k) after ∙ take_at mid rear k long_mid, after)

  module _ (at : ℕ) (b c : RawBlock) (more : List ℕ) (fits : at + size_of heads b ≤ length bytes) (sound : is_sound heads base b ≡ true) (possible : is_possible heads c ≡ true) (words : HasWords heads c)
      (same : record_in heads base c ≡ record (record_in heads base b) { content = shown_content heads bytes (at + head_size heads) (content_in heads base b.role b.contents) })
      (is : drop at bytes ≡ head_bytes heads base (header_of heads c) ++ (c.contents ++ (c.slack ++ more))) where
    abbrev first : ℕ
    first = at + head_size heads

    abbrev its : Sound heads base b
    its = sound-parts heads base b sound

    content : content_in heads base c.role c.contents ≡ shown_content heads bytes first (content_in heads base b.role b.contents)
    content = ap (λ (r : BlockRecord). r.content) same

    the_role : c.role ≡ b.role
    the_role = role-same c.role b.role first c.contents b.contents content

    size : size_of heads c ≡ size_of heads b
    size = ap (λ (r : BlockRecord). r.size) same

    told : can_be_told heads b.role (length c.slack) ≡ true
    told = ap (λ r. can_be_told heads r (length c.slack)) (sym the_role) ∙ (IsPossible-from heads c possible).told

    contents-long : length c.contents ≡ length b.contents
    contents-long = long-same b.role first c.contents b.contents (length c.slack) (length b.slack) (ap (λ r. content_in heads base r c.contents) (sym the_role) ∙ content) (omega arith) told its.told
        (let e = size in omega arith) (λ master. ap length (words (the_role ∙ master)) ∙ length-words heads (slots_in heads slot_count c.contents) ∙ ap (λ n. 4 * n) (length-slots_in heads slot_count c.contents)) its.use_is

    slack-long : length c.slack ≡ length b.slack
    slack-long = let e = size in let f = contents-long in omega arith

    there : (part bytes first (length b.contents) ≡ c.contents) × (drop first bytes ≡ c.contents ++ (c.slack ++ more))
    there = middle bytes (head_bytes heads base (header_of heads c)) c.contents (c.slack ++ more) at (head_size heads) (length b.contents) is (length-head_bytes heads base (header_of heads c)) contents-long

    after : (part bytes (first + length b.contents) (length b.slack) ≡ c.slack) × (drop (first + length b.contents) bytes ≡ c.slack ++ more)
    after = middle bytes c.contents c.slack more first (length b.contents) (length b.slack) there.1 contents-long slack-long

    one-is : c ≡ shown_block heads bytes at b
    one-is = λ i. record { role = the_role i; contents = sym there.0 i; slack = sym after.0 i; lent = ap (λ (r : BlockRecord). r.lent) same i }

    one-agrees : b.role ≡ role.Master → SlotsAgree heads bytes slot_count first b.contents
    one-agrees master =
        let long = master-long heads base b sound master in
        let own : c.contents ≡ part bytes first 256 = sym there.0 ∙ ap (part bytes first) long in
        let slots : slots_in heads slot_count c.contents ≡ shown_slots heads bytes first (slots_in heads slot_count b.contents) =
        (let said : Master (slots_in heads slot_count c.contents) ≡ Master (shown_slots heads bytes first (slots_in heads slot_count b.contents)) =
        (λ i. content_in heads base (sym (the_role ∙ master) i) c.contents) ∙ content ∙ (λ i. shown_content heads bytes first (content_in heads base (master i) b.contents)) in cc said) in
        master-agrees heads bytes first b.contents (ap (slots_in heads slot_count) (sym own) ∙ slots) (sym own ∙ words (the_role ∙ master) ∙ ap (λ xs. words_of heads (slots_in heads slot_count xs)) own)

    one-after : drop (at + size_of heads b) bytes ≡ more
    one-after =
        ap (λ n. drop n bytes) (let e : at + size_of heads b ≡ first + length b.contents + length b.slack = omega arith in e)
        ∙ sym (drop-drop (length b.slack) (first + length b.contents) bytes) ∙ ap (drop (length b.slack)) after.1 ∙ drop_at c.slack more (length b.slack) slack-long

  -- so of many
  pub blocks-are : (at : ℕ) (bs cs : List RawBlock) (rest : List ℕ) → at + raw.total_of heads bs ≤ length bytes → list_all (is_sound heads base) bs ≡ true → list_all (is_possible heads) cs ≡ true → All (HasWords heads) cs
      → read heads base cs ≡ shown_blocks heads bytes at (read heads base bs) → drop at bytes ≡ rendered heads base cs ++ rest → (cs ≡ raw_structure.shown_blocks heads bytes at bs) × EachMaster agree heads at bs
  blocks-are at [] [] rest fits sound possible words same is = (refl, tt)
  blocks-are at [] (c ∷ cs) rest fits sound possible words same is = absurd (cc same)
  blocks-are at (b ∷ bs) [] rest fits sound possible words same is = absurd (cc same)
  blocks-are at (b ∷ bs) (c ∷ cs) rest fits sound possible words same is =
      let all : at + (size_of heads b + raw.total_of heads bs) ≤ length bytes = fits in
      let here : at + size_of heads b ≤ length bytes = omega arith in
      let s = and_parts (is_sound heads base b) (list_all (is_sound heads base) bs) sound in
      let p = and_parts (is_possible heads c) (list_all (is_possible heads) cs) possible in
      let w = All-head (HasWords heads) c cs words in
      let more = rendered heads base cs ++ rest in
      let record_is : record_in heads base c ≡ record (record_in heads base b) { content = shown_content heads bytes (at + head_size heads) (content_in heads base b.role b.contents) } = cc same in
      let records : read heads base cs ≡ shown_blocks heads bytes (at + size_of heads b) (read heads base bs) = cc same in
      let parts : drop at bytes ≡ head_bytes heads base (header_of heads c) ++ (c.contents ++ (c.slack ++ more)) = is ∙ simp append_assoc in
      let others = blocks-are (at + size_of heads b) bs cs rest (omega arith) s.1 p.1 (All-tail (HasWords heads) c cs words) records (one-after at b c more here s.0 p.0 w record_is parts) in
      (λ i. one-is at b c more here s.0 p.0 w record_is parts i ∷ others.0 i, (one-agrees at b c more here s.0 p.0 w record_is parts, others.1))
