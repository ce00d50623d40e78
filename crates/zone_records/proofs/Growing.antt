-- How the call ends that gives a block bytes of the free one after it.
use Rattle.std.proofs.Common.{◌≡◌, ℕ, ◌+◌, ◌-◌, ◌≤◌, true, false, List, [], ◌∷◌, ◌++◌, length, take, refl, ap, sym, ◌∙◌, subst, arith, append_assoc, take_at}
use Rattle.std.proofs.lemmas.List.{take_all}
use Rattle.std.proofs.lemmas.Bool.{and_from}
use Rattle.mac_base.specs.HeadKind.{head_size}
use Rattle.mac_base.specs.HandleTable.{resized}
use Rattle.block_bytes.specs.Head.{head_bytes}
use Rattle.block_bytes.specs.Layout.{RawBlock, Layout, CanMerge, body, raw_block, size_of, header_of, joint_body, with_blocks}
use Rattle.zone_records.specs.Records as records
use Rattle.zone_records.specs.Records.{Content, Free, Fixed, Master, Relocatable, BlockRecord, block_record, ZoneRecords, with_bytes, bytes_of, length_of}
use Rattle.zone_records.specs.Places.{RecordAt, CanHold, CanGrow, has_bytes}
use Rattle.zone_records.specs.Changes.{enlarged, free_record}
use Rattle.zone_records.specs.Fitting.{fitted, CanKeep}
use Rattle.zone_records.specs.Reading.{content_in, is_sound}
use Rattle.zone_records.proofs.Apart.{Two}
use Rattle.zone_records.proofs.Held.{Held, words-one, changed}
use Rattle.zone_records.proofs.Looking.{sound-parts}
use Rattle.zone_records.proofs.Headers.{bytes-same, words-none, with-same}
use Rattle.zone_records.proofs.Blocks.{raw-parts, sound-raw}
use Rattle.zone_records.proofs.Neighbours.{grow_pair, t, sizes, both-sound, both-sized, joint, joint-long, joint-all, can_merge}
use Rattle.zone_records.proofs.Fitted.{told-any, use-any, length-held}

-- other bytes in a block that has some
pub has-with : (content : Content) (xs : List ℕ) → has_bytes content ≡ true → has_bytes (with_bytes xs content) ≡ true
has-with Free xs h = absurd (cc h)
has-with (Fixed bytes) xs h = refl
has-with (Master slots) xs h = absurd (cc h)
has-with (Relocatable handle flags bytes) xs h = refl

bytes-with : (content : Content) (xs : List ℕ) → has_bytes content ≡ true → bytes_of (with_bytes xs content) ≡ xs
bytes-with Free xs h = absurd (cc h)
bytes-with (Fixed bytes) xs h = refl
bytes-with (Master slots) xs h = absurd (cc h)
bytes-with (Relocatable handle flags bytes) xs h = refl

with-with : (content : Content) (xs ys : List ℕ) → with_bytes ys (with_bytes xs content) ≡ with_bytes ys content
with-with Free xs ys = refl
with-with (Fixed bytes) xs ys = refl
with-with (Master slots) xs ys = refl
with-with (Relocatable handle flags bytes) xs ys = refl

-- the block is one
abbrev pub grow_record : (z : ZoneRecords) (at size n : ℕ) → CanGrow z at size n → RecordAt z at
grow_record z at size n can = record { before = can.before; here = block_record can.content can.first; after = block_record Free can.second ∷ can.after; blocks = can.blocks; place = can.place }

module _ (l : Layout) (z : ZoneRecords) (held : Held l z) (at size n : ℕ) (can : CanGrow z at size n) where
  abbrev pub pair_two : Two l can.before (block_record can.content can.first) (block_record Free can.second) can.after
  pair_two = t l z held at (grow_pair can)

  abbrev all_bytes : List ℕ
  all_bytes = joint l z held at (grow_pair can)

  abbrev pub merged_zone : ZoneRecords
  merged_zone = records.with_blocks (can.before ++ block_record (with_bytes all_bytes can.content) (can.first + can.second) ∷ can.after) z

  grow-content : content_in l.heads l.base pair_two.block.role pair_two.block.contents ≡ can.content
  grow-content = ap (λ (r : BlockRecord). r.content) pair_two.same

  grow-has : has_bytes (content_in l.heads l.base pair_two.block.role pair_two.block.contents) ≡ true
  grow-has = ap has_bytes grow-content ∙ can.held

  grow-bytes : pair_two.block.contents ≡ bytes_of can.content
  grow-bytes = sym (bytes-same l.heads l.base pair_two.block.role pair_two.block.contents grow-has) ∙ ap bytes_of grow-content

  module _ (k : ℕ) (is : k ≡ can.first + can.second - head_size l.heads) where
    abbrev joined : RawBlock
    joined = raw_block pair_two.block.role k all_bytes

    joined-sound : is_sound l.heads l.base joined ≡ true
    joined-sound =
        let long = joint-long l z held at (grow_pair can) in
        let count = joint-all l z held at (grow_pair can) k is in
        let s = sound-parts l.heads l.base pair_two.block (both-sound l z held at (grow_pair can)).0 in
        sound-raw l.heads l.base pair_two.block.role k all_bytes (can.first + can.second) (omega arith) long (both-sized l z held at (grow_pair can)) (omega arith)
        (λ n over. told-any l.heads l.base pair_two.block.role pair_two.block.contents (length pair_two.block.slack) n grow-has s.told) (use-any l.heads l.base pair_two.block.role pair_two.block.contents (length pair_two.block.contents) k grow-has s.use_is)

    pub grow-can : CanMerge l at k
    grow-can = can_merge l z held at (grow_pair can) k is joined-sound

    -- they are one then
    pub grow-merged : (m : Layout) → ((can : CanMerge l at k) → m ≡ with_blocks (can.pair.before ++ raw_block can.pair.here.role k (joint_body l can.pair.here can.pair.next) ∷ can.pair.after) l) → Held m merged_zone
    grow-merged m ends =
        let long = joint-long l z held at (grow_pair can) in
        let count = joint-all l z held at (grow_pair can) k is in
        let sizes = sizes l z held at (grow_pair can) in
        let first = sizes.0 in
        let second = sizes.1 in
        let p = (raw-parts l.heads pair_two.block.role k all_bytes (omega arith)).2 in
        let size : size_of l.heads joined ≡ can.first + can.second = omega arith in
        let content : content_in l.heads l.base pair_two.block.role (take k all_bytes) ≡ with_bytes all_bytes can.content =
        ap (content_in l.heads l.base pair_two.block.role) (take_all k all_bytes (omega arith)) ∙ sym (with-same l.heads l.base pair_two.block.role pair_two.block.contents all_bytes grow-has) ∙ ap (with_bytes all_bytes) grow-content in
        subst (λ m. Held m merged_zone) (sym (ends (can_merge l z held at (grow_pair can) k is joined-sound)))
        (changed l z held pair_two.first (pair_two.block ∷ pair_two.other ∷ []) (joined ∷ []) pair_two.rest can.before (block_record (with_bytes all_bytes can.content) (can.first + can.second) ∷ []) can.after pair_two.blocks pair_two.lower pair_two.upper
        (λ i. record { size = size i; content = content i; lent = false } ∷ []) (omega arith)
        (and_from _ _ joined-sound refl) (words-one l.heads joined (words-none l.heads l.base joined pair_two.block.contents grow-has)))

  -- the one block can be cut
  abbrev pub grown : CanHold merged_zone at size n
  grown = record {
    held = record {
      before = can.before;
      size = can.first + can.second;
      content = with_bytes all_bytes can.content;
      after = can.after;
      blocks = refl;
      place = can.place;
      held = has-with can.content all_bytes can.held;
    };
    fits = can.fits;
  }

  module _ (kept : ℕ) (is : kept ≡ length_of can.content) where
    kept-all : kept ≡ length pair_two.block.contents
    kept-all = is ∙ length-held can.content can.held ∙ ap length (sym grow-bytes)

    pub kept-few : kept ≤ length (bytes_of (with_bytes all_bytes can.content))
    kept-few =
        let same = ap length (bytes-with can.content all_bytes can.held) in
        let all = kept-all in
        let long = joint-long l z held at (grow_pair can) in
        let size = (sizes l z held at (grow_pair can)).0 in
        omega arith

    abbrev pub grow-keep : CanKeep merged_zone at size n kept
    grow-keep = record { can = grown; few = kept-few }

    -- then the block has its bytes
    pub grow-all : fitted kept merged_zone grown ≡ enlarged z can
    grow-all =
        let bytes : take kept (bytes_of (with_bytes all_bytes can.content)) ≡ bytes_of can.content =
        ap (take kept) (bytes-with can.content all_bytes can.held ∙ append_assoc pair_two.block.contents pair_two.block.slack (head_bytes l.heads l.base (header_of l.heads pair_two.other) ++ body pair_two.other))
        ∙ take_at pair_two.block.contents (pair_two.block.slack ++ (head_bytes l.heads l.base (header_of l.heads pair_two.other) ++ body pair_two.other)) kept (sym kept-all) ∙ grow-bytes in
        ap (λ content. records.with_blocks (can.before ++ block_record content size ∷ free_record (can.first + can.second - size) ++ can.after) z)
        (ap (λ xs. with_bytes (resized n xs) (with_bytes all_bytes can.content)) bytes ∙ with-with can.content all_bytes (resized n (bytes_of can.content)))
