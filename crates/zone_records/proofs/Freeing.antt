-- Blocks that become free, free ones that are cut in two or made one, and zones of which nothing is lent.
use Rattle.std.proofs.Common.{◌≡◌, ℕ, suc, ◌+◌, ◌-◌, ◌<◌, Bool, true, false, not, cond, List, [], ◌∷◌, ◌++◌, length, take, drop, refl, ap, sym, ◌∙◌, subst, arith, length-take-le, length-drop}
use Rattle.std.specs.List.{list_all}
use Rattle.std.proofs.lemmas.Bool.{and_parts, and_from}
use Rattle.mac_base.specs.declared.block.HeadKind.{HeadKind}
use Rattle.mac_base.specs.HeadKind.{head_size}
use Rattle.block_bytes.specs.declared.header.Role.TheVariants as role
use Rattle.block_bytes.specs.Layout.{RawBlock, Layout, BlockAt, CanSplit, CanMerge, body, raw_block, free_raw_block, size_of, front_of, rest_of, joint_body, with_blocks, lent_count}
use Rattle.block_bytes.proofs.Changes.{size-body}
use Rattle.zone_records.specs.Records.{Free, BlockRecord, block_record, ZoneRecords}
use Rattle.zone_records.specs.Places.{FreeAt, HeldAt, CanCut, FreePair}
use Rattle.zone_records.specs.Changes.{emptied, cut_in_two, joined_pair}
use Rattle.zone_records.specs.Reading.{content_in, is_sound}
use Rattle.zone_records.proofs.Apart.{read, Two}
use Rattle.zone_records.proofs.Held.{Held, heads-is, sound-one, words-one, words-two, words-free, changed}
use Rattle.zone_records.proofs.Holding.{held_one, held-block, held-size}
use Rattle.zone_records.proofs.Blocks.{sized, sized-head, raw-parts, sound-raw, sound-free, sound-possible, free-told}
use Rattle.zone_records.proofs.Neighbours.{sound-sized, free_pair, t, sizes, both-sized, joint, joint-long, joint-all, can_merge}
use Rattle.zone_records.proofs.Placing.{free_one, free-block, free-size, free-is, free-long, free-role}

-- where nothing of the list is lent, no block of bytes is
pub none-lent : (heads : HeadKind) (base : ℕ) (bs : List RawBlock) → list_all (λ b. not b.lent) (read heads base bs) ≡ true → lent_count bs ≡ 0
none-lent heads base [] none = refl
none-lent heads base (b ∷ bs) none =
    let parts = and_parts (not b.lent) (list_all (λ b. not b.lent) (read heads base bs)) none in
    ap (λ t. cond t (suc (lent_count bs)) (lent_count bs)) (unlent b.lent parts.0) ∙ none-lent heads base bs parts.1
  where
    unlent : (t : Bool) → not t ≡ true → t ≡ false
    unlent true h = absurd (cc h)
    unlent false h = refl

module _ (l : Layout) (z : ZoneRecords) (held : Held l z) (at : ℕ) where
  -- a block becomes free
  pub empty-ends : (h : HeldAt z at) (m : Layout) → ((b : BlockAt l at) → m ≡ with_blocks (b.before ++ free_raw_block (body b.here) ∷ b.after) l) → Held m (emptied z h)
  empty-ends h m ends =
      let o = held_one l z held at h in
      let b = o.block in
      let now = free_raw_block (body b) in
      let long = size-body l.heads b in
      let size : size_of l.heads now ≡ size_of l.heads b = omega arith in
      let sound = sound-one l o.first b o.rest held.sound o.blocks in
      subst (λ m. Held m (emptied z h)) (sym (ends (held-block l z held at h).block))
      (changed l z held o.first (b ∷ []) (now ∷ []) o.rest h.before (block_record Free h.size ∷ []) h.after o.blocks o.lower o.upper
      (λ i. record { size = (size ∙ held-size l z held at h) i; content = Free; lent = false } ∷ []) (omega arith)
      (and_from _ _ (sound-free l.heads l.base (body b) (size_of l.heads b) (sym long) (sound-sized l.heads l.base b sound)) refl) (words-one l.heads now (words-free l.heads now refl)))

  -- a free block is cut in two
  module _ (size n : ℕ) (can : CanCut z at size) (is : n ≡ size - head_size l.heads) where
    abbrev f : FreeAt z at
    f = can.free

    abbrev b : RawBlock
    b = (free_one l z held at f).block

    cut-sized : (sized l.heads size ≡ true) × (sized l.heads (f.size - size) ≡ true)
    cut-sized = subst (λ k. (sized k size ≡ true) × (sized k (f.size - size) ≡ true)) (sym (heads-is l z held)) (can.front, can.rest)

    cut-first : head_size l.heads < size
    cut-first = sized-head l.heads size cut-sized.0

    cut-second : head_size l.heads < f.size - size
    cut-second = sized-head l.heads (f.size - size) cut-sized.1

    -- the two parts
    abbrev front : RawBlock
    front = raw_block b.role n (take (size - head_size l.heads) (body b))

    abbrev rest : RawBlock
    rest = free_raw_block (drop size (body b))

    cut-long : length (take (size - head_size l.heads) (body b)) ≡ n
    cut-long =
        let first = cut-first in
        let second = cut-second in
        let all = free-long l z held at f in
        length-take-le (size - head_size l.heads) (body b) (omega arith) ∙ sym is

    front-sound : is_sound l.heads l.base front ≡ true
    front-sound =
        let long = cut-long in
        let first = cut-first in
        let free = free-is l z held at f in
        ap (λ r. is_sound l.heads l.base (raw_block r n (take (size - head_size l.heads) (body b)))) free
        ∙ sound-raw l.heads l.base role.Free n (take (size - head_size l.heads) (body b)) size (omega arith) (omega arith) cut-sized.0 (omega arith) (λ k none. free-told l.heads k (omega arith)) refl

    rest-long : head_size l.heads + length (drop size (body b)) ≡ f.size - size
    rest-long =
        let first = cut-first in
        let second = cut-second in
        let all = free-long l z held at f in
        let over = length-drop size (body b) in
        omega arith

    rest-sound : is_sound l.heads l.base rest ≡ true
    rest-sound = sound-free l.heads l.base (drop size (body b)) (f.size - size) rest-long cut-sized.1

    abbrev cut-can : CanSplit l at size n
    cut-can = record {
      block = (free-block l z held at f).block;
      large = (let first = cut-first in omega arith);
      within = (let first = cut-first in omega arith);
      smaller = (let second = cut-second in let all = free-size l z held at f in omega arith);
      front = sound-possible l.heads l.base front front-sound;
      rest = sound-possible l.heads l.base rest rest-sound;
      unlent = (free-block l z held at f).unlent;
    }

    pub cut-can_be : CanSplit l at size n
    cut-can_be = cut-can

    pub cut-ends : (m : Layout) → ((can : CanSplit l at size n) → m ≡ with_blocks (can.block.before ++ front_of l can ∷ rest_of l can ∷ can.block.after) l) → Held m (cut_in_two size z can.free)
    cut-ends m ends =
        let o = free_one l z held at f in
        let long = cut-long in
        let over = rest-long in
        let first = cut-first in
        let second = cut-second in
        let free = free-is l z held at f in
        let all = free-size l z held at f in
        let p = (raw-parts l.heads b.role n (take (size - head_size l.heads) (body b)) (omega arith)).2 in
        let front_size : size_of l.heads front ≡ size = omega arith in
        let rest_size : size_of l.heads rest ≡ f.size - size = omega arith in
        subst (λ m. Held m (cut_in_two size z can.free)) (sym (ends cut-can))
        (changed l z held o.first (b ∷ []) (front ∷ rest ∷ []) o.rest f.before (block_record Free size ∷ block_record Free (f.size - size) ∷ []) f.after o.blocks o.lower o.upper
        (λ i. record { size = front_size i; content = ap (λ r. content_in l.heads l.base r front.contents) free i; lent = false } ∷ record { size = rest_size i; content = Free; lent = false } ∷ []) (omega arith)
        (and_from _ _ front-sound (and_from _ _ rest-sound refl)) (words-two l.heads front rest (words-free l.heads front free) (words-free l.heads rest refl)))

  -- two free neighbours become one
  module _ (pair : FreePair z at) where
    abbrev pair_two : Two l pair.before (block_record Free pair.first) (block_record Free pair.second) pair.after
    pair_two = t l z held at (free_pair pair)

    module _ (n : ℕ) (is : n ≡ pair.first + pair.second - head_size l.heads) where
      abbrev bytes : List ℕ
      bytes = joint l z held at (free_pair pair)

      abbrev joined : RawBlock
      joined = raw_block pair_two.block.role n bytes

      joined-role : pair_two.block.role ≡ role.Free
      joined-role = free-role l.heads l.base pair_two.block.role pair_two.block.contents (ap (λ (r : BlockRecord). r.content) pair_two.same)

      joined-sound : is_sound l.heads l.base joined ≡ true
      joined-sound =
          let all = joint-long l z held at (free_pair pair) in let count = joint-all l z held at (free_pair pair) n is in
          ap (λ r. is_sound l.heads l.base (raw_block r n bytes)) joined-role
          ∙ sound-raw l.heads l.base role.Free n bytes (pair.first + pair.second) (omega arith) all (both-sized l z held at (free_pair pair)) (omega arith) (λ k none. free-told l.heads k (omega arith)) refl

      pub can-merge : CanMerge l at n
      can-merge = can_merge l z held at (free_pair pair) n is joined-sound

      pub merge-ends : (m : Layout) → ((can : CanMerge l at n) → m ≡ with_blocks (can.pair.before ++ raw_block can.pair.here.role n (joint_body l can.pair.here can.pair.next) ∷ can.pair.after) l) → Held m (joined_pair z pair)
      merge-ends m ends =
          let all = joint-long l z held at (free_pair pair) in let count = joint-all l z held at (free_pair pair) n is in
          let sizes = sizes l z held at (free_pair pair) in
          let first = sizes.0 in
          let second = sizes.1 in
          let p = (raw-parts l.heads pair_two.block.role n bytes (omega arith)).2 in
          let size : size_of l.heads joined ≡ pair.first + pair.second = omega arith in
          subst (λ m. Held m (joined_pair z pair)) (sym (ends (can_merge l z held at (free_pair pair) n is joined-sound)))
          (changed l z held pair_two.first (pair_two.block ∷ pair_two.other ∷ []) (joined ∷ []) pair_two.rest pair.before (block_record Free (pair.first + pair.second) ∷ []) pair.after pair_two.blocks pair_two.lower pair_two.upper
          (λ i. record { size = size i; content = ap (λ r. content_in l.heads l.base r joined.contents) joined-role i; lent = false } ∷ []) (omega arith)
          (and_from _ _ joined-sound refl) (words-one l.heads joined (words-free l.heads joined joined-role)))
