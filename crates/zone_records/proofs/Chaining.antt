-- A new master block: a pointer's block until the words of its slots are written.
use Rattle.std.proofs.Common.{◌≡◌, ℕ, ◌+◌, ◌%◌, ◌≤◌, true, List, [], ◌∷◌, ◌++◌, length, refl, ap, sym, ◌∙◌, subst, arith}
use Rattle.std.specs.Prelude.{◌==◌}
use Rattle.std.specs.List.{list_all}
use Rattle.std.proofs.lemmas.Bool.Decides.{nat_tests}
use Rattle.std.proofs.lemmas.Bool.{and_parts}
use Rattle.mac_base.specs.declared.block.HeadKind.{HeadKind}
use Rattle.mac_base.specs.declared.block.HeadKind.TheVariants.{Bits24, Bits32}
use Rattle.mac_base.specs.HeadKind.{head_size, slot_count, master_length, address_end}
use Rattle.mac_base.proofs.Reach.{end-small}
use Rattle.block_bytes.specs.declared.header.Role.TheVariants as role
use Rattle.block_bytes.specs.Layout as raw
use Rattle.block_bytes.specs.Layout.{RawBlock, Layout, BlockAt, UnlentAt, CanBe, CanTurn, with_blocks, in_role, size_of}
use Rattle.block_bytes.specs.WritingBack as back
use Rattle.zone_records.specs.declared.slot.Slot.TheVariants.{Free}
use Rattle.zone_records.specs.Records.{Master, ZoneRecords}
use Rattle.zone_records.specs.Places.{RoomFor, can_say}
use Rattle.zone_records.specs.Changes.{filled, chained}
use Rattle.zone_records.specs.Word.{slots_in, words_of}
use Rattle.zone_records.specs.Reading.{is_sound}
use Rattle.zone_records.proofs.Words.{length-chained, slots-words, sayable-chain}
use Rattle.zone_records.proofs.Apart.{One}
use Rattle.zone_records.proofs.Held.{Held, heads-is, end-one, sound-two}
use Rattle.zone_records.proofs.Looking.{sound-parts}
use Rattle.zone_records.proofs.Holding.{sound-same, raw-overwritten, overwritten-all}
use Rattle.zone_records.proofs.Blocks.{have-parts, raw-parts, sound-possible}
use Rattle.zone_records.proofs.Placing.{free_one, free-place, free-size, place-few, place-sound, place-can, place-unlent, placed, Assigned, filled-with}

-- the sizes of sound blocks are multiples of four
total-even : (heads : HeadKind) (base : ℕ) (bs : List RawBlock) → list_all (is_sound heads base) bs ≡ true → raw.total_of heads bs % 4 ≡ 0
total-even heads base [] sound = refl
total-even heads base (b ∷ bs) sound =
    let parts = and_parts (is_sound heads base b) (list_all (is_sound heads base) bs) sound in
    let rest = total-even heads base bs parts.1 in
    let here = four (size_of heads b) (sound-parts heads base b parts.0).even in
    omega arith
  where
    four : (n : ℕ) → (n % 4 == 0) ≡ true → n % 4 ≡ 0
    four n h = grind (arith, nat_tests)

pub head-even : (heads : HeadKind) → head_size heads % 4 ≡ 0
head-even Bits24 = refl
head-even Bits32 = refl

module _ (l : Layout) (z : ZoneRecords) (held : Held l z) (at : ℕ) (r : RoomFor z at master_length) where
  -- slots can say where the slots are
  pub master-end : at + head_size z.shape.heads + 256 ≤ address_end z.shape.heads
  master-end =
      let o = free_one l z held at r.free in
      let high = end-one l o.first o.block o.rest held.sound o.blocks in
      let end = ap address_end (heads-is l z held) in
      let place = free-place l z held at r.free in
      let size = free-size l z held at r.free in
      let room = (have-parts z.shape r.free.size master_length r.room).1 in
      omega arith

  -- that has 32 bits
  pub master-range : at + head_size z.shape.heads + 256 ≤ 0xFFFF_FFFF
  master-range = let end = master-end in let small = end-small z.shape.heads in omega arith

  -- they are at multiples of four
  pub master-even : (at + head_size z.shape.heads) % 4 ≡ 0
  master-even =
      let o = free_one l z held at r.free in
      let place = free-place l z held at r.free in
      let even = held.sound.even in
      let total = total-even l.heads l.base o.first (sound-two l o.first (o.block ∷ o.rest) held.sound o.blocks).0 in
      let head = head-even z.shape.heads in
      omega arith

  abbrev o : One l r.free.before (Rattle.zone_records.specs.Records.block_record Rattle.zone_records.specs.Records.Free r.free.size) r.free.after
  o = free_one l z held at r.free

  -- the block that is placed, with other contents: a pointer's, and a master block
  abbrev fixed : List ℕ → RawBlock
  fixed ws = record (placed l z held at master_length r role.Fixed (λ k. refl) refl) { contents = ws }

  abbrev master : List ℕ → RawBlock
  master ws = record (placed l z held at master_length r role.Master (λ k. refl) refl) { contents = ws }

  -- the free block can be a pointer's
  pub fixed-can : CanBe l at role.Fixed master_length
  fixed-can = place-can l z held at master_length r role.Fixed (λ k. refl) refl

  abbrev pub Placed : Layout → Type 0
  Placed m = Assigned l z held at master_length r role.Fixed (λ k. refl) refl m

  pub fixed-unlent : (m : Layout) → Placed m → UnlentAt m at
  fixed-unlent m ends = place-unlent l z held at master_length r role.Fixed (λ k. refl) refl m ends

  -- how long its contents are
  fixed-all : length (placed l z held at master_length r role.Fixed (λ k. refl) refl).contents ≡ 256
  fixed-all = (raw-parts l.heads role.Fixed master_length (raw.body o.block) (place-few l z held at master_length r role.Fixed (λ k. refl) refl)).0

  pub fixed-long : (m : Layout) → Placed m → (xs : List ℕ) → ((b : BlockAt m at) → xs ≡ b.here.contents) → length xs ≡ 256
  unfolding fixed-can
  fixed-long m ends xs is =
      let here : (b : BlockAt (with_blocks (o.first ++ placed l z held at master_length r role.Fixed (λ k. refl) refl ∷ o.rest) l) at) → xs ≡ b.here.contents =
      subst (λ m. (b : BlockAt m at) → xs ≡ b.here.contents) (ends fixed-can) is in
      ap length (here (record { before = o.first; here = placed l z held at master_length r role.Fixed (λ k. refl) refl; after = o.rest; blocks = refl; place = free-place l z held at r.free })) ∙ fixed-all

  module _ (ws : List ℕ) (long : length ws ≡ 256) where
    abbrev filled_in : Layout
    filled_in = with_blocks (o.first ++ fixed ws ∷ o.rest) l

    -- it is filled
    pub fixed-written : (m : Layout) → Placed m → back.with_contents_at m at ws ≡ filled_in
    unfolding fixed-can
    fixed-written m ends =
        let place = free-place l z held at r.free in
        let all = fixed-all in
        ap (λ m. back.with_contents_at m at ws) (ends fixed-can)
        ∙ ap (λ bs. with_blocks bs l) (raw-overwritten l.heads (raw.address_after l []) at ws o.first (placed l z held at master_length r role.Fixed (λ k. refl) refl) o.rest (omega arith)
        ∙ ap (λ cs. o.first ++ fixed cs ∷ o.rest) (overwritten-all (placed l z held at master_length r role.Fixed (λ k. refl) refl).contents ws (omega arith)))

    turn_can : CanTurn filled_in at role.Master
    turn_can = record {
      block = record { before = o.first; here = fixed ws; after = o.rest; blocks = refl; place = free-place l z held at r.free };
      possible = sound-possible l.heads l.base (master ws) (sound-same l.heads l.base (placed l z held at master_length r role.Master (λ k. refl) refl) ws (long ∙ sym fixed-all) (place-sound l z held at master_length r role.Master (λ k. refl) refl));
      same = refl;
    }

    -- then it can be a master block
    pub turn-can : (k : Layout) → k ≡ filled_in → CanTurn k at role.Master
    turn-can k is = subst (λ k. CanTurn k at role.Master) (sym is) turn_can

    -- which has the slots whose words these are
    pub master-ends : (k m : Layout) (last : ℕ) → can_say z.shape.heads (Free last) ≡ true → ws ≡ words_of z.shape.heads (chained slot_count (at + head_size z.shape.heads) last) → k ≡ filled_in
        → ((can : CanTurn k at role.Master) → m ≡ with_blocks (can.block.before ++ in_role can.block.here role.Master ∷ can.block.after) k)
        → Held m (filled (Master (chained slot_count (at + head_size z.shape.heads) last)) z r.free)
    unfolding turn_can
    master-ends k m last sayable words is ends =
        let chain = chained slot_count (at + head_size z.shape.heads) last in
        let here : (can : CanTurn filled_in at role.Master) → m ≡ with_blocks (can.block.before ++ in_role can.block.here role.Master ∷ can.block.after) filled_in =
        subst (λ k. (can : CanTurn k at role.Master) → m ≡ with_blocks (can.block.before ++ in_role can.block.here role.Master ∷ can.block.after) k) is ends in
        let heads = heads-is l z held in
        let form : ws ≡ words_of l.heads chain = words ∙ ap (λ k. words_of k chain) (sym heads) in
        let all = sayable-chain z.shape.heads slot_count (at + head_size z.shape.heads) last master-even master-end sayable in
        let slots : slots_in l.heads slot_count ws ≡ chain =
        (λ i. slots_in l.heads (sym (length-chained slot_count (at + head_size z.shape.heads) last) i) (form i))
        ∙ slots-words l.heads chain (ap (λ k. list_all (can_say k) chain) heads ∙ all) in
        subst (λ m. Held m (filled (Master chain) z r.free)) (sym (here turn_can))
        (subst (λ ss. Held (with_blocks (o.first ++ master ws ∷ o.rest) l) (filled (Master ss) z r.free)) slots
        (filled-with l z held at master_length r role.Master (λ k. refl) refl ws (long ∙ sym fixed-all) (λ is. form ∙ sym (ap (words_of l.heads) slots))))
