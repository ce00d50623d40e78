-- A free block that is made another.
use Rattle.std.proofs.Common.{◌≡◌, ℕ, ◌+◌, ◌-◌, ◌<◌, ◌≤◌, ◌^◌, nat_lt, true, false, List, [], ◌∷◌, ◌++◌, length, replicate, refl, ap, sym, ◌∙◌, subst, arith}
use Rattle.std.proofs.lemmas.Bool.Decides.{nat_tests}
use Rattle.std.proofs.lemmas.List.{length-replicate}
use Rattle.std.proofs.lemmas.Bool.{and_from}
use Rattle.mac_base.specs.declared.block.HeadKind.{HeadKind}
use Rattle.mac_base.specs.HeadKind.{head_size}
use Rattle.mac_base.specs.declared.block.HeadKind.TheVariants.{Bits24, Bits32}
use Rattle.mac_base.specs.HandleTable.{zeros, no_flags}
use Rattle.block_bytes.specs.declared.header.Role.{Role}
use Rattle.block_bytes.specs.declared.header.Role.TheVariants as role
use Rattle.block_bytes.specs.Head as head
use Rattle.block_bytes.specs.Layout.{RawBlock, Layout, BlockAt, UnlentAt, CanBe, body, raw_block, cleared, size_of, with_blocks, can_be_told, can_say}
use Rattle.block_bytes.proofs.Changes.{size-body}
use Rattle.zone_records.specs.Records.{Free, Relocatable, BlockRecord, block_record, ZoneRecords}
use Rattle.zone_records.specs.Places.{FreeAt, RoomFor}
use Rattle.zone_records.specs.Changes.{filled}
use Rattle.zone_records.specs.Reading.{content_in, has_use, is_sound, HasWords}
use Rattle.zone_records.proofs.Apart.{One}
use Rattle.zone_records.proofs.Held.{Held, heads-is, base-is, address-is, one, words-one, changed}
use Rattle.zone_records.proofs.Holding.{sound-same}
use Rattle.zone_records.proofs.Blocks.{sized, have-parts, raw-parts, sound-raw, sound-possible}

-- a role that says a free block
pub free-role : (heads : HeadKind) (base : ℕ) (r : Role) (bytes : List ℕ) → content_in heads base r bytes ≡ Free → r ≡ role.Free
free-role heads base role.Free bytes is = refl
free-role heads base role.Fixed bytes is = absurd (cc is)
free-role heads base role.Master bytes is = absurd (cc is)
free-role heads base (role.Relocatable offset flags) bytes is = absurd (cc is)

module _ (l : Layout) (z : ZoneRecords) (held : Held l z) (at : ℕ) where
  module _ (f : FreeAt z at) where
    -- its bytes
    abbrev pub free_one : One l f.before (block_record Free f.size) f.after
    free_one = one l z held f.before (block_record Free f.size) f.after f.blocks

    pub free-place : at ≡ Rattle.block_bytes.specs.Layout.address_after l free_one.first
    free-place = f.place ∙ address-is l z held free_one.first f.before free_one.lower

    abbrev pub free-block : UnlentAt l at
    free-block = record {
      block = record { before = free_one.first; here = free_one.block; after = free_one.rest; blocks = free_one.blocks; place = free-place };
      unlent = ap (λ (r : BlockRecord). r.lent) free_one.same;
    }

    pub free-size : size_of l.heads free_one.block ≡ f.size
    free-size = ap (λ (r : BlockRecord). r.size) free_one.same

    pub free-is : free_one.block.role ≡ role.Free
    free-is = free-role l.heads l.base free_one.block.role free_one.block.contents (ap (λ (r : BlockRecord). r.content) free_one.same)

    -- its header and its body are all of it
    pub free-long : head_size l.heads + length (body free_one.block) ≡ f.size
    free-long = sym (size-body l.heads free_one.block) ∙ free-size

  module _ (n : ℕ) (r : RoomFor z at n) (use_for : Role) (told : (k : ℕ) → can_be_told l.heads use_for k ≡ true) (use_is : has_use l.base use_for n ≡ true) where
    abbrev b : RawBlock
    b = (free_one r.free).block

    -- the block then
    abbrev pub placed : RawBlock
    placed = raw_block use_for n (body b)

    room : (sized l.heads r.free.size ≡ true) × (head_size l.heads + n ≤ r.free.size) × (r.free.size ≤ head_size l.heads + n + head.most_over l.heads)
    room = subst (λ k. (sized k r.free.size ≡ true) × (head_size k + n ≤ r.free.size) × (r.free.size ≤ head_size k + n + head.most_over k)) (sym (heads-is l z held)) (have-parts z.shape r.free.size n r.room)

    pub place-few : n ≤ length (body b)
    place-few = let long = free-long r.free in let few = room.1 in omega arith

    pub place-sound : is_sound l.heads l.base placed ≡ true
    place-sound = sound-raw l.heads l.base use_for n (body b) r.free.size place-few (free-long r.free) room.0 room.2 (λ k is. told k) use_is

    -- it can be made that
    abbrev pub place-can : CanBe l at use_for n
    place-can = record { block = (free-block r.free).block; within = place-few; possible = sound-possible l.heads l.base placed place-sound; unlent = (free-block r.free).unlent }

    abbrev pub Assigned : Layout → Type 0
    Assigned m = (can : CanBe l at use_for n) → m ≡ with_blocks (can.block.before ++ raw_block use_for n (body can.block.here) ∷ can.block.after) l

    -- other contents of that length in it
    pub filled-with : (contents : List ℕ) → length contents ≡ length placed.contents → HasWords l.heads (record placed { contents = contents }) → Held (with_blocks ((free_one r.free).first ++ record placed { contents = contents } ∷ (free_one r.free).rest) l) (filled (content_in l.heads l.base use_for contents) z r.free)
    filled-with contents long words =
        let o = free_one r.free in
        let now : RawBlock = record placed { contents = contents } in
        let size : size_of l.heads now ≡ r.free.size = (let p = (raw-parts l.heads use_for n (body b) place-few).2 in let all = free-long r.free in omega arith) in
        let old = free-size r.free in
        changed l z held o.first (b ∷ []) (now ∷ []) o.rest r.free.before (block_record (content_in l.heads l.base use_for contents) r.free.size ∷ []) r.free.after o.blocks o.lower o.upper
        (λ i. record { size = size i; content = content_in l.heads l.base use_for contents; lent = false } ∷ []) (omega arith)
        (and_from _ _ (sound-same l.heads l.base placed contents long place-sound) refl) (words-one l.heads now words)

    -- once it is, it can be cleared
    abbrev placed_at : UnlentAt (with_blocks ((free_one r.free).first ++ placed ∷ (free_one r.free).rest) l) at
    placed_at = record { block = record { before = (free_one r.free).first; here = placed; after = (free_one r.free).rest; blocks = refl; place = free-place r.free }; unlent = refl }

    pub place-unlent : (m : Layout) → Assigned m → UnlentAt m at
    place-unlent m ends = subst (λ m. UnlentAt m at) (sym (ends place-can)) placed_at

    -- and then is zero
    pub place-cleared : (use_for ≡ role.Master → ⊥) → (m k : Layout) → Assigned m → ((b : BlockAt m at) → k ≡ with_blocks (b.before ++ cleared b.here ∷ b.after) m) → Held k (filled (content_in l.heads l.base use_for (zeros n)) z r.free)
    place-cleared other m k ends clears =
        let o = free_one r.free in
        let long = (raw-parts l.heads use_for n (body b) place-few).0 in
        let there : (b : BlockAt (with_blocks (o.first ++ placed ∷ o.rest) l) at) → k ≡ with_blocks (b.before ++ cleared b.here ∷ b.after) l =
        subst (λ m. (b : BlockAt m at) → k ≡ with_blocks (b.before ++ cleared b.here ∷ b.after) m) (ends place-can) clears in
        subst (λ k. Held k (filled (content_in l.heads l.base use_for (zeros n)) z r.free)) (sym (there placed_at.block ∙ ap (λ n. with_blocks (o.first ++ record placed { contents = replicate n 0 } ∷ o.rest) l) long))
        (filled-with (zeros n) (length-replicate {A = ℕ} n 0 ∙ sym long) (λ is. absurd (other is)))

-- a header can say no flags
unmarked : (heads : HeadKind) → can_say heads no_flags ≡ true
unmarked Bits24 = refl
unmarked Bits32 = refl

small : (n : ℕ) → n < 2 ^ 32 → nat_lt n (2 ^ 32) ≡ true
small n low = grind (arith, nat_tests)

-- a free block that is made a handle's, by the handle's place in the zone
module _ (l : Layout) (z : ZoneRecords) (held : Held l z) (at n : ℕ) (r : RoomFor z at n) (h offset : ℕ) (above : z.shape.base ≤ h) (low : h < 2 ^ 32) (is : offset ≡ h - z.shape.base) where
  handle_is : l.base + offset ≡ h
  handle_is = let base = base-is l z held in omega arith

  handle_told : (k : ℕ) → can_be_told l.heads (role.Relocatable offset no_flags) k ≡ true
  handle_told k = and_from _ _ (small offset (let same = handle_is in omega arith)) (unmarked l.heads)

  handle_use : has_use l.base (role.Relocatable offset no_flags) n ≡ true
  handle_use = small (l.base + offset) (let same = handle_is in omega arith)

  pub handle-can : CanBe l at (role.Relocatable offset no_flags) n
  handle-can = place-can l z held at n r (role.Relocatable offset no_flags) handle_told handle_use

  pub handle-unlent : (m : Layout) → ((can : CanBe l at (role.Relocatable offset no_flags) n) → m ≡ with_blocks (can.block.before ++ raw_block (role.Relocatable offset no_flags) n (body can.block.here) ∷ can.block.after) l) → UnlentAt m at
  handle-unlent m ends = place-unlent l z held at n r (role.Relocatable offset no_flags) handle_told handle_use m ends

  pub handle-cleared : (m k : Layout) → ((can : CanBe l at (role.Relocatable offset no_flags) n) → m ≡ with_blocks (can.block.before ++ raw_block (role.Relocatable offset no_flags) n (body can.block.here) ∷ can.block.after) l)
      → ((b : BlockAt m at) → k ≡ with_blocks (b.before ++ cleared b.here ∷ b.after) m) → Held k (filled (Relocatable h no_flags (zeros n)) z r.free)
  handle-cleared m k ends clears = subst (λ h. Held k (filled (Relocatable h no_flags (zeros n)) z r.free)) handle_is (place-cleared l z held at n r (role.Relocatable offset no_flags) handle_told handle_use (λ is. absurd (cc is)) m k ends clears)
