-- Where each slot that says an address says its handle's block, and these slots are as many as the blocks of handles,
-- the blocks say their slots too.
use Rattle.std.proofs.Common.{◌≡◌, ℕ, ◌+◌, ◌*◌, ◌<◌, ◌≤◌, List, [], ◌∷◌, ◌++◌, length, refl, ap, sym, ◌∙◌, subst, arith, Contains, inl, inr, append_assoc, length-append}
use Rattle.std.specs.Prelude.{nat_eq}
use Rattle.std.specs.List.{IsDistinct}
use Rattle.std.proofs.lemmas.Bool.{cases_lt}
use Rattle.mac_base.specs.declared.block.Flags.{Flags}
use Rattle.mac_base.specs.HeadKind.{head_size}
use Rattle.block_bytes.specs.declared.header.Role.{Role}
use Rattle.block_bytes.specs.declared.header.Role.TheVariants as role
use Rattle.block_bytes.specs.Finding.{SplitAt}
use Rattle.block_bytes.specs.Layout as raw
use Rattle.block_bytes.specs.Layout.{RawBlock, Layout, BlockAt, size_of}
use Rattle.block_bytes.proofs.Walking.{size_of-pos}
use Rattle.zone_records.specs.declared.slot.Slot.TheVariants as slot
use Rattle.zone_records.specs.Adopting.{HasBlock}
use Rattle.zone_records.specs.Linking.{AreRight, IsRight, KeptAs, LinkedAs, Names, TightAs, one_handle, said_of}
use Rattle.zone_records.specs.Reading.{AreSound, content_in, records_in}
use Rattle.zone_records.specs.Records.{ZoneRecords}
use Rattle.zone_records.specs.Slots.{all_slots, slots_of, slots_of_zone}
use Rattle.zone_records.proofs.Adopted.{NextHere}
use Rattle.zone_records.proofs.Apart.{read, total-append}
use Rattle.zone_records.proofs.FreeWalk.{all-among, length-among}
use Rattle.zone_records.proofs.Ranked.{one-block, within}
use Rattle.zone_records.proofs.RightBlocks.{block-place, block-back}
use Rattle.zone_records.proofs.SaidPlaces.{SayApart, handle-few, one-place, place-is, place-there, place_in, places, places-once, places_in, said-append, said-named, said-names, said-once}
use Rattle.zone_records.proofs.ZoneSlots.{cancel, slot-in, slots-rising}

-- each slot of a block at an address says its handle's block, if it says an address, and the block can't be joined or
-- cut
pub record IsKept (l : Layout) (at : ℕ) (b : RawBlock) : Type 0 where
  pub kept : KeptAs l at b.role b.contents
  pub tight : TightAs l at b.role (size_of l.heads b) (length b.contents)

abbrev pub AreKept : Layout → Type 0
AreKept l = (at : ℕ) (b : BlockAt l at) → IsKept l at b.here

-- a block that is right is kept
kept_by : (l : Layout) (at : ℕ) (r : Role) (contents : List ℕ) → LinkedAs l at r contents → KeptAs l at r contents
kept_by l at role.Free contents linked = tt
kept_by l at role.Fixed contents linked = tt
kept_by l at role.Master contents linked = linked
kept_by l at (role.Relocatable offset flags) contents linked = tt

-- so is one without slots
pub kept-none : (l : Layout) (at : ℕ) (r : Role) (contents : List ℕ) → (r ≡ role.Master → ⊥) → KeptAs l at r contents
kept-none l at role.Free contents other = tt
kept-none l at role.Fixed contents other = tt
kept-none l at role.Master contents other = absurd (other refl)
kept-none l at (role.Relocatable offset flags) contents other = tt

pub kept-right : (l : Layout) (at : ℕ) (b : RawBlock) → IsRight l at b → IsKept l at b
kept-right l at b right = record { kept = kept_by l at b.role b.contents right.linked; tight = right.tight }

module _ (l : Layout) (sound : AreSound l) where
  abbrev z : ZoneRecords
  z = records_in l

  abbrev said : List ℕ
  said = said_of (slots_of_zone z)

  -- as many blocks of handles as slots that say an address, or fewer
  abbrev pub AreFew : Type 0
  AreFew = length (places l) ≤ length said

  -- a slot that says an address has a block there
  has_block : AreKept l → (h : ℕ) (flags : Flags) (contents : ℕ) → Contains (slots_of_zone z) (h, slot.Full flags contents) → HasBlock z h contents
  has_block kept h flags contents c =
      let i = slot-in l sound h (slot.Full flags contents) c in
      let keep = subst (λ r. KeptAs l i.at r i.block.here.contents) i.master (kept i.at i.block).kept in
      subst (λ n. HasBlock z n contents) (sym i.place) (keep i.index i.few flags contents (sym i.said))

  -- a block is that of one handle
  one_handle_there : (h g contents : ℕ) → HasBlock z h contents → HasBlock z g contents → h ≡ g
  one_handle_there h g contents k m =
      let p = block-place l sound h contents k in
      let first = block-back l sound h contents k p.0 p.1.0 p.1.1 in let second = block-back l sound g contents m p.0 p.1.0 p.1.1 in
      let same : role.Relocatable first.0 first.1.0 ≡ role.Relocatable second.0 second.1.0 = sym first.1.1.0 ∙ second.1.1.0 in
      let offset : first.0 ≡ second.0 = cc same in let own = first.1.1.1 in let other = second.1.1.1 in omega arith

  say_apart : AreKept l → SayApart (slots_of_zone z)
  say_apart kept h g flags others contents c d = one_handle_there h g contents (has_block kept h flags contents c) (has_block kept g others contents d)

  said_once : AreKept l → IsDistinct nat_eq said
  said_once kept = said-once (raw.address_after l []) (slots_of_zone z) (slots-rising l sound) (say_apart kept)

  said_places : AreKept l → (x : ℕ) → Contains said x → Contains (places l) x
  said_places kept x c =
      let n = said-names (slots_of_zone z) x c in let k = has_block kept n.0 n.1.0 x n.1.1 in
      let p = block-place l sound n.0 x k in let back = block-back l sound n.0 x k p.0 p.1.0 p.1.1 in
      subst (Contains (places l)) (sym p.1.1) (place-there l p.0 p.1.0 back.0 back.1.0 back.1.1.0)

  -- so each handle's block has its slot
  named : AreKept l → AreFew → (at : ℕ) (b : BlockAt l at) (offset : ℕ) (flags : Flags) → b.here.role ≡ role.Relocatable offset flags → Names z (l.base + offset) (at + head_size l.heads)
  named kept few at b offset flags is =
      let contents = at + head_size l.heads in
      let c = all-among said (places l) (said_once kept) (said_places kept) few contents (place-there l at b offset flags is) in
      let n = said-names (slots_of_zone z) contents c in
      let back = block-back l sound n.0 contents (has_block kept n.0 n.1.0 contents n.1.1) at b refl in
      let same : role.Relocatable back.0 back.1.0 ≡ role.Relocatable offset flags = sym back.1.1.0 ∙ is in
      let own : back.0 ≡ offset = cc same in let handle = back.1.1.1 in
      (n.1.0, subst (λ h. Contains (slots_of_zone z) (h, slot.Full n.1.0 contents)) (let e : n.0 ≡ l.base + offset = omega arith in e) n.1.1)

  linked_by : AreKept l → AreFew → (at : ℕ) (b : BlockAt l at) (r : Role) → b.here.role ≡ r → KeptAs l at r b.here.contents → LinkedAs l at r b.here.contents
  linked_by kept few at b role.Free is own = tt
  linked_by kept few at b role.Fixed is own = tt
  linked_by kept few at b role.Master is own = own
  linked_by kept few at b (role.Relocatable offset flags) is own = named kept few at b offset flags is

  -- and all are right
  pub paired-right : AreKept l → AreFew → AreRight l
  paired-right kept few at b = record { linked = linked_by kept few at b b.here.role refl (kept at b).kept; tight = (kept at b).tight }

  -- conversely
  pub right-few : AreRight l → AreFew
  right-few right = length-among (places l) said (places-once l.heads (raw.address_after l []) l.blocks) (λ x c.
      let p = place-is l x c in
      let name = subst (λ r. LinkedAs l p.at r p.block.here.contents) p.role_is (right p.at p.block).linked in
      subst (Contains said) (sym p.place) (said-named (slots_of_zone z) (l.base + p.offset) name.0 (p.at + head_size l.heads) name.1))

module _ (l : Layout) where
  -- the blocks before an address are kept, and counted
  pub record PairedUpTo (at full handles : ℕ) : Type 0 where
    pub split : SplitAt l at
    pub kept : (other : ℕ) (b : BlockAt l other) → other < at → IsKept l other b.here
    pub said : full + length (said_of (all_slots (records_in l).shape at (read l.heads l.base split.after))) ≡ length (said_of (slots_of_zone (records_in l)))
    pub blocks : handles + length (places_in l.heads at split.after) ≡ length (places l)
    pub few : 4 * full ≤ at
    pub few_handles : handles ≤ at

  pub paired-none : (at : ℕ) → at ≡ raw.address_after l [] → PairedUpTo at 0 0
  paired-none at is = record {
    split = record { before = []; after = l.blocks; blocks = refl; place = is };
    kept = λ other b below. let low = (within l other b).0 in absurd (omega arith);
    said = (let same = ap (λ n. length (said_of (all_slots (records_in l).shape n (read l.heads l.base l.blocks)))) is in omega arith);
    blocks = (let same = ap (λ n. length (places_in l.heads n l.blocks)) is in omega arith);
    few = omega arith;
    few_handles = omega arith;
  }

  -- with the next block
  module _ (at full handles : ℕ) (p : PairedUpTo at full handles) (h : NextHere l at p.split) where
    mine : BlockAt l at
    mine = record { before = p.split.before; here = h.here; after = h.after; blocks = h.blocks; place = p.split.place }

    same_after : p.split.after ≡ h.here ∷ h.after
    same_after = cancel p.split.before p.split.after (h.here ∷ h.after) (sym p.split.blocks ∙ h.blocks)

    kept_more : IsKept l at h.here → (next : ℕ) → next ≡ at + size_of l.heads h.here → (other : ℕ) (b : BlockAt l other) → other < next → IsKept l other b.here
    unfolding mine
    kept_more own next there other b below = elim (cases_lt other at) [
      | inl lower ↦ p.kept other b lower
      | inr above ↦ (let one = one-block l at other other mine b above (let is = there in omega arith) (omega arith) (let s = size_of-pos l.heads b.here in omega arith) in
          subst (λ x. IsKept l x b.here) one.0 (subst (IsKept l at) one.1 own))
    ]

    said_more : (n next : ℕ) → ((x : ℕ) → n ≡ length (said_of (slots_of x (content_in l.heads l.base h.here.role h.here.contents)))) → next ≡ at + size_of l.heads h.here
        → full + n + length (said_of (all_slots (records_in l).shape next (read l.heads l.base h.after))) ≡ length (said_of (slots_of_zone (records_in l)))
    said_more n next counts there =
        let b = h.here in let own = counts (at + head_size l.heads) in
        let first = slots_of (at + head_size l.heads) (content_in l.heads l.base b.role b.contents) in
        let rest = all_slots (records_in l).shape (at + size_of l.heads b) (read l.heads l.base h.after) in
        let parts : length (said_of (all_slots (records_in l).shape at (read l.heads l.base p.split.after))) ≡ length (said_of first) + length (said_of rest) =
        ap (λ bs. length (said_of (all_slots (records_in l).shape at (read l.heads l.base bs)))) same_after ∙ said-append first rest in
        let moved = ap (λ m. length (said_of (all_slots (records_in l).shape m (read l.heads l.base h.after)))) there in
        let sum = p.said in omega arith

    blocks_more : (next : ℕ) → next ≡ at + size_of l.heads h.here → handles + one_handle h.here.role + length (places_in l.heads next h.after) ≡ length (places l)
    unfolding places_in
    blocks_more next there =
        let b = h.here in let own = place_in b.role (at + head_size l.heads) in let rest = places_in l.heads (at + size_of l.heads b) h.after in
        let parts : length (places_in l.heads at p.split.after) ≡ length own + length rest =
        ap (λ bs. length (places_in l.heads at bs)) same_after ∙ length-append own rest in
        let moved = ap (λ m. length (places_in l.heads m h.after)) there in
        let one = one-place b.role (at + head_size l.heads) in let sum = p.blocks in omega arith

    pub paired-more : IsKept l at h.here → (n m next : ℕ) → ((x : ℕ) → n ≡ length (said_of (slots_of x (content_in l.heads l.base h.here.role h.here.contents)))) → m ≡ one_handle h.here.role
        → next ≡ at + size_of l.heads h.here → 4 * n ≤ size_of l.heads h.here → PairedUpTo next (full + n) (handles + m)
    paired-more own n m next counts one there room =
        let total = total-append l.heads p.split.before (h.here ∷ []) in let place = p.split.place in let few = p.few in let other = p.few_handles in
        let sum = blocks_more next there in let some = size_of-pos l.heads h.here in let small = handle-few h.here.role in
        record {
          split = record { before = p.split.before ++ h.here ∷ []; after = h.after; blocks = h.blocks ∙ sym (append_assoc p.split.before (h.here ∷ []) h.after); place = omega arith };
          kept = kept_more own next there;
          said = said_more n next counts there;
          blocks = omega arith;
          few = omega arith;
          few_handles = omega arith;
        }

  -- and all
  pub paired-kept : (at full handles : ℕ) → PairedUpTo at full handles → raw.address_after l l.blocks ≤ at → AreKept l
  paired-kept at full handles p ends other b = p.kept other b (let end = (within l other b).1 in let s = size_of-pos l.heads b.here in omega arith)

  pub paired-said : (at full handles : ℕ) (p : PairedUpTo at full handles) → p.split.after ≡ [] → full ≡ length (said_of (slots_of_zone (records_in l)))
  unfolding said_of
  paired-said at full handles p none = let sum = p.said in let rest = ap (λ bs. length (said_of (all_slots (records_in l).shape at (read l.heads l.base bs)))) none in omega arith

  pub paired-blocks : (at full handles : ℕ) (p : PairedUpTo at full handles) → p.split.after ≡ [] → handles ≡ length (places l)
  unfolding places_in
  paired-blocks at full handles p none = let sum = p.blocks in let rest = ap (λ bs. length (places_in l.heads at bs)) none in omega arith
