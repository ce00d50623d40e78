-- Flags that are written in the header of a handle's block.
use Rattle.std.proofs.Common.{◌≡◌, ℕ, ◌+◌, ◌^◌, not, ◌||◌, nat_lt, true, [], ◌∷◌, ◌++◌, length, refl, ap, sym, ◌∙◌, subst, arith}
use Rattle.std.specs.Prelude.{IsTrue}
use Rattle.std.proofs.lemmas.Bool.{leb-true, and_parts, and_from}
use Rattle.mac_base.specs.declared.block.HeadKind.{HeadKind}
use Rattle.mac_base.specs.declared.block.HeadKind.TheVariants.{Bits24, Bits32}
use Rattle.mac_base.specs.declared.block.Flags.{Flags}
use Rattle.block_bytes.specs.declared.header.Role.{Role}
use Rattle.block_bytes.specs.declared.header.Role.TheVariants as role
use Rattle.block_bytes.specs.Head.{most_over}
use Rattle.block_bytes.specs.Layout.{RawBlock, Layout, CanTurn, size_of, with_blocks, in_role, is_free, has_owner, can_be_told, can_say}
use Rattle.zone_records.specs.Records.{handle_record, ZoneRecords}
use Rattle.zone_records.specs.Places.{HandleBlockAt, can_flag}
use Rattle.zone_records.specs.Changes.{flagged}
use Rattle.zone_records.specs.Reading.{has_use, is_sound}
use Rattle.zone_records.proofs.Held.{Held, heads-is, sound-one, words-one, changed}
use Rattle.zone_records.proofs.Looking.{OfRecord, of-record, sound-parts, size-of}
use Rattle.zone_records.proofs.Holding.{handle_there, handle-block, handle-is}
use Rattle.zone_records.proofs.Blocks.{sound-made, sound-possible}
use Rattle.zone_records.proofs.Neighbours.{sound-sized}

-- a header says the flags that can be said
flag-same : (heads : HeadKind) (flags : Flags) → can_flag heads flags ≡ can_say heads flags
flag-same Bits24 flags = refl
flag-same Bits32 flags = refl

module _ (l : Layout) (z : ZoneRecords) (held : Held l z) (at : ℕ) (b : HandleBlockAt z at) (flags : Flags) (sayable : IsTrue (can_flag z.shape.heads flags)) where
  -- the block of bytes
  abbrev o : OfRecord l z held at (handle_there l z held at b)
  o = of-record l z held at (handle_there l z held at b)

  abbrev r : RawBlock
  r = o.block.here

  pub flag-said : (offset : ℕ) × (r.role ≡ role.Relocatable offset b.flags) × (l.base + offset ≡ b.handle) × (r.contents ≡ b.bytes)
  flag-said = handle-is l z held at b

  -- the same block with these flags
  abbrev now : RawBlock
  now = in_role r (role.Relocatable flag-said.0 flags)

  flag-sound : is_sound l.heads l.base now ≡ true
  flag-sound =
      let old = sound-one l o.block.before r o.block.after held.sound o.block.blocks in
      let s = sound-parts l.heads l.base r old in
      let told : can_be_told l.heads (role.Relocatable flag-said.0 b.flags) (length r.slack) ≡ true = ap (λ k. can_be_told l.heads k (length r.slack)) (sym flag-said.1) ∙ s.told in
      let said : can_say l.heads flags ≡ true = sym (flag-same l.heads flags) ∙ ap (λ k. can_flag k flags) (heads-is l z held) ∙ sayable in
      let owned : (not r.lent || has_owner (role.Relocatable flag-said.0 b.flags)) ≡ true = ap (λ k. not r.lent || has_owner k) (sym flag-said.1) ∙ s.owned in
      sound-made l.heads l.base now (size_of l.heads r) refl (sound-sized l.heads l.base r old) (leb-true (length r.slack) (most_over l.heads) s.few)
      (and_from _ _ (and_parts (nat_lt flag-said.0 (2 ^ 32)) (can_say l.heads b.flags) told).0 said) owned (ap (λ k. has_use l.base k (length r.contents)) (sym flag-said.1) ∙ s.use_is)

  flag_can : CanTurn l at (role.Relocatable flag-said.0 flags)
  flag_can = record {
    block = handle-block l z held at b;
    possible = sound-possible l.heads l.base now flag-sound;
    same = sym (ap is_free flag-said.1);
  }

  -- so it can be made that
  pub flag-can : (k : Role) → k ≡ role.Relocatable flag-said.0 flags → CanTurn l at k
  flag-can k is = subst (λ k. CanTurn l at k) (sym is) flag_can

  -- and then is flagged
  pub flag-ends : (k : Role) (m : Layout) → k ≡ role.Relocatable flag-said.0 flags
      → ((can : CanTurn l at k) → m ≡ with_blocks (can.block.before ++ in_role can.block.here k ∷ can.block.after) l) → Held m (flagged flags z b)
  unfolding flag_can
  flag-ends k m is ends =
      let one : (can : CanTurn l at (role.Relocatable flag-said.0 flags)) → m ≡ with_blocks (can.block.before ++ in_role can.block.here (role.Relocatable flag-said.0 flags) ∷ can.block.after) l =
      subst (λ k. (can : CanTurn l at k) → m ≡ with_blocks (can.block.before ++ in_role can.block.here k ∷ can.block.after) l) is ends in
      let handle = flag-said.2 in
      let bytes = flag-said.3 in
      let size = size-of l z held at (handle_there l z held at b) in
      let lent = ap (λ r. r.lent) o.same in
      subst (λ m. Held m (flagged flags z b)) (sym (one flag_can))
      (changed l z held o.block.before (r ∷ []) (now ∷ []) o.block.after b.before (handle_record b.handle flags b.bytes b.size b.lent ∷ []) b.after o.block.blocks o.lower o.upper
      (λ i. handle_record (handle i) flags (bytes i) (size i) (lent i) ∷ []) (omega arith)
      (and_from _ _ flag-sound refl) (words-one l.heads now (λ is. absurd (cc is))))
