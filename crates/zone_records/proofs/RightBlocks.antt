-- What tests of one block and of one slot show of it.
use Rattle.std.proofs.Common.{◌≡◌, ℕ, ◌+◌, ◌*◌, ◌<◌, true, List, [], ◌∷◌, length, refl, ap, sym, ◌∙◌, subst, arith}
use Rattle.mac_base.specs.declared.block.Flags.{Flags}
use Rattle.mac_base.specs.declared.block.HeadKind.{HeadKind}
use Rattle.mac_base.specs.HeadKind.{head_size}
use Rattle.mac_base.specs.Suits.{has_length}
use Rattle.block_bytes.specs.declared.header.Role.{Role}
use Rattle.block_bytes.specs.declared.header.Role.TheVariants as role
use Rattle.block_bytes.specs.Layout.{RawBlock, Layout, BlockAt, size_of}
use Rattle.block_bytes.proofs.Same.{same-block}
use Rattle.block_bytes.proofs.Walking.{size_of-pos}
use Rattle.zone_records.specs.Adopting.{HasBlock}
use Rattle.zone_records.specs.Linking.{Keeps, TightAs}
use Rattle.zone_records.specs.Masters.{slot_of}
use Rattle.zone_records.specs.Reading.{AreSound, records_in}
use Rattle.zone_records.specs.Records.{ZoneRecords}
use Rattle.zone_records.proofs.Held.{held-read}
use Rattle.zone_records.proofs.Holding.{handle-block, handle-is}
use Rattle.zone_records.proofs.Linked.{handle-at, next-is}
use Rattle.zone_records.proofs.Ranked.{one-block}

-- the first n slots with these words keep what they say
abbrev pub KeepAll : ZoneRecords → ℕ → HeadKind → ℕ → List ℕ → Type 0
KeepAll z n heads first words = (k : ℕ) → k < n → Keeps z (first + 4 * k) (slot_of heads words k)

module _ (l : Layout) (sound : AreSound l) where
  abbrev z : ZoneRecords
  z = records_in l

  -- a handle's block by its header
  pub block-made : (at h contents : ℕ) (b : BlockAt l at) (offset : ℕ) (flags : Flags) → contents ≡ at + head_size l.heads → b.here.role ≡ role.Relocatable offset flags → l.base + offset ≡ h → HasBlock z h contents
  block-made at h contents b offset flags place is own = let k = handle-at l sound at b offset flags is in record { at = at; block = k.0; handle_is = k.1 ∙ own; place = place }

  -- and its header by its place
  pub block-place : (h contents : ℕ) → HasBlock z h contents → (at : ℕ) × (BlockAt l at × (contents ≡ at + head_size l.heads))
  block-place h contents k = (k.at, (handle-block l z (held-read l sound) k.at k.block, k.place))

  pub block-back : (h contents : ℕ) → HasBlock z h contents → (at : ℕ) (b : BlockAt l at) → contents ≡ at + head_size l.heads → (offset : ℕ) × ((flags : Flags) × ((b.here.role ≡ role.Relocatable offset flags) × (l.base + offset ≡ h)))
  block-back h contents k at b place =
      let own = k.place in let there : k.at ≡ at = omega arith in
      let said = handle-is l z (held-read l sound) k.at k.block in
      let same : b.here ≡ (handle-block l z (held-read l sound) k.at k.block).here = same-block l at b (subst (BlockAt l) there (handle-block l z (held-read l sound) k.at k.block)) ∙ moved k.at at there (handle-block l z (held-read l sound) k.at k.block) in
      (said.0, (k.block.flags, (ap (λ (b : RawBlock). b.role) same ∙ said.1, said.2 ∙ k.handle_is)))
    where
      moved : (x y : ℕ) (is : x ≡ y) (b : BlockAt l x) → (subst (BlockAt l) is b).here ≡ b.here
      moved x y is b = subst (λ n. (p : x ≡ n) → (c : BlockAt l n) → c.here ≡ b.here) is (λ p c. same-block l x c b) is (subst (BlockAt l) is b)

  -- the block after a free one
  pub next-free : (at : ℕ) (b : BlockAt l at) (next : ℕ) (n : BlockAt l next) → next ≡ at + size_of l.heads b.here → (n.here.role ≡ role.Free → ⊥) → TightAs l at role.Free (size_of l.heads b.here) (length b.here.contents)
  next-free at b next n place other m free =
      other (ap (λ (b : RawBlock). b.role) (one-block l next (at + size_of l.heads b.here) next n m (omega arith) (some n) (omega arith) (some_at m)).1 ∙ free)
    where
      some : (n : BlockAt l next) → next < next + size_of l.heads n.here
      some n = let s = size_of-pos l.heads n.here in omega arith

      some_at : (m : BlockAt l (at + size_of l.heads b.here)) → next < at + size_of l.heads b.here + size_of l.heads m.here
      some_at m = let s = size_of-pos l.heads m.here in omega arith

  pub next-not : (at : ℕ) (b : BlockAt l at) (next : ℕ) (n : BlockAt l next) → next ≡ at + size_of l.heads b.here → TightAs l at role.Free (size_of l.heads b.here) (length b.here.contents) → n.here.role ≡ role.Free → ⊥
  next-not at b next n place tight free = subst (λ m. (n : BlockAt l m) → n.here.role ≡ role.Free → ⊥) (sym place) tight n free

  pub next-none : (at : ℕ) (b : BlockAt l at) → b.after ≡ [] → TightAs l at role.Free (size_of l.heads b.here) (length b.here.contents)
  next-none at b last next free = let n = next-is l sound at b next in let no : [] ≡ next.here ∷ n.0 = sym last ∙ n.1 in absurd (cc no)

  -- a block that isn't free
  pub tight-from : (r : Role) (at size n : ℕ) → (r ≡ role.Free → ⊥) → has_length z.shape size n ≡ true → TightAs l at r size n
  tight-from role.Free at size n other has = absurd (other refl)
  tight-from role.Fixed at size n other has = has
  tight-from role.Master at size n other has = has
  tight-from (role.Relocatable offset flags) at size n other has = has

  pub tight-has : (r : Role) (at size n : ℕ) → (r ≡ role.Free → ⊥) → TightAs l at r size n → has_length z.shape size n ≡ true
  tight-has role.Free at size n other tight = absurd (other refl)
  tight-has role.Fixed at size n other tight = tight
  tight-has role.Master at size n other tight = tight
  tight-has (role.Relocatable offset flags) at size n other tight = tight
