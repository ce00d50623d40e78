-- The blocks from an address on that begin before another, compared up to one master block after the other.
use Rattle.std.proofs.Common.{◌≡◌, ℕ, ◌+◌, ◌-◌, true, List, [], ◌∷◌, ◌++◌, ap, sym, ◌∙◌, subst, arith, append_assoc}
use Rattle.mac_base.specs.HeadKind.{head_size, slot_count}
use Rattle.block_bytes.specs.Layout.{RawBlock, Layout, size_of, total_of}
use Rattle.block_bytes.specs.Finding.{SplitAt}
use Rattle.block_bytes.specs.Structure.{EachMaster, HasHeaders, AgreeUpTo, begun_before, none_master, up_to_master}
use Rattle.block_bytes.proofs.Begun.{OneBegun, one-begun}
use Rattle.block_bytes.proofs.Comparing.{same_rest}
use Rattle.block_bytes.proofs.Structures.{headers-append, headers-rest, headers-up_to}
use Rattle.block_bytes.proofs.WrittenOwn.{each-join}
use Rattle.zone_records.specs.declared.structure.Agreement.{Agreement}
use Rattle.zone_records.specs.declared.structure.Agreement.TheVariants.{Damaged, Same}
use Rattle.zone_records.specs.Masters.{SlotsAgree, SlotsSame, BlocksAgree, BlocksSame}
use Rattle.zone_records.specs.Structure.{Means, worse}
use Rattle.zone_records.proofs.Apart.{total-append}
use Rattle.zone_records.proofs.MasterBlocks.{each-first, each-rest, each-none, each-one, next_split}
use Rattle.zone_records.proofs.Meaning.{means-both, means-same, worse-same, worse-damaged, worse-worse}

module _ (l : Layout) (bytes : List ℕ) where
  abbrev agree : ℕ → List ℕ → Type 0
  agree = SlotsAgree l.heads bytes slot_count

  abbrev same : ℕ → List ℕ → Type 0
  same = SlotsSame l.heads bytes slot_count

  -- what an agreement means for blocks, the first at an offset
  abbrev pub Tells : Agreement → ℕ → List RawBlock → Type 0
  Tells a at bs = Means a (BlocksAgree l bytes at bs) (BlocksSame l bytes at bs)

  -- where the last headers differ
  pub tells-damaged : (at : ℕ) (bs : List RawBlock) → (HasHeaders l bytes at (up_to_master bs) → ⊥) → Tells Damaged at bs
  tells-damaged at bs differ all = differ (headers-up_to l bytes at bs all.headers)

  -- where no master block is left
  pub tells-same : (at : ℕ) (bs : List RawBlock) → none_master bs ≡ true → HasHeaders l bytes at bs → Tells Same at bs
  tells-same at bs none headers = (record { headers = headers; masters = each-none agree l.heads at bs none }, each-none same l.heads at bs none)

  -- of the next master block and of the blocks after it
  module _ (at offset : ℕ) (bs : List RawBlock) (next : AgreeUpTo l bytes offset bs at) where
    abbrev upto : List RawBlock
    upto = next.passed ++ next.here ∷ []

    pub tells-more : (a b : Agreement) (start end : ℕ) → start ≡ offset + total_of l.heads next.passed + head_size l.heads → end ≡ offset + total_of l.heads next.passed + size_of l.heads next.here
        → Means a (SlotsAgree l.heads bytes slot_count start next.here.contents) (SlotsSame l.heads bytes slot_count start next.here.contents) → Tells b end next.after → Tells (worse a b) offset bs
    tells-more a b start end there following first second =
        let here = next.here in
        let last : (P : ℕ → List ℕ → Type 0) → P start here.contents → EachMaster P l.heads offset upto =
        (λ P h. each-join P l.heads offset next.passed (here ∷ []) (each-none P l.heads offset next.passed next.others) (λ _. subst (λ n. P n here.contents) there h, tt)) in
        let own : (P : ℕ → List ℕ → Type 0) → EachMaster P l.heads offset upto → P start here.contents =
        (λ P h. subst (λ n. P n here.contents) (sym there) (each-one P l.heads offset next.passed here [] h next.master)) in
        let total = total-append l.heads next.passed (here ∷ []) in
        let ends : end ≡ offset + total_of l.heads upto = omega arith in
        let all : bs ≡ upto ++ next.after = next.blocks ∙ sym (append_assoc next.passed (here ∷ []) next.after) in
        let rest : Tells b (offset + total_of l.heads upto) next.after = subst (λ n. Tells b n next.after) ends second in
        subst (Tells (worse a b) offset) (sym all)
        (means-same _ _ _ _ (worse a b)
        (λ h. record { headers = headers-append l bytes offset upto next.after next.agree h.1.headers; masters = each-join agree l.heads offset upto next.after (last agree h.0) h.1.masters })
        (λ h. (
          own agree (each-first agree l.heads offset upto next.after h.masters),
          record { headers = headers-rest l bytes offset upto next.after h.headers; masters = each-rest agree l.heads offset upto next.after h.masters },
        ))
        (λ _ h. each-join same l.heads offset upto next.after (last same h.0) h.1)
        (λ _ h. (own same (each-first same l.heads offset upto next.after h), each-rest same l.heads offset upto next.after h))
        (means-both _ _ _ _ a b first rest))

  module _ (from end : ℕ) where
    -- with what an agreement says of the blocks from an address on, this is one for all
    pub record Compared (at : ℕ) (a : Agreement) : Type 0 where
      pub split : SplitAt l at
      pub told : (s : SplitAt l from) (r : Agreement) → Tells r (at - l.base) (begun_before l.heads at end split.after) → Tells (worse a r) (from - l.base) (begun_before l.heads from end s.after)

    -- so far none is compared
    pub compared-none : SplitAt l from → Compared from Same
    compared-none split = record {
      split = split;
      told = λ s r h. subst (λ bs. Tells r (from - l.base) (begun_before l.heads from end bs)) (let place = split.place in let there = s.place in same_rest l.heads split.before split.after s.before s.after (sym split.blocks ∙ s.blocks) (omega arith)) h;
    }

    module _ (at : ℕ) (a : Agreement) (so_far : Compared at a) where
      abbrev bs : List RawBlock
      bs = begun_before l.heads at end so_far.split.after

      -- one differs
      pub compared-differ : (HasHeaders l bytes (at - l.base) (up_to_master bs) → ⊥) → (s : SplitAt l from) → Tells Damaged (from - l.base) (begun_before l.heads from end s.after)
      compared-differ differ s = subst (λ r. Tells r (from - l.base) (begun_before l.heads from end s.after)) (worse-damaged a) (so_far.told s Damaged (tells-damaged (at - l.base) bs differ))

      -- no master block is left
      pub compared-all : none_master bs ≡ true → HasHeaders l bytes (at - l.base) bs → (s : SplitAt l from) → Tells a (from - l.base) (begun_before l.heads from end s.after)
      compared-all none headers s = subst (λ r. Tells r (from - l.base) (begun_before l.heads from end s.after)) (worse-same a) (so_far.told s Same (tells-same (at - l.base) bs none headers))

      module _ (master : ℕ) (next : AgreeUpTo l bytes (at - l.base) bs master) where
        abbrev one : OneBegun l.heads end at so_far.split.after next.passed next.here next.after
        one = one-begun l.heads end at so_far.split.after next.passed next.here next.after next.blocks

        -- the next master block is the next of all blocks from there on
        abbrev pub next-of-all : AgreeUpTo l bytes (at - l.base) so_far.split.after master
        next-of-all = record { passed = next.passed; here = next.here; after = one.rest; blocks = one.blocks; others = next.others; master = next.master; agree = next.agree; place = next.place }

        -- once it is compared too
        pub compared-more : (b : Agreement) (after start : ℕ) → after ≡ master + size_of l.heads next.here → start ≡ master - l.base + head_size l.heads
            → Means b (SlotsAgree l.heads bytes slot_count start next.here.contents) (SlotsSame l.heads bytes slot_count start next.here.contents) → Compared after (worse a b)
        compared-more b after start is there told =
            let split = so_far.split in
            let high = split.place in
            let place = next.place in
            let later : after ≡ at + total_of l.heads next.passed + size_of l.heads next.here = omega arith in
            record {
              split = next_split l bytes at split master next-of-all after is;
              told = λ s r h. subst (λ c. Tells c (from - l.base) (begun_before l.heads from end s.after)) (worse-worse a b r)
                  (so_far.told s (worse b r)
                  (tells-more master (at - l.base) bs next b r start (after - l.base) (omega arith) (omega arith) told
                  (subst (Tells r (after - l.base)) (sym (one.more ∙ ap (λ n. begun_before l.heads n end one.rest) (sym later))) h)));
            }
