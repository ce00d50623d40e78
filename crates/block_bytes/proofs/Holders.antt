-- Which block has a byte.
use Rattle.std.proofs.Common.{◌≡◌, ℕ, ◌+◌, ◌*◌, ◌/◌, ◌<◌, ◌≤◌, ◌-◌, List, [], ◌∷◌, ◌++◌, slice_index, refl, ap, sym, ◌∙◌, arith, append_assoc, ⊎_elim, IsTrue, subst}
use Rattle.std.specs.List.{list_all}
use Rattle.std.proofs.lemmas.Bool.{cases_lt}
use Rattle.mac_base.specs.declared.block.HeadKind.{HeadKind}
use Rattle.block_bytes.specs.Layout.{RawBlock, Layout, BlockAt, size_of, total_of, is_possible, address_after}
use Rattle.block_bytes.specs.Finding.{HoldsByte}
use Rattle.block_bytes.proofs.Rendered.{total_of-append}
use Rattle.place_numbers.specs.Numbers.{LastAtLeast}
use Rattle.mac_base.specs.HeadKind.{zone_header}
use Rattle.block_bytes.specs.declared.blocks.Blocks.TheInside.{Inside}
use Rattle.block_bytes.specs.Reading.{layout_of, IsLayout}
use Rattle.block_bytes.specs.Starts.{starts_of}
use Rattle.block_bytes.proofs.Parts.{total-ends}
use Rattle.block_bytes.proofs.Starts.{block-marked, IsMarked, marked-block}

-- a block that has a byte
pub record IsHeld (l : Layout) (at : ℕ) : Type 0 where
  pub start : ℕ
  pub holds : HoldsByte l at start

-- a byte between the first block and the end is in one
pub held-somewhere : (l : Layout) (at : ℕ) → address_after l [] ≤ at → at < address_after l l.blocks → IsHeld l at
held-somewhere l at low high = from [] l.blocks refl (omega arith)
  where
    -- the block after these has it, or it lies further on
    at_or_after : (bs cs : List RawBlock) (b : RawBlock) → l.blocks ≡ bs ++ b ∷ cs → address_after l bs ≤ at → (address_after l bs + size_of l.heads b ≤ at → IsHeld l at) → IsHeld l at
    at_or_after bs cs b e here further = ⊎_elim (λ below. record {
      start = address_after l bs;
      holds = record { block = record { before = bs; here = b; after = cs; blocks = e; place = refl }; low = here; high = below };
    }) further (cases_lt at (address_after l bs + size_of l.heads b))

    from : (bs cs : List RawBlock) → l.blocks ≡ bs ++ cs → address_after l bs ≤ at → IsHeld l at
    from bs [] e here = let total = ap (total_of l.heads) e in let sum = total_of-append l.heads bs [] in absurd (omega arith)
    from bs (b ∷ cs) e here = at_or_after bs cs b e here (λ above.
        from (bs ++ b ∷ []) cs (e ∙ sym (append_assoc bs (b ∷ []) cs)) (let sum = total_of-append l.heads bs (b ∷ []) in omega arith))

-- no block starts after the start of another and before its end
inside : (heads : HeadKind) (bs cs ds es : List RawBlock) (b c : RawBlock) → bs ++ b ∷ cs ≡ ds ++ c ∷ es → total_of heads bs < total_of heads ds → total_of heads bs + size_of heads b ≤ total_of heads ds
inside heads [] cs [] es b c e before = absurd (omega arith)
inside heads [] cs (d ∷ ds) es b c e before = let same : b ≡ d = cc in let size = ap (size_of heads) same in omega arith
inside heads (x ∷ bs) cs [] es b c e before = absurd (omega arith)
inside heads (x ∷ bs) cs (d ∷ ds) es b c e before = let same : x ≡ d = cc in let rest : bs ++ b ∷ cs ≡ ds ++ c ∷ es = cc in
    let size = ap (size_of heads) same in let more = inside heads bs cs ds es b c rest (omega arith) in omega arith

-- so a block that starts there or further on, and not after the byte, has it
holds-there : (l : Layout) (at start : ℕ) (h : IsHeld l at) → h.start ≤ start → BlockAt l start → start ≤ at → HoldsByte l at start
holds-there l at start h below b low = ⊎_elim between same (cases_lt h.start start)
  where
    between : h.start < start → HoldsByte l at start
    between before = let here = h.holds.block.place in let there = b.place in let high = h.holds.high in
        let end = inside l.heads h.holds.block.before h.holds.block.after b.before b.after h.holds.block.here b.here (sym h.holds.block.blocks ∙ b.blocks) (omega arith) in absurd (omega arith)

    same : start ≤ h.start → HoldsByte l at start
    same above = subst (HoldsByte l at) (let e : h.start ≡ start = omega arith in e) h.holds

module _ (l : Layout) (possible : IsTrue (list_all (is_possible l.heads) l.blocks)) (at : ℕ) (low : address_after l [] ≤ at) (high : at < address_after l l.blocks) where
  -- the block that has the byte
  held : IsHeld l at
  held = held-somewhere l at low high

  -- its mark, at its place or a place before the byte's
  held-mark : IsMarked l possible held.start held.holds.block
  held-mark = marked-block l possible held.start held.holds.block

  -- the last mark up to the byte is that of the block that has it
  pub holds-last : (p : ℕ) → LastAtLeast (starts_of l) 1 ((at - l.base) / 4 + 1) p → HoldsByte l at (l.base + 4 * p)
  holds-last p found =
      let m = held-mark in let above = m.above in let even = m.even in let mark = m.mark in let some = m.some in let start_low = held.holds.low in
      let inside = found.inside in let large = found.large in
      let last : (p < (held.start - l.base) / 4) → ⊥ = λ before. let no = found.last ((held.start - l.base) / 4) before (omega arith) in absurd (omega arith) in
      let below : held.start ≤ l.base + 4 * p = ⊎_elim (λ before. absurd (last before)) (λ after. omega arith) (cases_lt p ((held.start - l.base) / 4)) in
      holds-there l at (l.base + 4 * p) held below (block-marked l possible (l.base + 4 * p) p refl (omega arith)) (omega arith)

  -- there is one
  pub holds-some : ((j : ℕ) → j < (at - l.base) / 4 + 1 → slice_index (starts_of l) j < 1) → ⊥
  holds-some none =
      let m = held-mark in let above = m.above in let mark = m.mark in let some = m.some in let start_low = held.holds.low in
      let no = none ((held.start - l.base) / 4) (omega arith) in absurd (omega arith)

module _ (z : Inside) (whole : IsLayout z) (at : ℕ) (low : z.spec.base + zone_header ≤ at) (high : at < z.spec.base + z.spec.size) where
  -- the same by the index of the fields
  pub holds-at : (p : ℕ) → LastAtLeast z.index 1 ((at - z.spec.base) / 4 + 1) p → HoldsByte (layout_of z) at (z.spec.base + 4 * p)
  holds-at p found = let ends = total-ends z whole in
      holds-last (layout_of z) whole.possible at (omega arith) (omega arith) p (subst (λ (ms : List ℕ). LastAtLeast ms 1 ((at - z.spec.base) / 4 + 1) p) whole.marked found)

  -- there is one
  pub some-at : ((j : ℕ) → j < (at - z.spec.base) / 4 + 1 → slice_index z.index j < 1) → ⊥
  some-at none = let ends = total-ends z whole in
      holds-some (layout_of z) whole.possible at (omega arith) (omega arith) (subst (λ (ms : List ℕ). (j : ℕ) → j < (at - z.spec.base) / 4 + 1 → slice_index ms j < 1) whole.marked none)
