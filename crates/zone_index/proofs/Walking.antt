-- Walks over the blocks of a page, and from page to page.
use Rattle.std.proofs.Common.{◌≡◌, ℕ, ◌+◌, ◌<◌, ◌≤◌, Bool, true, false, [], ◌∷◌, ◌++◌, refl, ap, sym, ◌∙◌, subst, append_assoc, append-nil, inl, inr, arith}
use Rattle.std.specs.Prelude.{◌⊎◌, min, nat_lt}
use Rattle.std.proofs.lemmas.Bool.Decides.{nat_tests}
use Rattle.mac_base.specs.declared.block.Entry.{Entry}
use Rattle.mac_base.specs.HandleTable.{HandleTable}
use Rattle.mac_base.specs.HeadKind.{zone_header}
use Rattle.mac_base.specs.ZoneMap.{ZoneMap, total_size, address_after}
use Rattle.mac_base.specs.ZoneState.{ZoneState}
use Rattle.zone_laws.proofs.GapApart.{sizes_possible}
use Rattle.zone_laws.proofs.Maps.{total_size-append}
use Rattle.linked_zone.specs.Fit.{HasSizes}
use Rattle.linked_zone.specs.Places.{EntryAt}
use Rattle.zone_index.specs.declared.sums.Sums.{Sums}
use Rattle.zone_index.specs.Weights.{weigh, weights, bytes_of}
use Rattle.zone_index.specs.Spans.{IsSum, IsWithin, both, one}
use Rattle.zone_index.specs.Pages.{begun, page, page_start, page_weights}
use Rattle.zone_index.specs.Walk.{AllBelow, FirstOfPage}
use Rattle.zone_index.proofs.Entries.{FirstIn, entry_after, first_in}
use Rattle.zone_index.proofs.SomeBytes.{no_bytes, total_size-push}
use Rattle.zone_index.proofs.Begun.{weights-append, bytes-weights, begun-append, begun-above, begun-below, begun-between, below-append, below-higher}
use Rattle.zone_index.proofs.Spans.{nothing, sum-join, sum-none, sum-one, sum-within}
use Rattle.zone_index.proofs.Sizes.{all_parts, first_bytes}

-- Blocks begin between two places: those before them begin below the first, and those after at the second or above it.
pub record Filling (z : ZoneState) (low high : ℕ) (blocks : ZoneMap) : Type 0 where
  pub before : ZoneMap
  pub after : ZoneMap
  pub map : z.heap.map ≡ before ++ (blocks ++ after)
  pub below : AllBelow low zone_header before
  pub floor : low ≤ zone_header + total_size before
  pub inside : AllBelow high (zone_header + total_size before) blocks
  pub above : (after ≡ []) ⊎ (high ≤ zone_header + total_size before + total_size blocks)

-- they are all that do
pub filling-all : (z : ZoneState) (low high : ℕ) (blocks : ZoneMap) → Filling z low high blocks → begun low high zone_header (weights z.heap.table z.heap.map) ≡ weights z.heap.table blocks
filling-all z low high blocks f =
    let t : HandleTable = z.heap.table in
    ap (λ m. begun low high zone_header (weights t m)) f.map
    ∙ ap (begun low high zone_header) (weights-append t f.before (blocks ++ f.after))
    ∙ begun-append low high zone_header (weights t f.before) (weights t (blocks ++ f.after))
    ∙ ap (λ ws. ws ++ begun low high (zone_header + bytes_of (weights t f.before)) (weights t (blocks ++ f.after))) (begun-below t low high zone_header low f.before f.below (omega arith))
    ∙ ap (λ n. begun low high (zone_header + n) (weights t (blocks ++ f.after))) (bytes-weights t f.before)
    ∙ ap (begun low high (zone_header + total_size f.before)) (weights-append t blocks f.after)
    ∙ begun-append low high (zone_header + total_size f.before) (weights t blocks) (weights t f.after)
    ∙ ap (λ ws. ws ++ begun low high (zone_header + total_size f.before + bytes_of (weights t blocks)) (weights t f.after)) (begun-between t low high (zone_header + total_size f.before) blocks f.floor f.inside)
    ∙ ap (λ ws. weights t blocks ++ ws) (none f.above) ∙ append-nil (weights t blocks)
  where
    none : (f.after ≡ []) ⊎ (high ≤ zone_header + total_size f.before + total_size blocks)
        → begun low high (zone_header + total_size f.before + bytes_of (weights z.heap.table blocks)) (weights z.heap.table f.after) ≡ []
    none (inl no_more) = ap (λ m. begun low high (zone_header + total_size f.before + bytes_of (weights z.heap.table blocks)) (weights z.heap.table m)) no_more
    none (inr above) = let all = bytes-weights z.heap.table blocks in begun-above low high (zone_header + total_size f.before + bytes_of (weights z.heap.table blocks)) (weights z.heap.table f.after) (omega arith)

-- what is no less than the lower of two is no less than one of them
pub one_low : (a b n : ℕ) → min a b ≤ n → (b ≤ n) ⊎ (a ≤ n)
one_low a b n low = by_test (nat_lt n b) refl
  where
    by_test : (c : Bool) → nat_lt n b ≡ c → (b ≤ n) ⊎ (a ≤ n)
    by_test true is = inr (let below : n < b = grind (arith, nat_tests) in omega arith)
    by_test false is = inl (let above : b ≤ n = grind (arith, nat_tests) in above)

-- Some blocks of a page from its first on, the next of which is at an address, are summed.
pub record Measured (z : ZoneState) (first at : ℕ) (s : Sums) : Type 0 where
  pub before : ZoneMap
  pub done : ZoneMap
  pub after : ZoneMap
  pub map : z.heap.map ≡ before ++ (done ++ after)
  pub start : first ≡ address_after z.shape before
  pub place : at ≡ first + total_size done
  pub below : AllBelow (page_start (page z.shape first)) zone_header before
  pub inside : AllBelow (page_start (page z.shape first + 1)) (zone_header + total_size before) done
  pub sums : IsSum (weights z.heap.table done) s

-- at first none is
pub none_measured : (z : ZoneState) (first : ℕ) → FirstOfPage z first → Measured z first first nothing
none_measured z first f =
    let e = f.entry in
    record { before = e.before; done = []; after = e.here ∷ e.after; map = e.map; start = e.place; place = omega arith; below = f.below; inside = tt; sums = sum-none }

module _ (z : ZoneState) (first at : ℕ) (s : Sums) (m : Measured z first at s) where
  zone_end : address_after z.shape z.heap.map ≡ at + total_size m.after
  zone_end =
      let all = ap total_size m.map in
      let outer = total_size-append m.before (m.done ++ m.after) in
      let inner = total_size-append m.done m.after in
      let start = m.start in
      let place = m.place in
      omega arith

  -- below the zone's end a block comes next
  pub measured-next : at < address_after z.shape z.heap.map → FirstIn m.after
  measured-next below = let end = zone_end in first_in m.after (omega arith)

  module _ (n : FirstIn m.after) where
    -- it is read
    abbrev pub measured-entry : EntryAt z at
    measured-entry = entry_after z at m.before m.done m.after m.map (m.place ∙ ap (λ start. start + total_size m.done) m.start) n

    -- and summed, where it begins in the page
    pub measured-on : (e : Entry) → e ≡ n.here → at < z.shape.base + page_start (page z.shape first + 1) → Measured z first (at + e.size) (both s (one (weigh z.heap.table e)))
    measured-on e is low = record {
      before = m.before;
      done = m.done ++ e ∷ [];
      after = n.after;
      map = m.map ∙ ap (λ r. m.before ++ (m.done ++ r)) n.is ∙ ap (λ h. m.before ++ (m.done ++ h ∷ n.after)) (sym is) ∙ ap (λ r. m.before ++ r) (sym (append_assoc m.done (e ∷ []) n.after));
      start = m.start;
      place = (let all = total_size-push m.done e in let place = m.place in omega arith);
      below = m.below;
      inside = below-append (page_start (page z.shape first + 1)) (zone_header + total_size m.before) m.done (e ∷ []) m.inside (let start = m.start in let place = m.place in (omega arith, tt));
      sums = subst (λ ws. IsSum ws (both s (one (weigh z.heap.table e)))) (sym (weights-append z.heap.table m.done (e ∷ [])))
          (sum-join (weights z.heap.table m.done) (weigh z.heap.table e ∷ []) s (one (weigh z.heap.table e)) m.sums (sum-one (weigh z.heap.table e)));
    }

  -- the sums are of bytes below the address
  pub sum-below : s.bytes + first ≡ at
  sum-below = let sum = (m.sums).bytes in let all = bytes-weights z.heap.table m.done in let place = m.place in omega arith

  -- at the end of the page or of the zone all of the page's are
  pub measured-all : HasSizes z → min (z.shape.base + page_start (page z.shape first + 1)) (address_after z.shape z.heap.map) ≤ at → IsSum (page_weights z (page z.shape first)) s
  measured-all sizes end = subst (λ ws. IsSum ws s) (sym (filling-all z (page_start (page z.shape first)) (page_start (page z.shape first + 1)) m.done filling)) m.sums
    where
      none : (address_after z.shape z.heap.map ≤ at) ⊎ (z.shape.base + page_start (page z.shape first + 1) ≤ at) → (m.after ≡ []) ⊎ (page_start (page z.shape first + 1) ≤ zone_header + total_size m.before + total_size m.done)
      none (inl high) =
          let end = zone_end in
          inl (no_bytes z.shape m.after (all_parts _ m.done m.after (all_parts _ m.before (m.done ++ m.after) (ap (sizes_possible z.shape) (sym m.map) ∙ sizes)).1).1 (omega arith))
      none (inr high) = let start = m.start in let place = m.place in inr (omega arith)

      filling : Filling z (page_start (page z.shape first)) (page_start (page z.shape first + 1)) m.done
      filling = record { before = m.before; after = m.after; map = m.map; below = m.below; floor = (let start = m.start in omega arith); inside = m.inside; above = none (one_low (z.shape.base + page_start (page z.shape first + 1)) (address_after z.shape z.heap.map) at end) }

-- Blocks are cut at a place: those that begin below it, and the others.
pub record CutAt (high at : ℕ) (m : ZoneMap) : Type 0 where
  pub blocks : ZoneMap
  pub rest : ZoneMap
  pub parts : m ≡ blocks ++ rest
  pub inside : AllBelow high at blocks
  pub above : (rest ≡ []) ⊎ (high ≤ at + total_size blocks)

cut : (high at : ℕ) (m : ZoneMap) → CutAt high at m
cut high at [] = record { blocks = []; rest = []; parts = refl; inside = tt; above = inl refl }
cut high at (e ∷ es) = by_test (nat_lt at high) refl (cut high (at + e.size) es)
  where
    by_test : (b : Bool) → nat_lt at high ≡ b → CutAt high (at + e.size) es → CutAt high at (e ∷ es)
    by_test true is c = record {
      blocks = e ∷ c.blocks;
      rest = c.rest;
      parts = ap (λ m. e ∷ m) c.parts;
      inside = (let below : at < high = grind (arith, nat_tests) in below, c.inside);
      above = (elim c.above [ inl none ↦ inl none | inr high_enough ↦ inr (omega arith) ]);
    }
    by_test false is c = record { blocks = []; rest = e ∷ es; parts = refl; inside = tt; above = inr (let above : high ≤ at = grind (arith, nat_tests) in omega arith) }

-- The blocks below an address are summed; a page begins there, or the zone ends.
pub record Walked (z : ZoneState) (at : ℕ) (s : Sums) : Type 0 where
  pub before : ZoneMap
  pub after : ZoneMap
  pub map : z.heap.map ≡ before ++ after
  pub place : at ≡ address_after z.shape before
  pub below : (after ≡ []) ⊎ AllBelow (page_start (page z.shape at)) zone_header before
  pub sums : IsSum (weights z.heap.table before) s

-- at first none is
pub none_walked : (z : ZoneState) (at : ℕ) → at ≡ address_after z.shape [] → Walked z at nothing
none_walked z at place = record { before = []; after = z.heap.map; map = refl; place = place; below = inr tt; sums = sum-none }

-- a page begins there
pub record Turn {at : ℕ} {s : Sums} (z : ZoneState) (w : Walked z at s) : Type 0 where
  pub here : Entry
  pub after : ZoneMap
  pub is : w.after ≡ here ∷ after
  pub below : AllBelow (page_start (page z.shape at)) zone_header w.before

module _ (z : ZoneState) (at : ℕ) (s : Sums) (w : Walked z at s) where
  walked-end : address_after z.shape z.heap.map ≡ at + total_size w.after
  walked-end =
      let all = ap total_size w.map ∙ total_size-append w.before w.after in
      let place = w.place in
      omega arith

  -- below the zone's end a page begins
  pub walked-turn : at < address_after z.shape z.heap.map → Turn z w
  walked-turn short = by_rest w.after refl
    where
      by_rest : (rest : ZoneMap) → w.after ≡ rest → Turn z w
      by_rest [] is = let none = ap total_size is in let end = walked-end in absurd (omega arith)
      by_rest (e ∷ es) is = record { here = e; after = es; is = is; below = (elim w.below [ inl none ↦ absurd (cc (sym is ∙ none)) | inr below ↦ below ]) }

  -- at it all are summed
  pub walked-all : HasSizes z → address_after z.shape z.heap.map ≤ at → IsSum (weights z.heap.table z.heap.map) s
  walked-all sizes high =
      let end = walked-end in
      let none : w.after ≡ [] = no_bytes z.shape w.after (all_parts _ w.before w.after (ap (sizes_possible z.shape) (sym w.map) ∙ sizes)).1 (omega arith) in
      subst (λ m. IsSum (weights z.heap.table m) s) (sym (w.map ∙ ap (λ r. w.before ++ r) none ∙ append-nil w.before)) w.sums

  -- its first block
  abbrev pub walked-first : Turn z w → FirstOfPage z at
  walked-first n = record { entry = record { before = w.before; here = n.here; after = n.after; map = w.map ∙ ap (λ r. w.before ++ r) n.is; place = w.place }; below = n.below }

  module _ (sizes : HasSizes z) (n : Turn z w) (q : Sums) (is : IsSum (page_weights z (page z.shape at)) q) where
    abbrev c : ℕ
    c = page z.shape at

    abbrev first : FirstOfPage z at
    first = walked-first n

    abbrev e : EntryAt z at
    e = first.entry

    abbrev here : CutAt (page_start (c + 1)) (zone_header + total_size e.before) (e.here ∷ e.after)
    here = cut (page_start (c + 1)) (zone_header + total_size e.before) (e.here ∷ e.after)

    filling : Filling z (page_start c) (page_start (c + 1)) here.blocks
    filling = record { before = e.before; after = here.rest; map = e.map ∙ ap (λ m. e.before ++ m) here.parts; below = first.below; floor = (let place = e.place in omega arith); inside = here.inside; above = here.above }

    page_is : IsSum (weights z.heap.table here.blocks) q
    page_is = subst (λ ws. IsSum ws q) (filling-all z (page_start c) (page_start (c + 1)) here.blocks filling) is

    page_bytes : q.bytes ≡ total_size here.blocks
    page_bytes = page_is.bytes ∙ bytes-weights z.heap.table here.blocks

    -- its page has bytes
    pub page-some : 0 < q.bytes
    page-some = by_blocks here.blocks here.parts here.above page_bytes
      where
        by_blocks : (blocks : ZoneMap) → e.here ∷ e.after ≡ blocks ++ here.rest → (here.rest ≡ []) ⊎ (page_start (c + 1) ≤ zone_header + total_size e.before + total_size blocks) → q.bytes ≡ total_size blocks → 0 < q.bytes
        by_blocks [] parts (inl none) all = absurd (cc (parts ∙ none))
        by_blocks [] parts (inr high) all = let place = e.place in absurd (omega arith)
        by_blocks (b ∷ bs) parts above all =
            let same : e.here ≡ b = cc parts in
            let size = ap (λ (b : Entry). b.size) same in
            let some = first_bytes z.shape e.here e.after (all_parts _ e.before (e.here ∷ e.after) (ap (sizes_possible z.shape) (sym e.map) ∙ sizes)).1 in
            omega arith

    -- it is summed
    pub walked-on : Walked z (at + q.bytes) (both s q)
    walked-on = record {
      before = e.before ++ here.blocks;
      after = here.rest;
      map = e.map ∙ ap (λ m. e.before ++ m) here.parts ∙ sym (append_assoc e.before here.blocks here.rest);
      place = there;
      below = below here.above;
      sums = subst (λ ws. IsSum ws (both s q)) (sym (weights-append z.heap.table e.before here.blocks)) (sum-join (weights z.heap.table w.before) (weights z.heap.table here.blocks) s q w.sums page_is);
    }
      where
        there : at + q.bytes ≡ address_after z.shape (e.before ++ here.blocks)
        there = let all = total_size-append e.before here.blocks in let bytes = page_bytes in let place = e.place in omega arith

        below : (here.rest ≡ []) ⊎ (page_start (c + 1) ≤ zone_header + total_size e.before + total_size here.blocks) → (here.rest ≡ []) ⊎ AllBelow (page_start (page z.shape (at + q.bytes))) zone_header (e.before ++ here.blocks)
        below (inl none) = inl none
        below (inr high) =
            let bytes = page_bytes in
            let place = e.place in
            let next : page_start (c + 1) ≤ page_start (page z.shape (at + q.bytes)) = omega arith in
            inr (below-append (page_start (page z.shape (at + q.bytes))) zone_header e.before here.blocks
            (below-higher (page_start c) (page_start (page z.shape (at + q.bytes))) zone_header e.before (omega arith) first.below)
            (below-higher (page_start (c + 1)) (page_start (page z.shape (at + q.bytes))) (zone_header + total_size e.before) here.blocks next here.inside))

    -- no sum of it is larger than that of its bytes, and it ends where the zone ends, or below
    pub page-within : IsWithin q
    page-within = sum-within z.heap.table here.blocks q page_is

    pub page-end : at + q.bytes ≤ address_after z.shape z.heap.map
    page-end =
        let all = ap total_size (e.map ∙ ap (λ m. e.before ++ m) here.parts) in
        let outer = total_size-append e.before (here.blocks ++ here.rest) in
        let inner = total_size-append here.blocks here.rest in
        let bytes = page_bytes in
        let place = e.place in
        omega arith

  -- the sums are of bytes below the address
  pub walked-bytes : address_after z.shape [] + s.bytes ≡ at
  walked-bytes = let sum = (w.sums).bytes in let all = bytes-weights z.heap.table w.before in let place = w.place in omega arith
