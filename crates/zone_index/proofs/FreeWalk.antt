-- Walks over free blocks, from one to the next.
use Rattle.std.proofs.Common.{◌≡◌, ℕ, ◌+◌, ◌*◌, ◌-◌, ◌<◌, ◌≤◌, Bool, true, false, not, cond, [], ◌∷◌, ◌++◌, refl, ap, sym, ◌∙◌, append_assoc, inl, inr, arith}
use Rattle.std.specs.Prelude.{◌&&◌, max, nat_le, IsFalse}
use Rattle.std.specs.List.{list_all}
use Rattle.std.proofs.lemmas.Bool.{and_from, and_parts, not-true}
use Rattle.std.proofs.lemmas.Bool.Decides.{nat_tests}
use Rattle.sum_tree.specs.declared.largest.Largest.{Largest}
use Rattle.sum_tree.specs.Largest.{larger, no_block, of_size}
use Rattle.mac_base.specs.declared.block.Entry.{Entry}
use Rattle.mac_base.specs.declared.block.Kind.TheVariants.{Free}
use Rattle.mac_base.specs.HandleTable.{HandleTable}
use Rattle.mac_base.specs.HeadKind.{zone_header}
use Rattle.mac_base.specs.ZoneMap.{ZoneMap, address_after, block, free_size, has_free, is_free, largest_free, total_size}
use Rattle.mac_base.specs.ZoneState.{ZoneState}
use Rattle.zone_laws.proofs.Maps.{total_size-append}
use Rattle.linked_zone.specs.Fit.{HasSizes}
use Rattle.linked_zone.specs.Places.{EntryAt, FirstFree, FirstFrom, FreeAt, LowestAt, NoneFrom, SplitAt, none_free}
use Rattle.sum_tree.specs.Monoids.{total}
use Rattle.sum_tree.specs.Rows.{IsFirst}
use Rattle.sum_tree.specs.Stale.{Stored}
use Rattle.zone_index.specs.Leaves.{AllFresh}
use Rattle.zone_index.specs.Free.{SmallBelow, largest_of, summing_largest}
use Rattle.zone_index.specs.Pages.{begun}
use Rattle.zone_index.specs.Weights.{weigh, weights}
use Rattle.zone_index.proofs.Begun.{begun-above, begun-below, begun-between, begun-test, within-in}
use Rattle.zone_index.proofs.Entries.{entry_size, entry_within}
use Rattle.zone_index.proofs.FreeSums.{largest_are, largest_of-all}
use Rattle.zone_index.proofs.LeafWalk.{first-below, none-below}
use Rattle.zone_index.proofs.SomeBytes.{all_both}
use Rattle.zone_index.proofs.Summing.{leaves-sum, leaves-total, sum-parts}
use Rattle.zone_index.proofs.SumsRenewed.{Begins, begun-idle}
use Rattle.zone_index.proofs.Walking.{filling-all}

-- whether none of these blocks is free and has k bytes
abbrev pub none_large : ℕ → ZoneMap → Bool
none_large k m = list_all (λ (e : Entry). not (has_free k e)) m

-- so it is where the largest has fewer
pub small-none : (k : ℕ) (m : ZoneMap) → largest_free m < k → none_large k m ≡ true
small-none k [] few = refl
small-none k (e ∷ es) few =
    let first : free_size e < k = omega arith in
    and_from _ _ (here (is_free e.kind) first) (small-none k es (omega arith))
  where
    here : (b : Bool) → cond b e.size 0 < k → not (b && nat_le k e.size) ≡ true
    here true low = grind (arith, nat_tests)
    here false low = refl

-- and where none is free
used-small : (k : ℕ) (m : ZoneMap) → none_free m ≡ true → none_large k m ≡ true
used-small k [] used = refl
used-small k (e ∷ es) used =
    let both = and_parts (not (is_free e.kind)) (none_free es) used in
    and_from _ _ (ap (λ b. not (b && nat_le k e.size)) (not-true _ both.0)) (used-small k es both.1)

-- those have no part in any leaf
used_begins : (t : HandleTable) (at : ℕ) (m : ZoneMap) → none_free m ≡ true → Begins summing_largest t (λ n. ⊥) at m
used_begins t at [] used = tt
used_begins t at (e ∷ es) used =
    let both = and_parts (not (is_free e.kind)) (none_free es) used in
    let none : free_size e ≡ 0 = ap (λ b. cond b e.size 0) (not-true _ both.0) in
    (inl (ap of_size none), used_begins t (at + e.size) es both.1)

used-none : (t : HandleTable) (low high at : ℕ) (m : ZoneMap) → none_free m ≡ true → largest_of (begun low high at (weights t m)) ≡ no_block
used-none t low high at m used = begun-idle summing_largest largest_are t (λ n. ⊥) 0 low high at m (used_begins t (0 + at) m used) (λ n no. absurd no)

-- one has no less than none
none-larger : (x : Largest) → larger no_block x ≡ x
none-larger x = ap of_size (let e : max 0 x.bytes ≡ x.bytes = omega arith in e)

larger-none : (x : Largest) → larger x no_block ≡ x
larger-none x = ap of_size (let e : max x.bytes 0 ≡ x.bytes = omega arith in e)

-- the next free block after some blocks
abbrev pub next_free : (z : ZoneState) (before after : ZoneMap) {from at : ℕ} → z.heap.map ≡ before ++ after → from ≡ address_after z.shape before → FirstFree after from at → FreeAt z at
next_free z before after map place f = record {
  before = before ++ f.passed;
  size = f.size;
  after = f.after;
  map = map ∙ ap (λ m. before ++ m) f.splits ∙ sym (append_assoc before f.passed (block Free f.size ∷ f.after));
  place = (let there = f.place in let all = total_size-append before f.passed in omega arith);
}

-- and the blocks up to its end
passed_map : (z : ZoneState) (before after : ZoneMap) {from at : ℕ} → z.heap.map ≡ before ++ after → (f : FirstFree after from at) (size : ℕ) → size ≡ f.size → z.heap.map ≡ (before ++ (f.passed ++ block Free size ∷ [])) ++ f.after
passed_map z before after map f size is =
    map ∙ ap (λ m. before ++ m) f.splits ∙ ap (λ n. before ++ (f.passed ++ block Free n ∷ f.after)) (sym is)
    ∙ ap (λ m. before ++ m) (sym (append_assoc f.passed (block Free size ∷ []) f.after)) ∙ sym (append_assoc before (f.passed ++ block Free size ∷ []) f.after)

passed_place : (z : ZoneState) (before after : ZoneMap) {from at : ℕ} → from ≡ address_after z.shape before → (f : FirstFree after from at) (size : ℕ) → at + size ≡ address_after z.shape (before ++ (f.passed ++ block Free size ∷ []))
passed_place z before after place f size =
    let there = f.place in
    let outer = total_size-append before (f.passed ++ block Free size ∷ []) in
    let inner = total_size-append f.passed (block Free size ∷ []) in
    omega arith

-- it has bytes, and ends within the zone
module _ (z : ZoneState) (at : ℕ) (f : FreeAt z at) where
  abbrev free_entry : EntryAt z at
  free_entry = record { before = f.before; here = block Free f.size; after = f.after; map = f.map; place = f.place }

  pub free-some : HasSizes z → 0 < f.size
  free-some sizes = entry_size z at free_entry sizes

  pub free-within : at + f.size ≤ address_after z.shape z.heap.map
  free-within = entry_within z at free_entry

-- ---- the largest of a leaf

-- Of the blocks below an address those that begin between two places have so large a free one.
pub record Counted (z : ZoneState) (low high from : ℕ) (x : Largest) : Type 0 where
  pub before : ZoneMap
  pub after : ZoneMap
  pub map : z.heap.map ≡ before ++ after
  pub place : from ≡ address_after z.shape before
  pub floor : low ≤ zone_header + total_size before
  pub sum : x ≡ largest_of (begun low high zone_header (weights z.heap.table before))

-- at first there is none
pub none_counted : (z : ZoneState) (sizes : HasSizes z) (low high start at : ℕ) → start ≡ z.shape.base + low → FirstFrom z start at → Counted z low high at no_block
none_counted z sizes low high start at is f =
    let e = f.block in
    record {
      before = e.before;
      after = e.here ∷ e.after;
      map = e.map;
      place = e.place;
      floor = (let place = e.place in let reached = f.reached in omega arith);
      sum = sym (ap largest_of (begun-below z.heap.table low high zone_header (start - z.shape.base) e.before (first-below z start sizes at f) (omega arith)));
    }

-- where none begins from a leaf on it has none
pub none_there : (z : ZoneState) (sizes : HasSizes z) (low high start : ℕ) → start ≡ z.shape.base + low → NoneFrom z start → largest_of (begun low high zone_header (weights z.heap.table z.heap.map)) ≡ no_block
none_there z sizes low high start is none = ap largest_of (begun-below z.heap.table low high zone_header (start - z.shape.base) z.heap.map (none-below z start sizes none) (omega arith))

module _ (z : ZoneState) (low high from : ℕ) (x : Largest) (c : Counted z low high from x) where
  abbrev t : HandleTable
  t = z.heap.table

  abbrev pub counted_split : SplitAt z from
  counted_split = record { before = c.before; after = c.after; map = c.map; place = c.place }

  -- that of the leaf is that of these and of those after them
  counted_all : largest_of (begun low high zone_header (weights t z.heap.map)) ≡ larger x (largest_of (begun low high (zone_header + total_size c.before) (weights t c.after)))
  counted_all =
      ap (λ m. largest_of (begun low high zone_header (weights t m))) c.map ∙ sum-parts summing_largest largest_are t low high zone_header c.before c.after
      ∙ ap (λ y. larger y (largest_of (begun low high (zone_header + total_size c.before) (weights t c.after)))) (sym c.sum)

  -- none of those after them is free
  pub counted-last : none_free c.after ≡ true → x ≡ largest_of (begun low high zone_header (weights t z.heap.map))
  counted-last used = sym (counted_all ∙ ap (larger x) (used-none t low high (zone_header + total_size c.before) c.after used) ∙ larger-none x)

  module _ (at : ℕ) (f : FirstFree c.after from at) where
    abbrev pub counted_free : FreeAt z at
    counted_free = next_free z c.before c.after c.map c.place f

    pub counted-above : z.shape.base + low ≤ at
    counted-above = let floor = c.floor in let place = c.place in let there = f.place in omega arith

    -- the next free one begins after the leaf
    pub counted-after : z.shape.base + high ≤ at → x ≡ largest_of (begun low high zone_header (weights t z.heap.map))
    counted-after past = sym (counted_all ∙ ap (larger x) none ∙ larger-none x)
      where
        none : largest_of (begun low high (zone_header + total_size c.before) (weights t c.after)) ≡ no_block
        none =
            ap (λ m. largest_of (begun low high (zone_header + total_size c.before) (weights t m))) f.splits
            ∙ sum-parts summing_largest largest_are t low high (zone_header + total_size c.before) f.passed (block Free f.size ∷ f.after)
            ∙ ap (λ y. larger y (largest_of (begun low high (zone_header + total_size c.before + total_size f.passed) (weights t (block Free f.size ∷ f.after))))) (used-none t low high (zone_header + total_size c.before) f.passed f.used)
            ∙ ap (λ ws. larger no_block (largest_of ws)) (begun-above low high (zone_header + total_size c.before + total_size f.passed) (weights t (block Free f.size ∷ f.after)) (let place = c.place in let there = f.place in omega arith))

    -- or it is the leaf's
    pub counted-on : (size : ℕ) → size ≡ f.size → at < z.shape.base + high → Counted z low high (at + size) (larger x (of_size size))
    counted-on size is inside = record {
      before = c.before ++ (f.passed ++ block Free size ∷ []);
      after = f.after;
      map = passed_map z c.before c.after c.map f size is;
      place = passed_place z c.before c.after c.place f size;
      floor = (let floor = c.floor in let all = total_size-append c.before (f.passed ++ block Free size ∷ []) in omega arith);
      sum = sym (sum-parts summing_largest largest_are t low high zone_header c.before (f.passed ++ block Free size ∷ [])
          ∙ ap (λ y. larger y (largest_of (begun low high (zone_header + total_size c.before) (weights t (f.passed ++ block Free size ∷ []))))) (sym c.sum)
          ∙ ap (larger x) (sum-parts summing_largest largest_are t low high (zone_header + total_size c.before) f.passed (block Free size ∷ [])
          ∙ ap (λ y. larger y (largest_of (begun low high (zone_header + total_size c.before + total_size f.passed) (weights t (block Free size ∷ []))))) (used-none t low high (zone_header + total_size c.before) f.passed f.used)
          ∙ none-larger (largest_of (begun low high (zone_header + total_size c.before + total_size f.passed) (weights t (block Free size ∷ []))))
          ∙ ap largest_of (begun-test low high (zone_header + total_size c.before + total_size f.passed) (weigh t (block Free size)) [] true
          (within-in low high (zone_header + total_size c.before + total_size f.passed) (let floor = c.floor in omega arith) (let place = c.place in let there = f.place in omega arith)))
          ∙ larger-none (of_size size)));
    }

-- ---- the lowest that is large enough

-- None of the blocks below an address is free and has k bytes.
pub record NoneLarge (z : ZoneState) (k from : ℕ) : Type 0 where
  pub split : SplitAt z from
  pub none : none_large k split.before ≡ true

module _ (z : ZoneState) (sizes : HasSizes z) (start k : ℕ) (b : SmallBelow z start k) where
  -- at first it is so
  pub none_below : (at : ℕ) → FirstFrom z start at → NoneLarge z k at
  none_below at f =
      let e = f.block in
      let low = b.low in
      let all = filling-all z 0 (start - z.shape.base) e.before (record {
        before = [];
        after = e.here ∷ e.after;
        map = e.map;
        below = tt;
        floor = omega arith;
        inside = first-below z start sizes at f;
        above = inr (let place = e.place in let reached = f.reached in omega arith);
      }) in
      let same = ap (λ ws. (largest_of ws).bytes) all ∙ largest_of-all z.heap.table e.before in
      let small = b.small in
      record {
        split = record { before = e.before; after = e.here ∷ e.after; map = e.map; place = e.place };
        none = small-none k e.before (omega arith);
      }

  -- and of all, where no block begins there
  pub none_at_all : NoneFrom z start → none_large k z.heap.map ≡ true
  none_at_all none =
      let all = begun-between z.heap.table 0 (start - z.shape.base) zone_header z.heap.map (omega arith) (none-below z start sizes none) in
      let same = ap (λ ws. (largest_of ws).bytes) all ∙ largest_of-all z.heap.table z.heap.map in
      let small = b.small in
      small-none k z.heap.map (omega arith)

module _ (z : ZoneState) (k from : ℕ) (n : NoneLarge z k from) where
  -- of all, where none of those after them is free
  pub large-none : none_free n.split.after ≡ true → none_large k z.heap.map ≡ true
  large-none used = ap (none_large k) n.split.map ∙ all_both (λ (e : Entry). not (has_free k e)) n.split.before n.split.after n.none (used-small k n.split.after used)

  module _ (at : ℕ) (f : FirstFree n.split.after from at) where
    abbrev pub large_free : FreeAt z at
    large_free = next_free z n.split.before n.split.after n.split.map n.split.place f

    passed_small : none_large k (n.split.before ++ f.passed) ≡ true
    passed_small = all_both (λ (e : Entry). not (has_free k e)) n.split.before f.passed n.none (used-small k f.passed f.used)

    -- the next free one has them
    pub large-found : k ≤ f.size → LowestAt z k at
    large-found enough = record { free = large_free; large = enough; lowest = passed_small }

    -- or hasn't
    pub large-on : (size : ℕ) → size ≡ f.size → size < k → NoneLarge z k (at + size)
    large-on size is few = record {
      split = record {
        before = n.split.before ++ (f.passed ++ block Free size ∷ []);
        after = f.after;
        map = passed_map z n.split.before n.split.after n.split.map f size is;
        place = passed_place z n.split.before n.split.after n.split.place f size;
      };
      none = all_both (λ (e : Entry). not (has_free k e)) n.split.before (f.passed ++ block Free size ∷ []) n.none
          (all_both (λ (e : Entry). not (has_free k e)) f.passed (block Free size ∷ []) (used-small k f.passed f.used) (small-none k (block Free size ∷ []) (omega arith)));
    }

-- by the sums of leaves
module _ (z : ZoneState) (kept : Stored Largest) (fresh : AllFresh summing_largest z kept) where
  -- no block below a leaf has them
  pub leaf_small : (k i from : ℕ) (x : Largest) → from ≡ z.shape.base + i * 256 → IsFirst no_block larger (λ (x : Largest). nat_le k x.bytes) kept.sums i x → SmallBelow z from k
  leaf_small k i from x is first =
      let inside = first.inside in
      let same : 256 * i ≡ from - z.shape.base = omega arith in
      let sum = ap (λ (x : Largest). x.bytes) (first.sum_is ∙ leaves-sum summing_largest largest_are z kept fresh i (omega arith) ∙ ap (λ n. largest_of (begun 0 n zone_header (weights z.heap.table z.heap.map))) same) in
      let none = first.before in
      let few : x.bytes < k = grind (arith, nat_tests) in
      record { low = omega arith; small = omega arith }

  -- the largest of all
  pub all_largest : zone_header + total_size z.heap.map ≤ z.shape.limit → (total no_block larger kept.sums).bytes ≡ largest_free z.heap.map
  all_largest within = ap (λ (x : Largest). x.bytes) (leaves-total summing_largest largest_are z kept fresh within) ∙ largest_of-all z.heap.table z.heap.map

  -- none has them
  pub all_small : (k : ℕ) → zone_header + total_size z.heap.map ≤ z.shape.limit → IsFalse (nat_le k (total no_block larger kept.sums).bytes) → none_large k z.heap.map ≡ true
  all_small k within none =
      let few : (total no_block larger kept.sums).bytes < k = grind (arith, nat_tests) in
      let most = all_largest within in
      small-none k z.heap.map (omega arith)

-- the zone's first free block, where it alone has them
pub first-lowest : (z : ZoneState) (k from at : ℕ) → from ≡ address_after z.shape [] → (f : FirstFree z.heap.map from at) → k ≤ f.size → LowestAt z k at
first-lowest z k from at begins f enough = large-found z k from (record { split = record { before = []; after = z.heap.map; map = refl; place = begins }; none = refl }) at f enough
