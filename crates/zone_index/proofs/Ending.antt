-- A gap ends at the next fixed block, and begins after the last one.
use Rattle.std.proofs.Common.{◌≡◌, ℕ, ◌+◌, ◌<◌, ◌≤◌, true, [], ◌∷◌, ◌++◌, refl, ap, sym, ◌∙◌, subst, append_assoc, inl, inr, arith}
use Rattle.std.specs.Prelude.{◌⊎◌}
use Rattle.mac_base.specs.declared.block.Entry.{Entry}
use Rattle.mac_base.specs.Gap.{is_fixed}
use Rattle.mac_base.specs.HandleTable.{HandleTable}
use Rattle.mac_base.specs.HeadKind.{zone_header}
use Rattle.mac_base.specs.ZoneMap.{ZoneMap, address_after, total_size}
use Rattle.mac_base.specs.ZoneState.{ZoneState}
use Rattle.zone_laws.proofs.GapApart.{sizes_possible}
use Rattle.zone_laws.proofs.Maps.{total_size-append}
use Rattle.linked_zone.specs.Fit.{HasSizes}
use Rattle.linked_zone.specs.Places.{EntryAt}
use Rattle.zone_index.specs.Marks.{FixedAt}
use Rattle.zone_index.specs.Runs.{FrontAt, RestAt, begins_fixed, ends_fixed}
use Rattle.zone_index.specs.Search.{LastFixed, NextFixed, NoneBelow, NoneFrom}
use Rattle.zone_index.proofs.Passing.{HasPassing, of-passing, passing-back, passing-below, passing-none, passing-split, to-passing}
use Rattle.zone_index.proofs.Sizes.{all_parts, first_bytes}

-- blocks that begin with a fixed one, if there is one
begins : (t : HandleTable) (m : ZoneMap) → begins_fixed t m ≡ true → (m ≡ []) ⊎ HasPassing (is_fixed t) m 0
begins t [] h = inl refl
begins t (e ∷ es) h = inr (inl (refl, h))

-- blocks of which the last is fixed
record Lasting (t : HandleTable) (m : ZoneMap) : Type 0 where
  pub front : ZoneMap
  pub last : Entry
  pub parts : m ≡ front ++ last ∷ []
  pub fixed : is_fixed t last.kind ≡ true

ends : (t : HandleTable) (m : ZoneMap) → ends_fixed t m ≡ true → (m ≡ []) ⊎ Lasting t m
ends t [] h = inl refl
ends t (e ∷ []) h = inr (record { front = []; last = e; parts = refl; fixed = h })
ends t (e ∷ f ∷ es) h = elim (ends t (f ∷ es) h) [
  | inl none ↦ absurd (cc none)
  | inr l ↦ inr (record { front = e ∷ l.front; last = l.last; parts = ap (λ m. e ∷ m) l.parts; fixed = l.fixed })
]

module _ (z : ZoneState) (sizes : HasSizes z) where
  -- ---- upwards

  module _ (start : ℕ) (rest : RestAt z start) where
    -- a fixed block from there on is after the gap
    after-gap : (at : ℕ) → FixedAt z at → start ≤ at → (k : ℕ) × (at ≡ start + total_size rest.blocks + k) × HasPassing (is_fixed z.heap.table) rest.after k
    after-gap at f up =
        let n = of-passing is_fixed z at f in
        let there = n.1 in
        let here = rest.place in
        let t = z.heap.table in
        elim (passing-split (is_fixed t) rest.before (rest.blocks ++ rest.after) n.0 (subst (λ m. HasPassing (is_fixed t) m n.0) rest.map n.2)) [
          | inl low ↦
              let below = passing-below (is_fixed t) z.shape rest.before n.0 (all_parts _ rest.before (rest.blocks ++ rest.after) (ap (sizes_possible z.shape) (sym rest.map) ∙ sizes)).0 low in
              absurd (omega arith)
          | inr up ↦ elim (passing-split (is_fixed t) rest.blocks rest.after up.0 up.2) [
            | inl mid ↦ absurd (passing-none (is_fixed t) rest.blocks up.0 rest.moves mid)
            | inr high ↦ (high.0, (let first = up.1 in let second = high.1 in omega arith), high.2)
          ]
        ]

    -- if blocks are there, one is right after it
    right-after : HasPassing (is_fixed z.heap.table) rest.after 0 → FixedAt z (start + total_size rest.blocks)
    right-after h =
        let here = rest.place in
        to-passing is_fixed z (start + total_size rest.blocks) (total_size rest.before + total_size rest.blocks) (omega arith)
        (subst (λ m. HasPassing (is_fixed z.heap.table) m (total_size rest.before + total_size rest.blocks)) (sym rest.map)
        (passing-back (is_fixed z.heap.table) rest.before (rest.blocks ++ rest.after) _ (total_size rest.blocks) refl (passing-back (is_fixed z.heap.table) rest.blocks rest.after (total_size rest.blocks) 0 (omega arith) h)))

    pub ends-next : (at : ℕ) → NextFixed z start at → at ≡ start + total_size rest.blocks
    ends-next at next =
        let found = after-gap at next.here next.above in
        let place = found.1 in
        elim (begins z.heap.table rest.after rest.above) [
          | inl none ↦ absurd (subst (λ m. HasPassing (is_fixed z.heap.table) m found.0) none found.2)
          | inr first ↦ let least = next.first (start + total_size rest.blocks) (right-after first) (omega arith) in omega arith
        ]

    pub ends-zone : NoneFrom z start → z.shape.base + (zone_header + total_size z.heap.map) ≡ start + total_size rest.blocks
    ends-zone none = elim (begins z.heap.table rest.after rest.above) [
      | inl no_more ↦
          let here = rest.place in
          let all = ap total_size rest.map ∙ total_size-append rest.before (rest.blocks ++ rest.after) in
          let both = total_size-append rest.blocks rest.after in
          let nothing = ap total_size no_more in
          omega arith
      | inr first ↦ absurd (none (start + total_size rest.blocks) (right-after first) (omega arith))
    ]

  -- ---- downwards

  -- the last fixed block below a gap, and where the gap begins after it
  pub record BeginsAfter (end : ℕ) (front : FrontAt z end) (at : ℕ) : Type 0 where
    pub entry : EntryAt z at
    pub sum : at + (entry.here).size + total_size front.blocks ≡ end

  module _ (end : ℕ) (front : FrontAt z end) where
    -- a fixed block below the gap's end is below the gap
    below-gap : (at : ℕ) → FixedAt z at → at < end → (n : ℕ) × (at ≡ address_after z.shape [] + n) × HasPassing (is_fixed z.heap.table) front.before n
    below-gap at f low =
        let n = of-passing is_fixed z at f in
        let there = n.1 in
        let here = front.place in
        let whole = total_size-append front.before front.blocks in
        let t = z.heap.table in
        elim (passing-split (is_fixed t) front.before (front.blocks ++ front.after) n.0 (subst (λ m. HasPassing (is_fixed t) m n.0) front.map n.2)) [
          | inl low ↦ (n.0, n.1, low)
          | inr up ↦ elim (passing-split (is_fixed t) front.blocks front.after up.0 up.2) [
            | inl mid ↦ absurd (passing-none (is_fixed t) front.blocks up.0 front.moves mid)
            | inr high ↦ let first = up.1 in let second = high.1 in absurd (omega arith)
          ]
        ]

    module _ (l : Lasting z.heap.table front.before) where
      abbrev last_entry : EntryAt z (address_after z.shape l.front)
      last_entry = record {
        before = l.front;
        here = l.last;
        after = front.blocks ++ front.after;
        map = front.map ∙ ap (λ m. m ++ (front.blocks ++ front.after)) l.parts ∙ append_assoc l.front (l.last ∷ []) (front.blocks ++ front.after);
        place = refl;
      }

      last_sum : address_after z.shape l.front + (l.last).size + total_size front.blocks ≡ end
      last_sum =
          let here = front.place in
          let whole = total_size-append front.before front.blocks in
          let low = ap total_size l.parts ∙ total_size-append l.front (l.last ∷ []) in
          omega arith

      last_bytes : 0 < (l.last).size
      last_bytes = first_bytes z.shape l.last (front.blocks ++ front.after) (all_parts _ l.front (l.last ∷ front.blocks ++ front.after) (ap (sizes_possible z.shape) (sym last_entry.map) ∙ sizes)).1

    pub begins-last : (at : ℕ) → LastFixed z end at → BeginsAfter end front at
    begins-last at last =
        let found = below-gap at last.here last.below in
        let t = z.heap.table in
        elim (ends t front.before front.below) [
          | inl none ↦ absurd (subst (λ m. HasPassing (is_fixed t) m found.0) none found.2)
          | inr l ↦
              let some = last_bytes l in
              let sum = last_sum l in
              let place = found.1 in
              let least = last.last (address_after z.shape l.front) (record { entry = last_entry l; passes = l.fixed }) (omega arith) in
              let same : address_after z.shape l.front ≡ at = elim (passing-split (is_fixed t) l.front (l.last ∷ []) found.0 (subst (λ m. HasPassing (is_fixed t) m found.0) l.parts found.2)) [
                | inl low ↦
                    let below = passing-below (is_fixed t) z.shape l.front found.0 (all_parts _ l.front (l.last ∷ front.blocks ++ front.after) (ap (sizes_possible z.shape) (sym (last_entry l).map) ∙ sizes)).0 low in
                    absurd (omega arith)
                | inr up ↦ elim up.2 [
                  | inl here ↦ let none = here.0 in let there = up.1 in omega arith
                  | inr later ↦ absurd later.2
                ]
              ] in
              subst (BeginsAfter end front) same (record { entry = last_entry l; sum = sum })
        ]

    pub begins-zone : NoneBelow z end → z.shape.base + zone_header + total_size front.blocks ≡ end
    begins-zone none = elim (ends z.heap.table front.before front.below) [
      | inl no_more ↦
          let here = front.place in
          let whole = total_size-append front.before front.blocks in
          let nothing = ap total_size no_more in
          omega arith
      | inr l ↦
          let some = last_bytes l in
          let sum = last_sum l in
          absurd (none (address_after z.shape l.front) (record { entry = last_entry l; passes = l.fixed }) (omega arith))
    ]
