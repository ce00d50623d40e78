-- Walks up to the first block that is out of order: from page to page, and from block to block.
use Rattle.std.proofs.Common.{◌≡◌, ℕ, ◌+◌, ◌<◌, ◌≤◌, Bool, true, false, not, [], ◌∷◌, ◌++◌, refl, ap, sym, ◌∙◌, cond, subst, append_assoc, append-nil, arith}
use Rattle.std.specs.Prelude.{◌&&◌, ◌||◌, List, nat_lt}
use Rattle.std.proofs.lemmas.Bool.{and_parts, not-true}
use Rattle.mac_base.specs.declared.block.Entry.{Entry}
use Rattle.mac_base.specs.declared.block.Kind.TheVariants.{Free}
use Rattle.mac_base.specs.HandleTable.{HandleTable}
use Rattle.mac_base.specs.ZoneMap.{ZoneMap, address_after, block, free_size, is_free, total_size}
use Rattle.mac_base.specs.ZoneState.{ZoneState}
use Rattle.zone_laws.proofs.GapApart.{sizes_possible}
use Rattle.zone_laws.proofs.Maps.{total_size-append}
use Rattle.linked_zone.specs.Fit.{HasSizes}
use Rattle.linked_zone.specs.Places.{EntryAt, FirstFree, none_free}
use Rattle.zone_index.specs.declared.sums.Sums.{Sums}
use Rattle.zone_index.specs.declared.weight.Weight.{Weight}
use Rattle.zone_index.specs.Disorder.{FirstOutOfOrder, OrderedTo}
use Rattle.zone_index.specs.Pages.{page, page_weights}
use Rattle.zone_index.specs.Spans.{IsSum, after_of, both}
use Rattle.zone_index.specs.Weights.{in_order, weigh, weights}
use Rattle.zone_index.proofs.Entries.{FirstIn, first_in}
use Rattle.zone_index.proofs.Begun.{weights-append}
use Rattle.zone_index.proofs.SomeBytes.{no_bytes, total_size-push}
use Rattle.zone_index.proofs.Spans.{nothing, order-all}
use Rattle.zone_index.proofs.Walking.{Turn, Walked, none_walked, walked-all, walked-on}
use Rattle.zone_index.proofs.Sizes.{all_parts}

-- The blocks below an address are in order, by the sums of their pages; a page begins there, or the zone ends.
pub record Passing (z : ZoneState) (at : ℕ) (free : Bool) : Type 0 where
  pub sums : Sums
  pub walked : Walked z at sums
  pub arranged : sums.order.after_other.arranged ≡ true
  pub free_is : sums.order.after_other.free ≡ free

-- at first none is
pub none_passing : (z : ZoneState) (at : ℕ) → at ≡ address_after z.shape [] → Passing z at false
none_passing z at place = record { sums = nothing; walked = none_walked z at place; arranged = refl; free_is = refl }

module _ (z : ZoneState) (at : ℕ) (free : Bool) (p : Passing z at free) where
  -- so are they block by block
  pub ordered_to : OrderedTo z at free
  ordered_to = record {
    before = (p.walked).before;
    after = (p.walked).after;
    map = (p.walked).map;
    place = (p.walked).place;
    order = λ ws. ((p.walked).sums).order false ws ∙ ap (λ c. c && in_order p.sums.order.after_other.free ws) p.arranged ∙ ap (λ f. in_order f ws) p.free_is;
  }

  -- and with a page that is in order after them
  pub passing_on : HasSizes z → (n : Turn z p.walked) (q : Sums) → IsSum (page_weights z (page z.shape at)) q → (after_of q.order free).arranged ≡ true → Passing z (at + q.bytes) (after_of q.order free).free
  passing_on sizes n q is arranged = record {
    sums = both p.sums q;
    walked = walked-on z at p.sums p.walked sizes n q is;
    arranged = ap (λ f. p.sums.order.after_other.arranged && (after_of q.order f).arranged) p.free_is ∙ ap (λ c. c && (after_of q.order free).arranged) p.arranged ∙ arranged;
    free_is = ap (λ f. (after_of q.order f).free) p.free_is;
  }

  -- at the zone's end all are
  pub passing_all : HasSizes z → address_after z.shape z.heap.map ≤ at → in_order false (weights z.heap.table z.heap.map) ≡ true
  passing_all sizes high = sym (order-all (weights z.heap.table z.heap.map) p.sums.order (walked-all z at p.sums p.walked sizes high).order) ∙ p.arranged

module _ (z : ZoneState) (at : ℕ) (free : Bool) (o : OrderedTo z at free) where
  ordered_end : address_after z.shape z.heap.map ≡ at + total_size o.after
  ordered_end =
      let all = ap total_size o.map ∙ total_size-append o.before o.after in
      let place = o.place in
      omega arith

  -- below the zone's end a block comes next
  pub coming : at < address_after z.shape z.heap.map → FirstIn o.after
  coming short = let end = ordered_end in first_in o.after (omega arith)

  module _ (n : FirstIn o.after) where
    -- it is read
    abbrev pub entry_coming : EntryAt z at
    entry_coming = record { before = o.before; here = n.here; after = n.after; map = o.map ∙ ap (λ r. o.before ++ r) n.is; place = o.place }

    -- with it the others are in order where it isn't after a free block, or is fixed
    with_it : (ws : List Weight) → in_order false (weights z.heap.table (o.before ++ n.here ∷ []) ++ ws) ≡ ((not free || (weigh z.heap.table n.here).fixed) && in_order (nat_lt 0 (weigh z.heap.table n.here).free) ws)
    with_it ws =
        ap (λ b. in_order false (b ++ ws)) (weights-append z.heap.table o.before (n.here ∷ []))
        ∙ ap (in_order false) (append_assoc (weights z.heap.table o.before) (weigh z.heap.table n.here ∷ []) ws)
        ∙ o.order (weigh z.heap.table n.here ∷ ws)

    -- it is in order, too
    pub ordered_on : (e : Entry) → e ≡ n.here → (not free || (weigh z.heap.table e).fixed) ≡ true → OrderedTo z (at + e.size) (nat_lt 0 (weigh z.heap.table e).free)
    ordered_on e is order = subst (λ (b : Entry). OrderedTo z (at + b.size) (nat_lt 0 (weigh z.heap.table b).free)) (sym is) (record {
      before = o.before ++ n.here ∷ [];
      after = n.after;
      map = o.map ∙ ap (λ r. o.before ++ r) n.is ∙ sym (append_assoc o.before (n.here ∷ []) n.after);
      place = (let all = total_size-push o.before n.here in let place = o.place in omega arith);
      order = λ ws. with_it ws ∙ ap (λ c. c && in_order (nat_lt 0 (weigh z.heap.table n.here).free) ws) (subst (λ (b : Entry). (not free || (weigh z.heap.table b).fixed) ≡ true) is order);
    })

    -- or it is the first that isn't
    pub out_of_order : (e : Entry) → e ≡ n.here → free ≡ true → (weigh z.heap.table e).fixed ≡ false → FirstOutOfOrder z at
    out_of_order e is past_free moves = record {
      entry = entry_coming;
      below = ap (in_order false) (sym (append-nil (weights z.heap.table o.before))) ∙ o.order [];
      breaks = ap (in_order false) (sym (append-nil (weights z.heap.table (o.before ++ n.here ∷ [])))) ∙ with_it []
          ∙ ap (λ f. (not f || (weigh z.heap.table n.here).fixed) && true) past_free
          ∙ ap (λ f. f && true) (subst (λ (b : Entry). (weigh z.heap.table b).fixed ≡ false) is moves);
    }

  -- at the zone's end all are in order
  pub ordered_all : HasSizes z → address_after z.shape z.heap.map ≤ at → in_order false (weights z.heap.table z.heap.map) ≡ true
  ordered_all sizes high =
      let end = ordered_end in
      let none : o.after ≡ [] = no_bytes z.shape o.after (all_parts _ o.before o.after (ap (sizes_possible z.shape) (sym o.map) ∙ sizes)).1 (omega arith) in
      ap (λ m. in_order false (weights z.heap.table m)) (o.map ∙ ap (λ r. o.before ++ r) none ∙ append-nil o.before)
      ∙ ap (in_order false) (sym (append-nil (weights z.heap.table o.before))) ∙ o.order []

-- blocks in use put none after them out of order
used-order : (t : HandleTable) (m : ZoneMap) (ws : List Weight) → none_free m ≡ true → in_order false (weights t m ++ ws) ≡ in_order false ws
used-order t [] ws used = refl
used-order t (e ∷ es) ws used =
    let both = and_parts (not (is_free e.kind)) (none_free es) used in
    let none : free_size e ≡ 0 = ap (λ b. cond b e.size 0) (not-true _ both.0) in
    ap (λ n. in_order (nat_lt 0 n) (weights t es ++ ws)) none ∙ used-order t es ws both.1

-- where no block is free all are in order
pub order-used : (t : HandleTable) (m : ZoneMap) → none_free m ≡ true → in_order false (weights t m) ≡ true
order-used t m used = ap (in_order false) (sym (append-nil (weights t m))) ∙ used-order t m [] used

-- and where the first free one is the last
pub order-packed : (t : HandleTable) (m : ZoneMap) (from at : ℕ) (f : FirstFree m from at) → f.after ≡ [] → in_order false (weights t m) ≡ true
order-packed t m from at f none =
    ap (λ b. in_order false (weights t b)) (f.splits ∙ ap (λ r. f.passed ++ block Free f.size ∷ r) none)
    ∙ ap (in_order false) (weights-append t f.passed (block Free f.size ∷ []))
    ∙ used-order t f.passed (weights t (block Free f.size ∷ [])) f.used
