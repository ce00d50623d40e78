-- What is known of a block by its address.
use Rattle.std.proofs.Common.{◌≡◌, ℕ, ◌+◌, ◌<◌, ◌≤◌, [], ◌∷◌, ◌++◌, refl, ap, sym, subst, append_assoc, ◌∙◌, arith}
use Rattle.mac_base.specs.declared.block.Entry.{Entry}
use Rattle.mac_base.specs.ZoneMap.{ZoneMap, total_size, address_after}
use Rattle.mac_base.specs.ZoneSizes.{ZoneSizes}
use Rattle.mac_base.specs.ZoneState.{ZoneState}
use Rattle.zone_laws.proofs.GapApart.{sizes_possible}
use Rattle.zone_laws.proofs.Maps.{total_size-append}
use Rattle.linked_zone.specs.Fit.{HasSizes}
use Rattle.linked_zone.specs.Places.{EntryAt, SplitAt}
use Rattle.linked_zone.specs.Sizes.{sizes_of}
use Rattle.zone_index.proofs.Sizes.{all_parts, first_bytes}
use Rattle.zone_index.proofs.SomeBytes.{no_bytes}

-- the first of some blocks
pub record FirstIn (blocks : ZoneMap) : Type 0 where
  pub here : Entry
  pub after : ZoneMap
  pub is : blocks ≡ here ∷ after

-- those that have bytes have one
pub first_in : (blocks : ZoneMap) → 0 < total_size blocks → FirstIn blocks
first_in [] some = absurd (omega arith)
first_in (e ∷ es) some = record { here = e; after = es; is = refl }

-- it is a block of the zone after two parts of the map
abbrev pub entry_after : (z : ZoneState) (at : ℕ) (before done after : ZoneMap) → z.heap.map ≡ before ++ (done ++ after) → at ≡ address_after z.shape before + total_size done → FirstIn after → EntryAt z at
entry_after z at before done after map place n = record {
  before = before ++ done;
  here = n.here;
  after = n.after;
  map = map ∙ ap (λ r. before ++ (done ++ r)) n.is ∙ sym (append_assoc before done (n.here ∷ n.after));
  place = (let all = total_size-append before done in omega arith);
}

-- a block that is read has bytes
pub entry_size : (z : ZoneState) (at : ℕ) (e : EntryAt z at) → HasSizes z → 0 < (e.here).size
entry_size z at e h = first_bytes z.shape e.here e.after (all_parts _ e.before (e.here ∷ e.after) (ap (sizes_possible z.shape) (sym e.map) ∙ h)).1

-- and so has what is read of it
pub read_size : (z : ZoneState) (at : ℕ) (e : EntryAt z at) (read : Entry) → read ≡ e.here → HasSizes z → 0 < read.size
read_size z at e read same h = subst (λ (e : Entry). 0 < e.size) (sym same) (entry_size z at e h)

-- it ends at the zone's end or below
pub entry_within : (z : ZoneState) (at : ℕ) (e : EntryAt z at) → at + (e.here).size ≤ address_after z.shape z.heap.map
entry_within z at e =
    let all = ap total_size e.map ∙ total_size-append e.before (e.here ∷ e.after) in
    let here = e.place in
    omega arith

-- the blocks from an address on go up to the zone's end
split-end : (z : ZoneState) (at : ℕ) (s : SplitAt z at) → address_after z.shape z.heap.map ≡ at + total_size s.after
split-end z at s = let all = ap total_size s.map ∙ total_size-append s.before s.after in let place = s.place in omega arith

-- so below it the first of them is there
pub split-entry : (z : ZoneState) (at : ℕ) → SplitAt z at → at < address_after z.shape z.heap.map → EntryAt z at
split-entry z at s below = by_after s.after refl
  where
    by_after : (m : ZoneMap) → s.after ≡ m → EntryAt z at
    by_after [] is = let none = ap total_size is in let end = split-end z at s in absurd (omega arith)
    by_after (e ∷ es) is = record { before = s.before; here = e; after = es; map = s.map ∙ ap (λ m. s.before ++ m) is; place = s.place }

-- and at the end there is none
pub split-none : (z : ZoneState) (at : ℕ) (s : SplitAt z at) → HasSizes z → address_after z.shape z.heap.map ≤ at → s.after ≡ []
split-none z at s h above =
    let end = split-end z at s in
    no_bytes z.shape s.after (all_parts _ s.before s.after (ap (sizes_possible z.shape) (sym s.map) ∙ h)).1 (omega arith)

-- or at the end that is reported of it
pub read_within : (z : ZoneState) (at : ℕ) (e : EntryAt z at) (read : Entry) (told : ZoneSizes) → read ≡ e.here → told ≡ sizes_of z → at + read.size ≤ told.base + told.size
read_within z at e read told same sizes =
    let long = ap (λ (e : Entry). e.size) same in
    let within = entry_within z at e in
    let size = ap (λ (s : ZoneSizes). s.size) sizes in
    let base = ap (λ (s : ZoneSizes). s.base) sizes in
    omega arith

-- where a zone begins and ends by the numbers that are reported of it
pub record Told (z : ZoneState) (base size : ℕ) : Type 0 where
  pub begins : base ≡ z.shape.base
  pub ends : base + size ≡ address_after z.shape z.heap.map

pub told : (z : ZoneState) (sizes : ZoneSizes) → sizes ≡ sizes_of z → (base size : ℕ) → base ≡ sizes.base → size ≡ sizes.size → Told z base size
told z sizes same base size base_is size_is =
    let lies = ap (λ (s : ZoneSizes). s.base) same in
    let long = ap (λ (s : ZoneSizes). s.size) same in
    record { begins = omega arith; ends = omega arith }
