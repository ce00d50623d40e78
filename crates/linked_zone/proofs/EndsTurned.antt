-- How the calls end by which two runs of blocks change places, before and after their handles' slots follow.
use Rattle.std.proofs.Common.{◌≡◌, ℕ, ◌+◌, ◌≤◌, Bool, true, not, [], ◌∷◌, ◌++◌, refl, ap, sym, ◌∙◌, subst, append_assoc, arith}
use Rattle.std.specs.List.{list_all}
use Rattle.std.proofs.lemmas.Bool.{and_parts, and_from}
use Rattle.mac_base.specs.declared.block.Entry.{Entry}
use Rattle.mac_base.specs.HeadKind.{head_size}
use Rattle.mac_base.specs.Heap.{front_slot}
use Rattle.mac_base.specs.Loans.{is_here}
use Rattle.mac_base.specs.Suits.{is_block_size}
use Rattle.mac_base.specs.ZoneMap.{ZoneMap, block, is_named, total_size, address_after, contents_of}
use Rattle.mac_base.specs.ZoneState.{ZoneState}
use Rattle.zone_laws.proofs.Maps.{total_size-append, total_size-exchanged, list_all-exchanged}
use Rattle.zone_records.specs.Changes as changes
use Rattle.zone_records.specs.Places as places
use Rattle.zone_records.specs.Places.{RecordAt}
use Rattle.zone_records.specs.Records.{ZoneRecords, BlockRecord, kind_of}
use Rattle.linked_zone.specs.Changes.{carried_up, sunk}
use Rattle.linked_zone.specs.Fit.{has_room}
use Rattle.linked_zone.specs.Following.{Misplaced}
use Rattle.linked_zone.specs.Owned.{owners_of, records_of, records_from, record_of, lent_of}
use Rattle.linked_zone.specs.Places.{ParcelAt, ParcelUpTo, EntryAt, is_movable, can_move, all_can_move}
use Rattle.linked_zone.proofs.Standing.{Stands, Kept, kept}
use Rattle.linked_zone.proofs.Located.{OfEntry, of-entry}
use Rattle.linked_zone.proofs.Owning.{records_from-append, records-total}
use Rattle.linked_zone.proofs.Ends.{lower, middle, upper, parts-before, parts-place, parts-after}
use Rattle.linked_zone.proofs.EndsSaid.{part-passes, entry-end}
use Rattle.linked_zone.proofs.Movable.{content-moves, here-unlent}
use Rattle.linked_zone.proofs.ChangeTurned.{TwoRuns, turned, runs_exchange, runs-move, turned-reordered, all-turned}

-- blocks that may move and aren't lent
run-unlent : (z : ZoneState) (a : ℕ) (m : ZoneMap) → all_can_move z.heap.table m ≡ true → places.none_lent (records_from (owners_of z) z.shape a m) ≡ true
run-unlent z a [] moves = refl
run-unlent z a (e ∷ es) moves =
    let t = z.heap.table in
    let all = and_parts (can_move t e.kind) (all_can_move t es) moves in
    and_from _ _ (ap not (here-unlent z e.kind (and_parts (is_movable e.kind) (is_here t e.kind) all.0).1)) (run-unlent z (a + e.size) es all.1)

-- their blocks are the same elsewhere
run-moves : (z : ZoneState) (a b : ℕ) (m : ZoneMap) → all_can_move z.heap.table m ≡ true → records_from (owners_of z) z.shape a m ≡ records_from (owners_of z) z.shape b m
run-moves z a b [] moves = refl
run-moves z a b (e ∷ es) moves =
    let t = z.heap.table in
    let o = owners_of z in
    let all = and_parts (can_move t e.kind) (all_can_move t es) moves in
    let first = content-moves o (a + head_size z.shape.heads) (b + head_size z.shape.heads) e.kind (and_parts (is_movable e.kind) (is_here t e.kind) all.0).0 in
    let rest = run-moves z (a + e.size) (b + e.size) es all.1 in
    λ i. record { size = e.size; content = first i; lent = lent_of o e.kind } ∷ rest i

module _ (r : ZoneRecords) (z : ZoneState) (held : Stands r z) (runs : TwoRuns z) where
  abbrev now : ZoneState
  now = turned z runs

  abbrev first_at : ℕ
  first_at = address_after z.shape [] + total_size runs.before

  -- what all blocks of both runs pass they pass in the other order
  passes_now : (p : Entry → Bool) → list_all p z.heap.map ≡ true → list_all p now.heap.map ≡ true
  passes_now p all =
      let x = runs_exchange z runs in
      list_all-exchanged z.heap.map now.heap.map x p (all-turned p runs.first runs.second (part-passes p runs.before x.left runs.after z.heap.map x.was all)) all

  -- the blocks of the changed zone stand for it
  stands_now : Stands (records_of (turned z runs)) (turned z runs)
  stands_now = record {
    blocks = refl;
    fits = (turned-reordered z runs held.fits).fits;
    sizes = passes_now (λ (e : Entry). is_block_size z.shape e.size) held.sizes;
    rooms = passes_now (has_room z.shape) held.rooms;
    within = (let same = total_size-exchanged z.heap.map now.heap.map (runs_exchange z runs) in let within = held.within in omega arith);
    even = held.even;
    low = held.low;
    high = held.high;
  }

  -- with the blocks in their new places, slots may say the old ones
  pub turned-misplaced : (m : ZoneRecords) (start end a b : ℕ) → start ≡ address_after z.shape runs.before → end ≡ start + total_size (runs.first ++ runs.second) → m ≡ record {
    memory = z.memory;
    shape = z.shape;
    front = front_slot z.heap;
    blocks = lower (owners_of z) z.shape runs.before ++ (records_from (owners_of z) z.shape a runs.second ++ (records_from (owners_of z) z.shape b runs.first ++ upper (owners_of z) z.shape runs.before (runs.first ++ runs.second) runs.after));
  } → (run : Misplaced m start end) × (run.zone ≡ turned z runs)
  turned-misplaced m start end a b place long is =
      let o = owners_of z in
      let s = z.shape in
      let x = runs_exchange z runs in
      let moves = runs-move z runs in
      let above = upper o s runs.before x.left runs.after in
      let second_end = first_at + total_size runs.second in
      let stands = kept (records_of now) now stands_now in
      let parts : records_from o s a runs.second ++ (records_from o s b runs.first ++ above) ≡ middle o s runs.before (runs.second ++ runs.first) ++ above =
      (λ i. run-moves z a first_at runs.second moves.1 i ++ (run-moves z b second_end runs.first moves.0 i ++ above))
      ∙ sym (append_assoc (records_from o s first_at runs.second) (records_from o s second_end runs.first) above)
      ∙ ap (λ bs. bs ++ above) (sym (records_from-append o s first_at runs.second runs.first)) in (
        record {
          zone = now;
          before = runs.before;
          run = runs.second ++ runs.first;
          after = runs.after;
          said = λ y. contents_of s y z.heap.map;
          same = stands.same;
          stands = stands.inside;
          map = x.is;
          place = place;
          long = (let large = x.as_large in omega arith);
          moves = all-turned (λ (e : Entry). can_move z.heap.table e.kind) runs.first runs.second runs.moves;
          others = λ y none. sym ((turned-reordered z runs held.fits).others y (all-turned (λ (e : Entry). not (is_named y e.kind)) runs.second runs.first none));
          blocks = parts-after z now.heap x m (front_slot z.heap) o (λ y _. refl) (λ y _. refl) (λ y _. (refl, refl, refl)) (λ y _. (refl, refl, refl))
              (is ∙ ap (λ bs. record { memory = z.memory; shape = s; front = front_slot z.heap; blocks = lower o s runs.before ++ bs }) parts);
        },
        refl,
      )

  -- once they say the new ones the blocks stand for the changed zone
  pub turned-kept : {m : ZoneRecords} {start end : ℕ} → (run : Misplaced m start end) × (run.zone ≡ turned z runs) → (n : ZoneRecords) → ((run : Misplaced m start end) → n ≡ records_of run.zone) → Kept n (turned z runs)
  turned-kept placed n follows = subst (λ n. Kept n (turned z runs)) (sym (follows placed.0 ∙ ap records_of placed.1)) (kept (records_of now) now stands_now)

-- ---- a block after others

module _ {at end : ℕ} (r : ZoneRecords) (z : ZoneState) (held : Stands r z) (parcel : ParcelAt z at end) where
  -- the block and the others
  abbrev pub carry_runs : TwoRuns z
  carry_runs = record { before = parcel.before; first = parcel.here ∷ []; second = parcel.blocks; after = parcel.after; map = parcel.map; moves = parcel.moves }

  abbrev carry_start : ℕ
  carry_start = address_after z.shape [] + total_size parcel.before

  abbrev carry_there : places.ParcelAt (records_of z) at end
  carry_there = record {
    before = lower (owners_of z) z.shape parcel.before;
    here = record_of (owners_of z) z.shape carry_start parcel.here;
    others = records_from (owners_of z) z.shape (carry_start + (parcel.here).size) parcel.blocks;
    after = upper (owners_of z) z.shape parcel.before (parcel.here ∷ parcel.blocks) parcel.after;
    blocks = parts-before z (turned z carry_runs).heap (runs_exchange z carry_runs);
    place = parts-place z (turned z carry_runs).heap (runs_exchange z carry_runs) at parcel.place;
    long = parcel.long ∙ ap (λ n. at + n) (sym (records-total (owners_of z) z.shape carry_start (parcel.here ∷ parcel.blocks)));
    unlent = run-unlent z carry_start (parcel.here ∷ parcel.blocks) parcel.moves;
  }

  -- the block can be carried
  pub carry-can : places.ParcelAt r at end
  carry-can = subst (λ r. places.ParcelAt r at end) (sym held.blocks) carry_there

  module _ (m : ZoneRecords) (is : (p : places.ParcelAt r at end) → m ≡ changes.carried r p) where
    -- then slots may say the old places
    carry_placed : (run : Misplaced m at end) × (run.zone ≡ carried_up z parcel)
    carry_placed = turned-misplaced r z held carry_runs m at end (carry_start + (parcel.here).size) carry_start parcel.place parcel.long
        ((subst (λ (r : ZoneRecords). (p : places.ParcelAt r at end) → m ≡ changes.carried r p) held.blocks is) carry_there)

    pub carry-misplaced : Misplaced m at end
    carry-misplaced = carry_placed.0

    -- and at last the new ones
    pub carry-ends : (n : ZoneRecords) → ((run : Misplaced m at end) → n ≡ records_of run.zone) → Kept n (carried_up z parcel)
    carry-ends n follows = turned-kept r z held carry_runs carry_placed n follows

-- ---- a block before others

module _ {start at : ℕ} (r : ZoneRecords) (z : ZoneState) (held : Stands r z) (parcel : ParcelUpTo z start at) where
  -- the others and the block
  abbrev pub sink_runs : TwoRuns z
  sink_runs = record { before = parcel.before; first = parcel.blocks; second = parcel.here ∷ []; after = parcel.after; map = parcel.map; moves = parcel.moves }

  abbrev sink_start : ℕ
  sink_start = address_after z.shape [] + total_size parcel.before

  -- the block is in the zone
  abbrev sink_entry : EntryAt z at
  sink_entry = record {
    before = parcel.before ++ parcel.blocks;
    here = parcel.here;
    after = parcel.after;
    map = parcel.map ∙ sym (append_assoc parcel.before parcel.blocks (parcel.here ∷ parcel.after));
    place = (let sum = total_size-append parcel.before parcel.blocks in let place = parcel.place in let long = parcel.long in omega arith);
  }

  sink_record : OfEntry r z at sink_entry
  sink_record = of-entry r z held.blocks at sink_entry

  -- where its block is read
  pub sink-there : RecordAt r at
  sink-there = sink_record.there

  pub sink-size : (said : Entry) → ((b : RecordAt r at) → said ≡ block (kind_of (at + head_size r.shape.heads) b.here.content) b.here.size) → said.size ≡ (parcel.here).size
  sink-size said reads = ap (λ (e : Entry). e.size) (reads sink_record.there) ∙ ap (λ (b : BlockRecord). b.size) sink_record.here

  -- it ends within 32 bits
  pub sink-range : at + (parcel.here).size ≤ 0xFFFF_FFFF
  sink-range = entry-end r z held at sink_entry

  abbrev sink_there : places.ParcelUpTo (records_of z) start at
  sink_there = record {
    before = lower (owners_of z) z.shape parcel.before;
    others = records_from (owners_of z) z.shape sink_start parcel.blocks;
    here = record_of (owners_of z) z.shape (sink_start + total_size parcel.blocks) parcel.here;
    after = upper (owners_of z) z.shape parcel.before (parcel.blocks ++ parcel.here ∷ []) parcel.after;
    blocks = parts-before z (turned z sink_runs).heap (runs_exchange z sink_runs)
        ∙ ap (λ bs. lower (owners_of z) z.shape parcel.before ++ bs) (ap (λ bs. bs ++ upper (owners_of z) z.shape parcel.before (parcel.blocks ++ parcel.here ∷ []) parcel.after) (records_from-append (owners_of z) z.shape sink_start parcel.blocks (parcel.here ∷ []))
        ∙ append_assoc (records_from (owners_of z) z.shape sink_start parcel.blocks) (record_of (owners_of z) z.shape (sink_start + total_size parcel.blocks) parcel.here ∷ []) (upper (owners_of z) z.shape parcel.before (parcel.blocks ++ parcel.here ∷ []) parcel.after));
    place = parts-place z (turned z sink_runs).heap (runs_exchange z sink_runs) start parcel.place;
    long = parcel.long ∙ ap (λ n. start + n) (sym (records-total (owners_of z) z.shape sink_start parcel.blocks));
    unlent = ap places.none_lent (sym (records_from-append (owners_of z) z.shape sink_start parcel.blocks (parcel.here ∷ []))) ∙ run-unlent z sink_start (parcel.blocks ++ parcel.here ∷ []) parcel.moves;
  }

  -- the block can sink
  pub sink-can : places.ParcelUpTo r start at
  sink-can = subst (λ r. places.ParcelUpTo r start at) (sym held.blocks) sink_there

  module _ (size : ℕ) (large : size ≡ (parcel.here).size) (m : ZoneRecords) (is : (p : places.ParcelUpTo r start at) → m ≡ changes.sunk r p) where
    -- then slots may say the old places
    sink_placed : (run : Misplaced m start (at + size)) × (run.zone ≡ sunk z parcel)
    sink_placed = turned-misplaced r z held sink_runs m start (at + size) (sink_start + total_size parcel.blocks) sink_start parcel.place
        (let sum = total_size-append parcel.blocks (parcel.here ∷ []) in let long = parcel.long in omega arith)
        ((subst (λ (r : ZoneRecords). (p : places.ParcelUpTo r start at) → m ≡ changes.sunk r p) held.blocks is) sink_there)

    pub sink-misplaced : Misplaced m start (at + size)
    sink-misplaced = sink_placed.0

    -- and at last the new ones
    pub sink-ends : (n : ZoneRecords) → ((run : Misplaced m start (at + size)) → n ≡ records_of run.zone) → Kept n (sunk z parcel)
    sink-ends n follows = turned-kept r z held sink_runs sink_placed n follows
