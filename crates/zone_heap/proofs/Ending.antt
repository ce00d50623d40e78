-- The blocks in use with which a run ends, by the last free one below its end.
use Rattle.std.proofs.Common.{◌≡◌, ℕ, ◌+◌, ◌<◌, ◌≤◌, true, [], ◌∷◌, ◌++◌, ap, sym, ◌∙◌, append_assoc, arith}
use Rattle.mac_base.specs.declared.block.Entry.{Entry}
use Rattle.mac_base.specs.declared.block.Kind.TheVariants.{Free}
use Rattle.mac_base.specs.ZoneMap.{ZoneMap, block, is_free, total_size, address_after}
use Rattle.mac_base.specs.ZoneState.{ZoneState}
use Rattle.linked_zone.specs.Fit.{HasSizes}
use Rattle.linked_zone.specs.Places as places
use Rattle.linked_zone.specs.Places.{EntryAt, SplitAt, none_free}
use Rattle.zone_heap.specs.Runs.{RunAt, UsedFrom, LastFree}
use Rattle.zone_index.proofs.Entries.{entry_size}
use Rattle.zone_heap.proofs.Lasts.{same_last}
use Rattle.zone_index.proofs.Sizes.{all_parts}
use Rattle.zone_laws.proofs.Maps.{total_size-append}

-- the last free one of some blocks and others, where it isn't below the others
last_among : (from : ℕ) (low blocks front : ZoneMap) (n : ℕ) (passed : ZoneMap) → low ++ blocks ≡ front ++ block Free n ∷ passed → none_free passed ≡ true → 0 < n → total_size low ≤ total_size front
    → LastFree blocks (from + total_size low) (from + total_size front)
last_among from [] blocks front n passed is none some above = record { front = front; size = n; used = passed; parts = is; none = none; place = omega arith }
last_among from (l ∷ ls) blocks [] n passed is none some above = let same : l ≡ block Free n = cc is in let size = ap (λ (e : Entry). e.size) same in absurd (omega arith)
last_among from (l ∷ ls) blocks (f ∷ fs) n passed is none some above =
    let same : l ≡ f = cc is in
    let tails : ls ++ blocks ≡ fs ++ block Free n ∷ passed = cc is in
    let size = ap (λ (e : Entry). e.size) same in
    let last = last_among (from + l.size) ls blocks fs n passed tails none some (omega arith) in
    let place = last.place in
    record { front = last.front; size = last.size; used = last.used; parts = last.parts; none = last.none; place = omega arith }

-- and where it is, none of the others is free
none_among : (low blocks front : ZoneMap) (n : ℕ) (passed : ZoneMap) → low ++ blocks ≡ front ++ block Free n ∷ passed → none_free passed ≡ true → total_size front < total_size low → none_free blocks ≡ true
none_among [] blocks front n passed is none below = absurd (omega arith)
none_among (l ∷ ls) blocks [] n passed is none below = (all_parts _ ls blocks (ap none_free (let tails : ls ++ blocks ≡ passed = cc is in tails) ∙ none)).1
none_among (l ∷ ls) blocks (f ∷ fs) n passed is none below =
    let same : l ≡ f = cc is in
    let tails : ls ++ blocks ≡ fs ++ block Free n ∷ passed = cc is in
    let size = ap (λ (e : Entry). e.size) same in
    none_among ls blocks fs n passed tails none (omega arith)

module _ {start end : ℕ} (z : ZoneState) (run : RunAt z start end) where
  -- the blocks before the run's end
  abbrev pub split_end : SplitAt z end
  split_end = record {
    before = run.before ++ run.blocks;
    after = run.after;
    map = run.map ∙ sym (append_assoc run.before run.blocks run.after);
    place = (let first = run.place in let long = run.long in let all = total_size-append run.before run.blocks in omega arith);
  }

  -- where none of them is free, none of the run is
  pub none_before : none_free (run.before ++ run.blocks) ≡ true → none_free run.blocks ≡ true
  none_before none = (all_parts _ run.before run.blocks none).1

  module _ (at : ℕ) (f : places.LastFree (run.before ++ run.blocks) (address_after z.shape []) at) where
    -- it is a block of the zone
    abbrev entry_found : EntryAt z at
    entry_found = record {
      before = f.front;
      here = block Free f.size;
      after = f.passed ++ run.after;
      map = (split_end).map ∙ ap (λ m. m ++ run.after) f.splits ∙ append_assoc f.front (block Free f.size ∷ f.passed) run.after;
      place = (let there = f.place in omega arith);
    }

    -- from the run's start on it is the last of the run
    pub last_within : HasSizes z → start ≤ at → LastFree run.blocks start at
    last_within sizes above =
        let some : 0 < f.size = entry_size z at entry_found sizes in
        let there = f.place in
        let first = run.place in
        let last = last_among (address_after z.shape []) run.before run.blocks f.front f.size f.passed f.splits f.used (omega arith) (omega arith) in
        let place = last.place in
        record { front = last.front; size = last.size; used = last.used; parts = last.parts; none = last.none; place = omega arith }

    -- below it the run has none
    pub last_below : at < start → none_free run.blocks ≡ true
    last_below below = let there = f.place in let first = run.place in none_among run.before run.blocks f.front f.size f.passed f.splits f.used (omega arith)

  -- the blocks in use after the last free one
  module _ (at : ℕ) (f : LastFree run.blocks start at) where
    abbrev pub entry_last : EntryAt z at
    entry_last = record {
      before = run.before ++ f.front;
      here = block Free f.size;
      after = f.used ++ run.after;
      map = run.map ∙ ap (λ b. run.before ++ (b ++ run.after)) f.parts ∙ ap (λ m. run.before ++ m) (append_assoc f.front (block Free f.size ∷ f.used) run.after) ∙ sym (append_assoc run.before f.front (block Free f.size ∷ (f.used ++ run.after)));
      place = (let there = f.place in let first = run.place in let all = total_size-append run.before f.front in omega arith);
    }

    pub within_last : at + f.size ≤ end
    within_last = let there = f.place in let long = run.long in let all = ap total_size f.parts ∙ total_size-append f.front (block Free f.size ∷ f.used) in omega arith

    pub used_after : (low : ℕ) → low ≡ at + f.size → UsedFrom run.blocks start low
    used_after low is = record {
      rest = f.front ++ block Free f.size ∷ [];
      used = f.used;
      parts = f.parts ∙ sym (append_assoc f.front (block Free f.size ∷ []) f.used);
      none = f.none;
      ends = λ front e same. ap (λ (e : Entry). is_free e.kind) ((same_last front e f.front (block Free f.size) (sym same)).1);
      place = (let there = f.place in let all = total_size-append f.front (block Free f.size ∷ []) in omega arith);
    }
