-- The free bytes of a gap, from free block to free block.
use Rattle.std.proofs.Common.{◌≡◌, ℕ, ◌+◌, ◌≤◌, ◌<◌, true, not, cond, [], ◌∷◌, ◌++◌, refl, ap, sym, ◌∙◌, append_assoc, arith}
use Rattle.std.proofs.lemmas.Bool.{and_parts, not-true}
use Rattle.mac_base.specs.declared.block.Entry.{Entry}
use Rattle.mac_base.specs.declared.block.Kind.TheVariants.{Free}
use Rattle.mac_base.specs.ZoneMap.{ZoneMap, block, free_bytes, free_size, is_free, total_size}
use Rattle.mac_base.specs.ZoneState.{ZoneState}
use Rattle.zone_laws.proofs.Arranging.{free_bytes-all_used, total_size-used}
use Rattle.zone_laws.proofs.GapAppend.{free_bytes-append}
use Rattle.zone_laws.proofs.GapApart.{sizes_possible}
use Rattle.zone_laws.proofs.Maps.{total_size-append}
use Rattle.linked_zone.specs.Fit.{HasSizes}
use Rattle.linked_zone.specs.Places.{FirstFree, FreeAt, SplitAt, none_free}
use Rattle.zone_index.specs.Runs.{RestAt}
use Rattle.zone_index.proofs.Sizes.{all_parts, first_bytes}

-- a free block of these, after some of them
pub record FreeAmong (blocks passed : ZoneMap) (size : ℕ) : Type 0 where
  pub rest : ZoneMap
  pub parts : blocks ≡ passed ++ block Free size ∷ rest

-- one that begins before they end is one of them
pub free-among : (blocks after passed : ZoneMap) (size : ℕ) (more : ZoneMap) → blocks ++ after ≡ passed ++ block Free size ∷ more → total_size passed < total_size blocks → FreeAmong blocks passed size
free-among [] after passed size more is low = absurd (omega arith)
free-among (e ∷ es) after [] size more is low = let same : e ≡ block Free size = cc is in record { rest = es; parts = ap (λ f. f ∷ es) same }
free-among (e ∷ es) after (p ∷ passed) size more is low =
    let same : e ≡ p = cc is in
    let others : es ++ after ≡ passed ++ block Free size ∷ more = cc is in
    let bytes = ap (λ (e : Entry). e.size) same in
    let later = free-among es after passed size more others (omega arith) in
    record { rest = later.rest; parts = ap (λ f. f ∷ es) same ∙ ap (λ m. p ∷ m) later.parts }

-- where the first free one begins after them none of them is free
pub none-among : (blocks after passed : ZoneMap) (size : ℕ) (more : ZoneMap) → blocks ++ after ≡ passed ++ block Free size ∷ more → none_free passed ≡ true → total_size blocks ≤ total_size passed → free_bytes blocks ≡ 0
none-among [] after passed size more is used high = refl
none-among (e ∷ es) after [] size more is used high = let all = total_size-used (e ∷ es) in omega arith
none-among (e ∷ es) after (p ∷ passed) size more is used high =
    let same : e ≡ p = cc is in
    let others : es ++ after ≡ passed ++ block Free size ∷ more = cc is in
    let bytes = ap (λ (e : Entry). e.size) same in
    let parts = and_parts (not (is_free p.kind)) (none_free passed) used in
    let rest = none-among es after passed size more others parts.1 (omega arith) in
    let none : free_size e ≡ 0 = ap free_size same ∙ ap (λ b. cond b p.size 0) (not-true _ parts.0) in
    omega arith

-- The first blocks of a gap are passed, up to an address, with so many free bytes.
pub record Summed (z : ZoneState) (start : ℕ) (rest : RestAt z start) (from room : ℕ) : Type 0 where
  pub passed : ZoneMap
  pub left : ZoneMap
  pub parts : rest.blocks ≡ passed ++ left
  pub place : from ≡ start + total_size passed
  pub sum : room ≡ free_bytes passed

module _ (z : ZoneState) (start : ℕ) (rest : RestAt z start) where
  module _ (from room : ℕ) (s : Summed z start rest from room) where
    abbrev pub split_summed : SplitAt z from
    split_summed = record {
      before = rest.before ++ s.passed;
      after = s.left ++ rest.after;
      map = rest.map ∙ ap (λ m. rest.before ++ (m ++ rest.after)) s.parts ∙ ap (λ m. rest.before ++ m) (append_assoc s.passed s.left rest.after) ∙ sym (append_assoc rest.before s.passed (s.left ++ rest.after));
      place = (let there = rest.place in let here = s.place in let all = total_size-append rest.before s.passed in omega arith);
    }

    free_parts : free_bytes rest.blocks ≡ free_bytes s.passed + free_bytes s.left
    free_parts = ap free_bytes s.parts ∙ free_bytes-append s.passed s.left

    size_parts : total_size rest.blocks ≡ total_size s.passed + total_size s.left
    size_parts = ap total_size s.parts ∙ total_size-append s.passed s.left

    pub summed-most : room ≤ free_bytes rest.blocks
    summed-most = let all = free_parts in let sum = s.sum in omega arith

    -- where none after is free these are all
    pub summed-last : none_free (s.left ++ rest.after) ≡ true → free_bytes rest.blocks ≤ room
    summed-last used =
        let all = free_parts in
        let sum = s.sum in
        let both = free_bytes-append s.left rest.after in
        let none = free_bytes-all_used (s.left ++ rest.after) used in
        omega arith

    module _ (at : ℕ) (f : FirstFree (s.left ++ rest.after) from at) where
      -- or where the next free one begins after the gap
      pub summed-after : start + total_size rest.blocks ≤ at → free_bytes rest.blocks ≤ room
      summed-after high =
          let all = free_parts in
          let sum = s.sum in
          let sizes = size_parts in
          let here = s.place in
          let there = f.place in
          let none = none-among s.left rest.after f.passed f.size f.after f.splits f.used (omega arith) in
          omega arith

      abbrev pub free_summed : FreeAt z at
      free_summed = record {
        before = (rest.before ++ s.passed) ++ f.passed;
        size = f.size;
        after = f.after;
        map = split_summed.map ∙ ap (λ m. (rest.before ++ s.passed) ++ m) f.splits ∙ sym (append_assoc (rest.before ++ s.passed) f.passed (block Free f.size ∷ f.after));
        place = (let there = split_summed.place in let here = f.place in let all = total_size-append (rest.before ++ s.passed) f.passed in omega arith);
      }

      -- else it is the gap's
      module _ (low : at < start + total_size rest.blocks) where
        among : FreeAmong s.left f.passed f.size
        among = free-among s.left rest.after f.passed f.size f.after f.splits (let sizes = size_parts in let here = s.place in let there = f.place in omega arith)

        longer : rest.blocks ≡ (s.passed ++ (f.passed ++ block Free f.size ∷ [])) ++ among.rest
        longer = s.parts ∙ ap (λ m. s.passed ++ m) (among.parts ∙ sym (append_assoc f.passed (block Free f.size ∷ []) among.rest)) ∙ sym (append_assoc s.passed (f.passed ++ block Free f.size ∷ []) among.rest)

        pub next-summed : (size : ℕ) → size ≡ f.size → Summed z start rest (at + size) (room + size)
        next-summed size is = record {
          passed = s.passed ++ (f.passed ++ block Free f.size ∷ []);
          left = among.rest;
          parts = longer;
          place =
              let here = s.place in
              let there = f.place in
              let outer = total_size-append s.passed (f.passed ++ block Free f.size ∷ []) in
              let inner = total_size-append f.passed (block Free f.size ∷ []) in
              omega arith;
          sum =
              let sum = s.sum in
              let outer = free_bytes-append s.passed (f.passed ++ block Free f.size ∷ []) in
              let inner = free_bytes-append f.passed (block Free f.size ∷ []) in
              let none = free_bytes-all_used f.passed f.used in
              omega arith;
        }

        -- and ends in it
        pub next-within : at + f.size ≤ start + total_size rest.blocks
        next-within =
            let here = s.place in
            let there = f.place in
            let sizes = size_parts in
            let all = ap total_size among.parts ∙ total_size-append f.passed (block Free f.size ∷ among.rest) in
            omega arith

        pub room-within : room + f.size ≤ total_size rest.blocks
        room-within =
            let next = next-summed f.size refl in
            let sum = next.sum in
            let all = ap total_size next.parts ∙ total_size-append next.passed next.left in
            let used = total_size-used next.passed in
            omega arith

      -- a free block has bytes
      pub next-some : HasSizes z → 0 < f.size
      next-some sizes =
          first_bytes z.shape (block Free f.size) f.after (all_parts _ ((rest.before ++ s.passed) ++ f.passed) (block Free f.size ∷ f.after) (ap (sizes_possible z.shape) (sym free_summed.map) ∙ sizes)).1
