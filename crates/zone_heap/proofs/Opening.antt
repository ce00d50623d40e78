-- A gap opened at the block of a handle, in two runs.
use Rattle.std.proofs.Common.{◌≡◌, ℕ, ◌+◌, Bool, true, false, not, cond, [], ◌∷◌, ◌++◌, refl, ap, sym, ◌∙◌, subst, append_assoc, arith, inr}
use Rattle.std.specs.Option.{option_map_or}
use Rattle.std.proofs.lemmas.Bool.{and_from, and_parts}
use Rattle.std.proofs.lemmas.List.Elements.{filter-append}
use Rattle.mac_base.specs.declared.block.Entry.{Entry}
use Rattle.mac_base.specs.Arrangement.{used_blocks, down, up, open_at}
use Rattle.mac_base.specs.Gap.{Gap, filled, is_fixed}
use Rattle.mac_base.specs.ZoneMap.{ZoneMap, free_block, free_bytes, is_free, total_size, address_after}
use Rattle.mac_base.specs.ZoneState.{ZoneState}
use Rattle.zone_laws.proofs.Arranging.{named-used, free_bytes-free_block, used_blocks-free_block, list_all-free_block, total_size-free_block, total_size-used}
use Rattle.zone_laws.proofs.GapAppend.{free_bytes-append}
use Rattle.zone_laws.proofs.NamedPlace.{used_blocks-around, open_at-parts}
use Rattle.zone_laws.proofs.Maps.{total_size-append}
use Rattle.linked_zone.specs.Changes.{with_map}
use Rattle.linked_zone.specs.Fit.{HasSizes}
use Rattle.zone_heap.specs.Gaps.{Settled, opened_after}
use Rattle.linked_zone.specs.Places.{all_can_move, can_move}
use Rattle.zone_index.specs.Runs.{none_fixed}
use Rattle.zone_heap.specs.Runs.{RunAt, arranged}
use Rattle.zone_heap.proofs.Owning.{Owned, here_owned, map_front, moves_owned, can_move_owned}
use Rattle.zone_heap.proofs.Pressing.{sizes-pressed}
use Rattle.zone_index.proofs.SomeBytes.{all_both}

regroup : (a u f r b : ZoneMap) → a ++ ((u ++ f) ++ (r ++ b)) ≡ (a ++ u) ++ ((f ++ r) ++ b)
regroup a u f r b = simp append_assoc

-- up, where the first of the blocks is a free one
pub up-free_first : (n : ℕ) (b : ZoneMap) → up (free_block n ++ b) ≡ free_block (n + free_bytes b) ++ used_blocks b
up-free_first n b =
    ap (λ k. free_block k ++ used_blocks (free_block n ++ b)) (free_bytes-append (free_block n) b ∙ ap (λ k. k + free_bytes b) (free_bytes-free_block n))
    ∙ ap (λ u. free_block (n + free_bytes b) ++ u) (filter-append _ (free_block n) b ∙ ap (λ u. u ++ used_blocks b) (used_blocks-free_block n))

module _ (z : ZoneState) (h at : ℕ) (settled : Settled z) (o : Owned z h at) where
  -- the blocks up to the handle's
  abbrev pub lower : ZoneMap
  lower = (o.place).front ++ here_owned z h at o ∷ []

  map_lower : z.heap.map ≡ (o.gap).before ++ (lower ++ ((o.place).back ++ (o.gap).after))
  map_lower = map_front z h at o ∙ ap (λ m. (o.gap).before ++ m) (sym (append_assoc (o.place).front (here_owned z h at o ∷ []) ((o.place).back ++ (o.gap).after)))

  -- the handle's block is in use
  pub used_here : is_free (o.place).kind ≡ false
  used_here = named-used h (o.place).kind ((o.place).at).named

  moves_lower : (all_can_move z.heap.table lower ≡ true) × (all_can_move z.heap.table (o.place).back ≡ true)
  moves_lower =
      let moves = can_move_owned z h at o settled in
      let here = and_parts (can_move z.heap.table (o.place).kind) (all_can_move z.heap.table (o.place).back) moves.1 in
      (all_both _ (o.place).front (here_owned z h at o ∷ []) moves.0 (and_from _ _ here.0 refl), here.1)

  loose_lower : (none_fixed z.heap.table lower ≡ true) × (none_fixed z.heap.table (o.place).back ≡ true)
  loose_lower =
      let loose = moves_owned z h at o in
      let here = and_parts (not (is_fixed z.heap.table (o.place).kind)) (none_fixed z.heap.table (o.place).back) loose.1 in
      (all_both _ (o.place).front (here_owned z h at o ∷ []) loose.0 (and_from _ _ here.0 refl), here.1)

  module _ (start middle end : ℕ) (start_is : start + total_size (o.place).front ≡ at) (middle_is : middle ≡ at + o.size) (end_is : end ≡ at + (o.size + total_size (o.place).back)) where
    place_lower : start ≡ address_after z.shape (o.gap).before
    place_lower = let here = o.at_is in let all = total_size-append (o.gap).before (o.place).front in omega arith

    long_lower : middle ≡ start + total_size lower
    long_lower = let all = total_size-append (o.place).front (here_owned z h at o ∷ []) in omega arith

    -- they are a run
    pub run_lower : RunAt z start middle
    run_lower = record { before = (o.gap).before; blocks = lower; after = (o.place).back ++ (o.gap).after; map = map_lower; place = place_lower; long = long_lower; moves = moves_lower.0; loose = loose_lower.0 }

    module _ (new : ZoneState) (free : ℕ) (pressed : (run : RunAt z start middle) → new ≡ arranged z run (down run.blocks)) (free_is : (run : RunAt z start middle) → free ≡ start + total_size (used_blocks run.blocks)) where
      zone_lower : new ≡ with_map ((o.gap).before ++ (down lower ++ ((o.place).back ++ (o.gap).after))) z
      unfolding run_lower
      zone_lower = pressed run_lower

      pub free_lower : free ≡ start + total_size (used_blocks lower)
      unfolding run_lower
      free_lower = free_is run_lower

      -- sizes stay possible
      pub sizes_lower : HasSizes new
      sizes_lower = subst HasSizes (sym (pressed run_lower)) (sizes-pressed z run_lower settled.sizes)

      -- the free bytes of the lower part, and the blocks above
      abbrev pub upper : ZoneMap
      upper = free_block (free_bytes lower) ++ (o.place).back

      map_upper : new.heap.map ≡ ((o.gap).before ++ used_blocks lower) ++ (upper ++ (o.gap).after)
      map_upper = ap (λ (w : ZoneState). w.heap.map) zone_lower ∙ regroup (o.gap).before (used_blocks lower) (free_block (free_bytes lower)) (o.place).back (o.gap).after

      place_upper : free ≡ address_after new.shape ((o.gap).before ++ used_blocks lower)
      place_upper =
          let first = place_lower in
          let here = free_lower in
          let all = total_size-append (o.gap).before (used_blocks lower) in
          let there : free ≡ address_after z.shape ((o.gap).before ++ used_blocks lower) = omega arith in
          there ∙ ap (λ (w : ZoneState). address_after w.shape ((o.gap).before ++ used_blocks lower)) (sym zone_lower)

      long_upper : end ≡ free + total_size upper
      long_upper =
          let here = free_lower in
          let long = long_lower in
          let used = total_size-used lower in
          let all = total_size-append (free_block (free_bytes lower)) (o.place).back in
          let bytes = total_size-free_block (free_bytes lower) in
          omega arith

      moves_upper : all_can_move new.heap.table upper ≡ true
      moves_upper =
          let p : Entry → Bool = λ e. can_move z.heap.table e.kind in
          ap (λ (w : ZoneState). all_can_move w.heap.table upper) zone_lower ∙ all_both p (free_block (free_bytes lower)) (o.place).back (list_all-free_block p (free_bytes lower) (inr refl)) moves_lower.1

      loose_upper : none_fixed new.heap.table upper ≡ true
      loose_upper =
          let p : Entry → Bool = λ e. not (is_fixed z.heap.table e.kind) in
          ap (λ (w : ZoneState). none_fixed w.heap.table upper) zone_lower ∙ all_both p (free_block (free_bytes lower)) (o.place).back (list_all-free_block p (free_bytes lower) (inr refl)) loose_lower.1

      -- they are a run
      pub run_upper : RunAt new free end
      run_upper = record { before = (o.gap).before ++ used_blocks lower; blocks = upper; after = (o.gap).after; map = map_upper; place = place_upper; long = long_upper; moves = moves_upper; loose = loose_upper }

      -- what the zone is once that run is arranged
      pub arranged_upper : (arrange : ZoneMap → ZoneMap) (after : ZoneState) → ((run : RunAt new free end) → after ≡ arranged new run (arrange run.blocks)) → after ≡ with_map (((o.gap).before ++ used_blocks lower) ++ (arrange upper ++ (o.gap).after)) z
      unfolding run_upper
      arranged_upper arrange after is = is run_upper ∙ ap (with_map (((o.gap).before ++ used_blocks lower) ++ (arrange upper ++ (o.gap).after))) zone_lower

      -- and where its blocks in use end
      pub used_upper : (next : ℕ) → ((run : RunAt new free end) → next ≡ free + total_size (used_blocks run.blocks)) → next ≡ free + total_size (used_blocks upper)
      unfolding run_upper
      used_upper next is = is run_upper

      -- the gap is opened
      opened_blocks : ((o.gap).before ++ used_blocks lower) ++ (up upper ++ (o.gap).after) ≡ filled o.gap (open_at h (o.gap).blocks)
      opened_blocks =
          let a = (o.gap).before in
          let front : ZoneMap = used_blocks (o.place).front in
          let here = here_owned z h at o in
          let back : ZoneMap = used_blocks (o.place).back in
          let c = (o.gap).after in
          let n : ℕ = free_bytes lower + free_bytes (o.place).back in
          let bytes : n ≡ free_bytes (o.gap).blocks =
          ap (λ k. k + free_bytes (o.place).back) (free_bytes-append (o.place).front (here ∷ []))
          ∙ ap (λ c. (free_bytes (o.place).front + (cond c o.size 0 + 0)) + free_bytes (o.place).back) used_here
          ∙ (let e : (free_bytes (o.place).front + (0 + 0)) + free_bytes (o.place).back ≡ free_bytes (o.place).front + (0 + free_bytes (o.place).back) = omega arith in e)
          ∙ ap (λ c. free_bytes (o.place).front + (cond c o.size 0 + free_bytes (o.place).back)) (sym used_here)
          ∙ sym (ap free_bytes ((o.place).at).was ∙ free_bytes-append (o.place).front (here ∷ (o.place).back)) in
          let same : (a ++ (front ++ here ∷ [])) ++ ((free_block n ++ back) ++ c) ≡ (a ++ (front ++ here ∷ (free_block n ++ back))) ++ c = simp append_assoc in
          ap (λ u. (a ++ u) ++ (up upper ++ c)) (used_blocks-around (o.place).front here [] used_here) ∙ ap (λ u. (a ++ (front ++ here ∷ [])) ++ (u ++ c)) (up-free_first (free_bytes lower) (o.place).back)
          ∙ same ∙ ap (λ k. (a ++ (front ++ here ∷ (free_block k ++ back))) ++ c) bytes
          ∙ ap (λ b. (a ++ b) ++ c) (sym (open_at-parts h (o.gap).blocks o.size (o.place).front (o.place).kind (o.place).back (o.place).at))

      pub opened : (after : ZoneState) → ((run : RunAt new free end) → after ≡ arranged new run (up run.blocks)) → after ≡ with_map (opened_after z.heap.table h z.heap.map) z
      opened after is = arranged_upper up after is ∙ ap (λ m. with_map m z) (opened_blocks ∙ ap (λ found. option_map_or (λ (g : Gap). filled g (open_at h g.blocks)) found z.heap.map) (sym o.found))
