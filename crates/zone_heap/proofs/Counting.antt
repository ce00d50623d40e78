-- Whether a gap has room, also where the block of a handle counts as free.
use Rattle.std.proofs.Common.{◌≡◌, ℕ, ◌+◌, Bool, true, false, cond, List, [], ◌∷◌, ◌++◌, refl, ap, sym, ◌∙◌, arith, Option, Some, None, MatchOption}
use Rattle.std.specs.Prelude.{◌||◌, is_some, nat_le, map, find}
use Rattle.std.specs.List.{list_any}
use Rattle.std.proofs.Math.Bool.{or-true}
use Rattle.std.proofs.lemmas.Bool.{eqb-true, le-leb, leb-true, or_parts}
use Rattle.mac_base.specs.declared.block.Entry.{Entry}
use Rattle.mac_base.specs.declared.block.Kind.{Kind}
use Rattle.mac_base.specs.declared.block.Kind.TheVariants.{Free, Master, Ptr, Rel}
use Rattle.mac_base.specs.Gap.{Gap, further, gap_after, gaps, has_named, is_fixed, lowest_gap, own_gap, room, some_gap_has}
use Rattle.mac_base.specs.HandleTable.{HandleTable, has_block, is_full, is_handle, is_locked, is_pointer}
use Rattle.mac_base.specs.Request.{gap_to_grow, room_of, size_of, stays}
use Rattle.mac_base.specs.ZoneMap.{ZoneMap, block, free_size, is_free, is_named, joined, released, sizes}
use Rattle.mac_base.specs.ZoneState.{ZoneState}
use Rattle.zone_laws.proofs.Fitting.{is_some-lowest_gap}
use Rattle.zone_laws.proofs.GapParts.{first_gap, gaps-first, later_gaps}
use Rattle.zone_laws.proofs.GapRoom.{list_any-gaps}
use Rattle.zone_laws.proofs.JoinedBlocks.{join_cases}
use Rattle.zone_laws.proofs.NamedPlace.{At, At-from, first_named, size_of-At}
use Rattle.zone_laws.proofs.Owners.{nothing_passes}
use Rattle.zone_laws.proofs.SuitsNamed.{named_once, stays-fixed}
use Rattle.zone_laws.proofs.Tables.{eqb_same, handle_no_pointer}
use Rattle.zone_laws.proofs.FittingResize.{one_size, some_named}
use Rattle.linked_zone.specs.Changes.{freed}
use Rattle.zone_index.specs.Gaps.{IsLowestGap}
use Rattle.zone_heap.specs.Attempts.{SoundZone}
use Rattle.zone_heap.proofs.Emptying.{released-none}
use Rattle.zone_heap.proofs.Releasing.{freed-At}

-- the lowest gap with room is found where one has room
pub found-some : (z : ZoneState) (k : ℕ) (o : Option ℕ) → MatchOption o (lowest_gap k (gaps z.heap.table z.heap.map) ≡ None) (λ at. IsLowestGap z k at) → is_some o ≡ some_gap_has k (gaps z.heap.table z.heap.map)
found-some z k None none = sym (ap is_some none) ∙ is_some-lowest_gap z.heap.table k z.heap.map
found-some z k (Some at) low = sym (ap is_some low.lowest) ∙ is_some-lowest_gap z.heap.table k z.heap.map

-- ---- free bytes between fixed blocks

-- whether k bytes are free somewhere between fixed blocks, where r more are before the first
abbrev reaches : HandleTable → ℕ → ℕ → ZoneMap → Bool
reaches t k r [] = nat_le k r
reaches t k r (e ∷ es) = cond (is_fixed t e.kind) (nat_le k r || reaches t k 0 es) (reaches t k (r + free_size e) es)

free_step : (t : HandleTable) (k r : ℕ) (e : Entry) (m : ZoneMap) → e.kind ≡ Free → reaches t k r (e ∷ m) ≡ reaches t k (r + e.size) m
free_step t k r e m free =
    ap (λ kind. cond (is_fixed t kind) (nat_le k r || reaches t k 0 m) (reaches t k (r + cond (is_free kind) e.size 0) m)) free

-- joining free neighbours changes nothing of it
reaches-joined : (t : HandleTable) (k r : ℕ) (m : ZoneMap) → reaches t k r (joined m) ≡ reaches t k r m
reaches-joined t k r [] = refl
reaches-joined t k r (e ∷ es) =
    join_cases (λ j. reaches t k r j ≡ reaches t k r (e ∷ joined es)) e (joined es)
    (λ f fs was free also.
    free_step t k r (block Free (e.size + f.size)) fs refl ∙ ap (λ n. reaches t k n fs) (let s : r + (e.size + f.size) ≡ r + e.size + f.size = omega arith in s)
    ∙ sym (free_step t k r e (f ∷ fs) free ∙ free_step t k (r + e.size) f fs also) ∙ ap (λ j. reaches t k r (e ∷ j)) (sym was))
    refl
    ∙ (let zero_rest = reaches-joined t k 0 es in let on_rest = reaches-joined t k (r + free_size e) es in
    elim (is_fixed t e.kind) as (λ c. cond c (nat_le k r || reaches t k 0 (joined es)) (reaches t k (r + free_size e) (joined es)) ≡ cond c (nat_le k r || reaches t k 0 es) (reaches t k (r + free_size e) es)) [
      | true ↦ ap (λ c. nat_le k r || c) zero_rest
      | false ↦ on_rest
    ])

no_bytes_more : (k n : ℕ) → nat_le k n ≡ nat_le k (n + 0)
no_bytes_more k n = ap (nat_le k) (let e : n ≡ n + 0 = omega arith in e)

no_other : (c : Bool) → (c || false) ≡ c
no_other true = refl
no_other false = refl

any_further : (k : ℕ) (e : Entry) (gs : List Gap) → list_any (λ g. nat_le k (room g)) (map (further e) gs) ≡ list_any (λ g. nat_le k (room g)) gs
any_further k e [] = refl
any_further k e (g ∷ gs) = ap (λ c. nat_le k (room g) || c) (any_further k e gs)

-- what is between fixed blocks are the gaps
reaches-gaps : (t : HandleTable) (k r : ℕ) (m : ZoneMap) → reaches t k r m ≡ (nat_le k (r + room (first_gap t m)) || list_any (λ g. nat_le k (room g)) (later_gaps t m))
reaches-gaps t k r [] = no_bytes_more k r ∙ sym (no_other (nat_le k (r + 0)))
reaches-gaps t k r (e ∷ es) =
    let zero_rest = reaches-gaps t k 0 es in
    let on_rest = reaches-gaps t k (r + free_size e) es in
    elim (is_fixed t e.kind) as (λ c. cond c (nat_le k r || reaches t k 0 es) (reaches t k (r + free_size e) es)
    ≡ (nat_le k (r + room (let g = first_gap t es in cond c (record { before = []; blocks = []; after = e ∷ es }) (record g { blocks = e ∷ g.blocks }))) || list_any (λ g. nat_le k (room g)) (map (further e) (cond c (first_gap t es ∷ later_gaps t es) (later_gaps t es))))) [
      | true ↦ ap (λ c. c || reaches t k 0 es) (no_bytes_more k r)
          ∙ ap (λ c. nat_le k (r + 0) || c) (zero_rest ∙ ap (λ n. nat_le k n || list_any (λ g. nat_le k (room g)) (later_gaps t es)) (let e : 0 + room (first_gap t es) ≡ room (first_gap t es) = omega arith in e)
          ∙ ap (λ c. nat_le k (room (first_gap t es)) || c) (sym (any_further k e (later_gaps t es))))
      | false ↦ on_rest ∙ ap (λ n. nat_le k n || list_any (λ g. nat_le k (room g)) (later_gaps t es)) (let s : r + free_size e + room (first_gap t es) ≡ r + (free_size e + room (first_gap t es)) = omega arith in s)
          ∙ ap (λ c. nat_le k (r + (free_size e + room (first_gap t es))) || c) (sym (any_further k e (later_gaps t es)))
    ]

-- so a gap has room where so many bytes are free between fixed blocks
some_gap-reaches : (t : HandleTable) (k : ℕ) (m : ZoneMap) → some_gap_has k (gaps t m) ≡ reaches t k 0 m
some_gap-reaches t k m =
    list_any-gaps (λ g. nat_le k (room g)) t m ∙ ap (λ n. nat_le k n || list_any (λ g. nat_le k (room g)) (later_gaps t m)) (let e : room (first_gap t m) ≡ 0 + room (first_gap t m) = omega arith in e) ∙ sym (reaches-gaps t k 0 m)

-- ---- the block of a handle counts as free

-- a test that implies another adds nothing beside it
absorb : (a b c : Bool) → (b ≡ true → a ≡ true) → (a || c) ≡ (a || (b || c))
absorb true b c h = refl
absorb false true c h = absurd (cc (h refl))
absorb false false c h = refl

swap : (a b c : Bool) → (a || (b || c)) ≡ (b || (a || c))
swap true true c = refl
swap true false c = refl
swap false true c = refl
swap false false c = refl

room_further : (p : Gap → Bool) (d : Entry) (gs : List Gap) → ((g : Gap) → p (further d g) ≡ p g) → room_of (find p (map (further d) gs)) ≡ room_of (find p gs)
room_further p d [] same = refl
room_further p d (g ∷ gs) same =
    ap (λ c. room_of (cond c (Some (further d g)) (find p (map (further d) gs)))) (same g)
    ∙ (let rest = room_further p d gs same in elim (p g) as (λ c. room_of (cond c (Some (further d g)) (find p (map (further d) gs))) ≡ room_of (cond c (Some g) (find p gs))) [ true ↦ refl | false ↦ rest ])

module _ (t : HandleTable) (k n h : ℕ) (b : ZoneMap) (moves : is_locked t h ≡ false) where
  -- the room of the gap of h, where the blocks before its in the map are these and r bytes more run on to them
  abbrev own_room : ℕ → ZoneMap → ℕ
  own_room r [] = r + room (first_gap t b)
  own_room r (d ∷ a) = cond (is_fixed t d.kind) (own_room 0 a) (own_room (r + free_size d) a)

  own_reaches : (r : ℕ) (a : ZoneMap) → reaches t k r (a ++ block Free n ∷ b) ≡ (nat_le k (n + own_room r a) || reaches t k r (a ++ block (Rel h) n ∷ b))
  own_reaches r [] =
      let later : Bool = list_any (λ g. nat_le k (room g)) (later_gaps t b) in
      reaches-gaps t k (r + n) b
      ∙ ap (λ s. nat_le k s || later) (let e : r + n + room (first_gap t b) ≡ n + (r + room (first_gap t b)) = omega arith in e)
      ∙ absorb (nat_le k (n + (r + room (first_gap t b)))) (nat_le k (r + 0 + room (first_gap t b))) later (λ fits. let le = leb-true k (r + 0 + room (first_gap t b)) fits in le-leb k (n + (r + room (first_gap t b))) (omega arith))
      ∙ ap (λ c. nat_le k (n + (r + room (first_gap t b))) || c) (sym (reaches-gaps t k (r + 0) b) ∙ sym (ap (λ d. cond d (nat_le k r || reaches t k 0 b) (reaches t k (r + 0) b)) moves))
  own_reaches r (d ∷ a) =
      let m : ZoneMap = a ++ block (Rel h) n ∷ b in
      let zero_rest = own_reaches 0 a in
      let on_rest = own_reaches (r + free_size d) a in
      elim (is_fixed t d.kind) as (λ c. cond c (nat_le k r || reaches t k 0 (a ++ block Free n ∷ b)) (reaches t k (r + free_size d) (a ++ block Free n ∷ b))
      ≡ (nat_le k (n + cond c (own_room 0 a) (own_room (r + free_size d) a)) || cond c (nat_le k r || reaches t k 0 m) (reaches t k (r + free_size d) m))) [
        | true ↦ ap (λ c. nat_le k r || c) zero_rest ∙ swap (nat_le k r) (nat_le k (n + own_room 0 a)) (reaches t k 0 m)
        | false ↦ on_rest
      ]

  own_found : (r : ℕ) (a : ZoneMap) → sizes (is_named h) a ≡ [] → (let m = a ++ block (Rel h) n ∷ b in cond (has_named h (first_gap t m).blocks) (r + room (first_gap t m)) (room_of (find (λ (g : Gap). has_named h g.blocks) (later_gaps t m)))) ≡ own_room r a
  own_found r [] none =
      let g : Gap = first_gap t b in
      ap (λ c. let f : Gap = cond c (record { before = []; blocks = []; after = block (Rel h) n ∷ b }) (record g { blocks = block (Rel h) n ∷ g.blocks }) in
      cond (has_named h f.blocks) (r + room f) (room_of (find (λ (g : Gap). has_named h g.blocks) (map (further (block (Rel h) n)) (cond c (g ∷ later_gaps t b) (later_gaps t b)))))) moves
      ∙ ap (λ c. cond (c || has_named h g.blocks) (r + (0 + room g)) (room_of (find (λ (g : Gap). has_named h g.blocks) (map (further (block (Rel h) n)) (later_gaps t b))))) (eqb_same h)
      ∙ (let e : r + (0 + room g) ≡ r + room g = omega arith in e)
  own_found r (d ∷ a) none =
      let parts = nothing_passes (is_named h d.kind) d.size (sizes (is_named h) a) none in
      let m : ZoneMap = a ++ block (Rel h) n ∷ b in
      let g : Gap = first_gap t m in
      let zero_rest = own_found 0 a parts.1 in
      let on_rest = own_found (r + free_size d) a parts.1 in
      elim (is_fixed t d.kind) as (λ c. (let f : Gap = cond c (record { before = []; blocks = []; after = d ∷ m }) (record g { blocks = d ∷ g.blocks }) in
      cond (has_named h f.blocks) (r + room f) (room_of (find (λ (g : Gap). has_named h g.blocks) (map (further d) (cond c (g ∷ later_gaps t m) (later_gaps t m)))))) ≡ cond c (own_room 0 a) (own_room (r + free_size d) a)) [
        | true ↦ room_further (λ (g : Gap). has_named h g.blocks) d (g ∷ later_gaps t m) (λ g. refl) ∙ found_first (has_named h g.blocks) g (find (λ (g : Gap). has_named h g.blocks) (later_gaps t m)) ∙ zero_rest
        | false ↦ ap (λ c. cond (c || has_named h g.blocks) (r + (free_size d + room g)) (room_of (find (λ (g : Gap). has_named h g.blocks) (map (further d) (later_gaps t m))))) parts.0
            ∙ ap (λ s. cond (has_named h g.blocks) s (room_of (find (λ (g : Gap). has_named h g.blocks) (map (further d) (later_gaps t m))))) (let e : r + (free_size d + room g) ≡ r + free_size d + room g = omega arith in e)
            ∙ ap (λ s. cond (has_named h g.blocks) (r + free_size d + room g) s) (room_further (λ (g : Gap). has_named h g.blocks) d (later_gaps t m) (λ g. refl)) ∙ on_rest
      ]
    where
      found_first : (c : Bool) (g : Gap) (o : Option Gap) → room_of (cond c (Some g) o) ≡ cond c (0 + room g) (room_of o)
      found_first true g o = let e : room g ≡ 0 + room g = omega arith in e
      found_first false g o = refl

  -- the gap of h is found, and has this room
  own-room : (a : ZoneMap) → sizes (is_named h) a ≡ [] → room_of (own_gap h (gaps t (a ++ block (Rel h) n ∷ b))) ≡ own_room 0 a
  own-room a none =
      let m : ZoneMap = a ++ block (Rel h) n ∷ b in
      ap (λ gs. room_of (own_gap h gs)) (gaps-first t m)
      ∙ first_or (has_named h (first_gap t m).blocks) (first_gap t m) (find (λ (g : Gap). has_named h g.blocks) (later_gaps t m)) ∙ own_found 0 a none
    where
      first_or : (c : Bool) (g : Gap) (o : Option Gap) → room_of (cond c (Some g) o) ≡ cond c (0 + room g) (room_of o)
      first_or true g o = let e : room g ≡ 0 + room g = omega arith in e
      first_or false g o = refl

module _ (z : ZoneState) (h k : ℕ) (sound : SoundZone z) (live : is_handle z.heap.table h ≡ true) (unlocked : is_locked z.heap.table h ≡ false) where
  moves : stays z.heap.table h ≡ false
  moves = ap (λ c. c || is_locked z.heap.table h) (handle_no_pointer z.heap.table h live) ∙ unlocked

  -- a gap has room then where the block's own has it with the block, or one has it as it is
  room_full : has_block z.heap.table h ≡ true
      → some_gap_has k (gaps z.heap.table (released h z.heap.map)) ≡ (nat_le k (size_of h z.heap.map + room_of (gap_to_grow z.heap.table h z.heap.map)) || some_gap_has k (gaps z.heap.table z.heap.map))
  room_full has =
      let one = one_size (sizes (is_named h) z.heap.map) (named_once z.shape z.heap.table z.heap.map h sound.sound.suits has) in
      let there = first_named h z.heap.map (some_named h one.0 z.heap.map one.1) in
      by_kind one.0 one.1 there.front there.block.kind there.back (At-from h z.heap.map one.0 there.front there.block there.back one.1 there.was there.named)
    where
      by_kind : (n : ℕ) → sizes (is_named h) z.heap.map ≡ n ∷ [] → (a : ZoneMap) (kind : Kind) (b : ZoneMap) → At h z.heap.map n a kind b
          → some_gap_has k (gaps z.heap.table (released h z.heap.map)) ≡ (nat_le k (size_of h z.heap.map + room_of (gap_to_grow z.heap.table h z.heap.map)) || some_gap_has k (gaps z.heap.table z.heap.map))
      by_kind n one a Free b at = absurd (cc at.named)
      by_kind n one a Master b at = absurd (cc at.named)
      by_kind n one a (Ptr p) b at = absurd (cc (sym moves ∙ stays-fixed z.shape z.heap.table z.heap.map h n a (Ptr p) b sound.sound.suits at))
      by_kind n one a (Rel g) b at =
          let t : HandleTable = z.heap.table in
          let whole : z.heap.map ≡ a ++ block (Rel h) n ∷ b = at.was ∙ ap (λ g. a ++ block (Rel g) n ∷ b) (eqb-true g h at.named) in
          some_gap-reaches t k (released h z.heap.map) ∙ reaches-joined t k 0 (freed h z.heap.map)
          ∙ ap (reaches t k 0) (freed-At h z.heap.map (block (Rel g) n) a b at)
          ∙ own_reaches t k n h b unlocked 0 a
          ∙ ap (λ c. nat_le k (n + own_room t k n h b unlocked 0 a) || c) (ap (reaches t k 0) (sym whole) ∙ sym (some_gap-reaches t k z.heap.map))
          ∙ ap (λ r. nat_le k (n + r) || some_gap_has k (gaps t z.heap.map)) (sym (own-room t k n h b unlocked a at.none_front) ∙ ap (λ m. room_of (own_gap h (gaps t m))) (sym whole)
          ∙ ap (λ s. room_of (cond s (gap_after h (gaps t z.heap.map)) (own_gap h (gaps t z.heap.map)))) (sym moves))
          ∙ ap (λ n. nat_le k (n + room_of (gap_to_grow t h z.heap.map)) || some_gap_has k (gaps t z.heap.map)) (sym (size_of-At h z.heap.map n one))

  -- where the handle has no block, the gaps are as they are
  room_empty : has_block z.heap.table h ≡ false → some_gap_has k (gaps z.heap.table (released h z.heap.map)) ≡ some_gap_has k (gaps z.heap.table z.heap.map)
  room_empty none =
      let parts = or_parts (is_full z.heap.table h) (is_pointer z.heap.table h) none in
      ap (λ m. some_gap_has k (gaps z.heap.table m)) (released-none z.shape z.heap.table z.heap.map h sound.sound.suits parts.0 parts.1)

  -- a gap that has room has it still
  pub room-found : some_gap_has k (gaps z.heap.table z.heap.map) ≡ true → true ≡ some_gap_has k (gaps z.heap.table (released h z.heap.map))
  room-found found = by_block (has_block z.heap.table h) refl
    where
      by_block : (b : Bool) → has_block z.heap.table h ≡ b → true ≡ some_gap_has k (gaps z.heap.table (released h z.heap.map))
      by_block false none = sym (room_empty none ∙ found)
      by_block true has =
          let own : Bool = nat_le k (size_of h z.heap.map + room_of (gap_to_grow z.heap.table h z.heap.map)) in
          sym (room_full has ∙ ap (λ c. own || c) found ∙ or-true own)

  -- where none has and the handle has no block, there is no room
  pub room-none : has_block z.heap.table h ≡ false → some_gap_has k (gaps z.heap.table z.heap.map) ≡ false → false ≡ some_gap_has k (gaps z.heap.table (released h z.heap.map))
  room-none none full = sym (room_empty none ∙ full)

  -- and where it has one, there is room where its gap has it with that
  pub room-own : has_block z.heap.table h ≡ true → some_gap_has k (gaps z.heap.table z.heap.map) ≡ false
      → nat_le k (size_of h z.heap.map + room_of (gap_to_grow z.heap.table h z.heap.map)) ≡ some_gap_has k (gaps z.heap.table (released h z.heap.map))
  room-own has full =
      let own : Bool = nat_le k (size_of h z.heap.map + room_of (gap_to_grow z.heap.table h z.heap.map)) in
      sym (room_full has ∙ ap (λ c. own || c) full ∙ no_other own)
