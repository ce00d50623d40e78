-- The gap in which the block of an unlocked handle lies, and the block's place in it.
use Rattle.std.proofs.Common.{◌≡◌, ℕ, true, false, [], ◌∷◌, ◌++◌, refl, ap, sym, ◌∙◌, append_assoc, arith, Option, Some, None}
use Rattle.std.specs.Prelude.{◌==◌, is_some}
use Rattle.std.specs.List.{list_all}
use Rattle.std.proofs.lemmas.Bool.{true≢false}
use Rattle.std.proofs.lemmas.Bool.Decides.{nat_tests}
use Rattle.mac_base.specs.declared.block.Entry.{Entry}
use Rattle.mac_base.specs.declared.block.Kind.TheVariants.{Rel}
use Rattle.mac_base.specs.Gap.{Gap, gaps, own_gap}
use Rattle.mac_base.specs.HandleTable.{is_full, is_locked}
use Rattle.mac_base.specs.ZoneMap.{ZoneMap, block, address_after, is_named, sizes}
use Rattle.mac_base.specs.ZoneState.{ZoneState}
use Rattle.zone_laws.proofs.GapParts.{IsGap, own_gap-is}
use Rattle.zone_laws.proofs.NamedPlace.{At-from, InGap, own_gap-parts}
use Rattle.zone_laws.proofs.OpenedGap.{own-At}
use Rattle.zone_laws.proofs.Owners.{nothing_passes}
use Rattle.zone_laws.proofs.FittingResize.{own_gap-found, one_size}
use Rattle.linked_zone.specs.Places.{BlockOf, EntryAt, all_can_move}
use Rattle.zone_heap.specs.Gaps.{Settled}
use Rattle.zone_index.specs.Runs.{FrontAt, RestAt, none_fixed}
use Rattle.zone_index.proofs.Sizes.{all_parts}
use Rattle.zone_heap.specs.Runs.{has_owner}
use Rattle.zone_heap.proofs.Settling.{owners-settled, all_move-unfixed}
use Rattle.zone_index.proofs.Naming.{named_alone}

pub heads : (d g : Entry) (a b : ZoneMap) → d ∷ a ≡ g ∷ b → (d ≡ g) × (a ≡ b)
heads d g a b h = (cc h, cc h)

-- the first block of a number is at one place
pub same_named : (x : ℕ) (a : ZoneMap) (e : Entry) (b : ZoneMap) (c : ZoneMap) (f : Entry) (d : ZoneMap) → a ++ e ∷ b ≡ c ++ f ∷ d → is_named x e.kind ≡ true → is_named x f.kind ≡ true → sizes (is_named x) a ≡ [] → sizes (is_named x) c ≡ [] → a ≡ c
same_named x [] e b [] f d is here there none_a none_c = refl
same_named x [] e b (g ∷ c) f d is here there none_a none_c =
    let head = (heads e g b (c ++ f ∷ d) is).0 in
    absurd (true≢false (sym here ∙ ap (λ (e : Entry). is_named x e.kind) head ∙ (nothing_passes (is_named x g.kind) g.size (sizes (is_named x) c) none_c).0))
same_named x (g ∷ a) e b [] f d is here there none_a none_c =
    let head = (heads g f (a ++ e ∷ b) d is).0 in
    absurd (true≢false (sym there ∙ ap (λ (e : Entry). is_named x e.kind) (sym head) ∙ (nothing_passes (is_named x g.kind) g.size (sizes (is_named x) a) none_a).0))
same_named x (g ∷ a) e b (h ∷ c) f d is here there none_a none_c =
    let head = heads g h (a ++ e ∷ b) (c ++ f ∷ d) is in
    let rest = same_named x a e b c f d head.1 here there (nothing_passes (is_named x g.kind) g.size (sizes (is_named x) a) none_a).1 (nothing_passes (is_named x h.kind) h.size (sizes (is_named x) c) none_c).1 in
    ap (λ e. e ∷ a) head.0 ∙ ap (λ m. h ∷ m) rest

-- The gap of the block of a handle, and the block's place in it.
pub record Owned (z : ZoneState) (h at : ℕ) : Type 0 where
  pub gap : Gap
  pub found : own_gap h (gaps z.heap.table z.heap.map) ≡ Some gap
  pub is : IsGap z.heap.table z.heap.map gap
  pub size : ℕ
  pub place : InGap h gap size
  pub at_is : at ≡ address_after z.shape (gap.before ++ place.front)

itself : (h : ℕ) → (h == h) ≡ true
itself h = grind (arith, nat_tests)

-- an unlocked handle's block has one
pub owned : (z : ZoneState) (h at : ℕ) → Settled z → is_full z.heap.table h ≡ true → is_locked z.heap.table h ≡ false → BlockOf z h at → Owned z h at
owned z h at settled full unlocked b = by_gap (own_gap h (gaps z.heap.table z.heap.map)) refl
    (ap (λ m. is_some (own_gap h (gaps z.heap.table m))) b.map ∙ own_gap-found z.heap.table h b.before (block (Rel h) b.size) b.after unlocked (itself h))
  where
    by_gap : (o : Option Gap) → own_gap h (gaps z.heap.table z.heap.map) ≡ o → is_some o ≡ true → Owned z h at
    by_gap None found some = absurd (cc some)
    by_gap (Some g) found some =
        let own = own_gap-is z.heap.table z.heap.map h g found in
        let one = one_size (sizes (is_named h) z.heap.map) (named_alone z.shape z.heap.table z.heap.map h settled.coherent full) in
        let p : InGap h g one.0 = own_gap-parts z.heap.table z.heap.map g h one.0 own.0 own.1 one.1 in
        let there = own-At z.heap.table z.heap.map h g one.0 own.0 p in
        let here = At-from h z.heap.map one.0 b.before (block (Rel h) b.size) b.after one.1 b.map (itself h) in
        record {
          gap = g;
          found = found;
          is = own.0;
          size = one.0;
          place = p;
          at_is = b.place ∙ ap (address_after z.shape) (same_named h b.before (block (Rel h) b.size) b.after (g.before ++ p.front) (block p.kind one.0) (p.back ++ g.after) (sym b.map ∙ there.was) (itself h) there.named here.none_front there.none_front);
        }

module _ (z : ZoneState) (h at : ℕ) (o : Owned z h at) where
  -- the block
  abbrev pub here_owned : Entry
  here_owned = block (o.place).kind o.size

  -- the map around it
  pub map_owned : z.heap.map ≡ ((o.gap).before ++ (o.place).front) ++ here_owned ∷ ((o.place).back ++ (o.gap).after)
  map_owned = (own-At z.heap.table z.heap.map h o.gap o.size o.is o.place).was

  abbrev pub entry_owned : EntryAt z at
  entry_owned = record { before = (o.gap).before ++ (o.place).front; here = here_owned; after = (o.place).back ++ (o.gap).after; map = map_owned; place = o.at_is }

  -- none of the gap's blocks is fixed
  pub moves_owned : (none_fixed z.heap.table (o.place).front ≡ true) × (none_fixed z.heap.table (here_owned ∷ (o.place).back) ≡ true)
  moves_owned = all_parts _ (o.place).front (here_owned ∷ (o.place).back) (ap (none_fixed z.heap.table) (sym ((o.place).at).was) ∙ (o.is).moves)

  pub map_front : z.heap.map ≡ (o.gap).before ++ ((o.place).front ++ here_owned ∷ ((o.place).back ++ (o.gap).after))
  map_front = map_owned ∙ append_assoc (o.gap).before (o.place).front (here_owned ∷ ((o.place).back ++ (o.gap).after))

  -- the blocks before it
  abbrev pub front_owned : FrontAt z at
  front_owned = record { before = (o.gap).before; blocks = (o.place).front; after = here_owned ∷ ((o.place).back ++ (o.gap).after); map = map_front; place = o.at_is; moves = moves_owned.0; below = (o.is).below }

  -- those from it on
  abbrev pub rest_owned : RestAt z at
  rest_owned = record { before = (o.gap).before ++ (o.place).front; blocks = here_owned ∷ (o.place).back; after = (o.gap).after; map = map_owned; place = o.at_is; moves = moves_owned.1; above = (o.is).above }

  -- all its blocks can be moved
  pub can_move_owned : Settled z → (all_can_move z.heap.table (o.place).front ≡ true) × (all_can_move z.heap.table (here_owned ∷ (o.place).back) ≡ true)
  can_move_owned s =
      let owners = owners-settled z s in
      let outer = all_parts (λ (e : Entry). has_owner z.heap.table e.kind) (o.gap).before ((o.place).front ++ here_owned ∷ ((o.place).back ++ (o.gap).after)) (ap (list_all (λ (e : Entry). has_owner z.heap.table e.kind)) (sym map_front) ∙ owners) in
      let inner = all_parts (λ (e : Entry). has_owner z.heap.table e.kind) (o.place).front (here_owned ∷ ((o.place).back ++ (o.gap).after)) outer.1 in
      let back = all_parts (λ (e : Entry). has_owner z.heap.table e.kind) (here_owned ∷ (o.place).back) (o.gap).after inner.1 in
      (all_move-unfixed z.heap (o.place).front s.loans inner.0 moves_owned.0, all_move-unfixed z.heap (here_owned ∷ (o.place).back) s.loans back.0 moves_owned.1)
