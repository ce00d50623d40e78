-- A request for another size is served exactly where it fits.
use Rattle.std.proofs.Common.{◌≡◌, ℕ, ◌+◌, ◌<◌, ◌≤◌, Bool, true, false, not, cond, List, [], ◌∷◌, ◌++◌, length, refl, ap, sym, ◌∙◌, arith, Some, None, Option}
use Rattle.std.specs.Prelude.{◌&&◌, ◌||◌, nat_le, is_some, option_and_then}
use Rattle.std.specs.Option.{option_or}
use Rattle.std.specs.List.{list_any}
use Rattle.std.proofs.lemmas.Bool.{and_from, and_parts, or_left, or_right, or_cases, leb-true, le-leb, not-true}
use Rattle.std.proofs.lemmas.List.Folds.{list_any-append}
use Rattle.mac_base.specs.declared.block.Entry.{Entry}
use Rattle.mac_base.specs.HeadKind.{Shape}
use Rattle.mac_base.specs.ZoneMap.{ZoneMap, block, free_block, is_named, free_bytes, sizes}
use Rattle.mac_base.specs.HandleTable.{HandleTable}
use Rattle.mac_base.specs.Suits.{Suits}
use Rattle.mac_base.specs.Gap.{Gap, gaps, filled, room, is_fixed, has_named, some_gap_has, own_gap, gap_after}
use Rattle.mac_base.specs.Arrangement.{used_blocks, up, open_at}
use Rattle.mac_base.specs.declared.request.Request.TheVariants.{Resize}
use Rattle.mac_base.specs.Request.{size_needed, size_of, stays, gap_to_grow, room_of, can_grow, fits}
use Rattle.mac_base.specs.Serve.{free_in_front, resized_in_place, opened_for, resized_in_gap, resized_elsewhere, resized_block, gives, serve}
use Rattle.zone_laws.proofs.GapAppend.{free_bytes-append}
use Rattle.zone_laws.proofs.GapParts.{IsGap, own_gap-is, gap_after-is}
use Rattle.zone_laws.proofs.GapRoom.{is_some-find, gap_of_block, gap_after-found}
use Rattle.zone_laws.proofs.NamedPlace.{InGap, BeforeGap, FirstNamed, first_named, At-from, own_gap-parts, gap_after-parts, size_of-At}
use Rattle.zone_laws.proofs.SuitsNamed.{stays-fixed}
use Rattle.zone_laws.proofs.Fitting.{is_some-map, is_some-or, is_some-placed_relocatable, size_needed-positive}
use Rattle.zone_laws.proofs.OpenedGap.{is_some-resized_in_place, opened_own-At, opened_after-At, own-At, opened_front, free_in_front-le}

-- what the block of x can have in the gap in which it can grow
record GrowsIn (s : Shape) (t : HandleTable) (k x n : ℕ) (m : ZoneMap) (g : Gap) : Type 0 where
  pub in_gap : is_some (resized_in_place s k x (opened_for t x g)) ≡ nat_le k (n + room g)
  pub in_place : is_some (resized_in_place s k x m) ≡ true → nat_le k (n + room g) ≡ true

more_room : (k n a b : ℕ) → nat_le k (n + a) ≡ true → a ≤ b → nat_le k (n + b) ≡ true
more_room k n a b h le = let fits = leb-true k (n + a) h in le-leb k (n + b) (omega arith)

grows_own : (s : Shape) (t : HandleTable) (k x n : ℕ) (m : ZoneMap) (g : Gap) → stays t x ≡ false → IsGap t m g → InGap x g n → GrowsIn s t k x n m g
grows_own s t k x n m g moves i p =
    let at = p.at in
    record {
      in_gap = ap (λ c. is_some (resized_in_place s k x (filled g (cond c (up g.blocks) (open_at x g.blocks))))) moves
          ∙ is_some-resized_in_place s k x (filled g (open_at x g.blocks)) n (g.before ++ used_blocks p.front) p.kind (free_block (room g) ++ used_blocks p.back ++ g.after) (opened_own-At x g n p) ∙ ap (λ r. nat_le k (n + r)) (opened_front t g p.back i.above);
      in_place = λ is. more_room k n (free_in_front (p.back ++ g.after)) (room g) (sym (is_some-resized_in_place s k x m n (g.before ++ p.front) p.kind (p.back ++ g.after) (own-At t m x g n i p)) ∙ is)
          (let le = free_in_front-le t p.back g.after i.above in let all = ap free_bytes at.was in let parts = free_bytes-append p.front (block p.kind n ∷ p.back) in omega arith);
    }

grows_after : (s : Shape) (t : HandleTable) (k x n : ℕ) (m : ZoneMap) (g : Gap) → stays t x ≡ true → IsGap t m g → BeforeGap x m g n → GrowsIn s t k x n m g
grows_after s t k x n m g fixed i p = record {
  in_gap = ap (λ c. is_some (resized_in_place s k x (filled g (cond c (up g.blocks) (open_at x g.blocks))))) fixed
      ∙ is_some-resized_in_place s k x (filled g (up g.blocks)) n p.front p.kind (free_block (room g) ++ used_blocks g.blocks ++ g.after) (opened_after-At x m g n p) ∙ ap (λ r. nat_le k (n + r)) (opened_front t g g.blocks i.above);
  in_place = λ is. more_room k n (free_in_front (g.blocks ++ g.after)) (room g) (sym (is_some-resized_in_place s k x m n p.front p.kind (g.blocks ++ g.after) p.at) ∙ is) (free_in_front-le t g.blocks g.after i.above);
}

list_any-weaker : (p q : Entry → Bool) (m : ZoneMap) → ((e : Entry) → p e ≡ true → q e ≡ true) → list_any p m ≡ true → list_any q m ≡ true
list_any-weaker p q [] weaker h = h
list_any-weaker p q (e ∷ es) weaker h = grind (arith, list_any-weaker p q es weaker, or_cases, or_left, or_right)

gap_any_weaker : (p q : Entry → Bool) (gs : List Gap) → ((e : Entry) → p e ≡ true → q e ≡ true) → list_any (λ (g : Gap). list_any p g.blocks) gs ≡ true → list_any (λ (g : Gap). list_any q g.blocks) gs ≡ true
gap_any_weaker p q [] weaker h = h
gap_any_weaker p q (g ∷ gs) weaker h = grind (arith, gap_any_weaker p q gs weaker, list_any-weaker, or_cases, or_left, or_right)

-- whether x names a block, and it may move
abbrev named_moves : HandleTable → ℕ → Entry → Bool
named_moves t x e = is_named x e.kind && not (is_fixed t e.kind)

-- the block of x, where it may move, lies in a gap
pub own_gap-found : (t : HandleTable) (x : ℕ) (a : ZoneMap) (e : Entry) (b : ZoneMap) → is_fixed t e.kind ≡ false → is_named x e.kind ≡ true → is_some (own_gap x (gaps t (a ++ e ∷ b))) ≡ true
own_gap-found t x a e b moving named =
    is_some-find (λ g. has_named x g.blocks) (gaps t (a ++ e ∷ b))
    ∙ gap_any_weaker (named_moves t x) (λ (e : Entry). is_named x e.kind) (gaps t (a ++ e ∷ b)) (λ d both. (and_parts _ _ both).0)
    (gap_of_block (named_moves t x) t (a ++ e ∷ b) (λ d both. not-true _ (and_parts _ _ both).1) (list_any-append (named_moves t x) a (e ∷ b) ∙ or_right _ _ (or_left _ _ (and_from _ _ named (ap not moving)))))

-- where x names one block, there is a gap in which it can grow
record Growing (s : Shape) (t : HandleTable) (k x n : ℕ) (m : ZoneMap) : Type 0 where
  pub gap : Gap
  pub found : gap_to_grow t x m ≡ Some gap
  pub grows : GrowsIn s t k x n m gap

growing_own : (s : Shape) (t : HandleTable) (k x n : ℕ) (m : ZoneMap) (o : Option Gap) → own_gap x (gaps t m) ≡ o → is_some o ≡ true → stays t x ≡ false → sizes (is_named x) m ≡ n ∷ [] → Growing s t k x n m
growing_own s t k x n m None found there moves once = absurd (cc there)
growing_own s t k x n m (Some g) found there moves once =
    let own = own_gap-is t m x g found in
    record { gap = g; found = ap (λ c. cond c (gap_after x (gaps t m)) (own_gap x (gaps t m))) moves ∙ found; grows = grows_own s t k x n m g moves own.0 (own_gap-parts t m g x n own.0 own.1 once) }

growing_after : (s : Shape) (t : HandleTable) (k x n : ℕ) (m : ZoneMap) (o : Option Gap) → gap_after x (gaps t m) ≡ o → is_some o ≡ true → stays t x ≡ true → sizes (is_named x) m ≡ n ∷ [] → Growing s t k x n m
growing_after s t k x n m None found there fixed once = absurd (cc there)
growing_after s t k x n m (Some g) found there fixed once =
    let after = gap_after-is t m x g found in
    record { gap = g; found = ap (λ c. cond c (gap_after x (gaps t m)) (own_gap x (gaps t m))) fixed ∙ found; grows = grows_after s t k x n m g fixed after.0 (gap_after-parts t m g x n after.0 after.1 once) }

growing : (s : Shape) (t : HandleTable) (k x n : ℕ) (m : ZoneMap) → Suits s t m → sizes (is_named x) m ≡ n ∷ [] → (f : FirstNamed x m) → Growing s t k x n m
growing s t k x n m suits once f =
    let at = At-from x m n f.front f.block f.back once f.was f.named in
    let same = stays-fixed s t m x n f.front f.block.kind f.back suits at in
    elim (stays t x) as (λ c. stays t x ≡ c → Growing s t k x n m) [
      | true ↦ λ fixed. growing_after s t k x n m (gap_after x (gaps t m)) refl (ap (λ m. is_some (gap_after x (gaps t m))) f.was ∙ gap_after-found t x f.front f.block f.back (sym same ∙ fixed) f.named) fixed once
      | false ↦ λ moves. growing_own s t k x n m (own_gap x (gaps t m)) refl (ap (λ m. is_some (own_gap x (gaps t m))) f.was ∙ own_gap-found t x f.front f.block f.back (sym same ∙ moves) f.named) moves once
    ] refl

-- a list of length one has one element
pub one_size : (ns : List ℕ) → length ns ≡ 1 → (n : ℕ) × (ns ≡ n ∷ [])
one_size [] h = absurd (omega arith)
one_size (n ∷ []) h = (n, refl)
one_size (n ∷ p ∷ ns) h = absurd (omega arith)

-- what has one size names a block
pub some_named : (x n : ℕ) (m : ZoneMap) → sizes (is_named x) m ≡ n ∷ [] → has_named x m ≡ true
some_named x n [] once = absurd (cc once)
some_named x n (e ∷ es) once = elim (is_named x e.kind) as (λ c. cond c (e.size ∷ []) [] ++ sizes (is_named x) es ≡ n ∷ [] → (c || has_named x es) ≡ true) [
  | true ↦ λ once. refl
  | false ↦ λ once. some_named x n es once
] once

-- the block of x is made k bytes long in its gap where it and the gap have them
in_gap_room : (s : Shape) (t : HandleTable) (k x n : ℕ) (m : ZoneMap) → Growing s t k x n m → is_some (resized_in_gap s t k x m) ≡ nat_le k (n + room_of (gap_to_grow t x m))
in_gap_room s t k x n m g = let grows = g.grows in
    ap (λ o. is_some (option_and_then (λ g. resized_in_place s k x (opened_for t x g)) o)) g.found ∙ grows.in_gap ∙ ap (λ o. nat_le k (n + room_of o)) (sym g.found)

in_place_room : (s : Shape) (t : HandleTable) (k x n : ℕ) (m : ZoneMap) → Growing s t k x n m → is_some (resized_in_place s k x m) ≡ true → nat_le k (n + room_of (gap_to_grow t x m)) ≡ true
in_place_room s t k x n m g is = let grows = g.grows in ap (λ o. nat_le k (n + room_of o)) g.found ∙ grows.in_place is

is_some-elsewhere : (s : Shape) (t : HandleTable) (k x : ℕ) (m : ZoneMap) → 0 < k → is_some (resized_elsewhere s t k x m) ≡ (not (stays t x) && some_gap_has k (gaps t m))
is_some-elsewhere s t k x m some = grind (arith, is_some-map, is_some-placed_relocatable)

absorbs : (a b c : Bool) → (a ≡ true → b ≡ true) → (a || (b || c)) ≡ (b || c)
absorbs true b c h = sym (or_left b c (h refl))
absorbs false b c h = refl

-- it can be exactly where the gap in which it can grow has them with it
pub is_some-resized_in_gap : (s : Shape) (t : HandleTable) (k x : ℕ) (m : ZoneMap) → Suits s t m → length (sizes (is_named x) m) ≡ 1 → is_some (resized_in_gap s t k x m) ≡ nat_le k (size_of x m + room_of (gap_to_grow t x m))
is_some-resized_in_gap s t k x m suits once = grind (arith, first_named, growing, in_gap_room, one_size, size_of-At, some_named)

-- the block of x can be made k bytes long exactly where it can grow to them
pub is_some-resized_block : (s : Shape) (t : HandleTable) (k x : ℕ) (m : ZoneMap) → 0 < k → Suits s t m → length (sizes (is_named x) m) ≡ 1 → is_some (resized_block s t k x m) ≡ can_grow t x k m
is_some-resized_block s t k x m some suits once =
    let one = one_size (sizes (is_named x) m) once in
    let n : ℕ = one.0 in
    let grows = growing s t k x n m suits one.1 (first_named x m (some_named x n m one.1)) in
    is_some-or (resized_in_place s k x m) (option_or (resized_in_gap s t k x m) (resized_elsewhere s t k x m))
    ∙ ap (λ b. is_some (resized_in_place s k x m) || b) (is_some-or (resized_in_gap s t k x m) (resized_elsewhere s t k x m)
    ∙ ap (λ b. b || is_some (resized_elsewhere s t k x m)) (in_gap_room s t k x n m grows) ∙ ap (λ b. nat_le k (n + room_of (gap_to_grow t x m)) || b) (is_some-elsewhere s t k x m some))
    ∙ absorbs (is_some (resized_in_place s k x m)) (nat_le k (n + room_of (gap_to_grow t x m))) (not (stays t x) && some_gap_has k (gaps t m)) (in_place_room s t k x n m grows)
    ∙ ap (λ n. nat_le k (n + room_of (gap_to_grow t x m)) || (not (stays t x) && some_gap_has k (gaps t m))) (sym (size_of-At x m n one.1))

-- a request for another size is served exactly where it fits
pub serve-Resize : (s : Shape) (t : HandleTable) (slot : ℕ) (m : ZoneMap) (x n : ℕ) → Suits s t m → length (sizes (is_named x) m) ≡ 1 → is_some (serve s t slot m (Resize x n)) ≡ fits s t (Resize x n) m
serve-Resize s t slot m x n suits once = let k : ℕ = size_needed s (Resize x n) in
    is_some-map (gives x) (resized_block s t k x m) ∙ is_some-resized_block s t k x m (size_needed-positive s (Resize x n)) suits once
