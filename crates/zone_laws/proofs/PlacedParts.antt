-- What a request for a new block took, and where: from the results of placing to their parts.
use Rattle.std.proofs.Common.{◌≡◌, ℕ, ◌<◌, ◌≤◌, max, Bool, true, false, cond, [], ◌∷◌, ◌++◌, refl, ap, sym, ◌∙◌, subst, inl, inr, append-nil, append_assoc, arith, Some, None, Option}
use Rattle.std.specs.Prelude.{◌&&◌, ◌||◌, ◌⊎◌, nat_le, MatchOption, ⊤, option_map, option_and_then}
use Rattle.std.specs.Option.{option_or}
use Rattle.std.specs.List.{list_any}
use Rattle.std.proofs.lemmas.Bool.Decides.{nat_tests}
use Rattle.mac_base.specs.declared.block.Kind.{Kind}
use Rattle.mac_base.specs.declared.block.Kind.TheVariants.{Free}
use Rattle.mac_base.specs.HeadKind.{Shape}
use Rattle.mac_base.specs.ZoneMap.{ZoneMap, Rearranged, block, free_block, is_free, is_named, has_free, free_size, free_bytes, largest_free, released, sizes}
use Rattle.mac_base.specs.HandleTable.{HandleTable}
use Rattle.mac_base.specs.Suits.{free_apart}
use Rattle.mac_base.specs.Gap.{Gap, filled, is_fixed}
use Rattle.mac_base.specs.Arrangement.{used_blocks, down, up}
use Rattle.mac_base.specs.Serve.{taken, take_lowest, begins_free, cleared}
use Rattle.zone_laws.proofs.GapAppend.{sizes-append}
use Rattle.zone_laws.proofs.GapParts.{IsGap, all_move}
use Rattle.zone_laws.proofs.Arranging.{up-IsArrangement, sizes-used, sizes-free_block}
use Rattle.zone_laws.proofs.Rearranging.{Rearranged-refl, gap-Rearranged, all_move-arranged}
use Rattle.zone_laws.proofs.GapApart.{free_apart-arranged}
use Rattle.zone_laws.proofs.NamedPlace.{nil-append}
use Rattle.zone_laws.proofs.ReleasedBlocks.{released-taken}
use Rattle.zone_laws.proofs.Placing.{TakenAt, take_lowest-parts}

-- where the value comes from that a function gives
pub option_map-Some : {A B : Type 0} (f : A → B) (o : Option A) (b : B) → option_map f o ≡ Some b → (a : A) × (o ≡ Some a) × (f a ≡ b)
option_map-Some f None b h = absurd (cc h)
option_map-Some f (Some a) b h = (a, refl, cc h)

-- the same of a function that may give none
pub option_and_then-Some : {A B : Type 0} (f : A → Option B) (o : Option A) (b : B) → option_and_then f o ≡ Some b → (a : A) × (o ≡ Some a) × (f a ≡ Some b)
option_and_then-Some f None b h = absurd (cc h)
option_and_then-Some f (Some a) b h = (a, refl, h)

-- the same of the first of two
pub option_or-Some : {A : Type 0} (o p : Option A) (a : A) → option_or o p ≡ Some a → (o ≡ Some a) ⊎ ((o ≡ None) × (p ≡ Some a))
option_or-Some None p a h = inr (refl, h)
option_or-Some (Some b) p a h = inl h

-- what is taken from the lowest free block, by its parts
pub taken-parts : (s : Shape) (k : ℕ) (kind : Kind) (old new : ZoneMap) → take_lowest s k kind old ≡ Some new → TakenAt s k kind old new
taken-parts s k kind old new found = subst (λ o. MatchOption o ⊤ (λ new. TakenAt s k kind old new)) found (take_lowest-parts s k kind old)

-- the gap with other blocks that may move is a gap of the map so filled
pub gap_filled : (t : HandleTable) (m : ZoneMap) (g : Gap) (b : ZoneMap) → IsGap t m g → all_move t b ≡ true → IsGap t (filled g b) (record g { blocks = b })
gap_filled t m g b i moves = record { parts = refl; moves = moves; below = i.below; above = i.above }

-- the sizes of the blocks that pass a test, in the parts of a map without one
pub sizes-gap_none : (test : Kind → Bool) (t : HandleTable) (m : ZoneMap) (g : Gap) → IsGap t m g → sizes test m ≡ [] → (sizes test g.before ≡ []) × (sizes test g.blocks ≡ []) × (sizes test g.after ≡ [])
sizes-gap_none test t m g i none = grind (arith, nil-append, sizes-append)

-- down keeps the sizes of the blocks that pass a test which no free block passes
pub sizes-down : (test : Kind → Bool) (b : ZoneMap) → test Free ≡ false → sizes test (down b) ≡ sizes test b
sizes-down test b h = sizes-append test (used_blocks b) (free_block (free_bytes b)) ∙ ap (λ ns. sizes test (used_blocks b) ++ ns) (sizes-free_block test (free_bytes b) h) ∙ append-nil _ ∙ sizes-used test b h

-- and so does up
pub sizes-up : (test : Kind → Bool) (b : ZoneMap) → test Free ≡ false → sizes test (up b) ≡ sizes test b
sizes-up test b h = sizes-append test (free_block (free_bytes b)) (used_blocks b) ∙ ap (λ ns. ns ++ sizes test (used_blocks b)) (sizes-free_block test (free_bytes b) h) ∙ sizes-used test b h

-- a gap that begins with free bytes is cleared: it stays, or is arranged up
pub cleared-is : (P : ZoneMap → Type 0) (k : ℕ) (b : ZoneMap) → P b → P (up b) → P (cleared k b)
cleared-is P k b same moved = elim (begins_free k b) as (λ c. P (cond c b (up b))) [ true ↦ same | false ↦ moved ]

-- and so does clearing
pub sizes-cleared : (test : Kind → Bool) (k : ℕ) (b : ZoneMap) → test Free ≡ false → sizes test (cleared k b) ≡ sizes test b
sizes-cleared test k b h = cleared-is (λ c. sizes test c ≡ sizes test b) k b refl (sizes-up test b h)

-- blocks that may move still may once they are cleared
pub all_move-cleared : (t : HandleTable) (k : ℕ) (b : ZoneMap) → all_move t b ≡ true → all_move t (cleared k b) ≡ true
all_move-cleared t k b moves = cleared-is (λ c. all_move t c ≡ true) k b moves (all_move-arranged t b (up b) (up-IsArrangement b) moves)

-- to clear a gap is a rearrangement of the map
pub cleared-Rearranged : (s : Shape) (t : HandleTable) (k : ℕ) (m : ZoneMap) (g : Gap) → IsGap t m g → Rearranged s (is_fixed t) m (filled g (cleared k g.blocks))
cleared-Rearranged s t k m g i =
    cleared-is (λ b. Rearranged s (is_fixed t) m (filled g b)) k g.blocks (subst (Rearranged s (is_fixed t) m) i.parts (Rearranged-refl s (is_fixed t) m)) (gap-Rearranged s t m g (up g.blocks) i (up-IsArrangement g.blocks))

-- and keeps free blocks apart
pub free_apart-cleared : (t : HandleTable) (k : ℕ) (m : ZoneMap) (g : Gap) → IsGap t m g → free_apart m ≡ true → free_apart (filled g (cleared k g.blocks)) ≡ true
free_apart-cleared t k m g i apart = cleared-is (λ b. free_apart (filled g b) ≡ true) k g.blocks (ap free_apart (sym i.parts) ∙ apart) (free_apart-arranged t m g (up g.blocks) i (up-IsArrangement g.blocks) apart)

-- the largest free block has k bytes exactly where a free block has them
pub largest_free-has : (k : ℕ) (m : ZoneMap) → 0 < k → nat_le k (largest_free m) ≡ list_any (has_free k) m
largest_free-has k [] some = none k some
  where
    none : (k : ℕ) → 0 < k → nat_le k 0 ≡ false
    none k some = grind (arith, nat_tests)
largest_free-has k (e ∷ es) some = larger k (free_size e) (largest_free es) ∙ ap (λ b. nat_le k (free_size e) || b) (largest_free-has k es some) ∙ ap (λ b. b || list_any (has_free k) es) here
  where
    larger : (k a b : ℕ) → nat_le k (max a b) ≡ (nat_le k a || nat_le k b)
    larger k a b = grind (arith, nat_tests)

    none : (k : ℕ) → 0 < k → nat_le k 0 ≡ false
    none k some = grind (arith, nat_tests)

    here : nat_le k (free_size e) ≡ has_free k e
    here = elim (is_free e.kind) as (λ c. nat_le k (cond c e.size 0) ≡ (c && nat_le k e.size)) [ true ↦ refl | false ↦ none k some ]

-- what is taken in a gap, by the parts of the map
pub record TakenInGap (s : Shape) (k : ℕ) (kind : Kind) (g : Gap) (old new : ZoneMap) : Type 0 where
  pub front : ZoneMap
  pub size : ℕ
  pub back : ZoneMap
  pub was : filled g old ≡ front ++ block Free size ∷ back
  pub is : filled g new ≡ front ++ (taken s k kind size ++ back)
  pub fits : k ≤ size

-- a taking in a gap is one in the map
pub taken_in_gap : (s : Shape) (k : ℕ) (kind : Kind) (g : Gap) (old new : ZoneMap) → TakenAt s k kind old new → TakenInGap s k kind g old new
taken_in_gap s k kind g old new p =
    record {
      front = g.before ++ p.before;
      size = p.size;
      back = p.after ++ g.after;
      was = ap (λ b. g.before ++ b ++ g.after) p.was ∙ ap (λ b. b ++ g.after) (sym (append_assoc g.before p.before (block Free p.size ∷ p.after))) ∙ append_assoc (g.before ++ p.before) (block Free p.size ∷ p.after) g.after;
      is = ap (λ b. g.before ++ b ++ g.after) p.is ∙ ap (λ b. b ++ g.after) (sym (append_assoc g.before p.before (taken s k kind p.size ++ p.after))) ∙ append_assoc (g.before ++ p.before) (taken s k kind p.size ++ p.after) g.after
          ∙ ap (λ b. g.before ++ p.before ++ b) (append_assoc (taken s k kind p.size) p.after g.after);
      fits = p.fits;
    }

-- a block of x, which named none, taken and released again leaves the map that it was taken from
pub released-parts : (s : Shape) (k n x : ℕ) (kind : Kind) (a b m new : ZoneMap) → is_named x kind ≡ true → k ≤ n → m ≡ a ++ block Free n ∷ b → new ≡ a ++ (taken s k kind n ++ b) → sizes (is_named x) m ≡ [] → free_apart m ≡ true → released x new ≡ m
released-parts s k n x kind a b m new named fits was is none apart = grind (arith, nil-append, released-taken, sizes-append)

-- so of a block taken from the lowest free one
pub released-take_lowest : (s : Shape) (k x : ℕ) (kind : Kind) (m new : ZoneMap) → take_lowest s k kind m ≡ Some new → is_named x kind ≡ true → sizes (is_named x) m ≡ [] → free_apart m ≡ true → released x new ≡ m
released-take_lowest s k x kind m new found named none apart =
    let p = taken-parts s k kind m new found in
    released-parts s k p.size x kind p.before p.after m new named p.fits p.was p.is none apart

-- and of one taken in a gap
pub released-taken_in_gap : (s : Shape) (t : HandleTable) (k x : ℕ) (kind : Kind) (m : ZoneMap) (g : Gap) (old new : ZoneMap) → IsGap t m g → take_lowest s k kind old ≡ Some new → is_named x kind ≡ true → sizes (is_named x) m ≡ [] → sizes (is_named x) old ≡ []
    → free_apart (filled g old) ≡ true → released x (filled g new) ≡ filled g old
released-taken_in_gap s t k x kind m g old new i found named none none_old apart =
    let p = taken_in_gap s k kind g old new (taken-parts s k kind old new found) in
    let parts = sizes-gap_none (is_named x) t m g i none in
    released-parts s k p.size x kind p.front p.back (filled g old) (filled g new) named p.fits p.was p.is
    (sizes-append (is_named x) (g.before ++ old) g.after ∙ ap (λ ns. ns ++ sizes (is_named x) g.after) (sizes-append (is_named x) g.before old ∙ ap (λ ns. ns ++ sizes (is_named x) old) parts.0 ∙ none_old) ∙ parts.2) apart
