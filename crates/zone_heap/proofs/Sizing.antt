-- A block that gets another size where it is: the one block of a handle or a pointer, the front of it that is held,
-- and the sound heap then.
use Rattle.std.proofs.Common.{◌≡◌, ℕ, ◌+◌, ◌-◌, ◌<◌, ◌≤◌, Bool, true, false, cond, List, [], ◌∷◌, ◌++◌, length, Some, refl, ap, sym, ◌∙◌, arith, subst, length-append, IsTrue, inl, inr}
use Rattle.std.specs.Prelude.{◌==◌, ◌⊎◌, nat_lt, option_map}
use Rattle.std.specs.List.{list_all}
use Rattle.std.proofs.lemmas.Bool.Decides.{nat_tests}
use Rattle.mac_base.specs.declared.block.Entry.{Entry}
use Rattle.mac_base.specs.declared.block.Kind.TheVariants.{Free}
use Rattle.mac_base.specs.HeadKind.{Shape, need, smallest_block}
use Rattle.mac_base.specs.ZoneMap.{ZoneMap, block, free_block, is_named, sizes, total_size}
use Rattle.mac_base.specs.HandleTable.{has_block, is_lent}
use Rattle.mac_base.specs.Heap.{Heap, granted}
use Rattle.mac_base.specs.declared.request.Request.TheVariants.{Resize}
use Rattle.mac_base.specs.Request.{size_of}
use Rattle.mac_base.specs.Serve.{sized, resized_in_place}
use Rattle.mac_base.specs.Sound.{Sound}
use Rattle.mac_base.specs.Suits.{is_block_size, has_length}
use Rattle.mac_base.specs.ZoneState.{ZoneState}
use Rattle.zone_laws.proofs.GapAppend.{sizes-append}
use Rattle.zone_laws.proofs.Lent.{KeepsLent}
use Rattle.zone_laws.proofs.LentChanges.{keeps-resized}
use Rattle.zone_laws.proofs.Maps.{total_size-append}
use Rattle.zone_laws.proofs.NamedPlace.{At, At-from, size_of-At}
use Rattle.zone_laws.proofs.OpenedGap.{resized_in_place-At}
use Rattle.zone_laws.proofs.PlacedParts.{option_map-Some}
use Rattle.zone_laws.proofs.SoundResized.{sound-resized}
use Rattle.zone_laws.proofs.SuitsNamed.{named_once}
use Rattle.zone_laws.proofs.Taken.{need-is_size, head-below_smallest, rest_size}
use Rattle.linked_zone.specs.Places.{EntryAt, NamedAt, CanFront}
use Rattle.zone_heap.specs.Placed.{resized_there}
use Rattle.zone_heap.proofs.Taking.{front_size, front_rest, front-has_length, all-there}

-- what is the only element of a list
only : (xs : List ℕ) (y : ℕ) (ys : List ℕ) → length (xs ++ y ∷ ys) ≡ 1 → xs ++ y ∷ ys ≡ y ∷ []
only [] y [] h = refl
only [] y (z ∷ zs) h = absurd (omega arith)
only (x ∷ xs) y ys h = let all = length-append xs (y ∷ ys) in absurd (omega arith)

-- a block that a number names is there
abbrev pub entry_named : {z : ZoneState} {x at : ℕ} → NamedAt z x at → EntryAt z at
entry_named named = record { before = named.before; here = named.here; after = named.after; map = named.map; place = named.place }

-- the block of x in a sound zone, where its header is, and the size for n bytes of contents
pub record Standing (z : ZoneState) (x n k at : ℕ) : Type 0 where
  pub sound : Sound z.shape z.heap
  pub block : IsTrue (has_block z.heap.table x)
  pub named : NamedAt z x at
  pub size : k ≡ need z.shape.heads n

module _ (z : ZoneState) (x n k at : ℕ) (b : Standing z x n k at) where
  -- x has no other
  pub once : sizes (is_named x) z.heap.map ≡ b.named.here.size ∷ []
  once =
      let before = sizes (is_named x) b.named.before in
      let after = sizes (is_named x) b.named.after in
      let parts : sizes (is_named x) z.heap.map ≡ before ++ b.named.here.size ∷ after =
      ap (sizes (is_named x)) b.named.map ∙ sizes-append (is_named x) b.named.before (b.named.here ∷ b.named.after) ∙ ap (λ c. before ++ (cond c (b.named.here.size ∷ []) [] ++ after)) b.named.named in
      parts ∙ only before b.named.here.size after (ap length (sym parts) ∙ named_once z.shape z.heap.table z.heap.map x b.sound.suits b.block)

  -- so it is the one that x names
  pub there : At x z.heap.map b.named.here.size b.named.before b.named.here.kind b.named.after
  there = At-from x z.heap.map b.named.here.size b.named.before b.named.here b.named.after once b.named.map b.named.named

  -- its size is possible
  pub here-size : IsTrue (is_block_size z.shape b.named.here.size)
  here-size =
      let possible : Entry → Bool = λ e. is_block_size z.shape e.size in
      all-there possible b.named.before b.named.here b.named.after (subst (λ m. IsTrue (list_all possible m)) b.named.map b.sound.suits.sizes)

  -- it ends within the zone
  pub end-there : at + b.named.here.size + total_size b.named.after ≤ z.shape.base + z.shape.limit
  end-there =
      let all : total_size z.heap.map ≡ total_size b.named.before + (b.named.here.size + total_size b.named.after) = ap total_size b.named.map ∙ total_size-append b.named.before (b.named.here ∷ b.named.after) in
      omega (arith, b.sound.within, b.named.place)

  -- its size is that of the block of x
  pub size-there : b.named.here.size ≡ size_of x z.heap.map
  size-there = sym (size_of-At x z.heap.map b.named.here.size once)

  -- the map in which it has the size, where it can have it
  in-place : resized_in_place z.shape (need z.shape.heads n) x z.heap.map ≡ option_map (λ m. b.named.before ++ m) (sized z.shape k b.named.here b.named.after)
  in-place = resized_in_place-At z.shape (need z.shape.heads n) x z.heap.map b.named.here.size b.named.before b.named.here.kind b.named.after there
      ∙ ap (λ j. option_map (λ m. b.named.before ++ m) (sized z.shape j b.named.here b.named.after)) (sym b.size)

  -- the zone in which x has n bytes, and its block and those after it are these
  abbrev pub resized_zone : ZoneMap → ZoneState
  resized_zone m = record { memory = z.memory; shape = z.shape; heap = granted (Resize x n) x (b.named.before ++ m) z.heap }

  -- the heap is that, where the block can have the size
  pub resized-there : (m : ZoneMap) (new : ZoneState) → sized z.shape k b.named.here b.named.after ≡ Some m → new ≡ resized_zone m → resized_there z.shape x n z.heap ≡ Some new.heap
  resized-there m new sizes is = ap (option_map (λ m. granted (Resize x n) x m z.heap)) (in-place ∙ ap (option_map (λ m. b.named.before ++ m)) sizes) ∙ ap (λ (w : ZoneState). Some w.heap) (sym is)

-- the heap in which x has n bytes where its block is, is sound
pub sound-there : (s : Shape) (heap new : Heap) (x n : ℕ) → Sound s heap → IsTrue (has_block heap.table x) → resized_there s x n heap ≡ Some new → Sound s new
sound-there s heap new x n sound block is =
    let found = option_map-Some (λ m. granted (Resize x n) x m heap) (resized_in_place s (need s.heads n) x heap.map) new is in
    subst (Sound s) found.2 (sound-resized s heap n x found.0 sound block found.1 x)

-- in which what is lent is kept
pub keeps-there : (s : Shape) (heap new : Heap) (x n : ℕ) → Sound s heap → is_lent heap.table x ≡ false → resized_there s x n heap ≡ Some new → KeepsLent s heap new
keeps-there s heap new x n sound here is =
    let found = option_map-Some (λ m. granted (Resize x n) x m heap) (resized_in_place s (need s.heads n) x heap.map) new is in
    subst (KeepsLent s heap) found.2 (keeps-resized s heap x n x found.0 sound here found.1)

-- what is taken of a block has a possible size, room for the bytes, and the rest is nothing or a block
pub can-front : (s : Shape) (n k whole : ℕ) → k ≡ need s.heads n → k ≤ whole → IsTrue (is_block_size s whole) → CanFront s whole (front_size s k whole) n
can-front s n k whole size fits possible = record {
  within = within (smallest_block s.heads);
  front = elim (nat_lt (whole - k) (smallest_block s.heads)) as (λ b. IsTrue (is_block_size s (cond b whole k))) [
    | true ↦ possible
    | false ↦ needed
  ];
  room = subst (λ j. IsTrue (has_length s (front_size s j whole) n)) (sym size) (front-has_length s n whole (subst (λ j. j ≤ whole) size fits));
  rest = elim (nat_lt (whole - k) (smallest_block s.heads)) as (λ b. nat_lt (whole - k) (smallest_block s.heads) ≡ b → (cond b whole k ≡ whole) ⊎ IsTrue (is_block_size s (whole - cond b whole k))) [
    | true ↦ λ _. inl refl
    | false ↦ λ enough. inr (rest_size (smallest_block s.heads) k whole needed possible fits (above (whole - k) (smallest_block s.heads) enough))
  ] refl;
}
  where
    needed : IsTrue (is_block_size s k)
    needed = subst (λ j. IsTrue (is_block_size s j)) (sym size) (need-is_size s n)

    within : (small : ℕ) → cond (nat_lt (whole - k) small) whole k ≤ whole
    within small = elim (nat_lt (whole - k) small) as (λ b. cond b whole k ≤ whole) [
      | true ↦ omega arith
      | false ↦ omega arith
    ]

    above : (m small : ℕ) → nat_lt m small ≡ false → small ≤ m
    above m small h = grind (arith, nat_tests)

-- the rest of it is free
pub free-rest : (s : Shape) (k whole : ℕ) → free_block (whole - front_size s k whole) ≡ front_rest s k whole
free-rest s k whole = elim (nat_lt (whole - k) (smallest_block s.heads)) as (λ b. nat_lt (whole - k) (smallest_block s.heads) ≡ b → free_block (whole - cond b whole k) ≡ cond b [] (block Free (whole - k) ∷ [])) [
  | true ↦ λ _. ap (λ c. cond c [] (block Free (whole - whole) ∷ [])) (nothing whole)
  | false ↦ λ enough. ap (λ c. cond c [] (block Free (whole - k) ∷ [])) (some (whole - k) (smallest_block s.heads) (let small = head-below_smallest s.heads in omega arith) enough)
] refl
  where
    nothing : (n : ℕ) → (n - n == 0) ≡ true
    nothing n = grind (arith, nat_tests)

    some : (m small : ℕ) → 0 < small → nat_lt m small ≡ false → (m == 0) ≡ false
    some m small large h = grind (arith, nat_tests)
