-- A map once the blocks of a number are free.
use Rattle.std.proofs.Common.{◌≡◌, ℕ, ◌+◌, ◌≤◌, Bool, true, false, cond, [], ◌∷◌, ◌++◌, refl, ap, sym, ◌∙◌, arith}
use Rattle.std.specs.Prelude.{map, if◌then◌else◌}
use Rattle.std.proofs.lemmas.List.{map-append}
use Rattle.mac_base.specs.declared.block.Entry.{Entry}
use Rattle.mac_base.specs.declared.block.Kind.{Kind}
use Rattle.mac_base.specs.declared.block.Kind.TheVariants.{Free}
use Rattle.mac_base.specs.HeadKind.{Shape}
use Rattle.mac_base.specs.ZoneMap.{ZoneMap, Rearranged, block, is_free, is_named, is_kind, joined, released, total_size, address_after, addresses_from, sizes}
use Rattle.mac_base.specs.Suits.{free_apart}
use Rattle.mac_base.specs.Serve.{taken}
use Rattle.zone_laws.proofs.Arranging.{is_kind-free}
use Rattle.zone_laws.proofs.ArrangingNamed.{other_kind}
use Rattle.zone_laws.proofs.JoinedBlocks.{joined-apart, joined-front, total_size-joined, sizes-joined, addresses_from-joined, free_apart-joined}

-- a block, free if x names it
abbrev pub marked_block : ℕ → Entry → Entry
marked_block x e = if is_named x e.kind then block Free e.size else e

-- the map with the blocks of x free, but not joined
abbrev pub marked : ℕ → ZoneMap → ZoneMap
marked x m = map (marked_block x) m

-- blocks of which x names none stay
pub marked-none : (x : ℕ) (m : ZoneMap) → sizes (is_named x) m ≡ [] → marked x m ≡ m
marked-none x [] h = refl
marked-none x (e ∷ es) h = elim (is_named x e.kind) as (λ c. cond c (e.size ∷ []) [] ++ sizes (is_named x) es ≡ [] → cond c (block Free e.size) e ∷ marked x es ≡ e ∷ es) [
  | true ↦ λ h. absurd (cc h)
  | false ↦ λ h. ap (λ m. e ∷ m) (marked-none x es h)
] h

-- marking goes through two lists of blocks
pub marked-append : (x : ℕ) (a b : ZoneMap) → marked x (a ++ b) ≡ marked x a ++ marked x b
marked-append x a b = map-append (marked_block x) a b

-- marking keeps the bytes
pub total_size-marked : (x : ℕ) (m : ZoneMap) → total_size (marked x m) ≡ total_size m
total_size-marked x [] = refl
total_size-marked x (e ∷ es) = elim (is_named x e.kind) as (λ c. total_size (cond c (block Free e.size) e ∷ marked x es) ≡ e.size + total_size es) [ true ↦ ap (λ n. e.size + n) (total_size-marked x es) | false ↦ ap (λ n. e.size + n) (total_size-marked x es) ]

-- marking takes the addresses of the kinds that x names, and leaves those of the others
pub addresses_from-marked : (at x : ℕ) (k : Kind) (m : ZoneMap) → is_free k ≡ false → addresses_from at (is_kind k) (marked x m) ≡ cond (is_named x k) [] (addresses_from at (is_kind k) m)
addresses_from-marked at x k m used = elim (is_named x k) as (λ c. is_named x k ≡ c → addresses_from at (is_kind k) (marked x m) ≡ cond c [] (addresses_from at (is_kind k) m)) [
  | true ↦ λ named. none at m named
  | false ↦ λ other. all at m other
] refl
  where
    none : (at : ℕ) (m : ZoneMap) → is_named x k ≡ true → addresses_from at (is_kind k) (marked x m) ≡ []
    none at [] named = refl
    none at (e ∷ es) named =
        elim (is_named x e.kind) as (λ c. is_named x e.kind ≡ c → addresses_from at (is_kind k) (cond c (block Free e.size) e ∷ marked x es) ≡ []) [
          | true ↦ λ here. ap (λ c. cond c (at ∷ []) [] ++ addresses_from (at + e.size) (is_kind k) (marked x es)) (is_kind-free k used) ∙ none (at + e.size) es named
          | false ↦ λ elsewhere. ap (λ c. cond c (at ∷ []) [] ++ addresses_from (at + e.size) (is_kind k) (marked x es)) (other_kind k e.kind (is_named x) false named elsewhere) ∙ none (at + e.size) es named
        ] refl

    all : (at : ℕ) (m : ZoneMap) → is_named x k ≡ false → addresses_from at (is_kind k) (marked x m) ≡ addresses_from at (is_kind k) m
    all at [] other = refl
    all at (e ∷ es) other =
        elim (is_named x e.kind) as (λ c. is_named x e.kind ≡ c → addresses_from at (is_kind k) (cond c (block Free e.size) e ∷ marked x es) ≡ cond (is_kind k e.kind) (at ∷ []) [] ++ addresses_from (at + e.size) (is_kind k) es) [
          | true ↦ λ here. ap (λ c. cond c (at ∷ []) [] ++ addresses_from (at + e.size) (is_kind k) (marked x es)) (is_kind-free k used) ∙ all (at + e.size) es other
              ∙ ap (λ c. cond c (at ∷ []) [] ++ addresses_from (at + e.size) (is_kind k) es) (sym (other_kind k e.kind (is_named x) true other here))
          | false ↦ λ elsewhere. ap (λ ns. cond (is_kind k e.kind) (at ∷ []) [] ++ ns) (all (at + e.size) es other)
        ] refl

-- and so with the sizes
pub sizes-marked : (x : ℕ) (k : Kind) (m : ZoneMap) → is_free k ≡ false → sizes (is_kind k) (marked x m) ≡ cond (is_named x k) [] (sizes (is_kind k) m)
sizes-marked x k m used = elim (is_named x k) as (λ c. is_named x k ≡ c → sizes (is_kind k) (marked x m) ≡ cond c [] (sizes (is_kind k) m)) [
  | true ↦ λ named. none m named
  | false ↦ λ other. all m other
] refl
  where
    none : (m : ZoneMap) → is_named x k ≡ true → sizes (is_kind k) (marked x m) ≡ []
    none [] named = refl
    none (e ∷ es) named =
        elim (is_named x e.kind) as (λ c. is_named x e.kind ≡ c → sizes (is_kind k) (cond c (block Free e.size) e ∷ marked x es) ≡ []) [
          | true ↦ λ here. ap (λ c. cond c (e.size ∷ []) [] ++ sizes (is_kind k) (marked x es)) (is_kind-free k used) ∙ none es named
          | false ↦ λ elsewhere. ap (λ c. cond c (e.size ∷ []) [] ++ sizes (is_kind k) (marked x es)) (other_kind k e.kind (is_named x) false named elsewhere) ∙ none es named
        ] refl

    all : (m : ZoneMap) → is_named x k ≡ false → sizes (is_kind k) (marked x m) ≡ sizes (is_kind k) m
    all [] other = refl
    all (e ∷ es) other =
        elim (is_named x e.kind) as (λ c. is_named x e.kind ≡ c → sizes (is_kind k) (cond c (block Free e.size) e ∷ marked x es) ≡ cond (is_kind k e.kind) (e.size ∷ []) [] ++ sizes (is_kind k) es) [
          | true ↦ λ here. ap (λ c. cond c (e.size ∷ []) [] ++ sizes (is_kind k) (marked x es)) (is_kind-free k used) ∙ all es other
              ∙ ap (λ c. cond c (e.size ∷ []) [] ++ sizes (is_kind k) es) (sym (other_kind k e.kind (is_named x) true other here))
          | false ↦ λ elsewhere. ap (λ ns. cond (is_kind k e.kind) (e.size ∷ []) [] ++ ns) (all es other)
        ] refl

-- a rearrangement stays one once the blocks of x are free on both sides
pub Rearranged-released : (s : Shape) (stays : Kind → Bool) (x : ℕ) (old new : ZoneMap) → ((k : Kind) → stays k ≡ true → is_free k ≡ false) → Rearranged s stays old new → Rearranged s stays (released x old) (released x new)
Rearranged-released s stays x old new used r =
    record {
      same_blocks = λ k h. sizes-joined (is_kind k) (marked x new) (is_kind-free k h) ∙ sizes-marked x k new h ∙ ap (λ ns. cond (is_named x k) [] ns) (r.same_blocks k h)
          ∙ sym (sizes-marked x k old h) ∙ sym (sizes-joined (is_kind k) (marked x old) (is_kind-free k h));
      same_places = λ k h. let at : ℕ = address_after s [] in addresses_from-joined at (is_kind k) (marked x new) (is_kind-free k (used k h)) ∙ addresses_from-marked at x k new (used k h) ∙ ap (λ ns. cond (is_named x k) [] ns) (r.same_places k h)
          ∙ sym (addresses_from-marked at x k old (used k h)) ∙ sym (addresses_from-joined at (is_kind k) (marked x old) (is_kind-free k (used k h)));
      same_total = total_size-joined (marked x new) ∙ total_size-marked x new ∙ r.same_total ∙ sym (total_size-marked x old) ∙ sym (total_size-joined (marked x old));
    }

-- a block of x that was cut from free bytes joins with the rest once it is free
pub joined-marked_taken : (s : Shape) (k n x : ℕ) (kind : Kind) (b : ZoneMap) → is_named x kind ≡ true → k ≤ n → joined (marked x (taken s k kind n) ++ b) ≡ joined (block Free n ∷ b)
joined-marked_taken s k n x kind b named fits = grind arith

-- to take n free bytes for x, which names no other block, and to release them is to do nothing
pub released-taken : (s : Shape) (k n x : ℕ) (kind : Kind) (a b m : ZoneMap) → is_named x kind ≡ true → k ≤ n → m ≡ a ++ block Free n ∷ b → sizes (is_named x) a ≡ [] → sizes (is_named x) b ≡ [] → free_apart m ≡ true
    → released x (a ++ (taken s k kind n ++ b)) ≡ m
released-taken s k n x kind a b m named fits was none_a none_b apart =
    ap joined (marked-append x a (taken s k kind n ++ b) ∙ ap (λ c. c ++ marked x (taken s k kind n ++ b)) (marked-none x a none_a) ∙ ap (λ c. a ++ c) (marked-append x (taken s k kind n) b ∙ ap (λ c. marked x (taken s k kind n) ++ c) (marked-none x b none_b)))
    ∙ joined-front a (marked x (taken s k kind n) ++ b) (block Free n ∷ b) (joined-marked_taken s k n x kind b named fits) ∙ ap joined (sym was) ∙ joined-apart m apart

-- free blocks of a released map are apart
pub free_apart-released : (x : ℕ) (m : ZoneMap) → free_apart (released x m) ≡ true
free_apart-released x m = free_apart-joined (marked x m)

-- and x names none of its blocks
pub sizes-released : (x : ℕ) (m : ZoneMap) → sizes (is_named x) (released x m) ≡ []
sizes-released x m = sizes-joined (is_named x) (marked x m) refl ∙ none m
  where
    none : (m : ZoneMap) → sizes (is_named x) (marked x m) ≡ []
    none [] = refl
    none (e ∷ es) = elim (is_named x e.kind) as (λ c. is_named x e.kind ≡ c → sizes (is_named x) (cond c (block Free e.size) e ∷ marked x es) ≡ []) [
      | true ↦ λ here. none es
      | false ↦ λ other. ap (λ c. cond c (e.size ∷ []) [] ++ sizes (is_named x) (marked x es)) other ∙ none es
    ] refl
