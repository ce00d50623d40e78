-- Where blocks that pass a test are once other blocks are in place of some.
use Rattle.std.proofs.Common.{◌≡◌, ℕ, ◌+◌, Bool, true, false, [], ◌∷◌, ◌++◌, ap, sym, ◌∙◌, subst, inl, inr, arith}
use Rattle.std.specs.Prelude.{◌⊎◌, if◌then◌else◌}
use Rattle.std.proofs.lemmas.Bool.{and_parts, false≢true}
use Rattle.mac_base.specs.declared.block.Entry.{Entry}
use Rattle.mac_base.specs.declared.block.Kind.{Kind}
use Rattle.mac_base.specs.declared.block.Kind.TheVariants.{Free}
use Rattle.mac_base.specs.HeadKind.{Shape}
use Rattle.mac_base.specs.Suits.{is_block_size}
use Rattle.mac_base.specs.ZoneMap.{ZoneMap, block, is_named, total_size}
use Rattle.zone_laws.proofs.GapApart.{sizes_possible}
use Rattle.linked_zone.specs.Changes.{freed}
use Rattle.zone_index.proofs.Passing.{HasPassing, Within, passing-within, passing-split, passing-front, passing-back}
use Rattle.zone_index.proofs.Sizes.{first_bytes}

module _ (new old : Kind → Bool) (within : Within new old) (free : new Free ≡ false) where
  -- where the new blocks have as many bytes, and pass only where the old ones did
  pub passing-replaced : (before was is after : ZoneMap) → total_size is ≡ total_size was → ((k : ℕ) → HasPassing new is k → HasPassing old was k)
      → (n : ℕ) → HasPassing new (before ++ (is ++ after)) n → HasPassing old (before ++ (was ++ after)) n
  passing-replaced before was is after same inside n h = elim (passing-split new before (is ++ after) n h) [
    | inl low ↦ passing-front old before (was ++ after) n (passing-within new old within before n low)
    | inr up ↦ passing-back old before (was ++ after) n up.0 up.1 (upper up.0 up.2)
  ]
    where
      upper : (k : ℕ) → HasPassing new (is ++ after) k → HasPassing old (was ++ after) k
      upper k h = elim (passing-split new is after k h) [
        | inl mid ↦ passing-front old was after k (inside k mid)
        | inr high ↦ passing-back old was after k high.0 (high.1 ∙ ap (λ m. m + high.0) same) (passing-within new old within after high.0 high.2)
      ]

  -- where the first of the new ones may pass too
  pub passing-added : (before was is after : ZoneMap) → total_size is ≡ total_size was → ((k : ℕ) → HasPassing new is k → k ≡ 0)
      → (n : ℕ) → HasPassing new (before ++ (is ++ after)) n → HasPassing old (before ++ (was ++ after)) n ⊎ (n ≡ total_size before)
  passing-added before was is after same first n h = elim (passing-split new before (is ++ after) n h) [
    | inl low ↦ inl (passing-front old before (was ++ after) n (passing-within new old within before n low))
    | inr up ↦ elim (passing-split new is after up.0 up.2) [
      | inl mid ↦ inr (let none = first up.0 mid in let place = up.1 in omega arith)
      | inr high ↦ inl (passing-back old before (was ++ after) n up.0 up.1 (passing-back old was after up.0 high.0 (high.1 ∙ ap (λ m. m + high.0) same) (passing-within new old within after high.0 high.2)))
    ]
  ]

  -- where the block of x is free
  pub passing-freed : (x : ℕ) (m : ZoneMap) (n : ℕ) → HasPassing new (freed x m) n → HasPassing old m n
  passing-freed x [] n h = h
  passing-freed x (e ∷ es) n h = elim (is_named x e.kind) as (λ c. HasPassing new ((if c then block Free e.size else e) ∷ freed x es) n → HasPassing old (e ∷ es) n) [
    | true ↦ λ h. elim h [
      | inl here ↦ absurd (false≢true (sym free ∙ here.1))
      | inr later ↦ inr (later.0, later.1, passing-freed x es later.0 later.2)
    ]
    | false ↦ λ h. elim h [
      | inl here ↦ inl (here.0, within e.kind here.1)
      | inr later ↦ inr (later.0, later.1, passing-freed x es later.0 later.2)
    ]
  ] h

-- there none passes
pub freed-gone : (p : Kind → Bool) → p Free ≡ false → (s : Shape) (x : ℕ) (a : ZoneMap) (e : Entry) (b : ZoneMap) → sizes_possible s (a ++ e ∷ b) ≡ true → is_named x e.kind ≡ true
    → HasPassing p (freed x (a ++ e ∷ b)) (total_size a) → ⊥
freed-gone p free s x [] e b sizes named h =
    let some = first_bytes s e b sizes in
    elim (subst (λ c. HasPassing p ((if c then block Free e.size else e) ∷ freed x b) 0) named h) [
      | inl here ↦ false≢true (sym free ∙ here.1)
      | inr later ↦ let place = later.1 in absurd (omega arith)
    ]
freed-gone p free s x (f ∷ a) e b sizes named h =
    let some = first_bytes s f (a ++ e ∷ b) sizes in
    let deeper : (k : ℕ) → f.size + total_size a ≡ f.size + k → HasPassing p (freed x (a ++ e ∷ b)) k → ⊥
    = λ k place later. freed-gone p free s x a e b (and_parts (is_block_size s f.size) _ sizes).1 named (subst (HasPassing p (freed x (a ++ e ∷ b))) (let same : k ≡ total_size a = omega arith in same) later) in
    elim (is_named x f.kind) as (λ c. HasPassing p ((if c then block Free f.size else f) ∷ freed x (a ++ e ∷ b)) (f.size + total_size a) → ⊥) [
      | true ↦ λ h. elim h [
        | inl here ↦ let none = here.0 in absurd (omega arith)
        | inr later ↦ deeper later.0 later.1 later.2
      ]
      | false ↦ λ h. elim h [
        | inl here ↦ let none = here.0 in absurd (omega arith)
        | inr later ↦ deeper later.0 later.1 later.2
      ]
    ] h
