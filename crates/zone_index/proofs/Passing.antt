-- Where blocks that pass a test are among blocks.
use Rattle.std.proofs.Common.{◌≡◌, ℕ, ◌+◌, ◌<◌, Bool, true, not, [], ◌∷◌, ◌++◌, refl, ap, sym, ◌∙◌, subst, inl, inr, arith}
use Rattle.std.specs.Prelude.{◌⊎◌, IsTrue}
use Rattle.std.specs.List.{list_all}
use Rattle.std.proofs.lemmas.Bool.{and_parts, false≢true, not-true}
use Rattle.mac_base.specs.declared.block.Entry.{Entry}
use Rattle.mac_base.specs.declared.block.Kind.{Kind}
use Rattle.mac_base.specs.HandleTable.{HandleTable}
use Rattle.mac_base.specs.HeadKind.{Shape}
use Rattle.mac_base.specs.Suits.{is_block_size}
use Rattle.mac_base.specs.ZoneMap.{ZoneMap, total_size, address_after}
use Rattle.mac_base.specs.ZoneState.{ZoneState}
use Rattle.zone_laws.proofs.GapApart.{sizes_possible}
use Rattle.linked_zone.specs.Places.{EntryAt}
use Rattle.zone_index.specs.Marks.{PassesAt}
use Rattle.zone_index.proofs.Sizes.{first_bytes}

-- whether none passes
abbrev pub none_passing : (Kind → Bool) → ZoneMap → Bool
none_passing p m = list_all (λ (e : Entry). not (p e.kind)) m

-- one is so many bytes after the beginning of these blocks
abbrev pub HasPassing : (Kind → Bool) → ZoneMap → ℕ → Type 0
HasPassing p [] n = ⊥
HasPassing p (e ∷ es) n = ((n ≡ 0) × (p e.kind ≡ true)) ⊎ ((k : ℕ) × (n ≡ e.size + k) × HasPassing p es k)

-- in two parts it is in the one or the other
pub passing-split : (p : Kind → Bool) (a b : ZoneMap) (n : ℕ) → HasPassing p (a ++ b) n → HasPassing p a n ⊎ ((k : ℕ) × (n ≡ total_size a + k) × HasPassing p b k)
passing-split p [] b n h = inr (n, omega arith, h)
passing-split p (e ∷ a) b n h = elim h [
  | inl here ↦ inl (inl here)
  | inr later ↦ elim (passing-split p a b later.0 later.2) [
    | inl front ↦ inl (inr (later.0, later.1, front))
    | inr back ↦ inr (back.0, (let place = later.1 in let further = back.1 in omega arith), back.2)
  ]
]

pub passing-front : (p : Kind → Bool) (a b : ZoneMap) (n : ℕ) → HasPassing p a n → HasPassing p (a ++ b) n
passing-front p [] b n h = absurd h
passing-front p (e ∷ a) b n h = elim h [
  | inl here ↦ inl here
  | inr later ↦ inr (later.0, later.1, passing-front p a b later.0 later.2)
]

pub passing-back : (p : Kind → Bool) (a b : ZoneMap) (n k : ℕ) → n ≡ total_size a + k → HasPassing p b k → HasPassing p (a ++ b) n
passing-back p [] b n k place h = subst (HasPassing p b) (let same : k ≡ n = omega arith in same) h
passing-back p (e ∷ a) b n k place h = inr (total_size a + k, omega arith, passing-back p a b (total_size a + k) k refl h)

-- it is in none of those that don't pass
pub passing-none : (p : Kind → Bool) (m : ZoneMap) (n : ℕ) → none_passing p m ≡ true → HasPassing p m n → ⊥
passing-none p [] n none h = h
passing-none p (e ∷ es) n none h =
    let parts = and_parts (not (p e.kind)) (none_passing p es) none in
    elim h [
      | inl here ↦ false≢true (sym (not-true (p e.kind) parts.0) ∙ here.1)
      | inr later ↦ passing-none p es later.0 parts.1 later.2
    ]

-- each block that passes the new test passes the old one
abbrev pub Within : (Kind → Bool) → (Kind → Bool) → Type 0
Within new old = (k : Kind) → new k ≡ true → old k ≡ true

pub passing-within : (new old : Kind → Bool) → Within new old → (m : ZoneMap) (n : ℕ) → HasPassing new m n → HasPassing old m n
passing-within new old within [] n h = h
passing-within new old within (e ∷ es) n h = elim h [
  | inl here ↦ inl (here.0, within e.kind here.1)
  | inr later ↦ inr (later.0, later.1, passing-within new old within es later.0 later.2)
]

-- ---- by its address

-- one among others
pub record Found (p : Kind → Bool) (m : ZoneMap) (n : ℕ) : Type 0 where
  pub before : ZoneMap
  pub here : Entry
  pub after : ZoneMap
  pub map : m ≡ before ++ here ∷ after
  pub place : n ≡ total_size before
  pub passes : p here.kind ≡ true

pub passing-found : (p : Kind → Bool) (m : ZoneMap) (n : ℕ) → HasPassing p m n → Found p m n
passing-found p [] n h = absurd h
passing-found p (e ∷ es) n h = elim h [
  | inl here ↦ record { before = []; here = e; after = es; map = refl; place = here.0; passes = here.1 }
  | inr later ↦
      let f = passing-found p es later.0 later.2 in
      record { before = e ∷ f.before; here = f.here; after = f.after; map = ap (λ m. e ∷ m) f.map; place = later.1 ∙ ap (λ k. e.size + k) f.place; passes = f.passes }
]

pub of-passing : (test : HandleTable → Kind → Bool) (z : ZoneState) (at : ℕ) → PassesAt test z at → (n : ℕ) × (at ≡ address_after z.shape [] + n) × HasPassing (test z.heap.table) z.heap.map n
of-passing test z at f =
    let e = f.entry in
    let place = e.place in
    (total_size e.before, omega arith, subst (λ m. HasPassing (test z.heap.table) m (total_size e.before)) (sym e.map) (passing-back (test z.heap.table) e.before (e.here ∷ e.after) (total_size e.before) 0 (omega arith) (inl (refl, f.passes))))

pub to-passing : (test : HandleTable → Kind → Bool) (z : ZoneState) (at n : ℕ) → at ≡ address_after z.shape [] + n → HasPassing (test z.heap.table) z.heap.map n → PassesAt test z at
to-passing test z at n place h =
    let f = passing-found (test z.heap.table) z.heap.map n h in
    let there = f.place in
    record { entry = record { before = f.before; here = f.here; after = f.after; map = f.map; place = omega arith }; passes = f.passes }

-- ---- where blocks have bytes

-- the first is at the beginning
first-only : (p : Kind → Bool) (s : Shape) (e : Entry) (es : ZoneMap) → sizes_possible s (e ∷ es) ≡ true → HasPassing p (e ∷ es) 0 → p e.kind ≡ true
first-only p s e es sizes h = elim h [
  | inl here ↦ here.1
  | inr later ↦ let some = first_bytes s e es sizes in let place = later.1 in absurd (omega arith)
]

-- so where a block is, it is the one that passes
pub passing-only : (p : Kind → Bool) (s : Shape) (a : ZoneMap) (e : Entry) (b : ZoneMap) → sizes_possible s (a ++ e ∷ b) ≡ true → HasPassing p (a ++ e ∷ b) (total_size a) → p e.kind ≡ true
passing-only p s [] e b sizes h = first-only p s e b sizes h
passing-only p s (f ∷ a) e b sizes h = elim h [
  | inl here ↦ let some = first_bytes s f (a ++ e ∷ b) sizes in let place = here.0 in absurd (omega arith)
  | inr later ↦
      let place = later.1 in
      passing-only p s a e b (and_parts (is_block_size s f.size) _ sizes).1 (subst (HasPassing p (a ++ e ∷ b)) (let same : later.0 ≡ total_size a = omega arith in same) later.2)
]

-- one begins below the end of its blocks
pub passing-below : (p : Kind → Bool) (s : Shape) (m : ZoneMap) (n : ℕ) → sizes_possible s m ≡ true → HasPassing p m n → n < total_size m
passing-below p s [] n sizes h = absurd h
passing-below p s (e ∷ es) n sizes h =
    let some = first_bytes s e es sizes in
    elim h [
      | inl here ↦ let place = here.0 in omega arith
      | inr later ↦ let place = later.1 in let rest = passing-below p s es later.0 (and_parts (is_block_size s e.size) _ sizes).1 later.2 in omega arith
    ]

-- so the block that passes where one is, is that one
pub passes-only : (test : HandleTable → Kind → Bool) (z : ZoneState) → IsTrue (sizes_possible z.shape z.heap.map) → {at : ℕ} (e : EntryAt z at) → PassesAt test z at → test z.heap.table (e.here).kind ≡ true
passes-only test z sizes {at} e f =
    let p = test z.heap.table in
    let n = of-passing test z at f in
    let there = n.1 in
    let place = e.place in
    passing-only p z.shape e.before e.here e.after (ap (sizes_possible z.shape) (sym e.map) ∙ sizes)
    (subst (λ m. HasPassing p m (total_size e.before)) e.map (subst (HasPassing p z.heap.map) (let same : n.0 ≡ total_size e.before = omega arith in same) n.2))
