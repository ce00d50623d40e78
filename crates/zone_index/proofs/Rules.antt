-- Which blocks pass a test once a table is changed.
use Rattle.std.proofs.Common.{◌≡◌, ℕ, Bool, true, false, List, Option, Some, None, cond, eqb, refl, ap, sym, ◌∙◌}
use Rattle.std.specs.Prelude.{not, ◌&&◌}
use Rattle.std.proofs.lemmas.Bool.{false≢true, eqb-true}
use Rattle.mac_base.specs.BlockReport.{block_flags}
use Rattle.mac_base.specs.declared.block.Flags.{Flags}
use Rattle.mac_base.specs.declared.block.Kind.{Kind}
use Rattle.mac_base.specs.declared.block.Kind.TheVariants.{Free, Master, Ptr, Rel}
use Rattle.mac_base.specs.Gap.{is_fixed}
use Rattle.mac_base.specs.HandleTable.{HandleTable, Live, EmptyHandle, FullHandle, Pointer, live_at, live_flags, live_full, no_flags, refilled, with_live, with_bytes, without}
use Rattle.zone_laws.proofs.Tables.{live_at-with_live, live_at-without}
use Rattle.zone_index.specs.Purging.{may_go, may_purge}
use Rattle.zone_index.proofs.Passing.{Within}

-- a test that free blocks don't pass, and the block of a handle by what is live there
pub record Rule : Type 0 where
  pub test : HandleTable → Kind → Bool
  pub live : Option Live → Bool
  pub free : (t : HandleTable) → test t Free ≡ false
  pub master : (new old : HandleTable) → test new Master ≡ test old Master
  pub pointer : (new old : HandleTable) (p : ℕ) → test new (Ptr p) ≡ test old (Ptr p)
  pub handle : (t : HandleTable) (h : ℕ) → test t (Rel h) ≡ live (live_at t h)
  pub nothing : live None ≡ false
  pub bare : (bytes : List ℕ) → live (Some (FullHandle no_flags bytes)) ≡ false
  pub empty : live (Some EmptyHandle) ≡ false
  pub rewritten : (bytes : List ℕ) (l : Option Live) → live (Some (refilled bytes l)) ≡ live l

-- what is said of a number whatever its bytes are is said once they are others
pub told_refilled : (told : Option Live → Bool) → told (Some EmptyHandle) ≡ told None → ((flags : Flags) (a b : List ℕ) → told (Some (FullHandle flags a)) ≡ told (Some (FullHandle flags b))) → ((a b : List ℕ) → told (Some (Pointer a)) ≡ told (Some (Pointer b)))
    → (bytes : List ℕ) (l : Option Live) → told (Some (refilled bytes l)) ≡ told l
told_refilled told none full pointer bytes (Some (FullHandle flags old)) = full flags bytes old
told_refilled told none full pointer bytes (Some (Pointer old)) = pointer bytes old
told_refilled told none full pointer bytes (Some EmptyHandle) = refl
told_refilled told none full pointer bytes None = none

-- that of locks
abbrev pub lock_live : Option Live → Bool
lock_live l = (live_flags l).lock

abbrev pub fixes : Rule
fixes = record { test = is_fixed; live = lock_live; free = λ t. refl; master = λ new old. refl; pointer = λ new old p. refl; handle = λ t h. refl; nothing = refl; bare = λ bytes. refl; empty = refl; rewritten = told_refilled lock_live refl (λ flags a b. refl) (λ a b. refl) }

-- that of purging
abbrev pub purge_live : Option Live → Bool
purge_live l = live_full l && ((live_flags l).purge && not (live_flags l).lock)

abbrev pub goes : Rule
goes = record { test = may_go; live = purge_live; free = λ t. refl; master = λ new old. refl; pointer = λ new old p. refl; handle = λ t h. refl; nothing = refl; bare = λ bytes. refl; empty = refl; rewritten = told_refilled purge_live refl (λ flags a b. refl) (λ a b. refl) }

-- flags say all of it
live-flags : (l : Option Live) → may_purge (live_flags l) ≡ purge_live l
live-flags (Some (FullHandle flags bytes)) = refl
live-flags (Some (Pointer bytes)) = refl
live-flags (Some EmptyHandle) = refl
live-flags None = refl

pub flags-go : (t : HandleTable) (k : Kind) → may_purge (block_flags t k) ≡ may_go t k
flags-go t Free = refl
flags-go t Master = refl
flags-go t (Ptr p) = refl
flags-go t (Rel h) = live-flags (live_at t h)

module _ (r : Rule) where
  -- each handle that passes in the new table does so in the old one
  abbrev pub Lives : HandleTable → HandleTable → Type 0
  Lives new old = (h : ℕ) → r.live (live_at new h) ≡ true → r.live (live_at old h) ≡ true

  -- then each block that passes does so
  pub kinds-within : (new old : HandleTable) → Lives new old → Within (r.test new) (r.test old)
  kinds-within new old lives Free h = absurd (false≢true (sym (r.free new) ∙ h))
  kinds-within new old lives Master h = sym (r.master new old) ∙ h
  kinds-within new old lives (Ptr p) h = sym (r.pointer new old p) ∙ h
  kinds-within new old lives (Rel x) h = r.handle old x ∙ lives x (sym (r.handle new x) ∙ h)

  -- where x doesn't pass, and all others are as before
  lives-fewer : (new old : HandleTable) (x : ℕ) (l : Option Live) → ((y : ℕ) → live_at new y ≡ cond (eqb y x) l (live_at old y)) → r.live l ≡ false → Lives new old
  lives-fewer new old x l is none y h = by_number (eqb y x) (sym (ap r.live (is y)) ∙ h)
    where
      by_number : (c : Bool) → r.live (cond c l (live_at old y)) ≡ true → r.live (live_at old y) ≡ true
      by_number true h = absurd (false≢true (sym none ∙ h))
      by_number false h = h

  pub lives-with_live : (x : ℕ) (l : Live) (t : HandleTable) → r.live (Some l) ≡ false → Lives (with_live x l t) t
  lives-with_live x l t none = lives-fewer (with_live x l t) t x (Some l) (live_at-with_live x l t) none

  pub lives-without : (x : ℕ) (t : HandleTable) → Lives (without x t) t
  lives-without x t = lives-fewer (without x t) t x None (live_at-without x t) r.nothing

  -- other bytes
  pub lives-with_bytes : (x : ℕ) (bytes : List ℕ) (t : HandleTable) → Lives (with_bytes x bytes t) t
  lives-with_bytes x bytes t y h = by_number (eqb y x) refl (sym (ap r.live (live_at-with_live x (refilled bytes (live_at t x)) t y)) ∙ h)
    where
      by_number : (c : Bool) → eqb y x ≡ c → r.live (cond c (Some (refilled bytes (live_at t x))) (live_at t y)) ≡ true → r.live (live_at t y) ≡ true
      by_number true same h = ap (λ y. r.live (live_at t y)) (eqb-true y x same) ∙ (sym (r.rewritten bytes (live_at t x)) ∙ h)
      by_number false other h = h

  -- the same table but for its loans
  pub lives-same : (t : HandleTable) → Lives t t
  lives-same t x h = h
