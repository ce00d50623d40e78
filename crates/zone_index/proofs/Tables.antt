-- Blocks that weigh the same by two handle tables.
use Rattle.std.proofs.Common.{◌≡◌, ℕ, Bool, true, false, cond, eqb, List, [], ◌∷◌, ◌++◌, Option, Some, None, refl, ap, sym, ◌∙◌}
use Rattle.std.proofs.lemmas.Bool.{eqb-true}
use Rattle.mac_base.specs.declared.block.Entry.{Entry}
use Rattle.mac_base.specs.declared.block.Kind.{Kind}
use Rattle.mac_base.specs.declared.block.Kind.TheVariants.{Free, Master, Ptr, Rel}
use Rattle.mac_base.specs.HandleTable.{HandleTable, Live, EmptyHandle, FullHandle, Pointer, live_at, live_handle, live_pointer, no_flags, with_live, without}
use Rattle.mac_base.specs.ZoneMap.{ZoneMap, free_size, is_named, sizes}
use Rattle.zone_laws.proofs.Tables.{AgreeBut, live_at-with_live, live_at-without}
use Rattle.zone_index.proofs.Rules.{lock_live, purge_live}
use Rattle.zone_index.proofs.Locks.{kind-apart, locks-with_live, locks-without}
use Rattle.zone_index.specs.Weights.{is_space, weigh, weights}
use Rattle.zone_index.proofs.Bytes.{SamePurges, weights-same}

space-apart : (x : ℕ) (t u : HandleTable) → AgreeBut x t u → (kind : Kind) → is_named x kind ≡ false → is_space u kind ≡ is_space t kind
space-apart x t u agree Free other = refl
space-apart x t u agree Master other = refl
space-apart x t u agree (Ptr p) other = refl
space-apart x t u agree (Rel h) other = ap purge_live (agree.others h other)

weigh-apart : (x : ℕ) (t u : HandleTable) → AgreeBut x t u → (e : Entry) → is_named x e.kind ≡ false → weigh u e ≡ weigh t e
weigh-apart x t u agree e other =
    let space = space-apart x t u agree e.kind other in
    let stays = kind-apart x t u agree e.kind other in
    λ i. record { bytes = e.size; free = free_size e; space = cond (space i) e.size 0; fixed = stays i }

-- where tables agree but at x, blocks that x doesn't name weigh the same
pub weights-apart : (x : ℕ) (t u : HandleTable) → AgreeBut x t u → (m : ZoneMap) → sizes (is_named x) m ≡ [] → weights u m ≡ weights t m
weights-apart x t u agree [] none = refl
weights-apart x t u agree (e ∷ es) none = by_named (is_named x e.kind) refl none (λ h. weights-apart x t u agree es h)
  where
    by_named : (b : Bool) → is_named x e.kind ≡ b → cond b (e.size ∷ []) [] ++ sizes (is_named x) es ≡ [] → (sizes (is_named x) es ≡ [] → weights u es ≡ weights t es) → weights u (e ∷ es) ≡ weights t (e ∷ es)
    by_named true is none rest = absurd (cc none)
    by_named false is none rest = λ i. weigh-apart x t u agree e is i ∷ rest none i

-- What is live is not locked, and may not be purged.
pub record Bare (o : Option Live) : Type 0 where
  pub lock : lock_live o ≡ false
  pub purge : purge_live o ≡ false

pub bare-new : (bytes : List ℕ) → Bare (Some (FullHandle no_flags bytes))
bare-new bytes = record { lock = refl; purge = refl }

pub bare-empty : Bare (Some EmptyHandle)
bare-empty = record { lock = refl; purge = refl }

pub bare-pointer : (o : Option Live) → live_pointer o ≡ true → Bare o
bare-pointer None is = absurd (cc is)
bare-pointer (Some EmptyHandle) is = absurd (cc is)
bare-pointer (Some (FullHandle flags bytes)) is = absurd (cc is)
bare-pointer (Some (Pointer bytes)) is = record { lock = refl; purge = refl }

pub bare-no_handle : (o : Option Live) → live_handle o ≡ false → Bare o
bare-no_handle None is = record { lock = refl; purge = refl }
bare-no_handle (Some EmptyHandle) is = absurd (cc is)
bare-no_handle (Some (FullHandle flags bytes)) is = absurd (cc is)
bare-no_handle (Some (Pointer bytes)) is = record { lock = refl; purge = refl }

purges-kept : (x : ℕ) (t u : HandleTable) (l : Option Live) → ((h : ℕ) → live_at u h ≡ cond (eqb h x) l (live_at t h)) → purge_live (live_at t x) ≡ false → purge_live l ≡ false → SamePurges t u
purges-kept x t u l at was is h = ap purge_live (at h) ∙ by_number (eqb h x) refl
  where
    by_number : (b : Bool) → eqb h x ≡ b → purge_live (cond b l (live_at t h)) ≡ purge_live (live_at t h)
    by_number true here = is ∙ sym (ap (λ y. purge_live (live_at t y)) (eqb-true h x here) ∙ was)
    by_number false here = refl

-- where one such becomes another, all blocks weigh the same
pub weights-with_live : (x : ℕ) (l : Live) (t : HandleTable) → Bare (live_at t x) → Bare (Some l) → (m : ZoneMap) → weights (with_live x l t) m ≡ weights t m
weights-with_live x l t was is m = weights-same t (with_live x l t) (locks-with_live x l t was.lock is.lock) (purges-kept x t (with_live x l t) (Some l) (live_at-with_live x l t) was.purge is.purge) m

-- and where it is live no more
pub weights-without : (x : ℕ) (t : HandleTable) → Bare (live_at t x) → (m : ZoneMap) → weights (without x t) m ≡ weights t m
weights-without x t was m = weights-same t (without x t) (locks-without x t was.lock) (purges-kept x t (without x t) None (live_at-without x t) was.purge refl) m
