-- New bytes change no flags, so blocks weigh the same.
use Rattle.std.proofs.Common.{◌≡◌, ℕ, Bool, true, false, not, cond, eqb, List, [], ◌∷◌, Option, Some, None, refl, ap, sym, ◌∙◌}
use Rattle.std.specs.Prelude.{◌&&◌}
use Rattle.std.proofs.lemmas.Bool.{eqb-true}
use Rattle.mac_base.specs.declared.block.Entry.{Entry}
use Rattle.mac_base.specs.declared.block.Kind.{Kind}
use Rattle.mac_base.specs.declared.block.Kind.TheVariants.{Free, Master, Ptr, Rel}
use Rattle.mac_base.specs.HandleTable.{HandleTable, Live, EmptyHandle, FullHandle, Pointer, live_at, live_flags, live_full, is_purgeable, refilled, with_bytes}
use Rattle.mac_base.specs.ZoneMap.{ZoneMap, free_size}
use Rattle.zone_laws.proofs.Tables.{live_at-with_live}
use Rattle.zone_index.proofs.Locks.{SameLocks, kind-locks, locks-bytes}
use Rattle.zone_index.specs.Weights.{is_space, weigh, weights}

-- the same handles may be purged
abbrev pub SamePurges : HandleTable → HandleTable → Type 0
SamePurges t u = (h : ℕ) → is_purgeable u h ≡ is_purgeable t h

pub kind-purges : (t u : HandleTable) → SamePurges t u → (kind : Kind) → is_space u kind ≡ is_space t kind
kind-purges t u same Free = refl
kind-purges t u same Master = refl
kind-purges t u same (Ptr p) = refl
kind-purges t u same (Rel h) = same h

-- where the same handles are locked and may be purged, a block weighs the same
pub weigh-same : (t u : HandleTable) → SameLocks t u → SamePurges t u → (e : Entry) → weigh u e ≡ weigh t e
weigh-same t u locks purges e =
    let space = kind-purges t u purges e.kind in
    let stays = kind-locks t u locks e.kind in
    λ i. record { bytes = e.size; free = free_size e; space = cond (space i) e.size 0; fixed = stays i }

-- and so do all
pub weights-same : (t u : HandleTable) → SameLocks t u → SamePurges t u → (m : ZoneMap) → weights u m ≡ weights t m
weights-same t u locks purges [] = refl
weights-same t u locks purges (e ∷ es) = λ i. weigh-same t u locks purges e i ∷ weights-same t u locks purges es i

-- whether what is live may be purged
abbrev live_purgeable : Option Live → Bool
live_purgeable o = live_full o && ((live_flags o).purge && not (live_flags o).lock)

-- new bytes let the same be purged
pub purges-bytes : (x : ℕ) (bytes : List ℕ) (t : HandleTable) → SamePurges t (with_bytes x bytes t)
purges-bytes x bytes t h = ap live_purgeable (live_at-with_live x (refilled bytes (live_at t x)) t h) ∙ by_number (eqb h x) refl
  where
    kept : (o : Option Live) → live_purgeable (Some (refilled bytes o)) ≡ live_purgeable o
    kept None = refl
    kept (Some EmptyHandle) = refl
    kept (Some (FullHandle flags old)) = refl
    kept (Some (Pointer old)) = refl

    by_number : (b : Bool) → eqb h x ≡ b → live_purgeable (cond b (Some (refilled bytes (live_at t x))) (live_at t h)) ≡ is_purgeable t h
    by_number true is = kept (live_at t x) ∙ ap (is_purgeable t) (sym (eqb-true h x is))
    by_number false is = refl

-- blocks weigh the same
pub weights-bytes : (t : HandleTable) (x : ℕ) (bytes : List ℕ) (m : ZoneMap) → weights (with_bytes x bytes t) m ≡ weights t m
weights-bytes t x bytes m = weights-same t (with_bytes x bytes t) (locks-bytes x bytes t) (purges-bytes x bytes t) m
