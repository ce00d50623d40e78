-- Which blocks are fixed once the handle table has changed.
use Rattle.std.proofs.Common.{◌≡◌, ℕ, Bool, true, false, cond, eqb, List, Option, Some, None, refl, ap, sym, ◌∙◌}
use Rattle.std.proofs.lemmas.Bool.{eqb-true}
use Rattle.mac_base.specs.declared.block.Kind.{Kind}
use Rattle.mac_base.specs.declared.block.Kind.TheVariants.{Free, Master, Ptr, Rel}
use Rattle.mac_base.specs.Gap.{is_fixed}
use Rattle.mac_base.specs.HandleTable.{HandleTable, Live, EmptyHandle, FullHandle, Pointer, live_at, live_flags, is_locked, refilled, with_bytes, with_live, without}
use Rattle.mac_base.specs.ZoneMap.{is_named}
use Rattle.zone_laws.proofs.Tables.{AgreeBut, live_at-with_live, live_at-without}

-- the same handles are locked
abbrev pub SameLocks : HandleTable → HandleTable → Type 0
SameLocks t u = (h : ℕ) → is_locked u h ≡ is_locked t h

pub kind-locks : (t u : HandleTable) → SameLocks t u → (kind : Kind) → is_fixed u kind ≡ is_fixed t kind
kind-locks t u same Free = refl
kind-locks t u same Master = refl
kind-locks t u same (Ptr p) = refl
kind-locks t u same (Rel h) = same h

pub kind-apart : (x : ℕ) (t u : HandleTable) → AgreeBut x t u → (kind : Kind) → is_named x kind ≡ false → is_fixed u kind ≡ is_fixed t kind
kind-apart x t u agree Free other = refl
kind-apart x t u agree Master other = refl
kind-apart x t u agree (Ptr p) other = refl
kind-apart x t u agree (Rel h) other = ap (λ o. (live_flags o).lock) (agree.others h other)

-- new bytes lock nothing
pub locks-bytes : (x : ℕ) (bytes : List ℕ) (t : HandleTable) → SameLocks t (with_bytes x bytes t)
locks-bytes x bytes t h = ap (λ o. (live_flags o).lock) (live_at-with_live x (refilled bytes (live_at t x)) t h) ∙ by_number (eqb h x) refl
  where
    flags_kept : (o : Option Live) → (live_flags (Some (refilled bytes o))).lock ≡ (live_flags o).lock
    flags_kept None = refl
    flags_kept (Some EmptyHandle) = refl
    flags_kept (Some (FullHandle flags old)) = refl
    flags_kept (Some (Pointer old)) = refl

    by_number : (b : Bool) → eqb h x ≡ b → (live_flags (cond b (Some (refilled bytes (live_at t x))) (live_at t h))).lock ≡ is_locked t h
    by_number true is = flags_kept (live_at t x) ∙ ap (is_locked t) (sym (eqb-true h x is))
    by_number false is = refl

-- nor does what has no lock, where there was none
pub locks-with_live : (x : ℕ) (l : Live) (t : HandleTable) → is_locked t x ≡ false → (live_flags (Some l)).lock ≡ false → SameLocks t (with_live x l t)
locks-with_live x l t was is h = ap (λ o. (live_flags o).lock) (live_at-with_live x l t h) ∙ by_number (eqb h x) refl
  where
    by_number : (b : Bool) → eqb h x ≡ b → (live_flags (cond b (Some l) (live_at t h))).lock ≡ is_locked t h
    by_number true here = is ∙ sym (ap (is_locked t) (eqb-true h x here) ∙ was)
    by_number false here = refl

-- nor what isn't live any more
pub locks-without : (x : ℕ) (t : HandleTable) → is_locked t x ≡ false → SameLocks t (without x t)
locks-without x t was h = ap (λ o. (live_flags o).lock) (live_at-without x t h) ∙ by_number (eqb h x) refl
  where
    by_number : (b : Bool) → eqb h x ≡ b → (live_flags (cond b None (live_at t h))).lock ≡ is_locked t h
    by_number true here = sym (ap (is_locked t) (eqb-true h x here) ∙ was)
    by_number false here = refl
