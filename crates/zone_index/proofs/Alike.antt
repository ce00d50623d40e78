-- Two handle tables that are alike but for bytes: the same numbers are live, with the same flags and as many bytes.
use Rattle.std.proofs.Common.{◌≡◌, ℕ, length, Option, refl, ap, sym, ◌∙◌}
use Rattle.std.proofs.lemmas.List.{length-replicate}
use Rattle.mac_base.specs.HandleTable.{HandleTable, Live, live_at, live_bytes, live_flags, live_full, live_handle, live_pointer}
use Rattle.mac_base.specs.Heap.{Heap}
use Rattle.linked_zone.specs.Structure.{blank_heap, blank_live}
use Rattle.linked_zone.proofs.Shown.{find-each, if_live, told-alike}

-- what is live, if anything, with zeros for its bytes
abbrev pub blank : Option Live → Option Live
blank = if_live blank_live

-- each number is the same in two tables but for its bytes
abbrev pub AreAlike : HandleTable → HandleTable → Type 0
AreAlike t u = (x : ℕ) → blank (live_at u x) ≡ blank (live_at t x)

-- those of two heaps that have the same zeros for contents are
pub alike-tables : (heap other : Heap) → blank_heap heap ≡ blank_heap other → AreAlike heap.table other.table
alike-tables heap other same x = sym (find-each (λ x. blank_live) x other.table.live) ∙ ap (λ (h : Heap). live_at h.table x) (sym same) ∙ find-each (λ x. blank_live) x heap.table.live

-- what bytes don't change is one in two of them
pub alike-same : {A : Type 0} (f : Option Live → A) → ((o : Option Live) → f (blank o) ≡ f o) → (t u : HandleTable) → AreAlike t u → (x : ℕ) → f (live_at u x) ≡ f (live_at t x)
alike-same f blanks t u alike x = sym (blanks (live_at u x)) ∙ ap f (alike x) ∙ blanks (live_at t x)

pub blank-flags : (o : Option Live) → live_flags (blank o) ≡ live_flags o
blank-flags = told-alike live_flags blank_live refl (λ flags bytes. refl) (λ bytes. refl)

pub blank-full : (o : Option Live) → live_full (blank o) ≡ live_full o
blank-full = told-alike live_full blank_live refl (λ flags bytes. refl) (λ bytes. refl)

pub blank-handle : (o : Option Live) → live_handle (blank o) ≡ live_handle o
blank-handle = told-alike live_handle blank_live refl (λ flags bytes. refl) (λ bytes. refl)

pub blank-pointer : (o : Option Live) → live_pointer (blank o) ≡ live_pointer o
blank-pointer = told-alike live_pointer blank_live refl (λ flags bytes. refl) (λ bytes. refl)

pub blank-long : (o : Option Live) → length (live_bytes (blank o)) ≡ length (live_bytes o)
blank-long = told-alike (λ o. length (live_bytes o)) blank_live refl (λ flags bytes. length-replicate (length bytes) 0) (λ bytes. length-replicate (length bytes) 0)
