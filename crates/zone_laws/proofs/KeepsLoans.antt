-- Where the blocks of pointers and of locked handles are.
use Rattle.std.proofs.Common.{arith, ◌≡◌, ℕ, ◌+◌, Bool, true, false, cond, [], ◌∷◌, ◌++◌, map, Option, refl, ap, sym, ◌∙◌}
use Rattle.std.specs.Prelude.{slice_index}
use Rattle.mac_base.specs.declared.block.Kind.{Kind}
use Rattle.mac_base.specs.declared.block.Kind.TheVariants.{Rel}
use Rattle.mac_base.specs.HeadKind.{Shape, head_size}
use Rattle.mac_base.specs.ZoneMap.{ZoneMap, Rearranged, is_named, address_after, addresses, addresses_from, contents_of}
use Rattle.mac_base.specs.HandleTable.{HandleTable, Live, live_flags, live_handle, is_handle, is_lent, is_locked, is_pointer}
use Rattle.mac_base.specs.Suits.{Suits, is_handle_block, is_pointer_block}
use Rattle.mac_base.specs.Gap.{is_fixed}
use Rattle.mac_base.specs.Heap.{Heap}
use Rattle.mac_base.specs.Loans.{LoansAreFixed}
use Rattle.zone_laws.proofs.Owners.{no_handle_block, no_pointer_block, nothing_passes}
use Rattle.zone_laws.proofs.Tables.{handle_no_pointer, pointer_no_handle}
use Rattle.zone_laws.proofs.Emptied.{MayEmpty}
use Rattle.zone_laws.proofs.RearrangedSuits.{handle_block-kind}

-- where no block passes one of two tests, those of a number pass the other
named_only : (x : ℕ) (one other : Kind → Bool) → ((k : Kind) → one k ≡ false → is_named x k ≡ other k) → (at : ℕ) (m : ZoneMap) → addresses_from at one m ≡ [] → addresses_from at (is_named x) m ≡ addresses_from at other m
named_only x one other either at [] none = refl
named_only x one other either at (e ∷ es) none =
    let parts = nothing_passes (one e.kind) at (addresses_from (at + e.size) one es) none in
    ap (λ b. cond b (at ∷ []) [] ++ addresses_from (at + e.size) (is_named x) es) (either e.kind parts.0) ∙ ap (λ found. cond (other e.kind) (at ∷ []) [] ++ found) (named_only x one other either (at + e.size) es parts.1)

no_handle : (x : ℕ) (k : Kind) → is_handle_block x k ≡ false → is_named x k ≡ is_pointer_block x k
no_handle x v1 h = grind arith

no_pointer : (x : ℕ) (k : Kind) → is_pointer_block x k ≡ false → is_named x k ≡ is_handle_block x k
no_pointer x v1 h = grind arith

-- the contents of a pointer's block begin at its number
pub contents-pointer : (s : Shape) (t : HandleTable) (m : ZoneMap) (p : ℕ) → Suits s t m → is_pointer t p ≡ true → contents_of s p m ≡ p
contents-pointer s t m p suits live =
    ap (λ found. slice_index (map (λ a. a + head_size s.heads) found) 0) (named_only p (is_handle_block p) (is_pointer_block p) (no_handle p) (address_after s []) m (no_handle_block s t m suits p (pointer_no_handle t p live).1))
    ∙ ap (λ found. slice_index found 0) (suits.coherent.pointers p ∙ ap (λ b. cond b (p ∷ []) []) live)

-- and a handle's block is where its number's is
pub addresses-handle : (s : Shape) (t : HandleTable) (m : ZoneMap) (h : ℕ) → Suits s t m → is_handle t h ≡ true → addresses s (is_named h) m ≡ addresses s (is_handle_block h) m
addresses-handle s t m h suits live = named_only h (is_pointer_block h) (is_handle_block h) (no_pointer h) (address_after s []) m (no_pointer_block s t m suits h (handle_no_pointer t h live))

-- a locked handle has a block
pub locked_full : (o : Option Live) → (live_flags o).lock ≡ true → live_handle o ≡ true
locked_full v0 h = grind arith

-- a rearrangement leaves the blocks of locked handles
pub rearranged-stays : (s : Shape) (t : HandleTable) (old new : ZoneMap) (h : ℕ) → Rearranged s (is_fixed t) old new → is_locked t h ≡ true → addresses s (is_handle_block h) new ≡ addresses s (is_handle_block h) old
rearranged-stays s t old new h r locked = ap (λ test. addresses s test new) (handle_block-kind h) ∙ r.same_places (Rel h) locked ∙ ap (λ test. addresses s test old) (sym (handle_block-kind h))

-- an unlocked handle is not lent
pub unlocked-here : (heap : Heap) (h : ℕ) → LoansAreFixed heap → MayEmpty heap.table h → is_lent heap.table h ≡ false
unlocked-here heap h fixed may = grind arith
