-- A zone that fell asleep wakes as it was in the bytes that it left: what was lent is lent again, with the bytes that C
-- left.
use Rattle.std.proofs.Common.{◌≡◌, ◌∙◌, ℕ, ◌&&◌, ◌||◌, ◌==◌, not, Bool, true, false, cond, nat_lt, List, [], ◌∷◌, length, map, Option, Some, None, refl, sym, ap}
use Rattle.std.specs.Prelude.{filter, is_some}
use Rattle.std.specs.List.{list_all, list_any}
use Rattle.std.specs.Option.{option_or}
use Rattle.std.proofs.lemmas.Bool.{and_from, eqb-true, false_from_ne_true, or_from, or_parts, or_right, true≢false}
use Rattle.mac_base.specs.declared.error.OsErr.TheVariants.{ParamErr, NilHandleErr, MemWzErr, MemLockedErr}
use Rattle.mac_base.specs.HandleTable.{HandleTable, Live, EmptyHandle, FullHandle, Pointer, live_at, live_bytes, live_flags, live_handle, live_pointer, bytes_of, is_handle, is_locked, is_pointer, refilled, with_bytes}
use Rattle.mac_base.specs.HeadKind.{Shape}
use Rattle.mac_base.specs.Heap.{Heap, with_table}
use Rattle.mac_base.specs.Loans.{LoansAreFixed, LoansFit, most_loans, owners, returned, with_lent}
use Rattle.mac_base.specs.Sound.{Sound}
use Rattle.mac_base.specs.ZoneState.{ZoneState}
use Rattle.mac_base.specs.declared.loan_call.LoanCall.TheVariants.{Lend}
use Rattle.mac_base.specs.GrowZone.{Answer, Ask}
use Rattle.mac_base.specs.LoanStep.{Loans, all_returned, loan_refusal}
use Rattle.mac_base.specs.Tests.{unless_passed}
use Rattle.zone_laws.proofs.Lent.{fixed-block}
use Rattle.zone_laws.proofs.SoundWritten.{refilled_block}
use Rattle.zone_laws.proofs.Tables.{by_number, eqb_swap, live_at-with_live_same, with_live_agrees}
use Rattle.zone_laws.proofs.SuitsNil.{nil-no_handle, nil-no_pointer}
use Rattle.raw_region.specs.State.{State as Region}
use Rattle.held_calls.specs.declared.loans.Held.{Held}
use Rattle.held_calls.specs.Holding.{EachOnce, Holds, is_held, loans_of}
use Rattle.held_zone.specs.Asleep.{FallsAsleep, WakesAsBefore, all_back, is_lendable, new_loans, with_loans, with_these_lent}
use Rattle.held_zone.specs.declared.fields.GuestFields.{GuestFields}
use Rattle.held_zone.specs.Purges.{Purges}
use Rattle.held_zone.specs.State.{State, WaitAsleep}
use Rattle.held_zone.proofs.LentAgain.{held-there}
use Rattle.held_zone.proofs.Made.{state}
use Rattle.held_zone.proofs.Sleeping.{as_it_was, first_is_held}

-- whether a number is that of a pointer or of a locked handle
abbrev fixed : HandleTable → ℕ → Bool
fixed t x = is_pointer t x || is_locked t x

-- ---- the table with the bytes of loans

-- other bytes leave pointers and locked handles what they are
fixed-refilled : (bytes : List ℕ) (o : Option Live) → (live_pointer (Some (refilled bytes o)) || (live_flags (Some (refilled bytes o))).lock) ≡ (live_pointer o || (live_flags o).lock)
fixed-refilled bytes None = refl
fixed-refilled bytes (Some EmptyHandle) = refl
fixed-refilled bytes (Some (FullHandle flags old)) = refl
fixed-refilled bytes (Some (Pointer old)) = refl

fixed-with_bytes : (y : ℕ) (bytes : List ℕ) (t : HandleTable) (x : ℕ) → fixed (with_bytes y bytes t) x ≡ fixed t x
fixed-with_bytes y bytes t = by_number (λ x. fixed (with_bytes y bytes t) x ≡ fixed t x) y
    (ap (λ o. live_pointer o || (live_flags o).lock) (live_at-with_live_same y (refilled bytes (live_at t y)) t) ∙ fixed-refilled bytes (live_at t y))
    (λ x apart. ap (λ o. live_pointer o || (live_flags o).lock) ((with_live_agrees y (refilled bytes (live_at t y)) t).others x apart))

fixed-loans : (loans : Loans) (t : HandleTable) (x : ℕ) → fixed (with_loans loans t) x ≡ fixed t x
fixed-loans [] t x = refl
fixed-loans (loan ∷ loans) t x = fixed-loans loans (with_bytes loan.0 loan.1 t) x ∙ fixed-with_bytes loan.0 loan.1 t x

-- the same are lent
lent-loans : (loans : Loans) (t : HandleTable) → (with_loans loans t).lent ≡ t.lent
lent-loans [] t = refl
lent-loans (loan ∷ loans) t = lent-loans loans (with_bytes loan.0 loan.1 t)

-- and which are lent is no matter
loans-lent : (loans : Loans) (xs : List ℕ) (t : HandleTable) → with_loans loans (with_lent xs t) ≡ with_lent xs (with_loans loans t)
loans-lent [] xs t = refl
loans-lent (loan ∷ loans) xs t = loans-lent loans xs (with_bytes loan.0 loan.1 t)

-- a number of no loan stays what it is
other-loans : (x : ℕ) (held : List Held) (t : HandleTable) → is_held x held ≡ false → live_at (with_loans (loans_of held) t) x ≡ live_at t x
other-loans x [] t none = refl
other-loans x (h ∷ hs) t none =
    let parts = or_parts (h.block == x) (is_held x hs) none in
    other-loans x hs (with_bytes h.block h.loan.bytes t) parts.1
    ∙ (with_live_agrees h.block (refilled h.loan.bytes (live_at t h.block)) t).others x (eqb_swap x h.block ∙ parts.0)

-- the loans of its blocks are those loans, where each is that of a pointer or of a locked handle, and is there once
loans-again : (held : List Held) (t : HandleTable) → EachOnce held → ((x : ℕ) → is_held x held ≡ true → fixed t x ≡ true)
    → new_loans (with_loans (loans_of held) t) (map (λ loan. loan.0) (loans_of held)) ≡ loans_of held
loans-again [] t once all = refl
loans-again (h ∷ hs) t once all =
    let bytes : List ℕ = h.loan.bytes in
    let now : HandleTable = with_bytes h.block bytes t in
    let block = fixed-block t h.block (all h.block (first_is_held h hs)) in
    let has : live_at (with_loans (loans_of hs) now) h.block ≡ Some (refilled bytes (live_at t h.block)) = other-loans h.block hs now once.0 ∙ live_at-with_live_same h.block (refilled bytes (live_at t h.block)) t in
    let first : bytes_of (with_loans (loans_of hs) now) h.block ≡ bytes = ap live_bytes has ∙ (refilled_block bytes (live_at t h.block) block).holds in
    let rest = loans-again hs now once.1 (λ x is. fixed-with_bytes h.block bytes t x ∙ all x (or_right (h.block == x) (is_held x hs) is)) in
    λ i. (h.block, first i) ∷ rest i

-- ---- the heap once all loans came back

-- its table has the bytes of the loans
returned-all : (loans : Loans) (heap : Heap) → all_returned loans heap ≡ with_table (with_lent (all_returned loans heap).table.lent (with_loans loans heap.table)) heap
returned-all [] heap = refl
returned-all (loan ∷ loans) heap =
    let next : Heap = returned loan.0 loan.1 heap in
    returned-all loans next
    ∙ ap (λ (t : HandleTable). with_table (with_lent (all_returned loans next).table.lent t) heap) (loans-lent loans (filter (λ y. not (y == loan.0)) heap.table.lent) (with_bytes loan.0 loan.1 heap.table))

-- once these are lent that were, only bytes of lent blocks have changed
heap-again : (loans : Loans) (heap : Heap) (xs : List ℕ) → filter (λ y. list_any (λ x. x == y) xs) (owners heap.map) ≡ heap.table.lent → with_these_lent xs (all_returned loans heap) ≡ with_table (with_loans loans heap.table) heap
heap-again loans heap xs same =
    ap (with_these_lent xs) (returned-all loans heap)
    ∙ ap (λ (lent : List ℕ). with_table (with_lent lent (with_loans loans heap.table)) heap) (same ∙ sym (lent-loans loans heap.table))

-- ---- what was lent may be lent again

-- a pointer or a locked handle is live
fixed-live : (t : HandleTable) (x : ℕ) → fixed t x ≡ true → (is_handle t x || is_pointer t x) ≡ true
fixed-live t x = by_case (live_at t x)
  where
    by_case : (o : Option Live) → (live_pointer o || (live_flags o).lock) ≡ true → (live_handle o || live_pointer o) ≡ true
    by_case None is = absurd (cc is)
    by_case (Some EmptyHandle) is = refl
    by_case (Some (FullHandle flags old)) is = refl
    by_case (Some (Pointer old)) is = refl

-- so it isn't nil
fixed-some : (s : Shape) (heap : Heap) (x : ℕ) → Sound s heap → fixed heap.table x ≡ true → (x == 0) ≡ false
fixed-some s heap x sound is = false_from_ne_true (x == 0) (λ nil.
    let none : (is_handle heap.table 0 || is_pointer heap.table 0) ≡ false = or_from (is_handle heap.table 0) (is_pointer heap.table 0) (nil-no_handle s heap.table heap.map sound.suits) (nil-no_pointer s heap.table heap.map sound.suits) in
    true≢false (sym (fixed-live heap.table x is) ∙ ap (λ (y : ℕ). is_handle heap.table y || is_pointer heap.table y) (eqb-true x 0 nil) ∙ none))

-- it may be lent where nothing is
lends-first : (s : Shape) (heap : Heap) (x : ℕ) → (x == 0) ≡ false → heap.table.lent ≡ [] → fixed heap.table x ≡ true → not (is_some (loan_refusal s heap (Lend x))) ≡ true
lends-first s heap x some none is = λ i. not (is_some (option_or (cond (some i) (Some NilHandleErr) (unless_passed MemWzErr (fixed-live heap.table x is i)))
    (option_or (unless_passed NilHandleErr (fixed-block heap.table x is i))
    (option_or (unless_passed MemLockedErr (not (list_any (λ y. y == x) (none i))))
    (option_or (unless_passed ParamErr (is i && nat_lt (length (none i)) most_loans)) None)))))

each-lendable : (z : ZoneState) (held : List Held) → ((x : ℕ) → is_held x held ≡ true → is_lendable z x ≡ true) → list_all (is_lendable z) (map (λ loan. loan.0) (loans_of held)) ≡ true
each-lendable z [] each = refl
each-lendable z (h ∷ hs) each =
    and_from (is_lendable z h.block) (list_all (is_lendable z) (map (λ loan. loan.0) (loans_of hs))) (each h.block (first_is_held h hs))
    (each-lendable z hs (λ x is. each x (or_right (h.block == x) (is_held x hs) is)))

-- ---- the zone

-- a zone that fell asleep wakes as it was in the bytes that it left
pub wakes-as_before : (zone : ZoneState) (held : List Held) (left : List Answer) (asks : List Ask) (waiting : List ℕ) (guest : GuestFields) (purges : Purges) (r : Region) (new : State)
    → Sound zone.shape zone.heap → LoansFit zone.heap → LoansAreFixed zone.heap → Holds zone held → WaitAsleep zone waiting → r.name ≡ zone.memory.region
    → FallsAsleep (state zone (loans_of held) left asks waiting guest purges) r new → WakesAsBefore (state zone (loans_of held) left asks waiting guest purges) r new
wakes-as_before zone held left asks waiting guest purges r new sound fit fixes holds waits place falls =
    let old : State = state zone (loans_of held) left asks waiting guest purges in
    let back : Heap = all_returned (loans_of held) zone.heap in
    let table : back ≡ with_table (with_lent back.table.lent (with_loans (loans_of held) zone.heap.table)) zone.heap = returned-all (loans_of held) zone.heap in
    let blocks : List ℕ = map (λ loan. loan.0) (loans_of held) in
    let none : back.table.lent ≡ [] = sym (ap (λ (z : ZoneState). z.heap.table.lent) falls.as_before) ∙ falls.asleep.nothing_lent in
    let is_fixed : (x : ℕ) → is_held x held ≡ true → fixed zone.heap.table x ≡ true = λ x is. fixes x (holds.all x ∙ is) in
    let still_fixed : (x : ℕ) → is_held x held ≡ true → fixed back.table x ≡ true = λ x is. ap (λ (h : Heap). fixed h.table x) table ∙ fixed-loans (loans_of held) zone.heap.table x ∙ is_fixed x is in
    let same : filter (λ y. list_any (λ x. x == y) blocks) (owners zone.heap.map) ≡ zone.heap.table.lent = (λ i. filter (λ y. (held-there y held ∙ sym (holds.all y)) i) (owners zone.heap.map)) ∙ sym fit.in_order in
    let again : new_loans back.table blocks ≡ loans_of held = ap (λ (h : Heap). new_loans h.table blocks) table ∙ loans-again held zone.heap.table holds.once is_fixed in
    let heap = heap-again (loans_of held) zone.heap blocks same in
    let nothing_waits : waiting ≡ [] = waits (ap is_some falls.kept) in
    let woken : ZoneState = record (all_back old).zone { memory = new.zone.memory } in
    record {
      may = (λ i. list_all (is_lendable (falls.as_before i)) (falls.waiting i)) ∙ each-lendable woken held (λ x is. lends-first zone.shape back x (fixed-some zone.shape zone.heap x sound (is_fixed x is)) none (still_fixed x is));
      awake = as_it_was old r new falls place ∙ (λ i. state (record zone { heap = heap i }) (again i) left asks (sym nothing_waits i) guest purges);
    }
