-- A block that is placed is filled, and what it held before leaves no trace.
use Rattle.std.proofs.Common.{◌≡◌, ℕ, Bool, true, false, cond, eqb, List, [], ◌∷◌, Option, None, Result, Ok, Err, refl, ap, sym, ◌∙◌, ◌≤◌, subst, arith, Ordering, Less, Equal, Greater, length, take, drop}
use Rattle.std.specs.Prelude.{◌==◌, ◌||◌, not, filter, nat_le, is_ok, OnOk, IfSome}
use Rattle.std.specs.FinMap.{put}
use Rattle.std.proofs.Math.Seq.{take-length, drop-length}
use Rattle.std.proofs.lemmas.Bool.{ne_eqb}
use Rattle.std.proofs.lemmas.List.{append-nil}
use Rattle.std.specs.Ordering.{nat_cmp}
use Rattle.std.specs.FinMap.Entries.{by_order}
use Rattle.std.proofs.lemmas.Bool.Decides.{nat_tests}
use Rattle.mac_base.specs.HeadKind.{Shape}
use Rattle.mac_base.specs.FlagState.{state_locks}
use Rattle.mac_base.specs.HandleTable.{Live, FullHandle, bytes_of, live_at, live_bytes, is_lent, no_flags, refilled, with_bytes, with_live}
use Rattle.std.proofs.lemmas.List.{length-replicate}
use Rattle.mac_base.specs.Heap.{Heap, with_table}
use Rattle.mac_base.specs.declared.memory_call.MemoryCall.{MemoryCall}
use Rattle.mac_base.specs.declared.memory_call.MemoryCall.TheVariants.{OnBlock}
use Rattle.mac_base.specs.declared.memory_call.BlockCall.TheVariants.{HSetState}
use Rattle.mac_base.specs.Effect.{request_of, effect_of}
use Rattle.mac_base.specs.ExactStep.{IsExactStep, StepEnd, step_unless, step_asking, rearranged}
use Rattle.mac_base.specs.GrowZone.{Ask, answers_in}
use Rattle.mac_base.specs.Outcomes.{Outcome}
use Rattle.mac_base.specs.Tests.{refusal}
use Rattle.mac_base.specs.ZoneMap.{released}
use Rattle.mac_base.specs.ZoneState.{ZoneState, overwritten, with_contents}
use Rattle.linked_zone.specs.Loans.{KeepsLoans}
use Rattle.zone_laws.proofs.Tables.{eqb_same, live_at-with_live_same, with_live_agrees}
use Rattle.res_update.specs.Changes.{FileRow}
use Rattle.res_manager.specs.Loading.{AreAnswered, IsFilled, IsPlaced}

same_cmp : (k : ℕ) → nat_cmp k k ≡ Equal
same_cmp k = grind (arith, nat_tests)

-- what is put in place of what was put leaves no trace of it
pub put-again : {X : Type 0} (k : ℕ) (v w : X) (es : List (ℕ × X)) → put nat_cmp k v (put nat_cmp k w es) ≡ put nat_cmp k v es
put-again k v w [] = rw (same_cmp k) refl
put-again k v w (e ∷ es) = go (nat_cmp k e.0) refl (put-again k v w es)
  where
    go : (o : Ordering) → nat_cmp k e.0 ≡ o → put nat_cmp k v (put nat_cmp k w es) ≡ put nat_cmp k v es
        → put nat_cmp k v (by_order o ((k, w) ∷ e ∷ es) ((e.0, w) ∷ es) (e ∷ put nat_cmp k w es)) ≡ by_order o ((k, v) ∷ e ∷ es) ((e.0, v) ∷ es) (e ∷ put nat_cmp k v es)
    go Less is again = rw (same_cmp k) refl
    go Equal is again = rw is refl
    go Greater is again = rw is (ap (λ t. e ∷ t) again)

-- nor does it where it is taken out
pub put-gone : {X : Type 0} (k : ℕ) (w : X) (es : List (ℕ × X)) → filter (λ (e : ℕ × X). not (e.0 == k)) (put nat_cmp k w es) ≡ filter (λ (e : ℕ × X). not (e.0 == k)) es
put-gone k w [] = rw (eqb_same k) refl
put-gone {X} k w (e ∷ es) = go (nat_cmp k e.0) refl (put-gone k w es)
  where
    go : (o : Ordering) → nat_cmp k e.0 ≡ o → filter (λ (e : ℕ × X). not (e.0 == k)) (put nat_cmp k w es) ≡ filter (λ (e : ℕ × X). not (e.0 == k)) es
        → filter (λ (e : ℕ × X). not (e.0 == k)) (by_order o ((k, w) ∷ e ∷ es) ((e.0, w) ∷ es) (e ∷ put nat_cmp k w es)) ≡ filter (λ (e : ℕ × X). not (e.0 == k)) (e ∷ es)
    go Less is again = rw (eqb_same k) refl
    go Equal is again = let same : (e.0 == k) ≡ true = grind (arith, nat_tests, is) in rw same refl
    go Greater is again = elim (e.0 == k) as (λ b. cond (not b) (e ∷ filter (λ (e : ℕ × X). not (e.0 == k)) (put nat_cmp k w es)) (filter (λ (e : ℕ × X). not (e.0 == k)) (put nat_cmp k w es)) ≡ cond (not b) (e ∷ filter (λ (e : ℕ × X). not (e.0 == k)) es) (filter (λ (e : ℕ × X). not (e.0 == k)) es)) [ true ↦ again | false ↦ ap (λ t. e ∷ t) again ]

-- a call that isn't refused and makes no request leaves just this
pub quiet-heap : (s : Shape) (old new : Heap) (call : MemoryCall) (asks : List Ask) (outcome : Outcome) → refusal s old call ≡ None → request_of old.table call ≡ None → IsExactStep s old call asks outcome new
    → new ≡ effect_of s call (rearranged call old)
quiet-heap s old new call asks outcome passed none exact =
    ap (λ (e : StepEnd). e.heap) (sym exact ∙ ap (step_unless s (answers_in asks) old call) passed ∙ ap (step_asking s (answers_in asks) old call) none)

or_true : (b : Bool) → (b || true) ≡ true
or_true true = refl
or_true false = refl

module _ (s : Shape) (h : ℕ) (bytes : List ℕ) (old new : Heap) (filled : IsFilled h bytes new new) where
  -- its flags are set
  pub state-passes : (n : ℕ) → n ≤ 255 → refusal s new (OnBlock (HSetState h n)) ≡ None
  state-passes n few = let le : nat_le n 255 ≡ true = grind (arith, nat_tests, few) in rw (filled.some, filled.block, le, filled.here, or_true (state_locks n)) refl

-- other bytes in it leave all else as it was
pub filled-bytes : (heap : Heap) (h n : ℕ) (bytes : List ℕ) → IsPlaced heap h n → IsFilled h bytes heap (with_table (with_live h (FullHandle no_flags bytes) heap.table) heap)
filled-bytes heap h n bytes placed = record {
  some = placed.some;
  block = live_at-with_live_same h (FullHandle no_flags bytes) heap.table;
  here = placed.here;
  given = λ l. ap (λ (live : List (ℕ × Live)). record heap { table = record (heap.table) { live = live } }) (put-again h l (FullHandle no_flags bytes) (let t = heap.table in t.live));
  gone = ap (λ (live : List (ℕ × Live)). record { table = record (heap.table) { live = live }; map = released h heap.map; free_slots = h ∷ heap.free_slots }) (put-gone h (FullHandle no_flags bytes) (let t = heap.table in t.live));
}

-- bytes written over as many others are all that is left
pub overwritten-whole : (old new : List ℕ) → length new ≡ length old → overwritten old new ≡ new
overwritten-whole old new same =
    let all : take (length old) new ≡ new = rw (← same) (take-length new) in
    let none : drop (length new) old ≡ [] = rw same (drop-length old) in
    rw (all, none) (append-nil new)

-- bytes that are written over all of a placed block fill it
pub filled-contents : (heap : Heap) (h n x : ℕ) (bytes : List ℕ) → IsPlaced heap h n → x ≡ h → length bytes ≡ length (bytes_of heap.table x) → IsFilled h bytes heap (with_table (with_bytes x (overwritten (bytes_of heap.table x) bytes) heap.table) heap)
filled-contents heap h n x bytes placed is long =
    let whole : overwritten (bytes_of heap.table h) bytes ≡ bytes = overwritten-whole (bytes_of heap.table h) bytes (subst (λ k. length bytes ≡ length (bytes_of heap.table k)) is long) in
    let same : with_bytes x (overwritten (bytes_of heap.table x) bytes) heap.table ≡ with_live h (FullHandle no_flags bytes) heap.table
    = ap (λ k. with_bytes k (overwritten (bytes_of heap.table k) bytes) heap.table) is
    ∙ ap (λ others. with_bytes h others heap.table) whole
    ∙ ap (λ o. with_live h (refilled bytes o) heap.table) placed.block in
    subst (λ t. IsFilled h bytes heap (with_table t heap)) (sym same) (filled-bytes heap h n bytes placed)

-- the loans stay where bytes are written into a placed block
pub loans-filled : (zone : ZoneState) (h n x : ℕ) (bytes : List ℕ) → IsPlaced zone.heap h n → x ≡ h → KeepsLoans zone (with_contents zone x bytes)
loans-filled zone h n x bytes placed is = (
  refl,
  λ y loan held.
      let t = zone.heap.table in
      let none : is_lent t x ≡ false = subst (λ k. is_lent t k ≡ false) (sym is) placed.here in
      let other : eqb y x ≡ false = ne_eqb y x (λ same. let both : true ≡ false = sym held.lent ∙ ap (λ (z : ℕ). is_lent t z) same ∙ none in absurd (cc both)) in
      let same : live_at (with_contents zone x bytes).heap.table y ≡ live_at t y = (with_live_agrees x (refilled (overwritten (bytes_of t x) bytes) (live_at t x)) t).others y other in
      record { lent = held.lent; memory = held.memory; contents = held.contents; long = held.long ∙ ap (λ (o : Option Live). length (live_bytes o)) (sym same) },
)

-- what is filled is as it is
pub filled-itself : (h : ℕ) (bytes : List ℕ) (old new : Heap) → IsFilled h bytes old new → IsFilled h bytes new new
filled-itself h bytes old new filled = record { some = filled.some; block = filled.block; here = filled.here; given = λ l. refl; gone = refl }

-- what was read of a row, by whether the read succeeded
pub answered-read : {X E F : Type 0} (honest : Type 0) (heap : Heap) (h n x : ℕ) (bytes : List ℕ) → IsPlaced heap h n → x ≡ h → length bytes ≡ length (bytes_of heap.table x) → (row : Option FileRow) (result : Result X E) (told : Result X F) → is_ok told ≡ is_ok result
    → (honest → OnOk result (IfSome row (λ r. bytes ≡ r.resource.datum))) → OnOk told (AreAnswered honest n row bytes)
answered-read honest heap h n x bytes placed is long row (Err e) (Ok u) same read = absurd (cc same)
answered-read honest heap h n x bytes placed is long row result (Err f) same read = tt
answered-read honest heap h n x bytes placed is long row (Ok v) (Ok u) same read =
    record { long = long ∙ ap (λ (k : ℕ). length (bytes_of heap.table k)) is ∙ ap (λ (o : Option Live). length (live_bytes o)) placed.block ∙ length-replicate n 0; own = read }
