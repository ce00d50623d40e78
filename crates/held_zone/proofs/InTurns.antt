-- Handles are emptied in turn before a call.
use Rattle.std.proofs.Common.{◌≡◌, ◌∙◌, ℕ, ◌<◌, true, false, List, [], ◌∷◌, ◌++◌, Option, Some, None, Ok, refl, ap, sym, subst, arith, append-nil, append_assoc}
use Rattle.std.specs.Prelude.{IsTrue}
use Rattle.std.proofs.lemmas.Bool.{true≢false}
use Rattle.linked_zone.specs.Loans.{KeepsLoans}
use Rattle.mac_base.specs.declared.error.OsErr.{OsErr}
use Rattle.mac_base.specs.declared.memory_call.MemoryCall.{MemoryCall}
use Rattle.mac_base.specs.declared.memory_call.MemoryCall.TheVariants.{OnBlock}
use Rattle.mac_base.specs.declared.memory_call.BlockCall.TheVariants.{EmptyHandle}
use Rattle.mac_base.specs.declared.reply.Results.TheVariants.{Nothing}
use Rattle.mac_base.specs.ExactStep.{IsExactStep, StepEnd, exact_step, heap_after, step_unless}
use Rattle.mac_base.specs.GrowZone.{Answer}
use Rattle.mac_base.specs.HandleTable.{HandleTable, emptied, is_full}
use Rattle.mac_base.specs.HeadKind.{Shape}
use Rattle.mac_base.specs.Heap.{Heap, with_emptied}
use Rattle.mac_base.specs.Loans.{LoansAreFixed}
use Rattle.mac_base.specs.MemoryStep.{MemoryStep}
use Rattle.mac_base.specs.Outcomes.{Outcome}
use Rattle.mac_base.specs.Sound.{Sound}
use Rattle.mac_base.specs.Tests.{refusal}
use Rattle.mac_base.specs.ZoneState.{ZoneState, with_heap}
use Rattle.zone_laws.proofs.LentSteps.{step_keeps_lent}
use Rattle.zone_heap.specs.NextPurge.{BeforePurge}
use Rattle.mem_calls.specs.Purges.{PurgesInTurn, before_call}
use Rattle.mem_calls.proofs.PurgeSteps.{emptied_is_exact, ready_is_exact}
use Rattle.held_zone.specs.InTurn.{IsEmptied, IsHeldAt}
use Rattle.held_zone.specs.Purges.{Purges, purged_these, waits_for}
use Rattle.held_zone.proofs.FewerFull.{fewer-full, full_handles}
use Rattle.held_zone.proofs.NextFull.{next-full}

-- the zone just before a call purges
abbrev pub ready : ZoneState → MemoryCall → ZoneState
ready now call = with_heap (before_call now.shape now.heap call).heap now

-- Some handles of a zone are emptied in turn on the way to a call, and noted.
pub record StillEmptied (start : ZoneState) (purges : Purges) (call : MemoryCall) (now : ZoneState) (now_purges : Purges) : Type 0 where
  pub purged : List ℕ
  pub goes : (rest : List ℕ) (last : Heap) → PurgesInTurn start.shape call now.heap rest last → PurgesInTurn start.shape call start.heap (purged ++ rest) last
  pub exact : (answers : List Answer) → exact_step start.shape answers now.heap call ≡ exact_step start.shape answers start.heap call
  pub at_start : IsTrue purges.held → (purged ≡ []) × (now ≡ start)
  pub noted : now_purges ≡ purged_these purged purges
  pub shape : now.shape ≡ start.shape
  pub lent : now.heap.table.lent ≡ start.heap.table.lent
  pub loans : KeepsLoans start now

pub loans-then : (start mid new : ZoneState) → KeepsLoans start mid → KeepsLoans mid new → KeepsLoans start new
loans-then start mid new one other = (other.0 ∙ one.0, λ x loan lent. other.1 x loan (one.1 x loan lent))

-- EmptyHandle that isn't refused empties its handle
emptied-heap : (s : Shape) (heap : Heap) (h : ℕ) → (exact_step s [] heap (OnBlock (EmptyHandle h))).outcome ≡ Ok Nothing → (exact_step s [] heap (OnBlock (EmptyHandle h))).heap ≡ with_emptied heap h
emptied-heap s heap h = by_refusal (refusal s heap (OnBlock (EmptyHandle h)))
  where
    by_refusal : (o : Option OsErr) → (step_unless s [] heap (OnBlock (EmptyHandle h)) o).outcome ≡ Ok Nothing → (step_unless s [] heap (OnBlock (EmptyHandle h)) o).heap ≡ with_emptied heap h
    by_refusal (Some code) is = absurd (cc is)
    by_refusal None is = refl

module _ (now mid : ZoneState) (call : MemoryCall) (sound : Sound now.shape now.heap) (fixed : LoansAreFixed now.heap) (is : mid ≡ ready now call) where
  -- the table is as it was just before the call purges
  lent-ready : mid.heap.table.lent ≡ now.heap.table.lent
  lent-ready = ap (λ (z : ZoneState). z.heap.table.lent) is ∙ ap (λ (t : HandleTable). t.lent) (next-full now.shape now.heap call sound).table

  -- the heap after EmptyHandle of the handle that is next
  module _ (h : ℕ) (some : (before_call now.shape now.heap call).next ≡ Some h) (outcome : Outcome) (new : ZoneState) (exact : IsExactStep mid.shape mid.heap (OnBlock (EmptyHandle h)) [] outcome new.heap) where
    heap-next : new.heap ≡ heap_after now.shape (before_call now.shape now.heap call).heap (OnBlock (EmptyHandle h) ∷ [])
    heap-next =
        let there : IsExactStep now.shape (before_call now.shape now.heap call).heap (OnBlock (EmptyHandle h)) [] outcome new.heap =
        subst (λ (z : ZoneState). IsExactStep z.shape z.heap (OnBlock (EmptyHandle h)) [] outcome new.heap) is exact in
        ap (λ (e : StepEnd). e.heap) (sym there)

    -- fewer handles have blocks then
    pub fewer-left : full_handles new.heap.table < full_handles now.heap.table
    fewer-left =
        let before = before_call now.shape now.heap call in
        let known = next-full now.shape now.heap call sound in
        let done = (emptied_is_exact now.shape [] now.heap call h sound fixed some).0 in
        let table : new.heap.table ≡ emptied h now.heap.table =
        ap (λ (heap : Heap). heap.table) (heap-next ∙ emptied-heap now.shape before.heap h done) ∙ ap (emptied h) known.table in
        let fewer = fewer-full now.heap.table h sound.suits.coherent.in_order (ap (λ t. is_full t h) (sym known.table) ∙ known.full h some) in
        let same = ap full_handles table in
        omega arith

module _ (start : ZoneState) (purges : Purges) (call : MemoryCall) (now : ZoneState) (now_purges : Purges) (still : StillEmptied start purges call now now_purges)
    (sound : Sound now.shape now.heap) (fixed : LoansAreFixed now.heap) (mid : ZoneState) (is : mid ≡ ready now call) (kept : KeepsLoans now mid) where
  abbrev before : BeforePurge
  before = before_call start.shape now.heap call

  -- one more is emptied
  pub still-more : (h : ℕ) (new : ZoneState) (new_purges : Purges) (outcome : Outcome) → (before_call now.shape now.heap call).next ≡ Some h → now_purges.held ≡ false
      → IsExactStep mid.shape mid.heap (OnBlock (EmptyHandle h)) [] outcome new.heap → MemoryStep mid.shape mid.heap (OnBlock (EmptyHandle h)) [] outcome new.heap → new.shape ≡ mid.shape
      → KeepsLoans mid new → ((hs : List ℕ) (from : Purges) → now_purges ≡ purged_these hs from → new_purges ≡ purged_these (hs ++ h ∷ []) from)
      → StillEmptied start purges call new new_purges
  still-more h new new_purges outcome some free exact step shape loans noted = record {
    purged = still.purged ++ h ∷ [];
    goes = λ rest last turns. subst (λ hs. PurgesInTurn start.shape call start.heap hs last) (sym (append_assoc still.purged (h ∷ []) rest))
        (still.goes (h ∷ rest) last (next, subst (λ heap. PurgesInTurn start.shape call heap rest last) heap turns));
    exact = λ answers. ap (λ heap. exact_step start.shape answers heap call) heap ∙ subst (λ s. exact_step s answers (heap_after s (before_call s now.heap call).heap (OnBlock (EmptyHandle h) ∷ [])) call ≡ exact_step s answers now.heap call) still.shape (emptied_is_exact now.shape answers now.heap call h sound fixed some).1 ∙ still.exact answers;
    at_start = λ held. absurd (true≢false (sym held ∙ ap (λ (p : Purges). p.held) (sym still.noted) ∙ free));
    noted = noted still.purged purges still.noted;
    shape = shape ∙ ap (λ (z : ZoneState). z.shape) is ∙ still.shape;
    lent = step_keeps_lent mid.shape mid.heap (OnBlock (EmptyHandle h)) [] outcome new.heap step ∙ lent-ready now mid call sound fixed is ∙ still.lent;
    loans = loans-then start mid new (loans-then start now mid still.loans kept) loans;
  }
    where
      next : before.next ≡ Some h
      next = subst (λ s. (before_call s now.heap call).next ≡ Some h) still.shape some

      heap : new.heap ≡ heap_after start.shape before.heap (OnBlock (EmptyHandle h) ∷ [])
      heap = subst (λ s. new.heap ≡ heap_after s (before_call s now.heap call).heap (OnBlock (EmptyHandle h) ∷ [])) still.shape (heap-next now mid call sound fixed is h some outcome new exact)

  -- there is none any more
  pub all-emptied : (before_call now.shape now.heap call).next ≡ None → IsEmptied start purges call mid now_purges
  all-emptied none = record {
    purged = still.purged;
    turns = subst (λ hs. PurgesInTurn start.shape call start.heap hs mid.heap) (append-nil still.purged)
        (still.goes [] mid.heap (subst (λ s. (before_call s now.heap call).next ≡ None) still.shape none, heap));
    exact = λ answers. ap (λ heap. exact_step start.shape answers heap call) heap ∙ subst (λ s. exact_step s answers (before_call s now.heap call).heap call ≡ exact_step s answers now.heap call) still.shape (ready_is_exact now.shape answers now.heap call sound) ∙ still.exact answers;
    none_held = λ held. (still.at_start held).0;
    noted = still.noted;
    shape = ap (λ (z : ZoneState). z.shape) is ∙ still.shape;
    lent = lent-ready now mid call sound fixed is ∙ still.lent;
    loans = loans-then start now mid still.loans kept;
  }
    where
      heap : mid.heap ≡ before.heap
      heap = ap (λ (z : ZoneState). z.heap) is ∙ ap (λ s. (before_call s now.heap call).heap) still.shape

  -- or it waits
  pub held-at : (h : ℕ) (new_purges : Purges) → (before_call now.shape now.heap call).next ≡ Some h → now_purges.held ≡ true → new_purges ≡ waits_for h now_purges → IsHeldAt start purges call mid new_purges
  held-at h new_purges some is_held waits =
      let held : IsTrue purges.held = ap (λ (p : Purges). p.held) (sym still.noted) ∙ is_held in
      let same = (still.at_start held).1 in
      record {
        held = held;
        handle = h;
        next = ap (λ (z : ZoneState). (before_call z.shape z.heap call).next) (sym same) ∙ some;
        zone = is ∙ ap (λ (z : ZoneState). ready z call) same;
        noted = waits ∙ ap (waits_for h) still.noted;
        lent = lent-ready now mid call sound fixed is ∙ still.lent;
        loans = loans-then start now mid still.loans kept;
      }
