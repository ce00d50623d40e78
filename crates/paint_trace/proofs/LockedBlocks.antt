-- A locked handle has its block.
use Rattle.std.proofs.Common.{◌≡◌, ℕ, true, cond, ◌||◌, List, [], Option, Some, None, Ok, refl, ap, subst, sym, ◌∙◌}
use Rattle.mac_base.specs.declared.block.Status.TheVariants.{NotLive, Empty, Full}
use Rattle.mac_base.specs.BlockStatus.{status_of}
use Rattle.mac_base.specs.HandleTable.{HandleTable, Live, EmptyHandle, FullHandle, Pointer, bytes_of, flags_of, is_locked, live_at, live_flags, live_full, live_handle, live_pointer, refilled, with_bytes}
use Rattle.mac_base.specs.HeadKind.{Shape}
use Rattle.mac_base.specs.Heap.{Heap}
use Rattle.mac_base.specs.declared.memory_call.MemoryCall.TheVariants.{OnBlock}
use Rattle.mac_base.specs.declared.memory_call.BlockCall.TheVariants.{HLock}
use Rattle.mac_base.specs.declared.reply.Results.TheVariants.{Nothing}
use Rattle.mac_base.specs.MemoryStep.{MemoryStep, StepUnless}
use Rattle.mac_base.specs.RequestRun.{RequestRun}
use Rattle.zone_laws.proofs.Tables.{live_at-with_live_same}
use Rattle.zone_laws.proofs.RunTables.{passed-ok}

-- an HLock that isn't refused locks
pub locked_by : (s : Shape) (old new : Heap) (h : ℕ) → MemoryStep s old (OnBlock (HLock h)) [] (Ok Nothing) new → is_locked new.table h ≡ true
locked_by s old new h step =
    let own = subst (λ o. StepUnless RequestRun o s old (OnBlock (HLock h)) [] (Ok Nothing) new) (passed-ok s old (OnBlock (HLock h)) [] Nothing new step) step in
    ap (λ (t : HandleTable). is_locked t h) own.1.0.table ∙ ap (λ o. (live_flags o).lock) (live_at-with_live_same h (FullHandle (record (flags_of old.table h) { lock = true }) (bytes_of old.table h)) old.table)

-- it is locked still where its bytes are others
pub still_locked : (t : HandleTable) (h x : ℕ) (bytes : List ℕ) → x ≡ h → is_locked t h ≡ true → is_locked (with_bytes x bytes t) h ≡ true
still_locked t h x bytes same locked = subst (λ (y : ℕ). is_locked (with_bytes y bytes t) h ≡ true) (sym same) (ap (λ o. (live_flags o).lock) (live_at-with_live_same h (refilled bytes (live_at t h)) t) ∙ by_live (live_at t h) locked)
  where
    by_live : (o : Option Live) → (live_flags o).lock ≡ true → (live_flags (Some (refilled bytes o))).lock ≡ true
    by_live None is = absurd (cc is)
    by_live (Some EmptyHandle) is = absurd (cc is)
    by_live (Some (FullHandle flags old)) is = is
    by_live (Some (Pointer old)) is = absurd (cc is)

-- what is locked has its block, where nothing is lent
pub locked_is_full : (t : HandleTable) (h x : ℕ) → x ≡ h → t.lent ≡ [] → is_locked t h ≡ true → status_of t x ≡ Full
locked_is_full t h x same none locked = subst (λ (y : ℕ). status_of t y ≡ Full) (sym same) (rw none (by_live (live_at t h) locked))
  where
    by_live : (o : Option Live) → (live_flags o).lock ≡ true → cond (live_handle o || live_pointer o) (cond (live_full o || live_pointer o) Full Empty) NotLive ≡ Full
    by_live None is = absurd (cc is)
    by_live (Some EmptyHandle) is = absurd (cc is)
    by_live (Some (FullHandle flags bytes)) is = refl
    by_live (Some (Pointer bytes)) is = absurd (cc is)
