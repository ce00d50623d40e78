-- A handle or a pointer keeps its number until somebody disposes of it.
use Rattle.std.proofs.Common.{arith, ◌≡◌, ℕ, true, false, List, [], Some, None, Ok, Contains, ap, refl, subst, sym, inl, inr}
use Rattle.std.specs.Prelude.{◌⊎◌}
use Rattle.std.specs.Option.{option_to_list}
use Rattle.std.proofs.lemmas.Bool.{true≢false}
use Rattle.std.proofs.lemmas.List.Elements.{Contains-append_left, Contains-append_right}
use Rattle.mac_base.specs.declared.releasing.ReleasingCall.{ReleasingCall}
use Rattle.mac_base.specs.declared.releasing.ReleasingCall.TheVariants.{DisposesHandle, DisposesPtr, Empties}
use Rattle.mac_base.specs.HandleTable.{is_handle}
use Rattle.mac_base.specs.HeadKind.{Shape}
use Rattle.mac_base.specs.Heap.{Heap}
use Rattle.mac_base.specs.Releasing.{heap_released, operand_of}
use Rattle.mac_base.specs.declared.memory_call.MemoryCall.{MemoryCall}
use Rattle.mac_base.specs.declared.reply.Results.{Results}
use Rattle.mac_base.specs.GrowZone.{Ask, memory_call}
use Rattle.mac_base.specs.MemoryStep.{MemoryStep}
use Rattle.mac_base.specs.Outcomes.{Outcome}
use Rattle.mac_base.specs.Released.{disposed_by, disposed_in, disposed_itself, disposed_of}
use Rattle.mac_base.specs.Tests.{refusal}
use Rattle.zone_laws.proofs.SlotPlaces.{Contains-here}
use Rattle.zone_laws.proofs.Tables.{handle_no_pointer, live_at-with_live_same}
use Rattle.zone_laws.proofs.Refusals.{passed-IsPointer, test_1}
use Rattle.zone_laws.proofs.Losing.{MayEnd, Trait, step-keeps}

pub released-handle : (s : Shape) (call : ReleasingCall) (heap : Heap) → refusal s heap (memory_call call) ≡ None → is_handle heap.table (operand_of call) ≡ true
    → (is_handle (heap_released call heap).table (operand_of call) ≡ true) ⊎ (disposed_by (call, None) ≡ Some (operand_of call))
released-handle s (DisposesHandle h) heap passes here = grind (arith, handle_no_pointer, live_at-with_live_same, passed-IsPointer, test_1, true≢false)
released-handle s (DisposesPtr p) heap passes here = grind (arith, handle_no_pointer, live_at-with_live_same, passed-IsPointer, test_1, true≢false)
released-handle s (Empties h) heap passes here = grind (arith, handle_no_pointer, live_at-with_live_same, passed-IsPointer, test_1, true≢false)

pub itself-disposed : (call : ReleasingCall) (results : Results) → disposed_itself (memory_call call) (Ok results) ≡ disposed_by (call, None)
itself-disposed v0 results = grind arith

-- to be a handle
abbrev pub a_handle : Trait
a_handle = record { test = λ handle full pointer. handle; by = disposed_by; itself = disposed_itself; dead = refl; fills = λ h. refl; releases = released-handle; alike = itself-disposed }

-- a handle stays one, unless it is disposed of
pub step-alive : (s : Shape) (old : Heap) (call : MemoryCall) (asks : List Ask) (outcome : Outcome) (new : Heap) (h : ℕ) → MemoryStep s old call asks outcome new → is_handle old.table h ≡ true → is_handle new.table h ≡ false
    → Contains (disposed_of call asks outcome) h
step-alive s old call asks outcome new h step was gone = by_end (step-keeps a_handle s old call asks outcome new h step was gone)
  where
    by_end : MayEnd a_handle h s old call asks outcome → Contains (disposed_of call asks outcome) h
    by_end (inl itself) = Contains-append_right (disposed_in asks) (option_to_list (disposed_itself call outcome)) h (subst (λ xs. Contains xs h) (sym (ap option_to_list itself)) (Contains-here h []))
    by_end (inr (inl ended)) = Contains-append_left (disposed_in asks) (option_to_list (disposed_itself call outcome)) h ended
    by_end (inr (inr purged)) = absurd (cc purged.2)
