-- What several tests of a call's operands answer, one after another.
use Rattle.std.proofs.Common.{◌≡◌, ℕ, nat_le, List, [], ◌∷◌, ◌++◌, Option, Some, None, refl, ap, ◌∙◌}
use Rattle.std.specs.Option.{option_or}
use Rattle.mac_base.specs.declared.error.OsErr.{OsErr}
use Rattle.mac_base.specs.Heap.{Heap}
use Rattle.mac_base.specs.declared.error.OsErr.TheVariants.{MemPurErr, ParamErr}
use Rattle.mac_base.specs.HeadKind.{Shape, max_size}
use Rattle.mac_base.specs.Tests.{Test, IsBlock, IsHandle, IsPointer, NotEmpty, NotLent, NotLocked, IsSize, IsWithin, refused_by, first_refusal, refusal, unless_passed}
use Rattle.mac_base.specs.declared.memory_call.MemoryCall.TheVariants.{OnBlock, Requesting}
use Rattle.mac_base.specs.declared.memory_call.BlockCall.TheVariants.{BlockMove}
use Rattle.mac_base.specs.declared.memory_call.RequestingCall.TheVariants.{ReallocateHandle, SetHandleSize, SetPtrSize}

or_or : (a b c : Option OsErr) → option_or a (option_or b c) ≡ option_or (option_or a b) c
or_or None b c = refl
or_or (Some code) b c = refl

-- tests refuse a call by the first of them, or else by the others
pub refusal-append : (s : Shape) (heap : Heap) (tests more : List Test) → first_refusal s heap (tests ++ more) ≡ option_or (first_refusal s heap tests) (first_refusal s heap more)
refusal-append s heap [] more = refl
refusal-append s heap (test ∷ tests) more = ap (option_or (refused_by s heap test)) (refusal-append s heap tests more) ∙ or_or (refused_by s heap test) (first_refusal s heap tests) (first_refusal s heap more)

-- they pass where the first of them do, and the others
pub passed-both : (s : Shape) (heap : Heap) (tests more : List Test) → first_refusal s heap tests ≡ None → first_refusal s heap more ≡ None → first_refusal s heap (tests ++ more) ≡ None
passed-both s heap tests more first rest = refusal-append s heap tests more ∙ ap (λ o. option_or o (first_refusal s heap more)) first ∙ rest

-- they refuse where the first of them do
pub refused-first : (s : Shape) (heap : Heap) (tests more : List Test) (code : OsErr) → first_refusal s heap tests ≡ Some code → first_refusal s heap (tests ++ more) ≡ Some code
refused-first s heap tests more code first = refusal-append s heap tests more ∙ ap (λ o. option_or o (first_refusal s heap more)) first

-- and where these pass and the others refuse
pub refused-later : (s : Shape) (heap : Heap) (tests more : List Test) (code : OsErr) → first_refusal s heap tests ≡ None → first_refusal s heap more ≡ Some code → first_refusal s heap (tests ++ more) ≡ Some code
refused-later s heap tests more code first rest = refusal-append s heap tests more ∙ ap (λ o. option_or o (first_refusal s heap more)) first ∙ rest

-- SetHandleSize isn't refused
pub passed-set_handle_size : (s : Shape) (heap : Heap) (h n : ℕ) → first_refusal s heap (IsHandle h ∷ NotEmpty h ∷ []) ≡ None → first_refusal s heap (NotLent h ∷ IsSize n ∷ []) ≡ None → refusal s heap (Requesting (SetHandleSize h n)) ≡ None
passed-set_handle_size s heap h n full fits = passed-both s heap (IsHandle h ∷ NotEmpty h ∷ []) (NotLent h ∷ IsSize n ∷ []) full fits

-- SetPtrSize isn't refused
pub passed-set_ptr_size : (s : Shape) (heap : Heap) (p n : ℕ) → first_refusal s heap (IsPointer p ∷ []) ≡ None → first_refusal s heap (NotLent p ∷ IsSize n ∷ []) ≡ None → refusal s heap (Requesting (SetPtrSize p n)) ≡ None
passed-set_ptr_size s heap p n live fits = passed-both s heap (IsPointer p ∷ []) (NotLent p ∷ IsSize n ∷ []) live fits

-- ReallocateHandle isn't refused
pub passed-reallocate_handle : (s : Shape) (heap : Heap) (h n : ℕ) → first_refusal s heap (IsHandle h ∷ NotLent h ∷ []) ≡ None → first_refusal s heap (NotLocked MemPurErr h ∷ []) ≡ None → unless_passed ParamErr (nat_le n max_size) ≡ None
    → refusal s heap (Requesting (ReallocateHandle h n)) ≡ None
passed-reallocate_handle s heap h n live unlocked fits =
    passed-both s heap (IsHandle h ∷ NotLent h ∷ []) (NotLocked MemPurErr h ∷ IsSize n ∷ []) live (passed-both s heap (NotLocked MemPurErr h ∷ []) (IsSize n ∷ []) unlocked (ap (λ o. option_or o None) fits))

-- BlockMove isn't refused
pub passed-block_move : (s : Shape) (heap : Heap) (x at y to n : ℕ) → first_refusal s heap (IsBlock x ∷ NotEmpty x ∷ NotLent x ∷ []) ≡ None → first_refusal s heap (IsBlock y ∷ NotEmpty y ∷ NotLent y ∷ []) ≡ None
    → first_refusal s heap (IsWithin x at n ∷ []) ≡ None → first_refusal s heap (IsWithin y to n ∷ []) ≡ None → refusal s heap (OnBlock (BlockMove x at y to n)) ≡ None
passed-block_move s heap x at y to n from into inside within =
    passed-both s heap (IsBlock x ∷ NotEmpty x ∷ NotLent x ∷ []) (IsBlock y ∷ NotEmpty y ∷ NotLent y ∷ IsWithin x at n ∷ IsWithin y to n ∷ []) from
    (passed-both s heap (IsBlock y ∷ NotEmpty y ∷ NotLent y ∷ []) (IsWithin x at n ∷ IsWithin y to n ∷ []) into (passed-both s heap (IsWithin x at n ∷ []) (IsWithin y to n ∷ []) inside within))
