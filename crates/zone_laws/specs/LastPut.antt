-- The bytes last put at each handle and pointer, known from the acts alone: nothing here has a place, so nothing
-- moves.
use Rattle.std.specs.Prelude.{◌≡◌, ℕ, ◌==◌, if◌then◌else◌, List, [], ◌∷◌, ◌++◌, length, take, drop, Ok, Err, ⊤}
use Rattle.mac_base.specs.HandleTable.{resized, zeros}
use Rattle.mac_base.specs.ZoneState.{written}
use Rattle.mac_base.specs.declared.memory_call.MemoryCall.{MemoryCall}
use Rattle.mac_base.specs.declared.memory_call.MemoryCall.TheVariants.{Filling, OnBlock, Requesting, Showing}
use Rattle.mac_base.specs.declared.memory_call.BlockCall.TheVariants.{Poke, BlockMove, GetHandleSize, GetPtrSize}
use Rattle.mac_base.specs.declared.memory_call.FillingCall.TheVariants.{HandToHand, PtrToHand, PtrToXHand, PtrAndHand, NewHandleOf, SetHandleTo, Append, HandAndHand}
use Rattle.mac_base.specs.declared.memory_call.RequestingCall.TheVariants.{NewHandle, NewPtr, ReallocateHandle, SetHandleSize, SetPtrSize}
use Rattle.mac_base.specs.declared.memory_call.ShowingCall.TheVariants.{Peek}
use Rattle.mac_base.specs.declared.reply.Results.{Results}
use Rattle.mac_base.specs.declared.reply.Results.TheVariants as results
use Rattle.mac_base.specs.declared.loan_call.LoanCall.TheVariants as loan_call
use Rattle.mac_base.specs.Outcomes.{Outcome}
use Rattle.zone_laws.specs.Act.{Act, Calls, Done, Loads, OnLoan, Unloads}

-- the bytes last put at each number
abbrev pub LastPut : Type 0
LastPut = ℕ → List ℕ

-- the same, but that these are put at x
abbrev pub put : ℕ → List ℕ → LastPut → LastPut
put x bytes last = λ (y : ℕ). if y == x then bytes else last y

-- the handle or pointer that a call gives
abbrev pub number_in : Results → ℕ
number_in (results.Handle h) = h
number_in (results.Pointer p) = p
number_in _ = 0

-- what a call puts that succeeds with these results
abbrev pub put_with : MemoryCall → Results → LastPut → LastPut
put_with (Requesting (NewHandle n)) r last = put (number_in r) (zeros n) last
put_with (Requesting (NewPtr n)) r last = put (number_in r) (zeros n) last
put_with (Requesting (ReallocateHandle h n)) r last = put h (zeros n) last
put_with (Requesting (SetHandleSize h n)) r last = put h (resized n (last h)) last
put_with (Requesting (SetPtrSize p n)) r last = put p (resized n (last p)) last
put_with (Filling (HandToHand h)) r last = put (number_in r) (last h) last
put_with (Filling (PtrToHand p n)) r last = put (number_in r) (take n (last p)) last
put_with (Filling (PtrToXHand p h n)) r last = put h (take n (last p)) last
put_with (Filling (PtrAndHand p h n)) r last = put h (last h ++ take n (last p)) last
put_with (Filling (NewHandleOf bytes)) r last = put (number_in r) bytes last
put_with (Filling (SetHandleTo h bytes)) r last = put h bytes last
put_with (Filling (Append h bytes)) r last = put h (last h ++ bytes) last
put_with (Filling (HandAndHand a b)) r last = put b (last b ++ last a) last
put_with (OnBlock (Poke x at bytes)) r last = put x (written at bytes (last x)) last
put_with (OnBlock (BlockMove x at y to n)) r last = put y (written to (take n (drop at (last x))) (last y)) last
put_with _ r last = last

-- what a call puts: nothing where it is refused
abbrev pub put_by : MemoryCall → Outcome → LastPut → LastPut
put_by call (Ok r) last = put_with call r last
put_by call (Err code) last = last

-- what an act puts: the holder of a lent block writes into it
abbrev pub put_by_act : Act → LastPut → LastPut
put_by_act (Calls call asks outcome) last = put_by call outcome last
put_by_act (OnLoan (loan_call.LentPoke x at bytes) (Ok r)) last = put x (written at bytes (last x)) last
put_by_act (OnLoan call outcome) last = last
put_by_act (Loads h flags bytes) last = put h bytes last
put_by_act (Unloads call) last = last

-- the bytes last put once these acts were done
abbrev pub put_in : List Done → LastPut → LastPut
put_in [] last = last
put_in (done ∷ later) last = put_in later (put_by_act done.act last)

-- what the reply of a call shows of bytes, or says of their number, is true of those last put
abbrev pub Tells : MemoryCall → Outcome → LastPut → Type 0
Tells (Showing (Peek x at n)) (Ok r) last = r ≡ results.Bytes (take n (drop at (last x)))
Tells (OnBlock (GetHandleSize h)) (Ok r) last = r ≡ results.Number (length (last h))
Tells (OnBlock (GetPtrSize p)) (Ok r) last = r ≡ results.Number (length (last p))
Tells _ _ last = ⊤
