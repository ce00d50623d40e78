-- The flags last set of each handle, known from the acts alone.
use Rattle.std.specs.Prelude.{◌≡◌, ℕ, ◌==◌, if◌then◌else◌, true, false, IsTrue, List, [], ◌∷◌, Ok, Err, ⊤}
use Rattle.mac_base.specs.declared.block.Flags.{Flags}
use Rattle.mac_base.specs.FlagState.{flags_from, state_of}
use Rattle.mac_base.specs.HandleTable.{HandleTable, flags_of, is_full, no_flags}
use Rattle.mac_base.specs.declared.memory_call.MemoryCall.{MemoryCall}
use Rattle.mac_base.specs.declared.memory_call.MemoryCall.TheVariants.{Filling, OnBlock, Requesting}
use Rattle.mac_base.specs.declared.memory_call.BlockCall.TheVariants.{HLock, HLockHi, HUnlock, HPurge, HNoPurge, HSetRBit, HClrRBit, HSetState, HGetState}
use Rattle.mac_base.specs.declared.memory_call.FillingCall.TheVariants.{HandToHand, PtrToHand, NewHandleOf}
use Rattle.mac_base.specs.declared.memory_call.RequestingCall.TheVariants.{NewHandle, ReallocateHandle}
use Rattle.mac_base.specs.declared.reply.Results.{Results}
use Rattle.mac_base.specs.declared.reply.Results.TheVariants as results
use Rattle.mac_base.specs.Outcomes.{Outcome}
use Rattle.zone_laws.specs.LastPut.{number_in}
use Rattle.zone_laws.specs.Act.{Act, Calls, Done, Loads}

-- the flags last set of each number
abbrev pub LastSet : Type 0
LastSet = ℕ → Flags

-- the same, but that x has these
abbrev pub set : ℕ → Flags → LastSet → LastSet
set x flags last = λ (y : ℕ). if y == x then flags else last y

-- what a call sets that succeeds with these results: a new block has no flags
abbrev pub set_with : MemoryCall → Results → LastSet → LastSet
set_with (Requesting (NewHandle n)) r last = set (number_in r) no_flags last
set_with (Filling (HandToHand h)) r last = set (number_in r) no_flags last
set_with (Filling (PtrToHand p n)) r last = set (number_in r) no_flags last
set_with (Filling (NewHandleOf bytes)) r last = set (number_in r) no_flags last
set_with (Requesting (ReallocateHandle h n)) r last = set h no_flags last
set_with (OnBlock (HLock h)) r last = set h (record (last h) { lock = true }) last
set_with (OnBlock (HLockHi h)) r last = set h (record (last h) { lock = true }) last
set_with (OnBlock (HUnlock h)) r last = set h (record (last h) { lock = false }) last
set_with (OnBlock (HPurge h)) r last = set h (record (last h) { purge = true }) last
set_with (OnBlock (HNoPurge h)) r last = set h (record (last h) { purge = false }) last
set_with (OnBlock (HSetRBit h)) r last = set h (record (last h) { resource = true }) last
set_with (OnBlock (HClrRBit h)) r last = set h (record (last h) { resource = false }) last
set_with (OnBlock (HSetState h n)) r last = set h (flags_from n) last
set_with _ r last = last

-- what a call sets: nothing where it is refused
abbrev pub set_by : MemoryCall → Outcome → LastSet → LastSet
set_by call (Ok r) last = set_with call r last
set_by call (Err code) last = last

-- what an act sets: a load the flags of its row
abbrev pub set_by_act : Act → LastSet → LastSet
set_by_act (Calls call asks outcome) last = set_by call outcome last
set_by_act (Loads h flags bytes) last = set h flags last
set_by_act _ last = last

-- the flags last set once these acts were done
abbrev pub set_in : List Done → LastSet → LastSet
set_in [] last = last
set_in (done ∷ later) last = set_in later (set_by_act done.act last)

-- every handle that isn't empty has the flags last set
abbrev pub HasFlags : HandleTable → LastSet → Type 0
HasFlags t last = (h : ℕ) → IsTrue (is_full t h) → flags_of t h ≡ last h

-- HGetState gives the flags last set
abbrev pub TellsFlags : MemoryCall → Outcome → LastSet → Type 0
TellsFlags (OnBlock (HGetState h)) (Ok r) last = r ≡ results.Number (state_of (last h))
TellsFlags _ _ last = ⊤
