-- The blocks that a call and the answers to its asks release.
use Rattle.std.specs.Prelude.{ℕ, List, ◌++◌, filter_map, flat_map, Option, Some, None, Ok}
use Rattle.std.specs.Option.{option_to_list}
use Rattle.mac_base.specs.declared.error.OsErr.{OsErr}
use Rattle.mac_base.specs.declared.releasing.ReleasingCall.{ReleasingCall}
use Rattle.mac_base.specs.declared.releasing.ReleasingCall.TheVariants.{DisposesHandle}
use Rattle.mac_base.specs.Releasing.{operand_of}
use Rattle.mac_base.specs.declared.memory_call.MemoryCall.{MemoryCall}
use Rattle.mac_base.specs.declared.memory_call.MemoryCall.TheVariants.{OnBlock}
use Rattle.mac_base.specs.declared.memory_call.BlockCall.TheVariants.{DisposeHandle, DisposePtr, EmptyHandle}
use Rattle.mac_base.specs.GrowZone.{Ask}
use Rattle.mac_base.specs.Outcomes.{Outcome}

-- the block that a call releases itself, unless it is refused
abbrev pub released_itself : MemoryCall → Outcome → Option ℕ
released_itself (OnBlock (DisposeHandle h)) (Ok results) = Some h
released_itself (OnBlock (DisposePtr p)) (Ok results) = Some p
released_itself (OnBlock (EmptyHandle h)) (Ok results) = Some h
released_itself _ _ = None

-- the operand of a call of an answer, unless it was refused
abbrev pub released_by : ReleasingCall × Option OsErr → Option ℕ
released_by (call, None) = Some (operand_of call)
released_by (call, Some code) = None

-- the blocks that answers' calls released
abbrev pub released_in : List Ask → List ℕ
released_in asks = flat_map (λ (ask : Ask). filter_map released_by ask.carried) asks

-- the handle that a call disposes of itself, unless it is refused
abbrev pub disposed_itself : MemoryCall → Outcome → Option ℕ
disposed_itself (OnBlock (DisposeHandle h)) (Ok results) = Some h
disposed_itself call outcome = None

-- the handle that an answer's call disposed of, unless it was refused
abbrev pub disposed_by : ReleasingCall × Option OsErr → Option ℕ
disposed_by (DisposesHandle h, None) = Some h
disposed_by _ = None

-- the handles that answers' calls disposed of
abbrev pub disposed_in : List Ask → List ℕ
disposed_in asks = flat_map (λ (ask : Ask). filter_map disposed_by ask.carried) asks

-- all handles that a call disposes of: those of the answers to its asks, and then its own
abbrev pub disposed_of : MemoryCall → List Ask → Outcome → List ℕ
disposed_of call asks outcome = disposed_in asks ++ option_to_list (disposed_itself call outcome)
