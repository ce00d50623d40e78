-- What C learns of the bytes that were written while a zone was awake in them.
use Rattle.std.specs.Prelude.{◌≡◌, ◌≤◌, ℕ, zero, suc, ℤ, pos, List, length, take, slice_index, Option, Some, None, Result, Ok, Err}
use Rattle.raw_region.specs.declared.runs.Runs.{Runs}
use Rattle.raw_region.specs.Runs.{DifferIn}
use Rattle.raw_region.specs.State.{State as Region}
use Rattle.zone_records.specs.declared.structure.Written.{Written}
use Rattle.zone_records.specs.Written.{IsIn}
use Rattle.held_zone.specs.declared.host_err.HostErr.{HostErr}
use Rattle.held_zone.specs.declared.host_err.HostErr.TheVariants.{BadNumber}
use Rattle.held_zone.specs.HostCodes.{host_code}
use Rattle.held_zone.specs.State.{State}
use Rattle.macheap_c.specs.Guest.{IsPutToSleep, Refused}

-- the code of what may be refused
abbrev pub code_after : {A : Type 0} → Result A HostErr → ℤ
code_after (Ok found) = pos 0
code_after (Err refusal) = host_code refusal

-- the bytes that are there again differ only in these runs from those that the zone woke in
abbrev pub WroteIn : Option State → Option Region → Runs → Type 0
WroteIn (Some old) (Some region) runs = DifferIn runs old.zone.memory.region.1 region.bytes
WroteIn old memory runs = ⊥

-- bytes differ only in these ranges from others
pub record DifferOnlyIn (ranges : List Written) (before now : List ℕ) : Type 0 where
  pub long : length now ≡ length before
  pub same : (at : ℕ) → (IsIn ranges at → ⊥) → slice_index now at ≡ slice_index before at

-- Where a zone falls asleep C gets a count and ranges: the bytes, which are there again, differ only in so many of these,
-- the first ones, from those that the zone woke in. Else what C had stays.
abbrev pub Learns : Option State → Option State → Option Region → ℕ × List Written → ℕ × List Written → Type 0
Learns (Some old) None (Some region) before got = (got.0 ≤ length got.1) × DifferOnlyIn (take got.0 got.1) old.zone.memory.region.1 region.bytes
Learns old new memory before got = got ≡ before

-- A zone falls asleep where C has room for a range. Where it has none, all stays.
abbrev pub IsPutToSleepWith : ℕ → Option State → Option State → Option Region → ℤ → Option State → Option State → Option Region → Type 0
IsPutToSleepWith zero old_zone old_asleep old_memory code zone asleep memory = Refused BadNumber old_zone old_asleep old_memory code zone asleep memory
IsPutToSleepWith (suc n) old_zone old_asleep old_memory code zone asleep memory = IsPutToSleep old_zone old_asleep old_memory code zone asleep memory
