-- SetResourceSize and WritePartialResource over files whose forks are in memory.
use Rattle.std.specs.Prelude.{◌≡◌, ◌⊎◌, ⊤, ℕ, Option, Some, None, Result, Ok, Err, MatchBool}
use Rattle.fork_disk.specs.Fork.{IsPartly}
use Rattle.held_files.specs.Forks.{ForksState}
use Rattle.held_files.specs.Elsewhere.{handle_outside, needing}
use Rattle.held_files.specs.Making.{FailsAt, resource_state}
use Rattle.held_files.specs.declared.elsewhere.OverZone.{OverZone}
use Rattle.held_files.specs.declared.elsewhere.OverZone.TheVariants.{Other, This}
use Rattle.held_zone.specs.State.{State}
use Rattle.mac_base.specs.declared.error.OsErr.TheVariants.{MemFullErr}
use Rattle.res_update.specs.Device.{Device, device_works, read_truly}
use Rattle.res_update.specs.Patching.{PatchStepBy, handle_patched, patch_asked, patch_update}
use Rattle.res_update.specs.Steps.{IsSaved}
use Rattle.res_update.specs.declared.partial_end.PartialEnd.{PartialEnd}
use Rattle.res_update.specs.declared.partial_end.PartialEnd.TheVariants.{Refused}
use Rattle.res_update.specs.declared.patching_call.PatchingCall.{PatchingCall}
use Rattle.res_manager.specs.Patching.{OnWritten}
use Rattle.res_table.specs.declared.chain.RowPlace.{RowPlace}

-- Over a zone, which stays, and files, a call whose resource is at this place ends so and leaves these files, just as
-- the Resource Manager makes it. A device is memory, which fails only where the host has none for a longer fork. A file
-- that was written reads back as the table that was saved.
pub record PatchesFork (zone : State) (old : ForksState) (p : RowPlace) (call : PatchingCall) (end : PartialEnd) (new : ForksState) : Type 0 where
  pub device : Device
  pub step : PatchStepBy (read_truly IsPartly) p device call (resource_state zone old) end (resource_state zone new)
  pub cause : MatchBool (device_works device) (new.failures ≡ old.failures) (FailsAt p.file old.failures new.failures)
  pub reads_back : OnWritten end (IsSaved (λ k. ⊤) (patch_update call old.files p) (resource_state zone new))
  pub zones : new.zones ≡ old.zones

-- The same of a call by its place, or by how it ends before any work. Where the host has no memory for its work, the
-- answer is memFullErr. In both of these cases the files stay.
abbrev pub PatchesOnForks : State → ForksState → PatchingCall → Result RowPlace PartialEnd → PartialEnd → ForksState → Type 0
PatchesOnForks zone old call (Ok p) end new = PatchesFork zone old p call end new ⊎ ((end ≡ Refused MemFullErr) × (new ≡ old))
PatchesOnForks zone old call (Err refusal) end new = (end ≡ refusal) × (new ≡ old)

-- Where the resource's handle isn't in the zone, nothing changes but what is known of that; else the call is made.
abbrev pub PatchesOver : Option ℕ → State → ForksState → PatchingCall → OverZone PartialEnd → ForksState → Type 0
PatchesOver (Some other) zone old call Other new = new ≡ needing other old
PatchesOver None zone old call (This (Some end)) new = PatchesOnForks zone old call (patch_asked call old.files) end new
PatchesOver _ zone old call _ new = ⊥

-- The call is made over its zone, where there are a zone and files, and the zone stays; else there is no end, and all
-- stay.
abbrev pub PatchCalled : Option State → Option ForksState → PatchingCall → OverZone PartialEnd → Option State → Option ForksState → Type 0
PatchCalled (Some zone) (Some old) call end new (Some new_files) =
    (new ≡ Some zone) × PatchesOver (handle_outside zone.zone.shape (handle_patched call) old.files) zone old call end new_files
PatchCalled (Some zone) None call (This None) new new_files = (new ≡ Some zone) × (new_files ≡ None)
PatchCalled None old call (This None) new new_files = (new ≡ None) × (new_files ≡ old)
PatchCalled _ _ call _ new new_files = ⊥
