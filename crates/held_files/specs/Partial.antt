-- ReadPartialResource over files whose forks are in memory.
use Rattle.std.specs.Prelude.{◌≡◌, ⊤, ℕ, List, Option, Some, None, length}
use Rattle.held_files.specs.Forks.{ForksState, SameForks}
use Rattle.held_files.specs.Elsewhere.{handle_outside, needing}
use Rattle.held_files.specs.Making.{FailsAt}
use Rattle.held_files.specs.declared.elsewhere.OverZone.{OverZone}
use Rattle.held_files.specs.declared.elsewhere.OverZone.TheVariants.{Other, This}
use Rattle.held_zone.specs.State.{State}
use Rattle.mac_base.specs.HandleTable.{is_full}
use Rattle.res_update.specs.declared.partial_end.PartialEnd.{PartialEnd}
use Rattle.res_update.specs.Partial.{ReadsPart, part_asked}

-- A call for as many bytes as there were before it, from an offset on of the resource with a handle, ends so and leaves
-- these: they are the fork's where it read them. The files and their forks stay.
abbrev pub ReadsOnForks : State → ForksState → ℕ → ℕ → List ℕ → List ℕ → PartialEnd → ForksState → Type 0
ReadsOnForks zone old h at before after end new = SameForks old new × (new.zones ≡ old.zones) × ReadsPart (λ k. ⊤) (new.failures ≡ old.failures) (λ k. FailsAt k old.failures new.failures)
    (is_full zone.zone.heap.table h) at before after old.files (part_asked h at (length before) old.files) end

-- Where the resource's handle isn't in the zone, nothing changes but what is known of that; else the call is made.
abbrev pub ReadsOver : Option ℕ → State → ForksState → ℕ → ℕ → List ℕ → List ℕ → OverZone PartialEnd → ForksState → Type 0
ReadsOver (Some other) zone old h at before after Other new = (after ≡ before) × (new ≡ needing other old)
ReadsOver None zone old h at before after (This (Some end)) new = ReadsOnForks zone old h at before after end new
ReadsOver _ zone old h at before after _ new = ⊥

-- The call is made over its zone, where there are a zone and files, and the zone stays; else there is no end, and all
-- stay.
abbrev pub PartCalled : Option State → Option ForksState → ℕ → ℕ → List ℕ → List ℕ → OverZone PartialEnd → Option State → Option ForksState → Type 0
PartCalled (Some zone) (Some old) h at before after end new (Some new_files) =
    (new ≡ Some zone) × ReadsOver (handle_outside zone.zone.shape h old.files) zone old h at before after end new_files
PartCalled (Some zone) None h at before after (This None) new new_files = (after ≡ before) × (new ≡ Some zone) × (new_files ≡ None)
PartCalled None old h at before after (This None) new new_files = (after ≡ before) × (new ≡ None) × (new_files ≡ old)
PartCalled _ _ h at before after _ new new_files = ⊥
