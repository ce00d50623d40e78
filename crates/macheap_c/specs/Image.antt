-- What C is shown of a zone's bytes.
use Rattle.std.specs.Prelude.{◌≡◌, ◌⊎◌, ◌<◌, ℕ, ℤ, ◌==◌, if◌then◌else◌, List, length, Option, Some, None, Result, Ok, Err}
use Rattle.linked_zone.specs.Image.{IsImage}
use Rattle.mac_base.specs.Codes.{minus}
use Rattle.held_zone.specs.Fields.{with_fields}
use Rattle.held_zone.specs.declared.host_err.HostErr.{HostErr}
use Rattle.held_zone.specs.declared.host_err.HostErr.TheVariants.{BadNumber, NotThere}
use Rattle.held_zone.specs.HostCodes.{Shows, host_code}
use Rattle.held_zone.specs.State.{State}

-- how many bytes there are
abbrev pub size_of : List ℕ → Result ℕ HostErr
size_of bytes = Ok (length bytes)

-- bytes, where C has room for just as many
abbrev pub sized : ℕ → List ℕ → Result (List ℕ) HostErr
sized count bytes = if length bytes == count then Ok bytes else Err BadNumber

-- Something of the bytes of a zone, with the guest's fields of its header, is shown where nothing of it is lent; else
-- the answer is memLockedErr.
abbrev pub ImageShown : {A : Type 0} → (List ℕ → Result A HostErr) → State → ℤ → A → A → Type 0
ImageShown of s code before shown =
    ((length s.zone.heap.table.lent ≡ 0) × ((image : List ℕ) × IsImage s.zone image × Shows (of (with_fields s.guest image)) code before shown))
    ⊎ ((0 < length s.zone.heap.table.lent) × (code ≡ minus 117) × (shown ≡ before))

-- C is shown something of the bytes of a zone, which stays.
abbrev pub ImageTold : {A : Type 0} → (List ℕ → Result A HostErr) → Option State → ℤ → A → A → Option State → Type 0
ImageTold of None code before shown new = (code ≡ host_code NotThere) × (shown ≡ before) × (new ≡ None)
ImageTold of (Some old) code before shown new = ImageShown of old code before shown × (new ≡ Some old)
