-- What a path leads to, whatever it is called.
use Rattle.std.specs.Prelude.{◌≡◌, ◌⊎◌, ℕ, List, ◌∷◌, None, Some, IsSomeAnd, string_bytes}
use Rattle.std.specs.Path.{path_file_name}
use Rattle.host_paths.specs.Asked.{Log, folder_name}
use Rattle.host_paths.specs.Following.{Follows}
use Rattle.host_paths.specs.declared.host.Answer.TheVariants.{Is, Nothing}
use Rattle.host_paths.specs.declared.host.Found.{Found}
use Rattle.host_paths.specs.declared.host.HostCall.TheVariants.{Over}
use Rattle.host_paths.specs.declared.identity.Identity.{Identity}

-- a path was followed over links, and this is the folder of the last one, which was asked for, with its name there
abbrev pub Names : List ℕ → Identity → Log → Log → Type 0
Names path it old new = (to : List ℕ) × (mid : Log) × (found : Found) × Follows path to old mid × (it.device ≡ found.device) × (it.number ≡ found.number)
    × IsSomeAnd it.name (λ name. path_file_name to ≡ Some (string_bytes name)) × (new ≡ Over (folder_name to) (Is found) ∷ mid)

-- A path was asked for. It leads to this; or to nothing, and this is the folder of where that would be, with its name.
abbrev pub Identifies : List ℕ → Identity → Log → Log → Type 0
Identifies path it old new = ((found : Found) × (it ≡ record { device = found.device; number = found.number; name = None }) × (new ≡ Over path (Is found) ∷ old))
    ⊎ Names path it (Over path Nothing ∷ old) new
