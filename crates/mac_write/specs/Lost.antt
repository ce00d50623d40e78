-- What of a file a container can't hold.
use Rattle.std.specs.Prelude.{◌≡◌, ℕ, ◌==◌, ◌||◌, Bool, true, false, not, if◌then◌else◌, List, length}
use Rattle.std.specs.List.{list_any}
use Rattle.mac_write.specs.declared.detail.Detail.{Detail}
use Rattle.mac_write.specs.declared.detail.Detail.TheVariants.{Comment, DataFork, Dates, Finder, Name}
use Rattle.mac_write.specs.declared.target.Target.{Target}
use Rattle.mac_write.specs.declared.target.Target.TheVariants.{Raw, AppleDouble, AppleSingle, MacBinary, BinHex}
use Rattle.mac_write.specs.Parts.{IsFile, Parts}
use Rattle.mac_write.specs.Written.{held}

-- the file has it
abbrev pub says_something : List ℕ → Bool
says_something bytes = list_any (λ byte. not (byte == 0)) bytes

abbrev pub has : Detail → Parts → Bool
has Name file = not (length file.name == 0)
has Finder file = says_something file.finder.kind || says_something file.finder.creator || not (file.finder.flags == 0)
has Dates file = not (file.created == 0) || not (file.modified == 0)
has Comment file = not (length file.comment == 0)
has DataFork file = not (length file.data_fork == 0)

-- the container holds it
abbrev pub holds : Target → Detail → Bool
holds Raw detail = false
holds AppleDouble DataFork = false
holds AppleDouble detail = true
holds AppleSingle detail = true
holds MacBinary detail = true
holds BinHex Dates = false
holds BinHex Comment = false
holds BinHex detail = true

abbrev pub is_lost : Detail → Target → Parts → Bool
is_lost detail target file = if holds target detail then false else has detail file

-- where nothing is lost, the container holds the file
abbrev pub NothingIsLost : Type 0
NothingIsLost = (target : Target) (file : Parts) → IsFile file → ((detail : Detail) → is_lost detail target file ≡ false) → held target file ≡ file
