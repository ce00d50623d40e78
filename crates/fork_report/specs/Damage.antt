-- What is reported of a damaged fork.
use Rattle.std.specs.Prelude.{◌≡◌, ◌≢◌, ℕ, ◌==◌, ◌||◌, Bool, true, false, nat_le, nat_lt, if◌then◌else◌, List, [], length, Option, None, Some}
use Rattle.std.specs.List.{list_any}
use Rattle.fork_bytes.specs.declared.fault.Condition.TheVariants.{Parts}
use Rattle.fork_bytes.specs.declared.fault.ForkFault.{ForkFault}
use Rattle.fork_bytes.specs.declared.fault.ForkFault.TheVariants.{EndOfFile, BadMap}
use Rattle.fork_bytes.specs.Fork.{IsForkWithin, RefusesWithin, format_limits}
use Rattle.fork_salvage.specs.declared.salvage.Item.{Item}
use Rattle.fork_salvage.specs.declared.salvage.Item.TheVariants as item
use Rattle.fork_salvage.specs.Fault.{IsFault, refusal_of}
use Rattle.fork_salvage.specs.Salvage.{items}
use Rattle.fork_answer.specs.Salvaged.{readable}
use Rattle.mac_files.specs.Kinds.{kind_of}
use Rattle.fork_answer.specs.Source.{IsForkIn}
use Rattle.fork_report.specs.declared.damage.TheConstants.{MOST_FOUND}
use Rattle.fork_report.specs.declared.damage.Damage.{Damage}
use Rattle.fork_report.specs.declared.damage.Tally.{Tally}

-- bytes of a fork in which no type is found
abbrev pub is_run : Item → Bool
is_run (item.Run span) = true
is_run other = false

-- more resources than the map has room for
abbrev pub is_more : Item → Bool
is_more item.More = true
is_more other = false

-- so many resources can be read of so many, or of so many at least; None where there are none, or too many, or only
-- runs of bytes
abbrev pub tally_with : ℕ → ℕ → Bool → Bool → Option Tally
tally_with readable found has_runs more =
    if found == 0 || nat_le MOST_FOUND found || has_runs then None else Some (record { readable = readable; found = found; more = more })

-- how many resources of a fork can be read, of how many that are found
abbrev pub tally_of : List ℕ → Option Tally
tally_of fork = tally_with (length (readable fork)) (length (items fork)) (list_any is_run (items fork)) (list_any is_more (items fork))

-- some resource can be read
abbrev pub is_readable : Option Tally → Bool
is_readable None = false
is_readable (Some tally) = nat_lt 0 tally.readable

-- the fork has a header, and its parts lie within it
abbrev pub has_parts : ForkFault → Bool
has_parts EndOfFile = false
has_parts (BadMap Parts) = false
has_parts other = true

-- the bytes are those of a fork in spite of its damage
abbrev pub is_of_fork : Damage → Bool
is_of_fork damage = has_parts (refusal_of damage.fault) || is_readable damage.tally

-- The damage is that of the fork in a file: a fault of it that is the first, what the file is known as, and how much of
-- it can be read.
pub record IsDamageOf (file fork : List ℕ) (damage : Damage) : Type 0 where
  pub found : IsForkIn file fork
  pub is : IsFault fork damage.fault
  pub refuses : RefusesWithin format_limits fork (refusal_of damage.fault)
  pub kind : damage.kind ≡ kind_of file
  pub tally : damage.tally ≡ tally_of fork

-- a fork is damaged that stands for no table; one without bytes is that of a file without resources
abbrev pub IsDamaged : List ℕ → Type 0
IsDamaged fork = (fork ≢ []) × (¬ IsForkWithin format_limits fork)
