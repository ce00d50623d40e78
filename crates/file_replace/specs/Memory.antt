-- A path in memory, as clauses see it.
use Rattle.std.specs.Prelude.{◌≡◌, [], ⊤, Option, Some, None, Result, IsErr}
use Rattle.fork_disk.specs.Calls.{next_call}
use Rattle.file_replace.specs.declared.calls.Noted.{Noted}
use Rattle.file_replace.specs.declared.host_place.There.TheVariants.{Nothing}
use Rattle.file_replace.specs.declared.mem_place.MemFile.{MemFile}
use Rattle.file_replace.specs.declared.mem_place.MemPlace.{MemPlace}
use Rattle.file_replace.specs.declared.place.PlainFile.{PlainFile}
use Rattle.file_replace.specs.declared.rights.Owner.{Owner}
use Rattle.file_replace.specs.Place.{Folder, History, Seen}
use Rattle.file_replace.specs.OnPlace.{happened}
use Rattle.file_replace.specs.Spot.{Spot}

-- a file in memory, if there is one
abbrev pub seen : Option MemFile → Option PlainFile
seen None = None
seen (Some file) = Some (record { bytes = file.bytes.items; owner = file.owner; mode = file.mode })

-- the file with another owner
abbrev pub with_owner : Owner → Option MemFile → Option MemFile
with_owner owner None = None
with_owner owner (Some file) = Some (record file { owner = owner })

-- the files of a place
abbrev pub folder : Option MemFile → Option MemFile → Folder
folder path beside = record { path = seen path; beside = seen beside }

-- the history with a call more, before which this was beside the path
abbrev pub noted : Noted → Option MemFile → History → History
noted call beside past = happened call.call call.is_done (folder beside beside) past

-- a place in memory, which is honest
abbrev pub place_seen : MemPlace → Seen
place_seen place = record { calls = place.made.events; files = folder place.path place.beside; history = place.log.events; is_honest = ⊤ }

-- it is of no path of the host
abbrev pub spot_in : MemPlace → Spot
spot_in place = record { path = []; there = Nothing; folder = None; begun = [] }

-- the next call of a place is the one that is to fail
abbrev pub IsTurn : MemPlace → Type 0
IsTurn place = next_call place.calls ≡ place.turn

-- the call is counted, and fails if its turn has come
pub record CountsCall {T E : Type 0} (old new : MemPlace) (result : Result T E) : Type 0 where
  pub calls : new.calls ≡ next_call old.calls
  pub turn : IsTurn old → IsErr result
  pub same_turn : new.turn ≡ old.turn
