-- What C gets from a call of the Resource Manager.
use Rattle.std.specs.Int.{from_be_bytes, w32}
use Rattle.std.specs.Prelude.{◌≡◌, ◌⊎◌, ◌==◌, ◌++◌, ℕ, ℤ, pos, nat_lt, if◌then◌else◌, List, [], ◌∷◌, drop, length, Option, Some, None, Result, Ok, Err, MatchBool, option_map, unwrap_or}
use Rattle.held_files.specs.Forks.{ForksState, fork_of_number, free_number, HasFork, HasNoForks, without_handles}
use Rattle.held_files.specs.Elsewhere.{IsFirstLoaded, elsewhere, needing, sought_elsewhere}
use Rattle.held_files.specs.Making.{MakesResource, SeeksOnForks}
use Rattle.held_files.specs.declared.elsewhere.OverZone.{OverZone}
use Rattle.held_files.specs.declared.elsewhere.OverZone.TheVariants.{Other, This}
use Rattle.fork_bytes.specs.Over.{IsOver}
use Rattle.held_zone.specs.State.{State, with_no_asks}
use Rattle.held_zone.specs.declared.host_err.HostErr.TheVariants.{BadNumber, InUse, NoneSuch, NotThere, OtherZone, TooBig}
use Rattle.held_zone.specs.declared.host_err.HostErr.{HostErr}
use Rattle.held_zone.specs.HostCodes.{Shows, host_code, such}
use Rattle.held_zone.specs.Told.{Makes, code_told, number_told}
use Rattle.mac_base.specs.Codes.{minus}
use Rattle.mac_base.specs.Outcomes.{Outcome}
use Rattle.mac_base.specs.Released.{disposed_in, disposed_of}
use Rattle.mac_base.specs.declared.reply.ResourceInfo.{ResourceInfo}
use Rattle.mac_base.specs.declared.reply.Results.TheVariants.{Info, Kind}
use Rattle.held_files.specs.declared.told.MrInfo.{MrInfo}
use Rattle.mac_base.specs.declared.memory_call.MemoryCall.TheVariants.{OnBlock}
use Rattle.mac_base.specs.declared.memory_call.BlockCall.TheVariants.{DisposeHandle}
use Rattle.mac_base.specs.declared.resource_call.ResourceCall.TheVariants.{GetResInfo, OpenResFile}
use Rattle.res_update.specs.Device.{Disk}
use Rattle.res_update.specs.declared.seeking_call.SeekingCall.{SeekingCall}
use Rattle.mac_base.specs.declared.resource_call.ResourceCall.{ResourceCall}

-- the code of a call: that it has to be made over another zone is a code of the host's
abbrev pub over_code : OverZone Outcome → ℤ
over_code Other = host_code OtherZone
over_code (This outcome) = code_told outcome

-- the number of a call, where another one was, which stays where it gives none
abbrev pub over_number : ℕ → OverZone Outcome → ℕ
over_number before Other = before
over_number before (This outcome) = number_told before outcome

-- A call that has to be made over another zone changes nothing but what is known of that; any other is made.
abbrev pub MakesOver : Option ℕ → State → ForksState → (Outcome → State → ForksState → Type 0) → OverZone Outcome → State → ForksState → Type 0
MakesOver (Some at) old old_files Makes Other new new_files = (new ≡ with_no_asks old) × (new_files ≡ needing at old_files)
MakesOver None old old_files Makes (This (Some outcome)) new new_files = Makes outcome new new_files
MakesOver _ old old_files Makes _ new new_files = ⊥

-- The call is made over its zone, where there are a zone and files; else there is no outcome, and both stay.
abbrev pub ResourceCalled : Option State → Option ForksState → ResourceCall → OverZone Outcome → Option State → Option ForksState → Type 0
ResourceCalled (Some old) (Some old_files) call end (Some new) (Some new_files) =
    MakesOver (elsewhere old.zone.shape old_files call) old old_files (MakesResource old old_files call) end new new_files
ResourceCalled (Some old) None call (This None) new new_files = (new ≡ Some old) × (new_files ≡ None)
ResourceCalled None old_files call (This None) new new_files = (new ≡ None) × (new_files ≡ old_files)
ResourceCalled _ _ call _ _ _ = ⊥

-- The call is made, and C gets this code.
abbrev pub ResourceTold : Option State → Option ForksState → ResourceCall → ℤ → Option State → Option ForksState → Type 0
ResourceTold old old_files call code new new_files = (end : OverZone Outcome) × (code ≡ over_code end) × ResourceCalled old old_files call end new new_files

-- The call is made, and C gets this code and this number, where another one was.
abbrev pub ResourceToldNumber : Option State → Option ForksState → ResourceCall → ℤ → ℕ → ℕ → Option State → Option ForksState → Type 0
ResourceToldNumber old old_files call code before number new new_files =
    (end : OverZone Outcome) × (code ≡ over_code end) × (number ≡ over_number before end) × ResourceCalled old old_files call end new new_files

-- A call that seeks a resource otherwise than by its id is made over its zone, where there are a zone and files; else
-- there is no outcome, and both stay.
abbrev pub ResourceSought : Option State → Option ForksState → SeekingCall → OverZone Outcome → Option State → Option ForksState → Type 0
ResourceSought (Some old) (Some old_files) call end (Some new) (Some new_files) =
    MakesOver (sought_elsewhere old.zone.shape old_files call) old old_files (SeeksOnForks old old_files call) end new new_files
ResourceSought (Some old) None call (This None) new new_files = (new ≡ Some old) × (new_files ≡ None)
ResourceSought None old_files call (This None) new new_files = (new ≡ None) × (new_files ≡ old_files)
ResourceSought _ _ call _ _ _ = ⊥

-- It is made, and C gets this code and this handle, where another number was.
abbrev pub SoughtTold : Option State → Option ForksState → SeekingCall → ℤ → ℕ → ℕ → Option State → Option ForksState → Type 0
SoughtTold old old_files call code before handle new new_files =
    (end : OverZone Outcome) × (code ≡ over_code end) × (handle ≡ over_number before end) × ResourceSought old old_files call end new new_files

-- the resource type that an outcome gives, as a number, written over the one that was there, which stays where it
-- gives none
abbrev pub kind_told : ℕ → Option Outcome → ℕ
kind_told before (Some (Ok (Kind kind))) = from_be_bytes w32 kind
kind_told before _ = before

-- the same of a call
abbrev pub over_kind : ℕ → OverZone Outcome → ℕ
over_kind before Other = before
over_kind before (This outcome) = kind_told before outcome

-- The call is made, and C gets this code and this resource type, where another one was.
abbrev pub ResourceToldKind : Option State → Option ForksState → ResourceCall → ℤ → ℕ → ℕ → Option State → Option ForksState → Type 0
ResourceToldKind old old_files call code before kind new new_files =
    (end : OverZone Outcome) × (code ≡ over_code end) × (kind ≡ over_kind before end) × ResourceCalled old old_files call end new new_files

-- what a resource is called, as C is shown it
abbrev pub shown_info : ResourceInfo → MrInfo
shown_info i = record { kind = from_be_bytes w32 i.kind; id = i.id; name_length = length (unwrap_or i.name []) }

-- what an outcome says that a resource is called, with its name over the first bytes of a place; else both stay
abbrev pub info_told : MrInfo × List ℕ → Option Outcome → MrInfo × List ℕ
info_told before (Some (Ok (Info i))) = (shown_info i, unwrap_or i.name [] ++ drop (length (unwrap_or i.name [])) before.1)
info_told before _ = before

-- the same of a call
abbrev pub over_info : MrInfo × List ℕ → OverZone Outcome → MrInfo × List ℕ
over_info before Other = before
over_info before (This outcome) = info_told before outcome

-- The call is made, and C gets this code and what the resource is called, where it has room for 255 bytes of a name;
-- else no call is made.
abbrev pub InfoTold : Option State → Option ForksState → ℕ → ℤ → MrInfo × List ℕ → MrInfo × List ℕ → Option State → Option ForksState → Type 0
InfoTold old old_files h code before info new new_files = MatchBool (nat_lt (length before.1) 255)
    ((code ≡ host_code BadNumber) × (info ≡ before) × (new ≡ old) × (new_files ≡ old_files))
    ((end : OverZone Outcome) × (code ≡ over_code end) × (info ≡ over_info before end) × ResourceCalled old old_files (GetResInfo h) end new new_files)

-- The file of a number, of which none is open, gets this fork and is opened, and C gets its number. The host has no
-- memory for a copy of the fork, and the answer is memFullErr: that changes nothing.
abbrev pub GivesFork : ℕ → State → ForksState → Disk → ℤ → ℕ → ℕ → State → ForksState → Type 0
GivesFork k old old_files fork code before number new new_files =
    ((code ≡ minus 108) × (number ≡ before) × (new ≡ old) × (new_files ≡ old_files))
    ⊎ ((outcome : Outcome) × (code ≡ code_told (Some outcome)) × (number ≡ number_told before (Some outcome))
    × ((given : ForksState) × HasFork k fork old_files given × MakesResource old given (OpenResFile k) outcome new new_files))

-- The file of the first number of which none is open gets this fork and is opened. There is no such number, and the
-- answer is tmfoErr; or the host has no memory, and it is memFullErr; or exactly where the fork has more bytes or
-- resources than macheap reads, the code says so: these change nothing.
abbrev pub OpensFork : Option ℕ → State → ForksState → Disk → ℤ → ℕ → ℕ → State → ForksState → Type 0
OpensFork None old old_files fork code before number new new_files = (code ≡ minus 42) × (number ≡ before) × (new ≡ old) × (new_files ≡ old_files)
OpensFork (Some k) old old_files fork code before number new new_files =
    ((code ≡ minus 108) × (number ≡ before) × (new ≡ old) × (new_files ≡ old_files))
    ⊎ (IsOver fork × (code ≡ host_code TooBig) × (number ≡ before) × (new ≡ old) × (new_files ≡ old_files))
    ⊎ ((¬ IsOver fork) × GivesFork k old old_files fork code before number new new_files)

-- C opens a file on a copy of a fork.
abbrev pub OpenTold : Option State → Option ForksState → Disk → ℤ → ℕ → ℕ → Option State → Option ForksState → Type 0
OpenTold (Some old) (Some old_files) fork code before number (Some new) (Some new_files) =
    OpensFork (free_number old_files.files) old old_files fork code before number new new_files
OpenTold (Some old) None fork code before number new new_files = (code ≡ host_code NotThere) × (number ≡ before) × (new ≡ Some old) × (new_files ≡ None)
OpenTold None old_files fork code before number new new_files = (code ≡ host_code NotThere) × (number ≡ before) × (new ≡ None) × (new_files ≡ old_files)
OpenTold _ _ fork code before number _ _ = ⊥

-- Rows forget the handles of which answers to the zone's last call disposed.
abbrev pub ForgetTold : Option State → Option ForksState → ℤ → Option State → Option ForksState → Type 0
ForgetTold (Some old) (Some old_files) code new new_files =
    (code ≡ pos 0) × (new ≡ Some old) × (new_files ≡ Some (without_handles (disposed_in old.asks) old_files))
ForgetTold (Some old) None code new new_files = (code ≡ host_code NotThere) × (new ≡ Some old) × (new_files ≡ None)
ForgetTold None old_files code new new_files = (code ≡ host_code NotThere) × (new ≡ None) × (new_files ≡ old_files)

-- A handle is disposed of, and rows forget it, as well as those of which answers disposed.
abbrev pub Disposes : State → ForksState → ℕ → Outcome → State → ForksState → Type 0
Disposes old old_files h outcome new new_files =
    Makes old (OnBlock (DisposeHandle h)) outcome new × (new_files ≡ without_handles (disposed_of (OnBlock (DisposeHandle h)) new.asks outcome) old_files)

-- C disposes of a handle.
abbrev pub DisposeTold : Option State → Option ForksState → ℕ → ℤ → Option State → Option ForksState → Type 0
DisposeTold (Some old) (Some old_files) h code (Some new) (Some new_files) =
    (outcome : Outcome) × (code ≡ code_told (Some outcome)) × Disposes old old_files h outcome new new_files
DisposeTold (Some old) None h code new new_files = (code ≡ host_code NotThere) × (new ≡ Some old) × (new_files ≡ None)
DisposeTold None old_files h code new new_files = (code ≡ host_code NotThere) × (new ≡ None) × (new_files ≡ old_files)
DisposeTold _ _ h code _ _ = ⊥

-- the name that C gives: none where it has no bytes
abbrev pub name_given : List ℕ → Option (List ℕ)
name_given [] = None
name_given (x ∷ xs) = Some (x ∷ xs)

-- how many bytes the fork of a number has
abbrev pub fork_size : ℕ → ForksState → Result ℕ HostErr
fork_size k files = such (option_map length (fork_of_number k files))

-- a fork, where there is one, and it has so many bytes
abbrev pub sized : ℕ → Option Disk → Result Disk HostErr
sized count None = Err NoneSuch
sized count (Some fork) = if length fork == count then Ok fork else Err BadNumber

-- the fork of a number, if it has so many bytes
abbrev pub fork_sized : ℕ → ℕ → ForksState → Result Disk HostErr
fork_sized k count files = sized count (fork_of_number k files)

-- C is shown the first handle that a resource has in a zone. All stay.
abbrev pub FirstLoadedTold : Option State → Option ForksState → ℤ → ℕ → ℕ → Option State → Option ForksState → Type 0
FirstLoadedTold (Some old) (Some old_files) code before handle new new_files =
    (found : Option ℕ) × IsFirstLoaded old.zone.shape old_files.files found × Shows (such found) code before handle × (new ≡ Some old) × (new_files ≡ Some old_files)
FirstLoadedTold (Some old) None code before handle new new_files = (code ≡ host_code NotThere) × (handle ≡ before) × (new ≡ Some old) × (new_files ≡ None)
FirstLoadedTold None old_files code before handle new new_files = (code ≡ host_code NotThere) × (handle ≡ before) × (new ≡ None) × (new_files ≡ old_files)

-- C is shown something of files, which stay.
abbrev pub ForkTold : {A : Type 0} → (ForksState → Result A HostErr) → Option ForksState → ℤ → A → A → Option ForksState → Type 0
ForkTold of None code before shown new = (code ≡ host_code NotThere) × (shown ≡ before) × (new ≡ None)
ForkTold of (Some old) code before shown new = Shows (of old) code before shown × (new ≡ Some old)

-- Files begin, unless the host has no memory for them (memFullErr). Where there are files, they stay.
abbrev pub BeginTold : Option ForksState → ℤ → Option ForksState → Type 0
BeginTold None code None = code ≡ minus 108
BeginTold None code (Some new) = (code ≡ pos 0) × HasNoForks new
BeginTold (Some old) code new = (code ≡ host_code InUse) × (new ≡ Some old)

-- Files end, where there are some.
abbrev pub EndTold : Option ForksState → ℤ → Option ForksState → Type 0
EndTold None code new = (code ≡ host_code NotThere) × (new ≡ None)
EndTold (Some old) code new = (code ≡ pos 0) × (new ≡ None)
