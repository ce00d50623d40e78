-- Worked examples of the Resource Manager, computed.
use Rattle.std.proofs.Common.{◌≡◌, refl, ℕ, ◌+◌, ◌*◌, pos, List, [], ◌∷◌, ◌++◌, length, Some, None, replicate, codes, eqb}
use Rattle.std.specs.Prelude.{filter, not, Ok, Err, Result, if◌then◌else◌, ◌==◌}
use Rattle.std.specs.Char.{digit_value}
use Rattle.mac_base.specs.declared.error.OsErr.{OsErr}
use Rattle.mac_base.specs.declared.error.OsErr.TheVariants.{MemFullErr, NilHandleErr, ResNotFound, ResFNotFound, AddResFailed, RmvResFailed, ResAttrErr, FnfErr}
use Rattle.mac_base.specs.declared.block.HeadKind.TheVariants.{Bits24}
use Rattle.mac_base.specs.HeadKind.{Shape}
use Rattle.mac_base.specs.declared.memory_call.MemoryCall.TheVariants.{OnBlock, Requesting, Showing}
use Rattle.mac_base.specs.declared.memory_call.BlockCall.TheVariants.{HPurge, DisposeHandle, EmptyHandle, GetHandleSize, Poke}
use Rattle.mac_base.specs.declared.memory_call.RequestingCall.TheVariants.{NewHandle}
use Rattle.mac_base.specs.declared.memory_call.ShowingCall.TheVariants.{Peek}
use Rattle.mac_base.specs.declared.reply.Results.TheVariants as given
use Rattle.fork_bytes.specs.Fork.{table_of}
use Rattle.res_update.specs.Changes.{FileTable, opened_table}
use Rattle.mac_base.specs.declared.resource_call.ResourceCall.TheVariants.{Getting, Looking, Changing, Writing, OpenResFile, AddResource, GetResInfo}
use Rattle.mac_base.specs.declared.resource_call.GettingCall.TheVariants.{GetResource, Get1Resource, GetIndResource, LoadResource}
use Rattle.mac_base.specs.declared.resource_call.LookingCall.TheVariants.{GetResAttrs, SizeResource, HomeResFile, CurResFile}
use Rattle.mac_base.specs.declared.resource_call.ChangingCall.TheVariants.{DetachResource, RemoveResource, ChangedResource, SetResAttrs, SetResLoad, UseResFile}
use Rattle.mac_base.specs.declared.resource_call.WritingCall.TheVariants.{UpdateResFile, CloseResFile}
use Rattle.mac_base.specs.declared.reply.Results.TheVariants.{Nothing, Handle, Number, Info, Kind}
use Rattle.res_update.specs.Device.{Disk, empty_table}
use Rattle.res_update.specs.Files.{ResState}
use Rattle.res_update.proofs.Running.{AnyCall, m, r, AnyOutcome, of_memory, of_resources, ran, unopened, resource_end}

-- the bytes of hexadecimal digits, two digits for each
abbrev pairs : List ℕ → List ℕ
pairs [] = []
pairs (odd ∷ []) = []
pairs (high ∷ low ∷ digits) = (16 * digit_value high + digit_value low) ∷ pairs digits

-- the same, where spaces may be between the digits
abbrev hex : List ℕ → List ℕ
hex digits = pairs (filter (λ digit. not (eqb digit 32)) digits)

-- a file without resources, or a fork
abbrev reading : Disk → Result (FileTable) OsErr
reading disk = if length disk == 0 then Ok empty_table else Ok (opened_table (table_of disk))

abbrev zone : Shape
zone = record { heads = Bits24; base = 0x0010_0000; limit = 4096 }

-- the state once file 1 is opened
abbrev start : List Disk → ResState
start disks = (resource_end reading (unopened zone 4096 disks) (OpenResFile 1)).state

-- how calls end on these disks
abbrev outcomes : List Disk → List AnyCall → List AnyOutcome
outcomes disks calls = (ran reading (start disks) calls).outcomes

-- the disks then
abbrev disks_after : List Disk → List AnyCall → List Disk
disks_after disks calls = (ran reading (start disks) calls).state.disks

abbrev h1 : ℕ
h1 = 0x0010_003C

abbrev h2 : ℕ
h2 = 0x0010_0040

abbrev TEXT : List ℕ
TEXT = codes "TEXT"

abbrev done : AnyOutcome
done = of_resources (Ok Nothing)

abbrev gone : AnyOutcome
gone = of_memory (Ok given.Nothing)

abbrev number : ℕ → AnyOutcome
number n = of_resources (Ok (Number n))

abbrev handle : ℕ → AnyOutcome
handle h = of_resources (Ok (Handle h))

abbrev refused : OsErr → AnyOutcome
refused code = of_resources (Err code)

abbrev bytes : List ℕ → AnyOutcome
bytes b = of_memory (Ok (given.Bytes b))

abbrev empty_fork : List ℕ
empty_fork =
    hex (codes "00000100 00000100 00000000 0000001E") ++ replicate 240 0
    ++ hex (codes "00000100 00000100 00000000 0000001E 00000000 0000 0000 001C 001E FFFF")

abbrev hi_map : List ℕ
hi_map = hex (codes "00000100 00000106 00000006 00000032 00000000 0000 0000 001C 0032 0000 54455854 0000 000A 0080 FFFF 00 000000 00000000")

abbrev hi_fork : List ℕ
hi_fork = hex (codes "00000100 00000106 00000006 00000032") ++ replicate 240 0 ++ hex (codes "00000002 4869") ++ hi_map

-- an empty disk is updated: the empty fork
update_empty : disks_after ([] ∷ []) (r (Writing (UpdateResFile None)) ∷ []) ≡ empty_fork ∷ []
update_empty = refl

-- a block becomes a resource and is written
update_one : disks_after ([] ∷ []) (m (Requesting (NewHandle 2)) ∷ m (OnBlock (Poke h1 0 (codes "Hi"))) ∷ r (AddResource h1 TEXT (pos 128) None) ∷ r (Writing (UpdateResFile None)) ∷ []) ≡ hi_fork ∷ []
update_one = refl

-- a load without room, and with it
load_refused : outcomes (hi_fork ∷ []) (r (Getting (GetResource TEXT (pos 128))) ∷ m (OnBlock (HPurge h1)) ∷ m (Requesting (NewHandle 3764)) ∷ m (OnBlock (GetHandleSize h1)) ∷ r (Getting (LoadResource h1)) ∷ m (OnBlock (DisposeHandle h2)) ∷ r (Getting (LoadResource h1)) ∷ m (Showing (Peek h1 0 2)) ∷ [])
    ≡ handle h1 ∷ gone ∷ of_memory (Ok (given.Handle h2)) ∷ of_memory (Err NilHandleErr) ∷ refused MemFullErr ∷ gone ∷ done ∷ bytes (codes "Hi") ∷ []
load_refused = refl

-- a row reloads with its bytes on the disk, and one that is changed is written as it is
edits_lost : outcomes (hi_fork ∷ []) (r (Getting (GetResource TEXT (pos 128))) ∷ m (OnBlock (Poke h1 0 (codes "No"))) ∷ m (OnBlock (EmptyHandle h1)) ∷ r (Getting (LoadResource h1)) ∷ m (Showing (Peek h1 0 2)) ∷ r (Changing (ChangedResource h1)) ∷ m (OnBlock (EmptyHandle h1)) ∷ r (Writing (UpdateResFile None)) ∷ r (Looking (SizeResource h1)) ∷ [])
    ≡ handle h1 ∷ gone ∷ gone ∷ done ∷ bytes (codes "Hi") ∷ done ∷ gone ∷ done ∷ number 0 ∷ []
edits_lost = refl

-- what is changed is not detached
detached : outcomes (hi_fork ∷ []) (r (Getting (GetResource TEXT (pos 128))) ∷ r (Changing (ChangedResource h1)) ∷ r (Changing (DetachResource h1)) ∷ r (Writing (UpdateResFile None)) ∷ r (Changing (DetachResource h1)) ∷ r (Getting (GetResource TEXT (pos 128))) ∷ m (Showing (Peek h2 0 2)) ∷ [])
    ≡ handle h1 ∷ done ∷ refused ResAttrErr ∷ done ∷ done ∷ handle h2 ∷ bytes (codes "Hi") ∷ []
detached = refl

-- what is protected is neither marked nor removed
protection : outcomes ([] ∷ []) (m (Requesting (NewHandle 1)) ∷ r (Getting (LoadResource h1)) ∷ r (AddResource h1 TEXT (pos 1) None) ∷ r (AddResource h1 TEXT (pos 2) None) ∷ r (Changing (SetResAttrs h1 8)) ∷ r (Looking (GetResAttrs h1)) ∷ r (Changing (ChangedResource h1))
    ∷ r (Changing (RemoveResource h1)) ∷ r (Changing (SetResAttrs h1 0)) ∷ r (Changing (RemoveResource h1)) ∷ r (Writing (CloseResFile None)) ∷ r (Getting (GetResource TEXT (pos 1))) ∷ [])
    ≡ of_memory (Ok (given.Handle h1)) ∷ refused ResNotFound ∷ done ∷ refused AddResFailed ∷ done ∷ number 10 ∷ refused ResAttrErr
    ∷ refused RmvResFailed ∷ done ∷ done ∷ done ∷ refused ResFNotFound ∷ []
protection = refl

-- nothing is loaded while SetResLoad is 0, but by LoadResource
not_loaded : outcomes (hi_fork ∷ []) (r (Changing (SetResLoad 0)) ∷ r (Getting (GetResource TEXT (pos 128))) ∷ m (OnBlock (GetHandleSize h1)) ∷ r (Getting (LoadResource h1)) ∷ m (OnBlock (GetHandleSize h1)) ∷ r (GetResInfo h1) ∷ r (Getting (GetIndResource TEXT 1)) ∷ r (Getting (GetIndResource TEXT 2)) ∷ [])
    ≡ done ∷ handle h1 ∷ of_memory (Err NilHandleErr) ∷ done ∷ of_memory (Ok (given.Number 2)) ∷ of_resources (Ok (Info (record { id = pos 128; kind = TEXT; name = None }))) ∷ handle h1 ∷ refused ResNotFound ∷ []
not_loaded = refl

-- a chain of two files
chain : outcomes (hi_fork ∷ [] ∷ []) (r (OpenResFile 2) ∷ r (Looking CurResFile) ∷ r (Getting (GetResource TEXT (pos 128))) ∷ r (Getting (Get1Resource TEXT (pos 128))) ∷ r (Looking (HomeResFile h1)) ∷ m (Requesting (NewHandle 1)) ∷ r (AddResource h2 TEXT (pos 128) None)
    ∷ r (Getting (Get1Resource TEXT (pos 128))) ∷ r (Getting (GetResource TEXT (pos 128))) ∷ r (Changing (UseResFile 1)) ∷ r (Getting (GetResource TEXT (pos 128))) ∷ r (Writing (UpdateResFile (Some 2))) ∷ r (Writing (CloseResFile (Some 2))) ∷ r (Looking CurResFile) ∷ r (OpenResFile 3) ∷ r (Changing (UseResFile 2)) ∷ [])
    ≡ number 2 ∷ number 2 ∷ handle h1 ∷ refused ResNotFound ∷ number 1 ∷ of_memory (Ok (given.Handle h2)) ∷ done
    ∷ handle h2 ∷ handle h2 ∷ done ∷ handle h1 ∷ done ∷ done ∷ number 1 ∷ refused FnfErr ∷ refused ResFNotFound ∷ []
chain = refl
