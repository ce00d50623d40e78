-- Over which zone a call has to be made, where resources are in several.
use Rattle.std.specs.Prelude.{◌≡◌, ◌≤◌, ◌<◌, ℕ, Bool, not, filter_map, find, Option, None, Some, if◌then◌else◌, option_and_then, option_map}
use Rattle.std.specs.Option.{option_or, option_map_or}
use Rattle.held_files.specs.Forks.{ForksState}
use Rattle.held_files.specs.declared.elsewhere.Side.{Side}
use Rattle.held_files.specs.declared.elsewhere.Side.TheVariants.{Inside, Outside}
use Rattle.held_files.specs.declared.elsewhere.Reach.{Reach}
use Rattle.held_files.specs.declared.elsewhere.Reach.TheVariants.{Changed, All}
use Rattle.mac_base.specs.HeadKind.{Shape}
use Rattle.mac_base.specs.declared.resource_call.ChangingCall.TheVariants.{ReleaseResource, DetachResource, RemoveResource}
use Rattle.mac_base.specs.declared.resource_call.GettingCall.{GettingCall}
use Rattle.mac_base.specs.declared.resource_call.GettingCall.TheVariants.{GetResource, Get1Resource, GetIndResource, LoadResource}
use Rattle.mac_base.specs.declared.resource_call.ResourceCall.{ResourceCall}
use Rattle.mac_base.specs.declared.resource_call.ResourceCall.TheVariants.{Getting, Changing, Writing}
use Rattle.mac_base.specs.declared.resource_call.WritingCall.TheVariants.{WriteResource, UpdateResFile, CloseResFile}
use Rattle.res_files.specs.Standing.{most_files}
use Rattle.res_table.specs.OpenFiles.{is_open, place_of_handle, place_of_resource, place_here, row_at}
use Rattle.res_table.specs.Rows.{changed_handle, index_of_ith}
use Rattle.res_table.specs.declared.chain.RowPlace.{RowPlace}
use Rattle.res_update.specs.Attributes.{has_bit}
use Rattle.res_update.specs.Changes.{FileRow, Files, current_rows, row_of_handle, rows_of}
use Rattle.res_update.specs.Files.{file_named}
use Rattle.res_update.specs.Sought.{place_sought}
use Rattle.res_update.specs.Tests.{is_id}
use Rattle.res_update.specs.declared.seeking_call.SeekingCall.{SeekingCall}
use Rattle.saved_files.specs.Addresses.{has_address}

-- resSysHeap: the resource is loaded into the system zone
abbrev pub res_sys_heap : ℕ
res_sys_heap = 64

-- an address that is none of a zone's
abbrev pub outside : Shape → ℕ → Option ℕ
outside shape at = if has_address shape at then None else Some at

-- an address in the zone where a row's bytes are or are to be: its handle; or the system zone's, if that is known, where
-- it has none and has resSysHeap
abbrev pub home : Option ℕ → FileRow → Option ℕ
home system r = option_or r.handle (if has_bit res_sys_heap r.resource.attributes then system else None)

-- the same of the row at a place, if it isn't in this zone
abbrev pub place_outside : Shape → ForksState → RowPlace → Option ℕ
place_outside shape on p = option_and_then (outside shape) (option_and_then (home on.zones.system) (row_at p on.files))

-- the handle, if a row has it and it isn't in this zone
abbrev pub handle_outside : Shape → ℕ → Files → Option ℕ
handle_outside shape h files = option_and_then (λ (r : FileRow). outside shape h) (row_of_handle h files)

-- whether a handle is on this side of a zone
abbrev pub is_on : Shape → Side → ℕ → Bool
is_on shape Inside h = has_address shape h
is_on shape Outside h = not (has_address shape h)

-- the handle of a row that an update or a close works on
abbrev pub handle_reached : Reach → FileRow → Option ℕ
handle_reached Changed r = changed_handle r
handle_reached All r = r.handle

-- a file's number, if it is open
abbrev pub if_open : Files → ℕ → Option ℕ
if_open files k = if is_open k files then Some k else None

-- the first handle on this side of a zone, of those rows of a file that are reached
abbrev pub first_on : Shape → Side → Reach → Files → ℕ → Option ℕ
first_on shape side reach files k = find (is_on shape side) (filter_map (handle_reached reach) (rows_of k files))

-- the first that is outside, in the file that is named, or else in the current one, if it is open
abbrev pub named_outside : Shape → Reach → Option ℕ → Files → Option ℕ
named_outside shape reach named files = option_and_then (first_on shape Outside reach files) (option_and_then (if_open files) (file_named named files))

-- where the row is that a call gets by an id that is one, an index, or its handle
abbrev pub place_got : GettingCall → Files → Option RowPlace
place_got (GetResource kind id) files = if is_id id then place_of_resource kind id files else None
place_got (Get1Resource kind id) files = if is_id id then place_here kind id files else None
place_got (GetIndResource kind i) files = option_and_then (λ k. option_map (λ at. record { file = k; index = at }) (index_of_ith kind i (current_rows files))) files.current
place_got (LoadResource h) files = place_of_handle h files

-- An address in the zone over which a call has to be made, where that isn't this zone: it gets a row that is or is to be
-- in another, gives up or writes one that is, updates a file with changed rows in others, or closes one with any.
abbrev pub elsewhere : Shape → ForksState → ResourceCall → Option ℕ
elsewhere shape on (Getting call) = option_and_then (place_outside shape on) (place_got call on.files)
elsewhere shape on (Changing (ReleaseResource h)) = handle_outside shape h on.files
elsewhere shape on (Changing (DetachResource h)) = handle_outside shape h on.files
elsewhere shape on (Changing (RemoveResource h)) = handle_outside shape h on.files
elsewhere shape on (Writing (WriteResource h)) = handle_outside shape h on.files
elsewhere shape on (Writing (UpdateResFile named)) = named_outside shape Changed named on.files
elsewhere shape on (Writing (CloseResFile named)) = named_outside shape All named on.files
elsewhere shape on call = None

-- the same of a call that seeks a resource otherwise than by its id
abbrev pub sought_elsewhere : Shape → ForksState → SeekingCall → Option ℕ
sought_elsewhere shape on call = option_and_then (place_outside shape on) (place_sought call on.files)

-- The first handle that a row has in this zone, in the order of the files' numbers and of their rows.
abbrev pub IsFirstLoaded : Shape → Files → Option ℕ → Type 0
IsFirstLoaded shape files (Some h) = (k : ℕ) × (first_on shape Inside All files k ≡ Some h) × ((j : ℕ) → 1 ≤ j → j < k → first_on shape Inside All files j ≡ None)
IsFirstLoaded shape files None = (j : ℕ) → 1 ≤ j → j ≤ most_files → first_on shape Inside All files j ≡ None

-- the files, which know an address in the system zone, or none
abbrev pub with_system : Option ℕ → ForksState → ForksState
with_system at on = record on { zones = record (on.zones) { system = at } }

-- the address that they know in the zone over which the last call has to be made that was given another
abbrev pub needed : ForksState → Option ℕ
needed on = on.zones.needed

-- the files, which know an address in the zone over which a call has to be made
abbrev pub needing : ℕ → ForksState → ForksState
needing at on = record on { zones = record (on.zones) { needed = Some at } }
