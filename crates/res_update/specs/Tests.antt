-- When the Resource Manager's calls are refused before anything is asked or changed.
use Rattle.std.specs.Prelude.{ℕ, ℤ, neg_ℤ, pos, int_le, Bool, false, not, ◌&&◌, ◌||◌, nat_le, List, [], ◌∷◌, length, Option, Some, None, is_some, is_none}
use Rattle.std.specs.List.{list_any}
use Rattle.std.specs.Option.{option_or, option_map_or}
use Rattle.mac_base.specs.declared.error.OsErr.{OsErr}
use Rattle.mac_base.specs.declared.error.OsErr.TheVariants.{ParamErr, MemLockedErr, ResNotFound, ResFNotFound, AddResFailed, RmvResFailed, ResAttrErr, DskFulErr, FnfErr}
use Rattle.mac_base.specs.HandleTable.{HandleTable, is_full, is_lent}
use Rattle.mac_base.specs.Tests.{unless_passed}
use Rattle.res_table.specs.declared.row.Row.{Row}
use Rattle.res_table.specs.Attributes.{res_changed}
use Rattle.res_table.specs.Saved.{bare}
use Rattle.res_update.specs.Attributes.{has_bit, res_protected}
use Rattle.res_update.specs.Fitting.{rows_fit}
use Rattle.res_table.specs.Rows.{is_changed, added, index_of_ith, ith}
use Rattle.res_table.specs.OpenFiles.{is_open, place_of_handle, place_of_resource, place_here}
use Rattle.res_update.specs.Changes.{Files, FileRow, rows_of, current_rows}
use Rattle.mac_base.specs.declared.resource_call.ResourceCall.{ResourceCall}
use Rattle.mac_base.specs.declared.resource_call.ResourceCall.TheVariants.{Getting, Looking, Changing, Writing, OpenResFile, AddResource, GetResInfo}
use Rattle.mac_base.specs.declared.resource_call.GettingCall.TheVariants.{GetResource, Get1Resource, GetIndResource, LoadResource}
use Rattle.mac_base.specs.declared.resource_call.LookingCall.TheVariants.{GetResAttrs, SizeResource, HomeResFile, UniqueID, CountTypes, CountResources, GetIndType, CurResFile}
use Rattle.mac_base.specs.declared.resource_call.ChangingCall.TheVariants.{ReleaseResource, DetachResource, RemoveResource, ChangedResource, SetResAttrs, SetResLoad, UseResFile}
use Rattle.mac_base.specs.declared.resource_call.WritingCall.TheVariants.{WriteResource, UpdateResFile, CloseResFile}
use Rattle.res_update.specs.Files.{ResState, current_types, file_named}
use Rattle.res_update.specs.Updates.{new_row, row_passes, file_update, row_update, can_be_made}

-- what a call's operands and the open files are tested for
pub data ResourceTest : Type 0 where
  -- some file is open;  the file that is named is open;  there is a file of this number, open or not
  HasFile : ResourceTest
  IsOpen : Option ℕ → ResourceTest
  IsFile : ℕ → ResourceTest
  -- n is a possible id;  n is a possible set of attributes
  IsId : ℤ → ResourceTest
  IsAttributes : ℕ → ResourceTest
  -- a resource has the type and the id, from the current file on, or in it alone
  IsFound IsFoundHere : List ℕ → ℤ → ResourceTest
  -- the current file has an i-th resource of the type, or an i-th type
  HasIth : List ℕ → ℕ → ResourceTest
  HasIthType : ℕ → ResourceTest
  -- some row has the handle, or else the call is refused by this code;  that row lacks an attribute, or else by this
  -- one
  HasRow : OsErr → ℕ → ResourceTest
  LacksBit : OsErr → ℕ → ℕ → ResourceTest
  -- the handle can become a resource of this type, id and name
  MayBeAdded : ℕ → List ℕ → ℤ → Option (List ℕ) → ResourceTest
  -- the row's handle isn't lent where it isn't changed;  nor where it is;  no changed row's of the file is;  no row's
  -- of it is
  UnlentUnchanged UnlentChanged : ℕ → ResourceTest
  ChangedUnlent AllUnlent : Option ℕ → ResourceTest
  -- a fork can hold what is to be written: of a row, of a file
  CanWriteRow : ℕ → ResourceTest
  CanWriteFile : Option ℕ → ResourceTest

-- whether an id is one
abbrev pub is_id : ℤ → Bool
is_id id = int_le (neg_ℤ (pos 32768)) id && int_le id (pos 32767)

-- whether AddResource may make the row
abbrev pub may_be_added : ResState → ℕ → FileRow → Bool
may_be_added state h r = is_full state.heap.table h
    && (is_none (place_of_handle h state.files)
    && (nat_le (option_map_or length r.resource.name 0) 255
    && rows_fit (bare (added r (current_rows state.files)))))

-- the rows of the file that is named, or else of the current one
abbrev pub rows_named : Option ℕ → Files → List FileRow
rows_named named files = option_map_or (λ k. rows_of k files) (file_named named files) []

-- whether the handle of a row is lent
abbrev pub is_lent_row : {D : Type 0} → HandleTable → Row D → Bool
is_lent_row t r = option_map_or (is_lent t) r.handle false

-- the code by which a failed test refuses the call
abbrev pub refused_for : ResState → ResourceTest → Option OsErr
refused_for state HasFile = unless_passed ResFNotFound (is_some state.files.current)
refused_for state (IsOpen named) = unless_passed ResFNotFound (option_map_or (λ k. is_open k state.files) (file_named named state.files) false)
refused_for state (IsFile k) = unless_passed FnfErr (nat_le 1 k && nat_le k (length state.disks))
refused_for state (IsId id) = unless_passed ParamErr (is_id id)
refused_for state (IsAttributes n) = unless_passed ParamErr (nat_le n 255)
refused_for state (IsFound kind id) = unless_passed ResNotFound (is_some (place_of_resource kind id state.files))
refused_for state (IsFoundHere kind id) = unless_passed ResNotFound (is_some (place_here kind id state.files))
refused_for state (HasIth kind i) = unless_passed ResNotFound (is_some (index_of_ith kind i (current_rows state.files)))
refused_for state (HasIthType i) = unless_passed ResNotFound (is_some (ith i (current_types state.files)))
refused_for state (HasRow code h) = unless_passed code (is_some (place_of_handle h state.files))
refused_for state (LacksBit code bit h) = unless_passed code (row_passes (λ r. not (has_bit bit r.resource.attributes)) h state.files)
refused_for state (MayBeAdded h kind id name) = unless_passed AddResFailed (may_be_added state h (new_row h kind id name))
refused_for state (UnlentUnchanged h) = unless_passed MemLockedErr (row_passes is_changed h state.files || not (is_lent state.heap.table h))
refused_for state (UnlentChanged h) = unless_passed MemLockedErr (not (row_passes is_changed h state.files && is_lent state.heap.table h))
refused_for state (ChangedUnlent named) = unless_passed MemLockedErr (not (list_any (λ r. is_changed r && is_lent_row state.heap.table r) (rows_named named state.files)))
refused_for state (AllUnlent named) = unless_passed MemLockedErr (not (list_any (is_lent_row state.heap.table) (rows_named named state.files)))
refused_for state (CanWriteRow h) = unless_passed DskFulErr (can_be_made (row_update state h))
refused_for state (CanWriteFile named) = unless_passed DskFulErr (can_be_made (file_update state named))

-- the first refusal of a list of tests
abbrev pub first_refused_for : ResState → List ResourceTest → Option OsErr
first_refused_for state [] = None
first_refused_for state (test ∷ tests) = option_or (refused_for state test) (first_refused_for state tests)

-- the tests of each call, in their order
abbrev pub resource_tests : ResourceCall → List ResourceTest
resource_tests (Getting (GetResource kind id)) = HasFile ∷ IsId id ∷ IsFound kind id ∷ []
resource_tests (Getting (Get1Resource kind id)) = HasFile ∷ IsId id ∷ IsFoundHere kind id ∷ []
resource_tests (Getting (GetIndResource kind i)) = HasFile ∷ HasIth kind i ∷ []
resource_tests (Getting (LoadResource h)) = HasFile ∷ HasRow ResNotFound h ∷ []
resource_tests (Changing (ReleaseResource h)) = HasFile ∷ HasRow ResNotFound h ∷ UnlentUnchanged h ∷ []
resource_tests (Changing (DetachResource h)) = HasFile ∷ HasRow ResNotFound h ∷ LacksBit ResAttrErr res_changed h ∷ []
resource_tests (Changing (ChangedResource h)) = HasFile ∷ HasRow ResNotFound h ∷ LacksBit ResAttrErr res_protected h ∷ []
resource_tests (Changing (RemoveResource h)) = HasFile ∷ HasRow RmvResFailed h ∷ LacksBit RmvResFailed res_protected h ∷ []
resource_tests (Writing (WriteResource h)) = HasFile ∷ HasRow ResNotFound h ∷ UnlentChanged h ∷ CanWriteRow h ∷ []
resource_tests (Looking (GetResAttrs h)) = HasFile ∷ HasRow ResNotFound h ∷ []
resource_tests (GetResInfo h) = HasFile ∷ HasRow ResNotFound h ∷ []
resource_tests (Looking (SizeResource h)) = HasFile ∷ HasRow ResNotFound h ∷ []
resource_tests (Looking (HomeResFile h)) = HasFile ∷ HasRow ResNotFound h ∷ []
resource_tests (Changing (SetResAttrs h n)) = HasFile ∷ HasRow ResNotFound h ∷ IsAttributes n ∷ []
resource_tests (AddResource h kind id name) = HasFile ∷ IsId id ∷ MayBeAdded h kind id name ∷ []
resource_tests (Writing (UpdateResFile named)) = HasFile ∷ IsOpen named ∷ ChangedUnlent named ∷ CanWriteFile named ∷ []
resource_tests (Writing (CloseResFile named)) = HasFile ∷ IsOpen named ∷ AllUnlent named ∷ CanWriteFile named ∷ []
resource_tests (Looking (UniqueID kind)) = HasFile ∷ []
resource_tests (Looking (CountResources kind)) = HasFile ∷ []
resource_tests (Looking CountTypes) = HasFile ∷ []
resource_tests (Looking (GetIndType i)) = HasFile ∷ HasIthType i ∷ []
resource_tests (Changing (UseResFile k)) = HasFile ∷ IsOpen (Some k) ∷ []
resource_tests (OpenResFile k) = IsFile k ∷ []
resource_tests (Changing (SetResLoad n)) = []
resource_tests (Looking CurResFile) = []

-- the refusal of a call, if it is refused before anything is asked or changed
abbrev pub resource_refusal : ResState → ResourceCall → Option OsErr
resource_refusal state call = first_refused_for state (resource_tests call)
