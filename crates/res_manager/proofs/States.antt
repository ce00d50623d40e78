-- The state that a call leaves, part by part.
use Rattle.std.proofs.Common.{◌≡◌, ℕ, ℤ, Bool, List, [], map, Option, Some, Ok, refl, sym, ap, subst, ◌∙◌}
use Rattle.std.specs.Option.{option_map_or}
use Rattle.mac_base.specs.HeadKind.{Shape}
use Rattle.mac_base.specs.Heap.{Heap}
use Rattle.mac_base.specs.ZoneState.{ZoneState}
use Rattle.mac_base.specs.declared.memory_call.MemoryCall.TheVariants.{OnBlock}
use Rattle.mac_base.specs.declared.memory_call.BlockCall.TheVariants.{HSetRBit}
use Rattle.mac_base.specs.declared.reply.Results.TheVariants.{Nothing}
use Rattle.mac_base.specs.declared.resource_call.ResourceCall.TheVariants.{AddResource}
use Rattle.mac_base.specs.ExactStep.{IsExactStep, StepEnd}
use Rattle.mac_base.specs.Outcomes.{Outcome}
use Rattle.res_update.specs.Changes.{Files}
use Rattle.res_update.specs.Device.{Disk}
use Rattle.res_update.specs.Files.{ResState, ResourceEnd}
use Rattle.res_update.specs.Quiet.{quiet_state}
use Rattle.res_update.specs.Updates.{new_row}
use Rattle.res_files.specs.FilesOn.{FilesOn}
use Rattle.res_table.specs.OpenFiles.{rows_changed}
use Rattle.res_table.specs.Rows.{added}
use Rattle.res_manager.specs.Ends.{EndsQuietly}
use Rattle.res_manager.specs.Steps.{state_of}

-- a state with these parts
pub same_state : {S : Type 0} (fork : S → List ℕ) (state : ResState) (zone : ZoneState) (on : FilesOn S) → state.shape ≡ zone.shape → state.heap ≡ zone.heap → state.files ≡ on.files → state.loads ≡ on.loads → state.disks ≡ map fork on.stores
    → state ≡ state_of fork zone on
same_state fork state zone on s h f l d =
    let P : Shape → Type 0 = λ x. state ≡ record { shape = x; heap = zone.heap; files = on.files; loads = on.loads; disks = map fork on.stores } in
    let Q : Heap → Type 0 = λ x. state ≡ record { shape = state.shape; heap = x; files = on.files; loads = on.loads; disks = map fork on.stores } in
    let R : Files → Type 0 = λ x. state ≡ record { shape = state.shape; heap = state.heap; files = x; loads = on.loads; disks = map fork on.stores } in
    let T : Bool → Type 0 = λ x. state ≡ record { shape = state.shape; heap = state.heap; files = state.files; loads = x; disks = map fork on.stores } in
    let U : List Disk → Type 0 = λ x. state ≡ record { shape = state.shape; heap = state.heap; files = state.files; loads = state.loads; disks = x } in
    subst P s (subst Q h (subst R f (subst T l (subst U d refl))))

-- an end with another state that is the same
pub same_end : (outcome : Outcome) (a b : ResState) → a ≡ b → let e : ResourceEnd = record { outcome = outcome; state = a } in e ≡ record { outcome = outcome; state = b }
same_end outcome a b is = ap (λ (s : ResState). let e : ResourceEnd = record { outcome = outcome; state = s } in e) is

-- a handle's block is a resource of the current file
pub added_ends : {S : Type 0} (fork : S → List ℕ) (old new : ZoneState) (on after : FilesOn S) (h : ℕ) (kind : List ℕ) (id : ℤ) (name : Option (List ℕ)) (k : ℕ) (outcome : Outcome) → on.files.current ≡ Some k
    → after ≡ record on { files = rows_changed k (added (new_row h kind id name)) on.files } → IsExactStep old.shape old.heap (OnBlock (HSetRBit h)) [] outcome new.heap → new.shape ≡ old.shape
    → EndsQuietly fork old on (AddResource h kind id name) (Ok Nothing) new after
added_ends fork old new on after h kind id name k outcome current add exact shape =
    let gone : ResState = quiet_state (AddResource h kind id name) (state_of fork old on) in
    let files : gone.files ≡ after.files = ap (λ (o : Option ℕ). option_map_or (λ j. rows_changed j (added (new_row h kind id name)) on.files) o on.files) current ∙ sym (ap (λ (f : FilesOn _). f.files) add) in
    same_end (Ok Nothing) gone (state_of fork new after) (same_state fork gone new after (sym shape) (ap (λ (e : StepEnd). e.heap) exact) files (sym (ap (λ (f : FilesOn _). f.loads) add)) (sym (ap (λ (f : FilesOn _). map fork f.stores) add)))

-- a row is added with this id and name
pub added_as : {S : Type 0} (on after : FilesOn S) (h : ℕ) (kind : List ℕ) (i id : ℤ) (n name : Option (List ℕ)) (k : ℕ) → i ≡ id → n ≡ name → after ≡ record on { files = rows_changed k (added (new_row h kind i n)) on.files }
    → after ≡ record on { files = rows_changed k (added (new_row h kind id name)) on.files }
added_as on after h kind i id n name k same_id same_name is =
    let P : ℤ → Type 0 = λ x. after ≡ record on { files = rows_changed k (added (new_row h kind x n)) on.files } in
    let Q : Option (List ℕ) → Type 0 = λ x. after ≡ record on { files = rows_changed k (added (new_row h kind id x)) on.files } in
    subst Q same_name (subst P same_id is)
