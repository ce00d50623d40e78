-- What is known of a state as the devices answered, and of a step by it.
use Rattle.std.proofs.Common.{◌≡◌, refl, sym, ap, ◌∙◌, ℕ, zero, suc, ◌-◌, ◌≤◌, Bool, true, false, eqb, Option, Some, None, Result, Ok, Err, List, [], ◌∷◌, map, slice_get, unwrap_or, IsTrue, subst, arith}
use Rattle.std.proofs.lemmas.Bool.{eq-eqb, eqb-true}
use Rattle.mac_base.specs.declared.error.OsErr.{OsErr}
use Rattle.mac_base.specs.declared.memory_call.MemoryCall.{MemoryCall}
use Rattle.mac_base.specs.declared.resource_call.ResourceCall.{ResourceCall}
use Rattle.mac_base.specs.declared.resource_call.ResourceCall.TheVariants.{Getting}
use Rattle.mac_base.specs.declared.resource_call.GettingCall.{GettingCall}
use Rattle.mac_base.specs.GrowZone.{Ask}
use Rattle.mac_base.specs.Outcomes.{Outcome}
use Rattle.res_table.specs.declared.chain.RowPlace.{RowPlace}
use Rattle.res_table.specs.OpenFiles.{row_at}
use Rattle.res_update.specs.Answered.{AnswersStep, AreHonest, IsAnswered, WasAnswered, answered_disks, file_of_work, known_disks, known_file, known_row, known_state}
use Rattle.res_update.specs.Changes.{FileRow, FileTable, saved_table}
use Rattle.res_table.specs.declared.chain.OpenFile.{OpenFile}
use Rattle.fork_bytes.specs.Written.{written}
use Rattle.std.specs.Prelude.{MatchBool, ⊤}
use Rattle.std.specs.Option.{IsSomeAnd, option_map_or}
use Rattle.res_update.specs.Device.{Device, Works as Working, FailsBefore, FailsWriting, Anything, Disk, DiskRelations, LeaveRelation, ReadsBy, device_works, read_truly}
use Rattle.res_update.specs.Files.{ResState, ResourceEnd, disk_of}
use Rattle.res_update.specs.Loads.{loads_bytes, placing, row_wanted}
use Rattle.res_update.specs.Steps.{GetsPlace, GetsRow, IsSaved, LeavesDisk, MemoryRelation, ReadsBack, ResourceStepBy, StepsUnless, Work, Gets, Updates, Opens, Quiet, Works, update_in, work_of}
use Rattle.res_update.specs.Tests.{resource_refusal}
use Rattle.res_update.specs.Updates.{Update}

-- ---- what is known of a state

-- all files
abbrev all : ℕ → Bool
all k = true

-- where all bytes are known, the state is
pub all_rows : (rows : List FileRow) → map (known_row true) rows ≡ rows
all_rows [] = refl
all_rows (r ∷ rows) = ap (λ (others : List FileRow). r ∷ others) (all_rows rows)

all_files : (files : List (OpenFile (List ℕ))) → map (known_file all) files ≡ files
all_files [] = refl
all_files (f ∷ files) =
    ap (λ (rows : List FileRow). let here : OpenFile (List ℕ) = record { number = f.number; table = record { rows = rows; extra = f.table.extra; map_attributes = f.table.map_attributes } } in here ∷ map (known_file all) files) (all_rows f.table.rows)
    ∙ ap (λ (others : List (OpenFile (List ℕ))). f ∷ others) (all_files files)

all_disks : (disks : List Disk) → known_disks all disks ≡ disks
all_disks [] = refl
all_disks (d ∷ disks) = ap (λ (others : List Disk). d ∷ others) (all_disks disks)

all_known : (state : ResState) → known_state all state ≡ state
all_known state =
    ap (λ (fs : List (OpenFile (List ℕ))). let s : ResState = record { shape = state.shape; heap = state.heap; files = record { files = fs; current = state.files.current }; loads = state.loads; disks = known_disks all state.disks } in s) (all_files state.files.files)
    ∙ ap (λ (ds : List Disk). let s : ResState = record { shape = state.shape; heap = state.heap; files = state.files; loads = state.loads; disks = ds } in s) (all_disks state.disks)

-- where all devices are honest, the state as they answered is the state
pub all_answered : (honest : ℕ → Type 0) → ((k : ℕ) → honest k) → (state answered : ResState) → IsAnswered honest state answered → answered ≡ state
all_answered honest is state answered answers = sym (all_known answered) ∙ answers all (λ k here. is k) ∙ all_known state

-- one file alone
abbrev pub only : ℕ → ℕ → Bool
only k other = eqb other k

pub only_is : (k : ℕ) → IsTrue (only k k)
only_is k = eq-eqb k k refl

pub only_honest : (honest : ℕ → Type 0) (k : ℕ) → honest k → AreHonest honest (only k)
only_honest honest k is other same = subst honest (sym (eqb-true other k same)) is

-- no file
abbrev pub none : ℕ → Bool
none k = false

pub none_honest : (honest : ℕ → Type 0) → AreHonest honest none
none_honest honest k same = absurd (cc same)

-- the disk of a file that is known
known_disk : (known : ℕ → Bool) (disks : List Disk) (at : ℕ) → IsTrue (known (suc at)) → unwrap_or (slice_get (known_disks known disks) at) [] ≡ unwrap_or (slice_get disks at) []
known_disk known [] at is = refl
known_disk known (d ∷ disks) zero is = rw is refl
known_disk known (d ∷ disks) (suc at) is = known_disk (λ k. known (suc k)) disks at is

-- where a file's device is honest, its disk is the same
pub disk_answered : (honest : ℕ → Type 0) (state answered : ResState) → IsAnswered honest state answered → (k : ℕ) → 1 ≤ k → honest k → disk_of k answered ≡ disk_of k state
disk_answered honest state answered answers k low is =
    let one = only k in
    let same : suc (k - 1) ≡ k = omega (arith, low) in
    let here : IsTrue (one (suc (k - 1))) = subst (λ (n : ℕ). IsTrue (one n)) (sym same) (only_is k) in
    sym (known_disk one answered.disks (k - 1) here)
    ∙ ap (λ (s : ResState). unwrap_or (slice_get s.disks (k - 1)) []) (answers one (only_honest honest k is))
    ∙ known_disk one state.disks (k - 1) here

-- a state is as its devices answered where it is itself, and each of two states as they answered of the other
pub itself : (honest : ℕ → Type 0) (state : ResState) → IsAnswered honest state state
itself honest state known is = refl

pub answered_back : (honest : ℕ → Type 0) (a b : ResState) → IsAnswered honest a b → IsAnswered honest b a
answered_back honest a b answers known is = sym (answers known is)

-- the state before a step is as the devices answered
pub answered_before : (honest : ℕ → Type 0) (call : ResourceCall) (old before : ResState) → WasAnswered honest old call before → IsAnswered honest old before
answered_before honest (Getting call) old before was = was
answered_before honest _ old before same = subst (IsAnswered honest old) (sym same) (itself honest old)

-- and where it is the same, it is so
pub before_itself : (honest : ℕ → Type 0) (call : ResourceCall) (state : ResState) → WasAnswered honest state call state
before_itself honest (Getting call) state = itself honest state
before_itself honest _ state = refl

-- ---- steps

-- a step over some relations of disks is one over wider ones
module _ (Memory : MemoryRelation) (one other : ℕ → DiskRelations) (leave : (k : ℕ) (new old left : Disk) → (one k).may_leave new old left → (other k).may_leave new old left)
    (reads : (k : ℕ) (disk : Disk) (read : Result FileTable OsErr) → (one k).may_read disk read → (other k).may_read disk read) (device : Device) (old : ResState) (call : ResourceCall) (asks : List Ask) (end : ResourceEnd) where
  leaves_wider : (device : Device) (u : Update) (disk : Disk) → LeavesDisk Memory one device u disk → LeavesDisk Memory other device u disk
  leaves_wider Working u disk leaves = leaves
  leaves_wider FailsBefore u disk leaves = leaves
  leaves_wider (FailsWriting left) u disk leaves = leave u.file (written (saved_table u.table)) disk left leaves

  reads_wider : (device : Device) (k : ℕ) (disk : Disk) (read : Result FileTable OsErr) → ReadsBy (one k) device disk read → ReadsBy (other k) device disk read
  reads_wider Working k disk read is = reads k disk read is
  reads_wider FailsBefore k disk read is = is
  reads_wider (FailsWriting left) k disk read is = is

  row_wider : (p : RowPlace) (r : FileRow) (o : Option MemoryCall) → GetsRow Memory one device old call asks end p r o → GetsRow Memory other device old call asks end p r o
  row_wider p r None gets = gets
  row_wider p r (Some inner) gets = gets

  place_wider : (p : RowPlace) (o : Option FileRow) → GetsPlace Memory one device old call asks end p o → GetsPlace Memory other device old call asks end p o
  place_wider p None gets = gets
  place_wider p (Some r) gets = row_wider p r (placing old.heap.table (loads_bytes old call) r) gets

  work_wider : (w : Work) → Works Memory one device old call asks end w → Works Memory other device old call asks end w
  work_wider (Gets p) works = place_wider p (row_at p old.files) works
  work_wider (Updates u) works = (works.0, leaves_wider device u (disk_of u.file old) works.1, works.2)
  work_wider (Opens k) works = (works.0, works.1, reads_wider device k (disk_of k old) works.1 works.2, works.3)
  work_wider Quiet works = works

  unless_wider : (o : Option OsErr) → StepsUnless Memory one o device old call asks end → StepsUnless Memory other o device old call asks end
  unless_wider (Some code) step = step
  unless_wider None step = work_wider (work_of old call) step

  pub step_wider : ResourceStepBy Memory one device old call asks end → ResourceStepBy Memory other device old call asks end
  step_wider step = unless_wider (resource_refusal old call) step

-- of honest devices a step is one of the states themselves
pub honest_step : (honest : ℕ → Type 0) (worked : Type 0) (Failed : ℕ → Type 0) (Memory : MemoryRelation) (may_leave : LeaveRelation) (old : ResState) (call : ResourceCall) (asks : List Ask) (outcome : Outcome) (new : ResState)
    → ((k : ℕ) → honest k) → (s : AnswersStep honest worked Failed Memory may_leave old call asks outcome new) → ResourceStepBy Memory (read_truly may_leave) s.device old call asks (record { outcome = outcome; state = new })
honest_step honest worked Failed Memory may_leave old call asks outcome new is s =
    let same_before = all_answered honest is old s.before (answered_before honest call old s.before s.was) in
    let from_old : ResourceStepBy Memory (answered_disks honest may_leave) s.device old call asks (record { outcome = outcome; state = s.after }) =
    subst (λ (state : ResState). ResourceStepBy Memory (answered_disks honest may_leave) s.device state call asks (record { outcome = outcome; state = s.after })) same_before s.step in
    step_wider Memory (answered_disks honest may_leave) (read_truly may_leave) (λ k a b left leaves. leaves (is k)) (λ k disk read reads. reads.1 (is k)) s.device old call asks (record { outcome = outcome; state = new })
    (subst (λ (state : ResState). ResourceStepBy Memory (answered_disks honest may_leave) s.device old call asks (record { outcome = outcome; state = state })) (all_answered honest is new s.after s.becomes) from_old)

-- where fewer devices are said to be honest, and nothing of failures nor of what is left, it is a step still
pub fewer_honest : (honest fewer : ℕ → Type 0) (worked : Type 0) (Failed : ℕ → Type 0) (Memory : MemoryRelation) (may_leave : LeaveRelation) (old : ResState) (call : ResourceCall) (asks : List Ask) (outcome : Outcome) (new : ResState)
    → ((k : ℕ) → fewer k → honest k) → AnswersStep honest worked Failed Memory may_leave old call asks outcome new → AnswersStep fewer ⊤ (λ k. ⊤) Memory Anything old call asks outcome new
fewer_honest honest fewer worked Failed Memory may_leave old call asks outcome new these s = record {
  device = s.device;
  before = s.before;
  after = s.after;
  was = same_before call s.was;
  becomes = λ known are. s.becomes known (λ k here. these k (are k here));
  step = step_wider Memory (answered_disks honest may_leave) (answered_disks fewer Anything) (λ k a b left leaves. λ h. tt) (λ k disk read reads. (reads.0, λ h. reads.1 (these k h))) s.device s.before call asks (record { outcome = outcome; state = s.after }) s.step;
  cause = by s.device (file_of_work (work_of s.before call)) s.cause;
}
  where
    same_before : (c : ResourceCall) → WasAnswered honest old c s.before → WasAnswered fewer old c s.before
    same_before (Getting c) was = λ known are. was known (λ k here. these k (are k here))
    same_before _ same = same

    any_file : (file : Option ℕ) → IsSomeAnd file Failed → IsSomeAnd file (λ k. ⊤)
    any_file None failed = absurd failed
    any_file (Some k) failed = tt

    by : (device : Device) (file : Option ℕ) → MatchBool (device_works device) worked (IsSomeAnd file Failed) → MatchBool (device_works device) ⊤ (IsSomeAnd file (λ k. ⊤))
    by Working file cause = tt
    by FailsBefore file cause = any_file file cause
    by (FailsWriting left) file cause = any_file file cause

-- and what reads back where more are, reads back
pub reads_fewer : (honest fewer : ℕ → Type 0) → ((k : ℕ) → fewer k → honest k) → (old : ResState) (call : ResourceCall) (outcome : Outcome) (new : ResState) → ReadsBack honest old call outcome new → ReadsBack fewer old call outcome new
reads_fewer honest fewer these old call (Err code) new reads = tt
reads_fewer honest fewer these old call (Ok results) new reads = by (update_in (work_of old call)) reads
  where
    by : (update : Option Update) → IsSaved honest update new → IsSaved fewer update new
    by None saved = tt
    by (Some u) saved = λ h. saved (these u.file h)

-- a call that gets or loads a resource makes no update
idle : (o : Option RowPlace) → update_in (option_map_or Gets o Quiet) ≡ None
idle None = refl
idle (Some p) = refl

pub gets_none : (state : ResState) (call : GettingCall) → update_in (work_of state (Getting call)) ≡ None
gets_none state call = idle (row_wanted state (Getting call))
