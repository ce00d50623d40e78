-- Steps of calls that ask nothing.
use Rattle.std.proofs.Common.{◌≡◌, ℕ, Bool, true, false, List, [], Option, Some, None, Result, Ok, Err, refl, ap, sym, subst, ◌∙◌}
use Rattle.std.specs.Prelude.{IfOk, MatchBool, MatchResult, ⊤, is_ok, map, if◌then◌else◌}
use Rattle.std.specs.Option.{IsSomeAnd}
use Rattle.mac_base.specs.declared.error.OsErr.{OsErr}
use Rattle.mac_base.specs.declared.error.OsErr.TheVariants.{DskFulErr}
use Rattle.mac_base.specs.ZoneState.{ZoneState}
use Rattle.mac_base.specs.declared.resource_call.ResourceCall.{ResourceCall}
use Rattle.mac_base.specs.declared.resource_call.ResourceCall.TheVariants.{OpenResFile}
use Rattle.mac_base.specs.GrowZone.{Ask}
use Rattle.mac_base.specs.Outcomes.{Outcome, done_outcome}
use Rattle.mac_base.specs.declared.reply.Results.{Results}
use Rattle.mac_base.specs.declared.reply.Results.TheVariants.{Nothing}
use Rattle.mac_base.specs.Tests.{unless_passed}
use Rattle.fork_disk.specs.declared.store.ForkStore.{Ghosts}
use Rattle.res_update.specs.Answered.{answered_disks, file_of_work}
use Rattle.res_update.specs.Device.{device_works}
use Rattle.res_update.specs.Device as device
use Rattle.res_update.specs.Quiet.{quiet_results, quiet_state}
use Rattle.res_update.specs.Files.{ResState, ResourceEnd, refused_with}
use Rattle.res_update.specs.Steps.{StepsUnless, Work, Quiet, Opens, Updates, work_of, Memory}
use Rattle.res_update.specs.Steps as steps
use Rattle.res_update.specs.Tests.{resource_refusal, first_refused_for}
use Rattle.res_update.specs.Updates.{Update, fits_fork}
use Rattle.res_files.specs.FilesOn.{FailedAt, FilesOn, HonestAt, NoneFailed}
use Rattle.res_table.specs.OpenFiles.{is_open}
use Rattle.res_manager.specs.Ends.{EndsQuietly, EndsTested, IsUnwritten, OpensFile, Writes, WritesFile}
use Rattle.res_manager.specs.Steps.{ResourceSteps, state_of}
use Rattle.res_manager.specs.Tests.{Tests, early_tests, late_tests}
use Rattle.res_update.proofs.Answering.{before_itself, itself}
use Rattle.res_manager.proofs.Refusals.{passed-early, refused-early}

-- what holds of what is given
pub if_ok : {T E : Type 0} (P Q : T → Type 0) (result : Result T E) → ((x : T) → P x → Q x) → IfOk result P → IfOk result Q
if_ok P Q (Ok x) each h = each x h
if_ok P Q (Err e) each h = h

-- a call that an early test refuses
pub refused_steps : {S : Type 0} (store : Ghosts S) (zone : ZoneState) (on : FilesOn S) (c : ResourceCall) (code : OsErr) → first_refused_for (state_of store.fork zone on) (early_tests c) ≡ Some code
    → ResourceSteps store zone on c [] (Err code) zone on
refused_steps store zone on c code is =
    let state : ResState = state_of store.fork zone on in
    let honest = HonestAt store.is_honest on.stores in
    let P : Option OsErr → Type 0 = λ o. StepsUnless Memory (answered_disks honest store.may_leave) o device.Works state c [] (refused_with code state) in
    record { device = device.Works; before = state; after = state; was = before_itself honest c state; becomes = itself honest state; step = subst P (sym (refused-early state c code is)) (refl, refl); cause = refl }

-- a call that isn't refused and needs neither room nor a disk
pub quiet_steps : {S : Type 0} (store : Ghosts S) (old new : ZoneState) (on after : FilesOn S) (c : ResourceCall) (outcome : Outcome) → resource_refusal (state_of store.fork old on) c ≡ None
    → work_of (state_of store.fork old on) c ≡ Quiet → after.stores ≡ on.stores → EndsQuietly store.fork old on c outcome new after → ResourceSteps store old on c [] outcome new after
quiet_steps store old new on after c outcome passed quiet stores ends =
    let state : ResState = state_of store.fork old on in
    let last : ResState = state_of store.fork new after in
    let end : ResourceEnd = record { outcome = outcome; state = last } in
    let honest = HonestAt store.is_honest after.stores in
    let disks = answered_disks honest store.may_leave in
    let P : Option OsErr → Type 0 = λ o. StepsUnless Memory disks o device.Works state c [] end in
    let Q : Work → Type 0 = λ w. steps.Works Memory disks device.Works state c [] end w in
    record { device = device.Works; before = state; after = last; was = before_itself honest c state; becomes = itself honest last; step = subst P (sym passed) (subst Q (sym quiet) (refl, sym ends)); cause = ap (map store.failures) stores }

-- a call that asked nothing
pub unasked_steps : {S : Type 0} (store : Ghosts S) (old new : ZoneState) (on after : FilesOn S) (c : ResourceCall) (asks : List Ask) (outcome : Outcome) → asks ≡ [] → ResourceSteps store old on c [] outcome new after → ResourceSteps store old on c asks outcome new after
unasked_steps store old new on after c asks outcome none steps = subst (λ (them : List Ask). ResourceSteps store old on c them outcome new after) (sym none) steps

-- a call that is refused before all work, or else gives nothing and needs neither room nor a disk
pub tested_steps : {S : Type 0} (store : Ghosts S) (old new : ZoneState) (on after : FilesOn S) (c : ResourceCall) (asks : List Ask) (done : Result ⊤ OsErr) → asks ≡ [] → late_tests c ≡ [] → work_of (state_of store.fork old on) c ≡ Quiet
    → after.stores ≡ on.stores → EndsTested store.fork old on c done new after → ResourceSteps store old on c asks (done_outcome done) new after
tested_steps store old new on after c asks (Ok u) none late quiet stores ends =
    let state : ResState = state_of store.fork old on in
    unasked_steps store old new on after c asks (Ok Nothing) none
    (quiet_steps store old new on after c (Ok Nothing) (passed-early state c ends.0 ∙ ap (first_refused_for state) late) quiet stores ends.1)
tested_steps {S} store old new on after c asks (Err code) none late quiet stores ends =
    let P : ZoneState → Type 0 = λ zone. ResourceSteps store old on c asks (Err code) zone after in
    let Q : FilesOn S → Type 0 = λ files. ResourceSteps store old on c asks (Err code) old files in
    subst P (sym ends.1.0) (subst Q (sym ends.1.1) (unasked_steps store old old on on c asks (Err code) none (refused_steps store old on c code ends.0)))

-- a call that is refused, or else says what is there and changes nothing
pub told_steps : {S : Type 0} (store : Ghosts S) (zone : ZoneState) (on : FilesOn S) (c : ResourceCall) (asks : List Ask) (outcome : Outcome) → asks ≡ [] → late_tests c ≡ [] → work_of (state_of store.fork zone on) c ≡ Quiet
    → quiet_state c (state_of store.fork zone on) ≡ state_of store.fork zone on → Tests (state_of store.fork zone on) (early_tests c) outcome → IfOk outcome (λ results. results ≡ quiet_results (state_of store.fork zone on) c)
    → ResourceSteps store zone on c asks outcome zone on
told_steps store zone on c asks (Ok results) none late quiet same passed value =
    let state : ResState = state_of store.fork zone on in
    let ends : EndsQuietly store.fork zone on c (Ok results) zone on =
    ap (λ (r : Results). let e : ResourceEnd = record { outcome = Ok r; state = quiet_state c state } in e) (sym value)
    ∙ ap (λ (s : ResState). let e : ResourceEnd = record { outcome = Ok results; state = s } in e) same in
    unasked_steps store zone zone on on c asks (Ok results) none
    (quiet_steps store zone zone on on c (Ok results) (passed-early state c passed ∙ ap (first_refused_for state) late) quiet refl ends)
told_steps store zone on c asks (Err code) none late quiet same passed value =
    unasked_steps store zone zone on on c asks (Err code) none (refused_steps store zone on c code passed)

-- the same where host memory may lack
pub told_if_ok : {S E : Type 0} (store : Ghosts S) (zone : ZoneState) (on : FilesOn S) (c : ResourceCall) (asks : List Ask) (result : Result Outcome E) → asks ≡ [] → late_tests c ≡ [] → work_of (state_of store.fork zone on) c ≡ Quiet
    → quiet_state c (state_of store.fork zone on) ≡ state_of store.fork zone on → IfOk result (λ outcome. (state : ResState) → state.files ≡ on.files → Tests state (early_tests c) outcome)
    → IfOk result (λ outcome. (state : ResState) → state.files ≡ on.files → IfOk outcome (λ results. results ≡ quiet_results state c)) → IfOk result (λ outcome. ResourceSteps store zone on c asks outcome zone on)
told_if_ok store zone on c asks (Ok outcome) none late quiet same passed value =
    told_steps store zone on c asks outcome none late quiet same (passed (state_of store.fork zone on) refl) (value (state_of store.fork zone on) refl)
told_if_ok store zone on c asks (Err full) none late quiet same passed value = tt

-- a call that opens a file
pub opened_steps : {S : Type 0} (store : Ghosts S) (zone : ZoneState) (on after : FilesOn S) (k : ℕ) (outcome : Outcome) → resource_refusal (state_of store.fork zone on) (OpenResFile k) ≡ None
    → is_open k on.files ≡ false → OpensFile store zone on k outcome after → ResourceSteps store zone on (OpenResFile k) [] outcome zone after
opened_steps store zone on after k outcome passed closed opens =
    let state : ResState = state_of store.fork zone on in
    let end : ResourceEnd = record { outcome = outcome; state = opens.after } in
    let honest = HonestAt store.is_honest after.stores in
    let disks = answered_disks honest store.may_leave in
    let P : Option OsErr → Type 0 = λ o. StepsUnless Memory disks o opens.device state (OpenResFile k) [] end in
    let Q : Bool → Type 0 = λ b. steps.Works Memory disks opens.device state (OpenResFile k) [] end (if b then Quiet else Opens k) in
    let Cause : Bool → Type 0 = λ b. MatchBool (device_works opens.device) (NoneFailed store.failures on.stores after.stores) (IsSomeAnd (file_of_work (if b then Quiet else Opens k)) (λ k. FailedAt store.failures k on.stores after.stores)) in
    record {
      device = opens.device;
      before = state;
      after = opens.after;
      was = refl;
      becomes = opens.becomes;
      step = subst P (sym passed) (subst Q (sym closed) (refl, opens.read, opens.reads, sym opens.ends));
      cause = subst Cause (sym closed) opens.cause;
    }

-- whether an update can be made decides a call that makes it
pub written_steps : {S : Type 0} (store : Ghosts S) (old new : ZoneState) (on after : FilesOn S) (c : ResourceCall) (u : Update) (outcome : Outcome)
    → resource_refusal (state_of store.fork old on) c ≡ first_refused_for (state_of store.fork old on) (late_tests c)
    → first_refused_for (state_of store.fork old on) (late_tests c) ≡ unless_passed DskFulErr (fits_fork u.table)
    → work_of (state_of store.fork old on) c ≡ Updates u → WritesFile store old on c u outcome new after → ResourceSteps store old on c [] outcome new after
written_steps {S} store old new on after c u outcome late test work written = by_case (fits_fork u.table) (late ∙ test) written
  where
    state : ResState
    state = state_of store.fork old on

    by_case : (b : Bool) → resource_refusal state c ≡ unless_passed DskFulErr b → MatchBool b (Writes store old on c u outcome new after) (IsUnwritten store old on outcome new after) → ResourceSteps store old on c [] outcome new after
    by_case true passed writes =
        let honest = HonestAt store.is_honest after.stores in
        let disks = answered_disks honest store.may_leave in
        let P : Option OsErr → Type 0 = λ o. StepsUnless Memory disks o writes.device state c [] (record { outcome = outcome; state = writes.after }) in
        let Q : Work → Type 0 = λ w. steps.Works Memory disks writes.device state c [] (record { outcome = outcome; state = writes.after }) w in
        let Cause : Work → Type 0 = λ w. MatchBool (device_works writes.device) (NoneFailed store.failures on.stores after.stores) (IsSomeAnd (file_of_work w) (λ k. FailedAt store.failures k on.stores after.stores)) in
        record {
          device = writes.device;
          before = state;
          after = writes.after;
          was = before_itself honest c state;
          becomes = writes.becomes;
          step = subst P (sym passed) (subst Q (sym work) (refl, writes.leaves, sym writes.ends));
          cause = subst Cause (sym work) writes.cause;
        }
    by_case false refused unwritten =
        let honest = HonestAt store.is_honest after.stores in
        let last : ResState = state_of store.fork new after in
        let P : Option OsErr → Type 0 = λ o. StepsUnless Memory (answered_disks honest store.may_leave) o device.Works state c [] (record { outcome = outcome; state = last }) in
        record { device = device.Works; before = state; after = last; was = before_itself honest c state; becomes = itself honest last; step = subst P (sym refused) (refl, sym unwritten.ends); cause = unwritten.works }

-- what a result comes with, it comes with as it is reported
pub told_so : {X E F : Type 0} (P Q : Type 0) (result : Result X E) (told : Result X F) → is_ok told ≡ is_ok result → MatchResult result (λ done. Q) (λ fault. P) → MatchResult told (λ done. Q) (λ fault. P)
told_so P Q (Ok x) (Ok y) same is = is
told_so P Q (Err e) (Ok y) same is = absurd (cc same)
told_so P Q (Err e) (Err f) same is = is
told_so P Q (Ok x) (Err f) same is = absurd (cc same)
