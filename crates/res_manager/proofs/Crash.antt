-- What a start may find after a crash in a call, by what the call did to the stores.
use Rattle.std.proofs.Common.{◌≡◌, ℕ, Bool, true, false, cond, List, [], Option, Some, None, Result, Ok, Err, refl, sym, ap, subst, ◌∙◌, inl, inr, ⊎_elim}
use Rattle.std.specs.Prelude.{IfOk, OnOk, OnErr, IfSome}
use Rattle.std.specs.Option.{option_map_or}
use Rattle.std.proofs.lemmas.Bool.Decides.{eqb_tells}
use Rattle.mac_base.specs.ZoneState.{ZoneState}
use Rattle.mac_base.specs.declared.resource_call.ResourceCall.{ResourceCall}
use Rattle.mac_base.specs.declared.resource_call.ResourceCall.TheVariants.{OpenResFile}
use Rattle.mac_base.specs.Outcomes.{Outcome}
use Rattle.fork_bytes.specs.Written.{written}
use Rattle.fork_disk.specs.declared.store.ForkStore.{Ghosts}
use Rattle.fork_disk.specs.Crash.{AlwaysFinds, FoundBeforeOr, at_first, and_then}
use Rattle.res_update.specs.Changes.{FileTable, Files, saved_table}
use Rattle.res_update.specs.Files.{ResState}
use Rattle.res_update.specs.Steps.{Work, Quiet, Opens, IsSaved, ReadsBack, work_of, update_in}
use Rattle.res_update.specs.Updates.{Update, update_of}
use Rattle.res_files.specs.Crash.{history_of, OthersStay}
use Rattle.res_files.specs.FilesOn.{FilesOn, HonestAt}
use Rattle.res_files.specs.Stores.{UpdatesStore}
use Rattle.res_table.specs.OpenFiles.{is_open, table_of}
use Rattle.res_update.specs.declared.fault.UpdateFault.{UpdateFault}
use Rattle.res_manager.specs.Crash.{CrashLeaves, IsSettled, MayBeFound, file_settled}
use Rattle.res_manager.specs.Steps.{state_of}
use Rattle.res_manager.proofs.UpdatingCalls.{Makes, open_update}
use Rattle.res_manager.proofs.WritingFiles.{update_found}

-- what is always found, where less is asked
pub weaker : {Event : Type 0} (may_find : List Event → List ℕ → Type 0) (P Q : List ℕ → Type 0) (old new : List Event) → ((found : List ℕ) → P found → Q found) → AlwaysFinds may_find P old new → AlwaysFinds may_find Q old new
weaker may_find P Q old new each (at_first finds) = at_first (λ found may. each found (finds found may))
weaker may_find P Q old new each (and_then {event} {past} before finds) = and_then (weaker may_find P Q old past each before) (λ found may. each found (finds found may))

module _ {S : Type 0} (store : Ghosts S) (old new : List S) where
  -- a file of which nothing happened
  same_finds : (update : Option Update) (k : ℕ) → history_of store.history k new ≡ history_of store.history k old
      → AlwaysFinds store.may_find (MayBeFound store update old k) (history_of store.history k old) (history_of store.history k new)
  same_finds update k same = subst (λ (h : List store.Event). AlwaysFinds store.may_find (MayBeFound store update old k) (history_of store.history k old) h) (sym same) (at_first (λ found may. inl may))

  -- nothing happened
  pub calm_leaves : (update : Option Update) → ((k : ℕ) → HonestAt store.is_honest new k → history_of store.history k new ≡ history_of store.history k old) → CrashLeaves store update old new
  calm_leaves update same k from_one honest = same_finds update k (same k honest)

  -- something happened to one file alone
  one_leaves : (update : Option Update) (k : ℕ) → OthersStay k old new
      → (HonestAt store.is_honest new k → AlwaysFinds store.may_find (MayBeFound store update old k) (history_of store.history k old) (history_of store.history k new)) → CrashLeaves store update old new
  one_leaves update k others finds number from_one honest = ⊎_elim
      (λ is. subst (λ n. AlwaysFinds store.may_find (MayBeFound store update old n) (history_of store.history n old) (history_of store.history n new)) (sym is.1) (finds (subst (HonestAt store.is_honest new) is.1 honest)))
      (λ apart. same_finds update number (ap (λ (found : Option S). option_map_or store.history found []) (others number from_one apart.1))) (eqb_tells number k)

  -- that file was opened
  pub open_leaves : (k : ℕ) → OthersStay k old new
      → (HonestAt store.is_honest new k → AlwaysFinds store.may_find (store.may_find (history_of store.history k old)) (history_of store.history k old) (history_of store.history k new)) → CrashLeaves store None old new
  open_leaves k others finds = one_leaves None k others (λ honest. weaker store.may_find _ _ _ _ (λ found may. inl may) (finds honest))

  -- or written
  file_leaves : (k : ℕ) (change : FileTable → FileTable) (files : Files) (u : Update) → update_of k change files ≡ Some u
      → (HonestAt store.is_honest new k → IfSome (table_of k files) (λ table. AlwaysFinds store.may_find (FoundBeforeOr store.may_find (history_of store.history k old) (written (saved_table (change table)))) (history_of store.history k old) (history_of store.history k new)))
      → OthersStay k old new → CrashLeaves store (Some u) old new
  file_leaves k change files u is finds others =
      let f = update_found k change files u is in
      let v : Update = record { file = k; table = change f.table } in
      subst (λ (w : Update). CrashLeaves store (Some w) old new) f.is
      (one_leaves (Some v) k others (λ honest. weaker store.may_find _ _ _ _ (λ found. ⊎_elim inl (λ same. inr (refl, same))) (rw f.there at (finds honest))))

  -- by what is said of its store
  pub changed_leaves : {T : Type 0} (k : ℕ) (change : FileTable → FileTable) (files : Files) (result : Result T UpdateFault) → is_open k files ≡ true
      → (HonestAt store.is_honest new k → UpdatesStore store k change files old new result) → OthersStay k old new → CrashLeaves store (update_of k change files) old new
  changed_leaves k change files result there updates others =
      let o = open_update k change files there in
      subst (λ (update : Option Update). CrashLeaves store update old new) (sym o.1) (file_leaves k change files o.0 o.1 (λ honest. (updates honest).any_moment) others)

  -- by the work of a call
  pub work_leaves : {E : Type 0} (work : Work) (update : Option Update) (result : Result Outcome E) → update_in work ≡ update → CrashLeaves store update old new → IfOk result (λ outcome. CrashLeaves store (update_in work) old new)
  work_leaves work update (Ok outcome) is leaves = subst (λ (o : Option Update). CrashLeaves store o old new) (sym is) leaves
  work_leaves work update (Err full) is leaves = tt

-- what is settled, by the work of a call
pub work_settles : {S E : Type 0} (store : Ghosts S) (stores : List S) (work : Work) (file : Option ℕ) (result : Result Outcome E) → file_settled work ≡ file → IfOk result (λ outcome. OnOk outcome (IsSettled store file stores))
    → IfOk result (λ outcome. OnOk outcome (IsSettled store (file_settled work) stores))
work_settles store stores work file result is settled = subst (λ (o : Option ℕ). IfOk result (λ outcome. OnOk outcome (IsSettled store o stores))) (sym is) settled

-- the file that a call settles by its update
pub made_file : {S : Type 0} (fork : S → List ℕ) (zone : ZoneState) (on : FilesOn S) (c : ResourceCall) (k : ℕ) (change : FileTable → FileTable) (u : Update) → update_of k change on.files ≡ Some u → Makes fork zone on c u
    → file_settled (work_of (state_of fork zone on) c) ≡ Some k
made_file fork zone on c k change u is made = ap file_settled made.work ∙ ap (λ (v : Update). Some v.file) (sym (update_found k change on.files u is).is)

-- OpenResFile makes no update
pub opening_saves : (state : ResState) (k : ℕ) → update_in (work_of state (OpenResFile k)) ≡ None
opening_saves state k = by_case (is_open k state.files)
  where
    by_case : (b : Bool) → update_in (cond b Quiet (Opens k)) ≡ None
    by_case true = refl
    by_case false = refl

-- what holds anyhow holds of an error
pub err_anyhow : {T E : Type 0} (P : Type 0) (result : Result T E) → P → OnErr result P
err_anyhow P (Ok x) holds = tt
err_anyhow P (Err e) holds = holds

-- and reads none back
pub opening_reads : {E : Type 0} (honest : ℕ → Type 0) (old new : ResState) (k : ℕ) (result : Result Outcome E) → IfOk result (λ outcome. ReadsBack honest old (OpenResFile k) outcome new)
opening_reads honest old new k (Ok (Ok done)) = subst (λ (o : Option Update). IsSaved honest o new) (sym (opening_saves old k)) tt
opening_reads honest old new k (Ok (Err code)) = tt
opening_reads honest old new k (Err full) = tt
