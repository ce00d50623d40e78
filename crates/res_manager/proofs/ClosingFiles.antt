-- How closing a file ends that was written.
use Rattle.std.proofs.Common.{◌≡◌, ◌∙◌, Bool, true, false, List, map, None, Err, refl, sym, ap, subst}
use Rattle.std.specs.Prelude.{MatchBool}
use Rattle.std.specs.Result.{is_err}
use Rattle.mac_base.specs.ZoneState.{ZoneState}
use Rattle.mac_base.specs.declared.error.OsErr.{OsErr}
use Rattle.mac_base.specs.declared.error.OsErr.TheVariants.{DskFulErr, IoErr}
use Rattle.mac_base.specs.declared.resource_call.ResourceCall.TheVariants.{Writing}
use Rattle.mac_base.specs.declared.resource_call.WritingCall.TheVariants.{UpdateResFile, CloseResFile}
use Rattle.mac_base.specs.Outcomes.{Outcome}
use Rattle.res_table.specs.OpenFiles.{file_closed}
use Rattle.res_update.specs.Changes.{rows_of}
use Rattle.fork_disk.specs.declared.store.ForkStore.{Ghosts}
use Rattle.res_update.specs.Answered.{IsAnswered}
use Rattle.res_update.specs.Device.{Device, device_works}
use Rattle.res_update.specs.Device as device
use Rattle.res_update.specs.Files.{ResState, ResourceEnd}
use Rattle.res_update.specs.Updates.{Update, after_update, disposed, fits_fork, handles_of, update_end}
use Rattle.res_files.specs.FilesOn.{FailedAt, FilesOn, HonestAt, NoneFailed}
use Rattle.res_manager.specs.Ends.{IsUnwritten, Writes, WritesFile}
use Rattle.res_manager.specs.Steps.{state_of}
use Rattle.res_manager.proofs.Known.{closed-answered}
use Rattle.res_manager.proofs.States.{same_state}

module _ {S : Type 0} (store : Ghosts S) (zone new : ZoneState) (on mid after : FilesOn S) (u : Update) (outcome : Outcome) where
  -- a file that was written is closed, and the handles of its rows are disposed of
  pub closes_written : is_err outcome ≡ false → new.shape ≡ zone.shape → new.heap ≡ disposed zone.shape (handles_of (rows_of u.file mid.files)) zone.heap
      → after ≡ record mid { files = file_closed u.file mid.files } → WritesFile store zone on (Writing (UpdateResFile None)) u outcome zone mid
      → WritesFile store zone on (Writing (CloseResFile None)) u outcome new after
  closes_written given shape heap closed written = by_case (fits_fork u.table) written
    where
      not_given : (code : OsErr) → outcome ≡ Err code → ⊥
      not_given code is = cc (sym given ∙ ap is_err is)

      closing : ResState → ResState
      closing state = after_update (Writing (CloseResFile None)) u.file state

      closed_state : closing (state_of store.fork zone mid) ≡ state_of store.fork new after
      closed_state = same_state store.fork (closing (state_of store.fork zone mid)) new after (sym shape) (sym heap) (ap (λ (on : FilesOn S). on.files) (sym closed)) (ap (λ (on : FilesOn S). on.loads) (sym closed))
          (ap (λ (on : FilesOn S). map store.fork on.stores) (sym closed))

      mid_stores : mid.stores ≡ after.stores
      mid_stores = ap (λ (f : FilesOn S). f.stores) (sym closed)

      -- what is as the devices answered is so once the file is closed
      closing_answered : (state : ResState) → IsAnswered (HonestAt store.is_honest mid.stores) (state_of store.fork zone mid) state → IsAnswered (HonestAt store.is_honest after.stores) (state_of store.fork new after) (closing state)
      closing_answered state answered =
          subst (λ (s : ResState). IsAnswered (HonestAt store.is_honest after.stores) s (closing state)) closed_state
          (subst (λ (stores : List S). IsAnswered (HonestAt store.is_honest stores) (closing (state_of store.fork zone mid)) (closing state)) mid_stores (closed-answered (HonestAt store.is_honest mid.stores) u.file (state_of store.fork zone mid) state answered))

      by_device : (w : Writes store zone on (Writing (UpdateResFile None)) u outcome zone mid) (dev : Device) → w.device ≡ dev → Writes store zone on (Writing (CloseResFile None)) u outcome new after
      by_device w device.Works is =
          let ends = ap (λ (d : Device). update_end d (Writing (UpdateResFile None)) u (state_of store.fork zone on)) (sym is) ∙ w.ends in
          record {
            device = device.Works;
            after = closing w.after;
            becomes = closing_answered w.after w.becomes;
            leaves = tt;
            ends = ap (λ (e : ResourceEnd). record e { state = closing e.state }) ends;
            cause = subst (λ (stores : List S). NoneFailed store.failures on.stores stores) mid_stores
                (subst (λ (d : Device). MatchBool (device_works d) (NoneFailed store.failures on.stores mid.stores) (FailedAt store.failures u.file on.stores mid.stores)) is w.cause);
          }
      by_device w device.FailsBefore is =
          absurd (not_given IoErr (sym (ap (λ (e : ResourceEnd). e.outcome) (ap (λ (d : Device). update_end d (Writing (UpdateResFile None)) u (state_of store.fork zone on)) (sym is) ∙ w.ends))))
      by_device w (device.FailsWriting left) is =
          absurd (not_given IoErr (sym (ap (λ (e : ResourceEnd). e.outcome) (ap (λ (d : Device). update_end d (Writing (UpdateResFile None)) u (state_of store.fork zone on)) (sym is) ∙ w.ends))))

      by_case : (b : Bool) → MatchBool b (Writes store zone on (Writing (UpdateResFile None)) u outcome zone mid) (IsUnwritten store zone on outcome zone mid)
          → MatchBool b (Writes store zone on (Writing (CloseResFile None)) u outcome new after) (IsUnwritten store zone on outcome new after)
      by_case true w = by_device w w.device refl
      by_case false unwritten = absurd (not_given DskFulErr (sym (ap (λ (e : ResourceEnd). e.outcome) unwritten.ends)))

module _ {S : Type 0} (store : Ghosts S) (zone : ZoneState) (on mid : FilesOn S) (u : Update) (outcome : Outcome) where
  -- a file that wasn't written ends as its update did
  pub closes_refused : is_err outcome ≡ true → WritesFile store zone on (Writing (UpdateResFile None)) u outcome zone mid → WritesFile store zone on (Writing (CloseResFile None)) u outcome zone mid
  closes_refused given written = by_case (fits_fork u.table) written
    where
      same_ends : (dev : Device) → (let e : ResourceEnd = update_end dev (Writing (UpdateResFile None)) u (state_of store.fork zone on) in is_err e.outcome ≡ true)
          → update_end dev (Writing (CloseResFile None)) u (state_of store.fork zone on) ≡ update_end dev (Writing (UpdateResFile None)) u (state_of store.fork zone on)
      same_ends device.Works is = absurd (cc is)
      same_ends device.FailsBefore is = refl
      same_ends (device.FailsWriting left) is = refl

      by_case : (b : Bool) → MatchBool b (Writes store zone on (Writing (UpdateResFile None)) u outcome zone mid) (IsUnwritten store zone on outcome zone mid)
          → MatchBool b (Writes store zone on (Writing (CloseResFile None)) u outcome zone mid) (IsUnwritten store zone on outcome zone mid)
      by_case true w = record {
        device = w.device;
        after = w.after;
        becomes = w.becomes;
        leaves = w.leaves;
        ends = same_ends w.device (ap (λ (e : ResourceEnd). is_err e.outcome) w.ends ∙ given) ∙ w.ends;
        cause = w.cause;
      }
      by_case false unwritten = unwritten
