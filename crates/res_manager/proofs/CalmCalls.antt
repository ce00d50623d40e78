-- Calls that write no file and open none.
use Rattle.std.proofs.Common.{◌≡◌, ℕ, false, List, Option, Some, None, Ok, Err, refl, ap, sym, subst, ◌∙◌}
use Rattle.std.specs.Prelude.{OnOk}
use Rattle.std.specs.Option.{option_map_or, option_or}
use Rattle.mac_base.specs.declared.resource_call.ResourceCall.{ResourceCall}
use Rattle.mac_base.specs.declared.resource_call.ResourceCall.TheVariants.{Getting, Writing}
use Rattle.mac_base.specs.declared.resource_call.GettingCall.{GettingCall}
use Rattle.mac_base.specs.declared.resource_call.WritingCall.TheVariants.{WriteResource}
use Rattle.mac_base.specs.Outcomes.{Outcome}
use Rattle.fork_disk.specs.declared.store.ForkStore.{Ghosts}
use Rattle.res_table.specs.declared.chain.RowPlace.{RowPlace}
use Rattle.res_update.specs.Files.{ResState}
use Rattle.res_update.specs.Loads.{row_wanted}
use Rattle.res_update.specs.Steps.{Work, Gets, Quiet, updating, work_of, IsSaved, ReadsBack, update_in}
use Rattle.res_update.specs.Tests.{first_refused_for, resource_refusal}
use Rattle.res_update.specs.Updates.{Update, can_be_made, row_passes, row_update}
use Rattle.mac_base.specs.declared.error.OsErr.TheVariants.{DskFulErr}
use Rattle.mac_base.specs.Tests.{unless_passed}
use Rattle.res_table.specs.Rows.{is_changed}
use Rattle.res_manager.specs.Crash.{IsSettled, file_settled}
use Rattle.res_manager.specs.Tests.{early_tests}
use Rattle.res_manager.proofs.Refusals.{passed-early}

-- work that writes no file and opens none
pub record IsIdle (work : Work) : Type 0 where
  pub no_update : update_in work ≡ None
  pub no_file : file_settled work ≡ None

pub no_work : IsIdle Quiet
no_work = record { no_update = refl; no_file = refl }

idle : (place : Option RowPlace) → IsIdle (option_map_or Gets place Quiet)
idle None = no_work
idle (Some p) = record { no_update = refl; no_file = refl }

-- the work of a call that gets or loads a resource
pub getting_work : (state : ResState) (call : GettingCall) → IsIdle (work_of state (Getting call))
getting_work state call = idle (row_wanted state (Getting call))

-- and that on the row of a handle that isn't changed
pub unchanged_work : (state : ResState) (h : ℕ) → row_passes is_changed h state.files ≡ false → IsIdle (work_of state (Writing (WriteResource h)))
unchanged_work state h same = rw same (record { no_update = refl; no_file = refl })

module _ {S : Type 0} (store : Ghosts S) (stores : List S) (work : Work) (idle : IsIdle work) where
  -- it settles no file
  pub calm_settles : (outcome : Outcome) → OnOk outcome (IsSettled store (file_settled work) stores)
  calm_settles (Ok done) = subst (λ (o : Option _). IsSettled store o stores) (sym idle.no_file) (λ journal. tt)
  calm_settles (Err code) = tt

-- and saves none
pub calm_reads : (honest : ℕ → Type 0) (old new : ResState) (c : ResourceCall) → IsIdle (work_of old c) → (outcome : Outcome) → ReadsBack honest old c outcome new
calm_reads honest old new c idle (Ok done) = subst (λ (o : Option Update). IsSaved honest o new) (sym idle.no_update) tt
calm_reads honest old new c idle (Err code) = tt

-- where the row of a handle isn't changed, there is nothing to write
module _ (state : ResState) (h : ℕ) (same : row_passes is_changed h state.files ≡ false) where
  no_update : row_update state h ≡ None
  no_update = rw same refl

  pub unchanged_quiet : work_of state (Writing (WriteResource h)) ≡ Quiet
  unchanged_quiet = ap updating no_update

  pub unchanged_passes : first_refused_for state (early_tests (Writing (WriteResource h))) ≡ None → resource_refusal state (Writing (WriteResource h)) ≡ None
  unchanged_passes passed = passed-early state (Writing (WriteResource h)) passed ∙ ap (λ (o : Option Update). option_or (unless_passed DskFulErr (can_be_made o)) None) no_update
