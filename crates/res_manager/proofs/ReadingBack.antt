-- Updated files read back as their tables.
use Rattle.std.proofs.Common.{◌≡◌, ◌∙◌, ℕ, List, Option, Some, None, option_map, sym, ap, subst}
use Rattle.std.specs.Prelude.{IfSome, OnOk}
use Rattle.mac_base.specs.ZoneState.{ZoneState}
use Rattle.mac_base.specs.declared.resource_call.ResourceCall.{ResourceCall}
use Rattle.mac_base.specs.Outcomes.{Outcome}
use Rattle.fork_bytes.specs.Fork.{StandsFor}
use Rattle.res_table.specs.OpenFiles.{table_of}
use Rattle.res_update.specs.Changes.{FileTable, Files, saved_table}
use Rattle.res_update.specs.Device.{Disk}
use Rattle.res_update.specs.Files.{ResState}
use Rattle.res_update.specs.Updates.{Update, update_of}
use Rattle.res_files.specs.FilesOn.{FilesOn, fork_of}
use Rattle.res_manager.specs.Steps.{state_of}
use Rattle.res_update.specs.Steps.{IsSaved, ReadsBack, update_in}
use Rattle.res_manager.proofs.OpenedFiles.{disk-fork}
use Rattle.res_manager.proofs.UpdatingCalls.{Makes}

-- a fork that stands for the table is that of the update
pub saved_update : {S : Type 0} (honest : ℕ → Type 0) (fork : S → List ℕ) (zone : ZoneState) (after : FilesOn S) (k : ℕ) (change : FileTable → FileTable) (files : Files)
    → (honest k → IfSome (table_of k files) (λ table. StandsFor (fork_of fork k after.stores) (saved_table (change table)))) → IsSaved honest (update_of k change files) (state_of fork zone after)
saved_update honest fork zone after k change files stands = by_case (table_of k files) stands
  where
    by_case : (o : Option FileTable) → (honest k → IfSome o (λ table. StandsFor (fork_of fork k after.stores) (saved_table (change table))))
        → IsSaved honest (option_map (λ (table : FileTable). let v : Update = record { file = k; table = change table } in v) o) (state_of fork zone after)
    by_case (Some table) h = λ is. subst (λ (d : Disk). StandsFor d (saved_table (change table))) (sym (disk-fork fork zone after k)) (h is)
    by_case None h = tt

-- a call that makes this update
pub made_reads : {S : Type 0} (honest : ℕ → Type 0) (fork : S → List ℕ) (zone : ZoneState) (on : FilesOn S) (c : ResourceCall) (u : Update) (update : Option Update) (outcome : Outcome) (new : ResState) → Makes fork zone on c u → update ≡ Some u
    → OnOk outcome (IsSaved honest update new) → ReadsBack honest (state_of fork zone on) c outcome new
made_reads honest fork zone on c u update outcome new made is saved =
    subst (λ (o : Option Update). OnOk outcome (IsSaved honest o new)) (is ∙ sym (ap update_in made.work)) saved
