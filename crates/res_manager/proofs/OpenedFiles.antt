-- How opening a file ends.
use Rattle.std.proofs.Common.{◌≡◌, ℕ, ◌-◌, List, length, Result, Ok, Err, refl, sym, ap, subst, ◌∙◌, ◌⊎◌, inl, inr}
use Rattle.std.specs.Prelude.{OnErr}
use Rattle.std.proofs.lemmas.List.{length-map}
use Rattle.res_files.proofs.Stores.{fork_or}
use Rattle.mac_base.specs.declared.error.OsErr.{OsErr}
use Rattle.mac_base.specs.declared.error.OsErr.TheVariants.{IoErr}
use Rattle.mac_base.specs.ZoneState.{ZoneState}
use Rattle.mac_base.specs.declared.reply.Results.TheVariants.{Number}
use Rattle.res_update.specs.Changes.{FileTable, Files}
use Rattle.fork_disk.specs.declared.store.ForkStore.{Ghosts}
use Rattle.res_update.specs.Answered.{IsAnswered, IsOpening, answered_disks, known_files}
use Rattle.res_update.specs.Device.{Disk, Reads}
use Rattle.res_update.specs.Device as device
use Rattle.res_update.specs.Files.{ResState, disk_of, with_files}
use Rattle.res_files.specs.FilesOn.{FailedAt, FilesOn, HonestAt, NoneFailed, fork_of}
use Rattle.res_files.specs.Opening.{MayRead}
use Rattle.res_table.specs.OpenFiles.{file_opened}
use Rattle.res_manager.specs.Ends.{OpensFile}
use Rattle.res_manager.specs.Steps.{state_of}
use Rattle.res_manager.proofs.Known.{answered-parts}

-- the disk of a file is the fork of its store
pub disk-fork : {S : Type 0} (fork : S → List ℕ) (zone : ZoneState) (on : FilesOn S) (k : ℕ) → disk_of k (state_of fork zone on) ≡ fork_of fork k on.stores
disk-fork fork zone on k = fork_or fork on.stores (k - 1)

module _ {S : Type 0} (store : Ghosts S) (zone : ZoneState) (on after : FilesOn S) (k : ℕ) (forks : (n : ℕ) → HonestAt store.is_honest after.stores n → fork_of store.fork n after.stores ≡ fork_of store.fork n on.stores)
    (loads : after.loads ≡ on.loads) (count : length after.stores ≡ length on.stores) where
  abbrev state : ResState
  state = state_of store.fork zone on

  -- what was read of the disk
  reads_disk : (read : Result FileTable OsErr) → IsOpening read → (HonestAt store.is_honest after.stores k → Reads (fork_of store.fork k on.stores) read) → (answered_disks (HonestAt store.is_honest after.stores) store.may_leave k).may_read (disk_of k state) read
  reads_disk read opening reads = (opening, λ honest. subst (λ (d : Disk). Reads d read) (sym (disk-fork store.fork zone on k)) (reads honest))

  -- the state with such files is as the devices answered
  leaves_files : (files : Files) → after.files ≡ files → IsAnswered (HonestAt store.is_honest after.stores) (state_of store.fork zone after) (with_files files state)
  leaves_files files is = answered-parts (HonestAt store.is_honest after.stores) (state_of store.fork zone after) (with_files files state) refl refl (λ known are. ap (known_files known) (sym is)) (sym loads)
      (length-map on.stores store.fork ∙ sym count ∙ sym (length-map after.stores store.fork)) (λ n low honest. disk-fork store.fork zone on n ∙ sym (forks n honest) ∙ sym (disk-fork store.fork zone after n))

  -- the file is open then
  pub opens : (table : FileTable) → IsOpening (Ok table) → (HonestAt store.is_honest after.stores k → Reads (fork_of store.fork k on.stores) (Ok table)) → after.files ≡ file_opened k table on.files → NoneFailed store.failures on.stores after.stores
      → OpensFile store zone on k (Ok (Number k)) after
  opens table opening reads files works = record {
    device = device.Works;
    read = Ok table;
    after = with_files (file_opened k table on.files) state;
    becomes = leaves_files (file_opened k table on.files) files;
    reads = reads_disk (Ok table) opening reads;
    ends = refl;
    cause = works;
  }

  -- or the call is refused, and no file is opened
  pub opens_none : (code : OsErr) → (MayRead (HonestAt store.is_honest after.stores k) (fork_of store.fork k on.stores) (Err code) × NoneFailed store.failures on.stores after.stores)
      ⊎ ((code ≡ IoErr) × FailedAt store.failures k on.stores after.stores) → after.files ≡ on.files → OpensFile store zone on k (Err code) after
  opens_none code (inl (read, works)) files = record {
    device = device.Works;
    read = Err code;
    after = state;
    becomes = leaves_files on.files files;
    reads = reads_disk (Err code) read.0 read.1;
    ends = refl;
    cause = works;
  }
  opens_none code (inr (io, failed)) files = record {
    device = device.FailsBefore;
    read = Err code;
    after = state;
    becomes = leaves_files on.files files;
    reads = ap Err io;
    ends = refl;
    cause = failed;
  }

  -- so it is where the host has no memory for it
  pub opens_full : {T E : Type 0} (result : Result T E) → OnErr result (after.files ≡ on.files) → OnErr result (IsAnswered (HonestAt store.is_honest after.stores) (state_of store.fork zone after) (state_of store.fork zone on))
  opens_full (Ok done) same = tt
  opens_full (Err full) same = leaves_files on.files same
