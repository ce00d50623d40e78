-- Reads of some of a resource's bytes, of forks in memory: each device is honest.
use Rattle.std.proofs.Common.{◌≡◌, refl, ap, subst, ℕ, Bool, List, length, Result, Ok, Err}
use Rattle.std.specs.Prelude.{⊤}
use Rattle.held_files.specs.Forks.{ForksState, failures_in, fork_in, seen_on}
use Rattle.held_files.specs.declared.elsewhere.OtherZones.{OtherZones}
use Rattle.held_files.specs.Making.{FailsAt}
use Rattle.held_files.specs.Partial.{ReadsOnForks}
use Rattle.held_zone.specs.State.{State}
use Rattle.mac_base.specs.HandleTable.{is_full}
use Rattle.res_update.proofs.Answering.{all_answered}
use Rattle.res_update.specs.declared.partial_end.PartialEnd.{PartialEnd}
use Rattle.res_update.specs.declared.partial_end.PartialEnd.TheVariants.{Done, InMemory, OutOfBounds, Refused}
use Rattle.res_update.specs.Answered.{IsAnswered}
use Rattle.res_update.specs.Changes.{Files}
use Rattle.res_update.specs.Files.{ResState}
use Rattle.res_update.specs.Partial.{ReadsData, ReadsPart, data_at, part_asked}
use Rattle.res_files.specs.FilesOn.{FailedAt, FilesOn, NoneFailed}
use Rattle.res_manager.specs.Partial.{ReadsPartOn}
use Rattle.res_manager.specs.Steps.{state_of}
use Rattle.res_table.specs.declared.chain.RowPlace.{RowPlace}
use Rattle.held_files.proofs.Honest.{Store, all_honest, counts-rose, honest_in, mem_store}

-- what is said of honest devices, and of those that failed, is said of others
module _ (honest other : ℕ → Type 0) (worked going : Type 0) (Failed Fails : ℕ → Type 0) (there : (k : ℕ) → other k → honest k) (work : worked → going) (fail : (k : ℕ) → Failed k → Fails k)
    (in_memory : Bool) (at : ℕ) (before after : List ℕ) where
  data_by : (k : ℕ) (own : List ℕ) (end : PartialEnd) → ReadsData honest worked Failed in_memory at before after k own end → ReadsData other going Fails in_memory at before after k own end
  data_by k own (Refused code) reads = (reads.0, reads.1, fail k reads.2)
  data_by k own Done reads = (reads.0, λ h. reads.1 (there k h), work reads.2)
  data_by k own InMemory reads = (reads.0, λ h. reads.1 (there k h), work reads.2)
  data_by k own OutOfBounds reads = (reads.0, λ h. reads.1 (there k h), work reads.2)

  part_by : (files : Files) (part : Result RowPlace PartialEnd) (end : PartialEnd) → ReadsPart honest worked Failed in_memory at before after files part end → ReadsPart other going Fails in_memory at before after files part end
  part_by files (Ok p) end reads = data_by p.file (data_at p files) end reads
  part_by files (Err refusal) end reads = (reads.0, reads.1, work reads.2)

-- such a read
reads-on : (zones : OtherZones) (zone : State) (on new_on : FilesOn Store) (h at : ℕ) (before after : List ℕ) (end : PartialEnd) → ReadsPartOn mem_store zone.zone on h at before after end new_on
    → IsAnswered (honest_in new_on.stores) (state_of fork_in zone.zone on) (state_of fork_in zone.zone new_on) → ReadsOnForks zone (seen_on zones on) h at before after end (seen_on zones new_on)
reads-on zones zone on new_on h at before after end reads answered = (
  (ap (λ (s : ResState). s.files) same, ap (λ (s : ResState). s.loads) same, ap (λ (s : ResState). s.disks) same),
  refl,
  part_by (honest_in new_on.stores) (λ k. ⊤) (NoneFailed failures_in on.stores new_on.stores) (NoneFailed failures_in on.stores new_on.stores) (λ k. FailedAt failures_in k on.stores new_on.stores) (λ k. FailsAt k (seen_on zones on).failures (seen_on zones new_on).failures)
      (λ k any. all_honest new_on.stores k) (λ works. works) (λ k failed. counts-rose k on.stores new_on.stores failed.1)
      (is_full zone.zone.heap.table h) at before after on.files (part_asked h at (length before) on.files) end reads,
)
  where
    same : state_of fork_in zone.zone new_on ≡ state_of fork_in zone.zone on
    same = all_answered (honest_in new_on.stores) (all_honest new_on.stores) (state_of fork_in zone.zone on) (state_of fork_in zone.zone new_on) answered

-- so it is with the zone and the files as they were seen
pub reads-seen : (zones : OtherZones) (zone : State) (on : FilesOn Store) (seen : State) (old : ForksState) → zone ≡ seen → seen_on zones on ≡ old → (new_on : FilesOn Store) (h at : ℕ) (before after : List ℕ) (end : PartialEnd)
    → ReadsPartOn mem_store zone.zone on h at before after end new_on → IsAnswered (honest_in new_on.stores) (state_of fork_in zone.zone on) (state_of fork_in zone.zone new_on)
    → ReadsOnForks seen old h at before after end (seen_on zones new_on)
reads-seen zones zone on seen old zone_is files_are new_on h at before after end reads answered =
    subst (λ (f : ForksState). ReadsOnForks seen f h at before after end (seen_on zones new_on)) files_are
    (subst (λ (s : State). ReadsOnForks s (seen_on zones on) h at before after end (seen_on zones new_on)) zone_is (reads-on zones zone on new_on h at before after end reads answered))
