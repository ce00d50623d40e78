-- The entries of a block from a place on, by what is read there.
use Rattle.std.proofs.Common.{◌≡◌, ℕ, zero, suc, ◌+◌, ◌*◌, ◌/◌, true, false, List, [], ◌∷◌, ◌++◌, slice_index, Option, None, Some, nat_le, nat_lt, ◌||◌, refl, sym, ap}
use Rattle.std.proofs.lemmas.List.{append_assoc, append-nil}
use Rattle.mfs_volume.specs.declared.directory.MfsFile.{MfsFile}
use Rattle.mfs_volume.specs.declared.fault.MfsFault.{MfsFault}
use Rattle.mfs_volume.specs.declared.fault.MfsFault.TheVariants.{Entry}
use Rattle.fork_disk.specs.Disk.{bytes_at}
use Rattle.mfs_volume.specs.Directory.{Entries, end_of, entry_at, entries_from, entries_in, entries_before, ended}

module _ (place : ℕ) (block : List ℕ) (at : ℕ) (rest : Entries) where
  -- none begins there
  pub none_here : (n : ℕ) → (nat_le 512 at || nat_lt (slice_index block at) 128) ≡ true → entries_from place block n at rest ≡ rest
  unfolding entries_from
  none_here zero none = refl
  none_here (suc more) none = rw none refl

  -- or none is left
  pub none_left : (n : ℕ) → n ≡ 0 → entries_from place block n at rest ≡ rest
  unfolding entries_from
  none_left n none = rw none refl

  -- it has a fault
  pub fault_here : (n more : ℕ) → n ≡ suc more → (nat_le 512 at || nat_lt (slice_index block at) 128) ≡ false → end_of block at ≡ None
      → entries_from place block n at rest ≡ ended (Some (Entry (place + at))) rest
  unfolding entries_from
  fault_here n more left some none = rw left (rw some (rw none refl))

  -- or it is one, and others come after it
  pub entry_here : (n more end : ℕ) → n ≡ suc more → (nat_le 512 at || nat_lt (slice_index block at) 128) ≡ false → end_of block at ≡ Some end
      → entries_from place block n at rest ≡ entries_before (entry_at place block at ∷ []) (entries_from place block more ((end + 1) / 2 * 2) rest)
  unfolding entries_from
  entry_here n more end left some is = rw left (rw some (rw is refl))

-- one more entry
pub one_more : (files : List MfsFile) (file : MfsFile) (rest : Entries) → entries_before files (entries_before (file ∷ []) rest) ≡ entries_before (files ++ file ∷ []) rest
one_more files file rest = ap (λ (xs : List MfsFile). record { files = xs; fault = rest.fault }) (sym (append_assoc files (file ∷ []) rest.files))

-- entries with a fault after them, and with nothing
pub faulty : (files : List MfsFile) (fault : Option MfsFault) → entries_before files (record { files = []; fault = fault }) ≡ record { files = files; fault = fault }
faulty files fault = ap (λ (xs : List MfsFile). record { files = xs; fault = fault }) (append-nil files)

-- the entries of one more block, and of none
pub next_block : (place : ℕ) (bytes : List ℕ) (n more index : ℕ) → n ≡ suc more
    → entries_in place bytes n index ≡ entries_from (place + index * 512) (bytes_at 512 (index * 512) bytes) 10 0 (entries_in place bytes more (index + 1))
unfolding entries_in
next_block place bytes n more index left = rw left refl

pub no_block : (place : ℕ) (bytes : List ℕ) (n index : ℕ) → n ≡ 0 → entries_in place bytes n index ≡ record { files = []; fault = None }
unfolding entries_in
no_block place bytes n index none = rw none refl
