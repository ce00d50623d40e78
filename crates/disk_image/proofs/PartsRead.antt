-- The partitions that were read so far, with those that are left, are those of the map.
use Rattle.std.proofs.Common.{◌≡◌, ℕ, suc, ◌+◌, ◌*◌, ◌==◌, true, false, List, [], ◌∷◌, ◌++◌, Result, Ok, Err, refl, sym, ap}
use Rattle.std.proofs.lemmas.List.{append_assoc, append-nil}
use Rattle.std.proofs.lemmas.Bool.{eq-eqb}
use Rattle.std.specs.List.{slice_range}
use Rattle.byteorder.specs.Endian.{big_from}
use Rattle.fork_disk.specs.Disk.{bytes_at}
use Rattle.disk_image.specs.declared.fault.ImageFault.{ImageFault}
use Rattle.disk_image.specs.declared.fault.ImageFault.TheVariants.{Mark}
use Rattle.disk_image.specs.declared.map.Grid.{Grid}
use Rattle.disk_image.specs.declared.part.Part.{Part}
use Rattle.disk_image.specs.Maps.{part_in, parts_before, parts_from, old_part, is_blank, old_parts_from}

-- what was read is all
abbrev pub read_all : List Part → Result (List Part) ImageFault
read_all parts = Ok parts

-- partitions before one and others
both_before : (parts : List Part) (part : Part) (rest : Result (List Part) ImageFault) → parts_before parts (parts_before (part ∷ []) rest) ≡ parts_before (parts ++ part ∷ []) rest
both_before parts part (Ok others) = ap read_all (sym (append_assoc parts (part ∷ []) others))
both_before parts part (Err fault) = refl

module _ (disk : List ℕ) (grid : Grid) where
  -- one more entry
  pub part_read : (parts : List Part) (number left more : ℕ) (entry : List ℕ) (part : Part) → left ≡ suc more → entry ≡ bytes_at 512 (grid.step * number) disk
      → big_from 0 2 entry ≡ 0x504D → part ≡ part_in grid number entry
      → parts_before parts (parts_from disk grid number left) ≡ parts_before (parts ++ part ∷ []) (parts_from disk grid (number + 1) more)
  unfolding parts_from
  part_read parts number left more entry part some is marked said =
      rw (some, ← is, eq-eqb (big_from 0 2 entry) 0x504D marked, said) (both_before parts (part_in grid number entry) (parts_from disk grid (number + 1) more))

  -- or one without its mark
  pub part_faults : (parts : List Part) (number left more : ℕ) (entry : List ℕ) → left ≡ suc more → entry ≡ bytes_at 512 (grid.step * number) disk
      → (big_from 0 2 entry == 0x504D) ≡ false
      → parts_before parts (parts_from disk grid number left) ≡ Err (Mark number (grid.step * number))
  unfolding parts_from
  part_faults parts number left more entry some is unmarked = rw (some, ← is, unmarked) refl

  -- and none after the last
  pub no_part : (parts : List Part) (number left : ℕ) → left ≡ 0 → parts_before parts (parts_from disk grid number left) ≡ Ok parts
  unfolding parts_from
  no_part parts number left none = rw none (ap read_all (append-nil parts))

-- The same of the old map.
pub old_more : (parts : List Part) (block entry : List ℕ) (index left more : ℕ) (part : Part) → left ≡ suc more → entry ≡ slice_range block (2 + 12 * index) (14 + 12 * index) → is_blank entry ≡ false
    → part ≡ old_part (index + 1) entry
    → parts ++ old_parts_from block index left ≡ (parts ++ part ∷ []) ++ old_parts_from block (index + 1) more
unfolding old_parts_from
old_more parts block entry index left more part some is used said =
    rw (some, ← is, used, said) (sym (append_assoc parts (old_part (index + 1) entry ∷ []) (old_parts_from block (index + 1) more)))

pub old_ends : (parts : List Part) (block entry : List ℕ) (index left more : ℕ) → left ≡ suc more → entry ≡ slice_range block (2 + 12 * index) (14 + 12 * index) → is_blank entry ≡ true
    → parts ++ old_parts_from block index left ≡ parts
unfolding old_parts_from
old_ends parts block entry index left more some is blank = rw (some, ← is, blank) (append-nil parts)

pub no_old : (parts : List Part) (block : List ℕ) (index left : ℕ) → left ≡ 0 → parts ++ old_parts_from block index left ≡ parts
unfolding old_parts_from
no_old parts block index left none = rw none (append-nil parts)
