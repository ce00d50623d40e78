-- Where the bytes of a disk are, in a file of which all is seen.
use Rattle.std.proofs.Common.{◌≡◌, ℕ, ◌-◌, ◌^◌, ◌<◌, min, List, [], ◌∷◌, length, Ok, refl, ap, ◌∙◌, arith}
use Rattle.disk_ranges.specs.declared.read.Range.{Range}
use Rattle.disk_ranges.specs.Ranges.{bytes_of, total, AreWithin}
use Rattle.disk_image.specs.declared.known.Known.{Known}
use Rattle.disk_image.specs.declared.known.Known.TheVariants.{RawCd, DiskCopy}
use Rattle.disk_image.specs.declared.view.View.{View}
use Rattle.disk_image.specs.Devices.{bytes_in, whole_of, data_of, sectors_of, device_of}
use Rattle.disk_image.specs.Known.{number_at}
use Rattle.disk_image.proofs.Views.{whole_is}

-- the data of a DiskCopy image lie within the file
pub data_is : (file count at size rest : ℕ) → at ≡ min file 84 → rest ≡ file - 84 → size ≡ min count rest → record { at = at; length = size } ∷ [] ≡ data_of file count
unfolding data_of
data_is file count at size rest begins left ends = rw (begins, ends, left) refl

pub data_within : (file count : ℕ) → file < 2 ^ 64 → AreWithin file (data_of file count)
unfolding data_of total
data_within file count low = record { short = (omega (arith, low), tt); few = omega (arith, low); inside = (omega arith, tt) }

pub data_total : (file count size : ℕ) → size ≡ min count (file - 84) → size ≡ total (data_of file count)
unfolding data_of total
data_total file count size is = omega (arith, is)

module _ (view : View) (file : List ℕ) (known : Known) (whole : view.ranges.items ≡ whole_of view.file) (same : view.file ≡ length file) where
  all : bytes_in view file ≡ file
  all = ap (λ (rs : List Range). bytes_of rs file) whole ∙ whole_is view.file file same

  -- what a DiskCopy image has
  pub copy_is : (count : ℕ) (ranges : List Range) → known ≡ DiskCopy → count ≡ number_at 4 64 (bytes_in view file) → ranges ≡ data_of view.file count → device_of file known ≡ Ok ranges
  copy_is count ranges is counts are =
      let number : count ≡ number_at 4 64 file = counts ∙ ap (number_at 4 64) all in
      rw (is, are, number, same) refl

  -- and a raw CD
  pub raw_is : known ≡ RawCd → device_of file known ≡ sectors_of view.file (number_at 1 15 (bytes_in view file))
  raw_is is = rw (is, all, same) refl
