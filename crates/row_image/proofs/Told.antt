-- What is said of a row is read again.
use Rattle.std.proofs.Common.{◌≡◌, ℕ, ◌^◌, ◌<◌, List, [], ◌++◌, length, drop, Option, Some, None, refl, ap, ◌∙◌}
use Rattle.std.proofs.lemmas.List.{drop_at}
use Rattle.byteorder.specs.Endian.{big_number, big_bytes}
use Rattle.byteorder.specs.Numbers.{big_number-reads_back}
use Rattle.fork_bytes.specs.declared.place.Place.{Place}
use Rattle.row_image.specs.declared.info.RowInfo.{RowInfo}
use Rattle.row_image.specs.Infos.{info_text}
use Rattle.row_image.specs.Images.{IsTold}
use Rattle.row_image.specs.Reading.{four_at, info_in}

-- a number that was written is read again
number_in : (n x at : ℕ) (before rest : List ℕ) → length before ≡ at → x < 256 ^ n → big_number n (drop at (before ++ (big_bytes n x ++ rest))) ≡ x
number_in n x at before rest long fits = ap (big_number n) (drop_at before (big_bytes n x ++ rest) at long) ∙ big_number-reads_back n x rest fits

-- the three numbers, and what follows them
first : (a : ℕ) (rest : List ℕ) → a < 2 ^ 32 → four_at 0 (big_bytes 4 a ++ rest) ≡ a
first a rest fits = big_number-reads_back 4 a rest fits

second : (a b : ℕ) (rest : List ℕ) → b < 2 ^ 32 → four_at 4 (big_bytes 4 a ++ (big_bytes 4 b ++ rest)) ≡ b
second a b rest fits = number_in 4 b 4 (big_bytes 4 a) rest refl fits

read_with : (place : Place) (handle : Option ℕ) → IsTold (record { place = place; handle = handle }) → info_in (info_text (record { place = place; handle = handle })) ≡ Some (record { place = place; handle = handle })
read_with place None told =
    let o = first place.offset (big_bytes 4 place.length ++ []) told.offset in
    let l = second place.offset place.length [] told.length in
    ap (λ (n : ℕ). Some (record { place = record { offset = n; length = four_at 4 (info_text (record { place = place; handle = None })) }; handle = None })) o
    ∙ ap (λ (n : ℕ). Some (record { place = record { offset = place.offset; length = n }; handle = None })) l
read_with place (Some h) told =
    let whole = info_text (record { place = place; handle = Some h }) in
    let o : four_at 0 whole ≡ place.offset = first place.offset (big_bytes 4 place.length ++ big_bytes 4 h) told.offset in
    let l : four_at 4 whole ≡ place.length = second place.offset place.length (big_bytes 4 h) told.length in
    let g : four_at 8 whole ≡ h = number_in 4 h 8 (big_bytes 4 place.offset ++ big_bytes 4 place.length) [] refl told.handle in
    ap (λ (n : ℕ). Some (record { place = record { offset = n; length = four_at 4 whole }; handle = Some (four_at 8 whole) })) o
    ∙ ap (λ (n : ℕ). Some (record { place = record { offset = place.offset; length = n }; handle = Some (four_at 8 whole) })) l
    ∙ ap (λ (n : ℕ). Some (record { place = record { offset = place.offset; length = place.length }; handle = Some n })) g

pub read_again : (i : RowInfo) → IsTold i → info_in (info_text i) ≡ Some i
read_again i told = read_with i.place i.handle told
