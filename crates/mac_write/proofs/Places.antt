-- What is at a place of a list, by what is left from there on.
use Rattle.std.proofs.Common.{◌≡◌, ℕ, ◌+◌, ◌^◌, ◌<◌, List, ◌∷◌, ◌++◌, length, take, drop, sym, ap, ◌∙◌, arith}
use Rattle.std.specs.Prelude.{slice_index}
use Rattle.std.proofs.lemmas.List.{drop-drop, drop_at, get_or-drop, take_at}
use Rattle.byteorder.specs.Endian.{big_bytes, big_from}
use Rattle.byteorder.specs.Numbers.{big_number-reads_back}
use Rattle.mac_write.proofs.Segments.{number_at}

-- what is left after a part
pub next : (at n to : ℕ) (text part rest : List ℕ) → drop at text ≡ part ++ rest → length part ≡ n → at + n ≡ to → drop to text ≡ rest
next at n to text part rest is long sum =
    ap (λ (k : ℕ). drop k text) (sym sum) ∙ sym (drop-drop n at text) ∙ ap (drop n) is ∙ drop_at part rest n long

pub part_there : (at n : ℕ) (text part rest : List ℕ) → drop at text ≡ part ++ rest → length part ≡ n → take n (drop at text) ≡ part
part_there at n text part rest is long = ap (take n) is ∙ take_at part rest n long

pub number_there : (at n x : ℕ) (text rest : List ℕ) → drop at text ≡ big_bytes n x ++ rest → x < 256 ^ n → big_from at n text ≡ x
number_there at n x text rest is small = number_at at n text ∙ ap (big_from 0 n) is ∙ big_number-reads_back n x rest small

pub byte_there : (at x : ℕ) (text rest : List ℕ) → drop at text ≡ x ∷ rest → slice_index text at ≡ x
byte_there at x text rest is =
    let place : at ≡ at + 0 = omega arith in
    ap (λ (k : ℕ). slice_index text k) place ∙ sym (get_or-drop at text 0 0) ∙ ap (λ (xs : List ℕ). slice_index xs 0) is
