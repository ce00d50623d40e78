-- Lists of bytes, and parts of them.
use Rattle.std.proofs.Common.{◌≡◌, ◌⊎◌, inl, inr, ℕ, ◌+◌, ◌-◌, ◌≤◌, List, [], ◌++◌, length, take, drop, replicate, refl, sym, ap, ◌∙◌, arith}
use Rattle.std.proofs.lemmas.List.{take_at, drop_all, drop-drop, take_rest, length-append, append-nil, length-drop, length-take-le, length-replicate}
use borrow.Rule.Slice.PartMut.{put_mid, post_of}
use Rattle.byteorder.specs.Endian.{big_bytes}
use Rattle.mac_files.specs.declared.container.Version.{Version}
use Rattle.mac_files.specs.declared.container.Version.TheVariants.{I, II, III}
use Rattle.mac_files.specs.Crc.{crc_of}
use Rattle.mac_write.specs.Bytes.{filled, put}
use Rattle.mac_write.specs.MacBinary.{with_sum}

-- nothing is left after the last byte
post_none : (at : ℕ) (xs : List ℕ) → at ≤ length xs → post_of at (length xs - at) xs ≡ []
post_none at xs within = drop_all (length xs - at) (drop at xs) (omega (arith, length-drop at xs))

-- the rest of a slice is written from its start on
pub written_at : (at n : ℕ) (xs bytes ys : List ℕ) → at ≤ length xs → n ≡ length bytes → ys ≡ bytes ++ drop n (take (length xs - at) (drop at xs))
    → put_mid at (length xs - at) xs ys ≡ put at bytes xs
written_at at n xs bytes ys within long is =
    ap (λ (zs : List ℕ). take at xs ++ (ys ++ zs)) (post_none at xs within) ∙ ap (λ (zs : List ℕ). take at xs ++ zs) (append-nil ys ∙ is)
    ∙ ap (λ (zs : List ℕ). take at xs ++ (bytes ++ zs)) (ap (λ (zs : List ℕ). drop n zs) (take_rest xs at) ∙ drop-drop n at xs ∙ ap (λ (k : ℕ). drop (at + k) xs) long)

pub length-put : (at : ℕ) (bytes xs : List ℕ) → at + length bytes ≤ length xs → length (put at bytes xs) ≡ length xs
length-put at bytes xs within =
    let one = length-append (take at xs) (bytes ++ drop (at + length bytes) xs) in
    let two = length-append bytes (drop (at + length bytes) xs) in
    let three = length-drop (at + length bytes) xs in
    let four = length-take-le at xs (omega arith) in omega arith

pub length-filled : (count : ℕ) (bytes : List ℕ) → length bytes ≤ count → length (filled count bytes) ≡ count
length-filled count bytes few =
    let zeros : List ℕ = replicate (count - length bytes) 0 in
    let one = length-append bytes zeros in
    let two : length zeros ≡ count - length bytes = length-replicate (count - length bytes) 0 in omega (arith, one, two)

pub length-with_sum : (version : Version) (header : List ℕ) → 128 ≤ length header → length (with_sum version header) ≡ length header
length-with_sum I header long = refl
length-with_sum II header long = length-put 124 (big_bytes 2 (crc_of (take 124 header))) header (omega arith)
length-with_sum III header long = length-put 124 (big_bytes 2 (crc_of (take 124 header))) header (omega arith)

-- all of a list was replaced
pub replaced : (n : ℕ) (xs ys : List ℕ) → n ≡ length ys → take n (ys ++ drop (length ys) xs) ≡ ys
replaced n xs ys is = take_at ys (drop (length ys) xs) n (sym is)

-- the checksum is in the header of the versions that have one
pub summed : (version : Version) (header : List ℕ) → (version ≡ II) ⊎ (version ≡ III)
    → put 124 (big_bytes 2 (crc_of (take 124 header))) header ≡ with_sum version header
summed version header (inl is) = rw is refl
summed version header (inr is) = rw is refl
