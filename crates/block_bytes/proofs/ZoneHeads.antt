-- A zone's header as bytes: how long it is, what is read there, and that its numbers are written.
use Rattle.std.proofs.Common.{◌≡◌, ℕ, ◌/◌, ◌%◌, ◌<◌, ◌^◌, List, [], ◌∷◌, ◌++◌, length, take, drop, refl, ap, sym, subst, ◌∙◌, arith, append_assoc, append-nil, length-append, take-append-drop}
use Rattle.std.proofs.lemmas.List.{length-replicate}
use Rattle.byteorder.specs.Endian.{big_bytes, big_number}
use Rattle.byteorder.specs.Numbers.{big_from-bytes}
use Rattle.raw_region.specs.Bytes.{part, written}
use Rattle.raw_region.proofs.Numbers.{length-big_bytes, number-bytes}
use Rattle.mac_base.specs.HeadKind.{zone_header, slot_count}
use Rattle.block_bytes.specs.ZoneHead.{end_field, front_field, free_field, lowest_field, zeros, zone_head}
use Rattle.block_bytes.proofs.Rendered.{part-middle, written-middle}

-- how many zeros there are
pub length-zeros : (n : ℕ) → length (zeros n) ≡ n
length-zeros n = length-replicate {A = ℕ} n 0

module _ (end front free lowest : ℕ) (rest : List ℕ) where
  -- the bytes before the first free slot's
  abbrev before_front : List ℕ
  before_front = big_bytes 4 end ++ zeros 4

  -- those after them, up to the lowest free block's
  abbrev past_free : List ℕ
  past_free = zeros 4 ++ (big_bytes 2 slot_count ++ zeros 26)

  -- its bytes in parts
  pub zone_head-parts : zone_head end front free lowest ++ rest ≡ before_front ++ (big_bytes 4 front ++ (big_bytes 4 free ++ (past_free ++ (big_bytes 4 lowest ++ rest))))
  zone_head-parts = simp append_assoc

  -- those before the first free slot's
  length-before_front : length before_front ≡ front_field
  length-before_front = let a = length-append (big_bytes 4 end) (zeros 4) in let b = length-big_bytes 4 end in let c = length-zeros 4 in omega arith

  -- those between the free bytes and the lowest free block's
  length-past_free : length past_free ≡ 32
  length-past_free = let a = length-append (zeros 4) (big_bytes 2 slot_count ++ zeros 26) in let b = length-append (big_bytes 2 slot_count) (zeros 26) in
      let c = length-zeros 4 in let d = length-zeros 26 in let e = length-big_bytes 2 slot_count in omega arith

  -- the first free slot is read
  pub front-read : front < 2 ^ 32 → big_number 4 (part (zone_head end front free lowest ++ rest) front_field 4) ≡ front
  front-read small = let long = length-big_bytes 4 front in let before = length-before_front in
      ap (λ (l : List ℕ). big_number 4 (part l front_field 4)) zone_head-parts
      ∙ ap (big_number 4) (part-middle before_front (big_bytes 4 front) (big_bytes 4 free ++ (past_free ++ (big_bytes 4 lowest ++ rest))) front_field 4 (omega arith) (omega arith))
      ∙ number-bytes 4 front (omega arith)

  -- what is read there is below 2^32 in any case
  pub front-small : big_number 4 (part (zone_head end front free lowest ++ rest) front_field 4) < 2 ^ 32
  front-small = let long = length-big_bytes 4 front in let before = length-before_front in
      let is : big_number 4 (part (zone_head end front free lowest ++ rest) front_field 4) ≡ big_number 4 (big_bytes 4 front) =
      ap (λ (l : List ℕ). big_number 4 (part l front_field 4)) zone_head-parts
      ∙ ap (big_number 4) (part-middle before_front (big_bytes 4 front) (big_bytes 4 free ++ (past_free ++ (big_bytes 4 lowest ++ rest))) front_field 4 (omega arith) (omega arith)) in
      subst (λ (n : ℕ). n < 2 ^ 32) (sym is) (bounded front)
    where
      bounded : (n : ℕ) → big_number 4 (big_bytes 4 n) < 2 ^ 32
      bounded n = omega arith

  -- it is what the four bytes say
  pub front-said : big_number 4 (part (zone_head end front free lowest ++ rest) front_field 4) ≡ big_number 4 (big_bytes 4 front)
  front-said = let long = length-big_bytes 4 front in let before = length-before_front in
      ap (λ (l : List ℕ). big_number 4 (part l front_field 4)) zone_head-parts
      ∙ ap (big_number 4) (part-middle before_front (big_bytes 4 front) (big_bytes 4 free ++ (past_free ++ (big_bytes 4 lowest ++ rest))) front_field 4 (omega arith) (omega arith))

  -- the free bytes are read
  pub free-read : free < 2 ^ 32 → big_number 4 (part (zone_head end front free lowest ++ rest) free_field 4) ≡ free
  free-read small = let long = length-big_bytes 4 free in let before = length-before_front in let sum = length-append before_front (big_bytes 4 front) in let more = length-big_bytes 4 front in
      ap (λ (l : List ℕ). big_number 4 (part l free_field 4)) (zone_head-parts ∙ sym (append_assoc before_front (big_bytes 4 front) (big_bytes 4 free ++ (past_free ++ (big_bytes 4 lowest ++ rest)))))
      ∙ ap (big_number 4) (part-middle (before_front ++ big_bytes 4 front) (big_bytes 4 free) (past_free ++ (big_bytes 4 lowest ++ rest)) free_field 4 (omega arith) (omega arith))
      ∙ number-bytes 4 free (omega arith)

  -- the lowest free block's address is read
  pub lowest-read : lowest < 2 ^ 32 → big_number 4 (part (zone_head end front free lowest ++ rest) lowest_field 4) ≡ lowest
  lowest-read small = let long = length-big_bytes 4 lowest in let before = length-before_front in
      let one = length-big_bytes 4 front in let two = length-big_bytes 4 free in let three = length-past_free in
      let pre = before_front ++ (big_bytes 4 front ++ (big_bytes 4 free ++ past_free)) in
      let a = length-append before_front (big_bytes 4 front ++ (big_bytes 4 free ++ past_free)) in let b = length-append (big_bytes 4 front) (big_bytes 4 free ++ past_free) in
      let c = length-append (big_bytes 4 free) past_free in
      let parts : zone_head end front free lowest ++ rest ≡ pre ++ (big_bytes 4 lowest ++ rest) = simp append_assoc in
      ap (λ (l : List ℕ). big_number 4 (part l lowest_field 4)) parts
      ∙ ap (big_number 4) (part-middle pre (big_bytes 4 lowest) rest lowest_field 4 (omega arith) (omega arith))
      ∙ number-bytes 4 lowest (omega arith)

  -- the end is written
  pub end-written : (n : ℕ) → written (zone_head end front free lowest ++ rest) end_field (big_bytes 4 n) ≡ zone_head n front free lowest ++ rest
  end-written n = let long = length-big_bytes 4 end in let long' = length-big_bytes 4 n in
      let after = zeros 4 ++ (big_bytes 4 front ++ (big_bytes 4 free ++ (past_free ++ big_bytes 4 lowest))) in
      let parts : zone_head end front free lowest ++ rest ≡ [] ++ (big_bytes 4 end ++ (after ++ rest)) = simp append_assoc in
      ap (λ (l : List ℕ). written l end_field (big_bytes 4 n)) parts
      ∙ written-middle [] (big_bytes 4 end) (after ++ rest) (big_bytes 4 n) end_field refl (omega arith)
      ∙ sym (simp append_assoc)

  -- the first free slot is written
  pub front-written : (n : ℕ) → written (zone_head end front free lowest ++ rest) front_field (big_bytes 4 n) ≡ zone_head end n free lowest ++ rest
  front-written n = let long = length-big_bytes 4 front in let long' = length-big_bytes 4 n in let before = length-before_front in
      ap (λ (l : List ℕ). written l front_field (big_bytes 4 n)) zone_head-parts
      ∙ written-middle before_front (big_bytes 4 front) (big_bytes 4 free ++ (past_free ++ (big_bytes 4 lowest ++ rest))) (big_bytes 4 n) front_field (omega arith) (omega arith)
      ∙ sym (simp append_assoc)

  -- the free bytes are written
  pub free-written : (n : ℕ) → written (zone_head end front free lowest ++ rest) free_field (big_bytes 4 n) ≡ zone_head end front n lowest ++ rest
  free-written n = let long = length-big_bytes 4 free in let long' = length-big_bytes 4 n in let before = length-before_front in let sum = length-append before_front (big_bytes 4 front) in let more = length-big_bytes 4 front in
      ap (λ (l : List ℕ). written l free_field (big_bytes 4 n)) (zone_head-parts ∙ sym (append_assoc before_front (big_bytes 4 front) (big_bytes 4 free ++ (past_free ++ (big_bytes 4 lowest ++ rest)))))
      ∙ written-middle (before_front ++ big_bytes 4 front) (big_bytes 4 free) (past_free ++ (big_bytes 4 lowest ++ rest)) (big_bytes 4 n) free_field (omega arith) (omega arith)
      ∙ sym (simp append_assoc)

  -- the lowest free block is written
  pub lowest-written : (n : ℕ) → written (zone_head end front free lowest ++ rest) lowest_field (big_bytes 4 n) ≡ zone_head end front free n ++ rest
  lowest-written n = let long = length-big_bytes 4 lowest in let long' = length-big_bytes 4 n in let before = length-before_front in
      let one = length-big_bytes 4 front in let two = length-big_bytes 4 free in let three = length-past_free in
      let pre = before_front ++ (big_bytes 4 front ++ (big_bytes 4 free ++ past_free)) in
      let a = length-append before_front (big_bytes 4 front ++ (big_bytes 4 free ++ past_free)) in let b = length-append (big_bytes 4 front) (big_bytes 4 free ++ past_free) in
      let c = length-append (big_bytes 4 free) past_free in
      let parts : zone_head end front free lowest ++ rest ≡ pre ++ (big_bytes 4 lowest ++ rest) = simp append_assoc in
      ap (λ (l : List ℕ). written l lowest_field (big_bytes 4 n)) parts
      ∙ written-middle pre (big_bytes 4 lowest) rest (big_bytes 4 n) lowest_field (omega arith) (omega arith)
      ∙ sym (simp append_assoc)

-- how many bytes there are
pub length-zone_head : (end front free lowest : ℕ) → length (zone_head end front free lowest) ≡ zone_header
length-zone_head end front free lowest =
    let one = length-big_bytes 4 end in let two = length-big_bytes 4 front in let three = length-big_bytes 4 free in let four = length-big_bytes 4 lowest in let five = length-big_bytes 2 slot_count in
    let c = length-zeros 4 in let d = length-zeros 26 in
    let p = big_bytes 2 slot_count ++ (zeros 26 ++ big_bytes 4 lowest) in
    let q = big_bytes 4 free ++ (zeros 4 ++ p) in
    let a1 = length-append (big_bytes 4 end) (zeros 4 ++ (big_bytes 4 front ++ q)) in let a2 = length-append (zeros 4) (big_bytes 4 front ++ q) in let a3 = length-append (big_bytes 4 front) q in
    let a4 = length-append (big_bytes 4 free) (zeros 4 ++ p) in let a5 = length-append (zeros 4) p in let a6 = length-append (big_bytes 2 slot_count) (zeros 26 ++ big_bytes 4 lowest) in
    let a7 = length-append (zeros 26) (big_bytes 4 lowest) in omega arith

-- four bytes are those of the number that they say
pub bytes-said : (n : ℕ) → big_bytes 4 (big_number 4 (big_bytes 4 n)) ≡ big_bytes 4 n
bytes-said n =
    let is : big_number 4 (big_bytes 4 n) ≡ n % 2 ^ 32 = ap (big_number 4) (sym (append-nil (big_bytes 4 n))) ∙ big_from-bytes 4 n [] in
    let a : n % 2 ^ 32 / 0x100_0000 % 256 ≡ n / 0x100_0000 % 256 = omega arith in
    let b : n % 2 ^ 32 / 0x1_0000 % 256 ≡ n / 0x1_0000 % 256 = omega arith in
    let d : n % 2 ^ 32 / 0x100 % 256 ≡ n / 0x100 % 256 = omega arith in
    let e : n % 2 ^ 32 % 256 ≡ n % 256 = omega arith in
    ap (big_bytes 4) is ∙ (λ i. a i ∷ (b i ∷ (d i ∷ (e i ∷ []))))

-- the header says the same of the free slots where the number that its bytes say is written
pub front-again : (end front free lowest : ℕ) (rest : List ℕ)
    → zone_head end (big_number 4 (part (zone_head end front free lowest ++ rest) front_field 4)) free lowest ≡ zone_head end front free lowest
front-again end front free lowest rest =
    ap (λ (l : List ℕ). big_bytes 4 end ++ (zeros 4 ++ (l ++ (big_bytes 4 free ++ (zeros 4 ++ (big_bytes 2 slot_count ++ (zeros 26 ++ big_bytes 4 lowest)))))))
    (ap (big_bytes 4) (front-said end front free lowest rest) ∙ bytes-said front)

-- bytes with a zone's header, and those after it
pub head-parts : (bytes : List ℕ) (end front free lowest : ℕ) → take zone_header bytes ≡ zone_head end front free lowest → bytes ≡ zone_head end front free lowest ++ drop zone_header bytes
head-parts bytes end front free lowest is = sym (take-append-drop zone_header bytes) ∙ ap (λ (l : List ℕ). l ++ drop zone_header bytes) is

-- a header with the number that the bytes say of the free slots is theirs
pub front-same : (bytes : List ℕ) (end front free lowest : ℕ) → take zone_header bytes ≡ zone_head end front free lowest
    → zone_head end (big_number 4 (part bytes front_field 4)) free lowest ≡ take zone_header bytes
front-same bytes end front free lowest is =
    ap (λ (l : List ℕ). zone_head end (big_number 4 (part l front_field 4)) free lowest) (head-parts bytes end front free lowest is)
    ∙ front-again end front free lowest (drop zone_header bytes) ∙ sym is
