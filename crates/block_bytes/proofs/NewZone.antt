-- The bytes of a new zone.
use Rattle.std.proofs.Common.{None, ◌≡◌, ℕ, suc, ◌+◌, ◌-◌, ◌/◌, ◌≤◌, Bool, true, List, [], ◌∷◌, ◌++◌, length, replicate, refl, sym, ap, ◌∙◌, arith, append_assoc, append-nil, take_at, IsTrue}
use Rattle.std.specs.Prelude.{◌&&◌}
use Rattle.std.proofs.Math.ListN.{set}
use Rattle.std.proofs.lemmas.List.{length-replicate, replicate-append-replicate, set_at}
use Rattle.mac_base.specs.declared.block.HeadKind.{HeadKind}
use Rattle.mac_base.specs.declared.block.HeadKind.TheVariants.{Bits24, Bits32}
use Rattle.mac_base.specs.HeadKind.{head_size, smallest_block, zone_header}
use Rattle.mac_base.specs.ZoneSizes.{ZoneSizes, ArePossible}
use Rattle.mac_base.proofs.Reach.{end-small}
use Rattle.raw_region.specs.Bytes.{part, written, length-written}
use Rattle.raw_region.specs.State.{State, with_bytes}
use Rattle.block_bytes.specs.declared.header.Header.{Header}
use Rattle.block_bytes.specs.declared.header.Role.TheVariants.{Free}
use Rattle.block_bytes.specs.Head.{head_bytes}
use Rattle.block_bytes.specs.ZoneHead.{zone_head}
use Rattle.block_bytes.specs.Layout.{free_raw_block, size_of, header_of, header_bytes, is_possible}
use Rattle.block_bytes.specs.NewLayout.{new_layout}
use Rattle.block_bytes.specs.Starts.{free_mark}
use Rattle.block_bytes.proofs.Heads.{length-head_bytes}
use Rattle.block_bytes.proofs.Rendered.{written-middle}
use Rattle.block_bytes.proofs.ZoneHeads.{length-zone_head}
use Rattle.block_bytes.proofs.Parts.{IsRead, image-read, length-header}
use Rattle.block_bytes.specs.Reading.{times}
use Rattle.block_bytes.proofs.Walking.{is_possible-from}

-- headers and least blocks are small
pub sizes-small : (heads : HeadKind) → (head_size heads ≤ 400) × (smallest_block heads ≤ 400)
sizes-small Bits24 = (omega arith, omega arith)
sizes-small Bits32 = (omega arith, omega arith)

-- lists in a row
regrouped : (a b c d : List ℕ) → a ++ (b ++ (c ++ d)) ≡ a ++ ((b ++ (c ++ ([] ++ []))) ++ d)
regrouped a b c d = sym (simp (append_assoc, append-nil))

-- so many bytes of zero
abbrev zeros : ℕ → List ℕ
zeros n = replicate n 0

module _ (z : ZoneSizes) (possible : ArePossible z) where
  -- the contents of its one block
  abbrev room : ℕ
  room = z.size - zone_header - head_size z.heads

  -- as many as were asked for
  length-zeros : (n : ℕ) → length (zeros n) ≡ n
  length-zeros n = length-replicate {A = ℕ} n 0

  -- the zeros that it is made of
  zero-parts : zeros z.limit ≡ zeros zone_header ++ (zeros (head_size z.heads) ++ (zeros room ++ zeros (z.limit - z.size)))
  zero-parts = let small = sizes-small z.heads in let one = small.0 in
      sym (ap (λ (l : List ℕ). zeros zone_header ++ (zeros (head_size z.heads) ++ l)) (replicate-append-replicate room (z.limit - z.size) 0)
      ∙ ap (λ (l : List ℕ). zeros zone_header ++ l) (replicate-append-replicate (head_size z.heads) (room + (z.limit - z.size)) 0)
      ∙ replicate-append-replicate zone_header (head_size z.heads + (room + (z.limit - z.size))) 0
      ∙ ap (λ (n : ℕ). zeros n) (let e : zone_header + (head_size z.heads + (room + (z.limit - z.size))) ≡ z.limit = omega arith in e))

  -- those of its header are zero
  pub front-zero : part (zeros z.limit) 0 zone_header ≡ zeros zone_header
  front-zero = ap (λ (l : List ℕ). part l 0 zone_header) zero-parts ∙ take_at (zeros zone_header) (zeros (head_size z.heads) ++ (zeros room ++ zeros (z.limit - z.size))) zone_header (length-zeros zone_header)

  -- the marks of one block
  first-marked : (size m : ℕ) → size ≡ z.size - zone_header
      → set (zeros (z.limit / 4)) (zone_header / 4) m ≡ zeros (zone_header / 4) ++ ((m ∷ (zeros (size / 4 - 1) ++ [])) ++ zeros (length (zeros (z.limit - z.size)) / 4))
  first-marked size m is = let long = length-zeros (z.limit - z.size) in let rest = zeros (length (zeros (z.limit - z.size)) / 4) in
      ap (λ (n : ℕ). set (zeros n) (zone_header / 4) m)
      (let e : z.limit / 4 ≡ zone_header / 4 + (suc (size / 4 - 1 + length (zeros (z.limit - z.size)) / 4)) = omega arith in e)
      ∙ sym (ap (λ (l : List ℕ). set l (zone_header / 4) m) (replicate-append-replicate (zone_header / 4) (suc (size / 4 - 1 + length (zeros (z.limit - z.size)) / 4)) 0))
      ∙ ap (λ (l : List ℕ). set (zeros (zone_header / 4) ++ (0 ∷ l)) (zone_header / 4) m) (sym (replicate-append-replicate (size / 4 - 1) (length (zeros (z.limit - z.size)) / 4) 0))
      ∙ set_at (zeros (zone_header / 4)) 0 (zeros (size / 4 - 1) ++ rest) m (zone_header / 4) (length-zeros (zone_header / 4))
      ∙ ap (λ (l : List ℕ). zeros (zone_header / 4) ++ (m ∷ (l ++ rest))) (sym (append-nil (zeros (size / 4 - 1))))

  -- the fields of a new zone stand for it
  pub new-read : (start first m : State) (index : List ℕ) (heads : HeadKind) (base end free lowest : ℕ) (h : Header) → heads ≡ z.heads → base ≡ z.base
      → h ≡ record { size = z.size - zone_header; role = Free; correction = 0 } → end ≡ z.base + z.size → free ≡ z.size - zone_header → lowest ≡ z.base + zone_header
      → start.bytes ≡ zeros z.limit → start.lent ≡ [] → first ≡ with_bytes start 0 (zone_head end 0 free lowest) → m ≡ with_bytes first zone_header (head_bytes heads base h)
      → index ≡ set (zeros (z.limit / 4)) (zone_header / 4) free_mark
      → IsRead (record { spec = z; memory = m; index = index; loans = 0; kept = None }) (new_layout m.name z)
  new-read start first m index heads base end free lowest h heads_is base_is h_is end_is free_is lowest_is start_is none first_is m_is marks =
      let small = sizes-small z.heads in let one = small.0 in let two = small.1 in let top = end-small z.heads in
      let b = free_raw_block (zeros room) in let long = length-zeros room in let spare_long = length-zeros (z.limit - z.size) in let head_long = length-zeros zone_header in
      let old_long = length-zeros (head_size z.heads) in let new_long = length-head_bytes z.heads z.base (header_of z.heads b) in
      let size : z.size - zone_header ≡ size_of z.heads b = omega arith in
      let header : h ≡ header_of z.heads b = h_is ∙ ap (λ (n : ℕ). record { size = n; role = Free; correction = 0 }) size in
      let told : IsTrue (is_possible z.heads b) = is_possible-from z.heads b (record { even = omega arith; large = omega arith; few = omega arith; told = refl; lendable = refl }) in
      let zone = header_bytes (new_layout m.name z) in let zone_long = length-zone_head end 0 free lowest in let zone_long' = length-header (new_layout m.name z) in
      let rest = zeros (head_size z.heads) ++ (zeros room ++ zeros (z.limit - z.size)) in
      let end_at : end ≡ z.base + zone_header + (size_of z.heads b + 0) = omega arith in let free_at : free ≡ size_of z.heads b + 0 = omega arith in let lowest_at : lowest ≡ z.base + zone_header + 0 = omega arith in
      let head : zone_head end 0 free lowest ≡ zone = (λ i. zone_head (end_at i) 0 (free_at i) (lowest_at i)) in
      let first_bytes : first.bytes ≡ zone ++ rest = ap (λ (s : State). s.bytes) first_is ∙ (λ i. written ((start_is ∙ zero-parts) i) 0 (head i))
      ∙ written-middle [] (zeros zone_header) rest zone 0 refl (omega arith) in
      let bytes : m.bytes ≡ zone ++ (head_bytes z.heads z.base (header_of z.heads b) ++ (zeros room ++ zeros (z.limit - z.size))) = ap (λ (s : State). s.bytes) m_is
      ∙ (λ i. written (first_bytes i) zone_header (head_bytes (heads_is i) (base_is i) (header i)))
      ∙ written-middle zone (zeros (head_size z.heads)) (zeros room ++ zeros (z.limit - z.size)) (head_bytes z.heads z.base (header_of z.heads b)) zone_header (omega arith) (omega arith) in
      let all : length m.bytes ≡ z.limit = ap (λ (s : State). length s.bytes) m_is ∙ length-written first.bytes zone_header (head_bytes heads base h) ∙ ap (λ (s : State). length s.bytes) first_is
      ∙ length-written start.bytes 0 (zone_head end 0 free lowest) ∙ ap length start_is ∙ length-zeros z.limit in
      let lent : m.lent ≡ [] = ap (λ (s : State). s.lent) m_is ∙ ap (λ (s : State). s.lent) first_is ∙ none in
      image-read (record { spec = z; memory = m; index = index; loans = 0; kept = None }) m.name 0 (b ∷ []) (zeros (z.limit - z.size)) refl (omega arith) (omega arith) (ap (λ (t : Bool). t && true) told) (omega arith) (omega arith) (omega arith) all
      (bytes ∙ regrouped zone (head_bytes z.heads z.base (header_of z.heads b)) (zeros room) (zeros (z.limit - z.size)))
      (marks ∙ first-marked (size_of z.heads b) free_mark (omega arith))
      (λ s. ap (times s) lent) refl (omega arith)
