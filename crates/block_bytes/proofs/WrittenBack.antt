-- What is left after a slice of a block's contents.
use Rattle.std.proofs.Common.{◌≡◌, ℕ, ◌+◌, ◌-◌, ◌<◌, ◌≤◌, Bool, true, false, Option, List, [], ◌∷◌, ◌++◌, length, take, drop, replicate, refl, sym, ap, ◌∙◌, arith, length-take, length-drop, append-nil}
use Rattle.std.specs.Prelude.{◌==◌, if◌then◌else◌}
use Rattle.std.proofs.lemmas.List.{length-replicate, nil_from_length}
use Rattle.std.proofs.lemmas.Bool.Decides.{nat_tests}
use Rattle.std.proofs.lemmas.Bool.{eq-eqb}
use Rattle.mac_base.specs.declared.block.HeadKind.{HeadKind}
use Rattle.mac_base.specs.HeadKind.{head_size}
use Rattle.mac_base.specs.ZoneSizes.{ArePossible}
use Rattle.mac_base.specs.ZoneState.{overwritten}
use Rattle.raw_region.specs.Bytes.{written}
use Rattle.raw_region.specs.State.{with_bytes}
use Rattle.raw_region.proofs.Lists.{written_is}
use Rattle.block_bytes.specs.declared.header.Header.{Header}
use Rattle.block_bytes.specs.declared.blocks.Blocks.TheInside.{Inside}
use Rattle.block_bytes.specs.Layout.{RawBlock, BlockAt, cleared, cleared_from, size_of, total_of, header_of, with_blocks, address_after}
use Rattle.block_bytes.specs.declared.record.Record.{Record}
use Rattle.block_bytes.specs.Reading.{layout_of, IsWhole}
use Rattle.block_bytes.specs.Record.{all_noted}
use Rattle.block_bytes.specs.Structure.{is_master}
use Rattle.block_bytes.specs.WritingBack.{overwritten_at, with_contents_at}
use Rattle.block_bytes.proofs.Rendered.{written-whole}
use Rattle.block_bytes.proofs.ReadBlocks.{head_size-positive}
use Rattle.block_bytes.proofs.Recorded.{Grows, IsReadWhole, NotedIn, grows-if, noted-if, written-kept}

-- a block with other contents
abbrev pub with_contents : RawBlock → List ℕ → RawBlock
with_contents b contents = record b { contents = contents }

-- a write over the front of a list, of no more bytes than it has
pub written-overwritten : (old ws : List ℕ) → written old 0 (take (length old) ws) ≡ overwritten old ws
written-overwritten [] [] = refl
written-overwritten [] (w ∷ ws) = refl
written-overwritten (x ∷ old) [] = refl
written-overwritten (x ∷ old) (w ∷ ws) = ap (λ (l : List ℕ). w ∷ l) (written-overwritten old ws)

-- numbers that differ by one above 0 don't
pub further : (x y k : ℕ) → 0 < k → y ≡ x + k → (x == y) ≡ false
further x y k some is = grind (arith, nat_tests)

-- of the blocks, the one at this address is written
pub overwritten-there : (heads : HeadKind) (at x : ℕ) (bytes : List ℕ) (before : List RawBlock) (here : RawBlock) (after : List RawBlock) → x ≡ at + total_of heads before
    → overwritten_at heads at x bytes (before ++ here ∷ after) ≡ before ++ with_contents here (overwritten here.contents bytes) ∷ after
overwritten-there heads at x bytes [] here after is =
    ap (λ (t : Bool). if t then with_contents here (overwritten here.contents bytes) ∷ after else here ∷ overwritten_at heads (at + size_of heads here) x bytes after) (eq-eqb at x (omega arith))
overwritten-there heads at x bytes (b ∷ before) here after is = let positive = head_size-positive heads in
    ap (λ (t : Bool). if t then with_contents b (overwritten b.contents bytes) ∷ (before ++ here ∷ after) else b ∷ overwritten_at heads (at + size_of heads b) x bytes (before ++ here ∷ after))
    (further at x (size_of heads b + total_of heads before) (omega arith) (omega arith))
    ∙ ap (λ (bs : List RawBlock). b ∷ bs) (overwritten-there heads (at + size_of heads b) x bytes before here after (omega arith))

-- as many bytes as a list has are all of it
drop_none : (xs : List ℕ) (k : ℕ) → length xs ≤ k → drop k xs ≡ []
drop_none xs k all = nil_from_length (drop k xs) (length-drop k xs ∙ omega arith)

-- zeros written over a list from a place on up to its end
zeroed : (xs : List ℕ) (from k : ℕ) → from ≤ k → k ≡ length xs → written xs from (replicate (k - from) 0) ≡ take from xs ++ replicate (length xs - from) 0
zeroed xs from k within is =
    let zeros = replicate {A = ℕ} (k - from) 0 in let long : length zeros ≡ k - from = length-replicate {A = ℕ} (k - from) 0 in
    let nothing : drop (length zeros) (drop from xs) ≡ [] = drop_none (drop from xs) (length zeros) (omega (arith, length-drop from xs)) in
    written_is xs from zeros (omega arith) ∙ ap (λ (l : List ℕ). take from xs ++ (zeros ++ l)) nothing ∙ ap (λ (l : List ℕ). take from xs ++ l) (append-nil zeros)
    ∙ ap (λ (n : ℕ). take from xs ++ replicate (n - from) 0) is

module _ (z : Inside) (whole : IsWhole z) (small : ArePossible z.spec) (at : ℕ) (h : Header) (place n : ℕ) (b : BlockAt (layout_of z) at) (is : h ≡ header_of z.spec.heads b.here) (unlent : b.here.lent ≡ false)
    (there : place ≡ at - z.spec.base + head_size z.spec.heads) (long : n ≡ h.size - head_size z.spec.heads - h.correction)
    (kept : Option Record) (noted : kept ≡ (if is_master h.role then all_noted z.kept else z.kept)) where
  -- how long the contents are
  n-is : n ≡ length b.here.contents
  n-is = let size : h.size ≡ size_of z.spec.heads b.here = ap (λ (h : Header). h.size) is in let slack : h.correction ≡ length b.here.slack = ap (λ (h : Header). h.correction) is in omega arith

  -- the record stays, and all bytes are noted where the block is a master block
  grows : Grows (length z.memory.bytes) z.kept kept
  grows = grows-if (length z.memory.bytes) (is_master h.role) z.kept kept noted

  own_noted : is_master b.here.role ≡ true → (i : ℕ) → NotedIn kept i
  own_noted master i = noted-if (is_master h.role) z.kept kept noted (ap (λ (h : Header). is_master h.role) is ∙ master) i

  -- other contents, of the same length
  other : (ws : List ℕ) → length ws ≤ n
      → IsReadWhole (record z { memory = with_bytes z.memory place ws; kept = kept }) (with_blocks (b.before ++ with_contents b.here (written b.here.contents 0 ws) ∷ b.after) (layout_of z))
  other ws few = let e = n-is in let at_is = b.place in
      written-kept z whole small b.before b.here b.after b.blocks 0 place ws unlent (omega arith) (omega arith) kept grows (λ master i low high. own_noted master i)

  -- what a slice of the contents leaves
  pub lent-read : (ws : List ℕ) → IsReadWhole (record z { memory = with_bytes z.memory place (take n ws); kept = kept }) (with_contents_at (layout_of z) at ws)
  lent-read ws = let e = n-is in let at_is = b.place in let l = layout_of z in let cut = length-take n ws in
      let read = other (take n ws) (omega arith) in
      let same : written b.here.contents 0 (take n ws) ≡ overwritten b.here.contents ws = ap (λ (k : ℕ). written b.here.contents 0 (take k ws)) e ∙ written-overwritten b.here.contents ws in
      let blocks : b.before ++ with_contents b.here (written b.here.contents 0 (take n ws)) ∷ b.after ≡ overwritten_at l.heads (address_after l []) at ws l.blocks =
      ap (λ (contents : List ℕ). b.before ++ with_contents b.here contents ∷ b.after) same
      ∙ sym (ap (overwritten_at l.heads (address_after l []) at ws) b.blocks ∙ overwritten-there l.heads (address_after l []) at ws b.before b.here b.after (omega arith)) in
      record { view = read.view ∙ ap (λ (bs : List RawBlock). with_blocks bs l) blocks; whole = read.whole }

  -- contents that are zero
  pub cleared-read : IsReadWhole (record z { memory = with_bytes z.memory place (replicate n 0); kept = kept }) (with_blocks (b.before ++ cleared b.here ∷ b.after) (layout_of z))
  cleared-read = let e = n-is in let l = layout_of z in let zeros : length {A = ℕ} (replicate n 0) ≡ n = length-replicate {A = ℕ} n 0 in
      let read = other (replicate n 0) (omega arith) in
      let same : written b.here.contents 0 (replicate n 0) ≡ replicate (length b.here.contents) 0 = written-whole b.here.contents (replicate n 0) (omega arith) ∙ ap (λ (k : ℕ). replicate k 0) e in
      record { view = read.view ∙ ap (λ (contents : List ℕ). with_blocks (b.before ++ with_contents b.here contents ∷ b.after) l) same; whole = read.whole }

  -- contents that are zero from a place on
  pub cleared-part : (from : ℕ) → from ≤ n → IsReadWhole (record z { memory = with_bytes z.memory (place + from) (replicate (n - from) 0); kept = kept }) (with_blocks (b.before ++ cleared_from b.here from ∷ b.after) (layout_of z))
  cleared-part from within = let e = n-is in let at_is = b.place in let l = layout_of z in let zeros : length {A = ℕ} (replicate (n - from) 0) ≡ n - from = length-replicate {A = ℕ} (n - from) 0 in
      let read = written-kept z whole small b.before b.here b.after b.blocks from (place + from) (replicate (n - from) 0) unlent (omega arith) (omega arith) kept grows (λ master i low high. own_noted master i) in
      let same = zeroed b.here.contents from n within e in
      record { view = read.view ∙ ap (λ (contents : List ℕ). with_blocks (b.before ++ with_contents b.here contents ∷ b.after) l) same; whole = read.whole }
