-- What is read at a block's place in the bytes of a zone.
use Rattle.std.proofs.Common.{◌≡◌, ℕ, ◌+◌, ◌<◌, ◌≤◌, List, ◌∷◌, ◌++◌, length, drop, refl, ap, ◌∙◌, arith, append_assoc, length-append, drop_at}
use Rattle.mac_base.specs.HeadKind.{head_size, zone_header}
use Rattle.mac_base.specs.ZoneSizes.{ArePossible}
use Rattle.mac_base.proofs.Reach.{end-small}
use Rattle.raw_region.specs.Bytes.{part}
use Rattle.raw_region.specs.Span.{IsFree}
use Rattle.raw_region.proofs.Moved.{part-append-first, part-append-second}
use Rattle.block_bytes.specs.declared.blocks.Blocks.TheInside.{Inside}
use Rattle.block_bytes.specs.Head.{head_bytes, header_in}
use Rattle.block_bytes.specs.Layout.{RawBlock, Layout, body, size_of, total_of, header_of}
use Rattle.block_bytes.specs.Reading.{layout_of, IsLayout}
use Rattle.block_bytes.proofs.Heads.{length-head_bytes, header_in-head_bytes}
use Rattle.block_bytes.proofs.Rendered.{part-middle}
use Rattle.block_bytes.proofs.Settled.{head-free}
use Rattle.block_bytes.proofs.Walking.{size_of-pos}
use Rattle.block_bytes.proofs.Parts.{front, rear, head, length-front, IsIn-from}

-- the header of a block is at this offset
pub record ReadAt (z : Inside) (l : Layout) (at : ℕ) (here : RawBlock) : Type 0 where
  pub header : header_in z.spec.heads (drop at z.memory.bytes) ≡ header_of l.heads here
  pub head : part z.memory.bytes at (head_size z.spec.heads) ≡ head_bytes l.heads l.base (header_of l.heads here)
  pub free : IsFree z.memory.lent at (head_size z.spec.heads)
  pub below : at + size_of l.heads here ≤ z.spec.size
  pub headed : head_size z.spec.heads ≤ size_of l.heads here
  pub some : 0 < size_of l.heads here
  pub same : head_size z.spec.heads ≡ head_size l.heads

module _ (z : Inside) (whole : IsLayout z) (before : List RawBlock) (here : RawBlock) (after : List RawBlock) (is : (layout_of z).blocks ≡ before ++ here ∷ after) where
  -- its header
  pub header-read : ArePossible z.spec → (place : ℕ) → place ≡ zone_header + total_of z.spec.heads before → header_in z.spec.heads (drop place z.memory.bytes) ≡ header_of z.spec.heads here
  header-read small place there =
      let i = IsIn-from z whole before here after is in let l = layout_of z in let e = length-front l before in let top = end-small z.spec.heads in
      ap (λ (m : List ℕ). header_in z.spec.heads (drop place m)) i.bytes
      ∙ ap (header_in z.spec.heads) (drop_at (front l before) (head l here ++ (body here ++ rear l after)) place (omega arith))
      ∙ header_in-head_bytes z.spec.heads z.spec.base (header_of z.spec.heads here) (body here ++ rear l after) (omega arith) i.here_possible.few i.here_possible.told (omega arith)

  -- as bytes
  pub head-read : (place : ℕ) → place ≡ zone_header + total_of z.spec.heads before → part z.memory.bytes place (head_size z.spec.heads) ≡ head (layout_of z) here
  head-read place there =
      let i = IsIn-from z whole before here after is in let l = layout_of z in let e = length-front l before in let e' = length-head_bytes z.spec.heads z.spec.base (header_of z.spec.heads here) in
      ap (λ (m : List ℕ). part m place (head_size z.spec.heads)) i.bytes
      ∙ part-middle (front l before) (head l here) (body here ++ rear l after) place (head_size z.spec.heads) (omega arith) (omega arith)

  -- all that is known of it
  pub read-at : ArePossible z.spec → (place : ℕ) → place ≡ zone_header + total_of z.spec.heads before → ReadAt z (layout_of z) place here
  read-at small place there = let i = IsIn-from z whole before here after is in record {
    header = header-read small place there;
    head = head-read place there;
    free = head-free z whole before here after is place there;
    below = omega arith;
    headed = omega arith;
    some = size_of-pos z.spec.heads here;
    same = refl;
  }

  -- the bytes up to its contents, its contents, and those after
  contents-parts : z.memory.bytes ≡ (front (layout_of z) before ++ head (layout_of z) here) ++ (here.contents ++ (here.slack ++ rear (layout_of z) after))
  contents-parts = let i = IsIn-from z whole before here after is in i.bytes ∙ simp append_assoc

  -- where its contents begin
  contents-place : length (front (layout_of z) before ++ head (layout_of z) here) ≡ zone_header + total_of z.spec.heads before + head_size z.spec.heads
  contents-place = let i = IsIn-from z whole before here after is in let l = layout_of z in
      let e = length-front l before in let e' = length-append (front l before) (head l here) in let e'' = length-head_bytes z.spec.heads z.spec.base (header_of z.spec.heads here) in omega arith

  -- its contents
  pub contents-read : (place n : ℕ) → place ≡ zone_header + total_of z.spec.heads before + head_size z.spec.heads → n ≡ length here.contents → part z.memory.bytes place n ≡ here.contents
  contents-read place n there long = let e = contents-place in let l = layout_of z in
      ap (λ (m : List ℕ). part m place n) contents-parts ∙ part-middle (front l before ++ head l here) here.contents (here.slack ++ rear l after) place n (omega arith) long

  -- a part of them
  pub part-read : (place offset n : ℕ) → place ≡ zone_header + total_of z.spec.heads before + head_size z.spec.heads + offset → offset + n ≤ length here.contents
      → part z.memory.bytes place n ≡ part here.contents offset n
  part-read place offset n there fits = let e = contents-place in let l = layout_of z in
      let pre = front l before ++ head l here in let post = here.slack ++ rear l after in
      ap (λ (m : List ℕ). part m place n) contents-parts ∙ ap (λ (k : ℕ). part (pre ++ (here.contents ++ post)) k n) (let k : place ≡ length pre + offset = omega arith in k)
      ∙ part-append-second pre (here.contents ++ post) offset n ∙ part-append-first here.contents post offset n fits
