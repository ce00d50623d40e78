-- Blocks of bytes apart where the blocks that they are are apart.
use Rattle.std.proofs.Common.{◌≡◌, ℕ, ◌+◌, List, [], ◌∷◌, ◌++◌, map, refl, ap, ◌∙◌, arith}
use Rattle.mac_base.specs.declared.block.HeadKind.{HeadKind}
use Rattle.block_bytes.specs.Layout as raw
use Rattle.block_bytes.specs.Layout.{RawBlock, Layout, size_of}
use Rattle.zone_records.specs.Records.{BlockRecord, total_of}
use Rattle.zone_records.specs.Reading.{record_in}

-- the blocks that blocks of bytes are
abbrev pub read : HeadKind → ℕ → List RawBlock → List BlockRecord
read heads base = map (record_in heads base)

-- they have the same sizes
pub total-read : (heads : HeadKind) (base : ℕ) (bs : List RawBlock) → total_of (read heads base bs) ≡ raw.total_of heads bs
total-read heads base [] = refl
total-read heads base (b ∷ bs) = ap (λ n. size_of heads b + n) (total-read heads base bs)

-- sizes add up
pub total-append : (heads : HeadKind) (xs ys : List RawBlock) → raw.total_of heads (xs ++ ys) ≡ raw.total_of heads xs + raw.total_of heads ys
total-append heads [] ys = omega arith
total-append heads (b ∷ xs) ys = let rest = total-append heads xs ys in omega arith

-- one list after the other
pub read-append : (heads : HeadKind) (base : ℕ) (xs ys : List RawBlock) → read heads base (xs ++ ys) ≡ read heads base xs ++ read heads base ys
read-append heads base [] ys = refl
read-append heads base (b ∷ xs) ys = ap (λ (rs : List BlockRecord). record_in heads base b ∷ rs) (read-append heads base xs ys)

-- blocks of bytes in two parts
pub record InTwo (heads : HeadKind) (base : ℕ) (all : List RawBlock) (low high : List BlockRecord) : Type 0 where
  pub first : List RawBlock
  pub rest : List RawBlock
  pub blocks : all ≡ first ++ rest
  pub lower : read heads base first ≡ low
  pub upper : read heads base rest ≡ high

pub in-two : (heads : HeadKind) (base : ℕ) (all : List RawBlock) (low high : List BlockRecord) → read heads base all ≡ low ++ high → InTwo heads base all low high
in-two heads base all [] high is = record { first = []; rest = all; blocks = refl; lower = refl; upper = is }
in-two heads base [] (r ∷ low) high is = absurd (cc is)
in-two heads base (b ∷ bs) (r ∷ low) high is =
    let here : record_in heads base b ≡ r = cc is in
    let both = in-two heads base bs low high (cc is) in
    record { first = b ∷ both.first; rest = both.rest; blocks = ap (λ (xs : List RawBlock). b ∷ xs) both.blocks; lower = λ i. here i ∷ both.lower i; upper = both.upper }

-- the first of some blocks, and those after it
pub record FirstOf (heads : HeadKind) (base : ℕ) (all : List RawBlock) (here : BlockRecord) (after : List BlockRecord) : Type 0 where
  pub block : RawBlock
  pub rest : List RawBlock
  pub blocks : all ≡ block ∷ rest
  pub same : record_in heads base block ≡ here
  pub upper : read heads base rest ≡ after

pub first-of : (heads : HeadKind) (base : ℕ) (all : List RawBlock) (here : BlockRecord) (after : List BlockRecord) → read heads base all ≡ here ∷ after → FirstOf heads base all here after
first-of heads base [] here after is = absurd (cc is)
first-of heads base (b ∷ bs) here after is = record { block = b; rest = bs; blocks = refl; same = cc is; upper = cc is }

-- one block and those before and after it
pub record One (l : Layout) (before : List BlockRecord) (here : BlockRecord) (after : List BlockRecord) : Type 0 where
  pub first : List RawBlock
  pub block : RawBlock
  pub rest : List RawBlock
  pub blocks : l.blocks ≡ first ++ block ∷ rest
  pub lower : read l.heads l.base first ≡ before
  pub same : record_in l.heads l.base block ≡ here
  pub upper : read l.heads l.base rest ≡ after

pub one-of : (l : Layout) (before : List BlockRecord) (here : BlockRecord) (after : List BlockRecord) → read l.heads l.base l.blocks ≡ before ++ here ∷ after → One l before here after
one-of l before here after is =
    let a = in-two l.heads l.base l.blocks before (here ∷ after) is in
    let b = first-of l.heads l.base a.rest here after a.upper in
    record { first = a.first; block = b.block; rest = b.rest; blocks = a.blocks ∙ ap (λ (xs : List RawBlock). a.first ++ xs) b.blocks; lower = a.lower; same = b.same; upper = b.upper }

-- two neighbours and those before and after them
pub record Two (l : Layout) (before : List BlockRecord) (here next : BlockRecord) (after : List BlockRecord) : Type 0 where
  pub first : List RawBlock
  pub block : RawBlock
  pub other : RawBlock
  pub rest : List RawBlock
  pub blocks : l.blocks ≡ first ++ block ∷ other ∷ rest
  pub lower : read l.heads l.base first ≡ before
  pub same : record_in l.heads l.base block ≡ here
  pub same_other : record_in l.heads l.base other ≡ next
  pub upper : read l.heads l.base rest ≡ after

pub two-of : (l : Layout) (before : List BlockRecord) (here next : BlockRecord) (after : List BlockRecord) → read l.heads l.base l.blocks ≡ before ++ here ∷ next ∷ after → Two l before here next after
two-of l before here next after is =
    let a = one-of l before here (next ∷ after) is in
    let b = first-of l.heads l.base a.rest next after a.upper in
    record { first = a.first; block = a.block; other = b.block; rest = b.rest; blocks = a.blocks ∙ ap (λ (xs : List RawBlock). a.first ++ a.block ∷ xs) b.blocks; lower = a.lower; same = a.same; same_other = b.same; upper = b.upper }
