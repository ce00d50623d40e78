-- Laws of the bytes of a list of blocks, and of what is read and written in the middle of a list.
use Rattle.std.proofs.Common.{◌≡◌, ℕ, zero, suc, ◌+◌, ◌≤◌, List, [], ◌∷◌, ◌++◌, length, take, refl, sym, ap, ◌∙◌, arith, append_assoc, length-append, take_at, drop_at}
use Rattle.mac_base.specs.declared.block.HeadKind.{HeadKind}
use Rattle.raw_region.specs.Bytes.{part, written}
use Rattle.block_bytes.specs.Head.{head_bytes}
use Rattle.block_bytes.specs.Layout.{RawBlock, total_of, header_of, rendered}
use Rattle.block_bytes.proofs.Heads.{length-head_bytes}

-- sizes add up
pub total_of-append : (heads : HeadKind) (xs ys : List RawBlock) → total_of heads (xs ++ ys) ≡ total_of heads xs + total_of heads ys
total_of-append heads [] ys = omega arith
total_of-append heads (b ∷ bs) ys = let more = total_of-append heads bs ys in omega arith

-- a list of blocks has as many bytes as its blocks
pub length-rendered : (heads : HeadKind) (base : ℕ) (bs : List RawBlock) → length (rendered heads base bs) ≡ total_of heads bs
length-rendered heads base [] = refl
length-rendered heads base (b ∷ bs) =
    let head = head_bytes heads base (header_of heads b) in let rest = rendered heads base bs in let more = length-rendered heads base bs in
    let e = length-append head (b.contents ++ (b.slack ++ rest)) in let e' = length-append b.contents (b.slack ++ rest) in let e'' = length-append b.slack rest in
    let long = length-head_bytes heads base (header_of heads b) in omega arith

-- the bytes of two lists of blocks, one after the other
pub rendered-append : (heads : HeadKind) (base : ℕ) (xs ys : List RawBlock) → rendered heads base (xs ++ ys) ≡ rendered heads base xs ++ rendered heads base ys
rendered-append heads base [] ys = refl
rendered-append heads base (b ∷ bs) ys =
    ap (λ (l : List ℕ). head_bytes heads base (header_of heads b) ++ (b.contents ++ (b.slack ++ l))) (rendered-append heads base bs ys) ∙ simp append_assoc

-- a part that is a list of three in a row
pub part-middle : (pre mid post : List ℕ) (at n : ℕ) → at ≡ length pre → n ≡ length mid → part (pre ++ (mid ++ post)) at n ≡ mid
part-middle pre mid post at n here long = ap (take n) (drop_at pre (mid ++ post) at (sym here)) ∙ take_at mid post n (sym long)

-- a write after the first of two lists
after_front : (front xs : List ℕ) (k : ℕ) (ws : List ℕ) → written (front ++ xs) (length front + k) ws ≡ front ++ written xs k ws
after_front [] xs k ws = ap (λ (j : ℕ). written xs j ws) (let e : 0 + k ≡ k = omega arith in e)
after_front (x ∷ front) xs k ws = ap (λ (j : ℕ). written (x ∷ (front ++ xs)) j ws) (let e : suc (length front) + k ≡ suc (length front + k) = omega arith in e) ∙ ap (λ (l : List ℕ). x ∷ l) (after_front front xs k ws)

-- a write within the first of two lists
before_rear : (mid rear : List ℕ) (k : ℕ) (ws : List ℕ) → k + length ws ≤ length mid → written (mid ++ rear) k ws ≡ written mid k ws ++ rear
before_rear [] [] k ws fits = refl
before_rear [] (x ∷ rear) zero [] fits = refl
before_rear [] (x ∷ rear) zero (w ∷ ws) fits = absurd (omega arith)
before_rear [] (x ∷ rear) (suc k) ws fits = absurd (omega arith)
before_rear (x ∷ mid) rear zero [] fits = refl
before_rear (x ∷ mid) rear zero (w ∷ ws) fits = ap (λ (l : List ℕ). w ∷ l) (before_rear mid rear 0 ws (omega arith))
before_rear (x ∷ mid) rear (suc k) ws fits = ap (λ (l : List ℕ). x ∷ l) (before_rear mid rear k ws (omega arith))

-- a write within the second of three lists in a row
pub written-within : (pre mid post : List ℕ) (at k : ℕ) (ws : List ℕ) → at ≡ length pre + k → k + length ws ≤ length mid
    → written (pre ++ (mid ++ post)) at ws ≡ pre ++ (written mid k ws ++ post)
written-within pre mid post at k ws here fits =
    ap (λ (j : ℕ). written (pre ++ (mid ++ post)) j ws) here ∙ after_front pre (mid ++ post) k ws ∙ ap (λ (l : List ℕ). pre ++ l) (before_rear mid post k ws fits)

-- a write over all of a list
pub written-whole : (old new : List ℕ) → length new ≡ length old → written old 0 new ≡ new
written-whole [] [] long = refl
written-whole [] (y ∷ new) long = absurd (omega arith)
written-whole (x ∷ old) [] long = absurd (omega arith)
written-whole (x ∷ old) (y ∷ new) long = ap (λ (l : List ℕ). y ∷ l) (written-whole old new (omega arith))

-- a write over the second of three lists in a row
pub written-middle : (pre old post new : List ℕ) (at : ℕ) → at ≡ length pre → length new ≡ length old → written (pre ++ (old ++ post)) at new ≡ pre ++ (new ++ post)
written-middle pre old post new at here long = written-within pre old post at 0 new (omega arith) (omega arith) ∙ ap (λ (l : List ℕ). pre ++ (l ++ post)) (written-whole old new long)
