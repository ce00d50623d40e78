-- There is one block at an address.
use Rattle.std.proofs.Common.{◌≡◌, ℕ, List, [], ◌∷◌, ◌++◌, false, sym, ap, ◌∙◌, arith}
use Rattle.mac_base.specs.declared.block.HeadKind.{HeadKind}
use Rattle.block_bytes.specs.Layout.{RawBlock, Layout, BlockAt, size_of, total_of}
use Rattle.block_bytes.proofs.ReadBlocks.{head_size-positive}

-- blocks after as many bytes are the same
same_there : (heads : HeadKind) (bs cs ds es : List RawBlock) (b c : RawBlock) → bs ++ b ∷ cs ≡ ds ++ c ∷ es → total_of heads bs ≡ total_of heads ds → b ≡ c
same_there heads [] cs [] es b c e same = cc
same_there heads [] cs (d ∷ ds) es b c e same = let some = head_size-positive heads in absurd (omega arith)
same_there heads (x ∷ bs) cs [] es b c e same = let some = head_size-positive heads in absurd (omega arith)
same_there heads (x ∷ bs) cs (d ∷ ds) es b c e same = let first : x ≡ d = cc in let rest : bs ++ b ∷ cs ≡ ds ++ c ∷ es = cc in let size = ap (size_of heads) first in
    same_there heads bs cs ds es b c rest (omega arith)

-- two blocks at one address are one
pub same-block : (l : Layout) (at : ℕ) (b c : BlockAt l at) → b.here ≡ c.here
same-block l at b c = let p = b.place in let q = c.place in same_there l.heads b.before b.after c.before c.after b.here c.here (sym b.blocks ∙ c.blocks) (omega arith)

-- where one isn't lent, the other isn't
pub same-lent : (l : Layout) (at : ℕ) (b c : BlockAt l at) → b.here.lent ≡ false → c.here.lent ≡ false
same-lent l at b c is = sym (ap (λ (x : RawBlock). x.lent) (same-block l at b c)) ∙ is
