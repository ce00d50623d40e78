use Rattle.std.proofs.Common.{◌≡◌, ◌+◌, length, sym, ap, ◌∙◌, subst, arith}
use Rattle.raw_region.specs.Bytes.{part}
use Rattle.mac_base.specs.HeadKind.{head_size}
use Rattle.block_bytes.specs.Layout.{Layout, BlockAt}
use Rattle.block_bytes.proofs.Comparing.{enough-bytes}
use Rattle.block_bytes.proofs.ReadParts.{ReadAt}
use Rattle.block_bytes.proofs.WrittenOwn.{master-unlent, read-there}
use Rattle.block_bytes.proofs.blocks.Blocks.has_contents.Goals as goal
use Rattle.block_bytes.proofs.blocks.Blocks.has_contents.Goals.{After-base-base}

-- what is read of the block
read : (c : After-base-base) → ReadAt c.self.inside c.args.self.now c.args.at c.requires.block.here
read c = read-there c.self.inside c.self.invariant.layout c.base-base.ensures.possible c.args.self.now c.self.view_is c.args.at c.requires.block

-- the block by its address as the code has it
abbrev there : (c : After-base-base) → BlockAt c.args.self.now (c.args.self.now.base + c.args.at) → BlockAt c.args.self.now (c.base-base.result + c.args.at)
there c b = let base = ap (λ (l : Layout). l.base) c.self.view_is in let value = c.base-base.ensures.value in let place = b.place in
    record { before = b.before; here = b.here; after = b.after; blocks = b.blocks; place = omega arith }

pub overflow_cast-at : goal.overflow_cast-at
overflow_cast-at c =
    let n = read (goal.at.overflow_cast-at c).After-base-base in
    let below = n.below in let high = c.self.invariant.layout.high in let value = c.base-base.ensures.value in let reach = c.base-base.ensures.reach in omega arith

pub overflow_add-base : goal.overflow_add-base
overflow_add-base c =
    let n = read (goal.at.overflow_add-base c).After-base-base in
    let below = n.below in let high = c.self.invariant.layout.high in let value = c.base-base.ensures.value in let reach = c.base-base.ensures.reach in omega arith

pub contents-own-requires : goal.contents-own-requires
contents-own-requires c = let b = c.requires.block in record {
  block = there (goal.at.contents-own-requires c).After-base-base b;
  unlent = master-unlent c.self.inside c.self.invariant.layout c.args.self.now c.self.view_is (c.args.self.now.base + c.args.at) b (c.requires.master b);
}

pub overflow_add-start : goal.overflow_add-start
overflow_add-start c =
    let n = read (goal.at.overflow_add-start c).After-base-base in
    let below = n.below in let headed = n.headed in let high = c.self.invariant.layout.high in let few = c.base-base.ensures.possible.small_enough in let heads = ap head_size c.heads.ensures in
    let head = c.head_size.ensures in omega arith

pub has_at-requires : goal.has_at-requires
has_at-requires c =
    let at = (goal.at.has_at-requires c).After-base-base in let b = c.requires.block in let n = read at in
    let contents = ap length (c.contents-own.ensures (there at b)) in
    let heads = ap head_size c.heads.ensures in let same = n.same in let head = c.head_size.ensures in let below = n.below in let high = c.self.invariant.layout.high in
    let long = enough-bytes c.self.inside c.self.invariant.layout c.args.self.now c.self.view_is c.args.bytes.now c.requires.whole in omega arith

pub returns : goal.returns
returns c = λ b.
    let at = (goal.at.returns c).After-base-base in
    let contents : c.contents-own.result.now ≡ b.here.contents = c.contents-own.ensures (there at b) in
    let heads : c.head_size.result ≡ head_size c.args.self.now.heads = c.head_size.ensures ∙ ap head_size c.heads.ensures ∙ (read at).same in
    let start : c.args.at + c.head_size.result ≡ c.args.at + head_size c.args.self.now.heads = ap (λ n. c.args.at + n) heads in (
      λ is. subst (λ xs. part c.args.bytes.now (c.args.at + head_size c.args.self.now.heads) (length xs) ≡ xs) contents
          (subst (λ n. part c.args.bytes.now n (length c.contents-own.result.now) ≡ c.contents-own.result.now) start (c.has_at.ensures.0 is)),
      λ is. c.has_at.ensures.1 (subst (λ n. part c.args.bytes.now n (length c.contents-own.result.now) ≡ c.contents-own.result.now) (sym start)
          (subst (λ xs. part c.args.bytes.now (c.args.at + head_size c.args.self.now.heads) (length xs) ≡ xs) (sym contents) is)),
    )
