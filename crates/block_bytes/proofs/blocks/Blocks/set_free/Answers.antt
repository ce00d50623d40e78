use Rattle.std.proofs.Common.{◌≡◌, ◌-◌, ◌++◌, ◌∷◌, ap, subst, ◌∙◌, arith, IsTrue}
use Rattle.std.specs.List.{list_all}
use Rattle.mac_base.specs.HeadKind.{head_size}
use Rattle.block_bytes.specs.declared.header.Role.TheVariants.{Free}
use Rattle.block_bytes.specs.Layout.{Layout, CanBe, body, raw_block, is_possible, with_blocks}
use Rattle.block_bytes.proofs.Here.{IsHere-from}
use Rattle.block_bytes.proofs.Same.{same-lent}
use Rattle.block_bytes.proofs.Walking.{block-passes, held-free, possible-free, length-body}
use Rattle.block_bytes.proofs.blocks.Blocks.set_free.Goals as goal

pub overflow_sub-length : goal.overflow_sub-length
overflow_sub-length c =
    let h = IsHere-from c.self.inside c.self.invariant.layout c.args.self.now c.self.view_is c.args.at c.entry_at.result c.requires.block (c.entry_at.ensures c.requires.block) in
    let e = c.head_size.ensures ∙ ap head_size c.heads.ensures in omega arith

pub assign-requires : goal.assign-requires
assign-requires c =
    let b = c.requires.block in
    let heads : c.head_size.result ≡ head_size c.args.self.now.heads = c.head_size.ensures ∙ ap head_size (c.heads.ensures ∙ ap (λ (l : Layout). l.heads) c.self.view_is) in
    let long = length-body c.args.self.now.heads b.here c.entry_at.result c.head_size.result (c.entry_at.ensures b) heads in
    let all = subst (λ (l : Layout). IsTrue (list_all (is_possible l.heads) l.blocks)) c.self.view_is c.self.invariant.layout.possible in
    record { block = b; within = omega arith; possible = possible-free c.args.self.now.heads b.here (c.entry_at.result.size - c.head_size.result) long (block-passes c.args.self.now c.args.at (is_possible c.args.self.now.heads) b all); unlent = c.requires.unlent }

pub returns : goal.returns
returns c = λ b.
    let heads : c.head_size.result ≡ head_size c.args.self.now.heads = c.head_size.ensures ∙ ap head_size (c.heads.ensures ∙ ap (λ (l : Layout). l.heads) c.self.view_is) in
    let long = length-body c.args.self.now.heads b.here c.entry_at.result c.head_size.result (c.entry_at.ensures b) heads in
    let all = subst (λ (l : Layout). IsTrue (list_all (is_possible l.heads) l.blocks)) c.self.view_is c.self.invariant.layout.possible in
    let able : CanBe c.args.self.now c.args.at Free (c.entry_at.result.size - c.head_size.result) =
    record { block = b; within = omega arith; possible = possible-free c.args.self.now.heads b.here (c.entry_at.result.size - c.head_size.result) long (block-passes c.args.self.now c.args.at (is_possible c.args.self.now.heads) b all); unlent = same-lent c.args.self.now c.args.at c.requires.block b c.requires.unlent } in
    c.assign.ensures able ∙ ap (λ h. with_blocks (b.before ++ h ∷ b.after) c.args.self.now) (ap (λ n. raw_block Free n (body b.here)) long ∙ held-free (body b.here))
