use Rattle.std.proofs.Common.{◌≡◌, ◌++◌, ◌∷◌, ap, subst, sym, ◌∙◌, IsTrue}
use Rattle.block_bytes.specs.declared.header.Header.{Header}
use Rattle.block_bytes.specs.declared.header.Role.{Role}
use Rattle.block_bytes.specs.Layout.{CanBe, body, raw_block, is_possible, with_blocks}
use Rattle.block_bytes.proofs.blocks.Blocks.resize.Goals as goal

pub assign-requires : goal.assign-requires
assign-requires c = let can = c.requires in
    let role : c.entry_at-role.result.role ≡ can.block.here.role = ap (λ (h : Header). h.role) (c.entry_at-role.ensures can.block) in
    record { block = can.block; within = can.within; possible = subst (λ (r : Role). IsTrue (is_possible c.args.self.now.heads (raw_block r c.args.length (body can.block.here)))) (sym role) can.possible; unlent = can.unlent }

-- what the block is for, as its header says it
pub returns : goal.returns
returns c = λ can.
    let role : c.entry_at-role.result.role ≡ can.block.here.role = ap (λ (h : Header). h.role) (c.entry_at-role.ensures can.block) in
    let able : CanBe c.args.self.now c.args.at c.entry_at-role.result.role c.args.length =
    record { block = can.block; within = can.within; possible = subst (λ (r : Role). IsTrue (is_possible c.args.self.now.heads (raw_block r c.args.length (body can.block.here)))) (sym role) can.possible; unlent = can.unlent } in
    c.assign.ensures able ∙ ap (λ (r : Role). with_blocks (can.block.before ++ raw_block r c.args.length (body can.block.here) ∷ can.block.after) c.args.self.now) role
