use Rattle.std.proofs.Common.{◌≡◌, ◌∙◌, ◌++◌, sym, ap, arith, drop, length, take, length-take-le, List, ℕ}
use Rattle.raw_region.proofs.Lists.{written_is}
use Rattle.block_bytes.proofs.memory.Memory.write_zone_head.Goals as goal

pub copy_from_slice-requires : goal.copy_from_slice-requires
copy_from_slice-requires c =
    let long = length-take-le 52 c.args.bytes.now (omega arith) in let long' : length c.bytes.result.now ≡ 52 = ap length c.bytes.ensures ∙ length-take-le 52 c.args.self.now.bytes (omega arith) in omega arith

pub returns : goal.returns
returns c = let long = length-take-le 52 c.args.self.now.bytes (omega arith) in
    ap (λ (l : List ℕ). l ++ drop 52 c.args.bytes.now) (c.copy_from_slice.ensures.after ∙ c.bytes.ensures) ∙ ap (λ (n : ℕ). take 52 c.args.self.now.bytes ++ drop n c.args.bytes.now) (sym long)
    ∙ sym (written_is c.args.bytes.now 0 (take 52 c.args.self.now.bytes) (omega arith))
