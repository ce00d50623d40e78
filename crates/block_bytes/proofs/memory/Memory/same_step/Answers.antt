use Rattle.std.proofs.Common.{◌≡◌, ◌+◌, ◌-◌, true, take, drop, sym, ap, ◌∙◌, arith}
use Rattle.raw_region.specs.Bytes.{part}
use Rattle.mac_base.specs.HeadKind.{head_size}
use Rattle.block_bytes.specs.declared.header.Header.{Header}
use Rattle.block_bytes.specs.Head.{header_in}
use Rattle.block_bytes.specs.Structure.{is_master}
use Rattle.block_bytes.proofs.HeadsRead.{header-front}
use Rattle.block_bytes.proofs.memory.Memory.same_step.Goals as goal
use Rattle.block_bytes.proofs.memory.Memory.same_step.Goals.{After-is_same}

-- the bytes that are read
own_is : (c : After-is_same) → c.bytes-own.result.now ≡ part c.args.self.now.bytes c.args.at (head_size c.args.heads)
own_is c = c.bytes-own.ensures ∙ ap (part c.args.self.now.bytes c.args.at) c.head_size-count.ensures

-- the others
other_is : (c : After-is_same) → take (c.args.at + c.head_size-count.result - c.args.at) (drop c.args.at c.args.bytes.now) ≡ part c.args.bytes.now c.args.at (head_size c.args.heads)
other_is c = let count = c.head_size-count.ensures in ap (λ k. take k (drop c.args.at c.args.bytes.now)) (let e : c.args.at + c.head_size-count.result - c.args.at ≡ head_size c.args.heads = omega arith in e)

pub returns-then-not-is_same : goal.returns-then-not-is_same
returns-then-not-is_same c =
    let at = (goal.at.returns-then-not-is_same c).After-is_same in
    record {
      step = tt;
      same = tt;
      none = λ is. let yes : c.is_same.result ≡ true = c.is_same.ensures.1 (own_is at ∙ is ∙ sym (other_is at)) in let no = c.if-not-is_same.true in cc;
    }

pub returns : goal.returns
returns c =
    let at = (goal.at.returns c).After-is_same in
    let read : header_in c.args.heads c.bytes-own.result.now ≡ header_in c.args.heads (drop c.args.at c.args.self.now.bytes) = ap (header_in c.args.heads) (own_is at) ∙ header-front c.args.heads (drop c.args.at c.args.self.now.bytes) in
    record {
      step = (c.step_in.ensures.size ∙ ap (λ (h : Header). h.size) read, c.step_in.ensures.is_master ∙ ap (λ (h : Header). is_master h.role) read);
      same = sym (own_is at) ∙ c.is_same.ensures.0 c.if-not-is_same.false ∙ other_is at;
      none = tt;
    }
