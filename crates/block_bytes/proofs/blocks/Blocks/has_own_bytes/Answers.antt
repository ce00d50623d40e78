use Rattle.std.proofs.Common.{◌≡◌, ℕ, ◌+◌, ◌≤◌, true, false, refl, ap, subst, arith}
use Rattle.mac_base.specs.HeadKind.{zone_header}
use Rattle.block_bytes.specs.Layout.{Layout, address_after, total_of}
use Rattle.block_bytes.specs.Structure.{OwnBetween}
use Rattle.block_bytes.proofs.OwnPassed.{left-smaller, own-all, own-chain, own-inside, own-split, own-start, split-inside}
use Rattle.block_bytes.proofs.blocks.Blocks.has_own_bytes.Goals as goal
use Rattle.block_bytes.proofs.blocks.Blocks.has_own_bytes.Goals.{After-size}

-- the last walk ends where the last block does
end-is : (c : After-size) → c.size.result ≡ zone_header + total_of c.args.self.now.heads c.args.self.now.blocks
end-is c =
    let value = c.size.ensures.value in let ends = c.self.invariant.layout.ends in let end = ap (λ (l : Layout). address_after l l.blocks) c.self.view_is in
    let base = ap (λ (l : Layout). l.base) c.self.view_is in omega arith

pub loop-heads-init : goal.loop-heads-init
loop-heads-init c = let l = c.args.self.now in let bytes = c.args.bytes.now in let starts = c.quarters-starts.result in let split = c.quarters-starts.ensures.split in record {
  first = own-start l bytes starts.first split.first;
  second = own-start l bytes starts.second split.second;
  third = own-start l bytes starts.third split.third;
  fourth = own-start l bytes starts.fourth split.fourth;
}

pub pass_four-requires-clause-split : goal.pass_four-requires-clause-split
pass_four-requires-clause-split c =
    let l = c.args.self.now in let bytes = c.args.bytes.now in let starts = c.quarters-starts.result in let at = c.loop-heads.at in let so_far = c.loop-heads.invariant in record {
      first = own-split l bytes starts.first at.first so_far.first;
      second = own-split l bytes starts.second at.second so_far.second;
      third = own-split l bytes starts.third at.third so_far.third;
      fourth = own-split l bytes starts.fourth at.fourth so_far.fourth;
    }

pub pass_four-requires-clause-inside : goal.pass_four-requires-clause-inside
pass_four-requires-clause-inside c =
    let l = c.args.self.now in let starts = c.quarters-starts.result in let split = c.quarters-starts.ensures.split in let end = end-is (goal.at.pass_four-requires-clause-inside c).After-size in record {
      first = (split-inside l starts.second split.second).1;
      second = (split-inside l starts.third split.third).1;
      third = (split-inside l starts.fourth split.fourth).1;
      fourth = omega arith;
    }

pub loop-heads-smaller : goal.loop-heads-smaller
loop-heads-smaller c =
    let l = c.args.self.now in let bytes = c.args.bytes.now in let starts = c.quarters-starts.result in let at = c.loop-heads.at in let next = c.in-Some.next in
    let end = end-is (goal.at.loop-heads-smaller c).After-size in let passed = c.in-Some.ensures.passed in let moved = c.in-Some.ensures.moved in
    let a = own-inside l bytes at.first next.first passed.first in let b = own-inside l bytes at.second next.second passed.second in
    let d = own-inside l bytes at.third next.third passed.third in let e = own-inside l bytes at.fourth next.fourth passed.fourth in
    left-smaller c.size.result at.first at.second at.third at.fourth next.first next.second next.third next.fourth starts.second starts.third starts.fourth c.size.result
    (a.1, (let high = a.2 in omega arith)) (b.1, (let high = b.2 in omega arith)) (d.1, (let high = d.2 in omega arith)) (e.1, (let high = e.2 in omega arith))
    moved.first moved.second moved.third moved.fourth
    (λ first second third fourth. let no : false ≡ true = c.loop-heads-test.ensures.1 (record { first = first; second = second; third = third; fourth = fourth }) in cc)

pub loop-heads-preserved : goal.loop-heads-preserved
loop-heads-preserved c =
    let l = c.args.self.now in let bytes = c.args.bytes.now in let starts = c.quarters-starts.result in let at = c.loop-heads.at in let next = c.in-Some.next in
    let so_far = c.loop-heads.invariant in let passed = c.in-Some.ensures.passed in record {
      first = own-chain l bytes starts.first at.first at.first next.first so_far.first passed.first (own-inside l bytes starts.first at.first so_far.first).1 (omega arith);
      second = own-chain l bytes starts.second at.second at.second next.second so_far.second passed.second (own-inside l bytes starts.second at.second so_far.second).1 (omega arith);
      third = own-chain l bytes starts.third at.third at.third next.third so_far.third passed.third (own-inside l bytes starts.third at.third so_far.third).1 (omega arith);
      fourth = own-chain l bytes starts.fourth at.fourth at.fourth next.fourth so_far.fourth passed.fourth (own-inside l bytes starts.fourth at.fourth so_far.fourth).1 (omega arith);
    }

pub returns : goal.returns
returns c =
    let l = c.args.self.now in let bytes = c.args.bytes.now in let starts = c.quarters-starts.result in let at = c.loop-heads.at in let so_far = c.loop-heads.invariant in
    let end = end-is (goal.at.returns c).After-size in let done = c.loop-heads-test.ensures.0 refl in
    let chain = λ (reached middle to : ℕ) (a : OwnBetween l bytes zone_header reached) (b : OwnBetween l bytes middle to) (high : middle ≤ reached).
    own-chain l bytes zone_header reached middle to a b (own-inside l bytes middle to b).0 high in
    let one : OwnBetween l bytes zone_header at.first = subst (λ n. OwnBetween l bytes n at.first) c.quarters-starts.ensures.first so_far.first in
    let two = chain at.first starts.second at.second one so_far.second done.first in
    let three = chain at.second starts.third at.third two so_far.third done.second in
    let four = chain at.third starts.fourth at.fourth three so_far.fourth done.third in
    (λ _. own-all l bytes at.fourth four (let last = done.fourth in omega arith), λ _. refl)
