use Rattle.raw_region.proofs.Fronts.{written-all}
use Rattle.raw_region.proofs.Laws.{length-part}
use Rattle.std.proofs.Common.{◌≡◌, ◌+◌, ◌-◌, ℕ, List, ap, ◌∙◌, length, arith}
use Rattle.core.specs.List.{copy_within}
use Rattle.raw_region.specs.Bytes.{part, written}
use Rattle.raw_region.proofs.Moves.{slid}
use Rattle.raw_region.proofs.Free.{free_hull}
use Rattle.raw_region.proofs.region.Region.slide.Goals as goal

pub bytes_mut-requires-clause-free : goal.bytes_mut-requires-clause-free
bytes_mut-requires-clause-free c = free_hull _ _ _ _ c.requires.from_free c.requires.to_free (omega (arith, c.if-from-to.true)) (omega (arith, c.if-n-far.false, c.if-from-to.true))

pub bytes_mut-requires-then-n-le-SHORT-2-clause-free : goal.bytes_mut-requires-then-n-le-SHORT-2-clause-free
bytes_mut-requires-then-n-le-SHORT-2-clause-free c = free_hull _ _ _ _ c.requires.to_free c.requires.from_free (omega (arith, c.if-from-to.false)) (omega (arith, c.if-n-far-2.false, c.if-from-to.false))

pub returns-then-n-le-SHORT-clause-bytes : goal.returns-then-n-le-SHORT-clause-bytes
returns-then-n-le-SHORT-clause-bytes c =
    let r = c.args.self.now in let from = c.args.from in let to = c.args.to in let n = c.args.n in let far = to - from in
    let ins = c.requires.from_inside in let ins' = c.requires.to_inside in let up = c.if-from-to.true in
    (written-all r.bytes from (far + n) c.copy_within.new.self (c.copy_within.ensures.len ∙ ap length c.bytes_mut.ensures.value ∙ length-part r.bytes from (far + n) (omega (arith, ins, ins', up)))
    ∙ ap (written r.bytes from) (c.copy_within.ensures.after ∙ (λ j. copy_within (c.bytes_mut.ensures.value j) 0 ((let e : n ≡ 0 + n = omega arith in e) j) far))
    ∙ slid r.bytes from (far + n) n far 0 (omega (arith, ins, ins', up)) (omega arith) (omega arith)
    ∙ (λ j. written r.bytes ((let e : from + far ≡ to = omega (arith, up) in e) j) (part r.bytes ((let e : from + 0 ≡ from = omega arith in e) j) n)))

pub returns-then-n-le-SHORT-2-clause-bytes : goal.returns-then-n-le-SHORT-2-clause-bytes
returns-then-n-le-SHORT-2-clause-bytes c =
    let r = c.args.self.now in let from = c.args.from in let to = c.args.to in let n = c.args.n in let far = from - to in
    let ins = c.requires.from_inside in let ins' = c.requires.to_inside in let down = c.if-from-to.false in
    (written-all r.bytes to (far + n) c.copy_within-then-n-le-SHORT-2.new.self (c.copy_within-then-n-le-SHORT-2.ensures.len ∙ ap length c.bytes_mut-then-n-le-SHORT-2.ensures.value ∙ length-part r.bytes to (far + n) (omega (arith, ins, ins', down)))
    ∙ ap (written r.bytes to) (c.copy_within-then-n-le-SHORT-2.ensures.after ∙ ap (λ (l : List ℕ). copy_within l far (far + n) 0) c.bytes_mut-then-n-le-SHORT-2.ensures.value)
    ∙ slid r.bytes to (far + n) n 0 far (omega (arith, ins, ins', down)) (omega arith) (omega arith)
    ∙ (λ j. written r.bytes ((let e : to + 0 ≡ to = omega arith in e) j) (part r.bytes ((let e : to + far ≡ from = omega (arith, down) in e) j) n)))
