use Rattle.std.proofs.Common.{◌≡◌, suc, ◌+◌, ◌-◌, ◌/◌, length, Some, ap, sym, ◌∙◌, arith}
use Rattle.zone_look.specs.Free.{FreeList}
use Rattle.zone_look.proofs.FreeLists.{list_ends, list_goes_on, list_leaves}
use Rattle.zone_look.proofs.free.free_masters.Goals as goal

pub returns-then-next-eq0-clause-count : goal.returns-then-next-eq0-clause-count
returns-then-next-eq0-clause-count c =
    let n = c.args.end / 4 - c.loop-count.count in let k = c.args.end / 4 - (c.loop-count.count + 1) in
    let more : n ≡ suc k = omega arith in
    let is = list_ends c.args.dump.now c.args.end c.loop-count.at n k c.next_free-next.result more c.next_free-next.ensures c.if-next-eq0.true in
    omega (arith, ap (λ (r : FreeList). length r.slots) is)

pub returns-then-is_outside-clause-count : goal.returns-then-is_outside-clause-count
returns-then-is_outside-clause-count c =
    let n = c.args.end / 4 - c.loop-count.count in let k = c.args.end / 4 - (c.loop-count.count + 1) in
    let more : n ≡ suc k = omega arith in
    let is = list_leaves c.args.dump.now c.args.end c.loop-count.at n k c.next_free-next.result more c.next_free-next.ensures
    c.if-next-eq0.false (sym c.is_outside.ensures.outside ∙ c.if-is_outside.true) in
    omega (arith, ap (λ (r : FreeList). length r.slots) is)

pub returns-then-is_outside-clause-fault : goal.returns-then-is_outside-clause-fault
returns-then-is_outside-clause-fault c =
    let n = c.args.end / 4 - c.loop-count.count in let k = c.args.end / 4 - (c.loop-count.count + 1) in
    let more : n ≡ suc k = omega arith in
    let is = list_leaves c.args.dump.now c.args.end c.loop-count.at n k c.next_free-next.result more c.next_free-next.ensures
    c.if-next-eq0.false (sym c.is_outside.ensures.outside ∙ c.if-is_outside.true) in
    ap Some c.fault_at.ensures ∙ sym (ap (λ (r : FreeList). r.fault) is) ∙ c.loop-count.invariant.same_fault

pub loop-count-preserved : goal.loop-count-preserved
loop-count-preserved c =
    let n = c.args.end / 4 - c.loop-count.count in let k = c.args.end / 4 - (c.loop-count.count + 1) in
    let more : n ≡ suc k = omega arith in
    let inside = c.if-is_outside.ensures in
    let is = list_goes_on c.args.dump.now c.args.end c.loop-count.at n k c.next_free-next.result c.base.result more c.next_free-next.ensures c.base.ensures
    c.if-next-eq0.false (sym c.is_outside.ensures.outside ∙ c.if-is_outside.false) in
    record {
      counted = omega (arith, ap (λ (r : FreeList). length r.slots) is);
      same_fault = sym (ap (λ (r : FreeList). r.fault) is) ∙ c.loop-count.invariant.same_fault;
      within = omega (arith, inside.low, inside.high);
    }
