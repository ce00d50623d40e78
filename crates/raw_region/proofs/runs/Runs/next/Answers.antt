use Rattle.std.proofs.Common.{◌≡◌, List, length, take, sym, subst, arith}
use Rattle.std.proofs.lemmas.List.{take_more}
use Rattle.raw_region.specs.declared.runs.Run.{Run}
use Rattle.raw_region.specs.Runs.{IsNext}
use Rattle.raw_region.proofs.runs.Runs.next.Goals as goal

pub loop-i-preserved : goal.loop-i-preserved
loop-i-preserved c =
    let runs = c.args.self.now.runs in let i = c.loop-i.i in let test = c.loop-i-test.true in let end = c.min-i-end.ensures in let long : length runs ≡ 16 = omega arith in
    subst (λ (rs : List Run). IsNext rs c.args.from c.before-found.result) (sym (take_more runs i (record { start = 0; end = 0 }) (omega arith)))
    (c.before-found.ensures (take i runs) c.loop-i.invariant)
