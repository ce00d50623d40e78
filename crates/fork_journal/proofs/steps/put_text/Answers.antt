use Rattle.std.proofs.Common.{length, refl, ◌∙◌, ap, subst, arith, rules}
use Rattle.byteorder.specs.Endian.{big_bytes}
use Rattle.fork_disk.specs.Disk.{put_at}
use Rattle.fork_journal.specs.Crash.{Follows, Wrote}
use Rattle.fork_journal.specs.Form.{IsSameFront}
use Rattle.fork_journal.specs.declared.pair.Side.TheVariants.{Journal}
use Rattle.fork_journal.proofs.Along.{along_then, along_weaker, begins, is_ok, then_settles, then_step, writes}
use Rattle.fork_journal.proofs.Joining.{front_joins, long_enough, text_put}
use Rattle.fork_journal.proofs.steps.put_text.Goals as goal

pub returns-in_err-write_at-clause-puts : goal.returns-in_err-write_at-clause-puts
returns-in_err-write_at-clause-puts g c honest =
    let crash = subst (λ n. Follows (Wrote Journal 1 n) (g.P.PairDisk.history c.args.pair.now) (g.P.PairDisk.history c.write_at.new.self))
    (ap length c.write_u32.ensures) (c.write_at.ensures.writes honest).crash in
    let told = writes Journal (IsSameFront 1) _ 1 4 _ _ (λ x y z same torn. torn.before ∙ same) (begins Journal (IsSameFront 1) _ (λ x. refl)) crash in search rules

pub returns-clause-puts : goal.returns-clause-puts
returns-clause-puts g c honest =
    let rest = c.put_rest.ensures.puts honest in
    let tells = c.in_ok-write_at.ensures.writes rest.honest in
    let R = IsSameFront 1 in let result = c.put_rest.result in
    let crash = subst (λ n. Follows (Wrote Journal 1 n) (g.P.PairDisk.history c.args.pair.now) (g.P.PairDisk.history c.write_at.new.self))
    (ap length c.write_u32.ensures) tells.crash in
    let told = writes Journal R _ 1 4 _ _ (λ x y z same torn. torn.before ∙ same) (begins Journal R _ (λ x. refl)) crash in
    let any_moment = along_then _ _ _ _ told (along_weaker _ _ _ _ (then_step Journal R (IsSameFront 5) R (front_joins 1 5 (omega arith)) _ _ told) rest.any_moment) in
    let is = text_put _ (big_bytes 4 (length c.args.fork.now)) c.args.fork.now _ (c.requires.gate tells.honest) refl (tells.written.0 ∙ ap (λ b. put_at 1 b (g.P.PairDisk.contents c.args.pair.now).journal) c.write_u32.ensures) in
    let stable = is_ok result (then_settles Journal R _ _ _ _ (g.P.PairDisk.history c.put_rest.new.pair) is told) rest.stable in
    let put = is_ok result (λ now. now ∙ is) rest.put in
    let kept = rest.kept ∙ tells.written.1 in record {
      honest = tells.honest;
      any_moment = any_moment;
      stable = stable;
      put = put;
      kept = kept;
    }

pub put_rest-requires-clause-there : goal.put_rest-requires-clause-there
put_rest-requires-clause-there g c honest =
    let tells = c.in_ok-write_at.ensures.writes honest in
    long_enough _ (big_bytes 4 (length c.args.fork.now)) _ (c.requires.gate tells.honest) refl (tells.written.0 ∙ ap (λ b. put_at 1 b (g.P.PairDisk.contents c.args.pair.now).journal) c.write_u32.ensures)
