use Rattle.std.proofs.Common.{◌≡◌, ◌++◌, take, refl, ◌∙◌, ap, arith, rules}
use Rattle.fork_journal.specs.Crash.{Contents, side_of, other}
use Rattle.fork_journal.specs.Form.{IsSameFront}
use Rattle.fork_journal.proofs.Along.{begins, writes, cuts, along_failed, along_sync, own_side, other_side, settles}
use Rattle.fork_journal.proofs.Joining.{cut_after, front_joins, put_reaches}
use Rattle.fork_journal.proofs.steps.put_rest.Goals as goal

pub returns-in_err-write_at-clause-puts : goal.returns-in_err-write_at-clause-puts
returns-in_err-write_at-clause-puts g c honest =
    let side = c.args.side in let at = c.args.at in
    let wrote = c.in_err-write_at.ensures.writes honest in
    let written = writes side (IsSameFront at) _ at _ _ _ (λ x y z same torn. torn.before ∙ same) (begins side (IsSameFront at) _ (λ x. refl)) wrote.crash in
    let kept = other_side side _ _ _ wrote.torn in search rules

pub returns-in_err-cut-clause-puts : goal.returns-in_err-cut-clause-puts
returns-in_err-cut-clause-puts g c honest =
    let side = c.args.side in let at = c.args.at in
    let cuts_it = c.in_err-cut.ensures.cuts honest in
    let wrote = c.in_ok-write_at.ensures.writes cuts_it.honest in
    let written = writes side (IsSameFront at) _ at _ _ _ (λ x y z same torn. torn.before ∙ same) (begins side (IsSameFront at) _ (λ x. refl)) wrote.crash in
    let cut = cuts side (IsSameFront at) _ _ _ _ (λ x y z same short. front_joins at _ (omega arith) x y z same short.before) written cuts_it.crash in
    let kept = other_side side _ _ _ cuts_it.torn ∙ other_side side _ _ _ wrote.written in search rules

pub returns-in_err-sync-clause-puts : goal.returns-in_err-sync-clause-puts
returns-in_err-sync-clause-puts g c honest =
    let side = c.args.side in let at = c.args.at in
    let syncs = c.in_err-sync.ensures.syncs honest in
    let cuts_it = c.in_ok-cut.ensures.cuts syncs.honest in
    let wrote = c.in_ok-write_at.ensures.writes cuts_it.honest in
    let written = writes side (IsSameFront at) _ at _ _ _ (λ x y z same torn. torn.before ∙ same) (begins side (IsSameFront at) _ (λ x. refl)) wrote.crash in
    let cut = cuts side (IsSameFront at) _ _ _ _ (λ x y z same short. front_joins at _ (omega arith) x y z same short.before) written cuts_it.crash in
    let failed = along_failed _ _ _ _ _ cut syncs.unstable in
    let kept = ap (λ (d : Contents). side_of (other side) d) syncs.same ∙ other_side side _ _ _ cuts_it.cut ∙ other_side side _ _ _ wrote.written in search rules

pub returns-clause-puts : goal.returns-clause-puts
returns-clause-puts g c honest =
    let side = c.args.side in let at = c.args.at in
    let syncs = c.in_ok-sync.ensures.syncs honest in
    let cuts_it = c.in_ok-cut.ensures.cuts syncs.honest in
    let wrote = c.in_ok-write_at.ensures.writes cuts_it.honest in
    let written = writes side (IsSameFront at) _ at _ _ _ (λ x y z same torn. torn.before ∙ same) (begins side (IsSameFront at) _ (λ x. refl)) wrote.crash in
    let cut = cuts side (IsSameFront at) _ _ _ _ (λ x y z same short. front_joins at _ (omega arith) x y z same short.before) written cuts_it.crash in
    let synced = along_sync _ _ _ _ _ _ cut syncs.durable in
    let old = side_of side (g.P.PairDisk.contents c.args.pair.now) in
    let reads : side_of side (g.P.PairDisk.contents c.cut.new.self) ≡ take at old ++ c.args.bytes.now =
    cut_after old c.args.bytes.now at _ _ _ (c.requires.there wrote.honest) (omega arith) (own_side side _ _ _ wrote.written) (own_side side _ _ _ cuts_it.cut) in
    let stable = settles side (IsSameFront at) _ _ _ _ _ cut syncs.trusted syncs.durable reads in
    let put = ap (λ (d : Contents). side_of side d) syncs.same ∙ reads in
    let kept = ap (λ (d : Contents). side_of (other side) d) syncs.same ∙ other_side side _ _ _ cuts_it.cut ∙ other_side side _ _ _ wrote.written in search rules

pub cut-requires : goal.cut-requires
cut-requires g c honest =
    let wrote = c.in_ok-write_at.ensures.writes honest in
    put_reaches c.args.at c.args.bytes.now _ _ (c.requires.there wrote.honest) (own_side c.args.side _ _ _ wrote.written)
