use Rattle.std.proofs.Common.{inl}
use Rattle.file_replace.proofs.Along.{along_none}
use Rattle.file_replace.proofs.pair.put_both.Goals as goal

pub returns-in-Err-clause-puts : goal.returns-in-Err-clause-puts
returns-in-Err-clause-puts g c one two =
    let second = g.S.Replaces.seen c.args.second.now in let later = g.S.Replaces.seen c.remove.new.self in
    let puts = c.in-Err.ensures.puts one in
    let removes = c.remove.ensures.removes.1 two in (
      (puts.0, removes.0),
      record {
        none_lost = inl (record { path = removes.1.0.0; calm = removes.1.1 });
        both = tt;
        at_first = puts.1.any_moment;
        at_second = λ ready. along_none second ready later.history removes.1.1;
      },
    )
