use Rattle.fork_words.proofs.work.place_of.Goals as goal

pub returns-in-Some-None-clause-place : goal.returns-in-Some-None-clause-place
returns-in-Some-None-clause-place c = c.place_in.ensures.place c.args.source.now
