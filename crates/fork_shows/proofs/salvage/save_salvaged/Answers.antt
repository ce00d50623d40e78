use Rattle.fork_shows.proofs.salvage.save_salvaged.Goals as goal

pub returns-in_ok-save_to-in-Ok : goal.returns-in_ok-save_to-in-Ok
returns-in_ok-save_to-in-Ok c = (_, c.in_ok-save_to-in-Ok.ensures.saves)
