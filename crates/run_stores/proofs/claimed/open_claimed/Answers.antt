use Rattle.run_stores.proofs.claimed.open_claimed.Goals as goal

pub returns-in-Err : goal.returns-in-Err
returns-in-Err c = c.in-Err.ensures.refused c.new-calls.ensures
