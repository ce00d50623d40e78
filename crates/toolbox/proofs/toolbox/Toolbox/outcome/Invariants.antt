use Rattle.toolbox.proofs.toolbox.Toolbox.outcome.Given as goal

-- the files as they are before the call
abbrev pub ghosts-call_memory : goal.ghosts-call_memory
ghosts-call_memory g a = record { files = a.self.now.resources }
