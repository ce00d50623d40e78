use Rattle.res_manager.proofs.load.get_row.Given as goal

-- the files as they are before the call
abbrev pub ghosts-make_place : goal.ghosts-make_place
ghosts-make_place g a = record { files = a.files.now }
