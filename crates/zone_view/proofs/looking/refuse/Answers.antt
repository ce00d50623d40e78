use Rattle.zone_view.proofs.looking.refuse.Goals as goal

pub returns-in-Help : goal.returns-in-Help
returns-in-Help g c = rw c.in-Help.is c.show_help.ensures
