use Rattle.script_text.proofs.NameLaws.{one_place, keeps_place, takes_place}
use Rattle.script_text.proofs.names.names_have_places.Goals as goal

pub returns : goal.returns
returns c = record { one = one_place; kept = keeps_place; taken = takes_place }
