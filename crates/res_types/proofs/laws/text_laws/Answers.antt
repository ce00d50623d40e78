use Rattle.res_types.proofs.TextSame.{text_again}
use Rattle.res_types.proofs.laws.text_laws.Goals as goal

pub returns : goal.returns
returns c = record { again = text_again }
