use Rattle.path_text.proofs.Digits.{coded_is}
use Rattle.path_text.proofs.pieces.coded.Goals as goal

pub returns : goal.returns
returns c = rw (c.before_digits.ensures, c.digits.ensures, c.after_digits.ensures, c.from-code.ensures) (coded_is c.args.character)
