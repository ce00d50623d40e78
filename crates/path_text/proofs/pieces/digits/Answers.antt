use Rattle.std.proofs.Common.{refl}
use Rattle.path_text.proofs.Digits.{four_digits, one_digit, three_digits, two_digits}
use Rattle.path_text.proofs.pieces.digits.Goals as goal

pub returns-then-second-eq0 : goal.returns-then-second-eq0
returns-then-second-eq0 c = rw (c.digit-4.ensures, one_digit c.args.number c.if-second-eq0.true) refl

pub returns-then-third-eq0 : goal.returns-then-third-eq0
returns-then-third-eq0 c = rw (c.digit-3.ensures, c.digit-4.ensures, two_digits c.args.number c.if-second-eq0.false c.if-third-eq0.true) refl

pub returns-then-fourth-eq0 : goal.returns-then-fourth-eq0
returns-then-fourth-eq0 c =
    rw (c.digit-2.ensures, c.digit-3.ensures, c.digit-4.ensures, three_digits c.args.number c.if-second-eq0.false c.if-third-eq0.false c.if-fourth-eq0.true) refl

pub returns : goal.returns
returns c =
    rw (c.digit.ensures, c.digit-2.ensures, c.digit-3.ensures, c.digit-4.ensures, four_digits c.args.number c.if-second-eq0.false c.if-third-eq0.false c.if-fourth-eq0.false c.requires)
    refl
