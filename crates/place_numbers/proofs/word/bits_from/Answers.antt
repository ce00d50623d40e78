use Rattle.place_numbers.proofs.Shifts.{bits-of-word, bits-of-next}
use Rattle.place_numbers.proofs.word.bits_from.Goals as goal

pub returns-else-place-eq0-clause-word : goal.returns-else-place-eq0-clause-word
returns-else-place-eq0-clause-word c = λ i low. bits-of-word c.args.word c.args.next c.args.place c.ranges.word.fits i low

pub returns-else-place-eq0-clause-next : goal.returns-else-place-eq0-clause-next
returns-else-place-eq0-clause-next c = λ i past low. bits-of-next c.args.word c.args.next c.args.place c.ranges.word.fits i c.requires past low
