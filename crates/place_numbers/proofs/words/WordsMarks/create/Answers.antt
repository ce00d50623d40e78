use Rattle.std.proofs.Common.{◌∙◌, List, ℕ, ap}
use Rattle.place_numbers.specs.Bits.{bits_of}
use Rattle.place_numbers.proofs.Marked.{no-marks}
use Rattle.place_numbers.proofs.words.WordsMarks.create.Goals as goal

pub returns : goal.returns
returns c = ap (λ (l : List ℕ). bits_of l c.args.count) c.in_ok-with_capacity.ensures.items ∙ no-marks c.args.count
