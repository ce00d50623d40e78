use Rattle.std.proofs.Common.{ap, ◌∙◌, refl, take}
use Rattle.raw_region.specs.Bytes.{part, written}
use Rattle.raw_region.specs.State.{Loan, with_loan}
use Rattle.raw_region.proofs.Fronts.{written-within, part-all}
use Rattle.raw_region.proofs.loan.Lent.bytes_mut.Goals as goal

pub returns : goal.returns
returns c = (
  (
    refl,
    λ w.
        ap (λ bytes. record { name = c.self.inside.cells.home; at = c.self.inside.cells.from; bytes = bytes })
        (ap (λ n. written c.self.inside.cells.bytes 0 (take n w)) c.len-n.ensures ∙ written-within c.self.inside.cells.bytes w)
        ∙ ap (λ (l : Loan). with_loan l w) c.self.view_is,
  ),
  record {
    writes_back = tt;
    value = c.bytes_mut.ensures.value ∙ ap (part c.self.inside.cells.bytes 0) c.len-n.ensures ∙ part-all c.self.inside.cells.bytes ∙ ap (λ (l : Loan). l.bytes) c.self.view_is;
  },
)
