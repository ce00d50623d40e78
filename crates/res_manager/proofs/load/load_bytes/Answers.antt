use Rattle.std.proofs.Common.{◌∙◌}
use Rattle.res_manager.proofs.Filling.{filled-itself}
use Rattle.res_manager.proofs.load.load_bytes.Goals as goal

pub returns-in-Err-clause-loans : goal.returns-in-Err-clause-loans
returns-in-Err-clause-loans g c = (c.undo.ensures.loans.0 ∙ c.read_bytes.ensures.loans.0, λ x loan held. c.undo.ensures.loans.1 x loan (c.read_bytes.ensures.loans.1 x loan held))

pub returns-clause-loans : goal.returns-clause-loans
returns-clause-loans g c = (c.set_flags.ensures.loans.0 ∙ c.read_bytes.ensures.loans.0, λ x loan held. c.set_flags.ensures.loans.1 x loan (c.read_bytes.ensures.loans.1 x loan held))

pub undo-requires : goal.undo-requires
undo-requires g c = let filled = c.read_bytes.ensures.filled in (filled.0, filled-itself _ _ _ _ filled.1)

pub set_flags-requires : goal.set_flags-requires
set_flags-requires g c = let filled = c.read_bytes.ensures.filled in (filled.0, filled-itself _ _ _ _ filled.1)
