use Rattle.std.specs.Prelude.{IsTrue}
use Rattle.toolbox.proofs.Tools.{tools-show}
use Rattle.toolbox.proofs.laws.resource_laws.Goals as goal

pub returns : goal.returns
returns c = record { headline = λ these. tools-show (λ k. IsTrue (these k)) }
