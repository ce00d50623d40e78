use Rattle.std.proofs.Common.{inr}
use Rattle.std.proofs.lemmas.Result.{IfErr-weaker, IfOk-weaker}
use Rattle.fork_folder.proofs.manifest.manifest_of.Goals as goal

pub returns-clause-read : goal.returns-clause-read
returns-clause-read c =
    let said = c.in_ok-manifest_by.ensures.read in
    IfOk-weaker c.packing_of.result _ _ (λ packing says. (said.0, c.in_ok-manifest_by.field-0, said.1, said.2, says)) c.packing_of.ensures.says

pub returns-clause-refused : goal.returns-clause-refused
returns-clause-refused c =
    let said = c.in_ok-manifest_by.ensures.read in
    IfErr-weaker c.packing_of.result _ _ (λ why bad. inr (said.0, c.in_ok-manifest_by.field-0, said.1, said.2, bad)) c.packing_of.ensures.refused
