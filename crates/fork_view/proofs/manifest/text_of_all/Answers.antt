use Rattle.std.proofs.lemmas.Result.{IfOk-weaker}
use Rattle.fork_view.proofs.manifest.text_of_all.Goals as goal

pub returns : goal.returns
returns c =
    IfOk-weaker c.manifest_text.result _ _ (λ text is. (c.in_ok-origin.origin, c.in_ok-manifest.manifest, c.in_ok-origin.ensures, is, c.in_ok-manifest.ensures)) c.manifest_text.ensures
