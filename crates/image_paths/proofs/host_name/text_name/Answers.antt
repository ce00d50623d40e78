use Rattle.std.specs.Prelude.{string_bytes}
use Rattle.std.proofs.lemmas.Result.{IfOk-weaker}
use Rattle.image_paths.proofs.HostTexts.{letters_host_name}
use Rattle.image_paths.proofs.host_name.text_name.Goals as goal

pub returns-in-len1-up-clause-harmless : goal.returns-in-len1-up-clause-harmless
returns-in-len1-up-clause-harmless c =
    IfOk-weaker c.letters_text.result _ _ (λ text is. letters_host_name c.args.name.now (string_bytes text) c.in-len1-up.len_at_least c.know_bytes.ensures is) c.letters_text.ensures
