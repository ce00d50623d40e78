use Rattle.std.proofs.Common.{◌∙◌, ℕ, List, ap, refl}
use Rattle.fork_list.specs.Roman.{roman_text}
use Rattle.fork_words.proofs.asked.name_named.Goals as goal

pub returns-in-Some-2-clause-name : goal.returns-in-Some-2-clause-name
returns-in-Some-2-clause-name c =
    let named = rw c.in-Some.is at c.in_ok-bytes.ensures.bytes in
    let shown = rw c.in-Some-2.is at c.in_ok-name.ensures in
    (c.as_slice.result.now, ap (λ (t : List ℕ). roman_text t) c.as_slice.ensures.value ∙ named, (shown _).0 refl)
