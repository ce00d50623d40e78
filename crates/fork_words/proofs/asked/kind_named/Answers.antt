use Rattle.std.proofs.Common.{◌∙◌, ℕ, List, ap, inr, refl}
use Rattle.fork_list.specs.Roman.{roman_text}
use Rattle.fork_words.proofs.asked.kind_named.Goals as goal

pub returns-in-Some-kind_of-clause-kind : goal.returns-in-Some-kind_of-clause-kind
returns-in-Some-kind_of-clause-kind c =
    let named = rw c.in-Some.is at c.in_ok-bytes.ensures.bytes in
    (c.as_slice.result.now, ap (λ (t : List ℕ). roman_text t) c.as_slice.ensures.value ∙ named, (c.in-Some-kind_of.ensures.exact _).0 refl)

pub returns-clause-refused : goal.returns-clause-refused
returns-clause-refused c =
    let named = rw c.in-Some.is at c.in_ok-bytes.ensures.bytes in
    inr (
      refl,
      inr (
        c.as_slice.result.now,
        ap (λ (t : List ℕ). roman_text t) c.as_slice.ensures.value ∙ named,
        λ kind shows. let none = (c.in-None.ensures.exact kind).1 shows in absurd cc,
      ),
    )
