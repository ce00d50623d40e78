use Rattle.std.proofs.Common.{◌≡◌, ◌∙◌, List, ℕ, Some, None, Ok, Result, sym, ap, subst}
use Rattle.std.specs.Prelude.{option_map}
use Rattle.fork_rez.specs.declared.fault.Fault.{Fault}
use Rattle.fork_rez.specs.Text.{map_word}
use Rattle.fork_rez.specs.Reading.{Gives, after_word}
use Rattle.fork_rez.proofs.Written.{map_gone, map_there}
use Rattle.fork_rez.proofs.table.map_at.Goals as goal

pub returns-in-Some-clause-bytes : goal.returns-in-Some-clause-bytes
returns-in-Some-clause-bytes c =
    let there : after_word map_word c.args.text.now ≡ Some c.in-Some.inner.now = sym c.after_word.ensures ∙ ap (option_map (λ rest. rest.now)) c.in-Some.is in
    subst (λ (read : Result (List ℕ × List ℕ) Fault). Gives (λ x. (x.0.items, x.1.now)) c.map_in.result read) (sym (map_there c.args.text.now c.in-Some.inner.now there)) c.map_in.ensures.bytes

pub returns-in_ok-vec-in-None-clause-bytes : goal.returns-in_ok-vec-in-None-clause-bytes
returns-in_ok-vec-in-None-clause-bytes c =
    let gone : after_word map_word c.args.text.now ≡ None = sym c.after_word.ensures ∙ ap (option_map (λ rest. rest.now)) c.in-None.is in
    map_gone c.args.text.now gone ∙ ap (λ (bytes : List ℕ). Ok (bytes, c.args.text.now)) (sym (c.in_ok-vec-in-None.ensures.items_if_clones_equal (λ y is. is)))
