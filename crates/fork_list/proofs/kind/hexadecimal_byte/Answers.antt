use Rattle.std.proofs.Common.{ℕ, ◌∷◌, List, get_or, ap}
use Rattle.fork_list.proofs.Written.{digits_first, two_and_rest}
use Rattle.fork_list.proofs.kind.hexadecimal_byte.Goals as goal

pub returns-in_ok-byte_of-in-len2-up-clause-shown : goal.returns-in_ok-byte_of-in-len2-up-clause-shown
returns-in_ok-byte_of-in-len2-up-clause-shown c =
    let text = c.args.text.now in
    let both = c.in_ok-byte_of-in-len2-up.ensures in
    digits_first _ _ _ (get_or text 0 0, get_or text 1 0, ap (λ (t : List ℕ). 92 ∷ 120 ∷ t) (two_and_rest text c.in-len2-up.len_at_least), both.0.0, both.0.1, both.1)
