use Rattle.std.proofs.Common.{◌≡◌, ◌-◌, ℕ, Bool, true, List, length, drop, take, map, sym, ap, ◌∙◌, bytes_eq, nat_lt, arith}
use Rattle.std.specs.Prelude.{◌&&◌}
use Rattle.std.specs.Char.{to_ascii_lowercase}
use Rattle.std.proofs.lemmas.Bool.{lt-ltb}
use Rattle.std.proofs.lemmas.List.{take_rest}
use Rattle.fork_edit.proofs.PathNames.{same_as}
use Rattle.fork_edit.proofs.path_name.has_ending.Goals as goal

pub returns-then-name-ending : goal.returns-then-name-ending
returns-then-name-ending c =
    let name = c.args.name.now in let ending = c.args.ending.now in
    let start = length name - length ending in
    let small = map to_ascii_lowercase ending in
    let long : nat_lt (length ending) (length name) ≡ true = lt-ltb (length ending) (length name) (omega (arith, c.if-name-ending.true)) in
    same_as c.eq_ignore_ascii_case.result (map to_ascii_lowercase (take (length name - start) (drop start name))) small c.eq_ignore_ascii_case.ensures.test
    ∙ ap (λ (xs : List ℕ). bytes_eq (map to_ascii_lowercase xs) small) (take_rest name start)
    ∙ sym (ap (λ (b : Bool). b && bytes_eq (map to_ascii_lowercase (drop start name)) small) long)
