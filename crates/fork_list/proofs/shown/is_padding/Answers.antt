use Rattle.std.proofs.Common.{ℕ, List, ◌==◌, ◌-◌, ◌∙◌, ap, sym, take, drop}
use Rattle.std.specs.List.{list_all}
use Rattle.std.proofs.lemmas.List.{take_rest}
use Rattle.fork_list.proofs.shown.is_padding.Goals as goal

pub returns : goal.returns
returns c =
    let kind = c.args.kind.now in
    let at = c.args.at in
    c.is_blank.ensures
    ∙ ap (λ (rest : List ℕ). list_all (λ byte. byte == 32) rest) (ap (λ (n : ℕ). take (n - at) (drop at kind)) (sym c.told-kind) ∙ take_rest kind at)
