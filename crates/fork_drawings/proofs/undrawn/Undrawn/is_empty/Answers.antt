use Rattle.std.proofs.Common.{ℕ, List, rules, tests, ap, ◌∙◌, sym}
use Rattle.std.specs.Prelude.{◌==◌}
use Rattle.std.specs.List.{list_all}
use Rattle.std.proofs.lemmas.Iterator.{YieldsList-from_slice}
use Rattle.std.proofs.lemmas.Iterator.Search.{all_from_yields_List}
use Rattle.std.proofs.lemmas.List.Folds.{list_all-map}
use Rattle.fork_drawings.specs.declared.undrawn.Part.{Part}
use Rattle.fork_drawings.proofs.undrawn.Undrawn.is_empty.Goals as goal

pub returns : goal.returns
returns c =
    let parts = c.parts.result in
    all_from_yields_List (λ (part : Part). part.count == 0) _ _ c.all.result c.all.ensures.ran (YieldsList-from_slice parts cc)
    (λ x b q k. search (rules, tests))
    ∙ sym (list_all-map (λ (count : ℕ). count == 0) (λ (part : Part). part.count) parts)
    ∙ ap (λ (counts : List ℕ). list_all (λ (count : ℕ). count == 0) counts) c.parts.ensures
