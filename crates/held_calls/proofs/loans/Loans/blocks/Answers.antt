use Rattle.std.proofs.Common.{◌≡◌, ℕ, List, [], ◌∷◌, ◌||◌, refl, ap, ◌∙◌}
use Rattle.std.specs.Prelude.{◌==◌}
use Rattle.std.specs.List.{list_any}
use Rattle.held_calls.specs.Holding.{blocks_of, held_at, is_held}
use Rattle.held_calls.specs.declared.loans.Held.{Held}
use Rattle.held_calls.proofs.loans.Loans.blocks.Goals as goal

-- x is one of the blocks where its loan is held
any_block : (x : ℕ) (held : List Held) → list_any (λ y. y == x) (blocks_of held) ≡ is_held x held
any_block x [] = refl
any_block x (h ∷ held) = ap (λ b. (h.block == x) || b) (any_block x held)

pub returns-clause-told : goal.returns-clause-told
returns-clause-told c = λ x.
    ap (list_any (λ y. y == x)) c.blocks_at.ensures ∙ any_block x (held_at c.self.inside.places) ∙ ap (is_held x) c.self.view_is
