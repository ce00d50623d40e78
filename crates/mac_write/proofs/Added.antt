-- Bytes that are added one after the other.
use Rattle.std.proofs.Common.{◌≡◌, ℕ, List, ◌++◌, ap, ◌∙◌}
use Rattle.std.proofs.lemmas.List.{append_assoc}

pub after : (a b c x y : List ℕ) → b ≡ a ++ x → c ≡ b ++ y → c ≡ a ++ (x ++ y)
after a b c x y first second = second ∙ ap (λ (zs : List ℕ). zs ++ y) first ∙ append_assoc a x y

pub four_added : (a b c d e w x y z : List ℕ) → b ≡ a ++ w → c ≡ b ++ x → d ≡ c ++ y → e ≡ d ++ z → e ≡ a ++ (w ++ (x ++ (y ++ z)))
four_added a b c d e w x y z first second third fourth =
    after a b e w (x ++ (y ++ z)) first (after b c e x (y ++ z) second (after c d e y z third fourth))
