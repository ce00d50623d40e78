-- Names that end as what isn't made.
use Rattle.std.proofs.Common.{◌≡◌, ◌∙◌, ℕ, Bool, List, map, subst, sym}
use Rattle.std.specs.Prelude.{◌||◌}
use Rattle.std.specs.Char.{to_ascii_lowercase}
use Rattle.fork_words.specs.Endings.{is_other_picture, is_other_sound, is_unmade}

-- what is so of the name in small letters is so of the name
pub unmade_is : (name bytes small view : List ℕ) (refused is : Bool) → bytes ≡ name → small ≡ map to_ascii_lowercase bytes → view ≡ small →
    refused ≡ (is_other_picture view || is_other_sound view) → refused ≡ is → is_unmade name ≡ is
unmade_is name bytes small view refused is same lower seen said so =
    let P : List ℕ → Type 0 = λ t. (is_other_picture t || is_other_sound t) ≡ is in
    let Q : List ℕ → Type 0 = λ t. is_unmade t ≡ is in
    let at_view : P view = sym said ∙ so in
    let at_bytes : Q bytes = subst P lower (subst P seen at_view) in
    subst Q same at_bytes
