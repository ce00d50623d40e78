-- Words, one after the other.
use Rattle.std.proofs.Common.{◌≡◌, ℕ, suc, ◌+◌, ◌<◌, List, ◌∷◌, length, get_or, drop, replicate, Option, Some, None, Ok, sym, ap, ◌∙◌, add-one}
use Rattle.std.proofs.Math.Seq.{drop-cons}
use Rattle.fork_rez.specs.declared.attribute.Attribute.{Attribute}
use Rattle.fork_rez.specs.Text.{bit_of, map_word, word_of}
use Rattle.fork_rez.specs.Reading.{after_word, if_there, map_at, map_in, word_among}

-- a word that isn't there
pub word_next : (xs : List Attribute) (i : ℕ) (d : Attribute) (text : List ℕ) → i < length xs → after_word (word_of (get_or xs i d)) text ≡ None
    → word_among (drop (i + 1) xs) text ≡ word_among (drop i xs) text
word_next xs i d text less none =
    let here : word_among (get_or xs i d ∷ drop (suc i) xs) text ≡ word_among (drop (suc i) xs) text =
    ap (λ (o : Option (List ℕ)). if_there o (λ rest. Some (bit_of (get_or xs i d), rest)) (word_among (drop (suc i) xs) text)) none in
    ap (λ (n : ℕ). word_among (drop n xs) text) (add-one i) ∙ sym (ap (λ (t : List Attribute). word_among t text) (drop-cons xs i d less) ∙ here)

-- the map's bytes, where their comment is and where it isn't
pub map_there : (text inner : List ℕ) → after_word map_word text ≡ Some inner → map_at text ≡ map_in inner
unfolding map_at
map_there text inner is = ap (λ (o : Option (List ℕ)). if_there o map_in (Ok (replicate 242 0, text))) is

pub map_gone : (text : List ℕ) → after_word map_word text ≡ None → map_at text ≡ Ok (replicate 242 0, text)
unfolding map_at
map_gone text is = ap (λ (o : Option (List ℕ)). if_there o map_in (Ok (replicate 242 0, text))) is
