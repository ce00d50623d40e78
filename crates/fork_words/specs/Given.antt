-- What the words of a command give: the values of its options and operands, and its flags.
use Rattle.std.specs.Prelude.{ℕ, Bool, false, List, [], Option, codes, bytes_eq, map, option_map, unwrap_or}
use Rattle.std.specs.Borrow.{Bor}
use Rattle.std.specs.Option.{option_map_or}
use Rattle.clap.specs.Matches.{first_value, matched_of, one_text, raw_values}
use Rattle.clap.specs.declared.parser.matches.Found.{Found}

-- whether a flag is given
abbrev pub is_given : Found → List ℕ → Bool
is_given found name = option_map_or (λ text. bytes_eq text (codes "true")) (one_text found name) false

-- the value of an option or an operand, or else this word
abbrev pub word_or : Found → List ℕ → List ℕ → List ℕ
word_or found name other = unwrap_or (first_value found name) other

-- the value of an operand that must be there
abbrev pub word_of : Found → List ℕ → List ℕ
word_of found name = word_or found name []

-- all values of an option or an operand, in their order
abbrev pub words_of : Found → List ℕ → List (List ℕ)
words_of found name = unwrap_or (option_map raw_values (matched_of found name)) []

-- a word, where there is one
abbrev pub text_of : Option (Bor (List ℕ)) → Option (List ℕ)
text_of word = option_map (λ text. text.now) word

-- words
abbrev pub texts_of : List (Bor (List ℕ)) → List (List ℕ)
texts_of words = map (λ word. word.now) words
