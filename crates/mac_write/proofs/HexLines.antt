-- Lines and digits are added one after the other.
use Rattle.std.proofs.Common.{◌≡◌, ◌≤◌, ℕ, suc, ◌+◌, ◌-◌, ◌*◌, List, [], ◌∷◌, ◌++◌, length, take, drop, refl, sym, ap, ◌∙◌, append_assoc, arith}
use Rattle.std.proofs.lemmas.List.{drop-drop, length-drop}
use Rattle.mac_write.specs.HexText.{digits, in_lines, sixes}

pub line_starts : (room c : ℕ) (rest : List ℕ) → room ≡ 0 → in_lines room (c ∷ rest) ≡ 10 ∷ c ∷ in_lines 63 rest
unfolding in_lines
line_starts room c rest is = rw is refl

pub line_goes_on : (room c : ℕ) (rest : List ℕ) → 1 ≤ room → in_lines room (c ∷ rest) ≡ c ∷ in_lines (room - 1) rest
unfolding in_lines
line_goes_on room c rest some = let one_more : room ≡ suc (room - 1) = omega arith in ap (λ (n : ℕ). in_lines n (c ∷ rest)) one_more

pub line_ends : (room : ℕ) → in_lines room [] ≡ 10 ∷ []
unfolding in_lines
line_ends room = refl

-- a character that was added, before the lines of the rest
pub character_added : (new old text : List ℕ) (left room c : ℕ) (rest : List ℕ) → new ≡ old ++ text → in_lines room (c ∷ rest) ≡ text ++ in_lines left rest
    → new ++ in_lines left rest ≡ old ++ in_lines room (c ∷ rest)
character_added new old text left room c rest is line =
    ap (λ (xs : List ℕ). xs ++ in_lines left rest) is ∙ append_assoc old text (in_lines left rest) ∙ ap (λ (xs : List ℕ). old ++ xs) (sym line)

three_digits : (bytes : List ℕ) → 3 ≤ length bytes → digits bytes ≡ digits (take 3 bytes) ++ digits (drop 3 bytes)
unfolding sixes
three_digits [] some = absurd (omega arith)
three_digits (a ∷ []) some = absurd (omega arith)
three_digits (a ∷ b ∷ []) some = absurd (omega arith)
three_digits (a ∷ b ∷ c ∷ bytes) some = refl

-- three bytes more
pub group_added : (old new all bytes : List ℕ) (group : ℕ) → 3 * group + 3 ≤ length bytes → new ≡ old ++ digits (take 3 (drop (3 * group) bytes))
    → old ++ digits (drop (3 * group) bytes) ≡ all → new ++ digits (drop (3 * (group + 1)) bytes) ≡ all
group_added old new all bytes group some is so_far =
    let xs = drop (3 * group) bytes in
    let place : 3 * group + 3 ≡ 3 * (group + 1) = omega arith in
    let next : drop 3 xs ≡ drop (3 * (group + 1)) bytes = drop-drop 3 (3 * group) bytes ∙ ap (λ (n : ℕ). drop n bytes) place in
    let few = length-drop (3 * group) bytes in
    ap (λ (ys : List ℕ). ys ++ digits (drop (3 * (group + 1)) bytes)) is
    ∙ append_assoc old (digits (take 3 xs)) (digits (drop (3 * (group + 1)) bytes))
    ∙ ap (λ (ys : List ℕ). old ++ (digits (take 3 xs) ++ digits ys)) (sym next)
    ∙ ap (λ (ys : List ℕ). old ++ ys) (sym (three_digits xs (omega arith))) ∙ so_far
