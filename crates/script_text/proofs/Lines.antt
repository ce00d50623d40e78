-- The lines of a text, taken from its front.
use Rattle.std.proofs.Common.{◌≡◌, ◌≢◌, ℕ, ◌<◌, ◌≤◌, ◌+◌, Bool, true, false, cond, eqb, List, [], ◌∷◌, length, refl, sym, ap, ◌∙◌, arith}
use Rattle.std.specs.Prelude.{not}
use Rattle.std.specs.List.{slice_split, onto_first, position_or_len, before_first, after_first}
use Rattle.std.specs.Str.Lines.{lines, lines_of_parts, strip_carriage_return}
use Rattle.std.proofs.lemmas.Bool.{ne_eqb}
use Rattle.std.proofs.lemmas.List.Splits.{slice_split_first}

-- whether a byte is a newline
abbrev is_newline : ℕ → Bool
is_newline byte = eqb byte 10

onto_first_some : {X : Type 0} (x : X) (parts : List (List X)) → (first : List X) × (rest : List (List X)) × (onto_first x parts ≡ first ∷ rest)
onto_first_some x [] = (x ∷ [], [], refl)
onto_first_some x (part ∷ parts) = (x ∷ part, parts, refl)

split_some_by : (byte : ℕ) (bytes : List ℕ) (b : Bool) → (first : List ℕ) × (rest : List (List ℕ)) × (cond b ([] ∷ slice_split is_newline bytes) (onto_first byte (slice_split is_newline bytes)) ≡ first ∷ rest)
split_some_by byte bytes true = ([], slice_split is_newline bytes, refl)
split_some_by byte bytes false = onto_first_some byte (slice_split is_newline bytes)

-- there is a part at least
split_some : (bytes : List ℕ) → (first : List ℕ) × (rest : List (List ℕ)) × (slice_split is_newline bytes ≡ first ∷ rest)
split_some [] = ([], [], refl)
split_some (byte ∷ bytes) = split_some_by byte bytes (eqb byte 10)

more_parts : (part : List ℕ) (parts : List (List ℕ)) → ((first : List ℕ) × (rest : List (List ℕ)) × (parts ≡ first ∷ rest)) → lines_of_parts (part ∷ parts) ≡ strip_carriage_return part ∷ lines_of_parts parts
more_parts part parts some = ap (λ (t : List (List ℕ)). lines_of_parts (part ∷ t)) some.2 ∙ ap (λ (t : List (List ℕ)). strip_carriage_return part ∷ lines_of_parts t) (sym some.2)

-- a line that a newline ends
pub lines-newline : (text : List ℕ) → position_or_len is_newline text < length text → lines text ≡ strip_carriage_return (before_first is_newline text) ∷ lines (after_first is_newline text)
lines-newline text within =
    ap lines_of_parts (slice_split_first is_newline text 0 within) ∙ more_parts (before_first is_newline text) (slice_split is_newline (after_first is_newline text)) (split_some (after_first is_newline text))

last_by : (text : List ℕ) → text ≢ [] → cond (eqb (length text) 0) [] (text ∷ []) ≡ text ∷ []
last_by [] some = absurd (some refl)
last_by (byte ∷ bytes) some = let no : eqb (length (byte ∷ bytes)) 0 ≡ false = ne_eqb (length (byte ∷ bytes)) 0 (λ e. absurd (omega arith)) in rw no refl

whole_by : (byte : ℕ) (bytes : List ℕ) (b : Bool) → eqb byte 10 ≡ b → length (byte ∷ bytes) ≤ cond (not b) (1 + position_or_len is_newline bytes) 0 → (length bytes ≤ position_or_len is_newline bytes → slice_split is_newline bytes ≡ bytes ∷ []) → cond b ([] ∷ slice_split is_newline bytes) (onto_first byte (slice_split is_newline bytes)) ≡ (byte ∷ bytes) ∷ []
whole_by byte bytes true e past more = absurd (omega arith)
whole_by byte bytes false e past more = ap (onto_first byte) (more (omega arith))

-- without a newline there is one part
split_whole : (bytes : List ℕ) → length bytes ≤ position_or_len is_newline bytes → slice_split is_newline bytes ≡ bytes ∷ []
split_whole [] past = refl
split_whole (byte ∷ bytes) past = whole_by byte bytes (eqb byte 10) refl past (split_whole bytes)

-- the last line, which no newline ends
pub lines-last : (text : List ℕ) → text ≢ [] → length text ≤ position_or_len is_newline text → lines text ≡ text ∷ []
lines-last text some past = ap lines_of_parts (split_whole text past) ∙ last_by text some
