-- Data are read again.
use Rattle.std.proofs.Common.{◌≡◌, ℕ, zero, suc, ◌+◌, ◌*◌, ◌/◌, ◌<◌, ◌≤◌, List, [], ◌∷◌, ◌++◌, length, take, drop, Some, None, Ok, refl, sym, ap, ◌∙◌, append_assoc, append-nil, arith}
use Rattle.std.specs.List.{flat_map, fold, AllByRecursion}
use Rattle.std.specs.Simd.{first_chunks}
use Rattle.std.proofs.lemmas.List.{length-drop, nil_from_length, take-append-drop}
use Rattle.fork_rez.specs.declared.quoted.Quotes.TheVariants.{Hexadecimal}
use Rattle.fork_rez.specs.Text.{commented, digits_text, line_text, lines_of}
use Rattle.fork_rez.specs.Reading.{after_blanks, data_at, string_at, string_in}
use Rattle.fork_rez.proofs.Words.{gap, gap_skipped}
use Rattle.fork_rez.proofs.Many.{many_again, same_many, few}
use Rattle.fork_rez.proofs.Bytes.{digits_again}

-- numbers below 256
abbrev pub Small : List ℕ → Type 0
Small bytes = AllByRecursion (λ byte. byte < 256) bytes

string_begins : (text : List ℕ) → string_at (9 ∷ 36 ∷ 34 ∷ text) ≡ string_in Hexadecimal text
unfolding string_at after_blanks
string_begins text = refl

-- a line
pub line_again : (bytes rest : List ℕ) → Small bytes → string_at (line_text bytes ++ rest) ≡ Ok (Some bytes, rest)
line_again bytes rest all =
    ap (λ (t : List ℕ). string_at (9 ∷ 36 ∷ 34 ∷ t)) (append_assoc (digits_text 0 bytes) (34 ∷ []) rest)
    ∙ string_begins (digits_text 0 bytes ++ 34 ∷ rest) ∙ rw (digits_again bytes rest all) refl

-- what is after it
line_skipped : (bytes rest : List ℕ) → string_at (gap bytes ++ rest) ≡ string_at rest
unfolding string_at
line_skipped bytes rest = rw (gap_skipped bytes rest) refl

data_end : (rest : List ℕ) → string_at (125 ∷ rest) ≡ Ok (None, 125 ∷ rest)
unfolding string_at after_blanks
data_end rest = refl

next_line : (text : List ℕ) → string_at (10 ∷ text) ≡ string_at text
unfolding string_at after_blanks
next_line text = refl

-- the lines together
joined : (so_far : List ℕ) (lines : List (List ℕ)) → fold (λ b x. b ++ x) so_far lines ≡ so_far ++ flat_map (λ x. x) lines
joined so_far [] = sym (append-nil so_far)
joined so_far (line ∷ lines) = joined (so_far ++ line) lines ∙ append_assoc so_far line (flat_map (λ x. x) lines)

chunks_joined : (count : ℕ) (bytes : List ℕ) → length bytes ≤ 16 * count → flat_map (λ x. x) (first_chunks 16 count bytes) ≡ bytes
chunks_joined zero bytes few = sym (nil_from_length bytes (omega arith))
chunks_joined (suc count) bytes few =
    let left : length (drop 16 bytes) ≤ 16 * count = omega (arith, length-drop 16 bytes) in
    ap (λ (t : List ℕ). take 16 bytes ++ t) (chunks_joined count (drop 16 bytes) left) ∙ take-append-drop 16 bytes

lines_joined : (bytes : List ℕ) → flat_map (λ x. x) (lines_of bytes) ≡ bytes
lines_joined bytes = chunks_joined ((length bytes + 15) / 16) bytes (omega arith)

small_take : (n : ℕ) (bytes : List ℕ) → Small bytes → Small (take n bytes)
small_take zero bytes all = tt
small_take (suc n) [] all = tt
small_take (suc n) (byte ∷ bytes) all = (all.0, small_take n bytes all.1)

small_drop : (n : ℕ) (bytes : List ℕ) → Small bytes → Small (drop n bytes)
small_drop zero bytes all = all
small_drop (suc n) [] all = tt
small_drop (suc n) (byte ∷ bytes) all = small_drop n bytes all.1

small_chunks : (count : ℕ) (bytes : List ℕ) → Small bytes → AllByRecursion Small (first_chunks 16 count bytes)
small_chunks zero bytes all = tt
small_chunks (suc count) bytes all = (small_take 16 bytes all, small_chunks count (drop 16 bytes) (small_drop 16 bytes all))

-- a line with its comment
commented_again : (bytes rest : List ℕ) → Small bytes → string_at (commented bytes ++ rest) ≡ Ok (Some bytes, gap bytes ++ rest)
commented_again bytes rest all = ap string_at (append_assoc (line_text bytes) (gap bytes) rest) ∙ line_again bytes (gap bytes ++ rest) all

some_line : (bytes : List ℕ) → Small bytes → 0 < length (commented bytes)
some_line bytes all = omega arith

-- the data of a resource, from the end of a line on
pub data_again : (bytes rest : List ℕ) → Small bytes → data_at (10 ∷ (flat_map commented (lines_of bytes) ++ 125 ∷ rest)) ≡ Ok (bytes, 125 ∷ rest)
unfolding data_at
data_again bytes rest all =
    let lines : List (List ℕ) = lines_of bytes in
    let end : List ℕ = 125 ∷ rest in
    let text : List ℕ = flat_map commented lines ++ end in
    let small = small_chunks ((length bytes + 15) / 16) bytes all in
    let short = few commented Small some_line lines end small in
    same_many (λ so_far one. so_far ++ one) string_at (suc (length text)) [] (10 ∷ text) text (next_line text)
    ∙ many_again (λ so_far one. so_far ++ one) string_at commented gap (λ x. x) Small commented_again (λ x tail any. line_skipped x tail) end end (data_end rest) lines small
    (suc (suc (length text))) [] (omega arith)
    ∙ ap (λ (t : List ℕ). Ok (t, end)) (joined [] lines ∙ lines_joined bytes)

-- one line, and what doesn't go on with a string
pub one_line : (bytes end after : List ℕ) → Small bytes → string_at end ≡ Ok (None, after) → data_at (10 ∷ (line_text bytes ++ end)) ≡ Ok (bytes, after)
unfolding data_at
one_line bytes end after all stop = rw (next_line (line_text bytes ++ end) ∙ line_again bytes end all) (rw stop refl)
