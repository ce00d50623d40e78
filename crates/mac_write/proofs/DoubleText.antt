-- The parts of AppleDouble that are written one after the other.
use Rattle.std.proofs.Common.{◌≡◌, ℕ, ◌+◌, List, [], ◌∷◌, ◌++◌, length, refl, sym, ap, ◌∙◌, append_assoc, arith}
use Rattle.std.proofs.lemmas.List.{append-nil}
use Rattle.mac_write.specs.Parts.{IsFile, Parts}
use Rattle.mac_write.specs.Targets.{contents, double_entries, finder_text, known_dates, place, places, said}
use Rattle.mac_write.proofs.ReadDouble.{length-contents, length-finder}

-- Several entries.

contents_said : (id : ℕ) (bytes : List ℕ) → contents (said id bytes) ≡ bytes
contents_said id [] = refl
contents_said id (byte ∷ bytes) = append-nil (byte ∷ bytes)

contents-append : (es fs : List (ℕ × List ℕ)) → contents (es ++ fs) ≡ contents es ++ contents fs
contents-append [] fs = refl
contents-append (e ∷ es) fs = ap (λ (bytes : List ℕ). e.1 ++ bytes) (contents-append es fs) ∙ sym (append_assoc e.1 (contents es) (contents fs))

places-append : (at : ℕ) (es fs : List (ℕ × List ℕ)) → places at (es ++ fs) ≡ places at es ++ places (at + length (contents es)) fs
places-append at [] fs = ap (λ (n : ℕ). places n fs) (omega arith)
places-append at (e ∷ es) fs =
    let size = length-contents e es in
    ap (λ (bytes : List ℕ). place e.0 at (length e.1) ++ bytes) (places-append (at + length e.1) es fs
    ∙ ap (λ (n : ℕ). places (at + length e.1) es ++ places n fs) (omega arith))
    ∙ sym (append_assoc (place e.0 at (length e.1)) (places (at + length e.1) es) (places (at + length (contents (e ∷ es))) fs))

-- the entries of bytes that follow others
said_next : (at id : ℕ) (bytes : List ℕ) (more : List (ℕ × List ℕ)) → places at (said id bytes ++ more) ≡ places at (said id bytes) ++ places (at + length bytes) more
said_next at id bytes more =
    places-append at (said id bytes) more ∙ ap (λ (xs : List ℕ). places at (said id bytes) ++ places (at + length xs) more) (contents_said id bytes)

-- the list of a file
pub places_double : (file : Parts) (at : ℕ) → IsFile file → places at (double_entries file)
    ≡ place 9 at 32 ++ (place 2 (at + 32) (length file.resource_fork)
    ++ (places (at + 32 + length file.resource_fork) (said 3 file.name)
    ++ (places (at + 32 + length file.resource_fork + length file.name) (said 4 file.comment)
    ++ places (at + 32 + length file.resource_fork + length file.name + length file.comment) (said 8 (known_dates file)))))
places_double file at is =
    let start = at + 32 + length file.resource_fork in
    ap (λ (n : ℕ). place 9 at n ++ (place 2 (at + n) (length file.resource_fork) ++ places (at + n + length file.resource_fork) (said 3 file.name ++ (said 4 file.comment ++ said 8 (known_dates file))))) (length-finder file is)
    ∙ ap (λ (xs : List ℕ). place 9 at 32 ++ (place 2 (at + 32) (length file.resource_fork) ++ xs))
    (said_next start 3 file.name (said 4 file.comment ++ said 8 (known_dates file))
    ∙ ap (λ (xs : List ℕ). places start (said 3 file.name) ++ xs) (said_next (start + length file.name) 4 file.comment (said 8 (known_dates file))))

-- the bytes of a file
pub contents_double : (file : Parts) → contents (double_entries file) ≡ finder_text file ++ (file.resource_fork ++ (file.name ++ (file.comment ++ known_dates file)))
contents_double file =
    ap (λ (xs : List ℕ). finder_text file ++ (file.resource_fork ++ xs))
    (contents-append (said 3 file.name) (said 4 file.comment ++ said 8 (known_dates file))
    ∙ ap (λ (xs : List ℕ). xs ++ contents (said 4 file.comment ++ said 8 (known_dates file))) (contents_said 3 file.name)
    ∙ ap (λ (xs : List ℕ). file.name ++ xs) (contents-append (said 4 file.comment) (said 8 (known_dates file))
    ∙ ap (λ (xs : List ℕ). xs ++ contents (said 8 (known_dates file))) (contents_said 4 file.comment)
    ∙ ap (λ (xs : List ℕ). file.comment ++ xs) (contents_said 8 (known_dates file))))
