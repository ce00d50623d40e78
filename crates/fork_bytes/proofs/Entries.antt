-- The entries of the type list, one after the other.
use Rattle.std.proofs.Common.{◌≡◌, ℕ, ◌+◌, ◌-◌, ◌*◌, ◌%◌, ◌<◌, ◌≤◌, List, ◌∷◌, ◌++◌, length, get_or, drop, IfSome, slice_get, subst, sym, ap, ◌∙◌, arith}
use Rattle.std.proofs.lemmas.List.{append_assoc, length-append}
use Rattle.byteorder.specs.Endian.{big_bytes}
use Rattle.mac_base.specs.declared.resource.Resource.{Resource}
use Rattle.fork_bytes.specs.Rows.{Row}
use Rattle.fork_bytes.specs.Written.{types_of, entries_text, datum, NamesFit}
use Rattle.fork_bytes.proofs.Steps.{drop_item, length-big_bytes}
use Rattle.fork_bytes.proofs.Counted.{said_at}

-- a count of some, less one
count_less_one : (n : ℕ) → 0 < n → n ≤ 65535 → (n + 65535) % 65536 ≡ n - 1
count_less_one n some few = omega arith

-- the entry of the rows from one place to another, and the entries after it
pub entry_step : {X : Type 0} (rows : List (Resource X)) (i j first : ℕ) (d : Resource X) → i < length rows → i < j → j ≤ length rows → length rows ≤ 65535 →
    IfSome (slice_get rows i) (λ row. types_of (drop i rows) ≡ record { kind = row.kind; count = j - i } ∷ types_of (drop j rows)) →
    entries_text (first + 12 * i) (types_of (drop i rows))
    ≡ ((get_or rows i d).kind ++ (big_bytes 2 (j - i - 1) ++ big_bytes 2 (first + 12 * i))) ++ entries_text (first + 12 * j) (types_of (drop j rows))
entry_step rows i j first d within some end few run =
    let kind = (get_or rows i d).kind in
    let others = types_of (drop j rows) in
    let at = said_at (λ (r : Resource _). types_of (drop i rows) ≡ record { kind = r.kind; count = j - i } ∷ others) rows i d within run in
    let next : first + 12 * i + 12 * (j - i) ≡ first + 12 * j = omega arith in
    let count = count_less_one (j - i) (omega arith) (omega arith) in
    let a = big_bytes 2 (j - i - 1) in let b = big_bytes 2 (first + 12 * i) in let rest = entries_text (first + 12 * j) others in
    ap (entries_text (first + 12 * i)) at
    ∙ ap (λ (n : ℕ). kind ++ (big_bytes 2 n ++ (b ++ entries_text (first + 12 * i + 12 * (j - i)) others))) count
    ∙ ap (λ (n : ℕ). kind ++ (a ++ (b ++ entries_text n others))) next
    ∙ ap (λ (xs : List ℕ). kind ++ xs) (sym (append_assoc a b rest))
    ∙ sym (append_assoc kind (a ++ b) rest)

-- how many bytes are in the data for a row
pub datum_long : (row : Row) → length (datum row) ≡ 4 + length row.datum
datum_long row = length-append (big_bytes 4 (length row.datum)) row.datum ∙ ap (λ (n : ℕ). n + length row.datum) (length-big_bytes 4 (length row.datum))

-- where the offsets of names fit from a row on, the row's own does, and so do those of the others
pub names_from : {X : Type 0} (rows : List (Resource X)) (i at : ℕ) (row : Resource X) → i < length rows → row ≡ get_or rows i row → NamesFit at (drop i rows) → NamesFit at (row ∷ drop (i + 1) rows)
names_from rows i at row within is fit = let P : List (Resource _) → Type 0 = NamesFit at in subst P (drop_item rows i row within is) fit
