-- The type list and the references of a written map are read as they were written.
use Rattle.std.proofs.Common.{◌≡◌, ℕ, suc, ◌+◌, ◌*◌, ◌%◌, ◌<◌, ◌≤◌, Bool, true, false, List, [], ◌∷◌, ◌++◌, length, map, refl, ap, ◌∙◌, arith, bytes_eq, if◌then◌else◌}
use Rattle.std.specs.List.{flat_map}
use Rattle.std.proofs.lemmas.List.{append_assoc}
use Rattle.std.proofs.lemmas.Slice.Eq.{bytes_eq-Decides}
use Rattle.byteorder.specs.Endian.{big_bytes}
use Rattle.fork_bytes.specs.declared.layout.TypeCount.{TypeCount}
use Rattle.fork_bytes.specs.Rows.{Row}
use Rattle.fork_bytes.specs.Fork.{TypeEntry, Reference, places, entry_at, references_in, number_at, bytes_at, type_list}
use Rattle.fork_bytes.specs.Written.{types_of, counted_before, count_bytes, entries_text}
use Rattle.fork_bytes.proofs.Lengths.{AreFour}
use Rattle.fork_bytes.proofs.ReadBack.{number_in, bytes_in, after, length-after}

-- the entries of types, where the references of the first are so far after the start of the type list
abbrev pub entries_for : ℕ → List TypeCount → List TypeEntry
entries_for at [] = []
entries_for at (first ∷ others) = record { kind = first.kind; count = first.count; start = 28 + at } ∷ entries_for (at + 12 * first.count) others

-- how many rows the types have
abbrev pub total : List TypeCount → ℕ
total [] = 0
total (first ∷ others) = first.count + total others

total-counted_before : (kind : List ℕ) (n : ℕ) (types : List TypeCount) → total (counted_before kind n types) ≡ n + total types
total-counted_before kind n [] = omega arith
total-counted_before kind n (first ∷ others) = by_case (bytes_eq kind first.kind)
  where
    by_case : (b : Bool) → total (if b then record { kind = kind; count = n + first.count } ∷ others else record { kind = kind; count = n } ∷ first ∷ others) ≡ n + (first.count + total others)
    by_case true = omega arith
    by_case false = refl

-- as many as there are
pub total-types_of : (rows : List Row) → total (types_of rows) ≡ length rows
total-types_of [] = refl
total-types_of (row ∷ rows) = let one = total-counted_before row.kind 1 (types_of rows) in let others = total-types_of rows in omega arith

-- the same parts are the same entry
abbrev entry_with : List ℕ → ℕ → ℕ → TypeEntry
entry_with kind count start = record { kind = kind; count = count; start = start }

same_entry : (a p : List ℕ) (b c q r : ℕ) → a ≡ p → b ≡ q → c ≡ r → entry_with a b c ≡ entry_with p q r
same_entry a p b c q r first second third =
    ap (λ (x : List ℕ). entry_with x b c) first ∙ ap (λ (x : ℕ). entry_with p x c) second ∙ ap (λ (x : ℕ). entry_with p q x) third

-- one entry
entry_is : (resource_map before rest : List ℕ) (at place : ℕ) (first : TypeCount) →
    resource_map ≡ before ++ (first.kind ++ (count_bytes first.count ++ (big_bytes 2 at ++ rest))) → length before ≡ place → type_list resource_map ≡ 28 →
    length first.kind ≡ 4 → first.count < 65536 → at < 65536 → entry_at resource_map place ≡ entry_with first.kind first.count (28 + at)
entry_is resource_map before rest at place first is long start four few low =
    let kind = first.kind in let count = count_bytes first.count in
    let after_kind = after resource_map before kind (count ++ (big_bytes 2 at ++ rest)) is in
    let after_count = after resource_map (before ++ kind) count (big_bytes 2 at ++ rest) after_kind in
    let long_kind = length-after place 4 before kind long four in
    let long_count = length-after (place + 4) 2 (before ++ kind) count long_kind refl in
    let less_one : number_at 2 (place + 4) resource_map ≡ (first.count + 65535) % 65536 =
    ap (number_at 2 (place + 4)) after_kind ∙ number_in 2 ((first.count + 65535) % 65536) (place + 4) (before ++ kind) (big_bytes 2 at ++ rest) long_kind (omega arith) in
    let offset : number_at 2 (place + 6) resource_map ≡ at =
    ap (number_at 2 (place + 6)) after_count ∙ number_in 2 at (place + 6) ((before ++ kind) ++ count) rest (omega arith) low in
    same_entry _ _ _ _ _ _
    (ap (bytes_at 4 place) is ∙ bytes_in 4 place before kind (count ++ (big_bytes 2 at ++ rest)) long four)
    (ap (λ (x : ℕ). (x + 1) % 65536) less_one ∙ omega arith)
    (omega arith)

-- all entries
pub entries_are : (resource_map before rest : List ℕ) (at place : ℕ) (types : List TypeCount) →
    resource_map ≡ before ++ (entries_text at types ++ rest) → length before ≡ place → type_list resource_map ≡ 28 →
    AreFour types → at + 12 * total types ≤ 65535 → map (entry_at resource_map) (places (length types) place 8) ≡ entries_for at types
entries_are resource_map before rest at place [] is long start four low = refl
entries_are resource_map before rest at place (first ∷ others) is long start four low =
    let kind = first.kind in let count = count_bytes first.count in let offset = big_bytes 2 at in
    let next = entries_text (at + 12 * first.count) others in
    let split : resource_map ≡ before ++ (kind ++ (count ++ (offset ++ (next ++ rest)))) =
    is ∙ ap (λ (xs : List ℕ). before ++ xs) (append_assoc kind (count ++ (offset ++ next)) rest) in
    let one = entry_is resource_map before (next ++ rest) at place first split long start four.0 (omega arith) (omega arith) in
    let after_kind = after resource_map before kind (count ++ (offset ++ (next ++ rest))) split in
    let after_entry = after resource_map (before ++ kind) (count ++ offset) (next ++ rest) after_kind in
    let long_entry = length-after (place + 4) 4 (before ++ kind) (count ++ offset) (length-after place 4 before kind long four.0) refl in
    let all = entries_are resource_map ((before ++ kind) ++ (count ++ offset)) rest (at + 12 * first.count) (place + 8) others after_entry (omega arith) start four.1 (omega arith) in
    ap (λ (e : TypeEntry). e ∷ map (entry_at resource_map) (places (length others) (place + 8) 8)) one
    ∙ ap (λ (es : List TypeEntry). entry_with kind first.count (28 + at) ∷ es) all

-- the references of rows, where the first is at this place
abbrev pub references_for : ℕ → List Row → List Reference
references_for at [] = []
references_for at (row ∷ rows) = record { kind = row.kind; place = at } ∷ references_for (at + 12) rows

-- so many references of a type
abbrev references_at : List ℕ → ℕ → ℕ → List Reference
references_at kind count start = references_in (entry_with kind count start)

-- one more row of a type before others
one_more : (kind : List ℕ) (at : ℕ) (types : List TypeCount) →
    flat_map references_in (entries_for at (counted_before kind 1 types)) ≡ record { kind = kind; place = 28 + at } ∷ flat_map references_in (entries_for (at + 12) types)
one_more kind at [] = refl
one_more kind at (first ∷ others) = by_case (bytes_eq kind first.kind) refl
  where
    by_case : (b : Bool) → bytes_eq kind first.kind ≡ b →
        flat_map references_in (entries_for at (if b then record { kind = kind; count = 1 + first.count } ∷ others else record { kind = kind; count = 1 } ∷ first ∷ others))
        ≡ record { kind = kind; place = 28 + at } ∷ flat_map references_in (entries_for (at + 12) (first ∷ others))
    by_case true is =
        let alike = (bytes_eq-Decides kind first.kind).0 is in
        let more : 1 + first.count ≡ suc first.count = omega arith in
        let next : 28 + at + 12 ≡ 28 + (at + 12) = omega arith in
        let after_all : at + 12 * (1 + first.count) ≡ at + 12 + 12 * first.count = omega arith in
        let head : Reference = record { kind = kind; place = 28 + at } in
        let rest : ℕ → List Reference = λ n. flat_map references_in (entries_for n others) in
        ap (λ (n : ℕ). references_at kind n (28 + at) ++ rest (at + 12 * (1 + first.count))) more
        ∙ ap (λ (n : ℕ). head ∷ (references_at kind first.count (28 + at + 12) ++ rest n)) after_all
        ∙ ap (λ (n : ℕ). head ∷ (references_at kind first.count n ++ rest (at + 12 + 12 * first.count))) next
        ∙ ap (λ (k : List ℕ). head ∷ (references_at k first.count (28 + (at + 12)) ++ rest (at + 12 + 12 * first.count))) alike
    by_case false is = refl

-- all references
pub references_are : (at : ℕ) (rows : List Row) → flat_map references_in (entries_for at (types_of rows)) ≡ references_for (28 + at) rows
references_are at [] = refl
references_are at (row ∷ rows) =
    let next : 28 + (at + 12) ≡ 28 + at + 12 = omega arith in
    let head : Reference = record { kind = row.kind; place = 28 + at } in
    one_more row.kind at (types_of rows)
    ∙ ap (λ (rs : List Reference). head ∷ rs) (references_are (at + 12) rows)
    ∙ ap (λ (n : ℕ). head ∷ references_for n rows) next
