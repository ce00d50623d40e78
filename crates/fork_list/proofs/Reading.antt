-- How far a type's text is read.
use Rattle.std.proofs.Common.{◌≡◌, ◌≢◌, ℕ, suc, ◌+◌, ◌-◌, ◌<◌, ◌≤◌, ◌⊎◌, inl, inr, ◌↔◌, Bool, true, false, Option, Some, None, List, [], ◌∷◌, ◌++◌, length, set, refl, sym, ap, ◌∙◌, subst, arith, append_assoc, append-nil}
use Rattle.std.specs.Prelude.{◌==◌, replicate, All}
use Rattle.std.specs.List.{flat_map}
use Rattle.std.proofs.lemmas.Bool.{eqb-true, eqb-false}
use Rattle.std.proofs.lemmas.List.{length-append, nil_from_length}
use Rattle.std.proofs.Math.Seq.{set-append_seam}
use Rattle.fork_list.specs.Kind.{ShowsFirst, ShowsBytes, Quotes, ShowsBare, ShowsKind, in_quotes, written}
use Rattle.fork_list.proofs.Written.{After, Plain, Digits, forms, same_first}

-- these bytes are shown first, and what is after them shows the others
abbrev pub Reads : List ℕ → List ℕ → List ℕ → Type 0
Reads inner done rest = ((bytes : List ℕ) → ShowsBytes rest bytes → ShowsBytes inner (done ++ bytes))
    × ((bytes : List ℕ) → ShowsBytes inner bytes → (tail : List ℕ) × (bytes ≡ done ++ tail) × ShowsBytes rest tail)

-- what is read after so many turns: all bytes, or as many
abbrev pub Reading : List ℕ → List ℕ → List ℕ → ℕ → Type 0
Reading inner rest kind i = (done : List ℕ) × Reads inner done rest × (kind ≡ done ++ replicate (4 - length done) 32) × (length done ≤ i)
    × (length done < i → rest ≡ [])

differ : (a b : ℕ) → a ≡ 39 → b ≡ 92 → a ≡ b → ⊥
differ a b low high is = omega arith

nothing_first : (byte : ℕ) (rest : List ℕ) → After [] byte rest ⊎ (Plain [] byte rest ⊎ Digits [] byte rest) → ⊥
nothing_first byte rest (inl p) = let whole = p.0 in absurd cc
nothing_first byte rest (inr (inl p)) = let whole = p.0 in absurd cc
nothing_first byte rest (inr (inr p)) = let whole = p.2 in absurd cc

quote_first : (t : List ℕ) (byte : ℕ) (rest : List ℕ) → After (39 ∷ t) byte rest ⊎ (Plain (39 ∷ t) byte rest ⊎ Digits (39 ∷ t) byte rest) → ⊥
quote_first t byte rest (inl p) = let whole = p.0 in absurd (differ 39 92 refl refl cc)
quote_first t byte rest (inr (inl p)) = let whole = p.0 in let is : byte ≡ 39 = cc in absurd (p.3 is)
quote_first t byte rest (inr (inr p)) = let whole = p.2 in absurd (differ 39 92 refl refl cc)

-- a text is empty where the test for it says so
pub empty_if : (xs : List ℕ) (test : Bool) → test ≡ (length xs == 0) → test ≡ true → xs ≡ []
empty_if xs test is passes = nil_from_length xs (eqb-true _ _ (sym is ∙ passes))

-- and has some bytes where it doesn't
pub some_if : (xs : List ℕ) (test : Bool) → test ≡ (length xs == 0) → test ≡ false → xs ≢ []
some_if xs test is fails empty = eqb-false _ _ (sym is ∙ fails) (ap (λ (t : List ℕ). length t) empty)

-- no text shows no bytes
nothing_shown : (bytes : List ℕ) → ShowsBytes [] bytes → bytes ≡ []
nothing_shown [] is = refl
nothing_shown (byte ∷ bytes) is = absurd (nothing_first byte is.0 (forms [] byte is.0 is.1))

-- what is after the first byte shows the others
next_of : (rest after : List ℕ) (byte : ℕ) (tail : List ℕ) → rest ≢ [] → ShowsFirst rest byte after → ShowsBytes rest tail
    → (more : List ℕ) × (tail ≡ byte ∷ more) × ShowsBytes after more
next_of rest after byte [] some first is = absurd (some is)
next_of rest after byte (b ∷ more) some first is =
    let same = same_first rest byte b after is.0 first is.1 in
    (more, ap (λ (n : ℕ). n ∷ more) (sym same.0), subst (λ (t : List ℕ). ShowsBytes t more) (sym same.1) is.2)

-- one byte more
reads_more : (inner done rest after : List ℕ) (byte : ℕ) → rest ≢ [] → ShowsFirst rest byte after → Reads inner done rest → Reads inner (done ++ byte ∷ []) after
reads_more inner done rest after byte some first reads = (
  λ bytes is. subst (λ (t : List ℕ). ShowsBytes inner t) (sym (append_assoc done (byte ∷ []) bytes)) (reads.0 (byte ∷ bytes) (after, first, is)),
  λ bytes is.
      let found = reads.1 bytes is in
      let next = next_of rest after byte found.0 some first found.2 in
      (next.0, found.1 ∙ ap (λ (t : List ℕ). done ++ t) next.1 ∙ sym (append_assoc done (byte ∷ []) next.0), next.2),
)

-- a byte put after those that are there
put_next : (done kind : List ℕ) (byte i : ℕ) → length done ≡ i → i < 4 → kind ≡ done ++ replicate (4 - length done) 32
    → set kind i byte ≡ (done ++ byte ∷ []) ++ replicate (4 - length (done ++ byte ∷ [])) 32
put_next done kind byte i is small whole =
    let left : 4 - length done ≡ suc (3 - i) = omega arith in
    let longer : length (done ++ byte ∷ []) ≡ i + 1 = length-append done (byte ∷ []) ∙ ap (λ (n : ℕ). n + 1) is in
    let fewer : 4 - length (done ++ byte ∷ []) ≡ 3 - i = omega arith in
    ap (λ (t : List ℕ). set t i byte) (whole ∙ ap (λ (n : ℕ). done ++ replicate n 32) left)
    ∙ ap (λ (n : ℕ). set (done ++ 32 ∷ replicate (3 - i) 32) n byte) (sym is)
    ∙ set-append_seam done 32 (replicate (3 - i) 32) byte
    ∙ sym (append_assoc done (byte ∷ []) (replicate (3 - i) 32))
    ∙ ap (λ (n : ℕ). (done ++ byte ∷ []) ++ replicate n 32) (sym fewer)

-- a turn that reads a byte
pub reading_more : (inner rest after kind : List ℕ) (byte i : ℕ) → rest ≢ [] → i < 4 → ShowsFirst rest byte after → Reading inner rest kind i → Reading inner after (set kind i byte) (i + 1)
reading_more inner rest after kind byte i some small first (done, reads, whole, most, short) =
    let exact : length done ≡ i = grind (arith, some, most, short) in
    let longer : length (done ++ byte ∷ []) ≡ i + 1 = length-append done (byte ∷ []) ∙ ap (λ (n : ℕ). n + 1) exact in
    (done ++ byte ∷ [], reads_more inner done rest after byte some first reads, put_next done kind byte i exact small whole, omega arith, λ below. absurd (omega arith))

-- a turn where nothing is left
pub reading_stays : (inner rest kind : List ℕ) (i : ℕ) → rest ≡ [] → Reading inner rest kind i → Reading inner rest kind (i + 1)
reading_stays inner rest kind i none (done, reads, whole, most, short) = (done, reads, whole, omega arith, λ below. none)

-- the text between quotes is one
one_inner : (text between inner bytes : List ℕ) → Quotes text between → ((other : List ℕ) → text ≡ 39 ∷ (other ++ 39 ∷ []) → between ≡ other) → Quotes text inner
    → ShowsBytes inner bytes → 0 < length bytes → inner ≡ between
one_inner text between inner bytes stands alone (inr is) shown some = sym (alone inner is)
one_inner text between inner bytes (inl stands) alone (inl is) shown some = sym is ∙ stands
one_inner text between inner [] (inr stands) alone (inl is) shown some = absurd (omega arith)
one_inner text between inner (byte ∷ bytes) (inr stands) alone (inl is) shown some =
    absurd (quote_first (between ++ 39 ∷ []) byte shown.0 (forms _ byte shown.0 (subst (λ (t : List ℕ). ShowsFirst t byte shown.0) (sym is ∙ stands) shown.1)))

-- the text shows no type
abbrev pub ShowsNone : List ℕ → Type 0
ShowsNone inner = (bytes : List ℕ) → ShowsBytes inner bytes → 0 < length bytes → length bytes ≤ 4 → ⊥

-- nothing is there
pub none_empty : (inner : List ℕ) → inner ≡ [] → ShowsNone inner
none_empty inner empty bytes shown some most =
    let none : bytes ≡ [] = nothing_shown bytes (subst (λ (t : List ℕ). ShowsBytes t bytes) empty shown) in
    let short : length bytes ≡ 0 = ap (λ (t : List ℕ). length t) none in
    omega arith

none_next : (rest tail : List ℕ) → rest ≢ [] → ((byte : ℕ) → (after : List ℕ) → ¬ ShowsFirst rest byte after) → ShowsBytes rest tail → ⊥
none_next rest [] some none is = some is
none_next rest (byte ∷ tail) some none is = none byte is.0 is.1

-- the next byte isn't shown
pub none_stuck : (inner rest kind : List ℕ) (i : ℕ) → rest ≢ [] → ((byte : ℕ) → (after : List ℕ) → ¬ ShowsFirst rest byte after) → Reading inner rest kind i → ShowsNone inner
none_stuck inner rest kind i some none (done, reads, whole, most, short) bytes shown some_bytes most_bytes =
    let found = reads.1 bytes shown in
    none_next rest found.0 some none found.2

some_tail : (rest tail : List ℕ) → rest ≢ [] → ShowsBytes rest tail → 0 < length tail
some_tail rest [] some is = absurd (some is)
some_tail rest (byte ∷ tail) some is = omega arith

-- there are too many
pub none_long : (inner rest kind : List ℕ) → rest ≢ [] → Reading inner rest kind 4 → ShowsNone inner
none_long inner rest kind some (done, reads, whole, most, short) bytes shown some_bytes most_bytes =
    let found = reads.1 bytes shown in
    let more : 0 < length found.0 = some_tail rest found.0 some found.2 in
    let exact : length done ≡ 4 = grind (arith, some, most, short) in
    let count : length bytes ≡ length done + length found.0 = ap (λ (t : List ℕ). length t) found.1 ∙ length-append done found.0 in
    omega arith

-- no type is given
pub none_exact : (inner : List ℕ) → ShowsNone inner → (kind : List ℕ) → (None ≡ Some kind) ↔ ShowsBare inner kind
none_exact inner none kind = (λ is. absurd cc, λ (bytes, shown, some, most, whole). absurd (none bytes shown some most))

all_shown : (inner rest kind : List ℕ) → inner ≢ [] → rest ≡ [] → Reading inner rest kind 4 → ShowsBare inner kind
all_shown inner rest kind some none (done, reads, whole, most, short) =
    let shown : ShowsBytes inner done = subst (λ (t : List ℕ). ShowsBytes inner t) (append-nil done) (reads.0 [] none) in
    (done, shown, some_tail inner done some shown, most, whole)

all_alone : (inner rest kind other : List ℕ) → rest ≡ [] → Reading inner rest kind 4 → ShowsBare inner other → kind ≡ other
all_alone inner rest kind other none (done, reads, whole, most, short) (bytes, shown, some, most', is) =
    let found = reads.1 bytes shown in
    let nothing : found.0 ≡ [] = nothing_shown found.0 (subst (λ (t : List ℕ). ShowsBytes t found.0) none found.2) in
    let same : bytes ≡ done = found.1 ∙ ap (λ (t : List ℕ). done ++ t) nothing ∙ append-nil done in
    whole ∙ ap (λ (t : List ℕ). t ++ replicate (4 - length t) 32) (sym same) ∙ sym is

-- all is read
pub some_exact : (inner rest given : List ℕ) → inner ≢ [] → rest ≡ [] → Reading inner rest given 4 → (kind : List ℕ) → (Some given ≡ Some kind) ↔ ShowsBare inner kind
some_exact inner rest given some none reading kind = (
  λ is. let same : given ≡ kind = cc in subst (λ (t : List ℕ). ShowsBare inner t) same (all_shown inner rest given some none reading),
  λ other. ap (λ (t : List ℕ). Some t) (all_alone inner rest given kind none reading other),
)

-- what is between the quotes shows the type that the text shows
pub kind_exact : (text between : List ℕ) (given : Option (List ℕ)) → Quotes text between → ((other : List ℕ) → text ≡ 39 ∷ (other ++ 39 ∷ []) → between ≡ other)
    → ((kind : List ℕ) → (given ≡ Some kind) ↔ ShowsBare between kind) → (kind : List ℕ) → (given ≡ Some kind) ↔ ShowsKind text kind
kind_exact text between given stands alone bare kind = (
  λ is. (between, stands, (bare kind).0 is),
  λ (inner, quotes, (bytes, shown, some, most, whole)).
      (bare kind).1 (subst (λ (t : List ℕ). ShowsBare t kind) (one_inner text between inner bytes stands alone quotes shown some) (bytes, shown, some, most, whole)),
)

-- bytes that are shown as a list shows them
listed_bytes : (bytes : List ℕ) → All (λ byte. byte < 256) bytes → ShowsBytes (flat_map written bytes) bytes
listed_bytes [] small = refl
listed_bytes (byte ∷ bytes) small = (flat_map written bytes, (written byte, inl (small 0 0 (omega arith), refl), refl), listed_bytes bytes (λ k d below. small (suc k) d (omega arith)))

-- a type as a list shows it is given
pub listed_kind : (text : List ℕ) (given : Option (List ℕ)) → ((kind : List ℕ) → (given ≡ Some kind) ↔ ShowsKind text kind)
    → (kind : List ℕ) → length kind ≡ 4 → All (λ byte. byte < 256) kind → text ≡ in_quotes kind → given ≡ Some kind
listed_kind text given exact kind four small is =
    (exact kind).1 (
      flat_map written kind,
      inr is,
      (
        kind,
        listed_bytes kind small,
        omega arith,
        omega arith,
        sym (ap (λ (n : ℕ). kind ++ replicate (4 - n) 32) four ∙ append-nil kind),
      ),
    )
