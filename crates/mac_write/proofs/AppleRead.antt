-- What AppleSingle or AppleDouble with another resource fork says.
use Rattle.std.proofs.Common.{◌≡◌, inl, inr, ℕ, ◌+◌, ◌-◌, ◌<◌, ◌≤◌, List, [], ◌∷◌, length, map, take, drop, refl, sym, ap, subst, ◌∙◌, arith, Bool, true, false, None, if◌then◌else◌}
use Rattle.std.specs.Prelude.{find, nat_le, not, ◌&&◌, ◌||◌, ◌==◌}
use Rattle.std.specs.List.{AllByRecursion}
use Rattle.std.proofs.lemmas.Bool.{eqb-false, eqb-true, le-leb, leb-true, le-ltb, lt-ltb}
use Rattle.mac_files.specs.declared.part.Part.{Part}
use Rattle.mac_files.specs.declared.fault.Entry.{Entry}
use Rattle.mac_files.specs.Apple.{list_end}
use Rattle.mac_files.specs.Parts.{bytes_of, lies_within}
use Rattle.mac_write.specs.Apple.{apple_with_fork, changed, fork_entry, growth, is_fork, moved_place, new_length, room, room_end}
use Rattle.mac_write.specs.Forks.{told, told_with}
use Rattle.mac_write.proofs.EntriesRead.{IsSmall}
use Rattle.mac_write.proofs.AppleKept.{apart, IsKept, IsOpen, fork_is, length-new, moved_same}

-- The entry of the new list.

-- it is small, its bytes lie within the new file, and they are those of the fork or of the old entry
pub record IsWell (file fork : List ℕ) (e : Entry) : Type 0 where
  pub small : IsSmall (changed file (length fork) e)
  pub lies : lies_within (length (apple_with_fork file fork)) (changed file (length fork) e).part ≡ true
  pub own : is_fork file e ≡ true → bytes_of (changed file (length fork) e).part (apple_with_fork file fork) ≡ fork
  pub other : is_fork file e ≡ false
      → ((changed file (length fork) e).part.length ≡ e.part.length) × (bytes_of (changed file (length fork) e).part (apple_with_fork file fork) ≡ bytes_of e.part file)

lies_at : (total : ℕ) (part : Part) → part.offset + part.length ≤ total → lies_within total part ≡ true
lies_at total part h = ap (λ (b : Bool). (part.length == 0) || b) (le-leb (part.offset + part.length) total h) ∙ or_true (part.length == 0)
  where
    or_true : (b : Bool) → (b || true) ≡ true
    or_true true = refl
    or_true false = refl

lies_empty : (total : ℕ) (part : Part) → (part.length == 0) ≡ true → lies_within total part ≡ true
lies_empty total part is = ap (λ (b : Bool). b || nat_le (part.offset + part.length) total) is

second_is : (a b : Bool) → a ≡ false → (a || b) ≡ true → b ≡ true
second_is true b empty both = absurd (cc empty)
second_is false b empty both = both

pub within_file : (total : ℕ) (part : Part) → lies_within total part ≡ true → (part.length == 0) ≡ false → part.offset + part.length ≤ total
within_file total part inside has =
    leb-true (part.offset + part.length) total (second_is (part.length == 0) (nat_le (part.offset + part.length) total) has inside)

-- three parts: that of the fork, one of no bytes, and one that moved
well_at : (file fork : List ℕ) (e : Entry) (part : Part) → IsKept file e → (changed file (length fork) e).part ≡ part
    → part.offset < 4294967296 → part.length < 4294967296 → lies_within (length (apple_with_fork file fork)) part ≡ true
    → (is_fork file e ≡ true → bytes_of part (apple_with_fork file fork) ≡ fork)
    → (is_fork file e ≡ false → (part.length ≡ e.part.length) × (bytes_of part (apple_with_fork file fork) ≡ bytes_of e.part file))
    → IsWell file fork e
well_at file fork e part kept is offset size lies own other = record {
  small = record {
    id = kept.small.id;
    offset = subst (λ (p : Part). p.offset < 4294967296) (sym is) offset;
    size = subst (λ (p : Part). p.length < 4294967296) (sym is) size;
  };
  lies = subst (λ (p : Part). lies_within (length (apple_with_fork file fork)) p ≡ true) (sym is) lies;
  own = subst (λ (p : Part). is_fork file e ≡ true → bytes_of p (apple_with_fork file fork) ≡ fork) (sym is) own;
  other = subst (λ (p : Part). is_fork file e ≡ false → (p.length ≡ e.part.length) × (bytes_of p (apple_with_fork file fork) ≡ bytes_of e.part file)) (sym is) other;
}

-- the part of the entry, by what it is
abbrev pub part_by : List ℕ → ℕ → Entry → Bool → Bool → Part
part_by file count e own empty =
    if own then record { offset = (room file).offset + growth file; length = count }
    else (if empty then e.part else record { offset = moved_place file count e.part.offset; length = e.part.length })

few_moved : (file : List ℕ) (count : ℕ) (e : Entry) → IsOpen file count → IsKept file e → is_fork file e ≡ false → (e.part.length == 0) ≡ false
    → e.part.offset + e.part.length ≤ length file → moved_place file count e.part.offset + e.part.length ≤ new_length file count
few_moved file count e of kept other has inside =
    let i = e.part.offset in let k = e.part.length in let place = (room file).offset in let whole = of.room in
    let clear = apart (k == 0) (nat_le (list_end file) i) (is_fork file e) (nat_le (i + k) place) (nat_le (room_end file) i) has other kept.clear in
    let P : Bool → Type 0 = λ b. (if b then i + growth file else i + growth file + count - (room file).length) + k ≤ new_length file count in
    elim clear.1 [
      | inl first ↦
          let high = leb-true (i + k) place first in
          let below : i < place = omega (arith, eqb-false k 0 has) in
          subst P (sym (lt-ltb i place below)) (omega arith)
      | inr last ↦
          let high = leb-true (room_end file) i last in
          subst P (sym (le-ltb i place (omega arith))) (omega arith)
    ]

well_by : (file fork : List ℕ) (e : Entry) (own empty : Bool) → is_fork file e ≡ own → (e.part.length == 0) ≡ empty
    → IsOpen file (length fork) → IsKept file e → IsWell file fork e
well_by file fork e true empty is has of kept =
    let n = length fork in let new = length-new file fork of in let a = of.short in let b = of.room in
    well_at file fork e (record { offset = (room file).offset + growth file; length = n }) kept (ap (λ (b : Bool). part_by file n e b (e.part.length == 0)) is)
    (omega arith) (omega arith) (lies_at (length (apple_with_fork file fork)) (record { offset = (room file).offset + growth file; length = n }) (omega arith))
    (λ _. fork_is file fork of) (λ not. absurd (cc (is, not)))
well_by file fork e false true is has of kept =
    let n = length fork in let none = eqb-true e.part.length 0 has in
    well_at file fork e e.part kept (ap (λ (b : Bool). part_by file n e b (e.part.length == 0)) is ∙ ap (part_by file n e false) has)
    kept.small.offset kept.small.size (lies_empty (length (apple_with_fork file fork)) e.part has) (λ own. absurd (cc (is, own)))
    (λ _. (refl, ap (λ (k : ℕ). take k (drop e.part.offset (apple_with_fork file fork))) none ∙ sym (ap (λ (k : ℕ). take k (drop e.part.offset file)) none)))
well_by file fork e false false is has of kept =
    let n = length fork in let new = length-new file fork of in let inside = within_file (length file) e.part kept.lies has in
    let ends = few_moved file n e of kept is has inside in let a = of.short in
    well_at file fork e (record { offset = moved_place file n e.part.offset; length = e.part.length }) kept
    (ap (λ (b : Bool). part_by file n e b (e.part.length == 0)) is ∙ ap (part_by file n e false) has)
    (omega arith) kept.small.size (lies_at (length (apple_with_fork file fork)) (record { offset = moved_place file n e.part.offset; length = e.part.length }) (omega arith))
    (λ own. absurd (cc (is, own))) (λ _. (refl, moved_same file fork e of kept is has))

pub well : (file fork : List ℕ) (e : Entry) → IsOpen file (length fork) → IsKept file e → IsWell file fork e
well file fork e = well_by file fork e (is_fork file e) (e.part.length == 0) refl refl

pub all_well : (file fork : List ℕ) (entries : List Entry) → IsOpen file (length fork) → AllByRecursion (IsKept file) entries → AllByRecursion (IsWell file fork) entries
all_well file fork [] of kept = tt
all_well file fork (e ∷ entries) of kept = (well file fork e of kept.0, all_well file fork entries of kept.1)

pub all_small : (file fork : List ℕ) (entries : List Entry) → AllByRecursion (IsWell file fork) entries
    → AllByRecursion IsSmall (map (changed file (length fork)) entries)
all_small file fork [] wells = tt
all_small file fork (e ∷ entries) wells = (wells.0.small, all_small file fork entries wells.1)

-- none lies outside
pub none_outside : (file fork : List ℕ) (entries : List Entry) → AllByRecursion (IsWell file fork) entries
    → find (λ (e : Entry). not (lies_within (length (apple_with_fork file fork)) e.part)) (map (changed file (length fork)) entries) ≡ None
none_outside file fork [] wells = refl
none_outside file fork (e ∷ entries) wells = rw wells.0.lies (none_outside file fork entries wells.1)

first_is : (a b : Bool) → (a && b) ≡ true → a ≡ true
first_is true b both = refl
first_is false b both = absurd (cc both)

-- each entry's bytes
told_same : (file fork : List ℕ) (e : Entry) (own : Bool) → is_fork file e ≡ own → IsWell file fork e
    → told (apple_with_fork file fork) (changed file (length fork) e) ≡ (if own then (2, fork) else told file e)
told_same file fork e true is of =
    ap (λ (bytes : List ℕ). (e.id, bytes)) (of.own is) ∙ ap (λ (id : ℕ). (id, fork)) (eqb-true e.id 2 (first_is (e.id == 2) (e.at == (fork_entry file).at) is))
told_same file fork e false is of = ap (λ (bytes : List ℕ). (e.id, bytes)) (of.other is).1

pub all_told : (file fork : List ℕ) (entries : List Entry) → AllByRecursion (IsWell file fork) entries
    → map (told (apple_with_fork file fork)) (map (changed file (length fork)) entries) ≡ map (told_with fork file) entries
all_told file fork [] wells = refl
all_told file fork (e ∷ entries) wells =
    ap (λ (x : ℕ × List ℕ). x ∷ map (told (apple_with_fork file fork)) (map (changed file (length fork)) entries)) (told_same file fork e (is_fork file e) refl wells.0)
    ∙ ap (λ (xs : List (ℕ × List ℕ)). told_with fork file e ∷ xs) (all_told file fork entries wells.1)
