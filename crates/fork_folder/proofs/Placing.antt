-- One more entry as the last of its type.
use Rattle.std.proofs.Common.{◌≡◌, ℕ, zero, suc, ◌<◌, ◌≤◌, true, false, List, [], ◌∷◌, length, get_or, drop, sym, ap, refl, subst, ◌∙◌, ◌-◌, arith, bytes_eq}
use Rattle.std.specs.Prelude.{not}
use Rattle.std.specs.List.{insert}
use Rattle.std.proofs.lemmas.Bool.{and_from, and_left, and_right, cond-false, cond-true, not_from_false, not_from_true, or_parts}
use Rattle.std.proofs.lemmas.List.Recursion.{or_at}
use Rattle.fork_folder.specs.Added.{has_kind, with_entry}
use Rattle.fork_folder.specs.declared.rows.Entry.{Entry}

-- some entry has the type that one of them has
has_own : (kind : List ℕ) (entries : List Entry) (i : ℕ) (d : Entry) → i < length entries → bytes_eq (get_or entries i d).kind kind ≡ true → has_kind kind entries ≡ true
has_own kind entries i d within own =
    or_at (has_kind kind) (λ (entry : Entry). bytes_eq entry.kind kind) refl (λ x xs. refl) entries i d within own

-- after the last of its type
after_at : (new : Entry) (entries : List Entry) (i : ℕ) (d : Entry) → i < length entries → bytes_eq (get_or entries i d).kind new.kind ≡ true →
    has_kind new.kind (drop (suc i) entries) ≡ false → insert entries (suc i) new ≡ with_entry new entries
after_at new [] i d within own none = absurd (omega arith)
after_at new (entry ∷ entries) zero d within own none =
    sym (cond-true _ (entry ∷ new ∷ entries) (entry ∷ with_entry new entries)
    (and_from (bytes_eq entry.kind new.kind) (not (has_kind new.kind entries)) own (not_from_false (has_kind new.kind entries) none)))
after_at new (entry ∷ entries) (suc i) d within own none =
    let there : has_kind new.kind entries ≡ true = has_own new.kind entries i d (omega arith) own in
    ap (λ (rest : List Entry). entry ∷ rest) (after_at new entries i d (omega arith) own none)
    ∙ sym (cond-false _ (entry ∷ new ∷ entries) (entry ∷ with_entry new entries)
    (and_right (bytes_eq entry.kind new.kind) (not (has_kind new.kind entries)) (not_from_true (has_kind new.kind entries) there)))

-- at the end where there is none of it
at_end : (new : Entry) (entries : List Entry) → has_kind new.kind entries ≡ false → insert entries (length entries) new ≡ with_entry new entries
at_end new [] none = refl
at_end new (entry ∷ entries) none =
    let parts = or_parts (bytes_eq entry.kind new.kind) (has_kind new.kind entries) none in
    ap (λ (rest : List Entry). entry ∷ rest) (at_end new entries parts.1)
    ∙ sym (cond-false _ (entry ∷ new ∷ entries) (entry ∷ with_entry new entries) (and_left (bytes_eq entry.kind new.kind) (not (has_kind new.kind entries)) parts.0))

-- the same by the place after it
pub after_own : (new : Entry) (entries : List Entry) (kind : List ℕ) (end : ℕ) (d : Entry) → 0 < end → end ≤ length entries → bytes_eq (get_or entries (end - 1) d).kind kind ≡ true →
    has_kind kind (drop end entries) ≡ false → new.kind ≡ kind → insert entries end new ≡ with_entry new entries
after_own new entries kind zero d some within own none same = absurd (omega arith)
after_own new entries kind (suc i) d some within own none same =
    let before : suc i - 1 ≡ i = omega arith in
    let P : ℕ → Type 0 = λ n. bytes_eq (get_or entries n d).kind kind ≡ true in
    let Q : List ℕ → Type 0 = λ k. bytes_eq (get_or entries i d).kind k ≡ true in
    let R : List ℕ → Type 0 = λ k. has_kind k (drop (suc i) entries) ≡ false in
    after_at new entries i d (omega arith) (subst Q (sym same) (subst P before own)) (subst R (sym same) none)

pub after_all : (new : Entry) (entries : List Entry) (kind : List ℕ) (end : ℕ) → end ≡ 0 → has_kind kind (drop end entries) ≡ false → new.kind ≡ kind → insert entries (length entries) new ≡ with_entry new entries
after_all new entries kind end is none same =
    let P : ℕ → Type 0 = λ n. has_kind kind (drop n entries) ≡ false in
    let R : List ℕ → Type 0 = λ k. has_kind k entries ≡ false in
    at_end new entries (subst R (sym same) (subst P is none))
