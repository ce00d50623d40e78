-- Where a line begins with a mark, one character after the other.
use Rattle.std.proofs.Common.{◌≡◌, ℕ, ◌+◌, ◌<◌, ◌≤◌, nat_eq, Bool, true, false, ◌&&◌, List, ◌∷◌, ◌-◌, length, take, drop, get_or, drop-cons, None, Some, refl, ap, subst, ◌∙◌, add-one, arith, length-drop}
use Rattle.std.specs.List.{starts_with}
use Rattle.std.proofs.lemmas.List.{drop_all, take_all}
use Rattle.mac_files.specs.BinHex.{begins_after, line_from}

-- a character, and those after it
pub opened : (text : List ℕ) (at : ℕ) → at < length text → drop at text ≡ get_or text at 0 ∷ drop (at + 1) text
opened text at h = drop-cons text at 0 h ∙ rw add-one refl

pub line_at_end : (mark text : List ℕ) (begins : Bool) (at : ℕ) → length text ≤ at → line_from mark begins at (drop at text) ≡ None
unfolding line_from
line_at_end mark text begins at h = rw (drop_all at text h) refl

line_here_first : (mark cs : List ℕ) (c at : ℕ) → starts_with nat_eq (c ∷ cs) mark ≡ true → line_from mark true at (c ∷ cs) ≡ Some at
unfolding line_from
line_here_first mark cs c at h = rw h refl

pub line_here : (mark text : List ℕ) (at : ℕ) → at < length text → starts_with nat_eq (drop at text) mark ≡ true
    → line_from mark true at (drop at text) ≡ Some at
line_here mark text at h marked =
    let e = opened text at h in
    ap (line_from mark true at) e ∙ line_here_first mark _ _ at (subst (λ xs. starts_with nat_eq xs mark ≡ true) e marked)

line_past_first : (mark cs : List ℕ) (begins : Bool) (c at : ℕ) → (begins && starts_with nat_eq (c ∷ cs) mark) ≡ false
    → line_from mark begins at (c ∷ cs) ≡ line_from mark (begins_after begins c) (at + 1) cs
unfolding line_from
line_past_first mark cs begins c at h = rw h refl

pub line_past : (mark text : List ℕ) (begins : Bool) (at : ℕ) → at < length text → (begins && starts_with nat_eq (drop at text) mark) ≡ false
    → line_from mark begins at (drop at text) ≡ line_from mark (begins_after begins (get_or text at 0)) (at + 1) (drop (at + 1) text)
line_past mark text begins at h other =
    let e = opened text at h in
    ap (line_from mark begins at) e ∙ line_past_first mark _ begins _ at (subst (λ xs. (begins && starts_with nat_eq xs mark) ≡ false) e other)

-- whether the text from here on starts with the mark, where it is taken up to the end of the text
pub marked : (mark text : List ℕ) (at : ℕ) (b : Bool) → starts_with nat_eq (take (length text - at) (drop at text)) mark ≡ b
    → starts_with nat_eq (drop at text) mark ≡ b
marked mark text at b h =
    let all : take (length text - at) (drop at text) ≡ drop at text = take_all (length text - at) (drop at text) (omega (arith, length-drop at text)) in
    subst (λ xs. starts_with nat_eq xs mark ≡ b) all h
