-- The loans at the places of a table.
use Rattle.std.specs.Option.{is_some, option_to_list}
use Rattle.std.proofs.Common.{◌≡◌, ℕ, ◌+◌, ◌-◌, ◌<◌, ◌≤◌, ◌||◌, ◌==◌, Bool, true, false, cond, List, [], ◌∷◌, ◌++◌, length, take, drop, Option, Some, None, inl, inr, refl, sym, ap, ◌∙◌, arith, append_assoc, length-append, length-take, length-drop}
use Rattle.std.proofs.Math.ListN.{get_or, set}
use Rattle.std.proofs.Math.Nat.{add-sub_cancel_left}
use Rattle.std.proofs.Math.Seq.{drop-append_seam, get_or-append_seam, set-append_seam, take-append_seam, take-length, drop-length}
use Rattle.std.proofs.lemmas.Grind.{flat_map-append}
use Rattle.std.proofs.lemmas.Bool.{cases_lt}
use Rattle.std.proofs.lemmas.List.{append-nil, drop-drop, length-take-le, take-append-drop, take_all, take_more}
use borrow.Rule.Slice.PartMut.{post_of, put_mid}
use Rattle.mac_base.specs.ZoneState.{written}
use Rattle.mac_base.specs.LoanStep.{held_bytes}
use Rattle.raw_region.specs.Bytes.{written as raw_written}
use Rattle.raw_region.specs.State.{Loan, with_loan}
use Rattle.zone_laws.proofs.Tables.{eqb_same}
use Rattle.held_calls.specs.Holding.{held_at, is_held, loans_of, StandsAt, FreeAt, IsFirst, TakenOut, held_written, loan_written}
use Rattle.held_calls.specs.declared.loans.Held.{Held}

-- the table around one of its places
pub parts_at : (places : List (Option Held)) (n : ℕ) (at : Option Held) → n < length places → at ≡ get_or places n at → places ≡ take n places ++ at ∷ drop (n + 1) places
parts_at places n at lt is =
    sym (take-append-drop (n + 1) places)
    ∙ ap (λ (front : List (Option Held)). front ++ drop (n + 1) places) (take_more places n at lt ∙ ap (λ (o : Option Held). take n places ++ o ∷ []) (sym is))
    ∙ append_assoc (take n places) (at ∷ []) (drop (n + 1) places)

-- the loans before one of the places, at it and after it
held_around : (before : List (Option Held)) (at : Option Held) (after : List (Option Held)) → held_at (before ++ at ∷ after) ≡ held_at before ++ (option_to_list at ++ held_at after)
held_around before at after = flat_map-append option_to_list before (at ∷ after)

-- a table with a loan of x at a place, and none before it
pub stands_at : (x : ℕ) (places : List (Option Held)) (n : ℕ) (at : Option Held) (held : Held) → n < length places → at ≡ get_or places n at → at ≡ Some held → held.block ≡ x → is_held x (held_at (take n places)) ≡ false → StandsAt x places n
stands_at x places n at held lt is some block none = record {
  before = take n places;
  held = held;
  after = drop (n + 1) places;
  parts = parts_at places n at lt is ∙ ap (λ (o : Option Held). take n places ++ o ∷ drop (n + 1) places) some;
  place = sym (length-take-le n places (omega arith));
  is = block;
  first = none;
}

is_none : (at : Option Held) → is_some at ≡ false → at ≡ None
is_none None free = refl
is_none (Some held) free = absurd (cc free)

-- a table with no loan at a place
pub free_at : (places : List (Option Held)) (n : ℕ) (at : Option Held) → n < length places → at ≡ get_or places n at → is_some at ≡ false → FreeAt places n
free_at places n at lt is free = let none : at ≡ None = is_none at free in record {
  before = take n places;
  after = drop (n + 1) places;
  parts = parts_at places n at lt is ∙ ap (λ (o : Option Held). take n places ++ o ∷ drop (n + 1) places) none;
  place = sym (length-take-le n places (omega arith));
}

-- where there are more places than loans, there is one after loans alone
pub free_inside : (places : List (Option Held)) (n : ℕ) → length (held_at (take n places)) ≡ n → length (held_at places) < length places → n < length places
free_inside places n full some = elim (cases_lt n (length places)) [
  | inl inside ↦ inside
  | inr past ↦ let whole = ap (λ (ps : List (Option Held)). length (held_at ps)) (take_all n places past) in absurd (omega (arith, full, some, whole))
]

-- a table with a loan after places that are free
pub first_at : (places : List (Option Held)) (n : ℕ) (at : Option Held) (held : Held) → n < length places → at ≡ get_or places n at → at ≡ Some held → held_at (take n places) ≡ [] → IsFirst held.block (held_at places)
first_at places n at held lt is some none = record {
  loan = held.loan;
  others = held_at (drop (n + 1) places);
  parts = ap held_at (parts_at places n at lt is ∙ ap (λ (o : Option Held). take n places ++ o ∷ drop (n + 1) places) some)
      ∙ held_around (take n places) (Some held) (drop (n + 1) places)
      ∙ ap (λ (front : List Held). front ++ held ∷ held_at (drop (n + 1) places)) none;
}

-- what is at the place of the loan of x
stands_here : (x : ℕ) (places : List (Option Held)) (n : ℕ) (at : Option Held) (stands : StandsAt x places n) → at ≡ get_or places n at → at ≡ Some stands.held
stands_here x places n at stands is =
    is ∙ ap (λ (ps : List (Option Held)). get_or ps n at) stands.parts
    ∙ ap (λ (k : ℕ). get_or (stands.before ++ Some stands.held ∷ stands.after) k at) stands.place
    ∙ get_or-append_seam stands.before (Some stands.held) stands.after at

-- the loan at the place of x
pub stands_loan : (x : ℕ) (places : List (Option Held)) (n : ℕ) (at : Option Held) (held : Held) (stands : StandsAt x places n) → at ≡ get_or places n at → at ≡ Some held → stands.held ≡ held
stands_loan x places n at held stands is some = let both : Some stands.held ≡ Some held = sym (stands_here x places n at stands is) ∙ some in cc

-- the place of x is not free
pub stands_some : (x : ℕ) (places : List (Option Held)) (n : ℕ) (at : Option Held) (stands : StandsAt x places n) → at ≡ get_or places n at → at ≡ None → ⊥
stands_some x places n at stands is none = let both : Some stands.held ≡ None = sym (stands_here x places n at stands is) ∙ none in cc

-- the loans around that of x
stands_around : (x : ℕ) (places : List (Option Held)) (n : ℕ) (stands : StandsAt x places n) → held_at places ≡ held_at stands.before ++ stands.held ∷ held_at stands.after
stands_around x places n stands = ap held_at stands.parts ∙ held_around stands.before (Some stands.held) stands.after

-- the loans once another is at the place of x, or none
stands_set : (x : ℕ) (places : List (Option Held)) (n : ℕ) (at : Option Held) (stands : StandsAt x places n) → held_at (set places n at) ≡ held_at stands.before ++ (option_to_list at ++ held_at stands.after)
stands_set x places n at stands =
    ap held_at (ap (λ (ps : List (Option Held)). set ps n at) stands.parts
    ∙ ap (λ (k : ℕ). set (stands.before ++ Some stands.held ∷ stands.after) k at) stands.place
    ∙ set-append_seam stands.before (Some stands.held) stands.after at)
    ∙ held_around stands.before at stands.after

-- the bytes of a loan after others
pub held_bytes-after : (x : ℕ) (before : List Held) (held : Held) (after : List Held) → is_held x before ≡ false → held.block ≡ x → held_bytes x (loans_of (before ++ held ∷ after)) ≡ held.loan.bytes
held_bytes-after x [] held after none is = ap (λ b. cond b held.loan.bytes (held_bytes x (loans_of after))) (ap (λ (y : ℕ). y == x) is ∙ eqb_same x)
held_bytes-after x (h ∷ hs) held after none is =
    let P : Bool → Type 0 = λ b. (b || is_held x hs) ≡ false → cond b h.loan.bytes (held_bytes x (loans_of (hs ++ held ∷ after))) ≡ held.loan.bytes in
    elim (h.block == x) as (λ b. P b) [ true ↦ λ none. absurd (cc none) | false ↦ λ none. held_bytes-after x hs held after none is ] none

-- a write into a loan after others
held_written-after : (x at : ℕ) (bytes : List ℕ) (before : List Held) (held : Held) (after : List Held) → is_held x before ≡ false → held.block ≡ x
    → held_written x at bytes (before ++ held ∷ after) ≡ before ++ record { block = held.block; loan = loan_written at bytes held.loan } ∷ after
held_written-after x at bytes [] held after none is = ap (λ b. cond b (record { block = held.block; loan = loan_written at bytes held.loan } ∷ after) (held ∷ held_written x at bytes after)) (ap (λ (y : ℕ). y == x) is ∙ eqb_same x)
held_written-after x at bytes (h ∷ hs) held after none is =
    let new : Held = record { block = held.block; loan = loan_written at bytes held.loan } in
    let P : Bool → Type 0 = λ b. (b || is_held x hs) ≡ false → cond b (record { block = h.block; loan = loan_written at bytes h.loan } ∷ (hs ++ held ∷ after)) (h ∷ held_written x at bytes (hs ++ held ∷ after)) ≡ h ∷ (hs ++ new ∷ after) in
    elim (h.block == x) as (λ b. P b) [ true ↦ λ none. absurd (cc none) | false ↦ λ none. ap (λ (t : List Held). h ∷ t) (held_written-after x at bytes hs held after none is) ] none

-- where x has no loan, nothing is written
pub held_written-none : (x at : ℕ) (bytes : List ℕ) (held : List Held) → is_held x held ≡ false → held_written x at bytes held ≡ held
held_written-none x at bytes [] none = refl
held_written-none x at bytes (h ∷ hs) none =
    let P : Bool → Type 0 = λ b. (b || is_held x hs) ≡ false → cond b (record { block = h.block; loan = loan_written at bytes h.loan } ∷ hs) (h ∷ held_written x at bytes hs) ≡ h ∷ hs in
    elim (h.block == x) as (λ b. P b) [ true ↦ λ none. absurd (cc none) | false ↦ λ none. ap (λ (t : List Held). h ∷ t) (held_written-none x at bytes hs none) ] none

-- the bytes at the place of x
pub bytes_at : (x : ℕ) (places : List (Option Held)) (n : ℕ) (at : Option Held) (held : Held) → StandsAt x places n → at ≡ get_or places n at → at ≡ Some held → held.loan.bytes ≡ held_bytes x (loans_of (held_at places))
bytes_at x places n at held stands is some =
    ap (λ (h : Held). h.loan.bytes) (sym (stands_loan x places n at held stands is some))
    ∙ sym (held_bytes-after x (held_at stands.before) stands.held (held_at stands.after) stands.first stands.is)
    ∙ ap (λ (hs : List Held). held_bytes x (loans_of hs)) (sym (stands_around x places n stands))

-- the loan of x is taken from its place
pub taken_at : (x : ℕ) (places : List (Option Held)) (n : ℕ) (at : Option Held) (held : Held) (none : Option Held) → StandsAt x places n → at ≡ get_or places n at → at ≡ Some held → none ≡ None → TakenOut x (held_at places) held.loan (held_at (set places n none))
taken_at x places n at held none stands is some free =
    let same = stands_loan x places n at held stands is some in
    let it : stands.held ≡ record { block = x; loan = held.loan } = same ∙ ap (λ (y : ℕ). let h : Held = record { block = y; loan = held.loan } in h) (ap (λ (h : Held). h.block) (sym same) ∙ stands.is) in
    record {
      before = held_at stands.before;
      after = held_at stands.after;
      was = stands_around x places n stands ∙ ap (λ (h : Held). held_at stands.before ++ h ∷ held_at stands.after) it;
      is = stands_set x places n none stands ∙ ap (λ (o : Option Held). held_at stands.before ++ (option_to_list o ++ held_at stands.after)) free;
      first = stands.first;
    }

-- bytes are written into the loan at the place of x
pub written_at : (x : ℕ) (places : List (Option Held)) (n : ℕ) (at : Option Held) (held : Held) (loan : Loan) (offset : ℕ) (bytes : List ℕ) → StandsAt x places n → at ≡ get_or places n at → at ≡ Some held → loan ≡ loan_written offset bytes held.loan
    → held_at (set places n (Some (record { block = held.block; loan = loan }))) ≡ held_written x offset bytes (held_at places)
written_at x places n at held loan offset bytes stands is some new =
    let same = stands_loan x places n at held stands is some in
    let it : record { block = held.block; loan = loan } ≡ record { block = stands.held.block; loan = loan_written offset bytes stands.held.loan } =
    ap (λ (l : Loan). let h : Held = record { block = held.block; loan = l } in h) new ∙ ap (λ (h : Held). let g : Held = record { block = h.block; loan = loan_written offset bytes h.loan } in g) (sym same)
    in
    stands_set x places n (Some (record { block = held.block; loan = loan })) stands
    ∙ ap (λ (h : Held). held_at stands.before ++ h ∷ held_at stands.after) it
    ∙ sym (held_written-after x offset bytes (held_at stands.before) stands.held (held_at stands.after) stands.first stands.is)
    ∙ ap (λ (hs : List Held). held_written x offset bytes hs) (sym (stands_around x places n stands))

-- the loan that comes first is taken out
pub first_taken : (x : ℕ) (old : List Held) (loan : Loan) (new : List Held) → IsFirst x old → TakenOut x old loan new → old ≡ record { block = x; loan = loan } ∷ new
first_taken x old loan new first taken = by_case taken.before taken.was taken.is taken.first
  where
    by_case : (before : List Held) → old ≡ before ++ record { block = x; loan = loan } ∷ taken.after → new ≡ before ++ taken.after → is_held x before ≡ false → old ≡ record { block = x; loan = loan } ∷ new
    by_case [] was is none = was ∙ ap (λ (hs : List Held). record { block = x; loan = loan } ∷ hs) (sym is)
    by_case (h ∷ hs) was is none =
        let heads : record { block = x; loan = first.loan } ∷ first.others ≡ h ∷ (hs ++ record { block = x; loan = loan } ∷ taken.after) = sym first.parts ∙ was in
        let head : record { block = x; loan = first.loan } ≡ h = cc in
        let here : (h.block == x) ≡ true = ap (λ (g : Held). g.block == x) (sym head) ∙ eqb_same x in
        let both : true ≡ false = ap (λ b. b || is_held x hs) (sym here) ∙ none in
        absurd (cc both)

-- one more loan comes after all others
pub put_after : (places : List (Option Held)) (n : ℕ) (held : Held) (rotated : List (Option Held)) (last : Option Held) → FreeAt places n
    → rotated ≡ drop 1 (take (length places - n) (drop n places)) ++ take 1 (take (length places - n) (drop n places)) → last ≡ Some held
    → held_at (set (put_mid n (length places - n) places rotated) (length (put_mid n (length places - n) places rotated) - 1) last) ≡ held_at places ++ held ∷ []
put_after places n held rotated last free turned some =
    let front : take n places ≡ free.before = ap (λ (ps : List (Option Held)). take n ps) free.parts ∙ ap (λ (k : ℕ). take k (free.before ++ None ∷ free.after)) free.place ∙ take-append_seam free.before (None ∷ free.after) in
    let back : drop n places ≡ None ∷ free.after = ap (λ (ps : List (Option Held)). drop n ps) free.parts ∙ ap (λ (k : ℕ). drop k (free.before ++ None ∷ free.after)) free.place ∙ drop-append_seam free.before (None ∷ free.after) in
    let count : length places - n ≡ length (None ∷ free.after) = sym (length-drop n places) ∙ ap (λ (ps : List (Option Held)). length ps) back in
    let part : take (length places - n) (drop n places) ≡ None ∷ free.after = ap (λ (ps : List (Option Held)). take (length places - n) ps) back ∙ ap (λ (k : ℕ). take k (None ∷ free.after)) count ∙ take-length (None ∷ free.after) in
    let turn : rotated ≡ free.after ++ None ∷ [] = turned ∙ ap (λ (ps : List (Option Held)). drop 1 ps ++ take 1 ps) part in
    let rest : post_of n (length places - n) places ≡ [] = ap (λ (ps : List (Option Held)). drop (length places - n) ps) back ∙ ap (λ (k : ℕ). drop k (None ∷ free.after)) count ∙ drop-length (None ∷ free.after) in
    let whole : put_mid n (length places - n) places rotated ≡ (free.before ++ free.after) ++ None ∷ [] =
    ap (λ (ps : List (Option Held)). take n places ++ (rotated ++ ps)) rest
    ∙ ap (λ (ps : List (Option Held)). take n places ++ ps) (append-nil rotated)
    ∙ ap (λ (ps : List (Option Held)). ps ++ rotated) front
    ∙ ap (λ (ps : List (Option Held)). free.before ++ ps) turn
    ∙ sym (append_assoc free.before free.after (None ∷ []))
    in
    let end : length (put_mid n (length places - n) places rotated) - 1 ≡ length (free.before ++ free.after) =
    ap (λ (ps : List (Option Held)). length ps - 1) whole ∙ ap (λ (k : ℕ). k - 1) (length-append (free.before ++ free.after) (None ∷ [])) ∙ omega arith
    in
    ap (λ (ps : List (Option Held)). held_at (set ps (length (put_mid n (length places - n) places rotated) - 1) last)) whole
    ∙ ap (λ (k : ℕ). held_at (set ((free.before ++ free.after) ++ None ∷ []) k last)) end
    ∙ ap held_at (set-append_seam (free.before ++ free.after) None [] last)
    ∙ held_around (free.before ++ free.after) last []
    ∙ ap (λ (o : Option Held). held_at (free.before ++ free.after) ++ (option_to_list o ++ [])) some
    ∙ ap (λ (hs : List Held). hs ++ held ∷ []) (flat_map-append option_to_list free.before free.after ∙ sym (held_around free.before None free.after) ∙ ap held_at (sym free.parts))

-- bytes written over all others
all_written : (old new : List ℕ) → length new ≡ length old → raw_written old 0 new ≡ new
all_written [] [] same = refl
all_written [] (b ∷ bs) same = absurd (omega arith)
all_written (a ∷ others) [] same = absurd (omega arith)
all_written (a ∷ others) (b ∷ bs) same = ap (λ (t : List ℕ). b ∷ t) (all_written others bs (omega arith))

-- what a write to a part of a loan's bytes leaves
pub part_of_loan : (loan : Loan) (at : ℕ) (bytes contents copied : List ℕ) → at + length bytes ≤ length loan.bytes → contents ≡ loan.bytes → copied ≡ bytes
    → with_loan loan (take at contents ++ (copied ++ post_of at (at + length bytes - at) contents)) ≡ loan_written at bytes loan
part_of_loan loan at bytes contents copied within whole all =
    let old = loan.bytes in
    let front : length (take at old) ≡ at = omega (arith, length-take at old) in
    let size : length (take at old ++ (bytes ++ drop (at + length bytes) old)) ≡ length old = simp (length-append, length-drop) (omega arith) in
    let after : post_of at (at + length bytes - at) old ≡ drop (at + length bytes) old = ap (λ (k : ℕ). drop k (drop at old)) (add-sub_cancel_left at (length bytes)) ∙ drop-drop (length bytes) at old in
    let new : take at contents ++ (copied ++ post_of at (at + length bytes - at) contents) ≡ take at old ++ (bytes ++ drop (at + length bytes) old) = rw (whole, all, after) refl in
    let bytes_now : raw_written old 0 (take at contents ++ (copied ++ post_of at (at + length bytes - at) contents)) ≡ written at bytes old =
    ap (λ (bs : List ℕ). raw_written old 0 bs) new ∙ all_written old (take at old ++ (bytes ++ drop (at + length bytes) old)) size ∙ sym (append_assoc (take at old) bytes (drop (at + length bytes) old))
    in
    ap (λ (bs : List ℕ). let l : Loan = record { name = loan.name; at = loan.at; bytes = bs } in l) bytes_now
