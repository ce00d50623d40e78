-- What is noted of bytes that were written.
use Rattle.std.proofs.Common.{◌≡◌, ℕ, zero, suc, get_or, set, ◌+◌, ◌≤◌, ◌<◌, ◌⊎◌, inl, inr, List, [], ◌∷◌, ◌++◌, length, slice_index, take, Option, Some, None, sym, ap, subst, ◌∙◌, arith}
use Rattle.std.specs.Prelude.{⊤}
use Rattle.std.proofs.lemmas.Bool.{cases_lt}
use Rattle.raw_region.specs.Bytes.{length-written, written}
use Rattle.raw_region.specs.declared.runs.Run.{Run}
use Rattle.raw_region.specs.declared.runs.Runs.{Runs}
use Rattle.raw_region.specs.Runs.{Adds, AreWithin, DifferIn, IsIn, IsNext, noted}
use Rattle.raw_region.proofs.Indexes.{index-written-apart}

-- a byte that is in one of some runs is in one of more
in-first : (rs : List Run) (r : Run) (i : ℕ) → IsIn rs i → IsIn (rs ++ r ∷ []) i
in-first [] r i is = absurd is
in-first (q ∷ rs) r i (inl here) = inl here
in-first (q ∷ rs) r i (inr there) = inr (in-first rs r i there)

in-last : (rs : List Run) (r : Run) (i : ℕ) → r.start ≤ i → i < r.end → IsIn (rs ++ r ∷ []) i
in-last [] r i low high = inl (low, high)
in-last (q ∷ rs) r i low high = inr (in-last rs r i low high)

within-more : (rs : List Run) (r : Run) (n : ℕ) → AreWithin rs n → r.end ≤ n → AreWithin (rs ++ r ∷ []) n
within-more [] r n all last = (last, tt)
within-more (q ∷ rs) r n all last = (all.0, within-more rs r n all.1 last)

-- one more run is noted
pub adds-run : (old new : Runs) (r : Run) → noted new ≡ noted old ++ r ∷ [] → Adds old new r
adds-run old new r runs = record {
  stay = λ i is. subst (λ (rs : List Run). IsIn rs i) (sym runs) (in-first (noted old) r i is);
  now = λ i low high. subst (λ (rs : List Run). IsIn rs i) (sym runs) (in-last (noted old) r i low high);
  within = λ n fits before. subst (λ (rs : List Run). AreWithin rs n) (sym runs) (within-more (noted old) r n before fits);
}

-- a run takes the place of one whose bytes it has
grown-stay : (rs : List Run) (len at : ℕ) (s d : Run) → at < length rs → s.start ≤ (get_or rs at d).start → (get_or rs at d).end ≤ s.end → (i : ℕ) → IsIn (take len rs) i → IsIn (take len (set rs at s)) i
grown-stay [] len at s d inside low high i is = absurd (omega arith)
grown-stay (r ∷ rs) zero at s d inside low high i is = absurd is
grown-stay (r ∷ rs) (suc len) zero s d inside low high i (inl here) = inl (omega (arith, here.0), omega (arith, here.1))
grown-stay (r ∷ rs) (suc len) zero s d inside low high i (inr there) = inr there
grown-stay (r ∷ rs) (suc len) (suc at) s d inside low high i (inl here) = inl here
grown-stay (r ∷ rs) (suc len) (suc at) s d inside low high i (inr there) = inr (grown-stay rs len at s d (omega arith) low high i there)

grown-now : (rs : List Run) (len at : ℕ) (s : Run) → at < length rs → at < len → (i : ℕ) → s.start ≤ i → i < s.end → IsIn (take len (set rs at s)) i
grown-now [] len at s inside few i low high = absurd (omega arith)
grown-now (r ∷ rs) zero at s inside few i low high = absurd (omega arith)
grown-now (r ∷ rs) (suc len) zero s inside few i low high = inl (low, high)
grown-now (r ∷ rs) (suc len) (suc at) s inside few i low high = inr (grown-now rs len at s (omega arith) (omega arith) i low high)

grown-within : (rs : List Run) (len at : ℕ) (s d : Run) (n : ℕ) → at < length rs → at < len → ((get_or rs at d).end ≤ n → s.end ≤ n) → AreWithin (take len rs) n → AreWithin (take len (set rs at s)) n
grown-within [] len at s d n inside few least all = absurd (omega arith)
grown-within (r ∷ rs) zero at s d n inside few least all = absurd (omega arith)
grown-within (r ∷ rs) (suc len) zero s d n inside few least all = (least all.0, all.1)
grown-within (r ∷ rs) (suc len) (suc at) s d n inside few least all = (all.0, grown-within rs len at s d n (omega arith) (omega arith) least all.1)

-- a run that is noted has grown
pub adds-grown : (old new : Runs) (at : ℕ) (r s d : Run) → at < length old.runs → at < old.len → new.len ≡ old.len → new.runs ≡ set old.runs at s
    → (s.start ≤ (get_or old.runs at d).start) × (s.start ≤ r.start) → ((get_or old.runs at d).end ≤ s.end) × (r.end ≤ s.end)
    → ((n : ℕ) → (get_or old.runs at d).end ≤ n → r.end ≤ n → s.end ≤ n) → Adds old new r
adds-grown old new at r s d inside few len runs low high least =
    let is : noted new ≡ take old.len (set old.runs at s) = (λ j. take (len j) (runs j)) in record {
      stay = λ i among. subst (λ (rs : List Run). IsIn rs i) (sym is) (grown-stay old.runs old.len at s d inside low.0 high.0 i among);
      now = λ i from end. let a = low.1 in let b = high.1 in subst (λ (rs : List Run). IsIn rs i) (sym is) (grown-now old.runs old.len at s inside few i (omega arith) (omega arith));
      within = λ n fits before. subst (λ (rs : List Run). AreWithin rs n) (sym is) (grown-within old.runs old.len at s d n inside few (λ e. least n e fits) before);
    }

-- a front is no longer than was asked
pub front-short : (n : ℕ) (xs : List ℕ) → length (take n xs) ≤ n
front-short zero xs = omega arith
front-short (suc n) [] = omega arith
front-short (suc n) (x ∷ xs) = let rest = front-short n xs in omega arith

-- bytes are written in a run that is noted
pub differ-written : (old new : Runs) (first bytes : List ℕ) (r : Run) (at : ℕ) (ws : List ℕ) → DifferIn old first bytes → Adds old new r → r.end ≤ length bytes
    → r.start ≤ at → at + length ws ≤ r.end → DifferIn new first (written bytes at ws)
differ-written old new first bytes r at ws before adds inside low high =
    let long = length-written bytes at ws in
    let within : AreWithin (noted new) (length (written bytes at ws)) = subst (λ (n : ℕ). AreWithin (noted new) n) (sym long) (adds.within (length bytes) inside before.within) in
    let kept : (i : ℕ) → (i < at) ⊎ (at + length ws ≤ i) → IsIn (noted new) i ⊎ (slice_index (written bytes at ws) i ≡ slice_index first i) =
    (λ i off. elim (before.others i) [ inl among ↦ inl (adds.stay i among) | inr same ↦ inr (index-written-apart bytes at ws i off ∙ same) ]) in
    record {
      long = long ∙ before.long;
      within = within;
      others = λ i. elim (cases_lt i at) [
        | inl below ↦ kept i (inl below)
        | inr above ↦ elim (cases_lt i (at + length ws)) [ inl here ↦ inl (adds.now i (omega arith) (omega arith)) | inr beyond ↦ kept i (inr beyond) ]
      ];
    }

-- a byte in one of some runs and one more is in one of them or in that one
in-either : (rs : List Run) (r : Run) (i : ℕ) → IsIn (rs ++ r ∷ []) i → IsIn rs i ⊎ ((r.start ≤ i) × (i < r.end))
in-either [] r i (inl here) = inr here
in-either [] r i (inr there) = absurd there
in-either (q ∷ rs) r i (inl here) = inl (inl here)
in-either (q ∷ rs) r i (inr there) = elim (in-either rs r i there) [ inl first ↦ inl (inr first) | inr last ↦ inr last ]

-- what is found begins at this byte or before
abbrev pub BeginsBy : Option Run → ℕ → Type 0
BeginsBy None i = ⊥
BeginsBy (Some next) i = next.start ≤ i

-- what is found begins after this byte
abbrev pub BeginsAfter : Option Run → ℕ → Type 0
BeginsAfter None i = ⊤
BeginsAfter (Some next) i = i < next.start

-- one more run that has no byte before
pub next-same : (rs : List Run) (r : Run) (from : ℕ) (found : Option Run) → ((i : ℕ) → from ≤ i → r.start ≤ i → i < r.end → BeginsBy found i) → IsNext rs from found → IsNext (rs ++ r ∷ []) from found
next-same rs r from None later next = λ i low among. elim (in-either rs r i among) [ inl first ↦ next i low first | inr last ↦ later i low last.0 last.1 ]
next-same rs r from (Some found) later next = (
  next.0,
  next.1,
  (λ i low high. in-first rs r i (next.2 i low high)),
  λ i low below among. elim (in-either rs r i among) [ inl first ↦ next.3 i low below first | inr last ↦ (let by = later i low last.0 last.1 in omega arith) ],
)

-- one more run that begins before
pub next-new : (rs : List Run) (r new : Run) (from : ℕ) (found : Option Run) → from ≤ new.start → r.start ≤ new.start → new.start < new.end → new.end ≡ r.end
    → ((i : ℕ) → from ≤ i → r.start ≤ i → new.start ≤ i) → BeginsAfter found new.start → IsNext rs from found → IsNext (rs ++ r ∷ []) from (Some new)
next-new rs r new from found low in_run some end first after next = (
  low,
  some,
  (λ i begun below. in-last rs r i (omega arith) (omega arith)),
  λ i high below among. elim (in-either rs r i among) [ inl before ↦ none-before found after next i high below before | inr last ↦ (let by = first i high last.0 in omega arith) ],
)
  where
    none-before : (found : Option Run) → BeginsAfter found new.start → IsNext rs from found → (i : ℕ) → from ≤ i → i < new.start → IsIn rs i → ⊥
    none-before None after next i high below among = next i high among
    none-before (Some f) after next i high below among = next.3 i high (omega arith) among
