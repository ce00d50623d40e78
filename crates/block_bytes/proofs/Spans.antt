-- The ranges of lent contents: what lies apart from them, and what a change of blocks makes of them.
use Rattle.std.proofs.Common.{◌≡◌, ℕ, suc, ◌+◌, ◌<◌, ◌≤◌, Bool, true, false, List, [], ◌∷◌, ◌++◌, length, refl, sym, ap, ◌∙◌, inl, inr, ⊎_elim, subst, arith}
use Rattle.std.specs.Prelude.{⊤, ◌&&◌, ◌==◌, if◌then◌else◌}
use Rattle.mac_base.specs.declared.block.HeadKind.{HeadKind}
use Rattle.mac_base.specs.HeadKind.{head_size}
use Rattle.raw_region.specs.Span.{Span, IsApart, AllApart, IsFree, IsListed}
use Rattle.std.proofs.lemmas.Bool.Decides.{nat_tests}
use Rattle.std.proofs.lemmas.Bool.{eqb-true, and_parts}
use Rattle.raw_region.proofs.Places.{by_case}
use Rattle.block_bytes.specs.Layout.{RawBlock, size_of, total_of, lent_count}
use Rattle.block_bytes.specs.Reading.{lent_spans, times, SameSpans}

-- the ranges of blocks that lie after some bytes
pub apart-above : (heads : HeadKind) (at p n : ℕ) (bs : List RawBlock) → p + n ≤ at → AllApart (lent_spans heads at bs) p n
apart-above heads at p n [] above = tt
apart-above heads at p n (b ∷ bs) above = either b.lent (apart-above heads (at + size_of heads b) p n bs (omega arith))
  where
    either : (lent : Bool) → AllApart (lent_spans heads (at + size_of heads b) bs) p n → AllApart (if lent then (at + head_size heads, length b.contents) ∷ lent_spans heads (at + size_of heads b) bs else lent_spans heads (at + size_of heads b) bs) p n
    either true others = (inr (omega arith), others)
    either false others = others

-- those of blocks that lie before them
pub apart-below : (heads : HeadKind) (at p n : ℕ) (bs : List RawBlock) → at + total_of heads bs ≤ p → AllApart (lent_spans heads at bs) p n
apart-below heads at p n [] below = tt
apart-below heads at p n (b ∷ bs) below = either b.lent (apart-below heads (at + size_of heads b) p n bs (omega arith))
  where
    either : (lent : Bool) → AllApart (lent_spans heads (at + size_of heads b) bs) p n → AllApart (if lent then (at + head_size heads, length b.contents) ∷ lent_spans heads (at + size_of heads b) bs else lent_spans heads (at + size_of heads b) bs) p n
    either true others = (inl (omega arith), others)
    either false others = others

-- ranges of two lists
apart-append : (ss ts : List Span) (p n : ℕ) → AllApart ss p n → AllApart ts p n → AllApart (ss ++ ts) p n
apart-append [] ts p n first second = second
apart-append (s ∷ ss) ts p n first second = (first.0, apart-append ss ts p n first.1 second)

-- the ranges of two lists of blocks, one after the other
pub spans-append : (heads : HeadKind) (at : ℕ) (xs ys : List RawBlock) → lent_spans heads at (xs ++ ys) ≡ lent_spans heads at xs ++ lent_spans heads (at + total_of heads xs) ys
spans-append heads at [] ys = ap (λ (k : ℕ). lent_spans heads k ys) (omega arith)
spans-append heads at (b ∷ bs) ys = either b.lent (spans-append heads (at + size_of heads b) bs ys
    ∙ ap (λ (k : ℕ). lent_spans heads (at + size_of heads b) bs ++ lent_spans heads k ys) (let e : at + size_of heads b + total_of heads bs ≡ at + total_of heads (b ∷ bs) = omega arith in e))
  where
    rest : List Span
    rest = lent_spans heads (at + total_of heads (b ∷ bs)) ys

    either : (lent : Bool) → lent_spans heads (at + size_of heads b) (bs ++ ys) ≡ lent_spans heads (at + size_of heads b) bs ++ rest
        → (if lent then (at + head_size heads, length b.contents) ∷ lent_spans heads (at + size_of heads b) (bs ++ ys) else lent_spans heads (at + size_of heads b) (bs ++ ys))
        ≡ (if lent then (at + head_size heads, length b.contents) ∷ lent_spans heads (at + size_of heads b) bs else lent_spans heads (at + size_of heads b) bs) ++ rest
    either true more = ap (λ (ss : List Span). (at + head_size heads, length b.contents) ∷ ss) more
    either false more = more

-- a block that isn't lent has no range
pub spans-unlent : (heads : HeadKind) (at : ℕ) (b : RawBlock) (bs : List RawBlock) → b.lent ≡ false → lent_spans heads at (b ∷ bs) ≡ lent_spans heads (at + size_of heads b) bs
spans-unlent heads at b bs is = ap (λ (t : Bool). if t then (at + head_size heads, length b.contents) ∷ lent_spans heads (at + size_of heads b) bs else lent_spans heads (at + size_of heads b) bs) is

-- a lent one has that of its contents
pub spans-lent : (heads : HeadKind) (at : ℕ) (b : RawBlock) (bs : List RawBlock) → b.lent ≡ true
    → lent_spans heads at (b ∷ bs) ≡ (at + head_size heads, length b.contents) ∷ lent_spans heads (at + size_of heads b) bs
spans-lent heads at b bs is = ap (λ (t : Bool). if t then (at + head_size heads, length b.contents) ∷ lent_spans heads (at + size_of heads b) bs else lent_spans heads (at + size_of heads b) bs) is

-- no block has bytes of its header lent
pub apart-head : (heads : HeadKind) (at p : ℕ) (before : List RawBlock) (here : RawBlock) (after : List RawBlock) → p ≡ at + total_of heads before
    → AllApart (lent_spans heads at (before ++ here ∷ after)) p (head_size heads)
apart-head heads at p before here after is = subst (λ (ss : List Span). AllApart ss p (head_size heads)) (sym (spans-append heads at before (here ∷ after)))
    (apart-append (lent_spans heads at before) (lent_spans heads (at + total_of heads before) (here ∷ after)) p (head_size heads) (apart-below heads at p (head_size heads) before (omega arith)) (either here.lent))
  where
    others : AllApart (lent_spans heads (at + total_of heads before + size_of heads here) after) p (head_size heads)
    others = apart-above heads (at + total_of heads before + size_of heads here) p (head_size heads) after (omega arith)

    either : (lent : Bool) → AllApart (if lent then (at + total_of heads before + head_size heads, length here.contents) ∷ lent_spans heads (at + total_of heads before + size_of heads here) after
        else lent_spans heads (at + total_of heads before + size_of heads here) after) p (head_size heads)
    either true = (inr (omega arith), others)
    either false = others

-- none of the bytes of blocks that aren't lent is
pub apart-middle : (heads : HeadKind) (at p n : ℕ) (before mid after : List RawBlock) → lent_spans heads (at + total_of heads before) (mid ++ after) ≡ lent_spans heads (at + total_of heads before + total_of heads mid) after
    → at + total_of heads before ≤ p → p + n ≤ at + total_of heads before + total_of heads mid → AllApart (lent_spans heads at (before ++ (mid ++ after))) p n
apart-middle heads at p n before mid after unlent low high =
    subst (λ (ss : List Span). AllApart ss p n) (sym (spans-append heads at before (mid ++ after) ∙ ap (λ (ss : List Span). lent_spans heads at before ++ ss) unlent))
    (apart-append (lent_spans heads at before) (lent_spans heads (at + total_of heads before + total_of heads mid) after) p n (apart-below heads at p n before low)
    (apart-above heads (at + total_of heads before + total_of heads mid) p n after high))

-- a number is itself
pub same_number : (n : ℕ) → (n == n) ≡ true
same_number n = grind (arith, nat_tests)

-- a range with the same numbers is the same
is_same : (s t : Span) → ((t.0 == s.0) && (t.1 == s.1)) ≡ true → t ≡ s
is_same s t is = let both = and_parts (t.0 == s.0) (t.1 == s.1) is in λ i. (eqb-true t.0 s.0 both.0 i, eqb-true t.1 s.1 both.1 i)

-- a range that is counted is listed
pub listed-counted : (s : Span) (ss : List Span) → 0 < times s ss → IsListed ss s
listed-counted s [] some = absurd (omega arith)
listed-counted s (t ∷ ss) some = by_case ((t.0 == s.0) && (t.1 == s.1)) (λ is. inl (is_same s t is))
    (λ is. inr (listed-counted s ss (subst (λ (n : ℕ). 0 < n) (ap (λ (b : Bool). if b then suc (times s ss) else times s ss) is) some)))

-- a range is the same as itself
same_here : (s : Span) → ((s.0 == s.0) && (s.1 == s.1)) ≡ true
same_here s = λ i. same_number s.0 i && same_number s.1 i

-- how often a range is counted, where it comes first
times-first : (s : Span) (ss : List Span) → times s (s ∷ ss) ≡ suc (times s ss)
times-first s ss = ap (λ (b : Bool). if b then suc (times s ss) else times s ss) (same_here s)

-- and the other way round
pub counted-listed : (s : Span) (ss : List Span) → IsListed ss s → 0 < times s ss
counted-listed s [] listed = absurd listed
counted-listed s (t ∷ ss) listed = ⊎_elim (λ is. subst (λ (u : Span). 0 < times s (u ∷ ss)) (sym is) (let e = times-first s ss in omega arith))
    (λ more. let some = counted-listed s ss more in either ((t.0 == s.0) && (t.1 == s.1)) some) listed
  where
    either : (b : Bool) → 0 < times s ss → 0 < (if b then suc (times s ss) else times s ss)
    either true some = omega arith
    either false some = some

-- ranges that are among others lie apart from what those do
apart-among : (ss ts : List Span) (p n : ℕ) → ((s : Span) → IsListed ss s → IsListed ts s) → AllApart ts p n → AllApart ss p n
apart-among [] ts p n among apart = tt
apart-among (s ∷ ss) ts p n among apart = (listed ts apart (among s (inl refl)), apart-among ss ts p n (λ t is. among t (inr is)) apart)
  where
    listed : (us : List Span) → AllApart us p n → IsListed us s → IsApart s p n
    listed [] apart is = absurd is
    listed (u ∷ us) apart is = ⊎_elim (λ same. subst (λ (t : Span). IsApart t p n) same apart.0) (λ more. listed us apart.1 more) is

-- the same ranges lie apart from the same bytes
pub free-same : (ss ts : List Span) (p n : ℕ) → SameSpans ss ts → AllApart ts p n → IsFree ss p n
free-same ss ts p n same apart = record { apart = apart-among ss ts p n (λ s is. listed-counted s ts (subst (λ (k : ℕ). 0 < k) (same s) (counted-listed s ss is))) apart }

-- no ranges are the same as none
pub none-same : (ss : List Span) → SameSpans ss [] → ss ≡ []
none-same [] same = refl
none-same (s ∷ ss) same = let one = times-first s ss in let none = same s in absurd (omega arith)

-- none of these blocks is lent
abbrev pub AllUnlent : List RawBlock → Type 0
AllUnlent [] = ⊤
AllUnlent (b ∷ bs) = (b.lent ≡ false) × AllUnlent bs

-- they have no range
pub spans-all_unlent : (heads : HeadKind) (at : ℕ) (bs others : List RawBlock) → AllUnlent bs → lent_spans heads at (bs ++ others) ≡ lent_spans heads (at + total_of heads bs) others
spans-all_unlent heads at [] others unlent = ap (λ (k : ℕ). lent_spans heads k others) (omega arith)
spans-all_unlent heads at (b ∷ bs) others unlent = spans-unlent heads at b (bs ++ others) unlent.0 ∙ spans-all_unlent heads (at + size_of heads b) bs others unlent.1
    ∙ ap (λ (k : ℕ). lent_spans heads k others) (let e : at + size_of heads b + total_of heads bs ≡ at + total_of heads (b ∷ bs) = omega arith in e)

-- none of them counts
count-all_unlent : (bs others : List RawBlock) → AllUnlent bs → lent_count (bs ++ others) ≡ lent_count others
count-all_unlent [] others unlent = refl
count-all_unlent (b ∷ bs) others unlent = ap (λ (t : Bool). if t then suc (lent_count (bs ++ others)) else lent_count (bs ++ others)) unlent.0 ∙ count-all_unlent bs others unlent.1

-- how many are lent of two lists of blocks
pub count-append : (xs ys : List RawBlock) → lent_count (xs ++ ys) ≡ lent_count xs + lent_count ys
count-append [] ys = omega arith
count-append (b ∷ bs) ys = either b.lent (count-append bs ys)
  where
    either : (lent : Bool) → lent_count (bs ++ ys) ≡ lent_count bs + lent_count ys → (if lent then suc (lent_count (bs ++ ys)) else lent_count (bs ++ ys)) ≡ (if lent then suc (lent_count bs) else lent_count bs) + lent_count ys
    either true more = omega arith
    either false more = more

module _ (before old new after : List RawBlock) (unlent : AllUnlent old) (unlent' : AllUnlent new) where
  -- blocks that aren't lent stand for others that aren't
  pub count-replaced : lent_count (before ++ (new ++ after)) ≡ lent_count (before ++ (old ++ after))
  count-replaced = let a = count-append before (new ++ after) in let b = count-append before (old ++ after) in
      let c = count-all_unlent new after unlent' in let d = count-all_unlent old after unlent in omega arith

  pub spans-replaced : (heads : HeadKind) (at : ℕ) → total_of heads new ≡ total_of heads old → lent_spans heads at (before ++ (new ++ after)) ≡ lent_spans heads at (before ++ (old ++ after))
  spans-replaced heads at same = spans-append heads at before (new ++ after)
      ∙ ap (λ (ss : List Span). lent_spans heads at before ++ ss) (spans-all_unlent heads (at + total_of heads before) new after unlent'
      ∙ ap (λ (n : ℕ). lent_spans heads (at + total_of heads before + n) after) same ∙ sym (spans-all_unlent heads (at + total_of heads before) old after unlent))
      ∙ sym (spans-append heads at before (old ++ after))

-- where no block is lent there is no range
pub spans-none : (heads : HeadKind) (at : ℕ) (bs : List RawBlock) → lent_count bs ≡ 0 → lent_spans heads at bs ≡ []
spans-none heads at [] none = refl
spans-none heads at (b ∷ bs) none = either b.lent none (λ others. spans-none heads (at + size_of heads b) bs others)
  where
    either : (lent : Bool) → (if lent then suc (lent_count bs) else lent_count bs) ≡ 0 → (lent_count bs ≡ 0 → lent_spans heads (at + size_of heads b) bs ≡ [])
        → (if lent then (at + head_size heads, length b.contents) ∷ lent_spans heads (at + size_of heads b) bs else lent_spans heads (at + size_of heads b) bs) ≡ []
    either true none others = absurd (omega arith)
    either false none others = others none
