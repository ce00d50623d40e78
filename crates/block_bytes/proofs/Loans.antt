-- A block that is lent, and one that comes back.
use Rattle.std.proofs.Common.{◌≡◌, ℕ, suc, ◌+◌, ◌-◌, ◌/◌, ◌<◌, ◌≤◌, Bool, true, false, List, [], ◌∷◌, ◌++◌, length, refl, sym, ap, ◌∙◌, ⊎_elim, subst, arith, IsTrue}
use Rattle.std.specs.Prelude.{◌&&◌, ◌||◌, ◌==◌, not, if◌then◌else◌}
use Rattle.std.proofs.Math.ListN.{set}
use Rattle.mac_base.specs.HeadKind.{head_size, zone_header}
use Rattle.mac_base.specs.ZoneSizes.{ArePossible}
use Rattle.raw_region.specs.Span.{Span, IsListed, without}
use Rattle.raw_region.specs.State.{State, with_bytes}
use Rattle.raw_region.proofs.Places.{head_case, is_other}
use Rattle.raw_region.proofs.Loans.{listed_first}
use Rattle.raw_region.proofs.Pieces.{written-nothing}
use Rattle.block_bytes.specs.declared.blocks.Blocks.TheInside.{Inside}
use Rattle.block_bytes.specs.declared.header.Role.{Role}
use Rattle.block_bytes.specs.declared.header.Role.TheVariants.{Free, Fixed, Master, Relocatable}
use Rattle.block_bytes.specs.Layout.{RawBlock, is_free, has_owner, size_of, total_of, lent_count, most_lent, lent_block, given_back, with_blocks}
use Rattle.block_bytes.specs.Starts.{free_mark, lent_mark, mark_of}
use Rattle.block_bytes.specs.Reading.{layout_of, IsLayout, lent_spans, times}
use Rattle.block_bytes.proofs.Rendered.{written-whole}
use Rattle.block_bytes.proofs.Starts.{mark-written}
use Rattle.block_bytes.proofs.Spans.{spans-append, spans-unlent, spans-lent, count-append, counted-listed, listed-counted}
use Rattle.block_bytes.proofs.Parts.{IsRead, IsIn-from, marked-parts}
use Rattle.block_bytes.proofs.Walking.{is_possible-from}
use Rattle.block_bytes.proofs.Changes.{contents-changed}

-- 1 for the same range, and 0 for another
abbrev weight : Span → Span → ℕ
weight s t = if (t.0 == s.0) && (t.1 == s.1) then 1 else 0

-- how often a range is counted with one more
times-more : (s t : Span) (ss : List Span) → times s (t ∷ ss) ≡ weight s t + times s ss
times-more s t ss = either ((t.0 == s.0) && (t.1 == s.1))
  where
    either : (b : Bool) → (if b then suc (times s ss) else times s ss) ≡ (if b then 1 else 0) + times s ss
    either true = omega arith
    either false = omega arith

-- and in two lists
times-append : (s : Span) (ss ts : List Span) → times s (ss ++ ts) ≡ times s ss + times s ts
times-append s [] ts = omega arith
times-append s (t ∷ ss) ts = let more = times-append s ss ts in let a = times-more s t (ss ++ ts) in let b = times-more s t ss in omega arith

-- and without one that is there
times-without : (s x : Span) (ss : List Span) → IsListed ss x → times s ss ≡ weight s x + times s (without x ss)
times-without s x [] listed = absurd listed
times-without s x (t ∷ ss) listed = head_case x t ss
    (λ q e. times-more s t ss ∙ (λ i. weight s (q i) + times s (sym e i)))
    (λ d e. let more = times-without s x ss (⊎_elim (λ q. absurd (is_other x t d q)) (λ l. l) listed) in let a = times-more s t ss in let b = times-more s t (without x ss) in
    let f : times s (without x (t ∷ ss)) ≡ times s (t ∷ without x ss) = ap (times s) e in omega arith)

-- a lent block's number, once it is back
mark-used : (role : Role) (lent : Bool) → lent ≡ true → IsTrue (not lent || has_owner role) → (if is_free role then free_mark else 1) ≡ 1
mark-used Free lent is owned = let no : not true || false ≡ true = subst (λ (t : Bool). IsTrue (not t || false)) is owned in let bad : false ≡ true = no in cc
mark-used Fixed lent is owned = refl
mark-used Master lent is owned = refl
mark-used (Relocatable slot flags) lent is owned = refl

module _ (z : Inside) (whole : IsLayout z) (small : ArePossible z.spec) (before : List RawBlock) (here : RawBlock) (after : List RawBlock) (is : (layout_of z).blocks ≡ before ++ here ∷ after) where
  -- the range of its contents
  abbrev pub range : Span
  range = (zone_header + total_of z.spec.heads before + head_size z.spec.heads, length here.contents)

  -- the ranges of the blocks before it, and of those after it
  abbrev ranges_before : List Span
  ranges_before = lent_spans z.spec.heads zone_header before

  abbrev ranges_after : List Span
  ranges_after = lent_spans z.spec.heads (zone_header + total_of z.spec.heads before + size_of z.spec.heads here) after

  -- with a block that isn't lent in its place
  ranges-without : (b : RawBlock) → b.lent ≡ false → size_of z.spec.heads b ≡ size_of z.spec.heads here → lent_spans z.spec.heads zone_header (before ++ b ∷ after) ≡ ranges_before ++ ranges_after
  ranges-without b unlent same = spans-append z.spec.heads zone_header before (b ∷ after)
      ∙ ap (λ (ss : List Span). ranges_before ++ ss) (spans-unlent z.spec.heads (zone_header + total_of z.spec.heads before) b after unlent
      ∙ ap (λ (n : ℕ). lent_spans z.spec.heads (zone_header + total_of z.spec.heads before + n) after) same)

  -- and with it lent
  ranges-with : (b : RawBlock) → b.lent ≡ true → b.contents ≡ here.contents → size_of z.spec.heads b ≡ size_of z.spec.heads here → lent_spans z.spec.heads zone_header (before ++ b ∷ after) ≡ ranges_before ++ range ∷ ranges_after
  ranges-with b lent contents same = spans-append z.spec.heads zone_header before (b ∷ after)
      ∙ ap (λ (ss : List Span). ranges_before ++ ss) (spans-lent z.spec.heads (zone_header + total_of z.spec.heads before) b after lent
      ∙ (λ i. (zone_header + total_of z.spec.heads before + head_size z.spec.heads, length (contents i)) ∷ lent_spans z.spec.heads (zone_header + total_of z.spec.heads before + same i) after))

  -- the block is lent
  pub lend-read : here.lent ≡ false → IsTrue (has_owner here.role) → lent_count (layout_of z).blocks < most_lent → (m : State) (index : List ℕ) (loans place : ℕ)
      → m ≡ record z.memory { lent = range ∷ z.memory.lent } → place ≡ (zone_header + total_of z.spec.heads before) / 4 → index ≡ set z.index place lent_mark → loans ≡ z.loans + 1
      → IsRead (record z { memory = m; index = index; loans = loans }) (with_blocks (before ++ lent_block here ∷ after) (layout_of z))
  lend-read unlent owned few m index loans place is_m there marks loans_are =
      let i = IsIn-from z whole before here after is in let p = i.here_possible in let b = lent_block here in
      let count : lent_count (before ++ b ∷ after) ≡ suc (lent_count (layout_of z).blocks) =
      let a = count-append before (b ∷ after) in let c = count-append before (here ∷ after) in let d = ap lent_count is in
      let e : lent_count (here ∷ after) ≡ lent_count after = ap (λ (t : Bool). if t then suc (lent_count after) else lent_count after) unlent in omega arith in
      let were = whole.loans in
      contents-changed z whole small before here after is true here.contents m index loans 0 (zone_header + total_of z.spec.heads before + head_size z.spec.heads + 0) [] refl (omega arith)
      (sym (written-nothing here.contents 0)) (ap (λ (s : State). s.name) is_m)
      (ap (λ (s : State). s.bytes) is_m ∙ sym (written-nothing z.memory.bytes (zone_header + total_of z.spec.heads before + head_size z.spec.heads + 0)))
      (is_possible-from z.spec.heads b (record { even = p.even; large = p.large; few = p.few; told = p.told; lendable = owned }))
      (marks ∙ ap (λ (ms : List ℕ). set ms place lent_mark) (marked-parts z whole before here after is) ∙ mark-written (layout_of z) before here b after i.before_possible refl place there)
      (λ s. ap (times s) (ap (λ (s : State). s.lent) is_m)
      ∙ (let a = times-more s range z.memory.lent in let c = whole.lent s ∙ ap (λ (bs : List RawBlock). times s (lent_spans z.spec.heads zone_header bs)) is ∙ ap (times s) (ranges-without here unlent refl) in
      let d = times-append s ranges_before ranges_after in let e = times-append s ranges_before (range ∷ ranges_after) in let f = times-more s range ranges_after in
      let g : times s (range ∷ z.memory.lent) ≡ times s (ranges_before ++ range ∷ ranges_after) = omega arith in g) ∙ ap (times s) (sym (ranges-with b refl refl refl)))
      (omega arith) (omega arith)

  -- its range is listed
  pub range-listed : here.lent ≡ true → IsListed z.memory.lent range
  range-listed lent = listed-counted range z.memory.lent (let c = whole.lent range ∙ ap (λ (bs : List RawBlock). times range (lent_spans z.spec.heads zone_header bs)) is ∙ ap (times range) (ranges-with here lent refl refl) in
      let e = times-append range ranges_before (range ∷ ranges_after) in let some = counted-listed range (range ∷ ranges_after) (listed_first range ranges_after) in omega arith)

  -- some are lent
  pub loans-some : here.lent ≡ true → 1 ≤ z.loans
  loans-some lent = let were = whole.loans in let c = count-append before (here ∷ after) in let d = ap lent_count is in
      let e : lent_count (here ∷ after) ≡ suc (lent_count after) = ap (λ (t : Bool). if t then suc (lent_count after) else lent_count after) lent in omega arith

  -- the block comes back
  pub back-read : here.lent ≡ true → (bytes : List ℕ) → length bytes ≡ length here.contents → (m : State) (index : List ℕ) (loans place : ℕ)
      → m ≡ record (with_bytes z.memory (zone_header + total_of z.spec.heads before + head_size z.spec.heads) bytes) { lent = without range z.memory.lent }
      → place ≡ (zone_header + total_of z.spec.heads before) / 4 → index ≡ set z.index place 1 → loans ≡ z.loans - 1
      → IsRead (record z { memory = m; index = index; loans = loans }) (with_blocks (before ++ given_back here bytes ∷ after) (layout_of z))
  back-read lent bytes long m index loans place is_m there marks loans_are =
      let i = IsIn-from z whole before here after is in let p = i.here_possible in let b = given_back here bytes in let even = p.even in let large = p.large in
      let size : size_of z.spec.heads b ≡ size_of z.spec.heads here = omega arith in
      let count : suc (lent_count (before ++ b ∷ after)) ≡ lent_count (layout_of z).blocks =
      let a = count-append before (b ∷ after) in let c = count-append before (here ∷ after) in let d = ap lent_count is in
      let e : lent_count (here ∷ after) ≡ suc (lent_count after) = ap (λ (t : Bool). if t then suc (lent_count after) else lent_count after) lent in omega arith in
      let were = whole.loans in let most = whole.few in
      let used : mark_of z.spec.heads b ≡ 1 = mark-used here.role here.lent lent p.lendable in
      contents-changed z whole small before here after is false bytes m index loans 0 (zone_header + total_of z.spec.heads before + head_size z.spec.heads) bytes (omega arith) (omega arith)
      (sym (written-whole here.contents bytes long)) (ap (λ (s : State). s.name) is_m) (ap (λ (s : State). s.bytes) is_m)
      (is_possible-from z.spec.heads b (record { even = omega arith; large = omega arith; few = p.few; told = p.told; lendable = refl }))
      (marks ∙ ap (set z.index place) (sym used) ∙ ap (λ (ms : List ℕ). set ms place (mark_of z.spec.heads b)) (marked-parts z whole before here after is) ∙ mark-written (layout_of z) before here b after i.before_possible size place there)
      (λ s. ap (times s) (ap (λ (s : State). s.lent) is_m)
      ∙ (let a = times-without s range z.memory.lent (range-listed lent) in let c = whole.lent s ∙ ap (λ (bs : List RawBlock). times s (lent_spans z.spec.heads zone_header bs)) is ∙ ap (times s) (ranges-with here lent refl refl) in
      let d = times-append s ranges_before ranges_after in let e = times-append s ranges_before (range ∷ ranges_after) in let f = times-more s range ranges_after in
      let g : times s (without range z.memory.lent) ≡ times s (ranges_before ++ ranges_after) = omega arith in g) ∙ ap (times s) (sym (ranges-without b refl size)))
      (omega arith) (omega arith)
