-- Bytes that are copied into the block that a request gave: what the call protects is there still.
use Rattle.std.proofs.Common.{◌≡◌, ℕ, zero, suc, ◌+◌, ◌-◌, ◌≤◌, Bool, true, false, cond, eqb, List, [], ◌∷◌, ◌++◌, length, take, drop, Option, Some, None, Result, Ok, refl, ap, sym, ◌∙◌, subst, arith, append-nil, length-take}
use Rattle.std.specs.Prelude.{◌||◌, ◌==◌}
use Rattle.std.specs.List.{list_any}
use Rattle.std.proofs.lemmas.Bool.{or_left, or_right, eqb-true}
use Rattle.std.proofs.lemmas.List.{take-append-le}
use Rattle.std.proofs.Math.ListN.{drop_of_length-le}
use Rattle.std.proofs.Math.Seq.{take-length}
use Rattle.mac_base.specs.declared.error.OsErr.{OsErr}
use Rattle.mac_base.specs.HeadKind.{Shape}
use Rattle.mac_base.specs.HandleTable.{HandleTable, Live, EmptyHandle, FullHandle, Pointer, live_at, live_bytes, live_full, live_handle, live_pointer, bytes_of, has_block, is_lent, no_flags, refilled, resized, with_bytes, with_live, zeros}
use Rattle.mac_base.specs.BlockStatus.{status_of}
use Rattle.mac_base.specs.declared.block.Status.{Status}
use Rattle.mac_base.specs.declared.block.Status.TheVariants.{NotLive, Empty, Lent, Full}
use Rattle.mac_base.specs.Heap.{Heap, with_table}
use Rattle.mac_base.specs.Loans.{LoansAreFixed}
use Rattle.mac_base.specs.Sound.{Sound}
use Rattle.mac_base.specs.declared.request.Request.{Request}
use Rattle.mac_base.specs.declared.request.Request.TheVariants.{NewBlock, Resize}
use Rattle.mac_base.specs.Request.{is_among}
use Rattle.mac_base.specs.ZoneState.{ZoneState, written}
use Rattle.mac_base.specs.GrowZone.{Ask}
use Rattle.zone_laws.proofs.SoundWritten.{refilled_block}
use Rattle.zone_laws.proofs.Tables.{eqb_same, live_at-with_live_same, with_live_agrees}
use Rattle.zone_heap.proofs.Writing.{full-has_block, full-here}
use Rattle.linked_zone.specs.Copying.{copied}
use Rattle.mem_calls.specs.Requesting.{IsCallRun, IsCopyRun, block_given}
use Rattle.mem_calls.proofs.Serving.{Served, called}

-- what has a block that isn't lent is full
pub full-from : (t : HandleTable) (x : ℕ) → has_block t x ≡ true → is_lent t x ≡ false → status_of t x ≡ Full
full-from t x block here =
    ap (λ b. cond b (cond (has_block t x) (cond (is_lent t x) Lent Full) Empty) NotLive) (live (live_at t x) block) ∙ ap (λ b. cond b (cond (is_lent t x) Lent Full) Empty) block ∙ ap (λ b. cond b Lent Full) here
  where
    live : (o : Option Live) → (live_full o || live_pointer o) ≡ true → (live_handle o || live_pointer o) ≡ true
    live None h = absurd (cc h)
    live (Some EmptyHandle) h = absurd (cc h)
    live (Some (FullHandle flags bytes)) h = refl
    live (Some (Pointer bytes)) h = refl

-- as many bytes as there are, are all
pub whole : (n : ℕ) (bytes : List ℕ) → n ≡ length bytes → bytes ≡ take n bytes
whole n bytes is = sym (ap (λ n. take n bytes) is ∙ take-length bytes)

-- the first bytes of fewer are the first of all
taken-twice : (k n : ℕ) (bytes : List ℕ) → k ≤ n → take k (take n bytes) ≡ take k bytes
taken-twice zero n bytes few = refl
taken-twice (suc k) zero bytes few = absurd (omega (arith, few))
taken-twice (suc k) (suc n) [] few = refl
taken-twice (suc k) (suc n) (b ∷ bytes) few = ap (λ xs. b ∷ xs) (taken-twice k n bytes (omega (arith, few)))

first_resized : (k n : ℕ) (bytes : List ℕ) → k ≤ n → k ≤ length bytes → take k (resized n bytes) ≡ take k bytes
first_resized k n bytes few within = take-append-le k (take n bytes) (zeros (n - length bytes)) (omega (arith, length-take n bytes)) ∙ taken-twice k n bytes few

-- y is full still, and has the first n bytes that it had
pub record Keeps (n : ℕ) (old new : HandleTable) (y : ℕ) : Type 0 where
  pub full : status_of new y ≡ Full
  pub begins : (k : ℕ) → k ≤ n → k ≤ length (bytes_of old y) → take k (bytes_of new y) ≡ take k (bytes_of old y)
  pub within : (k : ℕ) → k ≤ n → k ≤ length (bytes_of old y) → k ≤ length (bytes_of new y)

-- where it is what it was
keeps-same : (n : ℕ) (old new : HandleTable) (y : ℕ) → live_at new y ≡ live_at old y → new.lent ≡ old.lent → status_of old y ≡ Full → Keeps n old new y
keeps-same n old new y live lent full = record {
  full = ap (λ o. status o new.lent) live ∙ ap (status (live_at old y)) lent ∙ full;
  begins = λ k _ _. ap (λ o. take k (live_bytes o)) live;
  within = λ k _ few. subst (λ o. k ≤ length (live_bytes o)) (sym live) few;
}
  where
    status : Option Live → List ℕ → Status
    status o lent = cond (live_handle o || live_pointer o) (cond (live_full o || live_pointer o) (cond (list_any (λ z. z == y) lent) Lent Full) Empty) NotLive

-- and where it has n bytes now
pub keeps-resized : (protected : List ℕ) (n y x : ℕ) (old new : Heap) → Served protected (Resize y n) x old new → is_among protected y ≡ true → status_of old.table y ≡ Full → Keeps n old.table new.table y
keeps-resized protected n y x old new served among full =
    let g = served.grants in
    let block = full-has_block old.table y full in
    let was = g.protects y among in
    let l = refilled (resized n (bytes_of g.before y)) (live_at g.before y) in
    let has = ap (λ t. live_at t y) g.table ∙ live_at-with_live_same y l g.before in
    let same = refilled_block (resized n (bytes_of g.before y)) (live_at g.before y) (ap (λ o. live_full o || live_pointer o) was ∙ block) in
    let holds : bytes_of new.table y ≡ resized n (bytes_of old.table y) = ap live_bytes has ∙ same.holds ∙ ap (λ o. resized n (live_bytes o)) was in
    let long = served.gives.1 in
    record {
      full = full-from new.table y served.gives.0 (ap (list_any (λ z. z == y)) served.lent ∙ full-here old.table y full);
      begins = λ k few within. ap (take k) holds ∙ first_resized k n (bytes_of old.table y) few within;
      within = λ k few _. omega (arith, few, long);
    }

-- others than that whose block was given are what they were
keeps-other : (protected : List ℕ) (r : Request) (n x z : ℕ) (l : Live) (old new : Heap) → (served : Served protected r x old new) → (let g = served.grants in new.table ≡ with_live z l g.before) → (y : ℕ) → eqb y z ≡ false
    → is_among protected y ≡ true → status_of old.table y ≡ Full → Keeps n old.table new.table y
keeps-other protected r n x z l old new served is y apart among full =
    let g = served.grants in
    keeps-same n old.table new.table y (ap (λ t. live_at t y) is ∙ (with_live_agrees z l g.before).others y apart ∙ g.protects y among) served.lent full

-- n bytes of one number can be copied over the last of another's, after those before, and are these bytes then
pub record Copies (t : HandleTable) (from to offset n : ℕ) (bytes : List ℕ) : Type 0 where
  pub source : status_of t from ≡ Full
  pub target : status_of t to ≡ Full
  pub within_source : 0 + n ≤ length (bytes_of t from)
  pub within_target : offset + n ≤ length (bytes_of t to)
  pub writes : written offset (take n (drop 0 (bytes_of t from))) (bytes_of t to) ≡ bytes

-- nothing is after them
written-last : (offset n : ℕ) (source target : List ℕ) → n ≤ length source → length target ≡ offset + n → written offset (take n (drop 0 source)) target ≡ take offset target ++ take n source
written-last offset n source target few long =
    ap (λ rest. take offset target ++ take n source ++ rest) (drop_of_length-le target {i = offset + length (take n source)} (omega (arith, long, length-take n source))) ∙ append-nil (take offset target ++ take n source)

module _ (s : Shape) (from n : ℕ) (asks : List Ask) (old mid : Heap) (result : Result ℕ OsErr) (x : ℕ) (sound : Sound s old) (fixed : LoansAreFixed old) (full : status_of old.table from ≡ Full)
    (within : n ≤ length (bytes_of old.table from)) (given : result ≡ Ok x) where
  -- into a new block
  pub copies-new : IsCallRun s (from ∷ []) (NewBlock n) asks old result mid → Copies mid.table from x 0 n (take n (bytes_of old.table from))
  copies-new run =
      let served = called s (from ∷ []) (NewBlock n) asks old mid result x run given tt sound fixed tt in
      let g = served.grants in
      let among : is_among (from ∷ []) from ≡ true = ap (λ b. b || false) (eqb_same from) in
      let apart : eqb from x ≡ false = other g.before (eqb from x) refl (ap (λ o. live_full o || live_pointer o) (g.protects from among) ∙ full-has_block old.table from full) g.number in
      let keeps = keeps-other (from ∷ []) (NewBlock n) n x x (FullHandle no_flags (zeros n)) old mid served g.table from apart among full in
      let long = served.gives.1 in
      let few = keeps.within n (omega arith) within in
      record {
        source = keeps.full;
        target = full-from mid.table x served.gives.0 served.here;
        within_source = omega (arith, few);
        within_target = omega (arith, long);
        writes = written-last 0 n (bytes_of mid.table from) (bytes_of mid.table x) few (omega (arith, long)) ∙ keeps.begins n (omega arith) within;
      }
    where
      other : (t : HandleTable) (b : Bool) → eqb from x ≡ b → has_block t from ≡ true → live_at t x ≡ None → eqb from x ≡ false
      other t true same block none = absurd (cc (sym block ∙ ap (λ y. has_block t y) (eqb-true from x same) ∙ ap (λ o. live_full o || live_pointer o) none))
      other t false apart block none = apart

  -- after the first bytes of a block
  pub copies-after : (to offset : ℕ) → status_of old.table to ≡ Full → offset ≤ length (bytes_of old.table to) → IsCallRun s (from ∷ to ∷ []) (Resize to (offset + n)) asks old result mid
      → Copies mid.table from to offset n (take offset (bytes_of old.table to) ++ take n (bytes_of old.table from))
  copies-after to offset target after run =
      let protected = from ∷ to ∷ [] in
      let among : is_among protected to ≡ true = or_right (eqb from to) (eqb to to || false) (ap (λ b. b || false) (eqb_same to)) in
      let served = called s protected (Resize to (offset + n)) asks old mid result x run given among sound fixed (full-has_block old.table to target) in
      let g = served.grants in
      let there = keeps-resized protected (offset + n) to x old mid served among target in
      let here : Keeps (offset + n) old.table mid.table from = by_case (eqb from to) refl there (λ apart. keeps-other protected (Resize to (offset + n)) (offset + n) x to
      (refilled (resized (offset + n) (bytes_of g.before to)) (live_at g.before to)) old mid served g.table from apart (or_left (eqb from from) (eqb to from || false) (eqb_same from)) full) in
      let long = served.gives.1 in
      let few = here.within n (omega arith) within in
      record {
        source = here.full;
        target = there.full;
        within_source = omega (arith, few);
        within_target = omega (arith, long);
        writes = written-last offset n (bytes_of mid.table from) (bytes_of mid.table to) few long ∙ ap (λ bytes. bytes ++ take n (bytes_of mid.table from)) (there.begins offset (omega arith) after)
            ∙ ap (λ bytes. take offset (bytes_of old.table to) ++ bytes) (here.begins n (omega arith) within);
      }
    where
      by_case : {to : ℕ} {m : ℕ} (b : Bool) → eqb from to ≡ b → Keeps m old.table mid.table to → (eqb from to ≡ false → Keeps m old.table mid.table from) → Keeps m old.table mid.table from
      by_case {m = m} true same there other = subst (λ y. Keeps m old.table mid.table y) (sym (eqb-true from _ same)) there
      by_case false apart there other = other apart

-- the request of a call, and bytes that come into its block after it
pub filled-run : (s : Shape) (protected : List ℕ) (r : Request) (asks : List Ask) (old : Heap) (result : Result ℕ OsErr) (x to : ℕ) (bytes : List ℕ) (mid new : Heap) → IsCallRun s protected r asks old result mid
    → result ≡ Ok x → block_given r x ≡ to → new ≡ with_table (with_bytes to bytes mid.table) mid → IsCopyRun s protected r bytes asks old (Ok x) new
filled-run s protected r asks old result x to bytes mid new run given place is = record {
  mid = mid;
  run = subst (λ (result : Result ℕ OsErr). IsCallRun s protected r asks old result mid) given run;
  fills = is ∙ ap (λ y. with_table (with_bytes y bytes mid.table) mid) (sym place);
}

-- the request of a call and the copy after it
pub copied-run : (s : Shape) (protected : List ℕ) (r : Request) (asks : List Ask) (old : Heap) (result : Result ℕ OsErr) (x from to offset n : ℕ) (bytes : List ℕ) (mid new : ZoneState) → IsCallRun s protected r asks old result mid.heap
    → result ≡ Ok x → block_given r x ≡ to → Copies mid.heap.table from to offset n bytes → new ≡ copied from 0 to offset n mid → IsCopyRun s protected r bytes asks old (Ok x) new.heap
copied-run s protected r asks old result x from to offset n bytes mid new run given place copies is =
    filled-run s protected r asks old result x to bytes mid.heap new.heap run given place (ap (λ (z : ZoneState). z.heap) is ∙ ap (λ bytes. with_table (with_bytes to bytes mid.heap.table) mid.heap) copies.writes)
