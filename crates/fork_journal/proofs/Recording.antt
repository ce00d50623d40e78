-- One call more in the record of a pair in memory.
use Rattle.std.proofs.Common.{◌≡◌, inl, inr, ℕ, ◌+◌, ◌≤◌, nat_le, Bool, true, false, if◌then◌else◌, List, [], ◌∷◌, ◌++◌, length, take, drop, refl, sym, ◌∙◌, ap, arith, Vec, Global, Result, Ok, Err}
use Rattle.std.specs.declared.alloc.AllocError.{AllocError}
use Rattle.std.specs.Prelude.{OnOk, OnErr}
use Rattle.std.proofs.lemmas.Bool.Decides.{nat_tests}
use Rattle.fork_journal.specs.declared.pair.Side.{Side}
use Rattle.fork_journal.specs.declared.pair.Side.TheVariants.{Fork, Journal}
use Rattle.fork_journal.specs.declared.mem_pair.Call.{Call}
use Rattle.fork_journal.specs.declared.mem_pair.Call.TheVariants as calls
use Rattle.fork_journal.specs.Crash.{Contents, Wrote, Cut, Synced, History, Follows, side_of, has_failed}
use Rattle.fork_journal.specs.Record.{overwritten, Kept, after_call, after_calls, after_calls-push}

abbrev Bytes : Type 0
Bytes = List ℕ

within_write : (at : ℕ) (bytes old : Bytes) → at ≤ length old → overwritten at bytes old ≡ take at old ++ bytes ++ drop (at + length bytes) old
within_write at bytes old within =
    let test : nat_le at (length old) ≡ true = grind (arith, nat_tests) in
    ap (λ (b : Bool). if b then take at old ++ bytes ++ drop (at + length bytes) old else old) test

module _ (list now : List Call) (call : Call) (kept : Kept) (fork journal : Bytes) (grown : now ≡ list ++ call ∷ []) (fork_is : fork ≡ (after_calls list kept).contents.fork) (journal_is : journal ≡ (after_calls list kept).contents.journal) where
  pub goes : after_calls now kept ≡ after_call call (after_calls list kept)
  goes = ap (λ (l : List Call). after_calls l kept) grown ∙ after_calls-push list call kept

  pub reads : (after_calls list kept).contents ≡ record { fork = fork; journal = journal }
  reads = λ i. record { fork = sym fork_is i; journal = sym journal_is i }

  -- what both sides are after it
  pub contents_are : (c : Contents) → (after_call call (record { contents = record { fork = fork; journal = journal }; history = (after_calls list kept).history })).contents ≡ c → (c.fork ≡ (after_calls now kept).contents.fork) × (c.journal ≡ (after_calls now kept).contents.journal)
  contents_are c is =
      let all : (after_calls now kept).contents ≡ c =
      ap (λ (k : Kept). k.contents) goes ∙ ap (λ (d : Contents). (after_call call (record { contents = d; history = (after_calls list kept).history })).contents) reads ∙ is in
      (sym (ap (λ (d : Contents). d.fork) all), sym (ap (λ (d : Contents). d.journal) all))

  pub history_is : (h : History) → (after_call call (record { contents = record { fork = fork; journal = journal }; history = (after_calls list kept).history })).history ≡ h → (after_calls now kept).history ≡ h
  history_is h is =
      ap (λ (k : Kept). k.history) goes ∙ ap (λ (d : Contents). (after_call call (record { contents = d; history = (after_calls list kept).history })).history) reads ∙ is

-- each call, done or refused
module _ (list now : List Call) (kept : Kept) (fork journal : Bytes) (fork_is : fork ≡ (after_calls list kept).contents.fork) (journal_is : journal ≡ (after_calls list kept).contents.journal) where
  abbrev pub Both : Bytes → Bytes → Type 0
  Both new_fork new_journal = (new_fork ≡ (after_calls now kept).contents.fork) × (new_journal ≡ (after_calls now kept).contents.journal)

  both_same : now ≡ list → Both fork journal
  both_same same = let k = ap (λ (l : List Call). (after_calls l kept).contents) (sym same) in
      (fork_is ∙ ap (λ (c : Contents). c.fork) k, journal_is ∙ ap (λ (c : Contents). c.journal) k)

  pub synced_both : (r : Result (Unit {0}) AllocError) (side : Side) → OnOk r (now ≡ list ++ calls.Sync side ∷ []) → OnErr r (now ≡ list) → Both fork journal
  synced_both (Ok u) side grown same = contents_are list now (calls.Sync side) kept fork journal grown fork_is journal_is (record { fork = fork; journal = journal }) refl
  synced_both (Err e) side grown same = both_same same

  pub cut_fork : (side : Side) (n : ℕ) (cut : Bytes) → side ≡ Fork → now ≡ list ++ calls.Cut side n ∷ [] → cut ≡ take n fork → Both cut journal
  cut_fork Fork n cut is grown cuts = contents_are list now (calls.Cut Fork n) kept fork journal grown fork_is journal_is (record { fork = cut; journal = journal }) (λ i. record { fork = sym cuts i; journal = journal })
  cut_fork Journal n cut is grown cuts = absurd (cc)

  pub cut_journal : (side : Side) (n : ℕ) (cut : Bytes) → side ≡ Journal → now ≡ list ++ calls.Cut side n ∷ [] → cut ≡ take n journal → Both fork cut
  cut_journal Journal n cut is grown cuts = contents_are list now (calls.Cut Journal n) kept fork journal grown fork_is journal_is (record { fork = fork; journal = cut }) (λ i. record { fork = fork; journal = sym cuts i })
  cut_journal Fork n cut is grown cuts = absurd (cc)

  abbrev pub Recorded : Side → ℕ → Bytes → Type 0
  Recorded side at bytes = (copy : Vec ℕ Global) × (copy.items ≡ bytes) × (now ≡ list ++ calls.Write side at copy ∷ [])

  write_is : (at : ℕ) (copy bytes old new : Bytes) → copy ≡ bytes → at ≤ length old → new ≡ take at old ++ bytes ++ drop (at + length bytes) old → overwritten at copy old ≡ new
  write_is at copy bytes old new is within written = ap (λ (b : Bytes). overwritten at b old) is ∙ within_write at bytes old within ∙ sym written

  pub wrote_fork : (r : Result (Unit {0}) AllocError) (side : Side) (at : ℕ) (bytes new : Bytes) → side ≡ Fork → at ≤ length fork → OnOk r (new ≡ take at fork ++ bytes ++ drop (at + length bytes) fork) → OnOk r (Recorded side at bytes) → OnErr r (new ≡ fork) → OnErr r (now ≡ list) → Both new journal
  wrote_fork (Ok u) Fork at bytes new is within written recorded unwritten unrecorded =
      contents_are list now (calls.Write Fork at recorded.0) kept fork journal recorded.2 fork_is journal_is (record { fork = new; journal = journal }) (λ i. record { fork = write_is at recorded.0.items bytes fork new recorded.1 within written i; journal = journal })
  wrote_fork (Ok u) Journal at bytes new is within written recorded unwritten unrecorded = absurd (cc)
  wrote_fork (Err e) side at bytes new is within written recorded unwritten unrecorded = let b = both_same unrecorded in (unwritten ∙ b.0, b.1)

  pub wrote_journal : (r : Result (Unit {0}) AllocError) (side : Side) (at : ℕ) (bytes new : Bytes) → side ≡ Journal → at ≤ length journal → OnOk r (new ≡ take at journal ++ bytes ++ drop (at + length bytes) journal) → OnOk r (Recorded side at bytes) → OnErr r (new ≡ journal) → OnErr r (now ≡ list) → Both fork new
  wrote_journal (Ok u) Journal at bytes new is within written recorded unwritten unrecorded =
      contents_are list now (calls.Write Journal at recorded.0) kept fork journal recorded.2 fork_is journal_is (record { fork = fork; journal = new }) (λ i. record { fork = fork; journal = write_is at recorded.0.items bytes journal new recorded.1 within written i })
  wrote_journal (Ok u) Fork at bytes new is within written recorded unwritten unrecorded = absurd (cc)
  wrote_journal (Err e) side at bytes new is within written recorded unwritten unrecorded = let b = both_same unrecorded in (b.0, unwritten ∙ b.1)

  pub cut_follows : (side : Side) (n : ℕ) → now ≡ list ++ calls.Cut side n ∷ [] → Follows (Cut side n) (after_calls list kept).history (after_calls now kept).history
  cut_follows side n grown = inl (history_is list now (calls.Cut side n) kept fork journal grown fork_is journal_is (Cut side n ∷ (after_calls list kept).history) refl)

  pub sync_follows : (side : Side) → now ≡ list ++ calls.Sync side ∷ [] → (after_calls now kept).history ≡ Synced side (side_of side (record { fork = fork; journal = journal })) ∷ (after_calls list kept).history
  sync_follows side grown = history_is list now (calls.Sync side) kept fork journal grown fork_is journal_is (Synced side (side_of side (record { fork = fork; journal = journal })) ∷ (after_calls list kept).history) refl

  pub write_follows : (r : Result (Unit {0}) AllocError) (side : Side) (at : ℕ) (bytes : Bytes) → OnOk r (Recorded side at bytes) → OnErr r (now ≡ list) → Follows (Wrote side at (length bytes)) (after_calls list kept).history (after_calls now kept).history
  write_follows (Ok u) side at bytes recorded unrecorded =
      inl (history_is list now (calls.Write side at recorded.0) kept fork journal recorded.2 fork_is journal_is (Wrote side at (length bytes) ∷ (after_calls list kept).history) (λ i. Wrote side at (length (recorded.1 i)) ∷ (after_calls list kept).history))
  write_follows (Err e) side at bytes recorded unrecorded = inr (ap (λ (l : List Call). (after_calls l kept).history) unrecorded)

pub within_fork : (side : Side) (fork journal : Bytes) (at : ℕ) → side ≡ Fork → at ≤ length (side_of side (record { fork = fork; journal = journal })) → at ≤ length fork
within_fork Fork fork journal at is within = within
within_fork Journal fork journal at is within = absurd (cc)

pub within_journal : (side : Side) (fork journal : Bytes) (at : ℕ) → side ≡ Journal → at ≤ length (side_of side (record { fork = fork; journal = journal })) → at ≤ length journal
within_journal Journal fork journal at is within = within
within_journal Fork fork journal at is within = absurd (cc)

-- no sync of a pair in memory fails and is noted
pub never_fails : (side : Side) (list : List Call) (kept : Kept) → has_failed side kept.history ≡ false → has_failed side (after_calls list kept).history ≡ false
never_fails side [] kept none = none
never_fails side (calls.Write other at bytes ∷ later) kept none = never_fails side later (after_call (calls.Write other at bytes) kept) none
never_fails side (calls.Cut other n ∷ later) kept none = never_fails side later (after_call (calls.Cut other n) kept) none
never_fails side (calls.Sync other ∷ later) kept none = never_fails side later (after_call (calls.Sync other) kept) none
