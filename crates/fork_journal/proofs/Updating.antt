-- The steps of an update, one after another.
use Rattle.std.proofs.Common.{◌≡◌, inl, inr, ⊎_elim, ℕ, ◌<◌, ◌≤◌, ◌^◌, true, false, List, [], ◌∷◌, ◌++◌, length, take, drop, refl, sym, ◌∙◌, ap, subst, arith, length-take}
use Rattle.fork_disk.specs.Crash.{at_first}
use Rattle.fork_journal.specs.declared.pair.Side.{Side}
use Rattle.fork_journal.specs.declared.pair.Side.TheVariants.{Fork, Journal}
use Rattle.fork_journal.specs.Crash.{Contents, History, MayLeave, Synced, Failed, Follows, Leaves, AlwaysLeaves, LeftWith, Settles}
use Rattle.fork_journal.specs.Form.{text_of, is_whole, fork_in, is_usable, must_shut, IsSameFront, IsSameText}
use Rattle.fork_journal.specs.Recovery.{settled_fork, IsReady, IsRecoverable, IsBeforeOrAfter, IsSameChoice, IsStable, IsShut}
use Rattle.fork_journal.proofs.Along.{along_weaker, along_then, along_same, along_sync, along_failed, leaves_now}
use Rattle.fork_journal.proofs.Settling.{settled_at, settled_usable, settled_both, settled_one, settled_unusable, unusable_shut, unusable_short, short_where_open, shut_after, text_whole, text_fork, never}

abbrev pub Bytes : Type 0
Bytes = List ℕ

-- the fork is written from an open journal, and then the gate is shut
module _ (journal fork : Bytes) (start mid new : History) (stable : Leaves (λ c. c.journal ≡ journal) start) (text : fork ≡ fork_in (drop 1 journal)) where
  pub forks : is_usable journal ≡ true → AlwaysLeaves (LeftWith Fork (IsSameFront 0) start) start mid → AlwaysLeaves (λ c. settled_fork c ≡ fork) start mid
  forks usable = along_weaker _ _ start mid (λ c left. settled_at c journal (left.2.1 ∙ stable left.0 left.1) usable ∙ sym text)

  pub forks_recoverable : is_usable journal ≡ true → (contents : Contents) → AlwaysLeaves (LeftWith Fork (IsSameFront 0) start) start mid → IsRecoverable contents mid
  forks_recoverable usable contents first c left not =
      let was = leaves_now _ start mid first c left in
      never (is_usable c.journal) (ap is_usable (was.2.1 ∙ stable was.0 was.1) ∙ usable) not

  -- the fork is there, and the journal as it was
  there : Settles Fork fork start mid → (c : Contents) → MayLeave mid c → (c.fork ≡ fork) × (c.journal ≡ journal)
  there settles c left = let was = settles c left in (was.2.0, was.2.1 ∙ stable was.0 was.1)

  pub shuts : is_usable journal ≡ true → AlwaysLeaves (LeftWith Fork (IsSameFront 0) start) start mid → Settles Fork fork start mid → AlwaysLeaves (LeftWith Journal IsSameText mid) mid new → AlwaysLeaves (λ c. settled_fork c ≡ fork) start new
  shuts usable first settles second =
      along_then _ start mid new (forks usable first) (along_weaker _ _ mid new (λ c left.
      let was = there settles left.0 left.1 in
      settled_both c fork (ap fork_in (left.2.0 ∙ ap (λ (j : Bytes). drop 1 j) was.1) ∙ sym text) (left.2.1 ∙ was.0)) second)

  pub shuts_recoverable : (contents : Contents) → contents.fork ≡ fork → Settles Fork fork start mid → AlwaysLeaves (LeftWith Journal IsSameText mid) mid new → IsRecoverable contents new
  shuts_recoverable contents here settles second c left not =
      let was = leaves_now _ mid new second c left in
      was.2.1 ∙ (there settles was.0 was.1).0 ∙ sym here

-- the text is written after a shut gate, and then the gate is opened
module _ (before fork : Bytes) (start mid new : History) (shut : Leaves (IsShut before) start) (short : length fork < 2 ^ 32) where
  still : (c : Contents) → LeftWith Journal (IsSameFront 1) start c → (is_usable c.journal ≡ false) × (c.fork ≡ before)
  still c left =
      let was = shut left.0 left.1 in
      (unusable_shut c.journal (shut_after left.0.journal c.journal left.2.0 was.shut), left.2.1 ∙ was.fork)

  pub texts : AlwaysLeaves (LeftWith Journal (IsSameFront 1) start) start mid → AlwaysLeaves (IsBeforeOrAfter before fork) start mid
  texts = along_weaker _ _ start mid (λ c left. let now = still c left in inl (settled_unusable c now.0 ∙ now.1))

  pub texts_recoverable : (contents : Contents) → contents.fork ≡ before → AlwaysLeaves (LeftWith Journal (IsSameFront 1) start) start mid → IsRecoverable contents mid
  texts_recoverable contents here first c left not = (still c (leaves_now _ start mid first c left)).1 ∙ sym here

  module _ (front : Bytes) (one : length front ≡ 1) (settles : Settles Journal (front ++ text_of fork) start mid) (second : AlwaysLeaves (LeftWith Journal IsSameText mid) mid new) where
    following : drop 1 (front ++ text_of fork) ≡ text_of fork
    following = one_off front one
      where
        one_off : (front : Bytes) → length front ≡ 1 → drop 1 (front ++ text_of fork) ≡ text_of fork
        one_off [] is = absurd (omega arith)
        one_off (x ∷ []) is = refl
        one_off (x ∷ y ∷ rest) is = absurd (omega arith)

    staged : (c : Contents) → LeftWith Journal IsSameText mid c → (drop 1 c.journal ≡ text_of fork) × (c.fork ≡ before)
    staged c left =
        let was = settles left.0 left.1 in
        (left.2.0 ∙ ap (λ (j : Bytes). drop 1 j) was.2.0 ∙ following, left.2.1 ∙ was.2.1 ∙ (shut was.0 was.1).fork)

    pub opens : AlwaysLeaves (LeftWith Journal (IsSameFront 1) start) start mid → AlwaysLeaves (IsBeforeOrAfter before fork) start new
    opens first = along_then _ start mid new (texts first) (along_weaker _ _ mid new (λ c left.
        let now = staged c left in settled_one c before fork (ap fork_in now.0 ∙ text_fork fork short) now.1) second)

    pub opens_recoverable : (contents : Contents) → contents.fork ≡ before → IsRecoverable contents new
    opens_recoverable contents here c left not = (staged c (leaves_now _ mid new second c left)).1 ∙ sym here

pub front_of : (journal : Bytes) → 1 ≤ length journal → length (take 1 journal) ≡ 1
front_of journal some = omega (arith, length-take 1 journal)

-- where nothing is pending and the journal isn't usable
pub ready_settles : (contents : Contents) (history : History) → IsReady contents history → (c : Contents) → MayLeave history c → settled_fork c ≡ contents.fork
ready_settles contents history ready c left =
    let is = ready.settled c left in
    settled_unusable c (ap (λ (d : Contents). is_usable d.journal) is ∙ ready.unusable) ∙ ap (λ (d : Contents). d.fork) is

pub rests : (contents : Contents) (start new : History) → IsReady contents start → new ≡ start → AlwaysLeaves (λ c. settled_fork c ≡ contents.fork) start new
rests contents start new ready same = along_same _ start start new (at_first (ready_settles contents start ready)) same

module _ (contents : Contents) (start mid new : History) (ready : IsReady contents start) (same : mid ≡ start) (must : must_shut contents.journal ≡ true) (gate : AlwaysLeaves (LeftWith Journal IsSameText mid) mid new) where
  gated : (c : Contents) → LeftWith Journal IsSameText mid c → (is_usable c.journal ≡ false) × (c.fork ≡ contents.fork)
  gated c left =
      let is : left.0 ≡ contents = ready.settled left.0 (subst (λ (h : History). MayLeave h left.0) same left.1) in
      let text : drop 1 c.journal ≡ drop 1 contents.journal = left.2.0 ∙ ap (λ (d : Contents). drop 1 d.journal) is in
      (unusable_short c.journal (ap is_whole text ∙ short_where_open contents.journal ready.unusable must), left.2.1 ∙ ap (λ (d : Contents). d.fork) is)

  pub gates : AlwaysLeaves (λ c. settled_fork c ≡ contents.fork) start new
  gates = along_then _ start mid new (rests contents start mid ready same)
      (along_weaker _ _ mid new (λ c left. let now = gated c left in settled_unusable c now.0 ∙ now.1) gate)

-- an open journal over the text of a fork
pub open_usable : (journal fork : Bytes) → length fork < 2 ^ 32 → journal ≡ 1 ∷ text_of fork → is_usable journal ≡ true
open_usable journal fork short is = ap is_usable is ∙ text_whole fork short

pub open_fork : (journal fork : Bytes) → length fork < 2 ^ 32 → journal ≡ 1 ∷ text_of fork → fork ≡ fork_in (drop 1 journal)
open_fork journal fork short is = sym (text_fork fork short) ∙ ap (λ (j : Bytes). fork_in (drop 1 j)) (sym is)

pub finishes : (before fork : Bytes) (start mid new : History) → AlwaysLeaves (IsBeforeOrAfter before fork) start mid → AlwaysLeaves (λ c. settled_fork c ≡ fork) mid new → AlwaysLeaves (IsBeforeOrAfter before fork) start new
finishes before fork start mid new first second =
    along_then _ start mid new first (along_weaker _ _ mid new (λ c gives. inr gives) second)

pub stays : (before after : Bytes) (start new : History) → AlwaysLeaves (λ c. settled_fork c ≡ before) start new → AlwaysLeaves (IsBeforeOrAfter before after) start new
stays before after start new = along_weaker _ _ start new (λ c gives. inl gives)

pub replaces : (before was after : Bytes) (start mid new : History) → was ≡ before → AlwaysLeaves (λ c. settled_fork c ≡ before) start mid → AlwaysLeaves (IsBeforeOrAfter was after) mid new → AlwaysLeaves (IsBeforeOrAfter before after) start new
replaces before was after start mid new is first second =
    along_then _ start mid new (stays before after start mid first) (along_weaker _ _ mid new (λ c gives. ⊎_elim (λ old. inl (old ∙ is)) (λ now. inr now) gives) second)

-- a recovery keeps the choice
chooses : (start new : History) → new ≡ start → AlwaysLeaves (IsSameChoice start) start new
chooses start new same = along_same _ start start new (at_first (λ c left. (c, left, refl))) same

pub fails : (side : Side) (start new : History) → Follows (Failed side) start new → AlwaysLeaves (IsSameChoice start) start new
fails side start new failed = along_failed _ side start start new (chooses start start refl) failed

pub syncs : (side : Side) (bytes : Bytes) (start mid new : History) → mid ≡ Synced side bytes ∷ start → new ≡ mid → AlwaysLeaves (IsSameChoice start) start new
syncs side bytes start mid new is same =
    along_same _ start mid new (along_sync _ side bytes start start mid (chooses start start refl) is) same

pub recovers : (contents : Contents) (fork : Bytes) (side : Side) (bytes : Bytes) (start mid same new : History) → MayLeave start contents → settled_fork contents ≡ fork → mid ≡ Synced side bytes ∷ start → same ≡ mid → AlwaysLeaves (λ c. settled_fork c ≡ fork) same new → AlwaysLeaves (IsSameChoice start) start new
recovers contents fork side bytes start mid same new outcome settles is calm second =
    along_then _ start same new (syncs side bytes start mid same is calm)
    (along_weaker _ _ same new (λ c gives. (contents, outcome, gives ∙ sym settles)) second)

pub settled_read : (was now : Contents) (fork : Bytes) → now ≡ was → is_usable now.journal ≡ true → fork ≡ fork_in (drop 1 now.journal) → settled_fork was ≡ fork
settled_read was now fork same usable is = ap settled_fork (sym same) ∙ settled_usable now usable ∙ sym is

-- a recovery that has one choice
pub one_fork : (contents : Contents) (start new : History) → IsStable contents start → AlwaysLeaves (IsSameChoice start) start new → AlwaysLeaves (λ c. settled_fork c ≡ settled_fork contents) start new
one_fork contents start new stable always = along_weaker _ _ start new (λ c same. same.2 ∙ stable same.0 same.1) always
