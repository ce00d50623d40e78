-- What a call does to a pair that is honest after it. It was so before.
use Rattle.std.specs.Prelude.{◌≡◌, ℕ, false, List, ◌∷◌, length, take, Result, IfOk, OnOk, OnErr}
use Rattle.fork_disk.specs.Disk.{bytes_at, put_at, Torn, CutShort}
use Rattle.fork_journal.specs.declared.pair.Side.{Side}
use Rattle.fork_journal.specs.Crash.{Contents, History, Wrote, Cut, Synced, Failed, side_of, has_failed, OnSide, Follows}

module _ {P : Type 0} (contents : P → Contents) (history : P → History) (is_honest : P → Type 0) (old new : P) where
  -- both sides read the same, and nothing happened to the device
  pub record KeepsPair : Type 0 where
    pub honest : is_honest old
    pub same : contents new ≡ contents old
    pub calm : history new ≡ history old

  -- it says how many bytes the side has
  pub record MeasuresSide {E : Type 0} (side : Side) (result : Result ℕ E) : Type 0 where
    pub keeps : KeepsPair
    pub value : IfOk result (λ n. n ≡ length (side_of side (contents old)))

  -- the buffer gets the side's bytes at this offset
  pub record ReadsSide {T E : Type 0} (side : Side) (at : ℕ) (before after : List ℕ) (result : Result T E) : Type 0 where
    pub keeps : KeepsPair
    pub read : OnOk result (after ≡ bytes_at (length before) at (side_of side (contents old)))

  -- these bytes are put at this offset of the side, and where it fails, they may be there in part
  pub record WritesSide {T E : Type 0} (side : Side) (at : ℕ) (bytes : List ℕ) (result : Result T E) : Type 0 where
    pub honest : is_honest old
    pub written : OnOk result (OnSide side (λ before now. now ≡ put_at at bytes before) (contents old) (contents new))
    pub torn : OnErr result (OnSide side (Torn at (length bytes)) (contents old) (contents new))
    pub crash : Follows (Wrote side at (length bytes)) (history old) (history new)

  -- the side is cut to this length, and where it fails, it may be so in part
  pub record CutsSide {T E : Type 0} (side : Side) (len : ℕ) (result : Result T E) : Type 0 where
    pub honest : is_honest old
    pub cut : OnOk result (OnSide side (λ before now. now ≡ take len before) (contents old) (contents new))
    pub torn : OnErr result (OnSide side (CutShort len) (contents old) (contents new))
    pub crash : Follows (Cut side len) (history old) (history new)

  -- a crash leaves what the side reads; after a sync of it that failed, none succeeds
  pub record SyncsSide {T E : Type 0} (side : Side) (result : Result T E) : Type 0 where
    pub honest : is_honest old
    pub same : contents new ≡ contents old
    pub durable : OnOk result (history new ≡ Synced side (side_of side (contents old)) ∷ history old)
    pub trusted : OnOk result (has_failed side (history old) ≡ false)
    pub unstable : OnErr result (Follows (Failed side) (history old) (history new))
