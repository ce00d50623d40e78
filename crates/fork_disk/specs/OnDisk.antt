-- What a call does to a disk that is honest after it. It was so before.
use Rattle.std.specs.Prelude.{◌≡◌, ℕ, List, length, take, Result, IfOk, OnOk, OnErr}
use Rattle.fork_disk.specs.Disk.{bytes_at, put_at, Torn, CutShort}
use Rattle.fork_disk.specs.Fork.{IsPartly}

module _ {D : Type 0} (seen : D → List ℕ) (is_honest is_stable : D → Type 0) (old new : D) where
  -- reads give the same bytes, and what was stable is so
  pub record KeepsDisk : Type 0 where
    pub honest : is_honest old
    pub same : seen new ≡ seen old
    pub stable : is_stable old → is_stable new

  -- it says how many bytes there are
  pub record MeasuresDisk {E : Type 0} (result : Result ℕ E) : Type 0 where
    pub keeps : KeepsDisk
    pub value : IfOk result (λ n. n ≡ length (seen old))

  -- the buffer gets the bytes at this offset
  pub record ReadsDisk {T E : Type 0} (at : ℕ) (before after : List ℕ) (result : Result T E) : Type 0 where
    pub keeps : KeepsDisk
    pub read : OnOk result (after ≡ bytes_at (length before) at (seen old))

  -- these bytes are put at this offset, and where it fails, they may be there in part
  pub record WritesDisk {T E : Type 0} (at : ℕ) (bytes : List ℕ) (result : Result T E) : Type 0 where
    pub honest : is_honest old
    pub written : OnOk result (seen new ≡ put_at at bytes (seen old))
    pub torn : OnErr result (Torn at (length bytes) (seen old) (seen new))

  -- the bytes are cut to this length, and where it fails, they may be so in part
  pub record CutsDisk {T E : Type 0} (len : ℕ) (result : Result T E) : Type 0 where
    pub honest : is_honest old
    pub cut : OnOk result (seen new ≡ take len (seen old))
    pub torn : OnErr result (CutShort len (seen old) (seen new))

  -- a crash leaves what is there
  pub record SyncsDisk {T E : Type 0} (result : Result T E) : Type 0 where
    pub keeps : KeepsDisk
    pub synced : OnOk result (is_stable new)

  -- this fork is there and stable, and where it fails, it may be there in part
  pub record ReplacesDisk {T E : Type 0} (fork : List ℕ) (result : Result T E) : Type 0 where
    pub honest : is_honest old
    pub replaced : OnOk result (seen new ≡ fork)
    pub stable : OnOk result (is_stable new)
    pub left : OnErr result (IsPartly fork (seen old) (seen new))
