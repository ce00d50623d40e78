-- Two tables that fix the same blocks: requests are served in the same places, and blocks move alike.
use Rattle.std.proofs.Common.{◌≡◌, ℕ, List, [], ◌∷◌, ◌++◌, refl}
use Rattle.mac_base.specs.declared.request.Request.{Request}
use Rattle.mac_base.specs.declared.request.Request.TheVariants.{NewBlock, NewEmpty, NewPointer, NewMaster, Reserve, Resize, Replace}
use Rattle.mac_base.specs.Compaction.{all_down, all_down_after, compacted, moved_high}
use Rattle.mac_base.specs.HandleTable.{HandleTable, is_purgeable}
use Rattle.mac_base.specs.HeadKind.{Shape}
use Rattle.mac_base.specs.Request.{candidates, candidates_in, blocks_to_purge}
use Rattle.mac_base.specs.Serve.{serve_size}
use Rattle.mac_base.specs.ZoneMap.{ZoneMap, released}
use Rattle.zone_laws.proofs.FixesSame.{FixesSame, blocks_to_purge-same, fixed-same, gaps-same, stays-same}

module _ {t u : HandleTable} (same : FixesSame t u) where
  -- a request is served alike
  pub serve_size-same : (s : Shape) (slot : ℕ) (m : ZoneMap) (k : ℕ) (r : Request) → serve_size s u slot m k r ≡ serve_size s t slot m k r
  serve_size-same s slot m k (NewBlock n) = rw (gaps-same t u same m)
  serve_size-same s slot m k NewEmpty = refl
  serve_size-same s slot m k (NewPointer n) = rw (gaps-same t u same m)
  serve_size-same s slot m k NewMaster = rw (gaps-same t u same m)
  serve_size-same s slot m k (Reserve n) = rw (gaps-same t u same m)
  serve_size-same s slot m k (Resize x n) = rw (stays-same t u same x, gaps-same t u same m)
  serve_size-same s slot m k (Replace h n) = rw (gaps-same t u same (released h m))

  -- and compaction moves the same blocks
  all_down_after-same : (run m : ZoneMap) → all_down_after u run m ≡ all_down_after t run m
  all_down_after-same run [] = refl
  all_down_after-same run (e ∷ es) = rw (fixed-same t u same, all_down_after-same [] es, all_down_after-same (run ++ e ∷ []) es)

  pub all_down-same : (m : ZoneMap) → all_down u m ≡ all_down t m
  all_down-same m = all_down_after-same [] m

  pub compacted-same : (n : ℕ) (m : ZoneMap) → compacted u n m ≡ compacted t n m
  compacted-same n m = rw (gaps-same t u same m, all_down-same m)

  pub moved_high-same : (h : ℕ) (m : ZoneMap) → moved_high u h m ≡ moved_high t h m
  moved_high-same h m = rw (gaps-same t u same m)

  -- where the same handles may be purged, they are purged alike
  module _ (purges : (x : ℕ) → is_purgeable u x ≡ is_purgeable t x) where
    pub candidates_in-same : (protected : List ℕ) (m : ZoneMap) → candidates_in u protected m ≡ candidates_in t protected m
    candidates_in-same protected m = simp purges

    pub candidates-same : (protected : List ℕ) (r : Request) (m : ZoneMap) → candidates u protected r m ≡ candidates t protected r m
    candidates-same protected r m = rw (blocks_to_purge-same t u same r m) (candidates_in-same protected (blocks_to_purge t r m))
