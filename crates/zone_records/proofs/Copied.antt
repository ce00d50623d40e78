-- How the call ends that copies bytes of one block over those of another, or over its own.
use Rattle.std.proofs.Common.{◌≡◌, ℕ, ◌+◌, ◌≤◌, List, [], ◌∷◌, ◌++◌, length, take, drop, refl, ap, sym, ◌∙◌, subst, arith, length-append, length-take, length-drop}
use Rattle.std.proofs.lemmas.Bool.{and_from}
use Rattle.mac_base.specs.ZoneState.{written}
use Rattle.block_bytes.specs.Copying as raw
use Rattle.block_bytes.specs.Copying.{copied_over}
use Rattle.block_bytes.specs.Layout.{RawBlock, Layout, size_of, with_blocks}
use Rattle.zone_records.specs.Records.{block_record, ZoneRecords, bytes_of, with_bytes}
use Rattle.zone_records.specs.Copying.{CanCopy, copied}
use Rattle.zone_records.specs.Reading.{content_in}
use Rattle.zone_records.proofs.Held.{Held, sound-one, words-one, changed}
use Rattle.zone_records.proofs.Headers.{words-none}
use Rattle.zone_records.proofs.Holding.{held_one, held-block, held-size, held-has, held-bytes, held-with, sound-same}

-- there are as many bytes as before, where those that are written fit
length-written : (at : ℕ) (bytes old : List ℕ) → at + length bytes ≤ length old → length (written at bytes old) ≡ length old
length-written at bytes old fits = length-append (take at old ++ bytes) (drop (at + length bytes) old) ∙ omega (arith, length-append (take at old) bytes, length-take at old, length-drop (at + length bytes) old)

module _ (l : Layout) (z : ZoneRecords) (held : Held l z) (from start to offset n : ℕ) (can : CanCopy z from start to offset n) where
  -- the two blocks of bytes
  abbrev source : RawBlock
  source = (held_one l z held from can.source).block

  abbrev target : RawBlock
  target = (held_one l z held to can.target).block

  -- their bytes are the contents
  pub source-bytes : source.contents ≡ bytes_of can.source.content
  source-bytes = held-bytes l z held from can.source

  pub target-bytes : target.contents ≡ bytes_of can.target.content
  target-bytes = held-bytes l z held to can.target

  -- so they can be copied
  abbrev pub copy_can : raw.CanCopy l from start to offset n
  copy_can = record {
    source = (held-block l z held from can.source).block;
    target = (held-block l z held to can.target).block;
    unlent_source = (held-block l z held from can.source).unlent;
    unlent_target = (held-block l z held to can.target).unlent;
    within_source = (let same = ap length source-bytes in let within = can.within_source in omega arith);
    within_target = (let same = ap length target-bytes in let within = can.within_target in omega arith);
  }

  -- the block that they are copied to, then
  abbrev now : RawBlock
  now = copied_over target offset (take n (drop start source.contents))

  -- and it has them
  pub copy-ends : (m : Layout) → ((can : raw.CanCopy l from start to offset n) → m ≡ with_blocks (can.target.before ++ copied_over can.target.here offset (take n (drop start can.source.here.contents)) ∷ can.target.after) l) → Held m (copied z can)
  copy-ends m ends =
      let t = can.target in
      let o = held_one l z held to t in
      let moved = take n (drop start source.contents) in
      let bytes = written offset (take n (drop start (bytes_of can.source.content))) (bytes_of t.content) in
      let within : offset + length moved ≤ length target.contents = (let same = ap length target-bytes in let within = can.within_target in omega (arith, length-take n (drop start source.contents))) in
      let long = length-written offset moved target.contents within in
      let size : size_of l.heads now ≡ t.size = (let e : size_of l.heads now ≡ size_of l.heads target = omega arith in e) ∙ held-size l z held to t in
      let content : content_in l.heads l.base target.role now.contents ≡ with_bytes bytes t.content =
      held-with l z held to t now.contents ∙ (λ i. with_bytes (written offset (take n (drop start (source-bytes i))) (target-bytes i)) t.content) in
      subst (λ m. Held m (copied z can)) (sym (ends copy_can))
      (changed l z held o.first (target ∷ []) (now ∷ []) o.rest t.before (block_record (with_bytes bytes t.content) t.size ∷ []) t.after o.blocks o.lower o.upper
      (λ i. record { size = size i; content = content i; lent = (held-block l z held to t).unlent i } ∷ []) (omega arith)
      (and_from _ _ (sound-same l.heads l.base target now.contents long (sound-one l o.first target o.rest held.sound o.blocks)) refl)
      (words-one l.heads now (words-none l.heads l.base now target.contents (held-has l z held to t))))
