-- Blocks that have changed places. A free one may have other bytes then.
use Rattle.std.proofs.Common.{◌≡◌, ℕ, true, false, List, [], ◌∷◌, ◌++◌, length, refl, ap, sym, ◌∙◌, subst, arith, append_assoc}
use Rattle.std.specs.List.{All, list_all}
use Rattle.std.proofs.lemmas.List.Elements.{All-append, All-head, All-same}
use Rattle.std.proofs.lemmas.List.Folds.{list_all-append}
use Rattle.std.proofs.lemmas.Bool.{and_parts, and_from}
use Rattle.mac_base.specs.declared.block.HeadKind.{HeadKind}
use Rattle.block_bytes.specs.declared.header.Role.{Role}
use Rattle.block_bytes.specs.declared.header.Role.TheVariants as role
use Rattle.block_bytes.specs.Layout as raw
use Rattle.block_bytes.specs.Layout.{RawBlock, Layout, IsMoved, size_of}
use Rattle.zone_records.specs.Records as records
use Rattle.zone_records.specs.Records.{BlockRecord, ZoneRecords}
use Rattle.zone_records.specs.Reading.{content_in, record_in, is_sound, HasWords}
use Rattle.zone_records.proofs.Apart.{read, total-read, total-append, read-append}
use Rattle.zone_records.proofs.Held.{Held, sound-two, words-first, words-rest, words-one, changed}
use Rattle.zone_records.proofs.Holding.{with_contents, sound-same}

-- a block that has moved is the same but for its contents
moved-form : (old new : RawBlock) → IsMoved old new → new ≡ with_contents old new.contents
moved-form old new m = λ i. record { role = m.role i; contents = new.contents; slack = m.slack i; lent = m.lent i }

-- so it is sound where it was
moved-sound : (heads : HeadKind) (base : ℕ) (old new : RawBlock) → IsMoved old new → is_sound heads base old ≡ true → is_sound heads base new ≡ true
moved-sound heads base old new m sound = ap (is_sound heads base) (moved-form old new m) ∙ sound-same heads base old new.contents m.contents sound

moved-size : (heads : HeadKind) (old new : RawBlock) → IsMoved old new → size_of heads new ≡ size_of heads old
moved-size heads old new m = let contents = m.contents in let slack = ap length m.slack in omega arith

-- with its slots where it has any
moved-words : (heads : HeadKind) (old new : RawBlock) → IsMoved old new → HasWords heads old → HasWords heads new
moved-words heads old new m has is = let same : new ≡ old = m.same (ap raw.is_free (sym m.role ∙ is)) in subst (HasWords heads) (sym same) has is

-- and the same in the list
moved-record : (heads : HeadKind) (base : ℕ) (old new : RawBlock) → IsMoved old new → record_in heads base new ≡ record_in heads base old
moved-record heads base old new m = by_role old.role refl
  where
    whole : (raw.is_free old.role ≡ false) → record_in heads base new ≡ record_in heads base old
    whole some = ap (record_in heads base) (m.same some)

    by_role : (r : Role) → old.role ≡ r → record_in heads base new ≡ record_in heads base old
    by_role role.Free is = λ i. record {
      size = moved-size heads old new m i;
      content = (ap (λ r. content_in heads base r new.contents) (m.role ∙ is) ∙ sym (ap (λ r. content_in heads base r old.contents) is)) i;
      lent = m.lent i;
    }
    by_role role.Fixed is = whole (ap raw.is_free is)
    by_role role.Master is = whole (ap raw.is_free is)
    by_role (role.Relocatable offset flags) is = whole (ap raw.is_free is)

-- blocks that are read as others are, and sound where those are
pub record Kept (heads : HeadKind) (base : ℕ) (olds news : List RawBlock) : Type 0 where
  pub same : read heads base news ≡ read heads base olds
  pub sound : list_all (is_sound heads base) olds ≡ true → list_all (is_sound heads base) news ≡ true
  pub words : All (HasWords heads) olds → All (HasWords heads) news

pub kept-same : (heads : HeadKind) (base : ℕ) (bs : List RawBlock) → Kept heads base bs bs
kept-same heads base bs = record { same = refl; sound = λ h. h; words = λ h. h }

-- one that has moved is
pub kept-moved : (heads : HeadKind) (base : ℕ) (old new : RawBlock) → IsMoved old new → Kept heads base (old ∷ []) (new ∷ [])
kept-moved heads base old new m = record {
  same = λ i. moved-record heads base old new m i ∷ [];
  sound = λ h. and_from _ true (moved-sound heads base old new m (and_parts _ true h).0) refl;
  words = λ h. words-one heads new (moved-words heads old new m (All-head (HasWords heads) old [] h));
}

-- they have as many bytes
kept-total : (heads : HeadKind) (base : ℕ) (olds news : List RawBlock) → Kept heads base olds news → raw.total_of heads news ≡ raw.total_of heads olds
kept-total heads base olds news kept = sym (total-read heads base news) ∙ ap records.total_of kept.same ∙ total-read heads base olds

-- what holds of all blocks of two runs holds of them the other way round
sound-turned : (heads : HeadKind) (base : ℕ) (low high news_low news_high : List RawBlock) → Kept heads base low news_low → Kept heads base high news_high
    → list_all (is_sound heads base) (low ++ high) ≡ true → list_all (is_sound heads base) (news_high ++ news_low) ≡ true
sound-turned heads base low high news_low news_high kept_low kept_high sound =
    let parts = and_parts _ _ (sym (list_all-append (is_sound heads base) low high) ∙ sound) in
    list_all-append (is_sound heads base) news_high news_low ∙ and_from _ _ (kept_high.sound parts.1) (kept_low.sound parts.0)

words-turned : (heads : HeadKind) (base : ℕ) (low high news_low news_high : List RawBlock) → Kept heads base low news_low → Kept heads base high news_high
    → All (HasWords heads) (low ++ high) → All (HasWords heads) (news_high ++ news_low)
words-turned heads base low high news_low news_high kept_low kept_high words =
    All-append (HasWords heads) news_high news_low (kept_high.words (words-rest heads low high words)) (kept_low.words (words-first heads low high words))

module _ (l : Layout) (z : ZoneRecords) (held : Held l z) where
  -- two runs of blocks, one after the other, have changed places
  pub turned : (first low high news_low news_high rest : List RawBlock) (before lower higher after : List BlockRecord) → l.blocks ≡ first ++ (low ++ (high ++ rest))
      → read l.heads l.base first ≡ before → read l.heads l.base low ≡ lower → read l.heads l.base high ≡ higher → read l.heads l.base rest ≡ after
      → Kept l.heads l.base low news_low → Kept l.heads l.base high news_high
      → Held (raw.with_blocks (first ++ (news_high ++ (news_low ++ rest))) l) (records.with_blocks (before ++ (higher ++ (lower ++ after))) z)
  turned first low high news_low news_high rest before lower higher after is same_first same_low same_high same_rest kept_low kept_high =
      let whole : l.blocks ≡ first ++ ((low ++ high) ++ rest) = is ∙ ap (λ (bs : List RawBlock). first ++ bs) (sym (append_assoc low high rest)) in
      let sound = (and_parts _ _ (sym (list_all-append (is_sound l.heads l.base) (low ++ high) rest) ∙ (sound-two l first ((low ++ high) ++ rest) held.sound whole).1)).0 in
      let words = words-first l.heads (low ++ high) rest (words-rest l.heads first ((low ++ high) ++ rest) (All-same (HasWords l.heads) (first ++ ((low ++ high) ++ rest)) l.blocks (sym whole) held.sound.words)) in
      let same_news : read l.heads l.base (news_high ++ news_low) ≡ higher ++ lower =
      read-append l.heads l.base news_high news_low ∙ (λ i. (kept_high.same ∙ same_high) i ++ (kept_low.same ∙ same_low) i) in
      let total_low = kept-total l.heads l.base low news_low kept_low in
      let total_high = kept-total l.heads l.base high news_high kept_high in
      let total_olds = total-append l.heads low high in
      let total_news = total-append l.heads news_high news_low in
      let now : Held (raw.with_blocks (first ++ ((news_high ++ news_low) ++ rest)) l) (records.with_blocks (before ++ ((higher ++ lower) ++ after)) z) =
      changed l z held first (low ++ high) (news_high ++ news_low) rest before (higher ++ lower) after whole same_first same_rest same_news (omega arith)
      (sound-turned l.heads l.base low high news_low news_high kept_low kept_high sound)
      (words-turned l.heads l.base low high news_low news_high kept_low kept_high words) in
      subst (λ (bs : List BlockRecord). Held (raw.with_blocks (first ++ (news_high ++ (news_low ++ rest))) l) (records.with_blocks (before ++ bs) z)) (append_assoc higher lower after)
      (subst (λ (bs : List RawBlock). Held (raw.with_blocks (first ++ bs) l) (records.with_blocks (before ++ ((higher ++ lower) ++ after)) z)) (append_assoc news_high news_low rest) now)
