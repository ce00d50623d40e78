-- The blocks in use with which a run begins.
use Rattle.std.proofs.Common.{◌≡◌, ℕ, ◌+◌, true, not, [], ◌∷◌, ◌++◌, refl, ap, sym, ◌∙◌, subst, append-nil, arith}
use Rattle.std.specs.Prelude.{min}
use Rattle.std.proofs.lemmas.Bool.{and_from, and_parts}
use Rattle.mac_base.specs.declared.block.Entry.{Entry}
use Rattle.mac_base.specs.ZoneMap.{ZoneMap, is_free, total_size}
use Rattle.mac_base.specs.ZoneState.{ZoneState}
use Rattle.linked_zone.specs.Places.{SplitAt, FirstFree, none_free}
use Rattle.zone_heap.specs.Runs.{RunAt, UsedUpTo}
use Rattle.zone_index.proofs.Sizes.{all_parts}

-- one more in front
used_more : (from at : ℕ) (b : Entry) (bs : ZoneMap) → not (is_free b.kind) ≡ true → UsedUpTo bs (from + b.size) at → UsedUpTo (b ∷ bs) from at
used_more from at b bs used u = record { used = b ∷ u.used; rest = u.rest; parts = ap (λ m. b ∷ m) u.parts; none = and_from _ _ used u.none; begins = u.begins; place = (let there = u.place in omega arith) }

-- the first free block of these blocks and others is their first, or lies after them
before_free : (from : ℕ) (blocks others passed : ZoneMap) (e : Entry) (after : ZoneMap) → blocks ++ others ≡ passed ++ e ∷ after → none_free passed ≡ true → is_free e.kind ≡ true
    → UsedUpTo blocks from (min (from + total_size passed) (from + total_size blocks))
before_free from [] others passed e after is used free = record { used = []; rest = []; parts = refl; none = refl; begins = refl; place = omega arith }
before_free from (b ∷ bs) others [] e after is used free =
    let same : b ≡ e = cc is in
    record { used = []; rest = b ∷ bs; parts = refl; none = refl; begins = ap (λ (e : Entry). is_free e.kind) same ∙ free; place = omega arith }
before_free from (b ∷ bs) others (p ∷ ps) e after is used free =
    let same : b ≡ p = cc is in
    let tails : bs ++ others ≡ ps ++ e ∷ after = cc is in
    let size = ap (λ (e : Entry). e.size) same in
    let parts = and_parts (not (is_free p.kind)) (none_free ps) used in
    let there : min (from + b.size + total_size ps) (from + b.size + total_size bs) ≡ min (from + total_size (p ∷ ps)) (from + total_size (b ∷ bs)) = omega arith in
    subst (UsedUpTo (b ∷ bs) from) there (used_more from _ b bs (ap (λ (e : Entry). not (is_free e.kind)) same ∙ parts.0) (before_free (from + b.size) bs others ps e after tails parts.1 free))

module _ {start end : ℕ} (z : ZoneState) (run : RunAt z start end) where
  abbrev pub split_run : SplitAt z start
  split_run = record { before = run.before; after = run.blocks ++ run.after; map = run.map; place = run.place }

  -- they end where the first free block is, or where the run does
  pub used_up_to : (at : ℕ) → FirstFree (run.blocks ++ run.after) start at → UsedUpTo run.blocks start (min at end)
  used_up_to at f =
      let u = before_free start run.blocks run.after f.passed _ f.after f.splits f.used refl in
      let place = f.place in
      let long = run.long in
      let here = u.place in
      record { used = u.used; rest = u.rest; parts = u.parts; none = u.none; begins = u.begins; place = omega arith }

  pub all_used : none_free (run.blocks ++ run.after) ≡ true → UsedUpTo run.blocks start end
  all_used none = record { used = run.blocks; rest = []; parts = sym (append-nil run.blocks); none = (all_parts _ run.blocks run.after none).0; begins = refl; place = run.long }
