-- A walk over the blocks of a zone, from header to header.
use Rattle.std.specs.Prelude.{find, nat_le, ◌==◌}
use Rattle.std.specs.List.{list_all}
use Rattle.std.proofs.Common.{◌≡◌, ℕ, ◌+◌, ◌%◌, ◌<◌, ◌≤◌, true, false, cond, List, [], ◌∷◌, ◌++◌, refl, sym, ap, subst, ◌∙◌, Some, None, arith, add_assoc, append_assoc}
use Rattle.std.proofs.lemmas.Bool.{and_parts, leb-true, ne_eqb}
use Rattle.std.proofs.lemmas.List.{append-nil}
use Rattle.zone_laws.proofs.Tables.{eqb_same}
use Rattle.zone_laws.proofs.Maps.{total_size-append}
use Rattle.mac_base.specs.declared.block.Block.{Block}
use Rattle.mac_base.specs.declared.block.Entry.{Entry}
use Rattle.mac_base.specs.declared.block.HeadKind.{HeadKind}
use Rattle.mac_base.specs.declared.block.HeadKind.TheVariants.{Bits24, Bits32}
use Rattle.mac_base.specs.HandleTable.{HandleTable}
use Rattle.mac_base.specs.HeadKind.{Shape, smallest_block}
use Rattle.mac_base.specs.Heap.{Heap}
use Rattle.mac_base.specs.BlockReport.{reports_from, report_at, block_flags}
use Rattle.mac_base.specs.Sound.{Sound}
use Rattle.mac_base.specs.Suits.{is_block_size, wanted_length}
use Rattle.mac_base.specs.ZoneMap.{ZoneMap, address_after, total_size}

-- each block has at least one byte
AllPositive : ZoneMap → Type 0
AllPositive [] = Unit {0}
AllPositive (e ∷ es) = (0 < e.size) × AllPositive es

-- what a walk reports of a block at an address
abbrev report : HandleTable → ℕ → Entry → Block
report t at e = record { address = at; entry = e; length = wanted_length t e.kind; flags = block_flags t e.kind }

-- a possible size is above 0
size-positive : (heads : HeadKind) (n : ℕ) → nat_le (smallest_block heads) n ≡ true → 0 < n
size-positive Bits24 n holds = let fact : 12 ≤ n = leb-true 12 n holds in omega arith
size-positive Bits32 n holds = let fact : 16 ≤ n = leb-true 16 n holds in omega arith

AllPositive-sizes : (s : Shape) (m : ZoneMap) → list_all (λ (e : Entry). is_block_size s e.size) m ≡ true → AllPositive m
unfolding AllPositive
AllPositive-sizes s [] sized = tt
AllPositive-sizes s (e ∷ es) sized =
    let parts = and_parts (is_block_size s e.size) (list_all (λ (e : Entry). is_block_size s e.size) es) sized in
    (size-positive s.heads e.size (and_parts (e.size % 4 == 0) (nat_le (smallest_block s.heads) e.size) parts.0).1, AllPositive-sizes s es parts.1)

-- the block after others is found at the address after them
find-after : (t : HandleTable) (start at : ℕ) (before rest : ZoneMap) → AllPositive before → at ≡ start + total_size before
    → find (λ (b : Block). b.address == at) (reports_from t start (before ++ rest)) ≡ find (λ (b : Block). b.address == at) (reports_from t at rest)
unfolding AllPositive
find-after t start at [] rest positive is = ap (λ n. find (λ (b : Block). b.address == at) (reports_from t n rest)) (omega arith)
find-after t start at (e ∷ before) rest positive is =
    let other : (start == at) ≡ false = ne_eqb start at (λ same. omega arith) in
    ap (λ b. cond b (Some (report t start e)) (find (λ (b : Block). b.address == at) (reports_from t (start + e.size) (before ++ rest)))) other
    ∙ find-after t (start + e.size) at before rest positive.1 (is ∙ sym (add_assoc start e.size (total_size before)))

-- the first block is found at its address
find-first : (t : HandleTable) (at : ℕ) (e : Entry) (es : ZoneMap) → find (λ (b : Block). b.address == at) (reports_from t at (e ∷ es)) ≡ Some (report t at e)
find-first t at e es = ap (λ b. cond b (Some (report t at e)) (find (λ (b : Block). b.address == at) (reports_from t (at + e.size) es))) (eqb_same at)

-- where none is found at the first block's address, there is no block
none_left : (t : HandleTable) (at : ℕ) (rest : ZoneMap) → find (λ (b : Block). b.address == at) (reports_from t at rest) ≡ None → rest ≡ []
none_left t at [] none = refl
none_left t at (e ∷ es) none = let both : Some (report t at e) ≡ None = sym (find-first t at e es) ∙ none in absurd (cc)

-- the block found there is the first one
pub record IsFirst (t : HandleTable) (at : ℕ) (rest : ZoneMap) (block : Block) : Type 0 where
  pub others : ZoneMap
  pub parts : rest ≡ block.entry ∷ others
  pub is : block ≡ report t at block.entry

first_left : (t : HandleTable) (at : ℕ) (rest : ZoneMap) (block : Block) → find (λ (b : Block). b.address == at) (reports_from t at rest) ≡ Some block → IsFirst t at rest block
first_left t at [] block found = absurd (cc)
first_left t at (e ∷ es) block found =
    let both : Some (report t at e) ≡ Some block = sym (find-first t at e es) ∙ found in
    let is : report t at e ≡ block = cc in
    let P : Block → Type 0 = λ b. IsFirst t at (e ∷ es) b in
    subst P is (record { others = es; parts = refl; is = refl })

-- one more block at the end
reports_from-push : (t : HandleTable) (start : ℕ) (before : ZoneMap) (e : Entry) → reports_from t start (before ++ e ∷ []) ≡ reports_from t start before ++ report t (start + total_size before) e ∷ []
reports_from-push t start [] e = grind arith
reports_from-push t start (f ∷ before) e = grind (arith, reports_from-push t (start + f.size) before e)

AllPositive-front : (a b : ZoneMap) → AllPositive (a ++ b) → AllPositive a
unfolding AllPositive
AllPositive-front [] b positive = tt
AllPositive-front (e ∷ es) b positive = (positive.0, AllPositive-front es b positive.1)

AllPositive-after : (a b : ZoneMap) → AllPositive (a ++ b) → AllPositive b
unfolding AllPositive
AllPositive-after [] b positive = positive
AllPositive-after (e ∷ es) b positive = AllPositive-after es b positive.1

-- A walk has come to an address: these are the blocks before it.
pub record HasWalked (s : Shape) (heap : Heap) (at : ℕ) (blocks : List Block) : Type 0 where
  pub before : ZoneMap
  pub rest : ZoneMap
  pub parts : heap.map ≡ before ++ rest
  pub here : at ≡ address_after s before
  pub shown : blocks ≡ reports_from heap.table (address_after s []) before

sized : (s : Shape) (heap : Heap) → Sound s heap → AllPositive heap.map
sized s heap sound = AllPositive-sizes s heap.map sound.suits.sizes

-- the block at the address is the first of those that are left
report_at-left : (s : Shape) (heap : Heap) (at : ℕ) (blocks : List Block) (walk : HasWalked s heap at blocks) → Sound s heap → report_at s heap at ≡ find (λ (b : Block). b.address == at) (reports_from heap.table at walk.rest)
report_at-left s heap at blocks walk sound = grind (arith, AllPositive, AllPositive-front, find-after, sized)

-- where no block is at the address, these are all blocks
pub HasWalked-end : (s : Shape) (heap : Heap) (at : ℕ) (blocks : List Block) → HasWalked s heap at blocks → Sound s heap → report_at s heap at ≡ None → blocks ≡ reports_from heap.table (address_after s []) heap.map
HasWalked-end s heap at blocks walk sound none =
    let over : walk.rest ≡ [] = none_left heap.table at walk.rest (sym (report_at-left s heap at blocks walk sound) ∙ none) in
    let all : walk.before ≡ heap.map = sym (append-nil walk.before) ∙ ap (λ (m : ZoneMap). walk.before ++ m) (sym over) ∙ sym walk.parts in
    walk.shown ∙ ap (λ m. reports_from heap.table (address_after s []) m) all

-- the block at the address, if there is one
pub found_first : (s : Shape) (heap : Heap) (at : ℕ) (blocks : List Block) (walk : HasWalked s heap at blocks) (block : Block) → Sound s heap → report_at s heap at ≡ Some block → IsFirst heap.table at walk.rest block
found_first s heap at blocks walk block sound found = first_left heap.table at walk.rest block (sym (report_at-left s heap at blocks walk sound) ∙ found)

-- a block on the walk has a size, and the zone ends after it
pub record EndsAfter (s : Shape) (heap : Heap) (at size : ℕ) : Type 0 where
  pub positive : 0 < size
  pub after : at + size ≤ address_after s heap.map

pub block_ends : (s : Shape) (heap : Heap) (at : ℕ) (blocks : List Block) (block : Block) → HasWalked s heap at blocks → Sound s heap → report_at s heap at ≡ Some block → EndsAfter s heap at block.entry.size
unfolding AllPositive
block_ends s heap at blocks block walk sound found =
    let first = found_first s heap at blocks walk block sound found in
    let parts : heap.map ≡ walk.before ++ (block.entry ∷ first.others) = walk.parts ∙ ap (λ (m : ZoneMap). walk.before ++ m) first.parts in
    let P : ZoneMap → Type 0 = λ m. AllPositive m in
    let positive : AllPositive (block.entry ∷ first.others) = AllPositive-after walk.before (block.entry ∷ first.others) (subst P parts (sized s heap sound)) in
    let total : total_size heap.map ≡ total_size walk.before + (block.entry.size + total_size first.others) = ap total_size parts ∙ total_size-append walk.before (block.entry ∷ first.others) in
    let here : at ≡ address_after s walk.before = walk.here in
    record { positive = positive.0; after = omega arith }

-- a walk goes on by one block
pub HasWalked-step : (s : Shape) (heap : Heap) (at : ℕ) (blocks : List Block) (block : Block) → HasWalked s heap at blocks → Sound s heap → report_at s heap at ≡ Some block → HasWalked s heap (at + block.entry.size) (blocks ++ block ∷ [])
HasWalked-step s heap at blocks block walk sound found =
    let first = found_first s heap at blocks walk block sound found in
    let parts : heap.map ≡ walk.before ++ (block.entry ∷ first.others) = walk.parts ∙ ap (λ (m : ZoneMap). walk.before ++ m) first.parts in
    let more : total_size (walk.before ++ block.entry ∷ []) ≡ total_size walk.before + (block.entry.size + 0) = total_size-append walk.before (block.entry ∷ []) in
    let here : at ≡ address_after s walk.before = walk.here in
    let here_is : block ≡ report heap.table (address_after s [] + total_size walk.before) block.entry = first.is ∙ ap (λ n. report heap.table n block.entry) (omega arith) in
    record {
      before = walk.before ++ block.entry ∷ [];
      rest = first.others;
      parts = parts ∙ sym (append_assoc walk.before (block.entry ∷ []) first.others);
      here = omega arith;
      shown = ap (λ (front : List Block). front ++ block ∷ []) walk.shown
          ∙ ap (λ (b : Block). reports_from heap.table (address_after s []) walk.before ++ b ∷ []) here_is
          ∙ sym (reports_from-push heap.table (address_after s []) walk.before block.entry);
    }
