-- How the calls end that give a block another number of bytes where it is.
use Rattle.std.proofs.Common.{◌≡◌, ℕ, ◌+◌, ◌-◌, ◌<◌, ◌≤◌, nat_lt, Bool, true, false, cond, eqb, List, [], ◌∷◌, ◌++◌, length, take, drop, refl, ap, sym, ◌∙◌, subst, arith, append_assoc, length-take-le, length-drop, inl, inr, ◌⊎◌}
use Rattle.std.specs.List.{All, list_all}
use Rattle.std.proofs.lemmas.Bool.Decides.{nat_tests}
use Rattle.std.proofs.lemmas.List.Elements.{All-cons, All-nil}
use Rattle.std.proofs.lemmas.List.{take_all, take-append-le}
use Rattle.std.proofs.lemmas.Bool.{and_from}
use Rattle.mac_base.specs.declared.block.HeadKind.{HeadKind}
use Rattle.mac_base.specs.HeadKind.{head_size}
use Rattle.mac_base.specs.HandleTable.{resized}
use Rattle.zone_laws.proofs.SoundResized.{length-resized}
use Rattle.block_bytes.specs.declared.header.Role.{Role}
use Rattle.block_bytes.specs.declared.header.Role.TheVariants as role
use Rattle.block_bytes.specs.Head as head
use Rattle.block_bytes.specs.Layout as raw
use Rattle.block_bytes.specs.Layout.{RawBlock, Layout, BlockAt, body, raw_block, free_raw_block, size_of, with_blocks, is_possible, can_be_told}
use Rattle.block_bytes.proofs.Changes.{size-body}
use Rattle.zone_records.specs.Records as records
use Rattle.zone_records.specs.Records.{Content, Free, Fixed, Master, Relocatable, BlockRecord, block_record, ZoneRecords, with_bytes, bytes_of, length_of}
use Rattle.zone_records.specs.Places.{RecordAt, HeldAt, CanHold, has_bytes}
use Rattle.zone_records.specs.Changes.{free_record, held_there}
use Rattle.zone_records.specs.Fitting.{fitted}
use Rattle.zone_records.specs.Reading.{content_in, has_use, is_sound, HasWords}
use Rattle.zone_records.proofs.Apart.{read, One}
use Rattle.zone_records.proofs.Held.{Held, heads-is, sound-one, words-one, words-free, changed}
use Rattle.zone_records.proofs.Looking.{sound-parts}
use Rattle.zone_records.proofs.Headers.{words-none}
use Rattle.zone_records.proofs.Holding.{held_one, held-block, held-size, held-has, held-bytes, held-with, sound-same}
use Rattle.zone_records.proofs.Blocks.{sized, sized-head, have-parts, raw-parts, sound-raw, sound-free, sound-possible}
use Rattle.zone_records.proofs.Fitting.{CanFit, fitted_front, fitted_rest, raw_fitted}

-- a block that has bytes is somebody's: its header can say any number of bytes over, and any contents
pub told-any : (heads : HeadKind) (base : ℕ) (r : Role) (bytes : List ℕ) (k n : ℕ) → has_bytes (content_in heads base r bytes) ≡ true → can_be_told heads r k ≡ true → can_be_told heads r n ≡ true
told-any heads base role.Free bytes k n h told = absurd (cc h)
told-any heads base role.Fixed bytes k n h told = refl
told-any heads base role.Master bytes k n h told = absurd (cc h)
told-any heads base (role.Relocatable offset flags) bytes k n h told = told

pub use-any : (heads : HeadKind) (base : ℕ) (r : Role) (bytes : List ℕ) (k n : ℕ) → has_bytes (content_in heads base r bytes) ≡ true → has_use base r k ≡ true → has_use base r n ≡ true
use-any heads base role.Free bytes k n h told = absurd (cc h)
use-any heads base role.Fixed bytes k n h told = refl
use-any heads base role.Master bytes k n h told = absurd (cc h)
use-any heads base (role.Relocatable offset flags) bytes k n h told = told

-- the bytes of a block that has some are as many as its contents
pub length-held : (content : Content) → has_bytes content ≡ true → length_of content ≡ length (bytes_of content)
length-held Free h = absurd (cc h)
length-held (Fixed bytes) h = refl
length-held (Master slots) h = absurd (cc h)
length-held (Relocatable handle flags bytes) h = refl

module _ (l : Layout) (z : ZoneRecords) (held : Held l z) (at size n : ℕ) (can : CanHold z at size n) where
  abbrev h : HeldAt z at
  h = can.held

  abbrev o : One l h.before (block_record h.content h.size) h.after
  o = held_one l z held at h

  abbrev b : RawBlock
  b = o.block

  pub fit-sized : (sized l.heads size ≡ true) × (head_size l.heads + n ≤ size) × (size ≤ head_size l.heads + n + head.most_over l.heads)
  fit-sized = subst (λ k. (sized k size ≡ true) × (head_size k + n ≤ size) × (size ≤ head_size k + n + head.most_over k)) (sym (heads-is l z held)) (have-parts z.shape size n can.fits.front)

  fit-rest : (size ≡ h.size) ⊎ (sized l.heads (h.size - size) ≡ true)
  fit-rest = subst (λ k. (size ≡ h.size) ⊎ (sized k (h.size - size) ≡ true)) (sym (heads-is l z held)) can.fits.rest

  -- the header and the body of the block are all of it
  fit-long : head_size l.heads + length (body b) ≡ h.size
  fit-long = sym (size-body l.heads b) ∙ held-size l z held at h

  fit-old : is_sound l.heads l.base b ≡ true
  fit-old = sound-one l o.first b o.rest held.sound o.blocks

  -- how long its first bytes are
  fit-taken : length (take (size - head_size l.heads) (body b)) ≡ size - head_size l.heads
  fit-taken =
      let all = fit-long in
      let within = can.fits.within in
      length-take-le (size - head_size l.heads) (body b) (omega arith)

  -- they are a sound block
  pub fit-front : is_sound l.heads l.base (raw_block b.role n (take (size - head_size l.heads) (body b))) ≡ true
  fit-front =
      let s = sound-parts l.heads l.base b fit-old in
      let has = held-has l z held at h in
      let parts = fit-sized in
      let low = parts.1 in
      let high = parts.2 in
      let taken = fit-taken in
      sound-raw l.heads l.base b.role n (take (size - head_size l.heads) (body b)) size (omega arith) (omega arith) parts.0 high
      (λ k is. told-any l.heads l.base b.role b.contents (length b.slack) k has s.told) (use-any l.heads l.base b.role b.contents (length b.contents) n has s.use_is)

  -- and what is after them, if anything is
  pub fit-over : size < size_of l.heads b → (sized l.heads (h.size - size) ≡ true) × (size + head_size l.heads ≤ size_of l.heads b) × (head_size l.heads + length (drop size (body b)) ≡ h.size - size)
  fit-over smaller =
      let whole = held-size l z held at h in
      elim fit-rest [
        | inl is ↦ absurd (omega arith)
        | inr rest ↦ (
            let large = sized-head l.heads (h.size - size) rest in
            let low = fit-sized.1 in
            let all = fit-long in
            let over = length-drop size (body b) in
            (rest, omega arith, omega arith)
            )
      ]

  pub fit-after : size < size_of l.heads b → is_sound l.heads l.base (free_raw_block (drop size (body b))) ≡ true
  fit-after smaller = let over = fit-over smaller in sound-free l.heads l.base (drop size (body b)) (h.size - size) over.2 over.0

  -- so it can be cut
  abbrev pub fit-can : CanFit l at size n
  fit-can = record {
    block = (held-block l z held at h).block;
    large = fit-sized.1;
    within = (let whole = held-size l z held at h in let within = can.fits.within in omega arith);
    front = sound-possible l.heads l.base (raw_block b.role n (take (size - head_size l.heads) (body b))) fit-front;
    apart = λ smaller. (fit-over smaller).1;
    unlent = (held-block l z held at h).unlent;
    rest = λ smaller. sound-possible l.heads l.base (free_raw_block (drop size (body b))) (fit-after smaller);
  }

  -- what is after it then
  rest-made : (t : Bool) → nat_lt size (size_of l.heads b) ≡ t
      → (read l.heads l.base (cond t (free_raw_block (drop size (body b)) ∷ []) []) ≡ free_record (h.size - size))
      × (raw.total_of l.heads (cond t (free_raw_block (drop size (body b)) ∷ []) []) ≡ h.size - size)
      × (list_all (is_sound l.heads l.base) (cond t (free_raw_block (drop size (body b)) ∷ []) []) ≡ true)
      × All (HasWords l.heads) (cond t (free_raw_block (drop size (body b)) ∷ []) [])
  rest-made true is =
      let smaller : size < size_of l.heads b = grind (arith, nat_tests) in
      let over = fit-over smaller in
      let long = over.2 in
      let large = sized-head l.heads (h.size - size) over.0 in
      let some : eqb (h.size - size) 0 ≡ false = grind (arith, nat_tests) in
      let total : size_of l.heads (free_raw_block (drop size (body b))) ≡ h.size - size = omega arith in (
        (λ i. record { size = total i; content = Free; lent = false } ∷ []) ∙ ap (λ t. cond t [] (block_record Free (h.size - size) ∷ [])) (sym some),
        omega arith,
        and_from _ _ (fit-after smaller) refl,
        words-one l.heads (free_raw_block (drop size (body b))) (words-free l.heads (free_raw_block (drop size (body b))) refl),
      )
  rest-made false is =
      let whole = held-size l z held at h in
      let within = can.fits.within in
      let larger : size_of l.heads b ≤ size = grind (arith, nat_tests) in
      let none : eqb (h.size - size) 0 ≡ true = grind (arith, nat_tests) in
      (ap (λ t. cond t [] (block_record Free (h.size - size) ∷ [])) (sym none), omega arith, refl, All-nil (HasWords l.heads))

  -- then the block has its bytes
  pub fit-ends : (m : Layout) (kept : ℕ) → kept ≤ length (bytes_of h.content) → m ≡ raw_fitted l fit-can kept → Held m (fitted kept z can)
  fit-ends m kept few ends =
      let front = raw_block b.role n (take (size - head_size l.heads) (body b)) in
      let now = fitted_front l fit-can kept in
      let rest = rest-made (nat_lt size (size_of l.heads b)) refl in
      let taken = fit-taken in
      let parts = fit-sized in
      let low = parts.1 in
      let within = can.fits.within in
      let whole = held-size l z held at h in
      let rest_total = rest.1 in
      let p = raw-parts l.heads b.role n (take (size - head_size l.heads) (body b)) (omega arith) in
      let front_size = p.2 in
      let front_long = p.0 in
      let now_long = length-resized n (take kept (body b)) in
      let same : length now.contents ≡ length front.contents = omega arith in
      let now_size : size_of l.heads now ≡ size = omega arith in
      let bytes = held-bytes l z held at h in
      let count = ap length bytes in
      let kept_bytes : take kept (body b) ≡ take kept (bytes_of h.content) = take-append-le kept b.contents b.slack (omega arith) ∙ ap (take kept) bytes in
      let content : content_in l.heads l.base b.role now.contents ≡ with_bytes (resized n (take kept (bytes_of h.content))) h.content =
      held-with l z held at h now.contents ∙ ap (λ xs. with_bytes (resized n xs) h.content) kept_bytes in
      let recs = block_record (with_bytes (resized n (take kept (bytes_of h.content))) h.content) size ∷ free_record (h.size - size) in
      subst (λ m. Held m (fitted kept z can)) (sym ends)
      (subst (λ bs. Held (raw_fitted l fit-can kept) (records.with_blocks bs z)) (sym (append_assoc h.before recs h.after))
      (changed l z held o.first (b ∷ []) (now ∷ fitted_rest l fit-can) o.rest h.before recs h.after o.blocks o.lower o.upper
      (λ i. record { size = now_size i; content = content i; lent = false } ∷ rest.0 i) (omega arith)
      (and_from _ _ (sound-same l.heads l.base front now.contents same fit-front) rest.2)
      (All-cons (HasWords l.heads) now (fitted_rest l fit-can) (words-none l.heads l.base now b.contents (held-has l z held at h)) rest.3)))

-- all bytes are kept where as many are as there were
pub held-all : (z : ZoneRecords) (at size n : ℕ) (can : CanHold z at size n) (kept : ℕ) → kept ≡ length_of can.held.content → fitted kept z can ≡ held_there z can
held-all z at size n can kept is =
    let same = take_all kept (bytes_of can.held.content) (let e = length-held can.held.content can.held.held in omega arith) in
    ap (λ xs. records.with_blocks (can.held.before ++ block_record (with_bytes (resized n xs) can.held.content) size ∷ free_record (can.held.size - size) ++ can.held.after) z) same

-- a block that has bytes is a block
abbrev pub held_record : (z : ZoneRecords) (at : ℕ) → HeldAt z at → RecordAt z at
held_record z at h = record { before = h.before; here = block_record h.content h.size; after = h.after; blocks = h.blocks; place = h.place }
