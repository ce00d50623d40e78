-- What the header of a block says of it, and where its contents are.
use Rattle.std.proofs.Common.{◌≡◌, ℕ, ◌+◌, ◌-◌, ◌≤◌, ◌<◌, ◌^◌, nat_lt, true, false, List, length, refl, ap, sym, ◌∙◌, arith, inl, inr, ◌⊎◌}
use Rattle.std.proofs.lemmas.Bool.Decides.{nat_tests}
use Rattle.mac_base.specs.declared.block.HeadKind.{HeadKind}
use Rattle.mac_base.specs.declared.block.Flags.{Flags}
use Rattle.mac_base.specs.declared.block.Kind.{Kind}
use Rattle.mac_base.specs.declared.block.Kind.TheVariants as kind
use Rattle.mac_base.specs.HeadKind.{head_size}
use Rattle.mac_base.specs.ZoneMap.{block}
use Rattle.block_bytes.specs.declared.header.Header.{Header}
use Rattle.block_bytes.specs.declared.header.Role.{Role}
use Rattle.block_bytes.specs.declared.header.Role.TheVariants as role
use Rattle.block_bytes.specs.Layout.{RawBlock, Layout, BlockAt, size_of, header_of}
use Rattle.zone_records.specs.Records.{BlockRecord, ZoneRecords, kind_of, length_of, bytes_of, with_bytes}
use Rattle.zone_records.specs.Places.{RecordAt, has_bytes}
use Rattle.zone_records.specs.Reading.{content_in, has_use, HasWords}
use Rattle.zone_records.proofs.Held.{Held, heads-is, base-is, range-one, sound-one}
use Rattle.zone_records.proofs.Looking.{of-record, size-of, sound-parts}

-- the kind that a role says
abbrev pub kind_in : ℕ → ℕ → Role → Kind
kind_in base at role.Free = kind.Free
kind_in base at role.Fixed = kind.Ptr at
kind_in base at role.Master = kind.Master
kind_in base at (role.Relocatable offset flags) = kind.Rel (base + offset)

kind-same : (heads : HeadKind) (base at : ℕ) (r : Role) (bytes : List ℕ) → kind_in base at r ≡ kind_of at (content_in heads base r bytes)
kind-same heads base at role.Free bytes = refl
kind-same heads base at role.Fixed bytes = refl
kind-same heads base at role.Master bytes = refl
kind-same heads base at (role.Relocatable offset flags) bytes = refl

-- the bytes of contents that a block has by its role
pub length-same : (heads : HeadKind) (base : ℕ) (r : Role) (bytes : List ℕ) → has_use base r (length bytes) ≡ true → (r ≡ role.Free → ⊥) → length bytes ≡ length_of (content_in heads base r bytes)
length-same heads base role.Free bytes use_is held = absurd (held refl)
length-same heads base role.Fixed bytes use_is held = refl
length-same heads base role.Master bytes use_is held = grind (arith, nat_tests)
length-same heads base (role.Relocatable offset flags) bytes use_is held = refl

-- a handle's number has 32 bits
pub handle-small : (base : ℕ) (r : Role) (n offset : ℕ) (flags : Flags) → has_use base r n ≡ true → r ≡ role.Relocatable offset flags → base + offset < 2 ^ 32
handle-small base r n offset flags use_is is =
    let here : nat_lt (base + offset) (2 ^ 32) ≡ true = ap (λ r. has_use base r n) (sym is) ∙ use_is in grind (arith, nat_tests)

module _ (l : Layout) (z : ZoneRecords) (held : Held l z) (at : ℕ) (r : RecordAt z at) where
  -- the block of bytes
  abbrev pub mine : BlockAt l at
  mine = (of-record l z held at r).block

  abbrev b : RawBlock
  b = mine.here

  -- what its header says
  abbrev pub Said : Header → Type 0
  Said h = (b : BlockAt l at) → h ≡ header_of l.heads b.here

  pub size-said : (h : Header) → Said h → h.size ≡ r.here.size
  size-said h says = ap (λ (h : Header). h.size) (says mine) ∙ size-of l z held at r

  role-said : (h : Header) → Said h → h.role ≡ b.role
  role-said h says = ap (λ (h : Header). h.role) (says mine)

  content-is : content_in l.heads l.base b.role b.contents ≡ r.here.content
  content-is = ap (λ (r : BlockRecord). r.content) (of-record l z held at r).same

  use-is : has_use l.base b.role (length b.contents) ≡ true
  use-is = (sound-parts l.heads l.base b (sound-one l mine.before b mine.after held.sound mine.blocks)).use_is

  -- where it ends
  pub range : at + r.here.size ≤ 0xFFFF_FFFF
  range =
      let high = range-one l mine.before b mine.after held.sound mine.blocks in
      let size = size-of l z held at r in
      let place = mine.place in
      omega arith

  -- it is larger than its header
  pub head-in : head_size z.shape.heads ≤ r.here.size
  head-in = let size = size-of l z held at r in let head = ap head_size (heads-is l z held) in omega arith

  -- its entry
  pub entry-said : (h : Header) → Said h → (k : Kind) → k ≡ kind_in z.shape.base (at + head_size z.shape.heads) h.role → record { size = h.size; kind = k } ≡ block (kind_of (at + head_size z.shape.heads) r.here.content) r.here.size
  entry-said h says k is =
      let place = at + head_size z.shape.heads in
      let same : k ≡ kind_of place r.here.content = is ∙ (λ i. kind_in (sym (base-is l z held) i) place (role-said h says i)) ∙ kind-same l.heads l.base place b.role b.contents ∙ ap (kind_of place) content-is in
      λ i. record { size = size-said h says i; kind = same i }

  -- a handle's number
  pub handle-said : (h : Header) → Said h → (offset : ℕ) (flags : Flags) → h.role ≡ role.Relocatable offset flags → z.shape.base + offset < 2 ^ 32
  handle-said h says offset flags is =
      let low = handle-small l.base b.role (length b.contents) offset flags use-is (sym (role-said h says) ∙ is) in
      let base = base-is l z held in omega arith

  -- a free block has no contents
  pub length-free : (h : Header) → Said h → h.role ≡ role.Free → 0 ≡ length_of r.here.content
  length-free h says is = ap (λ r. length_of (content_in l.heads l.base r b.contents)) (sym is ∙ role-said h says) ∙ ap length_of content-is

  -- and any other has as many as its header says
  pub length-said : (h : Header) (head : ℕ) → Said h → head ≡ head_size z.shape.heads → (h.role ≡ role.Free → ⊥) → (head ≤ h.size) × (h.correction ≤ h.size - head) × (h.size - head - h.correction ≡ length_of r.here.content)
  length-said h head says is some =
      let size : h.size ≡ size_of l.heads b = ap (λ (h : Header). h.size) (says mine) in
      let over : h.correction ≡ length b.slack = ap (λ (h : Header). h.correction) (says mine) in
      let heads = ap head_size (heads-is l z held) in
      let long : length b.contents ≡ length_of r.here.content = length-same l.heads l.base b.role b.contents use-is (λ free. some (role-said h says ∙ free)) ∙ ap length_of content-is in
      (omega arith, omega arith, omega arith)

-- none of the other roles is that of a free block
pub not-free : (r : Role) → (r ≡ role.Fixed) ⊎ ((r ≡ role.Master) ⊎ ((offset : ℕ) × (flags : Flags) × (r ≡ role.Relocatable offset flags))) → r ≡ role.Free → ⊥
not-free r (inl is) free = absurd (cc (is, free))
not-free r (inr (inl is)) free = absurd (cc (is, free))
not-free r (inr (inr is)) free = let at = is.2 in absurd (cc (at, free))

-- the bytes of a block that has some
pub bytes-same : (heads : HeadKind) (base : ℕ) (r : Role) (bytes : List ℕ) → has_bytes (content_in heads base r bytes) ≡ true → bytes_of (content_in heads base r bytes) ≡ bytes
bytes-same heads base role.Free bytes h = absurd (cc h)
bytes-same heads base role.Fixed bytes h = refl
bytes-same heads base role.Master bytes h = absurd (cc h)
bytes-same heads base (role.Relocatable offset flags) bytes h = refl

-- and no slots
pub words-none : (heads : HeadKind) (base : ℕ) (b : RawBlock) (bytes : List ℕ) → has_bytes (content_in heads base b.role bytes) ≡ true → HasWords heads b
words-none heads base b bytes h is = let no : false ≡ true = ap (λ r. has_bytes (content_in heads base r bytes)) (sym is) ∙ h in absurd (cc no)

-- the same block with other bytes
pub with-same : (heads : HeadKind) (base : ℕ) (r : Role) (bytes others : List ℕ) → has_bytes (content_in heads base r bytes) ≡ true → with_bytes others (content_in heads base r bytes) ≡ content_in heads base r others
with-same heads base role.Free bytes others h = absurd (cc h)
with-same heads base role.Fixed bytes others h = refl
with-same heads base role.Master bytes others h = absurd (cc h)
with-same heads base (role.Relocatable offset flags) bytes others h = refl
