-- The addresses that slots say, and those where the contents of handles' blocks begin: each of the two is there once.
use Rattle.std.proofs.Common.{◌≡◌, ℕ, suc, ◌+◌, ◌*◌, ◌<◌, ◌≤◌, true, List, [], ◌∷◌, ◌++◌, length, drop, refl, ap, sym, ◌∙◌, subst, arith, Contains, ◌⊎◌, inl, inr, append_assoc}
use Rattle.std.specs.Prelude.{◌-◌, nat_eq}
use Rattle.std.specs.List.{IsDistinct}
use Rattle.mac_base.specs.declared.block.Flags.{Flags}
use Rattle.mac_base.specs.declared.block.HeadKind.{HeadKind}
use Rattle.mac_base.specs.HeadKind.{head_size, slot_count}
use Rattle.zone_laws.proofs.SlotPlaces.{Contains-cons_cases, Contains-here, Contains-later, Contains-none}
use Rattle.zone_laws.proofs.SoundReleased.{IsDistinct-more}
use Rattle.block_bytes.specs.declared.header.Role.{Role}
use Rattle.block_bytes.specs.declared.header.Role.TheVariants as role
use Rattle.block_bytes.specs.Layout as raw
use Rattle.block_bytes.specs.Layout.{RawBlock, Layout, BlockAt, size_of}
use Rattle.block_bytes.proofs.Walking.{size_of-pos}
use Rattle.zone_records.specs.declared.slot.Slot.{Slot}
use Rattle.zone_records.specs.declared.slot.Slot.TheVariants as slot
use Rattle.zone_records.specs.Linking.{full_count, one_full, one_handle, said_of}
use Rattle.zone_records.specs.Masters.{slot_of}
use Rattle.zone_records.specs.Reading.{content_in, is_sound}
use Rattle.zone_records.specs.Slots.{addressed, slots_of}
use Rattle.zone_records.specs.Word.{slots_in}
use Rattle.zone_records.proofs.Apart.{total-append}
use Rattle.zone_records.proofs.ReadSlots.{length-slots_in}
use Rattle.zone_records.proofs.Slots.{master-long}
use Rattle.zone_records.proofs.ZoneSlots.{IsCount, Rising, counts-few, counts-more, counts-none, first-or-later, at-first, at-later, not-there}

-- a slot with its address
abbrev Placed : Type 0
Placed = ℕ × Slot

-- the addresses that slots say
pub said-named : (ps : List Placed) (h : ℕ) (flags : Flags) (contents : ℕ) → Contains ps (h, slot.Full flags contents) → Contains (said_of ps) contents
unfolding said_of
said-named [] h flags contents c = absurd (not-there (h, slot.Full flags contents) c)
said-named ((g, slot.Free n) ∷ ps) h flags contents c = elim (first-or-later (g, slot.Free n) ps (h, slot.Full flags contents) c) [
  | inl is ↦ (let no : slot.Free n ≡ slot.Full flags contents = ap (λ (p : Placed). p.1) is in absurd (cc no))
  | inr later ↦ said-named ps h flags contents later
]
said-named ((g, slot.Empty) ∷ ps) h flags contents c = elim (first-or-later (g, slot.Empty) ps (h, slot.Full flags contents) c) [
  | inl is ↦ (let no : slot.Empty ≡ slot.Full flags contents = ap (λ (p : Placed). p.1) is in absurd (cc no))
  | inr later ↦ said-named ps h flags contents later
]
said-named ((g, slot.Full other n) ∷ ps) h flags contents c = elim (first-or-later (g, slot.Full other n) ps (h, slot.Full flags contents) c) [
  | inl is ↦ (let same : slot.Full other n ≡ slot.Full flags contents = ap (λ (p : Placed). p.1) is in let place : n ≡ contents = cc same in
      subst (λ m. Contains (n ∷ said_of ps) m) place (Contains-here n (said_of ps)))
  | inr later ↦ Contains-later n (said_of ps) contents (said-named ps h flags contents later)
]

pub said-names : (ps : List Placed) (contents : ℕ) → Contains (said_of ps) contents → (h : ℕ) × ((flags : Flags) × Contains ps (h, slot.Full flags contents))
unfolding said_of
said-names [] contents c = absurd (Contains-none contents c)
said-names ((g, slot.Free n) ∷ ps) contents c = let more = said-names ps contents c in (more.0, (more.1.0, at-later (g, slot.Free n) ps (more.0, slot.Full more.1.0 contents) more.1.1))
said-names ((g, slot.Empty) ∷ ps) contents c = let more = said-names ps contents c in (more.0, (more.1.0, at-later (g, slot.Empty) ps (more.0, slot.Full more.1.0 contents) more.1.1))
said-names ((g, slot.Full flags n) ∷ ps) contents c = elim (Contains-cons_cases n (said_of ps) contents c) [
  | inl is ↦ (g, (flags, subst (λ m. Contains ((g, slot.Full flags n) ∷ ps) (g, slot.Full flags m)) is (at-first (g, slot.Full flags n) ps)))
  | inr later ↦ (let more = said-names ps contents later in (more.0, (more.1.0, at-later (g, slot.Full flags n) ps (more.0, slot.Full more.1.0 contents) more.1.1)))
]

-- slots whose addresses rise
above : (n : ℕ) (ps : List Placed) (h : ℕ) (s : Slot) → Rising n ps → Contains ps (h, s) → n ≤ h
unfolding Rising
above n [] h s r c = absurd (not-there (h, s) c)
above n (p ∷ ps) h s r c = let low = r.0 in elim (first-or-later p ps (h, s) c) [
  | inl is ↦ (let same : p.0 ≡ h = ap (λ (p : Placed). p.0) is in omega arith)
  | inr later ↦ (let more = above (suc p.0) ps h s r.1 later in omega arith)
]

-- no two of some slots say one address
abbrev pub SayApart : List Placed → Type 0
SayApart ps = (h g : ℕ) (flags others : Flags) (contents : ℕ) → Contains ps (h, slot.Full flags contents) → Contains ps (g, slot.Full others contents) → h ≡ g

-- then each address that they say is there once
pub said-once : (n : ℕ) (ps : List Placed) → Rising n ps → SayApart ps → IsDistinct nat_eq (said_of ps)
unfolding Rising said_of IsDistinct
said-once n [] r apart = tt
said-once n ((g, slot.Free m) ∷ ps) r apart = said-once (suc g) ps r.1 (λ h k flags others x c d. apart h k flags others x (at-later (g, slot.Free m) ps (h, slot.Full flags x) c) (at-later (g, slot.Free m) ps (k, slot.Full others x) d))
said-once n ((g, slot.Empty) ∷ ps) r apart = said-once (suc g) ps r.1 (λ h k flags others x c d. apart h k flags others x (at-later (g, slot.Empty) ps (h, slot.Full flags x) c) (at-later (g, slot.Empty) ps (k, slot.Full others x) d))
said-once n ((g, slot.Full own m) ∷ ps) r apart = IsDistinct-more m (said_of ps)
    (λ c. let other = said-names ps m c in let low = above (suc g) ps other.0 (slot.Full other.1.0 m) r.1 other.1.1 in
    let same = apart g other.0 own other.1.0 m (at-first (g, slot.Full own m) ps) (at-later (g, slot.Full own m) ps (other.0, slot.Full other.1.0 m) other.1.1) in omega arith)
    (said-once (suc g) ps r.1 (λ h k flags others x c d. apart h k flags others x (at-later (g, slot.Full own m) ps (h, slot.Full flags x) c) (at-later (g, slot.Full own m) ps (k, slot.Full others x) d)))

-- they add up
pub said-append : (ps qs : List Placed) → length (said_of (ps ++ qs)) ≡ length (said_of ps) + length (said_of qs)
unfolding said_of
said-append [] qs = omega arith
said-append ((g, slot.Free m) ∷ ps) qs = said-append ps qs
said-append ((g, slot.Empty) ∷ ps) qs = said-append ps qs
said-append ((g, slot.Full flags m) ∷ ps) qs = let rest = said-append ps qs in omega arith

-- as many as slots that say one
said_counted : (at : ℕ) (xs : List Slot) → length (said_of (addressed at xs)) ≡ full_count xs
unfolding said_of
said_counted at [] = refl
said_counted at (slot.Free m ∷ xs) = let rest = said_counted (at + 4) xs in omega arith
said_counted at (slot.Empty ∷ xs) = let rest = said_counted (at + 4) xs in omega arith
said_counted at (slot.Full flags m ∷ xs) = let rest = said_counted (at + 4) xs in omega arith

pub full-few : (s : Slot) → one_full s ≤ 1
full-few (slot.Free next) = omega arith
full-few slot.Empty = omega arith
full-few (slot.Full flags contents) = omega arith

counts-full : IsCount one_full full_count
counts-full = record { none = refl; more = λ s ss. refl; few = full-few }

-- the words of a master block from one of them on
pub words-full : (heads : HeadKind) (words : List ℕ) (k : ℕ) → k < 64
    → full_count (slots_in heads (64 - k) (drop (4 * k) words)) ≡ one_full (slot_of heads words k) + full_count (slots_in heads (64 - (k + 1)) (drop (4 * (k + 1)) words))
words-full = counts-more one_full full_count counts-full

pub words-all : (heads : HeadKind) (words : List ℕ) (k : ℕ) → 64 ≤ k → full_count (slots_in heads (64 - k) (drop (4 * k) words)) ≡ 0
words-all = counts-none one_full full_count counts-full

-- how many a block's slots say, by its role
pub said-master : (heads : HeadKind) (base at : ℕ) (r : Role) (bytes : List ℕ) → r ≡ role.Master → full_count (slots_in heads slot_count bytes) ≡ length (said_of (slots_of at (content_in heads base r bytes)))
said-master heads base at r bytes is = sym (said_counted at (slots_in heads slot_count bytes)) ∙ ap (λ r. length (said_of (slots_of at (content_in heads base r bytes)))) (sym is)

pub said-none : (heads : HeadKind) (base at : ℕ) (r : Role) (bytes : List ℕ) → (r ≡ role.Master → ⊥) → 0 ≡ length (said_of (slots_of at (content_in heads base r bytes)))
unfolding said_of
said-none heads base at role.Free bytes other = refl
said-none heads base at role.Fixed bytes other = refl
said-none heads base at role.Master bytes other = absurd (other refl)
said-none heads base at (role.Relocatable offset flags) bytes other = refl

said_in_role : (heads : HeadKind) (base at : ℕ) (r : Role) (bytes : List ℕ) (size : ℕ) → (r ≡ role.Master → 256 ≤ size) → 4 * length (said_of (slots_of at (content_in heads base r bytes))) ≤ size
unfolding said_of
said_in_role heads base at role.Free bytes size room = omega arith
said_in_role heads base at role.Fixed bytes size room = omega arith
said_in_role heads base at role.Master bytes size room =
    let some = room refl in let same = said_counted at (slots_in heads slot_count bytes) in let few = counts-few one_full full_count counts-full (slots_in heads slot_count bytes) in let all = length-slots_in heads slot_count bytes in omega arith
said_in_role heads base at (role.Relocatable offset flags) bytes size room = omega arith

-- a block has room for those of its slots
pub said-room : (heads : HeadKind) (base at : ℕ) (b : RawBlock) → is_sound heads base b ≡ true → 4 * length (said_of (slots_of at (content_in heads base b.role b.contents))) ≤ size_of heads b
said-room heads base at b sound = said_in_role heads base at b.role b.contents (size_of heads b) (λ is. let long = master-long heads base b sound is in omega arith)

-- where the contents of a handle's block begin, and of handles' blocks, the first block at an address
abbrev pub place_in : Role → ℕ → List ℕ
place_in role.Free x = []
place_in role.Fixed x = []
place_in role.Master x = []
place_in (role.Relocatable offset flags) x = x ∷ []

unfoldable pub places_in : HeadKind → ℕ → List RawBlock → List ℕ
places_in heads at [] = []
places_in heads at (b ∷ bs) = place_in b.role (at + head_size heads) ++ places_in heads (at + size_of heads b) bs

pub one-place : (r : Role) (x : ℕ) → length (place_in r x) ≡ one_handle r
one-place role.Free x = refl
one-place role.Fixed x = refl
one-place role.Master x = refl
one-place (role.Relocatable offset flags) x = refl

pub handle-few : (r : Role) → one_handle r ≤ 1
handle-few role.Free = omega arith
handle-few role.Fixed = omega arith
handle-few role.Master = omega arith
handle-few (role.Relocatable offset flags) = omega arith

-- a block of a handle, whose contents begin at an address
pub record HandleIn (l : Layout) (x : ℕ) : Type 0 where
  pub at : ℕ
  pub block : BlockAt l at
  pub offset : ℕ
  pub flags : Flags
  pub role_is : block.here.role ≡ role.Relocatable offset flags
  pub place : x ≡ at + head_size l.heads

-- one more place, or none
cases_place : (r : Role) (own : ℕ) (xs : List ℕ) (x : ℕ) → Contains (place_in r own ++ xs) x → ((offset : ℕ) × ((flags : Flags) × ((r ≡ role.Relocatable offset flags) × (x ≡ own)))) ⊎ Contains xs x
cases_place role.Free own xs x c = inr c
cases_place role.Fixed own xs x c = inr c
cases_place role.Master own xs x c = inr c
cases_place (role.Relocatable offset flags) own xs x c = elim (Contains-cons_cases own xs x c) [
  | inl is ↦ inl (offset, (flags, (refl, sym is)))
  | inr later ↦ inr later
]

later_place : (r : Role) (own : ℕ) (xs : List ℕ) (x : ℕ) → Contains xs x → Contains (place_in r own ++ xs) x
later_place role.Free own xs x c = c
later_place role.Fixed own xs x c = c
later_place role.Master own xs x c = c
later_place (role.Relocatable offset flags) own xs x c = Contains-later own xs x c

place_above : (heads : HeadKind) (at : ℕ) (bs : List RawBlock) (x : ℕ) → Contains (places_in heads at bs) x → at + head_size heads ≤ x
unfolding places_in
place_above heads at [] x c = absurd (Contains-none x c)
place_above heads at (b ∷ bs) x c = elim (cases_place b.role (at + head_size heads) (places_in heads (at + size_of heads b) bs) x c) [
  | inl own ↦ (let is = own.1.1.1 in omega arith)
  | inr later ↦ (let more = place_above heads (at + size_of heads b) bs x later in omega arith)
]

-- each is there once
one_more : (r : Role) (own : ℕ) (xs : List ℕ) → (Contains xs own → ⊥) → IsDistinct nat_eq xs → IsDistinct nat_eq (place_in r own ++ xs)
one_more role.Free own xs new once = once
one_more role.Fixed own xs new once = once
one_more role.Master own xs new once = once
one_more (role.Relocatable offset flags) own xs new once = IsDistinct-more own xs new once

pub places-once : (heads : HeadKind) (at : ℕ) (bs : List RawBlock) → IsDistinct nat_eq (places_in heads at bs)
unfolding places_in IsDistinct
places-once heads at [] = tt
places-once heads at (b ∷ bs) = one_more b.role (at + head_size heads) (places_in heads (at + size_of heads b) bs)
    (λ c. let low = place_above heads (at + size_of heads b) bs (at + head_size heads) c in let some = size_of-pos heads b in omega arith) (places-once heads (at + size_of heads b) bs)

module _ (l : Layout) where
  -- of all blocks
  abbrev pub places : List ℕ
  places = places_in l.heads (raw.address_after l []) l.blocks

  places_are : (before after : List RawBlock) (at x : ℕ) → l.blocks ≡ before ++ after → at ≡ raw.address_after l before → Contains (places_in l.heads at after) x → HandleIn l x
  unfolding places_in
  places_are before [] at x is there c = absurd (Contains-none x c)
  places_are before (b ∷ bs) at x is there c = elim (cases_place b.role (at + head_size l.heads) (places_in l.heads (at + size_of l.heads b) bs) x c) [
    | inl own ↦ record { at = at; block = record { before = before; here = b; after = bs; blocks = is; place = there }; offset = own.0; flags = own.1.0; role_is = own.1.1.0; place = own.1.1.1 }
    | inr later ↦ (let total = total-append l.heads before (b ∷ []) in
        places_are (before ++ b ∷ []) bs (at + size_of l.heads b) x (is ∙ sym (append_assoc before (b ∷ []) bs)) (omega arith) later)
  ]

  pub place-is : (x : ℕ) → Contains places x → HandleIn l x
  place-is x c = places_are [] l.blocks (raw.address_after l []) x refl refl c

  place_after : (before : List RawBlock) (b : RawBlock) (after : List RawBlock) (at : ℕ) (offset : ℕ) (flags : Flags) → b.role ≡ role.Relocatable offset flags → Contains (places_in l.heads at (before ++ b ∷ after)) (at + raw.total_of l.heads before + head_size l.heads)
  unfolding places_in
  place_after [] b after at offset flags is =
      let rest = places_in l.heads (at + size_of l.heads b) after in
      subst (λ r. Contains (place_in r (at + head_size l.heads) ++ rest) (at + 0 + head_size l.heads)) (sym is)
      (subst (λ n. Contains ((at + head_size l.heads) ∷ rest) n) (let e : at + head_size l.heads ≡ at + 0 + head_size l.heads = omega arith in e) (Contains-here (at + head_size l.heads) rest))
  place_after (a ∷ before) b after at offset flags is =
      let more = place_after before b after (at + size_of l.heads a) offset flags is in
      later_place a.role (at + head_size l.heads) (places_in l.heads (at + size_of l.heads a) (before ++ b ∷ after)) (at + (size_of l.heads a + raw.total_of l.heads before) + head_size l.heads)
      (subst (Contains (places_in l.heads (at + size_of l.heads a) (before ++ b ∷ after))) (let e : at + size_of l.heads a + raw.total_of l.heads before + head_size l.heads ≡ at + (size_of l.heads a + raw.total_of l.heads before) + head_size l.heads = omega arith in e) more)

  pub place-there : (at : ℕ) (b : BlockAt l at) (offset : ℕ) (flags : Flags) → b.here.role ≡ role.Relocatable offset flags → Contains places (at + head_size l.heads)
  place-there at b offset flags is =
      let place = b.place in let start = raw.address_after l [] in
      let own : start + raw.total_of l.heads b.before + head_size l.heads ≡ at + head_size l.heads = omega arith in
      subst (λ bs. Contains (places_in l.heads start bs) (at + head_size l.heads)) (sym b.blocks)
      (subst (Contains (places_in l.heads start (b.before ++ b.here ∷ b.after))) own (place_after b.before b.here b.after start offset flags is))
