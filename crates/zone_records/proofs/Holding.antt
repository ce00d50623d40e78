-- The block of a handle or a pointer, and its bytes.
use Rattle.std.proofs.Common.{◌≡◌, ℕ, ◌+◌, ◌%◌, Bool, true, cond, not, ◌&&◌, ◌||◌, nat_le, List, [], ◌∷◌, ◌++◌, length, take, drop, refl, ap, sym, ◌∙◌, subst, arith, append-nil, length-append, length-take, length-drop}
use Rattle.std.specs.Prelude.{◌==◌}
use Rattle.std.proofs.lemmas.List.{take_all, drop_all}
use Rattle.std.proofs.lemmas.Bool.{eq-eqb, and_from}
use Rattle.mac_base.specs.declared.block.HeadKind.{HeadKind}
use Rattle.mac_base.specs.declared.block.Flags.{Flags}
use Rattle.mac_base.specs.HeadKind.{head_size, smallest_block}
use Rattle.mac_base.specs.ZoneState.{overwritten}
use Rattle.block_bytes.specs.declared.header.Header.{Header}
use Rattle.block_bytes.specs.declared.header.Role.{Role}
use Rattle.block_bytes.specs.declared.header.Role.TheVariants as role
use Rattle.block_bytes.specs.Layout as raw
use Rattle.block_bytes.specs.Layout.{RawBlock, Layout, BlockAt, UnlentAt, size_of, header_of, with_blocks, can_be_told}
use Rattle.block_bytes.specs.Head.{most_over}
use Rattle.block_bytes.specs.WritingBack as back
use Rattle.block_bytes.proofs.WrittenBack.{further}
use Rattle.block_bytes.proofs.ReadBlocks.{head_size-positive}
use Rattle.zone_records.specs.Records as records
use Rattle.zone_records.specs.Records.{Content, Relocatable, BlockRecord, block_record, handle_record, ZoneRecords, bytes_of, with_bytes, address_after, total_of}
use Rattle.zone_records.specs.Places.{RecordAt, HeldAt, HandleBlockAt, has_bytes}
use Rattle.zone_records.specs.WritingBack.{overwritten_at, with_contents_at}
use Rattle.zone_records.specs.Reading.{content_in, record_in, has_use, is_sound}
use Rattle.zone_records.proofs.Apart.{read, One}
use Rattle.zone_records.proofs.Held.{Held, base-is, address-is, one, sound-one, words-one, changed}
use Rattle.zone_records.proofs.Looking.{of-record}
use Rattle.zone_records.proofs.Headers.{bytes-same, words-none, with-same}

-- a block with other contents
abbrev pub with_contents : RawBlock → List ℕ → RawBlock
with_contents b contents = record b { contents = contents }

-- it is sound where they are as long
pub sound-same : (heads : HeadKind) (base : ℕ) (b : RawBlock) (contents : List ℕ) → length contents ≡ length b.contents → is_sound heads base b ≡ true → is_sound heads base (with_contents b contents) ≡ true
sound-same heads base b contents long sound =
    ap (λ n. (((head_size heads + (n + length b.slack)) % 4 == 0) && (nat_le (smallest_block heads) (head_size heads + (n + length b.slack))
    && (nat_le (length b.slack) (most_over heads) && (can_be_told heads b.role (length b.slack) && (not b.lent || raw.has_owner b.role))))) && has_use base b.role n) long ∙ sound

-- there are as many bytes as before
pub length-overwritten : (old others : List ℕ) → length (overwritten old others) ≡ length old
length-overwritten old others = length-append (take (length old) others) (drop (length others) old) ∙ omega (arith, length-take (length old) others, length-drop (length others) old)

-- and none of the old ones is left where as many are written
pub overwritten-all : (old others : List ℕ) → length others ≡ length old → overwritten old others ≡ others
overwritten-all old others long = (λ i. take (sym long i) others ++ drop (long i) old)
    ∙ (λ i. take_all (length others) others (omega arith) i ++ drop_all (length old) old (omega arith) i) ∙ append-nil others

-- of the blocks of bytes, the one at this address is written
pub raw-overwritten : (heads : HeadKind) (at x : ℕ) (bytes : List ℕ) (before : List RawBlock) (here : RawBlock) (after : List RawBlock) → x ≡ at + raw.total_of heads before
    → back.overwritten_at heads at x bytes (before ++ here ∷ after) ≡ before ++ with_contents here (overwritten here.contents bytes) ∷ after
raw-overwritten heads at x bytes [] here after is =
    ap (λ (t : Bool). cond t (with_contents here (overwritten here.contents bytes) ∷ after) (here ∷ back.overwritten_at heads (at + size_of heads here) x bytes after)) (eq-eqb at x (omega arith))
raw-overwritten heads at x bytes (b ∷ before) here after is =
    let some = head_size-positive heads in
    ap (λ (t : Bool). cond t (with_contents b (overwritten b.contents bytes) ∷ (before ++ here ∷ after)) (b ∷ back.overwritten_at heads (at + size_of heads b) x bytes (before ++ here ∷ after)))
    (further at x (size_of heads b + raw.total_of heads before) (omega arith) (omega arith))
    ∙ ap (λ (bs : List RawBlock). b ∷ bs) (raw-overwritten heads (at + size_of heads b) x bytes before here after (omega arith))

-- a block with other bytes
abbrev rewritten : BlockRecord → List ℕ → BlockRecord
rewritten r bytes = record r { content = with_bytes (overwritten (bytes_of r.content) bytes) r.content }

-- and of the blocks that they are
overwritten-there : (heads : HeadKind) (base at x : ℕ) (bytes : List ℕ) (before : List RawBlock) (here : BlockRecord) (after : List BlockRecord) → x ≡ at + raw.total_of heads before
    → overwritten_at at x bytes (read heads base before ++ here ∷ after) ≡ read heads base before ++ rewritten here bytes ∷ after
overwritten-there heads base at x bytes [] here after is =
    ap (λ (t : Bool). cond t (rewritten here bytes ∷ after) (here ∷ overwritten_at (at + here.size) x bytes after)) (eq-eqb at x (omega arith))
overwritten-there heads base at x bytes (b ∷ before) here after is =
    let some = head_size-positive heads in
    ap (λ (t : Bool). cond t (rewritten (record_in heads base b) bytes ∷ (read heads base before ++ here ∷ after)) (record_in heads base b ∷ overwritten_at (at + size_of heads b) x bytes (read heads base before ++ here ∷ after)))
    (further at x (size_of heads b + raw.total_of heads before) (omega arith) (omega arith))
    ∙ ap (λ (rs : List BlockRecord). record_in heads base b ∷ rs) (overwritten-there heads base (at + size_of heads b) x bytes before here after (omega arith))

-- a role that says a handle
pub handle-role : (heads : HeadKind) (base : ℕ) (r : Role) (bytes : List ℕ) (h : ℕ) (flags : Flags) (contents : List ℕ) → content_in heads base r bytes ≡ Relocatable h flags contents
    → (offset : ℕ) × (r ≡ role.Relocatable offset flags) × (base + offset ≡ h) × (bytes ≡ contents)
handle-role heads base role.Free bytes h flags contents is = absurd (cc is)
handle-role heads base role.Fixed bytes h flags contents is = absurd (cc is)
handle-role heads base role.Master bytes h flags contents is = absurd (cc is)
handle-role heads base (role.Relocatable offset others) bytes h flags contents is =
    let same : others ≡ flags = cc is in (offset, ap (λ f. role.Relocatable offset f) same, cc is, cc is)

module _ (l : Layout) (z : ZoneRecords) (held : Held l z) (at : ℕ) where
  module _ (h : HeldAt z at) where
    -- its bytes
    abbrev pub held_one : One l h.before (block_record h.content h.size) h.after
    held_one = one l z held h.before (block_record h.content h.size) h.after h.blocks

    abbrev b : RawBlock
    b = held_one.block

    -- it isn't lent
    abbrev pub held-block : UnlentAt l at
    held-block = record {
      block = record { before = held_one.first; here = b; after = held_one.rest; blocks = held_one.blocks; place = h.place ∙ address-is l z held held_one.first h.before held_one.lower };
      unlent = ap (λ (r : BlockRecord). r.lent) held_one.same;
    }

    pub held-size : size_of l.heads b ≡ h.size
    held-size = ap (λ (r : BlockRecord). r.size) held_one.same

    pub held-content : content_in l.heads l.base b.role b.contents ≡ h.content
    held-content = ap (λ (r : BlockRecord). r.content) held_one.same

    pub held-has : has_bytes (content_in l.heads l.base b.role b.contents) ≡ true
    held-has = ap has_bytes held-content ∙ h.held

    -- what they are
    pub held-bytes : b.contents ≡ bytes_of h.content
    held-bytes = sym (bytes-same l.heads l.base b.role b.contents held-has) ∙ ap bytes_of held-content

    -- the same with others
    pub held-with : (others : List ℕ) → content_in l.heads l.base b.role others ≡ with_bytes others h.content
    held-with others = sym (with-same l.heads l.base b.role b.contents others held-has) ∙ ap (with_bytes others) held-content

    -- what is left after a slice of them
    pub lent-kept : (ws : List ℕ) → Held (back.with_contents_at l at ws) (with_contents_at z at ws)
    lent-kept ws =
        let o = held_one in
        let there = held-block.block.place in
        let now = with_contents b (overwritten b.contents ws) in
        let long = length-overwritten b.contents ws in
        let rec : record_in l.heads l.base now ≡ rewritten (block_record h.content h.size) ws =
        (λ i. record {
          size = ((let e : size_of l.heads now ≡ size_of l.heads b = omega arith in e) ∙ held-size) i;
          content = (held-with (overwritten b.contents ws) ∙ ap (λ old. with_bytes (overwritten old ws) h.content) held-bytes) i;
          lent = held-block.unlent i;
        }) in
        let all = changed l z held o.first (b ∷ []) (now ∷ []) o.rest h.before (rewritten (block_record h.content h.size) ws ∷ []) h.after o.blocks o.lower o.upper (ap (λ r. r ∷ []) rec) (omega arith)
        (and_from _ _ (sound-same l.heads l.base b (overwritten b.contents ws) long (sound-one l o.first b o.rest held.sound o.blocks)) refl) (words-one l.heads now (words-none l.heads l.base now b.contents held-has)) in
        let base = base-is l z held in
        let low : o.first ++ now ∷ o.rest ≡ back.overwritten_at l.heads (raw.address_after l []) at ws l.blocks =
        sym (ap (back.overwritten_at l.heads (raw.address_after l []) at ws) o.blocks ∙ raw-overwritten l.heads (raw.address_after l []) at ws o.first b o.rest (omega arith)) in
        let high : h.before ++ rewritten (block_record h.content h.size) ws ∷ h.after ≡ overwritten_at (address_after z.shape []) at ws z.blocks =
        sym (ap (overwritten_at (address_after z.shape []) at ws) (h.blocks ∙ ap (λ rs. rs ++ block_record h.content h.size ∷ h.after) (sym o.lower))
        ∙ overwritten-there l.heads l.base (address_after z.shape []) at ws o.first (block_record h.content h.size) h.after (omega arith)
        ∙ ap (λ rs. rs ++ rewritten (block_record h.content h.size) ws ∷ h.after) o.lower) in
        subst (λ bs. Held (with_blocks bs l) (with_contents_at z at ws)) low (subst (λ rs. Held (with_blocks (o.first ++ now ∷ o.rest) l) (records.with_blocks rs z)) high all)

  -- that of a handle, lent or not
  module _ (h : HandleBlockAt z at) where
    abbrev pub handle_there : RecordAt z at
    handle_there = record { before = h.before; here = handle_record h.handle h.flags h.bytes h.size h.lent; after = h.after; blocks = h.blocks; place = h.place }

    abbrev pub handle-block : BlockAt l at
    handle-block = (of-record l z held at handle_there).block

    -- what its role and its contents say
    pub handle-is : (offset : ℕ) × (handle-block.here.role ≡ role.Relocatable offset h.flags) × (l.base + offset ≡ h.handle) × (handle-block.here.contents ≡ h.bytes)
    handle-is = handle-role l.heads l.base handle-block.here.role handle-block.here.contents h.handle h.flags h.bytes (ap (λ (r : BlockRecord). r.content) (of-record l z held at handle_there).same)

    -- what its header says
    pub handle-said : (header : Header) → ((b : BlockAt l at) → header ≡ header_of l.heads b.here) → (offset : ℕ) × (header.role ≡ role.Relocatable offset h.flags) × (l.base + offset ≡ h.handle)
    handle-said header says =
        let said = handle-is in
        (said.0, ap (λ (h : Header). h.role) (says handle-block) ∙ said.1, said.2)
