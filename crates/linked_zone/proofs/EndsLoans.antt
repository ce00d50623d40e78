-- How the calls end that lend a block's bytes and take them back.
use Rattle.std.proofs.Common.{◌≡◌, ℕ, ◌+◌, ◌<◌, Bool, true, false, not, ◌&&◌, ◌||◌, [], ◌∷◌, ◌++◌, length, refl, ap, sym, ◌∙◌, subst, arith}
use Rattle.std.proofs.lemmas.Bool.{eqb-true}
use Rattle.mac_base.specs.declared.block.Kind.{Kind}
use Rattle.mac_base.specs.declared.block.Kind.TheVariants as kind
use Rattle.mac_base.specs.HeadKind.{head_size}
use Rattle.mac_base.specs.HandleTable.{bytes_of, has_block, is_full, is_lent, is_pointer, live_at, refilled}
use Rattle.mac_base.specs.Heap.{front_slot}
use Rattle.mac_base.specs.Loans.{most_loans, lent_out, returned}
use Rattle.mac_base.specs.Suits.{wanted_length}
use Rattle.mac_base.specs.ZoneMap.{is_master, is_named, total_size, address_after, contents_of}
use Rattle.mac_base.specs.ZoneState.{ZoneState, with_heap}
use Rattle.raw_region.specs.State.{Loan}
use Rattle.zone_laws.proofs.Tables.{with_live_agrees, eqb_same}
use Rattle.zone_records.specs.Changes as changes
use Rattle.zone_records.specs.Places as places
use Rattle.zone_records.specs.Places.{has_bytes}
use Rattle.zone_records.specs.Records.{ZoneRecords, BlockRecord, Content, length_of}
use Rattle.zone_records.specs.Records as records
use Rattle.linked_zone.specs.Fit.{Fits}
use Rattle.linked_zone.specs.Loans.{IsLoanOf}
use Rattle.linked_zone.specs.Owned.{owners_of, records_of, content_of, header_flags}
use Rattle.linked_zone.specs.Places.{NamedAt, EntryAt}
use Rattle.linked_zone.proofs.Standing.{Stands, Kept}
use Rattle.linked_zone.proofs.Owning.{image-same, records-total}
use Rattle.linked_zone.proofs.Located.{OfEntry, of-entry}
use Rattle.linked_zone.proofs.Found.{named-held, named-lent, length-wanted}
use Rattle.linked_zone.proofs.Lent.{not-lent, lent_out-test, lent_out-fits, returned-test, returned-fits}
use Rattle.linked_zone.proofs.Ends.{lower, upper, ended-same}
use Rattle.linked_zone.proofs.EndsSized.{flags-stay, content-named, named-other}
use Rattle.linked_zone.proofs.EndsSwapped.{with_table, swapped-before, swapped-place, swapped-after}
use Rattle.linked_zone.proofs.ChangeParts.{none_named-fits, Fits-kept}
use Rattle.linked_zone.proofs.ChangeSized.{NamesOne, names-one, named-contents}
use Rattle.linked_zone.proofs.ChangeWritten.{rewritten, written-fits, written-pointers, written-bytes}

-- what is lent has a block
pub lent-block : (z : ZoneState) → Fits z → (x : ℕ) → is_lent z.heap.table x ≡ true → has_block z.heap.table x ≡ true
lent-block z fits x lent = by_test (is_full z.heap.table x) (is_pointer z.heap.table x) refl refl
  where
    by_test : (a b : Bool) → is_full z.heap.table x ≡ a → is_pointer z.heap.table x ≡ b → (a || b) ≡ true
    by_test true b full pointer = refl
    by_test false true full pointer = refl
    by_test false false full pointer = absurd (cc (lent, not-lent z.heap fits.loans x (none_named-fits z x fits full pointer)))

-- the owner of a block wants as many bytes as it has
wanted-named : (z : ZoneState) (x : ℕ) (k : Kind) → is_named x k ≡ true → wanted_length z.heap.table k ≡ length (bytes_of z.heap.table x)
wanted-named z x kind.Free named = absurd (cc named)
wanted-named z x kind.Master named = absurd (cc named)
wanted-named z x (kind.Ptr p) named = ap (λ y. length (bytes_of z.heap.table y)) (eqb-true p x named)
wanted-named z x (kind.Rel h) named = ap (λ y. length (bytes_of z.heap.table y)) (eqb-true h x named)

module _ (r : ZoneRecords) (z : ZoneState) (held : Stands r z) (x at : ℕ) (named : NamedAt z x at) where
  -- ---- what is read of the block

  abbrev entry : EntryAt z at
  entry = record { before = named.before; here = named.here; after = named.after; map = named.map; place = named.place }

  abbrev of : OfEntry r z at entry
  of = of-entry r z held.blocks at entry

  -- it is one of the blocks
  pub named-there : places.RecordAt r at
  named-there = of.there

  -- whether it is lent
  pub named-lent_read : (b : Bool) → ((t : places.RecordAt r at) → b ≡ t.here.lent) → b ≡ is_lent z.heap.table x
  named-lent_read b is = is of.there ∙ ap (λ (b : BlockRecord). b.lent) of.here ∙ named-lent (owners_of z) x named.here.kind named.named

  -- and how many bytes it has
  pub named-length_read : (n : ℕ) → ((t : places.RecordAt r at) → n ≡ length_of t.here.content) → n ≡ length (bytes_of z.heap.table x)
  named-length_read n is = is of.there ∙ ap (λ (b : BlockRecord). length_of b.content) of.here ∙ length-wanted z (at + head_size z.shape.heads) named.here.kind ∙ wanted-named z x named.here.kind named.named

  -- ---- the blocks around it

  abbrev there : ℕ
  there = (address_after z.shape [] + total_size named.before) + head_size z.shape.heads

  abbrev content : Content
  content = content_of (owners_of z) there named.here.kind

  -- with something else in the block, lent or not
  abbrev around : Content → Bool → ZoneRecords
  around c l = record {
    memory = z.memory;
    shape = z.shape;
    front = front_slot z.heap;
    blocks = lower (owners_of z) z.shape named.before ++ record { size = named.here.size; content = c; lent = l } ∷ upper (owners_of z) z.shape named.before (named.here ∷ []) named.after;
  }

  other : is_master named.here.kind ≡ false
  other = named-other x named.here.kind named.named

  one : NamesOne z x named.before named.after
  one = names-one z x named.before named.here named.after held.fits named.map named.named

  -- what is in it
  was : (l : Bool) → is_lent z.heap.table x ≡ l → (records_of z).blocks ≡ (around content l).blocks
  was l is = swapped-before r z held z.heap x named.before named.here.kind named.here.kind named.here.size named.after named.map named.map other
      ∙ ap (λ l. (around content l).blocks) (named-lent (owners_of z) x named.here.kind named.named ∙ is)

  place : at ≡ records.address_after z.shape (lower (owners_of z) z.shape named.before)
  place = swapped-place r z held z.heap x named.before named.here.kind named.here.kind named.here.size named.after named.map named.map other at named.place

  -- its bytes
  bytes : (has_bytes content ≡ true) × (records.bytes_of content ≡ bytes_of z.heap.table x)
  bytes = named-held (owners_of z) there x named.here.kind named.named

  -- its contents begin after its header
  begins : contents_of z.shape x z.heap.map ≡ address_after z.shape named.before + head_size z.shape.heads
  begins = named-contents z x named.before named.here named.after held.fits named.map named.named

  -- ---- it is lent

  module _ (unlent : is_lent z.heap.table x ≡ false) where
    abbrev held_there : places.HeldAt (records_of z) at
    held_there = record {
      before = lower (owners_of z) z.shape named.before;
      size = named.here.size;
      content = content;
      after = upper (owners_of z) z.shape named.before (named.here ∷ []) named.after;
      blocks = was false unlent;
      place = place;
      held = bytes.0;
    }

    -- it can be
    pub lend-can : places.HeldAt r at
    lend-can = subst (λ r. places.HeldAt r at) (sym held.blocks) held_there

    abbrev now : ZoneState
    now = with_heap (lent_out x z.heap) z

    -- it is
    pub lend-ends : length z.heap.table.lent < most_loans → (m : ZoneRecords) → ((h : places.HeldAt r at) → m ≡ changes.lent_out r h) → Kept m (with_heap (lent_out x z.heap) z)
    lend-ends few m is =
        let test = lent_out-test z.heap held.fits.loans x named.before named.here named.after named.map named.named in
        let loans = lent_out-fits z.heap held.fits.loans x named.before named.here named.after named.map named.named one.none_before one.none_after few in
        ended-same r m z now.heap held refl (Fits-kept z now.heap.table z.heap.map held.fits held.fits.coherent.handles held.fits.coherent.pointers refl (λ y. refl) held.fits.coherent.in_order loans)
        (swapped-after r z held now.heap x named.before named.here.kind named.here.kind named.here.size named.after named.map named.map other m one.none_before one.none_after
        (record { others = λ y _. refl }) (λ y apart. test y ∙ ap (λ b. b || is_lent z.heap.table y) apart)
        ((subst (λ (r : ZoneRecords). (h : places.HeldAt r at) → m ≡ changes.lent_out r h) held.blocks is) held_there
        ∙ ap (around content) (sym (named-lent (with_table z now) x named.here.kind named.named ∙ test x ∙ ap (λ b. b || is_lent z.heap.table x) (eqb_same x)))))

    module _ (loan : Loan) (is : (h : places.HeldAt r at) → loan ≡ changes.loan_of r h) where
      loan_is : loan ≡ changes.loan_of (records_of z) held_there
      loan_is = (subst (λ (r : ZoneRecords). (h : places.HeldAt r at) → loan ≡ changes.loan_of r h) held.blocks is) held_there

      -- its loan has its bytes
      pub lend-bytes : loan.bytes ≡ bytes_of z.heap.table x
      lend-bytes = ap (λ (l : Loan). l.bytes) loan_is ∙ bytes.1

      -- and is one of the new zone
      pub lend-loan : IsLoanOf (with_heap (lent_out x z.heap) z) x loan
      lend-loan =
          let starts = ap (λ (l : Loan). l.at) loan_is in
          let total = records-total (owners_of z) z.shape (address_after z.shape []) named.before in
          let begin = begins in
          record {
            lent = lent_out-test z.heap held.fits.loans x named.before named.here named.after named.map named.named x ∙ ap (λ b. b || is_lent z.heap.table x) (eqb_same x);
            memory = ap (λ (l : Loan). l.name) loan_is;
            contents = omega arith;
            long = ap length lend-bytes;
          }

  -- ---- it comes back

  module _ (loan : Loan) (of_x : IsLoanOf z x loan) where
    abbrev loan_there : places.IsLoanOf (records_of z) at loan
    loan_there = let begin = begins in let contents = of_x.contents in let place_is = named.place in record {
      before = lower (owners_of z) z.shape named.before;
      size = named.here.size;
      content = content;
      after = upper (owners_of z) z.shape named.before (named.here ∷ []) named.after;
      blocks = was true of_x.lent;
      place = place;
      held = bytes.0;
      memory = of_x.memory;
      contents = omega arith;
      long = of_x.long ∙ ap length (sym bytes.1);
    }

    -- it can
    pub give_back-can : places.IsLoanOf r at loan
    give_back-can = subst (λ r. places.IsLoanOf r at loan) (sym held.blocks) loan_there

    abbrev back : ZoneState
    back = with_heap (returned x loan.bytes z.heap) z

    -- it does
    pub give_back-ends : (m : ZoneRecords) → ((is : places.IsLoanOf r at loan) → m ≡ changes.taken_back r is) → Kept m (with_heap (returned x loan.bytes z.heap) z)
    give_back-ends m is =
        let has = one.block in
        let q = with_table z back in
        let test = returned-test z.heap x loan.bytes in
        let written = written-fits z x loan.bytes held.fits has in
        let flags = ap (header_flags z.shape.heads) (flags-stay x loan.bytes z.heap.table x) in
        let filled : content_of q there named.here.kind ≡ records.with_bytes loan.bytes content =
        content-named (owners_of z) q there x named.here.kind named.named flags ∙ ap (λ bs. records.with_bytes bs content) (written-bytes z x loan.bytes held.fits has) in
        ended-same r m z back.heap held refl
        (Fits-kept (rewritten z x loan.bytes) back.heap.table z.heap.map written written.coherent.handles written.coherent.pointers refl (λ y. refl) written.coherent.in_order (returned-fits z.heap x loan.bytes held.fits.loans))
        (swapped-after r z held back.heap x named.before named.here.kind named.here.kind named.here.size named.after named.map named.map other m one.none_before one.none_after
        (record { others = (with_live_agrees x (refilled loan.bytes (live_at z.heap.table x)) z.heap.table).others }) (λ y apart. test y ∙ ap (λ b. not b && is_lent z.heap.table y) apart)
        ((subst (λ (r : ZoneRecords). (is : places.IsLoanOf r at loan) → m ≡ changes.taken_back r is) held.blocks is) loan_there
        ∙ ap (λ c. around c false) (sym filled)
        ∙ ap (around (content_of q there named.here.kind)) (sym (named-lent q x named.here.kind named.named ∙ test x ∙ ap (λ b. not b && is_lent z.heap.table x) (eqb_same x))))
        ∙ sym (image-same z.memory z.shape (front_slot z.heap) q (owners_of back) z.heap.map (λ y _. written-pointers z x loan.bytes held.fits has y) (λ y. refl) (λ y. refl) (λ y. refl)))
