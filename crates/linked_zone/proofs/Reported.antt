-- Which block a zone reports at an address.
use Rattle.std.proofs.Common.{◌≡◌, ℕ, ◌+◌, ◌<◌, Bool, true, false, cond, [], ◌∷◌, ◌++◌, Some, None, refl, ap, sym, ◌∙◌, arith}
use Rattle.std.specs.Prelude.{find, ◌==◌}
use Rattle.std.specs.List.{list_all}
use Rattle.std.proofs.lemmas.Bool.Decides.{nat_tests}
use Rattle.std.proofs.lemmas.List.Folds.{list_all-append}
use Rattle.std.proofs.lemmas.Bool.{and_parts, eqb-true}
use Rattle.mac_base.specs.declared.block.Block.{Block}
use Rattle.mac_base.specs.declared.block.Entry.{Entry}
use Rattle.mac_base.specs.declared.block.Flags.{Flags}
use Rattle.mac_base.specs.HeadKind.{head_size, slot_count}
use Rattle.mac_base.specs.ZoneMap.{ZoneMap, total_size, address_after}
use Rattle.mac_base.specs.HandleTable.{HandleTable}
use Rattle.mac_base.specs.Suits.{wanted_length}
use Rattle.mac_base.specs.BlockReport.{block_flags, reports_from, report_at}
use Rattle.mac_base.specs.ZoneState.{ZoneState}
use Rattle.zone_laws.proofs.SlotPlaces.{has_room, some_size}
use Rattle.zone_records.specs.Records.{ZoneRecords}
use Rattle.zone_records.specs.Places.{RecordAt}
use Rattle.linked_zone.specs.Places.{EntryAt}
use Rattle.linked_zone.proofs.Standing.{Stands}
use Rattle.linked_zone.proofs.Located.{of-entry}

-- the report of a block
abbrev report : HandleTable → ℕ → Entry → Block
report t at e = record { address = at; entry = e; length = wanted_length t e.kind; flags = block_flags t e.kind }

-- none is reported where there is none
report-none : (t : HandleTable) (x at : ℕ) (m : ZoneMap) → ((before : ZoneMap) (e : Entry) (after : ZoneMap) → m ≡ before ++ e ∷ after → x ≡ at + total_size before → ⊥)
    → find (λ (b : Block). b.address == x) (reports_from t at m) ≡ None
report-none t x at [] none = refl
report-none t x at (e ∷ es) none =
    ap (λ c. cond c (Some (report t at e)) (find (λ (b : Block). b.address == x) (reports_from t (at + e.size) es))) (not_here (at == x) refl)
    ∙ report-none t x (at + e.size) es (λ before f after is place. none (e ∷ before) f after (ap (λ (m : ZoneMap). e ∷ m) is) (omega arith))
  where
    not_here : (c : Bool) → (at == x) ≡ c → c ≡ false
    not_here false is = refl
    not_here true is = let same = eqb-true at x is in absurd (none [] e es refl (omega arith))

-- the one that is there is reported, where each before it has some bytes
report-here : (t : HandleTable) (head n x at : ℕ) (before : ZoneMap) (e : Entry) (after : ZoneMap) → list_all (has_room head n) before ≡ true → x ≡ at + total_size before
    → find (λ (b : Block). b.address == x) (reports_from t at (before ++ e ∷ after)) ≡ Some (report t x e)
report-here t head n x at [] e after room place =
    let same : at ≡ x = omega arith in
    ap (λ c. cond c (Some (report t at e)) (find (λ (b : Block). b.address == x) (reports_from t (at + e.size) after))) (let test : (at == x) ≡ true = grind (arith, nat_tests) in test)
    ∙ ap (λ a. Some (report t a e)) same
report-here t head n x at (f ∷ before) e after room place =
    let parts = and_parts (has_room head n f) (list_all (has_room head n) before) room in
    let some = some_size head n f parts.0 in
    ap (λ c. cond c (Some (report t at f)) (find (λ (b : Block). b.address == x) (reports_from t (at + f.size) (before ++ e ∷ after)))) (apart at x f.size (total_size before) (omega arith) place)
    ∙ report-here t head n x (at + f.size) before e after parts.1 (omega arith)
  where
    apart : (at x size more : ℕ) → 0 < size → x ≡ at + (size + more) → (at == x) ≡ false
    apart at x size more some is = grind (arith, nat_tests)

module _ (r : ZoneRecords) (z : ZoneState) (stands : Stands r z) where
  -- no block is reported at an address where no entry is
  nothing-reported : (at : ℕ) → (EntryAt z at → ⊥) → None ≡ report_at z.shape z.heap at
  nothing-reported at none = sym (report-none z.heap.table at (address_after z.shape []) z.heap.map (λ before e after map place. none (record { before = before; here = e; after = after; map = map; place = omega arith })))

  -- so where no block's header is
  pub reported-none : (at : ℕ) → (RecordAt r at → ⊥) → None ≡ report_at z.shape z.heap at
  reported-none at none = nothing-reported at (λ e. none (of-entry r z stands.blocks at e).there)

  -- the block of an entry is reported
  pub reported-here : (at : ℕ) (e : EntryAt z at) (entry : Entry) (n : ℕ) (flags : Flags) → entry ≡ e.here → n ≡ wanted_length z.heap.table e.here.kind → flags ≡ block_flags z.heap.table entry.kind
      → Some (record { address = at; entry = entry; length = n; flags = flags }) ≡ report_at z.shape z.heap at
  reported-here at e entry n flags is long has =
      let t = z.heap.table in
      let place = e.place in
      let all = and_parts (list_all (has_room (head_size z.shape.heads) slot_count) e.before) _ (sym (ap (list_all (has_room (head_size z.shape.heads) slot_count)) e.map ∙ list_all-append _ e.before (e.here ∷ e.after)) ∙ stands.rooms) in
      let found = report-here t (head_size z.shape.heads) slot_count at (address_after z.shape []) e.before e.here e.after all.0 (omega arith) in
      let one = λ (entry : Entry) (n : ℕ) (flags : Flags). let b : Block = record { address = at; entry = entry; length = n; flags = flags } in Some b in
      ap (one entry n) has ∙ ap (λ n. one entry n (block_flags t entry.kind)) long ∙ ap (λ (f : Entry). one f (wanted_length t e.here.kind) (block_flags t f.kind)) is
      ∙ sym (ap (λ m. find (λ (b : Block). b.address == at) (reports_from t (address_after z.shape []) m)) e.map ∙ found)
