-- Which block is reported at an address, and whether it passes a test.
use Rattle.std.proofs.Common.{◌≡◌, ℕ, ◌+◌, Bool, true, false, cond, [], ◌∷◌, ◌++◌, Option, Some, None, refl, ap, sym, ◌∙◌, subst, arith}
use Rattle.std.specs.Prelude.{find, ◌==◌, ◌↔◌, IsTrue}
use Rattle.std.proofs.lemmas.Bool.Decides.{nat_tests}
use Rattle.std.proofs.lemmas.Bool.{eqb-true}
use Rattle.mac_base.specs.declared.block.Block.{Block}
use Rattle.mac_base.specs.declared.block.Entry.{Entry}
use Rattle.mac_base.specs.declared.block.Kind.{Kind}
use Rattle.mac_base.specs.BlockReport.{block_flags, report_at, reports_from}
use Rattle.mac_base.specs.HandleTable.{HandleTable}
use Rattle.mac_base.specs.Suits.{wanted_length}
use Rattle.mac_base.specs.ZoneMap.{ZoneMap, address_after, total_size}
use Rattle.mac_base.specs.ZoneState.{ZoneState}
use Rattle.linked_zone.specs.Fit.{HasSizes}
use Rattle.zone_index.specs.Marks.{PassesAt}
use Rattle.zone_index.proofs.Passing.{passes-only}

-- the report of a block
abbrev report : HandleTable → ℕ → Entry → Block
report t at e = record { address = at; entry = e; length = wanted_length t e.kind; flags = block_flags t e.kind }

-- that at an address, where the first block is at another
abbrev reported : HandleTable → ℕ → ℕ → ZoneMap → Option Block
reported t x at m = find (λ (b : Block). b.address == x) (reports_from t at m)

-- a block that is reported, among the others
pub record Shown (t : HandleTable) (x at : ℕ) (m : ZoneMap) (b : Block) : Type 0 where
  pub before : ZoneMap
  pub after : ZoneMap
  pub map : m ≡ before ++ b.entry ∷ after
  pub place : x ≡ at + total_size before
  pub flags : b.flags ≡ block_flags t (b.entry).kind

pub shown : (t : HandleTable) (x at : ℕ) (m : ZoneMap) (b : Block) → reported t x at m ≡ Some b → Shown t x at m b
shown t x at [] b h = absurd (cc h)
shown t x at (e ∷ es) b h = elim (at == x) as (λ c. (at == x) ≡ c → cond c (Some (report t at e)) (reported t x (at + e.size) es) ≡ Some b → Shown t x at (e ∷ es) b) [
  | true ↦ λ is h.
      let same : report t at e ≡ b = cc h in
      let here = eqb-true at x is in
      subst (Shown t x at (e ∷ es)) same (record { before = []; after = es; map = refl; place = omega arith; flags = refl })
  | false ↦ λ _ h.
      let rest = shown t x (at + e.size) es b h in
      let place = rest.place in
      record { before = e ∷ rest.before; after = rest.after; map = ap (λ m. e ∷ m) rest.map; place = omega arith; flags = rest.flags }
] refl h

-- where none is reported, there is none
pub none-shown : (t : HandleTable) (x at : ℕ) (before : ZoneMap) (e : Entry) (after : ZoneMap) → reported t x at (before ++ e ∷ after) ≡ None → x ≡ at + total_size before → ⊥
none-shown t x at [] e after h place =
    let here : (at == x) ≡ true = grind (arith, nat_tests) in
    let some : Some (report t at e) ≡ None = sym (ap (λ c. cond c (Some (report t at e)) (reported t x (at + e.size) after)) here) ∙ h in
    absurd (cc some)
none-shown t x at (f ∷ before) e after h place = elim (at == x) as (λ c. cond c (Some (report t at f)) (reported t x (at + f.size) (before ++ e ∷ after)) ≡ None → ⊥) [
  | true ↦ λ h. absurd (cc h)
  | false ↦ λ h. none-shown t x (at + f.size) before e after h (omega arith)
] h

module _ (z : ZoneState) (at : ℕ) where
  pub shown-there : (b : Block) → Some b ≡ report_at z.shape z.heap at → Shown z.heap.table at (address_after z.shape []) z.heap.map b
  shown-there b is = shown z.heap.table at (address_after z.shape []) z.heap.map b (sym is)

module _ (test : HandleTable → Kind → Bool) (z : ZoneState) (at : ℕ) where
  pub none_there : None ≡ report_at z.shape z.heap at → PassesAt test z at → ⊥
  none_there none f =
      let e = f.entry in
      let place = e.place in
      none-shown z.heap.table at (address_after z.shape []) e.before e.here e.after (ap (reported z.heap.table at (address_after z.shape [])) (sym e.map) ∙ sym none) (omega arith)

  -- a reported block is the one that is there
  pub passing-there : (b : Block) (answer : Bool) → HasSizes z → Some b ≡ report_at z.shape z.heap at → answer ≡ test z.heap.table (b.entry).kind → IsTrue answer ↔ PassesAt test z at
  passing-there b answer sizes is said =
      let s = shown-there z at b is in
      let p = test z.heap.table in
      let place = s.place in (
        (λ yes. record { entry = record { before = s.before; here = b.entry; after = s.after; map = s.map; place = omega arith }; passes = sym said ∙ yes }),
        (λ f. said ∙ passes-only test z sizes (record { before = s.before; here = b.entry; after = s.after; map = s.map; place = omega arith }) f),
      )
