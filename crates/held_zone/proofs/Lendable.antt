-- Which blocks may be lent in the zone that bytes show.
use Rattle.std.proofs.Common.{◌≡◌, ◌∙◌, ℕ, ◌≤◌, ◌&&◌, ◌||◌, ◌==◌, not, Bool, true, false, cond, nat_lt, List, [], ◌∷◌, length, Some, None, refl, sym, ap}
use Rattle.std.specs.Prelude.{is_some}
use Rattle.std.specs.List.{list_all, list_any}
use Rattle.std.specs.Option.{option_or}
use Rattle.std.proofs.lemmas.Bool.{and_parts, eqb-true}
use Rattle.mac_base.specs.declared.block.Status.{Status}
use Rattle.mac_base.specs.declared.block.Status.TheVariants.{NotLive, Empty, Lent, Full}
use Rattle.mac_base.specs.declared.error.OsErr.TheVariants.{ParamErr, NilHandleErr, MemWzErr, MemLockedErr}
use Rattle.mac_base.specs.BlockStatus.{status_of}
use Rattle.mac_base.specs.HandleTable.{HandleTable, has_block, is_full, is_handle, is_lent, is_locked, is_pointer}
use Rattle.mac_base.specs.Loans.{most_loans}
use Rattle.mac_base.specs.ZoneMap.{is_named, sizes}
use Rattle.mac_base.specs.Sound.{Sound}
use Rattle.mac_base.specs.ZoneState.{ZoneState}
use Rattle.mac_base.specs.Tests.{NotEmpty, IsBlock, NotLent, MayBeLent, unless_passed}
use Rattle.zone_laws.proofs.SuitsNamed.{named_once}
use denote.Enum.Bare.{sameb}
use Rattle.linked_zone.specs.contracts.Agreement.{the_type as agreement_type}
use Rattle.linked_zone.specs.declared.Agreement.{Agreement}
use Rattle.linked_zone.specs.declared.Agreement.TheVariants.{Damaged, FlagsChanged, Same}
use Rattle.linked_zone.specs.Structure.{Agrees, HasStructure, SameFlags, shown}
use Rattle.linked_zone.proofs.Shown.{shown-full, shown-handle, shown-pointer}
use Rattle.zone_laws.proofs.Refusals.{first_passed, passed-NotEmpty}
use Rattle.held_zone.specs.Asleep.{CanBeLent, each_once, is_lendable}
use Rattle.held_zone.proofs.LentAgain.{lendable}

-- the tests of Lend where nothing is lent
by_tests : (nil live block fixed : Bool)
    → not (is_some (option_or (cond nil (Some NilHandleErr) (unless_passed MemWzErr live)) (option_or (unless_passed NilHandleErr block) (option_or (unless_passed MemLockedErr (not false)) (option_or (unless_passed ParamErr (fixed && nat_lt 0 8)) None)))))
    ≡ (not nil && (live && (block && fixed)))
by_tests true live block fixed = refl
by_tests false true true true = refl
by_tests false true true false = refl
by_tests false true false fixed = refl
by_tests false false block fixed = refl

module _ (z : ZoneState) (bytes : List ℕ) (x : ℕ) (none : z.heap.table.lent ≡ []) where
  abbrev table : HandleTable
  table = z.heap.table

  abbrev locked : Bool
  locked = is_locked (shown z bytes).heap.table x

  -- by what the zone knows, and the flags that the bytes say
  pub lendable-by : is_lendable (shown z bytes) x ≡ (not (x == 0) && ((is_handle z.heap.table x || is_pointer z.heap.table x) && ((is_full z.heap.table x || is_pointer z.heap.table x) && (is_pointer z.heap.table x || is_locked (shown z bytes).heap.table x))))
  lendable-by =
      (λ i. not (is_some (option_or (cond (x == 0) (Some NilHandleErr) (unless_passed MemWzErr (shown-handle z bytes x i || shown-pointer z bytes x i)))
      (option_or (unless_passed NilHandleErr (shown-full z bytes x i || shown-pointer z bytes x i))
      (option_or (unless_passed MemLockedErr (not (list_any (λ y. y == x) (none i))))
      (option_or (unless_passed ParamErr ((shown-pointer z bytes x i || locked) && nat_lt (length (none i)) most_loans)) None))))))
      ∙ by_tests (x == 0) (is_handle table x || is_pointer table x) (is_full table x || is_pointer table x) (is_pointer table x || locked)

  -- what isn't live, or is empty, or lent, may not be lent
  pub none-lendable : (s : Status) → s ≡ status_of z.heap.table x → (s ≡ Full → ⊥) → false ≡ is_lendable (shown z bytes) x
  none-lendable s is other = sym (lendable-by ∙ by_status (not (x == 0)) (is_handle table x || is_pointer table x) (is_full table x || is_pointer table x) (is_pointer table x || locked)
      (λ live block. other (is ∙ ap (λ b. cond b (cond (has_block table x) (cond (is_lent table x) Lent Full) Empty) NotLive) live ∙ ap (λ b. cond b (cond (is_lent table x) Lent Full) Empty) block ∙ ap (λ (xs : List ℕ). cond (list_any (λ y. y == x) xs) Lent Full) none)))
    where
      by_status : (nil live block fixed : Bool) → (live ≡ true → block ≡ true → ⊥) → (nil && (live && (block && fixed))) ≡ false
      by_status false live block fixed not_both = refl
      by_status true true true fixed not_both = absurd (not_both refl refl)
      by_status true true false fixed not_both = refl
      by_status true false block fixed not_both = refl

  -- what is live, has a block and isn't lent
  full-parts : Full ≡ status_of z.heap.table x → ((is_handle z.heap.table x || is_pointer z.heap.table x) ≡ true) × (has_block z.heap.table x ≡ true)
  full-parts full = by_case (is_handle table x || is_pointer table x) (has_block table x) (is_lent table x) full
    where
      by_case : (live block lent : Bool) → Full ≡ cond live (cond block (cond lent Lent Full) Empty) NotLive → (live ≡ true) × (block ≡ true)
      by_case true true lent is = (refl, refl)
      by_case true false lent is = absurd (cc is)
      by_case false block lent is = absurd (cc is)

  -- and the others, where they are pointers or locked
  pub full-lendable : (x == 0) ≡ false → Full ≡ status_of z.heap.table x → (is_pointer z.heap.table x || is_locked (shown z bytes).heap.table x) ≡ is_lendable (shown z bytes) x
  full-lendable some full =
      let parts = full-parts full in
      sym (lendable-by
      ∙ ap (λ b. not b && ((is_handle table x || is_pointer table x) && (has_block table x && (is_pointer table x || locked)))) some
      ∙ ap (λ b. b && (has_block table x && (is_pointer table x || locked))) parts.0
      ∙ ap (λ b. b && (is_pointer table x || locked)) parts.1)

-- blocks that may each be lent may all be
pub can-all : (z : ZoneState) (bytes : List ℕ) (xs : List ℕ) → Sound z.shape z.heap → list_all (is_lendable (shown z bytes)) xs ≡ true → each_once xs ≡ true → length xs ≤ most_loans → CanBeLent (shown z bytes) xs
can-all z bytes xs sound each once few = record {
  each = each;
  blocks = λ x is. one x (all-there xs x each is);
  once = once;
  few = few;
}
  where
    all-there : (xs : List ℕ) (x : ℕ) → list_all (is_lendable (shown z bytes)) xs ≡ true → list_any (λ y. y == x) xs ≡ true → is_lendable (shown z bytes) x ≡ true
    all-there [] x all is = absurd (cc is)
    all-there (y ∷ ys) x all is =
        let parts = and_parts (is_lendable (shown z bytes) y) (list_all (is_lendable (shown z bytes)) ys) all in
        by_test (y == x) refl is parts.0 (all-there ys x parts.1)
      where
        by_test : (b : Bool) → (y == x) ≡ b → (b || list_any (λ y. y == x) ys) ≡ true → is_lendable (shown z bytes) y ≡ true → (list_any (λ y. y == x) ys ≡ true → is_lendable (shown z bytes) x ≡ true) → is_lendable (shown z bytes) x ≡ true
        by_test true same is first rest = ap (is_lendable (shown z bytes)) (sym (eqb-true y x same)) ∙ first
        by_test false apart is first rest = rest is

    one : (x : ℕ) → is_lendable (shown z bytes) x ≡ true → length (sizes (is_named x) z.heap.map) ≡ 1
    one x is =
        let w = shown z bytes in
        let first = first_passed w.shape w.heap (IsBlock x) (NotEmpty x ∷ NotLent x ∷ MayBeLent x ∷ []) (lendable w x is) in
        let second = first_passed w.shape w.heap (NotEmpty x) (NotLent x ∷ MayBeLent x ∷ []) first.1 in
        let block = passed-NotEmpty w.shape w.heap x second.0 in
        named_once z.shape z.heap.table z.heap.map x sound.suits (sym (λ i. shown-full z bytes x i || shown-pointer z bytes x i) ∙ block)

-- bytes that agree with a zone in more than its damage have its structure
pub has-structure : (z : ZoneState) (bytes : List ℕ) (a : Agreement) → Agrees z bytes a → false ≡ sameb agreement_type a Damaged → HasStructure z bytes
has-structure z bytes Damaged agrees other = absurd (cc other)
has-structure z bytes FlagsChanged agrees other = agrees.0
has-structure z bytes Same agrees other = agrees.0

-- and its flags, where they agree in all
pub same-flags : (z : ZoneState) (bytes : List ℕ) (a : Agreement) → Agrees z bytes a → sameb agreement_type a Same ≡ true → HasStructure z bytes × SameFlags z bytes
same-flags z bytes Damaged agrees same = absurd (cc same)
same-flags z bytes FlagsChanged agrees same = absurd (cc same)
same-flags z bytes Same agrees same = agrees
