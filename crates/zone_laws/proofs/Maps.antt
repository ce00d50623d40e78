-- The words on a map, where some of its blocks are put in place of others.
use Rattle.std.proofs.Common.{◌≡◌, ℕ, ◌+◌, Bool, true, false, ◌&&◌, cond, [], ◌∷◌, ◌++◌, ap, sym, ◌∙◌, arith}
use Rattle.std.specs.List.{list_all}
use Rattle.std.proofs.lemmas.List.Folds.{list_all-append}
use Rattle.std.proofs.lemmas.Bool.{and_parts, and_from}
use Rattle.mac_base.specs.declared.block.Entry.{Entry}
use Rattle.mac_base.specs.declared.block.Kind.{Kind}
use Rattle.mac_base.specs.ZoneMap.{ZoneMap, total_size, addresses_from}

-- the sizes of two parts add up
pub total_size-append : (xs ys : ZoneMap) → total_size (xs ++ ys) ≡ total_size xs + total_size ys
total_size-append [] ys = omega arith
total_size-append (e ∷ es) ys = let rest = total_size-append es ys in omega arith

-- what passes in two parts, the second after the first
pub addresses_from-append : (at : ℕ) (test : Kind → Bool) (xs ys : ZoneMap) → addresses_from at test (xs ++ ys) ≡ addresses_from at test xs ++ addresses_from (at + total_size xs) test ys
addresses_from-append at test [] ys = grind arith
addresses_from-append at test (e ∷ es) ys = grind (arith, addresses_from-append (at + e.size) test es ys)

-- a block that does not pass adds nothing
pub addresses_from-skip : (at : ℕ) (test : Kind → Bool) (e : Entry) (es : ZoneMap) → test e.kind ≡ false → addresses_from at test (e ∷ es) ≡ addresses_from (at + e.size) test es
addresses_from-skip at test e es h = ap (λ b. cond b (at ∷ []) [] ++ addresses_from (at + e.size) test es) h

-- what passes in a map in three parts
addresses_from-middle : (at : ℕ) (test : Kind → Bool) (before middle after : ZoneMap) → addresses_from at test (before ++ (middle ++ after))
    ≡ addresses_from at test before ++ (addresses_from (at + total_size before) test middle ++ addresses_from ((at + total_size before) + total_size middle) test after)
addresses_from-middle at test before middle after = addresses_from-append at test before (middle ++ after)
    ∙ ap (λ found. addresses_from at test before ++ found) (addresses_from-append (at + total_size before) test middle after)

-- the size of a map in three parts
total_size-middle : (before middle after : ZoneMap) → total_size (before ++ (middle ++ after)) ≡ total_size before + (total_size middle + total_size after)
total_size-middle before middle after = total_size-append before (middle ++ after) ∙ ap (λ n. total_size before + n) (total_size-append middle after)

-- what each block of a map in three parts passes
pub list_all-middle : (p : Entry → Bool) (before middle after : ZoneMap) → list_all p (before ++ (middle ++ after)) ≡ (list_all p before && (list_all p middle && list_all p after))
list_all-middle p before middle after = list_all-append p before (middle ++ after) ∙ ap (λ b. list_all p before && b) (list_all-append p middle after)

-- a map in which blocks are put in place of others of the same size in all: each part is named
pub record Exchanged (old new : ZoneMap) : Type 0 where
  pub before : ZoneMap
  pub left : ZoneMap
  pub right : ZoneMap
  pub after : ZoneMap
  pub was : old ≡ before ++ (left ++ after)
  pub is : new ≡ before ++ (right ++ after)
  pub as_large : total_size right ≡ total_size left

module _ (old new : ZoneMap) (x : Exchanged old new) where
  -- the exchange keeps the sum of the sizes
  pub total_size-exchanged : total_size new ≡ total_size old
  total_size-exchanged = ap total_size x.is ∙ total_size-middle x.before x.right x.after ∙ ap (λ n. total_size x.before + (n + total_size x.after)) x.as_large
      ∙ sym (ap total_size x.was ∙ total_size-middle x.before x.left x.after)

  -- what passes in the old map
  pub addresses_from-old : (at : ℕ) (test : Kind → Bool) → addresses_from at test old
      ≡ addresses_from at test x.before ++ (addresses_from (at + total_size x.before) test x.left ++ addresses_from ((at + total_size x.before) + total_size x.left) test x.after)
  addresses_from-old at test = ap (addresses_from at test) x.was ∙ addresses_from-middle at test x.before x.left x.after

  -- and in the new one
  pub addresses_from-new : (at : ℕ) (test : Kind → Bool) → addresses_from at test new
      ≡ addresses_from at test x.before ++ (addresses_from (at + total_size x.before) test x.right ++ addresses_from ((at + total_size x.before) + total_size x.left) test x.after)
  addresses_from-new at test = ap (addresses_from at test) x.is ∙ addresses_from-middle at test x.before x.right x.after
      ∙ ap (λ n. addresses_from at test x.before ++ (addresses_from (at + total_size x.before) test x.right ++ addresses_from ((at + total_size x.before) + n) test x.after)) x.as_large

  -- where as much passes in the new blocks, the same passes
  pub addresses_from-exchanged : (at : ℕ) (test : Kind → Bool) → addresses_from (at + total_size x.before) test x.right ≡ addresses_from (at + total_size x.before) test x.left
      → addresses_from at test new ≡ addresses_from at test old
  addresses_from-exchanged at test same = addresses_from-new at test
      ∙ ap (λ found. addresses_from at test x.before ++ (found ++ addresses_from ((at + total_size x.before) + total_size x.left) test x.after)) same ∙ sym (addresses_from-old at test)

  -- what each block passes, where the new ones pass it
  pub list_all-exchanged : (p : Entry → Bool) → list_all p x.right ≡ true → list_all p old ≡ true → list_all p new ≡ true
  list_all-exchanged p right h =
      let all = and_parts (list_all p x.before) (list_all p x.left && list_all p x.after) (sym (ap (list_all p) x.was ∙ list_all-middle p x.before x.left x.after) ∙ h) in
      let rest = and_parts (list_all p x.left) (list_all p x.after) all.1 in
      ap (list_all p) x.is ∙ list_all-middle p x.before x.right x.after ∙ and_from (list_all p x.before) _ all.0 (and_from (list_all p x.right) _ right rest.1)
