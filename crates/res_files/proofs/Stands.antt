-- The files are on their stores: what follows of a row, and what keeps it.
use Rattle.std.proofs.Common.{◌≡◌, refl, sym, ap, ◌∙◌, subst, arith, ℕ, zero, suc, ◌-◌, ◌<◌, ◌≤◌, List, [], ◌∷◌, ◌++◌, length, map, set, slice_get, get_or, Bool, true, false, not, cond, Option, None, Some, find, remove, IfSome, IsTrue, All, take, drop, ◌||◌, if◌then◌else◌}
use Rattle.std.specs.Prelude.{◌==◌, ◌&&◌}
use Rattle.std.specs.List.{list_any, AllByRecursion}
use Rattle.std.specs.Option.{option_map, option_or, option_map_or, option_and_then}
use Rattle.std.proofs.lemmas.Bool.{eqb-true, eqb-false, eq-eqb, ne_eqb}
use Rattle.std.proofs.lemmas.List.Elements.{All-set, All-cons, All-nil, All-append, All-take, All-drop, All-head, All-tail}
use Rattle.std.proofs.lemmas.Option.{slice_get_within, slice_get_read, get_or_from_slice_get, same_Some}
use Rattle.fork_bytes.specs.Fork.{max_rows}
use Rattle.fork_bytes.specs.declared.place.Place.{Place}
use Rattle.res_table.specs.declared.row.Row.{Row}
use Rattle.res_table.specs.declared.chain.ResourceTable.{ResourceTable}
use Rattle.res_table.specs.declared.chain.OpenFile.{OpenFile}
use Rattle.res_table.specs.declared.chain.RowPlace.{RowPlace}
use Rattle.res_table.specs.Rows.{is_of_type, has_handle, added, changed_at, removed_at, forgotten, forgetting, with_handle}
use Rattle.res_table.specs.OpenFiles.{OpenFiles, is_numbered, is_open, table_in, table_of, row_at, with_rows, changed_file, rows_changed, without, last_number, is_current, file_closed, file_opened, file_used, file_forgotten, handle_forgotten}
use Rattle.res_update.specs.Placed.{AreInside, IsInside, IsNear, Holds}
use Rattle.res_files.specs.Standing.{AreSmall, StandsOn, AreApart, StandOn, placed_rows, placed_rows_of}
use Rattle.res_files.proofs.Grouped.{changed_grouped, removed_grouped, forgotten_grouped, added_grouped}

-- a change of rows after which they are where they were
pub record Keeps (change : List (Row Place) → List (Row Place)) : Type 0 where
  pub small : (rows : List (Row Place)) → AreSmall rows → AreSmall (change rows)
  pub inside : (fork : List ℕ) (rows : List (Row Place)) → AreInside fork rows → AreInside fork (change rows)

-- one row is changed and keeps its place
all_changed_at : (P : Row Place → Type 0) (at : ℕ) (change : Row Place → Row Place) (rows : List (Row Place)) → ((r : Row Place) → P r → P (change r)) → All P rows → All P (changed_at at change rows)
all_changed_at P at change rows step all = by (slice_get rows at) refl
  where
    by : (found : Option (Row Place)) → slice_get rows at ≡ found → All P (option_map_or (λ r. set rows at (change r)) found rows)
    by None is = all
    by (Some r) is = All-set P rows at (change r) (step r (subst P (get_or_from_slice_get rows at r r is) (all at r (slice_get_within rows at r is)))) all

long_changed_at : (at : ℕ) (change : Row Place → Row Place) (rows : List (Row Place)) → length (changed_at at change rows) ≡ length rows
long_changed_at at change rows = by (slice_get rows at)
  where
    as_long : (xs : List (Row Place)) (i : ℕ) (x : Row Place) → length (set xs i x) ≡ length xs
    as_long [] i x = refl
    as_long (y ∷ ys) zero x = refl
    as_long (y ∷ ys) (suc i) x = ap suc (as_long ys i x)

    by : (found : Option (Row Place)) → length (option_map_or (λ r. set rows at (change r)) found rows) ≡ length rows
    by None = refl
    by (Some r) = as_long rows at (change r)

pub keeps_changed_at : (at : ℕ) (change : Row Place → Row Place) → ((r : Row Place) → (change r).resource.datum ≡ r.resource.datum) → ((r : Row Place) → (change r).resource.kind ≡ r.resource.kind) → Keeps (changed_at at change)
keeps_changed_at at change same same_kind = record {
  small = λ rows small. record {
    few = subst (λ (n : ℕ). n ≤ max_rows) (sym (long_changed_at at change rows)) small.few;
    grouped = changed_grouped at change rows same_kind small.grouped;
    near = all_changed_at (λ r. IsNear r.resource.datum) at change rows (λ r near. subst IsNear (sym (same r)) near) small.near;
  };
  inside = λ fork rows inside. all_changed_at (λ r. IsInside fork r.resource.datum) at change rows (λ r in'. subst (IsInside fork) (sym (same r)) in') inside;
}

-- one row less
long_removed : (rows : List (Row Place)) (at : ℕ) → length (remove rows at) ≤ length rows
long_removed [] zero = omega arith
long_removed [] (suc at) = omega arith
long_removed (r ∷ rows) zero = omega arith
long_removed (r ∷ rows) (suc at) = let deeper = long_removed rows at in omega arith

pub keeps_removed : (at : ℕ) → Keeps (removed_at at)
keeps_removed at = record {
  small = λ rows small. record {
    few = let shorter = long_removed rows at in let few = small.few in omega arith;
    grouped = removed_grouped at rows small.grouped;
    near = All-append (λ r. IsNear r.resource.datum) (take at rows) (drop (suc at) rows) (All-take (λ r. IsNear r.resource.datum) at rows small.near) (All-drop (λ r. IsNear r.resource.datum) (suc at) rows small.near);
  };
  inside = λ fork rows inside. All-append (λ r. IsInside fork r.resource.datum) (take at rows) (drop (suc at) rows) (All-take (λ r. IsInside fork r.resource.datum) at rows inside) (All-drop (λ r. IsInside fork r.resource.datum) (suc at) rows inside);
}

-- a handle less
all_forgotten : (P : Row Place → Type 0) (h : ℕ) (rows : List (Row Place)) → ((r : Row Place) → P r → P (with_handle None r)) → All P rows → All P (forgotten h rows)
all_forgotten P h [] step all = All-nil P
all_forgotten P h (r ∷ rows) step all = All-cons P (forgetting h r) (forgotten h rows) (by (has_handle h r)) (all_forgotten P h rows step (All-tail P r rows all))
  where
    by : (b : Bool) → P (if b then with_handle None r else r)
    by true = step r (All-head P r rows all)
    by false = All-head P r rows all

long_forgotten : (h : ℕ) (rows : List (Row Place)) → length (forgotten h rows) ≡ length rows
long_forgotten h [] = refl
long_forgotten h (r ∷ rows) = ap suc (long_forgotten h rows)

pub keeps_forgotten : (h : ℕ) → Keeps (forgotten h)
keeps_forgotten h = record {
  small = λ rows small. record {
    few = subst (λ (n : ℕ). n ≤ max_rows) (sym (long_forgotten h rows)) small.few;
    grouped = forgotten_grouped h rows small.grouped;
    near = all_forgotten (λ r. IsNear r.resource.datum) h rows (λ r near. near) small.near;
  };
  inside = λ fork rows inside. all_forgotten (λ r. IsInside fork r.resource.datum) h rows (λ r in'. in') inside;
}

-- one row more
pub all_added : (P : Row Place → Type 0) (new : Row Place) (rows : List (Row Place)) → P new → All P rows → All P (added new rows)
all_added P new [] mine all = All-cons P new [] mine all
all_added P new (r ∷ rows) mine all = by (is_of_type new.resource.kind r) (not (list_any (is_of_type new.resource.kind) rows)) (all_added P new rows mine (All-tail P r rows all))
  where
    by : (here last : Bool) → All P (added new rows) → All P (if here && last then r ∷ new ∷ rows else r ∷ added new rows)
    by true true deeper = All-cons P r (new ∷ rows) (All-head P r rows all) (All-cons P new rows mine (All-tail P r rows all))
    by true false deeper = All-cons P r (added new rows) (All-head P r rows all) deeper
    by false last deeper = All-cons P r (added new rows) (All-head P r rows all) deeper

pub long_added : {D : Type 0} (new : Row D) (rows : List (Row D)) → length (added new rows) ≡ suc (length rows)
long_added new [] = refl
long_added {D} new (r ∷ rows) = by (is_of_type new.resource.kind r) (not (list_any (is_of_type new.resource.kind) rows)) (long_added new rows)
  where
    by : (here last : Bool) → length (added new rows) ≡ suc (length rows) → length (if here && last then r ∷ new ∷ rows else r ∷ added new rows) ≡ suc (suc (length rows))
    by true true deeper = refl
    by true false deeper = ap suc deeper
    by false last deeper = ap suc deeper

module _ {S : Type 0} (fork : S → List ℕ) (is_ready is_honest : S → Type 0) (stores : List S) where
  -- the file that is found
  found_stands : (k : ℕ) (files : List (OpenFile Place)) (f : OpenFile Place) → AllByRecursion (StandsOn fork is_ready is_honest stores) files → find (is_numbered k) files ≡ Some f
      → StandsOn fork is_ready is_honest stores f × (f.number ≡ k)
  found_stands k [] f each is = absurd (cc is)
  found_stands k (g ∷ files) f each is = by (is_numbered k g) refl is (λ e. found_stands k files f each.1 e)
    where
      by : (b : Bool) → is_numbered k g ≡ b → cond b (Some g) (find (is_numbered k) files) ≡ Some f
          → (find (is_numbered k) files ≡ Some f → StandsOn fork is_ready is_honest stores f × (f.number ≡ k)) → StandsOn fork is_ready is_honest stores f × (f.number ≡ k)
      by true same here deeper = let e = same_Some g f here in (subst (StandsOn fork is_ready is_honest stores) e each.0, ap (λ (file : OpenFile Place). file.number) (sym e) ∙ eqb-true g.number k same)
      by false same here deeper = deeper here

  -- where the table of a number is
  pub table_stands : (k : ℕ) (chain : OpenFiles Place) (table : ResourceTable Place) → StandOn fork is_ready is_honest stores chain → table_of k chain ≡ Some table
      → (1 ≤ k) × (k ≤ length stores) × AreSmall table.rows × IfSome (slice_get stores (k - 1)) (Holds fork is_ready is_honest table.rows)
  table_stands k chain table stand is = by (find (is_numbered k) chain.files) refl is
    where
      by : (found : Option (OpenFile Place)) → find (is_numbered k) chain.files ≡ found → option_map table_in found ≡ Some table
          → (1 ≤ k) × (k ≤ length stores) × AreSmall table.rows × IfSome (slice_get stores (k - 1)) (Holds fork is_ready is_honest table.rows)
      by None e here = absurd (cc here)
      by (Some f) e here =
          let stands = found_stands k chain.files f stand.each e in let same = same_Some f.table table here in
          let P : ℕ → ResourceTable Place → Type 0 = λ n t. (1 ≤ n) × (n ≤ length stores) × AreSmall t.rows × IfSome (slice_get stores (n - 1)) (Holds fork is_ready is_honest t.rows) in
          subst (λ (n : ℕ). P n table) stands.1 (subst (P f.number) same (stands.0.from_one, stands.0.to_count, stands.0.small, stands.0.held))

  -- the current file has not too many rows
  pub current_small : (chain : OpenFiles Place) → StandOn fork is_ready is_honest stores chain → length (placed_rows chain) ≤ max_rows
  current_small chain stand = by chain.current
    where
      with : (k : ℕ) (found : Option (ResourceTable Place)) → table_of k chain ≡ found → length (option_map_or (λ (table : ResourceTable Place). table.rows) found []) ≤ max_rows
      with k None e = omega arith
      with k (Some table) e = (table_stands k chain table stand e).2.few

      by : (current : Option ℕ) → length (option_map_or (λ k. placed_rows_of k chain) current []) ≤ max_rows
      by None = omega arith
      by (Some k) = with k (table_of k chain) refl

  -- each file with its rows changed so
  file_keeps : (change : List (Row Place) → List (Row Place)) → Keeps change → (f : OpenFile Place) → StandsOn fork is_ready is_honest stores f → StandsOn fork is_ready is_honest stores (with_rows change f)
  file_keeps change keeps f stands = record {
    from_one = stands.from_one;
    to_count = stands.to_count;
    small = keeps.small f.table.rows stands.small;
    held = by (slice_get stores (f.number - 1)) stands.held;
  }
    where
      by : (found : Option S) → IfSome found (Holds fork is_ready is_honest f.table.rows) → IfSome found (Holds fork is_ready is_honest (change f.table.rows))
      by None held = held
      by (Some s) held = λ honest. ((held honest).0, keeps.inside (fork s) f.table.rows (held honest).1)

  each_changed : (k : ℕ) (change : List (Row Place) → List (Row Place)) → Keeps change → (files : List (OpenFile Place)) → AllByRecursion (StandsOn fork is_ready is_honest stores) files
      → AllByRecursion (StandsOn fork is_ready is_honest stores) (changed_file k change files)
  each_changed k change keeps [] each = each
  each_changed k change keeps (f ∷ files) each = by (is_numbered k f) (each_changed k change keeps files each.1)
    where
      by : (b : Bool) → AllByRecursion (StandsOn fork is_ready is_honest stores) (changed_file k change files)
          → AllByRecursion (StandsOn fork is_ready is_honest stores) (if b then with_rows change f ∷ files else f ∷ changed_file k change files)
      by true deeper = (file_keeps change keeps f each.0, each.1)
      by false deeper = (each.0, deeper)

-- the same numbers are open
pub any_changed : (n k : ℕ) (change : List (Row Place) → List (Row Place)) (files : List (OpenFile Place)) → list_any (is_numbered n) (changed_file k change files) ≡ list_any (is_numbered n) files
any_changed n k change [] = refl
any_changed n k change (f ∷ files) = by (is_numbered k f) (any_changed n k change files)
  where
    by : (b : Bool) → list_any (is_numbered n) (changed_file k change files) ≡ list_any (is_numbered n) files
        → list_any (is_numbered n) (if b then with_rows change f ∷ files else f ∷ changed_file k change files) ≡ (is_numbered n f || list_any (is_numbered n) files)
    by true deeper = refl
    by false deeper = ap (λ b. is_numbered n f || b) deeper

pub apart_changed : (k : ℕ) (change : List (Row Place) → List (Row Place)) (files : List (OpenFile Place)) → AreApart files → AreApart (changed_file k change files)
apart_changed k change [] apart = apart
apart_changed k change (f ∷ files) apart = by (is_numbered k f) (apart_changed k change files apart.1)
  where
    by : (b : Bool) → AreApart (changed_file k change files) → AreApart (if b then with_rows change f ∷ files else f ∷ changed_file k change files)
    by true deeper = apart
    by false deeper = (any_changed f.number k change files ∙ apart.0, deeper)

-- the whole, once the rows of a file are changed so
pub stand_changed : {S : Type 0} (fork : S → List ℕ) (is_ready is_honest : S → Type 0) (stores : List S) (k : ℕ) (change : List (Row Place) → List (Row Place)) (chain : OpenFiles Place) → Keeps change
    → StandOn fork is_ready is_honest stores chain → StandOn fork is_ready is_honest stores (rows_changed k change chain)
stand_changed fork is_ready is_honest stores k change chain keeps stand = record {
  few = stand.few;
  each = each_changed fork is_ready is_honest stores k change keeps chain.files stand.each;
  apart = apart_changed k change chain.files stand.apart;
  current = by chain.current stand.current;
}
  where
    by : (current : Option ℕ) → IfSome current (λ n. IsTrue (is_open n chain)) → IfSome current (λ n. IsTrue (is_open n (rows_changed k change chain)))
    by None open_now = open_now
    by (Some n) open_now = subst IsTrue (sym (any_changed n k change chain.files)) open_now

-- and once a row is, whose datum and type stay
pub stand_row_changed : {S : Type 0} (fork : S → List ℕ) (is_ready is_honest : S → Type 0) (stores : List S) (k at : ℕ) (change : Row Place → Row Place) (chain new : OpenFiles Place) → new ≡ rows_changed k (changed_at at change) chain
    → ((r : Row Place) → (change r).resource.datum ≡ r.resource.datum) → ((r : Row Place) → (change r).resource.kind ≡ r.resource.kind) → StandOn fork is_ready is_honest stores chain → StandOn fork is_ready is_honest stores new
stand_row_changed fork is_ready is_honest stores k at change chain new is same same_kind stand =
    subst (StandOn fork is_ready is_honest stores) (sym is) (stand_changed fork is_ready is_honest stores k (changed_at at change) chain (keeps_changed_at at change same same_kind) stand)

-- with another current file
pub stand_used : {S : Type 0} (fork : S → List ℕ) (is_ready is_honest : S → Type 0) (stores : List S) (k : ℕ) (chain : OpenFiles Place) → IsTrue (is_open k chain)
    → StandOn fork is_ready is_honest stores chain → StandOn fork is_ready is_honest stores (file_used k chain)
stand_used fork is_ready is_honest stores k chain open_now stand = record { few = stand.few; each = stand.each; apart = stand.apart; current = open_now }

-- a handle is forgotten in each file
module _ {S : Type 0} (fork : S → List ℕ) (is_ready is_honest : S → Type 0) (stores : List S) where
  each_forgotten : (h : ℕ) (files : List (OpenFile Place)) → AllByRecursion (StandsOn fork is_ready is_honest stores) files
      → AllByRecursion (StandsOn fork is_ready is_honest stores) (map (file_forgotten h) files)
  each_forgotten h [] each = each
  each_forgotten h (f ∷ files) each = (file_keeps fork is_ready is_honest stores (forgotten h) (keeps_forgotten h) f each.0, each_forgotten h files each.1)

  -- a file less
  each_without : (k : ℕ) (files : List (OpenFile Place)) → AllByRecursion (StandsOn fork is_ready is_honest stores) files → AllByRecursion (StandsOn fork is_ready is_honest stores) (without k files)
  each_without k [] each = each
  each_without k (f ∷ files) each = by (is_numbered k f) (each_without k files each.1)
    where
      by : (b : Bool) → AllByRecursion (StandsOn fork is_ready is_honest stores) (without k files)
          → AllByRecursion (StandsOn fork is_ready is_honest stores) (if b then files else f ∷ without k files)
      by true deeper = each.1
      by false deeper = (each.0, deeper)

  -- a file more
  each_more : (files : List (OpenFile Place)) (f : OpenFile Place) → AllByRecursion (StandsOn fork is_ready is_honest stores) files → StandsOn fork is_ready is_honest stores f
      → AllByRecursion (StandsOn fork is_ready is_honest stores) (files ++ f ∷ [])
  each_more [] f each stands = (stands, tt)
  each_more (g ∷ files) f each stands = (each.0, each_more files f each.1 stands)

any_forgotten : (n h : ℕ) (files : List (OpenFile Place)) → list_any (is_numbered n) (map (file_forgotten h) files) ≡ list_any (is_numbered n) files
any_forgotten n h [] = refl
any_forgotten n h (f ∷ files) = ap (λ b. is_numbered n f || b) (any_forgotten n h files)

apart_forgotten : (h : ℕ) (files : List (OpenFile Place)) → AreApart files → AreApart (map (file_forgotten h) files)
apart_forgotten h [] apart = apart
apart_forgotten h (f ∷ files) apart = (any_forgotten f.number h files ∙ apart.0, apart_forgotten h files apart.1)

pub stand_forgotten : {S : Type 0} (fork : S → List ℕ) (is_ready is_honest : S → Type 0) (stores : List S) (h : ℕ) (chain : OpenFiles Place)
    → StandOn fork is_ready is_honest stores chain → StandOn fork is_ready is_honest stores (handle_forgotten h chain)
stand_forgotten fork is_ready is_honest stores h chain stand = record {
  few = stand.few;
  each = each_forgotten fork is_ready is_honest stores h chain.files stand.each;
  apart = apart_forgotten h chain.files stand.apart;
  current = by chain.current stand.current;
}
  where
    by : (current : Option ℕ) → IfSome current (λ n. IsTrue (is_open n chain)) → IfSome current (λ n. IsTrue (is_open n (handle_forgotten h chain)))
    by None open_now = open_now
    by (Some n) open_now = subst IsTrue (sym (any_forgotten n h chain.files)) open_now

-- a number that isn't open in files isn't open in fewer
none_without : (n k : ℕ) (files : List (OpenFile Place)) → list_any (is_numbered n) files ≡ false → list_any (is_numbered n) (without k files) ≡ false
none_without n k [] none = none
none_without n k (f ∷ files) none = by (is_numbered k f) (is_numbered n f) refl none (none_without n k files)
  where
    by : (b c : Bool) → is_numbered n f ≡ c → (c || list_any (is_numbered n) files) ≡ false → (list_any (is_numbered n) files ≡ false → list_any (is_numbered n) (without k files) ≡ false)
        → list_any (is_numbered n) (if b then files else f ∷ without k files) ≡ false
    by b true same is deeper = absurd (cc is)
    by true false same is deeper = is
    by false false same is deeper = ap (λ c. c || list_any (is_numbered n) (without k files)) same ∙ deeper is

apart_without : (k : ℕ) (files : List (OpenFile Place)) → AreApart files → AreApart (without k files)
apart_without k [] apart = apart
apart_without k (f ∷ files) apart = by (is_numbered k f) (apart_without k files apart.1)
  where
    by : (b : Bool) → AreApart (without k files) → AreApart (if b then files else f ∷ without k files)
    by true deeper = apart.1
    by false deeper = (none_without f.number k files apart.0, deeper)

-- another number stays open
still_open : (n k : ℕ) (files : List (OpenFile Place)) → (n ≡ k → ⊥) → list_any (is_numbered n) files ≡ true → list_any (is_numbered n) (without k files) ≡ true
still_open n k [] other some = some
still_open n k (f ∷ files) other some = by (is_numbered k f) (is_numbered n f) refl refl some (still_open n k files other)
  where
    by : (b c : Bool) → is_numbered k f ≡ b → is_numbered n f ≡ c → (c || list_any (is_numbered n) files) ≡ true → (list_any (is_numbered n) files ≡ true → list_any (is_numbered n) (without k files) ≡ true)
        → list_any (is_numbered n) (if b then files else f ∷ without k files) ≡ true
    by true true mine same is deeper = absurd (other (sym (eqb-true f.number n same) ∙ eqb-true f.number k mine))
    by true false mine same is deeper = is
    by false true mine same is deeper = ap (λ c. c || list_any (is_numbered n) (without k files)) same
    by false false mine same is deeper = ap (λ c. c || list_any (is_numbered n) (without k files)) same ∙ deeper is

-- the latest of some files is one of them
last_open : (files : List (OpenFile Place)) → IfSome (last_number files) (λ n. list_any (is_numbered n) files ≡ true)
last_open [] = tt
last_open (f ∷ files) = by (last_number files) (last_open files)
  where
    or_true : (c : Bool) → (c || true) ≡ true
    or_true true = refl
    or_true false = refl

    by : (last : Option ℕ) → IfSome last (λ n. list_any (is_numbered n) files ≡ true) → IfSome (option_or last (Some f.number)) (λ n. list_any (is_numbered n) (f ∷ files) ≡ true)
    by None some = ap (λ c. c || list_any (is_numbered f.number) files) (eq-eqb f.number f.number refl)
    by (Some n) some = ap (λ c. is_numbered n f || c) some ∙ or_true (is_numbered n f)

-- a file is closed
pub stand_closed : {S : Type 0} (fork : S → List ℕ) (is_ready is_honest : S → Type 0) (stores : List S) (k : ℕ) (chain : OpenFiles Place)
    → StandOn fork is_ready is_honest stores chain → StandOn fork is_ready is_honest stores (file_closed k chain)
stand_closed {S} fork is_ready is_honest stores k chain stand = whole (is_open k chain)
  where
    left : List (OpenFile Place)
    left = without k chain.files

    still : (current : Option ℕ) → option_map_or (λ at. at == k) current false ≡ false → IfSome current (λ n. IsTrue (is_open n chain)) → IfSome current (λ n. IsTrue (list_any (is_numbered n) left))
    still None other open_now = open_now
    still (Some n) other open_now = still_open n k chain.files (eqb-false n k other) open_now

    now : (b : Bool) → is_current k chain ≡ b → IfSome (if b then last_number left else chain.current) (λ n. IsTrue (list_any (is_numbered n) left))
    now true mine = last_open left
    now false other = still chain.current other stand.current

    whole : (b : Bool) → StandOn fork is_ready is_honest stores (if b then record { files = left; current = if is_current k chain then last_number left else chain.current } else chain)
    whole true = record {
      few = stand.few;
      each = each_without fork is_ready is_honest stores k chain.files stand.each;
      apart = apart_without k chain.files stand.apart;
      current = now (is_current k chain) refl;
    }
    whole false = stand

-- a file more
or_false : (a b : Bool) → (a || b) ≡ false → (a ≡ false) × (b ≡ false)
or_false true b is = absurd (cc is)
or_false false b is = (refl, is)

none_more : (n : ℕ) (files : List (OpenFile Place)) (f : OpenFile Place) → list_any (is_numbered n) files ≡ false → is_numbered n f ≡ false → list_any (is_numbered n) (files ++ f ∷ []) ≡ false
none_more n [] f none other = ap (λ b. b || false) other
none_more n (g ∷ files) f none other =
    let both = or_false (is_numbered n g) (list_any (is_numbered n) files) none in ap (λ b. b || list_any (is_numbered n) (files ++ f ∷ [])) both.0 ∙ none_more n files f both.1 other

apart_more : (files : List (OpenFile Place)) (f : OpenFile Place) → AreApart files → list_any (is_numbered f.number) files ≡ false → AreApart (files ++ f ∷ [])
apart_more [] f apart other = (refl, tt)
apart_more (g ∷ files) f apart other =
    let both = or_false (is_numbered f.number g) (list_any (is_numbered f.number) files) other in
    (none_more g.number files f apart.0 (ne_eqb f.number g.number (λ same. eqb-false g.number f.number both.0 (sym same))), apart_more files f apart.1 both.1)

open_more : (files : List (OpenFile Place)) (f : OpenFile Place) → list_any (is_numbered f.number) (files ++ f ∷ []) ≡ true
open_more [] f = ap (λ b. b || false) (eq-eqb f.number f.number refl)
open_more (g ∷ files) f = ap (λ b. is_numbered f.number g || b) (open_more files f) ∙ or_true (is_numbered f.number g)
  where
    or_true : (c : Bool) → (c || true) ≡ true
    or_true true = refl
    or_true false = refl

pub stand_opened : {S : Type 0} (fork : S → List ℕ) (is_ready is_honest : S → Type 0) (stores : List S) (k : ℕ) (table : ResourceTable Place) (chain : OpenFiles Place)
    → is_open k chain ≡ false → (1 ≤ k) → (k ≤ length stores) → AreSmall table.rows → IfSome (slice_get stores (k - 1)) (Holds fork is_ready is_honest table.rows)
    → StandOn fork is_ready is_honest stores chain → StandOn fork is_ready is_honest stores (file_opened k table chain)
stand_opened fork is_ready is_honest stores k table chain closed low high small held stand =
    let file : OpenFile Place = record { number = k; table = table } in
    record {
      few = stand.few;
      each = each_more fork is_ready is_honest stores chain.files file stand.each (record { from_one = low; to_count = high; small = small; held = held });
      apart = apart_more chain.files file stand.apart closed;
      current = open_more chain.files file;
    }

-- a file with one row more
module _ {S : Type 0} (fork : S → List ℕ) (is_ready is_honest : S → Type 0) (stores : List S) (k : ℕ) (new : Row Place) (near : IsNear new.resource.datum) (inside : (bytes : List ℕ) → IsInside bytes new.resource.datum) where
  file_added : (f : OpenFile Place) → length f.table.rows < max_rows → StandsOn fork is_ready is_honest stores f → StandsOn fork is_ready is_honest stores (with_rows (added new) f)
  file_added f room stands = record {
    from_one = stands.from_one;
    to_count = stands.to_count;
    small = record {
      few = subst (λ (n : ℕ). n ≤ max_rows) (sym (long_added new f.table.rows)) (omega (arith, room));
      grouped = added_grouped new f.table.rows stands.small.grouped;
      near = all_added (λ r. IsNear r.resource.datum) new f.table.rows near stands.small.near;
    };
    held = by (slice_get stores (f.number - 1)) stands.held;
  }
    where
      by : (found : Option S) → IfSome found (Holds fork is_ready is_honest f.table.rows) → IfSome found (Holds fork is_ready is_honest (added new f.table.rows))
      by None held = held
      by (Some s) held = λ honest. ((held honest).0, all_added (λ r. IsInside (fork s) r.resource.datum) new f.table.rows (inside (fork s)) (held honest).1)

  each_added : (files : List (OpenFile Place)) → length (option_map_or (λ (table : ResourceTable Place). table.rows) (option_map table_in (find (is_numbered k) files)) []) < max_rows
      → AllByRecursion (StandsOn fork is_ready is_honest stores) files → AllByRecursion (StandsOn fork is_ready is_honest stores) (changed_file k (added new) files)
  each_added [] room each = each
  each_added (f ∷ files) room each = by (is_numbered k f) room (λ less. each_added files less each.1)
    where
      by : (b : Bool) → length (option_map_or (λ (table : ResourceTable Place). table.rows) (option_map table_in (cond b (Some f) (find (is_numbered k) files))) []) < max_rows
          → (length (option_map_or (λ (table : ResourceTable Place). table.rows) (option_map table_in (find (is_numbered k) files)) []) < max_rows
          → AllByRecursion (StandsOn fork is_ready is_honest stores) (changed_file k (added new) files))
          → AllByRecursion (StandsOn fork is_ready is_honest stores) (if b then with_rows (added new) f ∷ files else f ∷ changed_file k (added new) files)
      by true less deeper = (file_added f less each.0, each.1)
      by false less deeper = (each.0, deeper less)

  pub stand_added : (chain : OpenFiles Place) → length (placed_rows_of k chain) < max_rows → StandOn fork is_ready is_honest stores chain
      → StandOn fork is_ready is_honest stores (rows_changed k (added new) chain)
  stand_added chain room stand = record {
    few = stand.few;
    each = each_added chain.files room stand.each;
    apart = apart_changed k (added new) chain.files stand.apart;
    current = by chain.current stand.current;
  }
    where
      by : (current : Option ℕ) → IfSome current (λ n. IsTrue (is_open n chain)) → IfSome current (λ n. IsTrue (is_open n (rows_changed k (added new) chain)))
      by None open_now = open_now
      by (Some n) open_now = subst IsTrue (sym (any_changed n k (added new) chain.files)) open_now

module _ {S : Type 0} (fork : S → List ℕ) (is_ready is_honest : S → Type 0) (stores : List S) where
  -- where a row is on its store
  pub row_stands : (place : RowPlace) (chain : OpenFiles Place) (r : Row Place) → StandOn fork is_ready is_honest stores chain → row_at place chain ≡ Some r
      → (1 ≤ place.file) × (place.file ≤ length stores) × IfSome (slice_get stores (place.file - 1)) (λ s. is_honest s → is_ready s × IsInside (fork s) r.resource.datum)
  row_stands place chain r stand is = by (table_of place.file chain) refl is
    where
      at_row : (table : ResourceTable Place) (bytes : List ℕ) → slice_get table.rows place.index ≡ Some r → AreInside bytes table.rows → IsInside bytes r.resource.datum
      at_row table bytes here inside =
          let P : Row Place → Type 0 = λ x. IsInside bytes x.resource.datum in
          subst P (get_or_from_slice_get table.rows place.index r r here) (inside place.index r (slice_get_within table.rows place.index r here))

      on_store : (table : ResourceTable Place) → slice_get table.rows place.index ≡ Some r → (found : Option S) → IfSome found (Holds fork is_ready is_honest table.rows)
          → IfSome found (λ s. is_honest s → is_ready s × IsInside (fork s) r.resource.datum)
      on_store table here None held = held
      on_store table here (Some s) held = λ honest. ((held honest).0, at_row table (fork s) here (held honest).1)

      by : (found : Option (ResourceTable Place)) → table_of place.file chain ≡ found → option_and_then (λ (table : ResourceTable Place). slice_get table.rows place.index) found ≡ Some r
          → (1 ≤ place.file) × (place.file ≤ length stores) × IfSome (slice_get stores (place.file - 1)) (λ s. is_honest s → is_ready s × IsInside (fork s) r.resource.datum)
      by None e here = absurd (cc here)
      by (Some table) e here =
          let stands = table_stands fork is_ready is_honest stores place.file chain table stand e in (stands.0, stands.1, on_store table here (slice_get stores (place.file - 1)) stands.3)

  -- that store itself
  pub store_stands : (place : RowPlace) (chain : OpenFiles Place) (r : Row Place) → StandOn fork is_ready is_honest stores chain → row_at place chain ≡ Some r
      → (s : S) → s ≡ get_or stores (place.file - 1) s → is_honest s → is_ready s × IsInside (fork s) r.resource.datum
  store_stands place chain r stand is s read =
      let stands = row_stands place chain r stand is in
      let here = slice_get_read stores (length stores) (place.file - 1) s refl (omega (arith, stands.0, stands.1)) read in
      subst (λ (found : Option S). IfSome found (λ t. is_honest t → is_ready t × IsInside (fork t) r.resource.datum)) here stands.2
