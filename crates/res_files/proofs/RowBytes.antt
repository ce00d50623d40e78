-- What is read of a row is what it has in its fork.
use Rattle.std.proofs.Common.{◌≡◌, refl, sym, ap, ◌∙◌, subst, arith, ℕ, ◌+◌, ◌-◌, ◌≤◌, List, [], length, take, drop, map, get_or, unwrap_or, Bool, Option, None, Some, Result, Ok, Err, IfSome, OnOk}
use Rattle.std.specs.Option.{option_map}
use Rattle.std.proofs.lemmas.List.{drop-drop, drop-take, take-take}
use Rattle.std.proofs.Math.Seq.{take-length}
use Rattle.std.proofs.lemmas.Option.{IfSome_then, slice_get-map, slice_get_read}
use Rattle.fork_bytes.specs.Fork.{bytes_at}
use Rattle.fork_bytes.specs.declared.place.Place.{Place}
use Rattle.res_table.specs.declared.row.Row.{Row}
use Rattle.res_table.specs.declared.chain.RowPlace.{RowPlace}
use Rattle.res_table.specs.OpenFiles.{OpenFiles, row_at}
use Rattle.res_update.specs.Changes.{FileRow}
use Rattle.res_update.specs.Placed.{bytes_on, row_on, IsInside}
use Rattle.res_update.proofs.PlaceBytes.{on-inside}
use Rattle.res_files.specs.FilesOn.{FilesOn}
use Rattle.res_files.specs.Standing.{fork_at, files_on, StandOn}
use Rattle.res_files.proofs.Mapped.{row-mapped}
use Rattle.res_files.proofs.Stands.{row_stands}
use Rattle.res_files.proofs.On.{seen, bytes_in, asked, row_seen, no_row_seen}

-- a part of a part
part_of_part : (n at long start : ℕ) (fork : List ℕ) → at + n ≤ long → bytes_at n (start + at) fork ≡ bytes_at n at (bytes_at long start fork)
part_of_part n at long start fork within =
    let rest = long - at in
    let whole : long ≡ at + rest = omega arith in
    sym (ap (λ (k : ℕ). take n (drop at (take k (drop start fork)))) whole ∙ ap (take n) (drop-take at rest (drop start fork))
    ∙ take-take n rest (drop at (drop start fork)) (omega arith) ∙ ap (take n) (drop-drop at start fork))

-- all of a row's bytes are a part of them
pub whole_within : (row : Option FileRow) (bytes : List ℕ) → IfSome row (λ r. length bytes ≡ length r.resource.datum) → IfSome row (λ r. 0 + length bytes ≤ length r.resource.datum)
whole_within None bytes long = long
whole_within (Some r) bytes long = omega arith

pub whole_read : {T E : Type 0} (result : Result T E) (row : Option FileRow) (before after : List ℕ) → IfSome row (λ r. length before ≡ length r.resource.datum)
    → OnOk result (IfSome row (λ r. after ≡ bytes_at (length before) 0 r.resource.datum)) → OnOk result (IfSome row (λ r. after ≡ r.resource.datum))
whole_read (Err e) row before after long read = read
whole_read (Ok x) None before after long read = read
whole_read (Ok x) (Some r) before after long read = read ∙ ap (λ (n : ℕ). take n r.resource.datum) long ∙ take-length r.resource.datum

module _ {S : Type 0} (fork : S → List ℕ) (is_ready is_honest : S → Type 0) (chain : OpenFiles Place) (loads : Bool) (stores : List S) (now : FilesOn S) (view_is : seen fork chain loads stores ≡ now)
    (stand : StandOn fork is_ready is_honest stores chain) (place : RowPlace) where
  -- any bytes are a part of no row's
  pub none_read : (at : ℕ) (before after : List ℕ) → row_at place chain ≡ None → IfSome (row_at place now.files) (λ shown. after ≡ bytes_at (length before) at shown.resource.datum)
  none_read at before after is = subst (λ (found : Option FileRow). IfSome found (λ shown. after ≡ bytes_at (length before) at shown.resource.datum)) (sym (no_row_seen fork chain loads stores now view_is place is)) tt

  -- a part within the bytes that are seen is within those that the place says
  pub within_read : (r : Row Place) (at n : ℕ) → row_at place chain ≡ Some r → IfSome (row_at place now.files) (λ shown. at + n ≤ length shown.resource.datum) → at + n ≤ r.resource.datum.length
  within_read r at n is within =
      let seen_as = row_seen fork chain loads stores now view_is place r is in
      let size = seen_as.2.size in
      let here = subst (λ (found : Option FileRow). IfSome found (λ shown. at + n ≤ length shown.resource.datum)) seen_as.1 within in
      omega arith

  -- the bytes at the row's place in its store are those that are seen
  all_read : (r : Row Place) (bytes : List ℕ) → row_at place chain ≡ Some r → (s : S) → s ≡ get_or stores (place.file - 1) s → IsInside (fork s) r.resource.datum → bytes ≡ bytes_at r.resource.datum.length r.resource.datum.offset (fork s)
      → IfSome (row_at place now.files) (λ shown. bytes ≡ shown.resource.datum)
  all_read r bytes is s read inside bytes_are =
      let stands = row_stands fork is_ready is_honest stores place chain r stand is in
      let here = slice_get_read stores (length stores) (place.file - 1) s refl (omega (arith, stands.0, stands.1)) read in
      let fork_is : fork_at (map fork stores) place.file ≡ fork s = ap (λ (o : Option (List ℕ)). unwrap_or o []) (slice_get-map fork stores (place.file - 1) ∙ ap (option_map fork) here) in
      let there : Some (row_on (fork_at (map fork stores) place.file) r) ≡ row_at place (files_on (map fork stores) chain) =
      sym (row-mapped (bytes_in (map fork stores)) place chain ∙ ap (option_map (row_on (fork_at (map fork stores) place.file))) is) in
      subst (λ (found : Option FileRow). IfSome found (λ shown. bytes ≡ shown.resource.datum)) (asked fork chain loads stores now view_is (row_at place) (Some (row_on (fork_at (map fork stores) place.file) r)) there)
      (bytes_are ∙ sym (on-inside (fork s) r.resource.datum inside) ∙ ap (λ (all : List ℕ). bytes_on all r.resource.datum) (sym fork_is))

  -- so is a part of them
  pub part_read : (r : Row Place) (at : ℕ) (before after : List ℕ) → row_at place chain ≡ Some r → (s : S) → s ≡ get_or stores (place.file - 1) s → IsInside (fork s) r.resource.datum → at + length before ≤ r.resource.datum.length
      → after ≡ bytes_at (length before) (r.resource.datum.offset + at) (fork s) → IfSome (row_at place now.files) (λ shown. after ≡ bytes_at (length before) at shown.resource.datum)
  part_read r at before after is s read inside within after_is =
      let start = r.resource.datum.offset in
      let long = r.resource.datum.length in
      IfSome_then (row_at place now.files) (all_read r (bytes_at long start (fork s)) is s read inside refl)
      (λ shown same. after_is ∙ part_of_part (length before) at long start (fork s) within ∙ ap (bytes_at (length before) at) same)
