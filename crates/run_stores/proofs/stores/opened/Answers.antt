use Rattle.std.proofs.Common.{List, ℕ, [], ◌∷◌, ◌++◌, ◌+◌, Ok, Err, take, map, sym, ap, subst, ◌∙◌, refl, append_assoc, slice_index_or, Bor}
use Rattle.std.proofs.lemmas.List.{append-nil, map-append, take_all}
use Rattle.clap.specs.Words.{Text}
use Rattle.run_stores.specs.Claiming.{AreNamed, IsNamed}
use Rattle.host_paths.specs.declared.host.Found.{Found}
use Rattle.run_stores.specs.Refusing.{IsRefused}
use Rattle.run_stores.specs.Stores.{Asked, Opening}
use Rattle.run_stores.proofs.Refusing.{twice_once}
use Rattle.run_stores.proofs.Opening.{all_asked, asked_length, asked_more, cant_next, named_more, same_default, some_first}
use Rattle.run_stores.proofs.stores.opened.Goals as goal

abbrev now_of : Bor (List ℕ) → Text
now_of path = path.now

abbrev nowhere : Bor (List ℕ)
nowhere = record { ref_ptr = (0, 0); now = [] }

pub loop-path-init : goal.loop-path-init
loop-path-init g c = (
  [],
  sym (append-nil _),
  subst (λ (files : List g.row.F.Denot). Asked [] (map Ok files) []) (sym c.new-files.ensures.items) (record { paths_are = refl; files_are = refl }),
  subst (AreNamed g.O.Opens.asking c.args.naming [] []) (sym c.new-files.ensures.items) tt,
  c.new-known.ensures.items ∙ ap (map g.O.Opens.asking.id) (sym c.new-files.ensures.items),
  refl,
)

pub returns-in-Err-clause-files : goal.returns-in-Err-clause-files
returns-in-Err-clause-files g c =
    let paths = c.args.paths.now in
    let i = c.loop-path.invariant in
    let at = c.loop-path.path-index in
    let path = slice_index_or paths at nowhere in
    let refused : IsRefused c.args.naming (map g.O.Opens.asking.id c.loop-path.files.items) path.now c.in-Err.refusal.why c.in-Err.refusal.calls.events
    = subst (λ (ids : List Found). IsRefused c.args.naming ids path.now c.in-Err.refusal.why c.in-Err.refusal.calls.events) (c.as_slice.ensures.value ∙ i.4) c.in-Err.ensures.opens in
    let opening : Opening g.row.F.Denot = (path.now, Err c.in-Err.refusal) in (
      i.0 ++ opening ∷ [],
      c.in-Err.ensures.noted ∙ ap (λ (t : List (Opening g.row.F.Denot)). t ++ opening ∷ []) i.1 ∙ append_assoc _ i.0 (opening ∷ []),
      (cant_next [] paths now_of g.O.Opens.asking c.args.naming at path c.in-Err.refusal c.loop-path.files.items i.0 c.loop-path-test.true (same_default paths at nowhere path c.loop-path-test.true) i.2 i.3 refused, λ twice. twice_once _ _ _ _ _ refused twice),
    )

pub loop-path-preserved : goal.loop-path-preserved
loop-path-preserved g c =
    let paths = c.args.paths.now in
    let i = c.loop-path.invariant in
    let at = c.loop-path.path-index in
    let path = slice_index_or paths at nowhere in
    let file = c.in-Ok.file in
    let opening : Opening g.row.F.Denot = (path.now, Ok file) in
    let more = asked_more [] paths now_of at path c.loop-path.files.items file i.0 c.loop-path-test.true (same_default paths at nowhere path c.loop-path-test.true) i.2 in
    let is : IsNamed g.O.Opens.asking c.args.naming (map g.O.Opens.asking.id c.loop-path.files.items) path.now file
    = subst (λ (ids : List Found). IsNamed g.O.Opens.asking c.args.naming ids path.now file) (c.as_slice.ensures.value ∙ i.4) c.in-Ok.ensures.opens in
    let named = named_more g.O.Opens.asking c.args.naming [] [] paths now_of at path c.loop-path.files.items file c.loop-path-test.true (same_default paths at nowhere path c.loop-path-test.true) i.3 is in (
      i.0 ++ opening ∷ [],
      c.in-Ok.ensures.noted ∙ ap (λ (t : List (Opening g.row.F.Denot)). t ++ opening ∷ []) i.1 ∙ append_assoc _ i.0 (opening ∷ []),
      subst (λ (files : List g.row.F.Denot). Asked (map now_of (take (at + 1) paths)) (map Ok files) (i.0 ++ opening ∷ [])) (sym c.in-Ok-push_both.ensures.items) more,
      subst (AreNamed g.O.Opens.asking c.args.naming [] (map now_of (take (at + 1) paths))) (sym c.in-Ok-push_both.ensures.items) named,
      c.in-Ok-push_both.ensures.known ∙ ap (λ (ids : List Found). ids ++ c.id-id.result ∷ []) i.4 ∙ ap (λ (id : Found). map g.O.Opens.asking.id c.loop-path.files.items ++ id ∷ []) c.id-id.ensures
          ∙ sym (map-append g.O.Opens.asking.id c.loop-path.files.items (file ∷ [])) ∙ ap (map g.O.Opens.asking.id) (sym c.in-Ok-push_both.ensures.items),
      c.in-Ok.ensures.none_closed ∙ i.5,
    )

pub returns-in-Err-push_both-clause-files : goal.returns-in-Err-push_both-clause-files
returns-in-Err-push_both-clause-files g c =
    let paths = c.args.paths.now in
    let i = c.loop-path.invariant in
    let at = c.loop-path.path-index in
    let path = slice_index_or paths at nowhere in
    let file = c.in-Ok.file in
    let opening : Opening g.row.F.Denot = (path.now, Ok file) in
    let more = asked_more [] paths now_of at path c.loop-path.files.items file i.0 c.loop-path-test.true (same_default paths at nowhere path c.loop-path-test.true) i.2 in (
      i.0 ++ opening ∷ [],
      c.in-Ok.ensures.noted ∙ ap (λ (t : List (Opening g.row.F.Denot)). t ++ opening ∷ []) i.1 ∙ append_assoc _ i.0 (opening ∷ []),
      some_first [] paths now_of g.O.Opens.asking c.args.naming at path (c.loop-path.files.items ++ file ∷ []) (i.0 ++ opening ∷ []) c.loop-path-test.true (same_default paths at nowhere path c.loop-path-test.true) more
          (named_more g.O.Opens.asking c.args.naming [] [] paths now_of at path c.loop-path.files.items file c.loop-path-test.true (same_default paths at nowhere path c.loop-path-test.true) i.3
          (subst (λ (ids : List Found). IsNamed g.O.Opens.asking c.args.naming ids path.now file) (c.as_slice.ensures.value ∙ i.4) c.in-Ok.ensures.opens)),
    )

pub returns-clause-files : goal.returns-clause-files
returns-clause-files g c =
    let i = c.loop-path.invariant in
    (i.0, i.1, all_asked [] c.args.paths.now now_of c.loop-path.path-index c.loop-path.files.items i.0 c.loop-path-test.false i.2)

pub returns-clause-count : goal.returns-clause-count
returns-clause-count g c =
    let i = c.loop-path.invariant in
    asked_length c.args.paths.now now_of c.loop-path.files.items i.0 (all_asked [] c.args.paths.now now_of c.loop-path.path-index c.loop-path.files.items i.0 c.loop-path-test.false i.2)

pub returns-clause-named : goal.returns-clause-named
returns-clause-named g c =
    let i = c.loop-path.invariant in
    subst (λ (l : List (Bor (List ℕ))). AreNamed g.O.Opens.asking c.args.naming [] (map now_of l) c.loop-path.files.items) (take_all c.loop-path.path-index c.args.paths.now c.loop-path-test.false) i.3

pub returns-clause-known : goal.returns-clause-known
returns-clause-known g c = c.loop-path.invariant.4

pub returns-in-Err-clause-none_closed : goal.returns-in-Err-clause-none_closed
returns-in-Err-clause-none_closed g c = c.in-Err.ensures.none_closed ∙ c.loop-path.invariant.5

pub returns-in-Err-push_both-clause-none_closed : goal.returns-in-Err-push_both-clause-none_closed
returns-in-Err-push_both-clause-none_closed g c = c.in-Ok.ensures.none_closed ∙ c.loop-path.invariant.5

pub returns-clause-none_closed : goal.returns-clause-none_closed
returns-clause-none_closed g c = c.loop-path.invariant.5
