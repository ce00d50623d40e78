use Rattle.std.proofs.Common.{◌≡◌, ◌++◌, ◌∷◌, ◌<◌, ◌+◌, [], List, ℕ, Ok, Err, take, map, length, refl, sym, ap, subst, ◌∙◌, append_assoc, length-append, arith, slice_index_or, Bor}
use Rattle.std.specs.Vec.Iter.{into_iter_items}
use Rattle.std.proofs.lemmas.List.{append-nil, map-append}
use Rattle.clap.specs.Words.{Text}
use Rattle.run_stores.specs.Claiming.{AreNamed, IsNamed}
use Rattle.host_paths.specs.declared.host.Found.{Found}
use Rattle.run_stores.specs.declared.claimed.Naming.TheVariants.{Once}
use Rattle.run_stores.specs.Refusing.{IsRefused}
use Rattle.run_stores.specs.Stores.{Asked, Opening}
use Rattle.run_stores.proofs.Refusing.{twice_once}
use Rattle.run_stores.proofs.Opening.{asked_more, asked_none, cant_next, fault_widen, fewer, named_more, named_none, no_journals, same_default, some_first}
use Rattle.run_stores.proofs.stores.opened_pairs.Goals as goal

abbrev now_of : Bor (List ℕ) → Text
now_of path = path.now

abbrev nowhere : Bor (List ℕ)
nowhere = record { ref_ptr = (0, 0); now = [] }

abbrev fork_of : {F : Type 0} → F × F → F
fork_of pair = pair.0

abbrev journal_of : {F : Type 0} → F × F → F
journal_of pair = pair.1

pub returns-in-Err-clause-pairs : goal.returns-in-Err-clause-pairs
returns-in-Err-clause-pairs g c =
    let opened = c.in-Err.ensures.files in
    (opened.0, opened.1, fault_widen g.O.Opens.asking Once (map now_of c.args.paths.now) (map now_of c.args.journals.now) opened.0 c.in-Err.fault (no_journals now_of c.args.paths.now c.args.journals.now c.requires) opened.2)

pub loop-fork-init : goal.loop-fork-init
loop-fork-init g c =
    let given = c.into_iter-fork-iterator.ensures.into_iter_gives in
    let opened = c.in-Ok.ensures.files in
    let items = into_iter_items c.into_iter-fork-iterator.result in
    let before = map now_of c.args.paths.now in
    let names = c.args.journals.now in
    let none = sym c.new-pairs.ensures.items in
    let asked : Asked before (map Ok items) opened.0 = subst (λ (files : List g.row.F.Denot). Asked before (map Ok files) opened.0) (sym given.0) opened.2 in
    let named : AreNamed g.O.Opens.asking Once [] before items
    = subst (AreNamed g.O.Opens.asking Once [] before) (sym given.0) c.in-Ok.ensures.named in (
      opened.0,
      opened.1,
      subst (λ (ps : List (g.row.F.Denot × g.row.F.Denot)). Asked (before ++ map now_of (take 0 names)) (map Ok (items ++ map journal_of ps)) opened.0) none (asked_none before names now_of items opened.0 asked),
      refl,
      ap (map fork_of) (sym none),
      ap length (sym none),
      given.1 ∙ c.in-Ok.opened.files.ok.0 ∙ ap length (sym given.0),
      subst (λ (ps : List (g.row.F.Denot × g.row.F.Denot)). AreNamed g.O.Opens.asking Once [] (before ++ map now_of (take 0 names)) (items ++ map journal_of ps)) none
          (named_none g.O.Opens.asking Once before names now_of items named),
      c.in-Ok.ensures.known ∙ ap (map g.O.Opens.asking.id) (sym given.0 ∙ sym (append-nil items) ∙ ap (λ (ps : List (g.row.F.Denot × g.row.F.Denot)). items ++ map journal_of ps) none),
      c.in-Ok.ensures.none_closed,
    )

pub returns-in-Err-open-clause-pairs : goal.returns-in-Err-open-clause-pairs
returns-in-Err-open-clause-pairs g c =
    let now = c.loop-fork in
    let i = now.invariant in
    let names = c.args.journals.now in
    let at = length now.yielded in
    let items = into_iter_items c.into_iter-fork-iterator.result in
    let here : c.len.result ≡ at = c.len.ensures ∙ now.pairs.ok.0 ∙ i.5 in
    let path = slice_index_or names c.len.result nowhere in
    let all : at < length items = fewer now.yielded _ _ _ c.in-Some.fork i.3 c.in-Some.ensures.steps.0 in
    let count : length items ≡ length names = ap length c.into_iter-fork-iterator.ensures.into_iter_gives.0 ∙ c.in-Ok.ensures.count ∙ sym c.requires in
    let lt : at < length names = omega (arith, all, count) in
    let is : path ≡ slice_index_or names at path = ap (λ (n : ℕ). slice_index_or names n nowhere) here ∙ same_default names at nowhere path lt in
    let files = items ++ map journal_of now.pairs.items in
    let refused : IsRefused Once (map g.O.Opens.asking.id files) path.now c.in-Err-open.refusal.why c.in-Err-open.refusal.calls.events
    = subst (λ (ids : List Found). IsRefused Once ids path.now c.in-Err-open.refusal.why c.in-Err-open.refusal.calls.events) (c.as_slice.ensures.value ∙ i.8) c.in-Err-open.ensures.opens in
    let opening : Opening g.row.F.Denot = (path.now, Err c.in-Err-open.refusal) in (
      i.0 ++ opening ∷ [],
      c.in-Err-open.ensures.noted ∙ ap (λ (t : List (Opening g.row.F.Denot)). t ++ opening ∷ []) i.1 ∙ append_assoc _ i.0 (opening ∷ []),
      (cant_next (map now_of c.args.paths.now) names now_of g.O.Opens.asking Once at path c.in-Err-open.refusal files i.0 lt is i.2 i.7 refused, λ twice. twice_once _ _ _ _ _ refused twice),
    )

pub returns-in-Err-push_both-clause-pairs : goal.returns-in-Err-push_both-clause-pairs
returns-in-Err-push_both-clause-pairs g c =
    let now = c.loop-fork in
    let i = now.invariant in
    let before = map now_of c.args.paths.now in
    let names = c.args.journals.now in
    let at = length now.yielded in
    let items = into_iter_items c.into_iter-fork-iterator.result in
    let here : c.len.result ≡ at = c.len.ensures ∙ now.pairs.ok.0 ∙ i.5 in
    let path = slice_index_or names c.len.result nowhere in
    let all : at < length items = fewer now.yielded _ _ _ c.in-Some.fork i.3 c.in-Some.ensures.steps.0 in
    let count : length items ≡ length names = ap length c.into_iter-fork-iterator.ensures.into_iter_gives.0 ∙ c.in-Ok.ensures.count ∙ sym c.requires in
    let lt : at < length names = omega (arith, all, count) in
    let is : path ≡ slice_index_or names at path = ap (λ (n : ℕ). slice_index_or names n nowhere) here ∙ same_default names at nowhere path lt in
    let journal = c.in-Ok-open.journal in
    let files = items ++ map journal_of now.pairs.items in
    let opening : Opening g.row.F.Denot = (path.now, Ok journal) in
    let more = asked_more before names now_of at path files journal i.0 lt is i.2 in (
      i.0 ++ opening ∷ [],
      c.in-Ok-open.ensures.noted ∙ ap (λ (t : List (Opening g.row.F.Denot)). t ++ opening ∷ []) i.1 ∙ append_assoc _ i.0 (opening ∷ []),
      some_first before names now_of g.O.Opens.asking Once at path (files ++ journal ∷ []) (i.0 ++ opening ∷ []) lt is more
          (named_more g.O.Opens.asking Once [] before names now_of at path files journal lt is i.7
          (subst (λ (ids : List Found). IsNamed g.O.Opens.asking Once ids path.now journal) (c.as_slice.ensures.value ∙ i.8) c.in-Ok-open.ensures.opens)),
    )

pub loop-fork-preserved : goal.loop-fork-preserved
loop-fork-preserved g c =
    let now = c.loop-fork in
    let i = now.invariant in
    let before = map now_of c.args.paths.now in
    let names = c.args.journals.now in
    let at = length now.yielded in
    let items = into_iter_items c.into_iter-fork-iterator.result in
    let fork = c.in-Some.fork in
    let steps = c.in-Some.ensures.steps.0 in
    let same = i.5 in
    let here : c.len.result ≡ at = c.len.ensures ∙ now.pairs.ok.0 ∙ same in
    let path = slice_index_or names c.len.result nowhere in
    let all : at < length items = fewer now.yielded _ _ _ fork i.3 steps in
    let count : length items ≡ length names = ap length c.into_iter-fork-iterator.ensures.into_iter_gives.0 ∙ c.in-Ok.ensures.count ∙ sym c.requires in
    let lt : at < length names = omega (arith, all, count) in
    let is : path ≡ slice_index_or names at path = ap (λ (n : ℕ). slice_index_or names n nowhere) here ∙ same_default names at nowhere path lt in
    let journal = c.in-Ok-open.journal in
    let pair : g.row.F.Denot × g.row.F.Denot = (fork, journal) in
    let pushed = c.in-Ok-push_both.ensures in
    let used = map journal_of now.pairs.items in
    let opening : Opening g.row.F.Denot = (path.now, Ok journal) in
    let more = asked_more before names now_of at path (items ++ used) journal i.0 lt is i.2 in
    let one : IsNamed g.O.Opens.asking Once (map g.O.Opens.asking.id (items ++ used)) path.now journal
    = subst (λ (ids : List Found). IsNamed g.O.Opens.asking Once ids path.now journal) (c.as_slice.ensures.value ∙ i.8) c.in-Ok-open.ensures.opens in
    let named = named_more g.O.Opens.asking Once [] before names now_of at path (items ++ used) journal lt is i.7 one in
    let longer = sym (length-append now.yielded (fork ∷ [])) in
    let grown = append_assoc items used (journal ∷ []) ∙ ap (λ (js : List g.row.F.Denot). items ++ js) (sym (map-append journal_of now.pairs.items (pair ∷ [])))
    ∙ ap (λ (ps : List (g.row.F.Denot × g.row.F.Denot)). items ++ map journal_of ps) (sym pushed.items) in (
      i.0 ++ opening ∷ [],
      c.in-Ok-open.ensures.noted ∙ ap (λ (t : List (Opening g.row.F.Denot)). t ++ opening ∷ []) i.1 ∙ append_assoc _ i.0 (opening ∷ []),
      subst (λ (files : List g.row.F.Denot). Asked (before ++ map now_of (take (length (now.yielded ++ fork ∷ [])) names)) (map Ok files) (i.0 ++ opening ∷ [])) grown
          (subst (λ (n : ℕ). Asked (before ++ map now_of (take n names)) (map Ok ((items ++ used) ++ journal ∷ [])) (i.0 ++ opening ∷ [])) longer more),
      append_assoc now.yielded (fork ∷ []) _ ∙ ap (λ (rest : List g.row.F.Denot). now.yielded ++ rest) (sym steps) ∙ i.3,
      ap (map fork_of) pushed.items ∙ map-append fork_of now.pairs.items (pair ∷ []) ∙ ap (λ (fs : List g.row.F.Denot). fs ++ fork ∷ []) i.4,
      ap length pushed.items ∙ length-append now.pairs.items _ ∙ (let two = length-append now.yielded (fork ∷ []) in omega (arith, same, two)),
      let was = i.6 in
          let gone = c.in-Some.ensures.steps.1 in
          let short = ap length steps in
          omega (arith, was, gone, short),
      subst (AreNamed g.O.Opens.asking Once [] (before ++ map now_of (take (length (now.yielded ++ fork ∷ [])) names))) grown
          (subst (λ (n : ℕ). AreNamed g.O.Opens.asking Once [] (before ++ map now_of (take n names)) ((items ++ used) ++ journal ∷ [])) longer named),
      pushed.known ∙ ap (λ (ids : List Found). ids ++ c.id-id.result ∷ []) i.8
          ∙ ap (λ (id : Found). map g.O.Opens.asking.id (items ++ used) ++ id ∷ []) c.id-id.ensures ∙ sym (map-append g.O.Opens.asking.id (items ++ used) (journal ∷ [])) ∙ ap (map g.O.Opens.asking.id) grown,
      c.in-Ok-open.ensures.none_closed ∙ i.9,
    )
