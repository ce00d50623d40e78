use Rattle.std.proofs.Common.{◌≡◌, ◌∙◌, length, sym, refl, ap, subst, Some}
use Rattle.std.proofs.lemmas.Result.{err_from_is_err_and}
use Rattle.std.specs.Prelude.{if◌then◌else◌}
use Rattle.mac_base.specs.Heap.{with_emptied}
use Rattle.mac_base.specs.Releasing.{heap_released}
use Rattle.mac_base.specs.declared.releasing.ReleasingCall.TheVariants.{DisposesHandle}
use Rattle.res_files.specs.FilesOn.{FilesOn, HonestAt, fork_of}
use Rattle.res_files.specs.Stores.{KeepsStores}
use Rattle.res_update.specs.Answered.{AnswersFor}
use Rattle.res_update.specs.Changes.{row_changed}
use Rattle.res_table.specs.Rows.{with_handle}
use Rattle.res_manager.specs.Steps.{state_of}
use Rattle.res_manager.proofs.GettingRows.{IsGot, empty_load, failed_load, given_load, long_then, refused_load, served, some-holds, still_there, there_then}
use Rattle.res_manager.proofs.Keeping.{kept_same, kept_then}
use Rattle.res_manager.proofs.Lent.{lent_placed}
use Rattle.res_manager.proofs.load.get_row.Goals as goal
use Rattle.res_manager.proofs.load.get_row.Goals.{After-make_place, in-Some+else-serves, in_default, then-loads+in_ok-load_bytes, else-loads}

-- the row that is got, and what its place has to hold
got : (g : _) (c : After-make_place g) → let shown = some-holds _ _ _ c.unwrap-row.ensures c.row.ensures.some in
    IsGot (state_of g.S.ForkStore.fork c.args.memory.now c.args.files.now) c.args.place c.args.loads c.match-own.own c.unwrap-row.result.now.resource.datum.length shown.0
got g c =
    let shown = some-holds _ _ _ c.unwrap-row.ensures c.row.ensures.some in
    record {
      here = shown.1;
      same = (elim c.match-own.branch [ in-Some+else-serves w ↦ w.own-is ∙ sym w.in-Some.is | in_default w ↦ w.own-is ]) ∙ (shown.2).handle;
      long = (shown.2).size;
      needs = elim c.match-own.branch [ in-Some+else-serves w ↦ rw w.own-is (sym w.serves.ensures ∙ w.if-serves.false) | in_default w ↦ rw (w.own-is ∙ w.in_default.is) tt ];
    }

pub returns-in_err-handle-clause-step : goal.returns-in_err-handle-clause-step
returns-in_err-handle-clause-step g c =
    let shown = some-holds _ _ _ c.unwrap-row.ensures c.row.ensures.some in
    let ends = err_from_is_err_and c.from_residual.result c.from_residual.ensures.1 in
    let step = c.make_place.ensures.step in
    rw (ends.1, ends.2) (refused_load g.S.ForkStore c.args.memory.now c.args.files.now c.args.place c.args.loads c.match-own.own c.unwrap-row.result.now.resource.datum.length shown.0 (got g (goal.at.returns-in_err-handle-clause-step g c).After-make_place) (g.G.GrowZone.asks c.make_place.new.procedure) c.make_place.new.memory c.make_place.new.files c.make_place.ensures.forgotten c.make_place.ensures.shape step.0 step.1 _ (sym c.in_err-handle.was ∙ step.2))

pub load_bytes-requires-clause-long : goal.load_bytes-requires-clause-long
load_bytes-requires-clause-long g c =
    let shown = some-holds _ _ _ c.unwrap-row.ensures c.row.ensures.some in
    let step = c.make_place.ensures.step in
    long_then g.S.ForkStore c.args.memory.now c.args.files.now c.args.place c.args.loads c.match-own.own c.unwrap-row.result.now.resource.datum.length shown.0 (got g (goal.at.load_bytes-requires-clause-long g c).After-make_place) (g.G.GrowZone.asks c.make_place.new.procedure) c.make_place.new.memory c.make_place.new.files c.make_place.ensures.forgotten c.make_place.ensures.shape step.0 step.1

pub set_handle-requires : goal.set_handle-requires
set_handle-requires g c =
    let shown = some-holds _ _ _ c.unwrap-row.ensures c.row.ensures.some in
    let step = c.make_place.ensures.step in
    elim c.if-loads.branch [
      | else-loads w ↦ rw w.files-is (there_then g.S.ForkStore c.args.memory.now c.args.files.now c.args.place c.args.loads c.match-own.own c.unwrap-row.result.now.resource.datum.length shown.0 (got g (goal.at.set_handle-requires g c).After-make_place) (g.G.GrowZone.asks c.make_place.new.procedure) c.make_place.new.memory c.make_place.new.files c.make_place.ensures.forgotten c.make_place.ensures.shape step.0 step.1)
      | then-loads+in_ok-load_bytes w ↦ rw w.files-is (still_there g.S.ForkStore c.args.memory.now c.args.files.now c.args.place c.args.loads c.match-own.own c.unwrap-row.result.now.resource.datum.length shown.0 (got g (goal.at.set_handle-requires g c).After-make_place) (g.G.GrowZone.asks c.make_place.new.procedure) c.make_place.new.memory c.make_place.new.files c.make_place.ensures.forgotten c.make_place.ensures.shape step.0 step.1 _ _ w.load_bytes.ensures.files)
    ]

pub returns-in_err-load_bytes-clause-step : goal.returns-in_err-load_bytes-clause-step
returns-in_err-load_bytes-clause-step g c =
    let shown = some-holds _ _ _ c.unwrap-row.ensures c.row.ensures.some in
    let step = c.make_place.ensures.step in
    let ends = err_from_is_err_and c.from_residual-in_err-load_bytes.result c.from_residual-in_err-load_bytes.ensures.1 in
    let load = c.in_err-load_bytes.ensures in
    rw (ends.1, ends.2, load.code) (failed_load g.S.ForkStore c.args.memory.now c.args.files.now c.args.place c.args.loads c.match-own.own c.unwrap-row.result.now.resource.datum.length shown.0 (got g (goal.at.returns-in_err-load_bytes-clause-step g c).After-make_place) (g.G.GrowZone.asks c.make_place.new.procedure) c.make_place.new.memory c.make_place.new.files c.make_place.ensures.forgotten c.make_place.ensures.shape step.0 step.1 c.in_ok-handle.handle (sym c.in_ok-handle.was ∙ step.2) c.load_bytes.new.memory c.load_bytes.new.files load.shape load.files (λ k h. (load.keeps k h).fork) load.loads load.count c.if-loads.true load.some
    (load.undone ∙ ap (λ b. if b then with_emptied c.make_place.new.memory.heap c.in_ok-handle.handle else heap_released (DisposesHandle c.in_ok-handle.handle) c.make_place.new.memory.heap) c.is_some.ensures) load.cause)

pub returns-in_err-load_bytes-clause-loans : goal.returns-in_err-load_bytes-clause-loans
returns-in_err-load_bytes-clause-loans g c = (c.load_bytes.ensures.loans.0 ∙ c.make_place.ensures.loans.0, λ x loan held. c.load_bytes.ensures.loans.1 x loan (c.make_place.ensures.loans.1 x loan held))

pub returns-clause-step : goal.returns-clause-step
returns-clause-step g c =
    let shown = some-holds _ _ _ c.unwrap-row.ensures c.row.ensures.some in
    let row = shown.2 in
    let step = c.make_place.ensures.step in
    elim c.if-loads.branch [
      | else-loads w ↦ rw w.memory-is (empty_load g.S.ForkStore c.args.memory.now c.args.files.now c.args.place c.args.loads c.match-own.own c.unwrap-row.result.now.resource.datum.length shown.0 (got g (goal.at.returns-clause-step g c).After-make_place) (g.G.GrowZone.asks c.make_place.new.procedure) c.make_place.new.memory c.make_place.new.files c.make_place.ensures.forgotten c.make_place.ensures.shape step.0 step.1 c.in_ok-handle.handle (sym c.in_ok-handle.was ∙ step.2) c.make_place.new.memory c.if-loads.files refl
          (subst (λ (f : FilesOn g.row.S.Denot). AnswersFor (HonestAt g.S.ForkStore.is_honest c.if-loads.files.stores) c.make_place.new.files.files f.files) (sym w.files-is) (λ known are. refl))
          (λ k honest. ap (λ (f : FilesOn g.row.S.Denot). fork_of g.S.ForkStore.fork k f.stores) w.files-is) (ap (λ (f : FilesOn g.row.S.Denot). f.loads) w.files-is) (ap (λ (f : FilesOn g.row.S.Denot). length f.stores) w.files-is)
          w.if-loads.false refl w.files-is c.set_handle.new.self c.set_handle.ensures)
      | then-loads+in_ok-load_bytes w ↦
          let load = w.in_ok-load_bytes.ensures in
          rw w.memory-is (given_load g.S.ForkStore c.args.memory.now c.args.files.now c.args.place c.args.loads c.match-own.own c.unwrap-row.result.now.resource.datum.length shown.0 (got g (goal.at.returns-clause-step g c).After-make_place) (g.G.GrowZone.asks c.make_place.new.procedure) c.make_place.new.memory c.make_place.new.files c.make_place.ensures.forgotten c.make_place.ensures.shape step.0 step.1 c.in_ok-handle.handle (sym c.in_ok-handle.was ∙ step.2) w.load_bytes.new.memory w.load_bytes.new.files load.shape load.files (λ k h. (load.keeps k h).fork) load.loads load.count
          c.unwrap-row.result.now.resource.attributes load.loaded.0 w.if-loads.true row.attributes load.loaded.1 load.loaded.2 load.cause c.set_handle.new.self
          (subst (λ (f : FilesOn g.row.S.Denot). c.set_handle.new.self ≡ record f { files = row_changed c.args.place (with_handle (Some c.in_ok-handle.handle)) f.files }) w.files-is c.set_handle.ensures))
    ]

pub returns-clause-loans : goal.returns-clause-loans
returns-clause-loans g c = elim c.if-loads.branch [
  | then-loads+in_ok-load_bytes w ↦ rw w.memory-is (w.load_bytes.ensures.loans.0 ∙ c.make_place.ensures.loans.0, λ x loan held. w.load_bytes.ensures.loans.1 x loan (c.make_place.ensures.loans.1 x loan held))
  | else-loads w ↦ rw w.memory-is c.make_place.ensures.loans
]

pub returns-in_err-handle-clause-lent : goal.returns-in_err-handle-clause-lent
returns-in_err-handle-clause-lent g c = let step = c.make_place.ensures.step in lent_placed c.args.memory.now c.make_place.new.memory c.match-own.own c.unwrap-row.result.now.resource.datum.length c.args.loads (g.G.GrowZone.asks c.make_place.new.procedure) step.0 step.1

pub returns-in_err-load_bytes-clause-lent : goal.returns-in_err-load_bytes-clause-lent
returns-in_err-load_bytes-clause-lent g c = let step = c.make_place.ensures.step in c.load_bytes.ensures.lent ∙ lent_placed c.args.memory.now c.make_place.new.memory c.match-own.own c.unwrap-row.result.now.resource.datum.length c.args.loads (g.G.GrowZone.asks c.make_place.new.procedure) step.0 step.1

pub returns-clause-lent : goal.returns-clause-lent
returns-clause-lent g c =
    let step = c.make_place.ensures.step in
    let placed = lent_placed c.args.memory.now c.make_place.new.memory c.match-own.own c.unwrap-row.result.now.resource.datum.length c.args.loads (g.G.GrowZone.asks c.make_place.new.procedure) step.0 step.1 in
    elim c.if-loads.branch [ then-loads+in_ok-load_bytes w ↦ rw w.memory-is (w.load_bytes.ensures.lent ∙ placed) | else-loads w ↦ rw w.memory-is placed ]

pub returns-clause-shape : goal.returns-clause-shape
returns-clause-shape g c = elim c.if-loads.branch [
  | then-loads+in_ok-load_bytes w ↦ rw w.memory-is (w.load_bytes.ensures.shape ∙ c.make_place.ensures.shape)
  | else-loads w ↦ rw w.memory-is c.make_place.ensures.shape
]

pub returns-clause-count : goal.returns-clause-count
returns-clause-count g c =
    let placed = ap (λ (f : FilesOn g.row.S.Denot). length f.stores) c.make_place.ensures.forgotten in
    let loaded : length c.if-loads.files.stores ≡ length c.args.files.now.stores =
    elim c.if-loads.branch [
      | then-loads+in_ok-load_bytes w ↦ ap (λ (f : FilesOn g.row.S.Denot). length f.stores) w.files-is ∙ (w.load_bytes.ensures.count ∙ placed)
      | else-loads w ↦ ap (λ (f : FilesOn g.row.S.Denot). length f.stores) w.files-is ∙ placed
    ]
    in
    ap (λ (f : FilesOn g.row.S.Denot). length f.stores) c.set_handle.ensures ∙ loaded

pub load_bytes-requires-clause-placed : goal.load_bytes-requires-clause-placed
load_bytes-requires-clause-placed g c = c.in_ok-handle.ensures.placed c.if-loads.true

pub returns-then-serves-clause-step : goal.returns-then-serves-clause-step
returns-then-serves-clause-step g c =
    let shown = some-holds _ _ _ c.unwrap-row.ensures c.row.ensures.some in
    let row = shown.2 in
    served g.S.ForkStore c.args.memory.now c.args.files.now c.args.place c.args.loads shown.0 c.in-Some.handle (g.G.GrowZone.asks c.args.procedure.now) c.requires.unasked shown.1 (sym row.handle ∙ c.in-Some.is)
    (sym c.serves.ensures ∙ c.if-serves.true)

pub returns-in_err-handle-clause-keeps : goal.returns-in_err-handle-clause-keeps
returns-in_err-handle-clause-keeps g c = kept_same g.S.ForkStore _ _ (ap (λ (f : FilesOn g.row.S.Denot). f.stores) c.make_place.ensures.forgotten)

pub returns-in_err-load_bytes-clause-keeps : goal.returns-in_err-load_bytes-clause-keeps
returns-in_err-load_bytes-clause-keeps g c =
    kept_then g.S.ForkStore _ _ _ (kept_same g.S.ForkStore _ _ (ap (λ (f : FilesOn g.row.S.Denot). f.stores) c.make_place.ensures.forgotten)) c.load_bytes.ensures.keeps

pub returns-clause-keeps : goal.returns-clause-keeps
returns-clause-keeps g c =
    let S = g.S.ForkStore in
    let placed = kept_same S c.args.files.now.stores c.make_place.new.files.stores (ap (λ (f : FilesOn g.row.S.Denot). f.stores) c.make_place.ensures.forgotten) in
    let loaded : KeepsStores S c.args.files.now.stores c.if-loads.files.stores =
    elim c.if-loads.branch [
      | then-loads+in_ok-load_bytes w ↦
          subst (λ (f : FilesOn g.row.S.Denot). KeepsStores S c.args.files.now.stores f.stores) (sym w.files-is) (kept_then S _ _ _ placed w.load_bytes.ensures.keeps)
      | else-loads w ↦ subst (λ (f : FilesOn g.row.S.Denot). KeepsStores S c.args.files.now.stores f.stores) (sym w.files-is) placed
    ]
    in
    kept_then S _ _ _ loaded (kept_same S _ _ (ap (λ (f : FilesOn g.row.S.Denot). f.stores) c.set_handle.ensures))
