-- What is promised of runs of calls of both managers and on lent blocks.
use Rattle.std.proofs.Common.{◌≡◌, ℕ, List, [], ◌∷◌, ◌++◌, refl, ap, sym, subst, ◌∙◌}
use Rattle.mac_base.specs.HeadKind.{Shape}
use Rattle.mac_base.specs.Heap.{Heap}
use Rattle.mac_base.specs.ZoneSizes.{shape_of}
use Rattle.mac_base.specs.declared.call.Call.{Call}
use Rattle.mac_base.specs.declared.call.Call.TheVariants.{Memory as MemoryCalls, Loan, Resource, MemError, ResError}
use Rattle.mac_base.specs.GrowZone.{Ask}
use Rattle.mac_base.specs.LoanStep.{Loans}
use Rattle.mac_base.specs.Outcomes.{Outcome}
use Rattle.res_update.specs.Files.{ResState}
use Rattle.mac_base.specs.HandleTable.{no_flags}
use Rattle.zone_laws.specs.Act.{Act, Calls, Does, Done, AreDone, Moment, OnLoan, moment_after}
use Rattle.zone_laws.specs.LastPut.{LastPut, put_in}
use Rattle.zone_laws.specs.LastSet.{LastSet, set_in}
use Rattle.zone_laws.specs.Headline.{Promised}
use Rattle.zone_laws.proofs.Headline.{promised}
use Rattle.zone_laws.proofs.Loaned.{LoansHeld}
use Rattle.zone_laws.proofs.Standing.{Standing, run-first, run-later, stand-new, stand-run}
use Rattle.mac_base.specs.Loans.{LoansAreFixed}
use Rattle.res_update.specs.Answered.{answered_disks}
use Rattle.res_update.proofs.Answering.{answered_before, none, none_honest}
use Rattle.res_update.specs.Device.{Anything}
use Rattle.toolbox.specs.Tools.{AreActsOf, AreMadeOf, Called, IsMadeOf, IsToolRun, ToolDoes, Tools, ToolsShow, UpdateReadsBack, all_acts, moment_of, tools_after}
use Rattle.toolbox.proofs.Acts.{made-of-acts}
use Rattle.toolbox.proofs.Forks.{run-reads}

-- ---- one call

moment : Heap → Loans → Moment
moment heap loans = record { heap = heap; loans = loans }

none-changed : (old new : Tools) → new.resources ≡ old.resources → new.loans ≡ old.loans → moment_of old ≡ moment_of new
unfolding moment
none-changed old new resources loans = ap (λ (st : ResState). moment st.heap old.loans) (sym resources) ∙ ap (moment new.resources.heap) (sym loans)

called : Call → List Ask → Outcome → Tools → Called
called call asks outcome new = record { call = call; asks = asks; outcome = outcome; tools = new }

module _ (honest : ℕ → Type 0) where
  -- a call that is one act
  one-act : (old : Tools) (call : Call) (asks : List Ask) (outcome : Outcome) (new : Tools) (act : Act) → Does old.resources.shape act (moment_of old) (moment_of new) → AreActsOf honest old call asks outcome (act ∷ [])
      → (acts : List Done) × IsMadeOf honest old (called call asks outcome new) acts
  unfolding called
  one-act old call asks outcome new act does own = (record { act = act; left = moment_of new } ∷ [], record { run = (does, tt); ends = refl; own = own })

  no-act : (old : Tools) (call : Call) (asks : List Ask) (outcome : Outcome) (new : Tools) → new.resources ≡ old.resources → new.loans ≡ old.loans → AreActsOf honest old call asks outcome []
      → (acts : List Done) × IsMadeOf honest old (called call asks outcome new) acts
  unfolding called
  no-act old call asks outcome new resources loans own = ([], record { run = tt; ends = none-changed old new resources loans; own = own })

  -- a call that was made is made of acts of its own
  call-acts : (old : Tools) (call : Call) (asks : List Ask) (outcome : Outcome) (new : Tools) → LoansHeld (moment_of old) → ToolDoes honest old call asks outcome new → (acts : List Done) × IsMadeOf honest old (called call asks outcome new) acts
  unfolding called moment
  call-acts old (MemoryCalls call) asks outcome new held does = one-act old (MemoryCalls call) asks outcome new (Calls call asks outcome) (does.0, does.1) refl
  call-acts old (Loan call) asks outcome new held does = one-act old (Loan call) asks outcome new (OnLoan call outcome) does.0 refl
  call-acts old (Resource rc) asks outcome new held does =
      let step = does.0 in
      let before : Heap = step.before.heap in
      let was = answered_before honest rc old.resources step.before step.was in
      let same = was none (none_honest honest) in
      let same_before : before ≡ old.resources.heap = ap (λ (s : ResState). s.heap) same in
      let same_after : step.after.heap ≡ new.resources.heap = ap (λ (s : ResState). s.heap) (step.becomes none (none_honest honest)) in
      let same_shape : step.before.shape ≡ old.resources.shape = ap (λ (s : ResState). s.shape) same in
      let made = made-of-acts old.loans (answered_disks honest Anything) (λ k disk read is. is.0) step.device step.before rc asks (record { outcome = outcome; state = step.after }) (subst LoansAreFixed (sym same_before) held.fixed) step.step in (
        made.run,
        record {
          run = subst (λ (s : Shape). AreDone s (moment_of old) made.run) same_shape (subst (λ (h : Heap). AreDone step.before.shape (moment h old.loans) made.run) same_before made.is);
          ends = subst (λ (h : Heap). moment_after (moment h old.loans) made.run ≡ moment step.after.heap old.loans) same_before made.ends ∙ ap (λ (h : Heap). moment h old.loans) same_after ∙ ap (moment new.resources.heap) (sym does.1);
          own = (step.before, step.was, made.acts);
        },
      )
  call-acts old MemError asks outcome new held does = no-act old MemError asks outcome new does.0 does.1 refl
  call-acts old ResError asks outcome new held does = no-act old ResError asks outcome new does.0 does.1 refl

  shape-kept : (old : Tools) (call : Call) (asks : List Ask) (outcome : Outcome) (new : Tools) → ToolDoes honest old call asks outcome new → new.resources.shape ≡ old.resources.shape
  shape-kept old (MemoryCalls call) asks outcome new does = ap (λ (st : ResState). st.shape) does.2
  shape-kept old (Loan call) asks outcome new does = ap (λ (st : ResState). st.shape) does.1
  shape-kept old (Resource rc) asks outcome new does = does.2
  shape-kept old MemError asks outcome new does = ap (λ (st : ResState). st.shape) does.0
  shape-kept old ResError asks outcome new does = ap (λ (st : ResState). st.shape) does.0

  -- ---- runs

  -- what is known of all acts of some calls
  record AllMade (old : Tools) (calls : List Called) : Type 0 where
    pub acts : List (List Done)
    pub made : AreMadeOf honest old calls acts
    pub run : AreDone old.resources.shape (moment_of old) (all_acts acts)

  any-put : LastPut
  any-put x = []

  any-set : LastSet
  any-set x = no_flags

  run-append : (s : Shape) (from : Moment) (first acts : List Done) → AreDone s from first → AreDone s (moment_after from first) acts → AreDone s from (first ++ acts)
  run-append s from [] acts first is = is
  run-append s from (d ∷ later) acts first is = (first.0, run-append s d.left later acts first.1 is)

  all-made : (old : Tools) (calls : List Called) (put : LastPut) (set : LastSet) → Standing old.resources.shape (moment_of old) put set → IsToolRun honest old calls → AllMade old calls
  unfolding called
  all-made old [] put set stands is = record { acts = []; made = tt; run = tt }
  all-made old (c ∷ later) put set stands is =
      let s = old.resources.shape in
      let own = call-acts old c.call c.asks c.outcome c.tools stands.held is.0 in
      let made = own.1 in
      let next = subst (λ at. Standing s at (put_in own.0 put) (set_in own.0 set)) made.ends (stand-run s (moment_of old) own.0 put set stands made.run) in
      let same = shape-kept old c.call c.asks c.outcome c.tools is.0 in
      let rest = all-made c.tools later (put_in own.0 put) (set_in own.0 set) (subst (λ s. Standing s (moment_of c.tools) (put_in own.0 put) (set_in own.0 set)) (sym same) next) is.1 in
      record {
        acts = own.0 ∷ rest.acts;
        made = (made, rest.made);
        run = run-append s (moment_of old) own.0 (all_acts rest.acts) made.run (subst (λ at. AreDone s at (all_acts rest.acts)) (sym made.ends) (subst (λ s. AreDone s (moment_of c.tools) (all_acts rest.acts)) same rest.run));
      }

  -- what is promised of a part of a run
  part-promised : (s : Shape) (from : Moment) (first part later : List Done) (put : LastPut) (set : LastSet) → Standing s from put set → AreDone s from (first ++ (part ++ later))
      → Promised s (moment_after from first) part (put_in first put) (set_in first set)
  part-promised s from first part later put set stands is =
      let after = run-later s from first (part ++ later) is in
      promised s (moment_after from first) part (put_in first put) (set_in first set) (stand-run s from first put set stands (run-first s from first (part ++ later) is)) (run-first s (moment_after from first) part later after)

  -- each call of a run was made
  call-made : (start : Tools) (first later : List Called) (called : Called) → IsToolRun honest start (first ++ (called ∷ later)) → ToolDoes honest (tools_after start first) called.call called.asks called.outcome called.tools
  call-made start [] later called is = is.0
  call-made start (c ∷ first) later called is = call-made c.tools first later called is.1

  -- so what it updated reads back
  update-reads : (old : Tools) (call : Call) (asks : List Ask) (outcome : Outcome) (new : Tools) → ToolDoes honest old call asks outcome new → UpdateReadsBack honest old call outcome new
  update-reads old (Resource rc) asks outcome new does = does.3
  update-reads old call asks outcome new does = tt

-- from a new zone on
pub tools-show : (honest : ℕ → Type 0) → ToolsShow honest
tools-show honest z start calls possible shape zone none is =
    let s = start.resources.shape in
    let stands : (put : LastPut) (set : LastSet) → Standing s (moment_of start) put set = λ put set. subst (λ s. Standing s (moment_of start) put set) (sym shape) (subst (λ at. Standing (shape_of z) at put set) (sym zone) (stand-new z put set possible)) in
    let all = all-made honest start calls (any-put honest) (any-set honest) (stands (any-put honest) (any-set honest)) is in
    record {
      acts = all.acts;
      own = all.made;
      promised = λ first part later put set same. part-promised honest s (moment_of start) first part later put set (stands put set) (subst (AreDone s (moment_of start)) same all.run);
      forks = λ first later called same. update-reads honest (tools_after start first) called.call called.asks called.outcome called.tools (call-made honest start first later called (subst (IsToolRun honest start) same is));
      rows = λ first later same. run-reads honest start first later none (subst (IsToolRun honest start) same is);
    }
