use Rattle.std.proofs.Common.{◌≡◌, ◌+◌, ◌≤◌, ◌++◌, length, map, get_or, drop, sym, subst, ap, ◌∙◌, arith}
use Rattle.std.specs.List.{flat_map}
use Rattle.std.proofs.lemmas.List.{length-map}
use Rattle.fork_bytes.specs.declared.place.Place.{Place}
use Rattle.res_files.specs.Standing.{most_files}
use Rattle.res_table.specs.OpenFiles.{OpenFiles}
use Rattle.row_image.specs.Infos.{image_text}
use Rattle.saved_files.specs.Saved.{file_text}
use Rattle.saved_files.specs.Sound.{StandOnForks, disk_of}
use Rattle.saved_files.proofs.Faults.{passed_on}
use Rattle.saved_files.proofs.Files.{stand_more}
use Rattle.saved_files.proofs.Turns.{can_now, opened_more, stand_none, turn}
use Rattle.saved_files.proofs.loading.chain_in.Goals as goal

pub loop-number-init : goal.loop-number-init
loop-number-init c =
    let disks = map disk_of c.args.stores.now in
    let few : length disks ≤ most_files = (let count = length-map c.args.stores.now disk_of in let asked = c.requires in omega (arith, count, asked)) in (
      subst (StandOnForks disks) (sym c.new-chain.ensures) (stand_none disks few),
      λ want stands has are is. (ap (λ (chain : OpenFiles Place). chain.files ++ want.files) c.new-chain.ensures, is),
    )

pub returns-in_default-clause-again : goal.returns-in_default-clause-again
returns-in_default-clause-again c = λ want stands has are is.
    let so = c.loop-number.invariant.1 want stands has are is in
    let t = turn (map disk_of c.args.stores.now) c.args.numbers.now want c.loop-number.chain c.loop-number.number-index c.loop-number.rest.now c.loop-number-test.true stands has are so.0 so.1 in
    absurd (c.in_default.ensures (image_text t.file.table) (flat_map file_text (drop (c.loop-number.number-index + 1) want.files)) t.text)

pub returns-in_err-table-clause-again : goal.returns-in_err-table-clause-again
returns-in_err-table-clause-again c = λ want stands has are is.
    let so = c.loop-number.invariant.1 want stands has are is in
    let t = turn (map disk_of c.args.stores.now) c.args.numbers.now want c.loop-number.chain c.loop-number.number-index c.loop-number.rest.now c.loop-number-test.true stands has are so.0 so.1 in
    let found = c.in-Some.ensures (image_text t.file.table) (flat_map file_text (drop (c.loop-number.number-index + 1) want.files)) t.text in
    passed_on c.from_residual.result (λ found. found.0.files ≡ want.files) c.in_err-table.field-0.0 c.from_residual.ensures.1 (c.in_err-table.ensures.again t.file.table t.has found.0)

pub returns-then-not-can_open-clause-again : goal.returns-then-not-can_open-clause-again
returns-then-not-can_open-clause-again c = λ want stands has are is.
    let disks = map disk_of c.args.stores.now in
    let so = c.loop-number.invariant.1 want stands has are is in
    let t = turn disks c.args.numbers.now want c.loop-number.chain c.loop-number.number-index c.loop-number.rest.now c.loop-number-test.true stands has are so.0 so.1 in
    let found = c.in-Some.ensures (image_text t.file.table) (flat_map file_text (drop (c.loop-number.number-index + 1) want.files)) t.text in
    let table = c.in_ok-table.ensures.again t.file.table t.has found.0 in
    let can = can_now disks c.loop-number.chain (get_or c.args.numbers.now c.loop-number.number-index 0) t.file.number c.in_ok-table.table t.file.table t.number table t.can in
    absurd (cc (c.can_open.ensures.1 can, c.if-not-can_open.true))

pub loop-number-preserved : goal.loop-number-preserved
loop-number-preserved c =
    let disks = map disk_of c.args.stores.now in let number = get_or c.args.numbers.now c.loop-number.number-index 0 in let opened = c.in_ok-open.ensures.opened in (
      subst (StandOnForks disks) (sym opened)
          (stand_more disks number c.in_ok-table.table c.loop-number.chain (c.can_open.ensures.0 c.if-not-can_open.false) c.in_ok-table.ensures.few c.in_ok-table.ensures.grouped c.loop-number.invariant.0),
      λ want stands has are is.
          let so = c.loop-number.invariant.1 want stands has are is in
          let t = turn disks c.args.numbers.now want c.loop-number.chain c.loop-number.number-index c.loop-number.rest.now c.loop-number-test.true stands has are so.0 so.1 in
          let found = c.in-Some.ensures (image_text t.file.table) (flat_map file_text (drop (c.loop-number.number-index + 1) want.files)) t.text in
          let table = c.in_ok-table.ensures.again t.file.table t.has found.0 in (
            ap (λ (chain : OpenFiles Place). chain.files ++ drop (c.loop-number.number-index + 1) want.files) opened
                ∙ opened_more want c.loop-number.chain c.loop-number.number-index number c.in_ok-table.table t.file t.mid t.number table,
            found.1,
          ),
    )
