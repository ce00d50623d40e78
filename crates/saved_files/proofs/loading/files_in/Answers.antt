use Rattle.std.proofs.Common.{◌≡◌, ◌++◌, ℕ, List, Option, map, unwrap_or, IfSome, sym, subst, ap, ◌∙◌}
use Rattle.std.specs.Prelude.{IsTrue}
use Rattle.std.specs.List.{flat_map}
use Rattle.fork_disk.specs.declared.mem_disk.MemDisk.{MemDisk}
use Rattle.fork_disk.specs.declared.store.PlainStore.{PlainStore}
use Rattle.res_table.specs.OpenFiles.{is_open}
use Rattle.res_update.specs.Device.{Disk}
use Rattle.saved_files.specs.Parts.{saved_in, used}
use Rattle.saved_files.specs.Saved.{block_text, file_text, head_text, number_of}
use Rattle.saved_files.specs.Sound.{StandOnForks, disk_of}
use Rattle.saved_files.proofs.Chains.{chain_used, current_open}
use Rattle.saved_files.proofs.Faults.{passed_on}
use Rattle.saved_files.proofs.Said.{same_saved}
use Rattle.saved_files.proofs.loading.files_in.Goals as goal

pub returns-in_default-clause-again : goal.returns-in_default-clause-again
returns-in_default-clause-again c = λ s table can is.
    absurd (c.in_default.ensures (head_text s.loads (unwrap_or s.chain.current 0) (map number_of s.chain.files)) (flat_map block_text s.disks ++ flat_map file_text s.chain.files) is)

pub returns-in_default-head_in-clause-again : goal.returns-in_default-head_in-clause-again
returns-in_default-head_in-clause-again c = λ s table can is.
    let front = c.in-Some.ensures (head_text s.loads (unwrap_or s.chain.current 0) (map number_of s.chain.files)) (flat_map block_text s.disks ++ flat_map file_text s.chain.files) is in
    absurd (c.in_default-head_in.ensures s.loads (unwrap_or s.chain.current 0) (map number_of s.chain.files) front.0)

pub returns-in_err-stores-clause-again : goal.returns-in_err-stores-clause-again
returns-in_err-stores-clause-again c = λ s table can is.
    let front = c.in-Some.ensures (head_text s.loads (unwrap_or s.chain.current 0) (map number_of s.chain.files)) (flat_map block_text s.disks ++ flat_map file_text s.chain.files) is in
    passed_on c.from_residual.result (λ files. saved_in files ≡ s) c.in_err-stores.field-0.0 c.from_residual.ensures.1
    (c.in_err-stores.ensures.again s.disks (flat_map file_text s.chain.files) can.count front.1)

pub returns-in_err-chain-clause-again : goal.returns-in_err-chain-clause-again
returns-in_err-chain-clause-again c = λ s table can is.
    let front = c.in-Some.ensures (head_text s.loads (unwrap_or s.chain.current 0) (map number_of s.chain.files)) (flat_map block_text s.disks ++ flat_map file_text s.chain.files) is in
    let head = c.in-Some-head_in.ensures s.loads (unwrap_or s.chain.current 0) (map number_of s.chain.files) front.0 in
    let stores = c.in_ok-stores.ensures.again s.disks (flat_map file_text s.chain.files) can.count front.1 in
    let disks : map disk_of c.deref.result.now ≡ s.disks = ap (λ (xs : List (PlainStore MemDisk)). map disk_of xs) c.deref.ensures.value ∙ stores.0 in
    passed_on c.from_residual-in_err-chain.result (λ files. saved_in files ≡ s) c.in_err-chain.field-0.0 c.from_residual-in_err-chain.ensures.1
    (c.in_err-chain.ensures.again s.chain (subst (λ (ds : List Disk). StandOnForks ds s.chain) (sym disks) can.stands) can.images head.2 stores.1)

pub returns-then-not-can_use-clause-again : goal.returns-then-not-can_use-clause-again
returns-then-not-can_use-clause-again c = λ s table can is.
    let front = c.in-Some.ensures (head_text s.loads (unwrap_or s.chain.current 0) (map number_of s.chain.files)) (flat_map block_text s.disks ++ flat_map file_text s.chain.files) is in
    let head = c.in-Some-head_in.ensures s.loads (unwrap_or s.chain.current 0) (map number_of s.chain.files) front.0 in
    let stores = c.in_ok-stores.ensures.again s.disks (flat_map file_text s.chain.files) can.count front.1 in
    let disks : map disk_of c.deref.result.now ≡ s.disks = ap (λ (xs : List (PlainStore MemDisk)). map disk_of xs) c.deref.ensures.value ∙ stores.0 in
    let files = c.in_ok-chain.ensures.again s.chain (subst (λ (ds : List Disk). StandOnForks ds s.chain) (sym disks) can.stands) can.images head.2 stores.1 in
    let there = subst (λ (k : Option ℕ). IfSome k (λ n. IsTrue (is_open n c.in_ok-chain.chain))) (sym head.1) (current_open s.disks s.chain c.in_ok-chain.chain can.stands files) in
    absurd (cc (c.can_use.ensures.1 there, c.if-not-can_use.true))

pub returns-clause-again : goal.returns-clause-again
returns-clause-again c = λ s table can is.
    let front = c.in-Some.ensures (head_text s.loads (unwrap_or s.chain.current 0) (map number_of s.chain.files)) (flat_map block_text s.disks ++ flat_map file_text s.chain.files) is in
    let head = c.in-Some-head_in.ensures s.loads (unwrap_or s.chain.current 0) (map number_of s.chain.files) front.0 in
    let stores = c.in_ok-stores.ensures.again s.disks (flat_map file_text s.chain.files) can.count front.1 in
    let disks : map disk_of c.deref.result.now ≡ s.disks = ap (λ (xs : List (PlainStore MemDisk)). map disk_of xs) c.deref.ensures.value ∙ stores.0 in
    let files = c.in_ok-chain.ensures.again s.chain (subst (λ (ds : List Disk). StandOnForks ds s.chain) (sym disks) can.stands) can.images head.2 stores.1 in
    let chain = c.in_ok-chain.chain in
    let stands = subst (λ (ds : List Disk). StandOnForks ds chain) disks c.in_ok-chain.ensures.stands in
    let is_used = c.with_current.ensures ∙ ap (λ (k : Option ℕ). used k chain) head.1 ∙ chain_used s.disks s.chain chain can.stands can.current stands files in
    same_saved (record { chain = c.with_current.result; loads = c.in-Some-head_in.head.loads; disks = map disk_of c.in_ok-stores.stores.items }) s is_used head.0 stores.0
