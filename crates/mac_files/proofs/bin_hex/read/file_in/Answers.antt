use Rattle.std.proofs.Common.{◌∙◌, ap, sym, refl}
use Rattle.std.proofs.lemmas.Result.{err_from_is_err_and}
use Rattle.mac_files.specs.BinHex.{file_unless, values_of}
use Rattle.mac_files.specs.BinHexFiles.{reading_of}
use Rattle.mac_files.proofs.BinHexFaults.{HasLengths, fault_at_end, fault_in_data, fault_in_resource, no_fault}
use Rattle.mac_files.proofs.bin_hex.read.file_in.Goals as goal

pub returns-in_err-check_section-2-clause-given : goal.returns-in_err-check_section-2-clause-given
returns-in_err-check_section-2-clause-given c =
    let lengths : HasLengths (reading_of c.args.decoded) c.name_length-name_length.result c.data_length-data_length.result c.resource_length-resource_length.result =
    record { name = c.name_length-name_length.ensures.length; data_fork = c.data_length-data_length.ensures.length; resource_fork = c.resource_length-resource_length.ensures.length } in
    let p = err_from_is_err_and c.from_residual-in_err-check_section-2.result c.from_residual-in_err-check_section-2.ensures.1 in
    rw (p.1, p.2) (ap (λ f. file_unless f (values_of (reading_of c.args.decoded)))
    (fault_in_data _ _ _ _ _ lengths c.in_ok-check_section.ensures.fault c.in_err-check_section-2.ensures.fault))

pub returns-in_err-check_section-3-clause-given : goal.returns-in_err-check_section-3-clause-given
returns-in_err-check_section-3-clause-given c =
    let lengths : HasLengths (reading_of c.args.decoded) c.name_length-name_length.result c.data_length-data_length.result c.resource_length-resource_length.result =
    record { name = c.name_length-name_length.ensures.length; data_fork = c.data_length-data_length.ensures.length; resource_fork = c.resource_length-resource_length.ensures.length } in
    let p = err_from_is_err_and c.from_residual-in_err-check_section-3.result c.from_residual-in_err-check_section-3.ensures.1 in
    rw (p.1, p.2) (ap (λ f. file_unless f (values_of (reading_of c.args.decoded)))
    (fault_in_resource _ _ _ _ _ lengths c.in_ok-check_section.ensures.fault c.in_ok-check_section-2.ensures.fault
    c.in_err-check_section-3.ensures.fault))

pub returns-in_err-ending-clause-given : goal.returns-in_err-ending-clause-given
returns-in_err-ending-clause-given c =
    let lengths : HasLengths (reading_of c.args.decoded) c.name_length-name_length.result c.data_length-data_length.result c.resource_length-resource_length.result =
    record { name = c.name_length-name_length.ensures.length; data_fork = c.data_length-data_length.ensures.length; resource_fork = c.resource_length-resource_length.ensures.length } in
    let p = err_from_is_err_and c.from_residual-in_err-ending.result c.from_residual-in_err-ending.ensures.1 in
    rw (p.1, p.2) (ap (λ f. file_unless f (values_of (reading_of c.args.decoded)))
    (fault_at_end _ _ _ _ _ lengths c.in_ok-check_section.ensures.fault c.in_ok-check_section-2.ensures.fault
    c.in_ok-check_section-3.ensures.fault (sym c.requires.ending ∙ c.in_err-ending.was)))

pub returns-clause-given : goal.returns-clause-given
returns-clause-given c =
    let lengths : HasLengths (reading_of c.args.decoded) c.name_length-name_length.result c.data_length-data_length.result c.resource_length-resource_length.result =
    record { name = c.name_length-name_length.ensures.length; data_fork = c.data_length-data_length.ensures.length; resource_fork = c.resource_length-resource_length.ensures.length } in
    ap (λ f. file_unless f (values_of (reading_of c.args.decoded)))
    (no_fault _ _ _ _ _ lengths c.in_ok-check_section.ensures.fault c.in_ok-check_section-2.ensures.fault
    c.in_ok-check_section-3.ensures.fault (sym c.requires.ending ∙ c.in_ok-ending.was))
    ∙ rw (
      c.four_bytes.ensures,
      c.four_bytes-2.ensures,
      c.read_two.ensures,
      c.deref.ensures.value,
      c.deref-2.ensures.value,
      c.deref-3.ensures.value,
      c.requires.bytes,
      lengths.name,
      lengths.data_fork,
      lengths.resource_fork,
    ) refl
