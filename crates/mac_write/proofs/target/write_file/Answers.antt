use Rattle.mac_write.specs.declared.target.Target.TheVariants.{AppleDouble, AppleSingle, BinHex, MacBinary}
use Rattle.mac_write.specs.Parts.{view}
use Rattle.mac_write.proofs.ReadAgain.{read_again}
use Rattle.mac_write.proofs.target.write_file.Goals as goal

pub returns-in-AppleDouble-clause-read : goal.returns-in-AppleDouble-clause-read
returns-in-AppleDouble-clause-read c =
    rw c.in-AppleDouble.is (read_again c.write_double.result (λ new. new.items) AppleDouble (view c.args.file.now) c.know_file.ensures c.write_double.ensures.file c.write_double.ensures.refusal)

pub returns-in-AppleSingle-clause-read : goal.returns-in-AppleSingle-clause-read
returns-in-AppleSingle-clause-read c =
    rw c.in-AppleSingle.is (read_again c.write_single.result (λ new. new.items) AppleSingle (view c.args.file.now) c.know_file.ensures c.write_single.ensures.file c.write_single.ensures.refusal)

pub returns-in-MacBinary-clause-read : goal.returns-in-MacBinary-clause-read
returns-in-MacBinary-clause-read c =
    rw c.in-MacBinary.is (read_again c.write_binary.result (λ new. new.items) MacBinary (view c.args.file.now) c.know_file.ensures c.write_binary.ensures.file c.write_binary.ensures.refusal)

pub returns-in-BinHex-clause-read : goal.returns-in-BinHex-clause-read
returns-in-BinHex-clause-read c =
    rw c.in-BinHex.is (read_again c.write_hex.result (λ new. new.items) BinHex (view c.args.file.now) c.know_file.ensures c.write_hex.ensures.file c.write_hex.ensures.refusal)
