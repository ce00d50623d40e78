use Rattle.fork_folder.proofs.Again.{packed_again}
use Rattle.fork_folder.proofs.Reading.{read_back}
use Rattle.fork_folder.proofs.Texts.{fork_again, read_again}
use Rattle.fork_folder.proofs.laws.pack_laws.Goals as goal

pub returns : goal.returns
returns c = record {
  again = λ kinds rows named few. packed_again kinds rows named few;
  same = λ resource one other of of' says says'. read_again resource one other of of' says says';
  fork = λ manifest extra extra' map map' ones others of of' says says'. fork_again manifest extra extra' map map' ones others of of' says says';
  back = λ origin written found extra bits ones is says. read_back origin written found extra bits ones is says;
}
