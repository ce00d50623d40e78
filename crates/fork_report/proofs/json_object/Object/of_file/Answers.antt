use Rattle.fork_report.proofs.json_object.Object.of_file.Goals as goal

pub returns : goal.returns
returns c = c.with.ensures _ _ c.new.ensures c.text_value.ensures
