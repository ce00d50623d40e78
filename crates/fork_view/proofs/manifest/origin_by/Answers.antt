use Rattle.fork_view.proofs.manifest.origin_by.Goals as goal

pub returns : goal.returns
returns c = record {
  container = c.in_ok-container_of.ensures;
  kind = c.in_ok-type_text.ensures;
  creator = c.in_ok-creator_text.ensures;
  flags = c.flags_of.ensures;
  created = c.created_of.ensures;
  modified = c.modified_of.ensures;
}
