use Rattle.edi_tree.specs.Whole.{program_of}
use Rattle.edi_dumped.proofs.known.known_by.Goals as goal

pub returns : goal.returns
returns c = record {
  known = (
    record { tree = program_of c.in-Ok.tree; tree_is = c.in-Ok.ensures.tree; resolved = c.in-Ok-resolve.ensures.exact },
    c.in-Ok-names.ensures.exact,
  );
}
