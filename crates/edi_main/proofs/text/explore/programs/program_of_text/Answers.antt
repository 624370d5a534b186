-- What is explored is the code of the text's unit, with what its branches use openly.
use Rattle.edi_main.proofs.text.ExploreSteps.{explorable}
use Rattle.edi_main.proofs.text.explore.programs.program_of_text.Goals as goal

pub returns : goal.returns
returns c = record {
  reads = explorable c.args.text.now c.in-Ok.unit _ c.in-Ok.ensures.exact c.in-Ok.ensures.few c.in_ok-code.ensures.exact c.names_accept-asks.ensures
      c.in-Some.ensures.is;
}
