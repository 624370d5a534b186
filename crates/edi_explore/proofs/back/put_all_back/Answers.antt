-- One process after another is put back.
use Rattle.std.proofs.Common.{◌∙◌, ap}
use Rattle.std.proofs.lemmas.Option.{slice_get-get_or}
use Rattle.edi_kernel.specs.declared.state.KernelState.{KernelState}
use Rattle.edi_explore.proofs.Backs.{is_absent, one_back}
use Rattle.edi_explore.proofs.back.put_all_back.Goals as goal

pub put_back-requires-clause-whole : goal.put_back-requires-clause-whole
put_back-requires-clause-whole c =
    c.requires.processes.whole c.loop-number.number-index c.index.result.now
    (record { number = _; at = slice_get-get_or c.args.numbers.now c.loop-number.number-index 0 c.loop-number-test.true; is = c.index.ensures })

pub put_back-requires-clause-absent : goal.put_back-requires-clause-absent
put_back-requires-clause-absent c =
    is_absent c.args.kept.now.keys c.args.numbers.now c.loop-number.number-index c.loop-number.kernel c.index.result.now c.requires.processes
    (record { number = _; at = slice_get-get_or c.args.numbers.now c.loop-number.number-index 0 c.loop-number-test.true; is = c.index.ensures })
    c.loop-number.invariant.back

pub loop-number-preserved : goal.loop-number-preserved
loop-number-preserved c = record {
  back =
      one_back c.args.kept.now.keys c.args.numbers.now c.loop-number.number-index c.loop-number.kernel c.put_back.new.self c.index.result.now c.requires.processes
      (record { number = _; at = slice_get-get_or c.args.numbers.now c.loop-number.number-index 0 c.loop-number-test.true; is = c.index.ensures })
      c.loop-number.invariant.back c.put_back.ensures.exact;
  rest =
      c.put_back.ensures.exact.rest
      ∙ ap (λ (k : KernelState). record k { table = c.put_back.new.self.table; store = c.put_back.new.self.store }) c.loop-number.invariant.rest;
  kernel = c.put_back.ensures.kernel;
}
