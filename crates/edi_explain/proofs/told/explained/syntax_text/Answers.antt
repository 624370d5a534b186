-- The fault is that of the symbols, and what may stand there is exact.
use Rattle.std.proofs.Common.{rules, ◌≡◌, ◌∙◌, ◌++◌, List, take, ap, subst, slice_index_or, false}
use Rattle.edi_lex.specs.declared.symbol.Mark.{Mark}
use Rattle.edi_explain.specs.expected.Reaches.{May}
use Rattle.edi_explain.specs.told.Advice.{advice_of}
use Rattle.edi_explain.specs.told.Explained.{index_of, kind_of_fault, wrong_text}
use Rattle.edi_explain.specs.told.Tables.{may_of}
use Rattle.edi_explain.proofs.told.Exactly.{exact_everywhere}
use Rattle.edi_explain.proofs.told.explained.syntax_text.Goals as goal

pub returns : goal.returns
returns c =
    let marks : List Mark = c.args.symbols.now.marks in
    let front : c.marks_to.result.now ≡ take (index_of c.args.fault) marks =
    c.marks_to.ensures.exact ∙ ap (λ l. take c.index_of-index.result l) c.as_slice.ensures.all ∙ ap (λ n. take n marks) c.index_of-index.ensures.exact in
    record {
      exact = record {
        fault = c.args.fault;
        is = c.requires.is_fault;
        may = may_of c.in_ok-expected.expected;
        exact = λ k. subst (λ l. May l k (slice_index_or c.in_ok-expected.expected.kinds k false)) front
            (exact_everywhere c.marks_to.result.now c.in_ok-expected.expected.kinds (search rules) c.in_ok-expected.ensures.exact k);
        shown_is =
            c.in_ok-put_advice.ensures ∙ (λ i. c.in_ok-put_wrong.ensures i ++ advice_of (c.kind_of_fault.ensures.exact i))
            ∙ (λ i. (c.new-out.ensures.items i
            ++ wrong_text c.args.text.now marks c.args.symbols.now.last (c.index_of-index.ensures.exact i) (may_of c.in_ok-expected.expected))
            ++ advice_of (kind_of_fault c.args.fault));
      };
    }
