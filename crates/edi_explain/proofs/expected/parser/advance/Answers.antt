use Rattle.std.proofs.Common.{rules, ◌∷◌, ◌∙◌, ap, subst, sym}
use Rattle.edi_explain.specs.expected.Advances.{Advances}
use Rattle.edi_explain.specs.expected.Awaited.{ends_on, part_no, waits}
use Rattle.edi_explain.proofs.expected.Numbers.{gives, same_leads}
use Rattle.edi_explain.proofs.expected.Symbols.{at_front, at_none, ends_front, few_for, goes_on, none_ends, symbol_ends}
use Rattle.edi_explain.proofs.expected.parser.advance.Goals as goal

pub loop-number-init : goal.loop-number-init
loop-number-init c = record { leads = same_leads _ _; counted = (search rules) }

pub loop-number-preserved : goal.loop-number-preserved
loop-number-preserved c = record {
  leads = (goes_on _ _ _ _ _ _ c.loop-number.invariant.leads c.in-Some.ensures.exact
      (gives _ _ _ _ (c.is_symbol.ensures.other c.if-is_symbol.false) c.in_ok-many.ensures.exact)).leads;
  counted = (search rules);
}

pub loop-number-smaller : goal.loop-number-smaller
loop-number-smaller c =
    (goes_on _ _ _ _ _ _ c.loop-number.invariant.leads c.in-Some.ensures.exact
    (gives _ _ _ _ (c.is_symbol.ensures.other c.if-is_symbol.false) c.in_ok-many.ensures.exact)).falls

pub returns-then-is_symbol : goal.returns-then-is_symbol
returns-then-is_symbol c = record {
  exact = at_front _ _ _ _ _ _ c.loop-number.invariant.leads c.in-Some.ensures.exact
      (subst (λ n. Advances (part_no c.in-Some.number ∷ waits n) (waits n) c.args.kind c.at_symbol.result) c.as_slice.ensures.value c.at_symbol.ensures.exact);
  counted = ends_front _ _ c.in-Some.number _ c.in-Some.ensures.exact c.loop-number.invariant.counted ∙ symbol_ends c.in-Some.number _ (c.is_symbol.ensures.some (search rules));
}

pub returns : goal.returns
returns c = record {
  exact = at_none _ _ _ _ _ c.loop-number.invariant.leads c.in_default.ensures.exact c.at_end.ensures.exact;
  counted = none_ends _ _ _ c.in_default.ensures.exact c.loop-number.invariant.counted;
}

pub at_symbol-requires-clause-counted : goal.at_symbol-requires-clause-counted
at_symbol-requires-clause-counted c =
    ends_front _ _ c.in-Some.number _ c.in-Some.ensures.exact c.loop-number.invariant.counted ∙ symbol_ends c.in-Some.number _ (c.is_symbol.ensures.some (search rules))
    ∙ ap (λ l. ends_on l 0) (sym c.as_slice.ensures.value)

pub put_rule-requires-clause-few : goal.put_rule-requires-clause-few
put_rule-requires-clause-few c =
    few_for c.loop-number.numbers.items c.loop-number.ends c.loop-number.numbers.len c.loop-number.numbers.cap c.loop-number.invariant.counted
    c.loop-number.numbers.ok.0 c.loop-number.numbers.ok.1 c.loop-number.numbers.small

pub put_rule-requires-clause-counted : goal.put_rule-requires-clause-counted
put_rule-requires-clause-counted c = ends_front _ _ c.in-Some.number _ c.in-Some.ensures.exact c.loop-number.invariant.counted
