use Rattle.std.proofs.Common.{rules, ◌≡◌, [], ◌++◌, ◌∙◌, ap, sym}
use Rattle.std.proofs.lemmas.List.{append-nil}
use Rattle.edi_explain.specs.expected.Awaited.{ends_on}
use Rattle.edi_explain.proofs.expected.Symbols.{gives_rule, none_in, one_less, rule_ends}
use Rattle.edi_explain.proofs.expected.parser.put_rule.Goals as goal

pub returns-then-number-eq0 : goal.returns-then-number-eq0
returns-then-number-eq0 c = record {
  exact = (search rules);
  counted = one_less c.args.numbers.now.items c.args.numbers.now.items c.args.number c.args.ends _ (search rules) (search rules) c.requires.counted (search rules);
}

pub returns-then-is_empty : goal.returns-then-is_empty
returns-then-is_empty c =
    let none : c.taken_at-rule.result.now ≡ [] = none_in c.taken_at-rule.result.now (search rules) in
    let same : c.args.numbers.now.items ≡ c.args.numbers.now.items ++ c.taken_at-rule.result.now =
    sym (append-nil c.args.numbers.now.items) ∙ ap (λ l. c.args.numbers.now.items ++ l) (sym none) in
    record {
      exact = gives_rule c.args.numbers.now.items c.taken_at-rule.result.now c.args.numbers.now.items c.args.number c.args.kind (search rules) same (search rules);
      counted = rule_ends c.args.numbers.now.items c.taken_at-rule.result.now c.args.numbers.now.items c.args.number c.args.ends c.args.ends (search rules) same
          c.requires.counted (ap (λ l. ends_on l c.args.ends) (sym none));
    }

pub returns : goal.returns
returns c = record {
  exact = (search rules);
  counted = rule_ends c.args.numbers.now.items c.taken_at-rule.result.now c.extend_from_slice.new.self.items c.args.number c.args.ends _ (search rules) (search rules) c.requires.counted c.ends_with.ensures.exact;
}
