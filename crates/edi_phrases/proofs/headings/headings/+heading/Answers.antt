use Rattle.std.proofs.Common.{rules, ℕ, List, ◌∷◌, ◌∙◌, ◌<◌, [], map, ap, refl, sym, arith, ◌≡◌, Some}
use Rattle.std.proofs.lemmas.Bool.{ne_eqb, eqb-true}
use Rattle.edi_lex.specs.declared.symbol.Symbol.TheVariants as is
use Rattle.edi_lex.specs.declared.symbol.Mark.{Mark}
use Rattle.edi_tree.specs.Stands.{just, name_mark}
use Rattle.edi_tree.specs.Levels as elements
use Rattle.edi_tree.specs.View as view
use Rattle.edi_grammar.specs.Grammar as item
use Rattle.edi_grammar.specs.Grammar.{token, part}
use Rattle.edi_grammar.specs.Parser.{rule_at}
use Rattle.edi_grammar.specs.Kinds as kind
use Rattle.edi_grammar.specs.Kind.{front}
use Rattle.edi_grammar.specs.Rules as g
use Rattle.edi_grammar.specs.Edison.{edison}
use Rattle.edi_phrases.specs.Words.{at_line}
use Rattle.edi_phrases.specs.Parses.{Goes}
use Rattle.edi_phrases.proofs.Moves.{at_exit, waits, over_mark, over_end, over_part, into, written, lacks, refused, halts, alone_halts, alone_passes}
use Rattle.edi_phrases.proofs.Opened.{over_front, open_front}
use Rattle.edi_phrases.proofs.headings.Pushes as push
use Rattle.edi_phrases.proofs.headings.Seen as seen
use Rattle.edi_phrases.proofs.headings.headings.+heading.Goals as goal

param_var : rule_at edison g.Param kind.Var ≡ Some (token kind.Var ∷ part g.Group ∷ [])
param_var = refl

param_proc : rule_at edison g.Param kind.Proc ≡ Some (token kind.Proc ∷ part g.Head ∷ item.level_end ∷ [])
param_proc = refl

params_open : rule_at edison g.Params kind.Open ≡ Some (token kind.Open ∷ part g.Param ∷ part g.MoreParams ∷ token kind.Close ∷ item.level_end ∷ [])
params_open = refl

moreparams_semicolon : rule_at edison g.MoreParams kind.Semicolon ≡ Some (token kind.Semicolon ∷ part g.Param ∷ part g.MoreParams ∷ [])
moreparams_semicolon = refl

head_name : rule_at edison g.Head kind.Name ≡ Some (token kind.Name ∷ part g.Params ∷ part g.Result ∷ [])
head_name = refl

-- over the `(` of some parameters
some_opened : {n line : ℕ} {p q : List Mark} → p ≡ at_line is.Open line ∷ q → n < 64
    → Goes g.Params n (λ es. elements.word is.Open ∷ es) (part g.Param ∷ part g.MoreParams ∷ token kind.Close ∷ item.level_end ∷ []) p q
some_opened found room = open_front g.Params is.Open (just is.Open) params_open (omega (arith, room)) (refl, tt) (waits g.Params _ _) found

pub parse_param-returns-in_err-group-clause-halts : goal.parse_param-returns-in_err-group-clause-halts
parse_param-returns-in_err-group-clause-halts t c = at_exit _ c.from_residual.ensures.1 (halts (over_front g.Param is.Var (just is.Var) param_var refl
    (refl, tt) (waits g.Param _ _) c.in-Some.ensures.found) (omega arith) c.in_err-group.ensures.halts)

pub parse_param-returns-in-Some-clause-passes : goal.parse_param-returns-in-Some-clause-passes
parse_param-returns-in-Some-clause-passes t c = written
    (over_part (over_front g.Param is.Var (just is.Var) param_var refl (refl, tt) (waits g.Param _ _) c.in-Some.ensures.found) c.in_ok-group.ensures.passes
    (omega arith)) (seen.var_seen c.in_ok-group.group)

pub parse_param-returns-in_err-behind_proc-clause-halts : goal.parse_param-returns-in_err-behind_proc-clause-halts
parse_param-returns-in_err-behind_proc-clause-halts t c = at_exit _ c.from_residual-in_err-behind_proc.ensures.1
    (refused (into (token kind.Proc ∷ part g.Head ∷ item.level_end ∷ []) (waits g.Param _ _) (ap (λ a. rule_at edison g.Param a)
    (eqb-true (front c.args.marks.now) kind.Proc (sym c.at.ensures.exact ∙ c.if-at.true)))) refl (omega arith) c.in_err-behind_proc.ensures.none)

pub parse_param-returns-in_err-heading-clause-halts : goal.parse_param-returns-in_err-heading-clause-halts
parse_param-returns-in_err-heading-clause-halts t c = at_exit _ c.from_residual-in_err-heading.ensures.1
    (halts (open_front g.Param is.Proc (just is.Proc) param_proc (omega (arith, c.in_ok-behind_proc.ensures.room)) (refl, tt) (waits g.Param _ _)
    c.in_ok-behind_proc.ensures.found) (omega arith) c.in_err-heading.ensures.halts)

pub parse_param-returns-then-at-clause-passes : goal.parse_param-returns-then-at-clause-passes
parse_param-returns-then-at-clause-passes t c = written
    (over_end (over_part (open_front g.Param is.Proc (just is.Proc) param_proc (omega (arith, c.in_ok-behind_proc.ensures.room)) (refl, tt) (waits g.Param _ _)
    c.in_ok-behind_proc.ensures.found) c.in_ok-heading.ensures.passes (omega arith))) (seen.procedure_seen c.in_ok-heading.heading)

pub parse_param-returns-in_err-value-clause-halts : goal.parse_param-returns-in_err-value-clause-halts
parse_param-returns-in_err-value-clause-halts t c = at_exit _ c.from_residual-in_err-value.ensures.1
    (alone_halts g.Group (rw (ne_eqb (front _) kind.Var c.in_default.ensures.none, sym c.at.ensures.exact ∙ c.if-at.false) refl) c.in_err-value.ensures.halts)

pub parse_param-returns-clause-passes : goal.parse_param-returns-clause-passes
parse_param-returns-clause-passes t c = alone_passes g.Group (rw (ne_eqb (front _) kind.Var c.in_default.ensures.none, sym c.at.ensures.exact ∙ c.if-at.false)
    refl) c.in_ok-value.ensures.passes (seen.value_seen c.in_ok-value.value)

pub parse_some_params-returns-in_err-behind_open-clause-halts : goal.parse_some_params-returns-in_err-behind_open-clause-halts
parse_some_params-returns-in_err-behind_open-clause-halts t c = at_exit _ c.from_residual.ensures.1
    (refused (into (token kind.Open ∷ part g.Param ∷ part g.MoreParams ∷ token kind.Close ∷ item.level_end ∷ []) (waits g.Params _ _)
    (ap (λ a. rule_at edison g.Params a) c.requires.chosen ∙ params_open)) refl (omega arith) c.in_err-behind_open.ensures.none)

pub parse_some_params-returns-in_err-first-clause-halts : goal.parse_some_params-returns-in_err-first-clause-halts
parse_some_params-returns-in_err-first-clause-halts t c = at_exit _ c.from_residual-in_err-first.ensures.1
    (halts (some_opened c.in_ok-behind_open.ensures.found c.in_ok-behind_open.ensures.room) (omega arith) c.in_err-first.ensures.halts)

pub parse_some_params-loop-behind_semicolon-init : goal.parse_some_params-loop-behind_semicolon-init
parse_some_params-loop-behind_semicolon-init t c =
    record {
      some = search rules;
      goes = written (over_part (some_opened c.in_ok-behind_open.ensures.found c.in_ok-behind_open.ensures.room) c.in_ok-first.ensures.passes (omega arith))
          (push.open_params_first view.param_of c.push.new.self.items c.in_ok-first.first (search rules));
      shorter = search rules;
    }

pub parse_some_params-returns-in_err-param-clause-halts : goal.parse_some_params-returns-in_err-param-clause-halts
parse_some_params-returns-in_err-param-clause-halts t c = at_exit _ c.from_residual-in_err-param.ensures.1
    (halts (over_front g.MoreParams is.Semicolon (just is.Semicolon) moreparams_semicolon refl (refl, tt) (c.loop-behind_semicolon.invariant.goes)
    c.in-Some.ensures.found) (omega arith) c.in_err-param.ensures.halts)

pub parse_some_params-loop-behind_semicolon-preserved : goal.parse_some_params-loop-behind_semicolon-preserved
parse_some_params-loop-behind_semicolon-preserved t c =
    record {
      some = search rules;
      goes = written
          (over_part (over_front g.MoreParams is.Semicolon (just is.Semicolon) moreparams_semicolon refl (refl, tt) (c.loop-behind_semicolon.invariant.goes)
          c.in-Some.ensures.found) c.in_ok-param.ensures.passes (omega arith))
          (push.open_params_push view.param_of c.loop-behind_semicolon.params.items c.push-in-Some.new.self.items c.in_ok-param.param
          c.loop-behind_semicolon.invariant.some (search rules));
      shorter = omega (arith, c.loop-behind_semicolon.invariant.shorter, c.in-Some.ensures.shorter, c.in_ok-param.ensures.shorter);
    }

pub parse_some_params-returns-in_err-rest-clause-halts : goal.parse_some_params-returns-in_err-rest-clause-halts
parse_some_params-returns-in_err-rest-clause-halts t c = at_exit _ c.from_residual-in_err-rest.ensures.1
    (lacks (into ([]) (c.loop-behind_semicolon.invariant.goes) (rw (ne_eqb (front _) kind.Semicolon c.in_default.ensures.none) refl))
    c.in_err-rest.ensures.none)

pub parse_some_params-returns-clause-passes : goal.parse_some_params-returns-clause-passes
parse_some_params-returns-clause-passes t c = written
    (over_end (over_mark (just is.Close) (at_line is.Close c.in_ok-rest.field-0-0)
    (into ([]) (c.loop-behind_semicolon.invariant.goes) (rw (ne_eqb (front _) kind.Semicolon c.in_default.ensures.none) refl)) c.in_ok-rest.ensures.found refl
    refl (refl, tt))) (push.open_params_end view.param_of c.loop-behind_semicolon.params.items _ c.loop-behind_semicolon.invariant.some (search rules))

pub parse_params-returns-clause-passes : goal.parse_params-returns-clause-passes
parse_params-returns-clause-passes t c = written (into ([]) (waits g.Params _ _) (rw (sym c.at.ensures.exact ∙ c.if-at.false) refl))
    (λ es. ap (λ l. elements.params_elements (view.optional_params (map view.param_of l)) es) (sym c.new.ensures.exact))

pub parse_head-returns-in_err-name-clause-halts : goal.parse_head-returns-in_err-name-clause-halts
parse_head-returns-in_err-name-clause-halts t c = at_exit _ c.from_residual.ensures.1 (lacks (into (token kind.Name ∷ part g.Params ∷ part g.Result ∷ [])
    (waits g.Head _ _) (refl)) c.in_err-name.ensures.none)

pub parse_head-returns-in_err-params-clause-halts : goal.parse_head-returns-in_err-params-clause-halts
parse_head-returns-in_err-params-clause-halts t c = at_exit _ c.from_residual-in_err-params.ensures.1
    (halts (over_front g.Head (is.Name c.in_ok-name.name.text) (name_mark c.in_ok-name.name) head_name refl (refl, refl) (waits g.Head _ _)
    c.in_ok-name.ensures.found) (omega arith) c.in_err-params.ensures.halts)

pub parse_head-returns-in_err-result_name-clause-halts : goal.parse_head-returns-in_err-result_name-clause-halts
parse_head-returns-in_err-result_name-clause-halts t c = at_exit _ c.from_residual-in_err-result_name.ensures.1
    (halts (over_part (over_front g.Head (is.Name c.in_ok-name.name.text) (name_mark c.in_ok-name.name) head_name refl (refl, refl) (waits g.Head _ _)
    c.in_ok-name.ensures.found) c.in_ok-params.ensures.passes (omega arith)) (omega arith) c.in_err-result_name.ensures.halts)

pub parse_head-returns-clause-passes : goal.parse_head-returns-clause-passes
parse_head-returns-clause-passes t c = written
    (over_part (over_part (over_front g.Head (is.Name c.in_ok-name.name.text) (name_mark c.in_ok-name.name) head_name refl (refl, refl) (waits g.Head _ _)
    c.in_ok-name.ensures.found) c.in_ok-params.ensures.passes (omega arith)) c.in_ok-result_name.ensures.passes (omega arith))
    (seen.head_seen c.in_ok-name.name c.in_ok-params.params c.in_ok-result_name.result_name)
