-- One layer of a tree of the code, seen as the plain tree.
use Rattle.std.proofs.Common.{◌≡◌}
use Rattle.edi_tree.specs.declared.expressions.Factor.TheViews.{out-Args, out-Simple, out-Term, out-Variable}
use Rattle.edi_tree.specs.declared.expressions.Factor.TheFolds.{fold_out-Args, fold_out-Simple, fold_out-Term, fold_out-Variable}
use Rattle.edi_tree.specs.declared.expressions.Args as code_args
use Rattle.edi_tree.specs.declared.expressions.Simple as code_simple
use Rattle.edi_tree.specs.declared.expressions.Term as code_term
use Rattle.edi_tree.specs.declared.expressions.Variable as code_variable
use Rattle.edi_tree.specs.Tree.{Factor, Selector, Addend, Args, args, Comparison, Expr, Multiplier, Simple, simple, Term, term, Variable, variable}
use Rattle.edi_tree.specs.View.{factor_of, simple_of, term_of, expr_of, args_of, exprs_of, addends_of, multipliers_of, selectors_of, variable_of}
use Rattle.edi_tree.specs.View.{factor_step, selector_step, addend_step, args_step, comparison_step, expr_step, multiplier_step, simple_step, term_step}
use Rattle.edi_tree.specs.View.{variable_step}

pub simple_seen : (x : code_simple.Simple) → simple_of x ≡ simple (out-Simple x).sign (term_of (out-Simple x).first) (addends_of (out-Simple x).more)
simple_seen x = fold_out-Simple Factor Selector Addend Args Comparison Expr Multiplier Simple Term Variable factor_step selector_step addend_step args_step
    comparison_step expr_step multiplier_step simple_step term_step variable_step x

pub term_seen : (x : code_term.Term) → term_of x ≡ term (factor_of (out-Term x).first) (multipliers_of (out-Term x).more)
term_seen x = fold_out-Term Factor Selector Addend Args Comparison Expr Multiplier Simple Term Variable factor_step selector_step addend_step args_step
    comparison_step expr_step multiplier_step simple_step term_step variable_step x

pub variable_seen : (x : code_variable.Variable) → variable_of x ≡ variable (out-Variable x).root (selectors_of (out-Variable x).selectors)
variable_seen x = fold_out-Variable Factor Selector Addend Args Comparison Expr Multiplier Simple Term Variable factor_step selector_step addend_step
    args_step comparison_step expr_step multiplier_step simple_step term_step variable_step x

pub args_seen : (x : code_args.Args) → args_of x ≡ args (expr_of (out-Args x).first.value) (exprs_of (out-Args x).more)
args_seen x = fold_out-Args Factor Selector Addend Args Comparison Expr Multiplier Simple Term Variable factor_step selector_step addend_step args_step
    comparison_step expr_step multiplier_step simple_step term_step variable_step x
