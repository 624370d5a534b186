-- Statements: a tree whose elements fit is read.
use Rattle.std.proofs.Common.{List, ◌∷◌, Some, None, refl, sym, ap, ◌∙◌, subst}
use Rattle.edi_lex.specs.declared.symbol.Symbol.TheVariants as is
use Rattle.edi_tree.specs.declared.expressions.Root.TheVariants as root
use Rattle.edi_tree.specs.Tree.{variable, StatementList, list, Statements, no_statement, next_statement, Statement, skip, assignment, call, if_statement}
use Rattle.edi_tree.specs.Tree.{while_statement, when_statement, cobegin, Conditions, conditions, Condition, condition, Else, no_else, next_else, Branch}
use Rattle.edi_tree.specs.Tree.{branch, Branches, no_branch, next_branch}
use Rattle.edi_tree.specs.Levels.{Element, level_end, word, kept, branch_elements, condition_elements, conditions_elements, else_elements, expr_elements}
use Rattle.edi_tree.specs.Levels.{list_elements, statement_elements, statements_elements}
use Rattle.edi_grammar.specs.Kind.{kind_of}
use Rattle.edi_grammar.specs.Rules as g
use Rattle.edi_grammar.specs.derivation.Parts.{After, called, assigned, alone, after_elements, open_branches}
use Rattle.edi_grammar.specs.derivation.Fits.{Items, Fit}
use Rattle.edi_grammar.proofs.derivation.Builds.{name_in, statement_with}
use Rattle.edi_grammar.proofs.derivation.Stands.{name_is}
use Rattle.edi_grammar.proofs.derivation.Splits.{branches_split}
use Rattle.edi_grammar.proofs.derivation.Reading.{done, past, past_end, past_part, takes, takes_part, takes_parts, takes_behind, Takes}
use Rattle.edi_grammar.proofs.derivation.SmallTakes.{constant_takes}
use Rattle.edi_grammar.proofs.derivation.ExprTakes.{expr_takes, args_takes, selectors_takes}

pub after_takes : (t : After) (es : List Element) (items : Items) → Fit (after_elements t es) items → Takes g.After t es items
after_takes (called a) es items h = takes_part g.After 0 (args_takes a es items h) (λ P made. ((a, tt), refl, made))
after_takes (assigned ss line e) es items h = let p1 = selectors_takes ss (kept is.Becomes line ∷ expr_elements e es) items h in
    let p2 = expr_takes e es p1.fits.1 p1.fits.4 in takes g.After 1 (past_part p1 (past p1.fits.2 (ap kind_of p1.fits.3.0) (past_part p2 (done p2.fits))))
    (λ P made. ((ss, (Some p1.fits.0, (e, tt))), ap (λ z. assigned ss z e) (sym p1.fits.3.1), made))
after_takes alone es items h = takes g.After 2 (done h) (λ P made. (tt, refl, made))

mutual
  pub list_takes : (t : StatementList) (es : List Element) (items : Items) → Fit (list_elements t es) items → Takes g.StatementList t es items
  list_takes (list s ss) es items h = takes_parts g.StatementList 0 (statement_takes s _ items h) (statements_takes ss es)
      (λ P made. ((s, (ss, tt)), refl, made))

  pub statements_takes : (t : Statements) (es : List Element) (items : Items) → Fit (statements_elements t es) items → Takes g.Statements t es items
  statements_takes (next_statement s ss) es items h = takes_behind g.Statements 0 h.2 (ap kind_of h.3.0) (statement_takes s _ h.1 h.4) (statements_takes ss es)
      (λ P made. ((Some h.0, (s, (ss, tt))), refl, made))
  statements_takes no_statement es items h = takes g.Statements 1 (done h) (λ P made. (tt, refl, made))

  pub statement_takes : (t : Statement) (es : List Element) (items : Items) → Fit (statement_elements t es) items → Takes g.Statement t es items
  statement_takes skip es items h = takes g.Statement 0 (past h.2 (ap kind_of h.3.0) (done h.4)) (λ P made. ((Some h.0, tt), refl, made))
  statement_takes (call n (Some a)) es items h = let p1 = after_takes (called a) es h.1 h.4 in
      takes g.Statement 1 (past h.2 (ap kind_of h.3.0) (past_part p1 (done p1.fits)))
      (λ P made. ((Some h.0, (called a, tt)), ap (λ z. statement_with z (called a)) (name_is n h.0 h.3), made))
  statement_takes (assignment (variable (root.Name n) ss) line e) es items h = let p1 = after_takes (assigned ss line e) es h.1 h.4 in
      takes g.Statement 1 (past h.2 (ap kind_of h.3.0) (past_part p1 (done p1.fits)))
      (λ P made. ((Some h.0, (assigned ss line e, tt)), ap (λ z. statement_with z (assigned ss line e)) (name_is n h.0 h.3), made))
  statement_takes (call n None) es items h = let p1 = after_takes alone es h.1 h.4 in
      takes g.Statement 1 (past h.2 (ap kind_of h.3.0) (past_part p1 (done p1.fits)))
      (λ P made. ((Some h.0, (alone, tt)), ap (λ z. statement_with z alone) (name_is n h.0 h.3), made))
  statement_takes (assignment (variable (root.Val n) ss) line e) es items h = let p1 = selectors_takes ss (kept is.Becomes line ∷ expr_elements e es) h.4.1
      h.4.4 in let p2 = expr_takes e es p1.fits.1 p1.fits.4 in
      takes g.Statement 2 (past h.2 (ap kind_of h.3.0)
      (past h.4.2 (ap kind_of h.4.3.0) (past_part p1 (past p1.fits.2 (ap kind_of p1.fits.3.0) (past_part p2 (done p2.fits))))))
      (λ P made. (
        (Some h.0, (Some h.4.0, (ss, (Some p1.fits.0, (e, tt))))),
        ap (λ z. assignment (variable (root.Val z) ss) line e) (name_is n h.4.0 h.4.3)
            ∙ ap (λ z. assignment (variable (root.Val (name_in (Some h.4.0))) ss) z e) (sym p1.fits.3.1),
        made,
      ))
  statement_takes (if_statement cs) es items h = let p1 = conditions_takes cs (word is.End ∷ level_end ∷ es) h.1 h.4 in
      takes g.Statement 3 (past h.2 (ap kind_of h.3.0) (past_part p1 (past p1.fits.2 (ap kind_of p1.fits.3.0) (past_end p1.fits.4.1 (done p1.fits.4.2)))))
      (λ P made. ((Some h.0, (cs, (Some p1.fits.0, tt))), refl, made))
  statement_takes (while_statement cs) es items h = let p1 = conditions_takes cs (word is.End ∷ level_end ∷ es) h.1 h.4 in
      takes g.Statement 4 (past h.2 (ap kind_of h.3.0) (past_part p1 (past p1.fits.2 (ap kind_of p1.fits.3.0) (past_end p1.fits.4.1 (done p1.fits.4.2)))))
      (λ P made. ((Some h.0, (cs, (Some p1.fits.0, tt))), refl, made))
  statement_takes (when_statement line cs) es items h = let p1 = conditions_takes cs (word is.End ∷ level_end ∷ es) h.1 h.4 in
      takes g.Statement 5 (past h.2 (ap kind_of h.3.0) (past_part p1 (past p1.fits.2 (ap kind_of p1.fits.3.0) (past_end p1.fits.4.1 (done p1.fits.4.2)))))
      (λ P made. ((Some h.0, (cs, (Some p1.fits.0, tt))), ap (λ z. when_statement z cs) (sym h.3.1), made))
  statement_takes (cobegin line b bs) es items h = let h = subst (λ l. Fit (kept is.Cobegin line ∷ branch_elements b l) items) (branches_split bs es) h in
      let p1 = branch_takes b (open_branches bs (level_end ∷ es)) h.1 h.4 in let p2 = branches_takes bs (level_end ∷ es) p1.rest p1.fits in
      takes g.Statement 6 (past h.2 (ap kind_of h.3.0) (past_part p1 (past_part p2 (past_end p2.fits.1 (done p2.fits.2)))))
      (λ P made. ((Some h.0, (b, (bs, tt))), ap (λ z. cobegin z b bs) (sym h.3.1), made))

  pub conditions_takes : (t : Conditions) (es : List Element) (items : Items) → Fit (conditions_elements t es) items → Takes g.Conditions t es items
  conditions_takes (conditions c cs) es items h = takes_parts g.Conditions 0 (condition_takes c _ items h) (else_takes cs es)
      (λ P made. ((c, (cs, tt)), refl, made))

  pub condition_takes : (t : Condition) (es : List Element) (items : Items) → Fit (condition_elements t es) items → Takes g.Condition t es items
  condition_takes (condition e line l) es items h = let p1 = expr_takes e (kept is.Do line ∷ list_elements l es) items h in
      let p2 = list_takes l es p1.fits.1 p1.fits.4 in
      takes g.Condition 0 (past_part p1 (past p1.fits.2 (ap kind_of p1.fits.3.0) (past_part p2 (done p2.fits))))
      (λ P made. ((e, (Some p1.fits.0, (l, tt))), ap (λ z. condition e z l) (sym p1.fits.3.1), made))

  pub else_takes : (t : Else) (es : List Element) (items : Items) → Fit (else_elements t es) items → Takes g.Else t es items
  else_takes (next_else c cs) es items h = takes_behind g.Else 0 h.2 (ap kind_of h.3.0) (condition_takes c _ h.1 h.4) (else_takes cs es)
      (λ P made. ((Some h.0, (c, (cs, tt))), refl, made))
  else_takes no_else es items h = takes g.Else 1 (done h) (λ P made. (tt, refl, made))

  pub branch_takes : (t : Branch) (es : List Element) (items : Items) → Fit (branch_elements t es) items → Takes g.Branch t es items
  branch_takes (branch c line l) es items h = let p1 = constant_takes c (kept is.Do line ∷ list_elements l es) items h in
      let p2 = list_takes l es p1.fits.1 p1.fits.4 in takes g.Branch 0 (past_part p1 (past p1.fits.2 (ap kind_of p1.fits.3.0) (past_part p2 (done p2.fits))))
      (λ P made. ((c, (Some p1.fits.0, (l, tt))), ap (λ z. branch c z l) (sym p1.fits.3.1), made))

  pub branches_takes : (t : Branches) (es : List Element) (items : Items) → Fit (open_branches t es) items → Takes g.Branches t es items
  branches_takes (next_branch line b bs) es items h = takes_behind g.Branches 0 h.2 (ap kind_of h.3.0) (branch_takes b _ h.1 h.4) (branches_takes bs es)
      (λ P made. ((Some h.0, (b, (bs, tt))), ap (λ z. next_branch z b bs) (sym h.3.1), made))
  branches_takes (no_branch line) es items h =
      takes g.Branches 1 (past h.2 (ap kind_of h.3.0) (done h.4)) (λ P made. ((Some h.0, tt), ap (λ z. no_branch z) (sym h.3.1), made))
