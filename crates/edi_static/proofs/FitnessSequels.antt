-- Statements fit, one behind the other, and each in the block where it stands.
use Rattle.std.proofs.Common.{ℕ, suc, ◌+◌, ◌<◌, ◌≤◌, max, Bool, true, ◌==◌, List, length, sym, ◌∙◌, subst, arith}
use Rattle.std.proofs.lemmas.Bool.{eqb-true}
use Rattle.edi_tree.specs.Tree as text
use Rattle.edi_tree.specs.Depth.{list_depth, statements_depth, statement_depth, conditions_depth, condition_depth, else_depth, branch_depth, branches_depth}
use Rattle.edi_unit.specs.Types.{Shape, bool_type, int_type}
use Rattle.edi_unit.specs.Tree as unit
use Rattle.edi_unit.specs.Tree.{Acts, Block}
use Rattle.edi_unit.specs.Fits.{ActFits, ActsFit, ClauseFits, ClausesFit, greatest_levels}
use Rattle.edi_unit.specs.Headings.{Heading}
use Rattle.edi_static.specs.declared.faults.StaticKind.TheVariants as kind
use Rattle.edi_static.specs.Judged.{Judged, gives, ◌>>=◌}
use Rattle.edi_static.specs.Environment.{Environment, here, look_up}
use Rattle.edi_static.specs.Types.{constant}
use Rattle.edi_static.specs.Fitting.{use_of}
use Rattle.edi_static.specs.Expressions.{expression, variable_place}
use Rattle.edi_static.specs.Statements.{After, called, assigned, enter_branch, statement_list, statements, statement, conditions, elses, condition, branch}
use Rattle.edi_static.specs.Statements.{branches}
use Rattle.edi_static.specs.Leaves.{ListHolds, StatementsHolds, StatementHolds, ConditionsHolds, ConditionHolds, ElseHolds, BranchHolds, BranchesHolds}
use Rattle.edi_static.specs.InRange.{branches_count, in_range}
use Rattle.edi_static.proofs.Judging.{Gives, bind, behind, ruled}
use Rattle.edi_static.proofs.Fitness.{EntitySits, Sits, TypedFits, LocatedFits}
use Rattle.edi_static.proofs.FitnessNames.{look_up_sits}
use Rattle.edi_static.proofs.FitnessCalls.{use_fits}
use Rattle.edi_static.proofs.FitnessExpressions.{expression_fits, place_fits}
use Rattle.edi_static.proofs.FitnessOnward.{Onward}
use Rattle.edi_static.proofs.FitnessVariables.{here_inside}
use Rattle.edi_static.proofs.FitnessStatements.{Steps, steps_same, Does, sequel, sequel_clauses, guarded, ActSits, called_fits, entered_sits, Left}
use Rattle.edi_static.proofs.FitnessStatements.{leave_left, Branched, one_branch, more_branches}

-- at a place round which so many further blocks may be opened
pub record Deep (env : Environment) (deeper : ℕ) : Type 0 where
  pub sits : Sits env
  pub inside : 0 < length env.around
  pub deep : length env.around + deeper ≤ greatest_levels

shallower : (env : Environment) (deeper : ℕ) → Deep env deeper → (less : ℕ) → less ≤ deeper → Deep env less
shallower env deeper w less h = record { sits = w.sits; inside = w.inside; deep = let deep = w.deep in omega (arith, deep, h) }

-- behind statements the place is as deep as before
still_deep : (env next : Environment) (deeper : ℕ) → Steps env next → Deep env deeper → Deep next deeper
still_deep env next deeper g w = record {
  sits = g.sits;
  inside = subst (λ a. 0 < length a) (sym g.around) w.inside;
  deep = subst (λ a. length a + deeper ≤ greatest_levels) (sym g.around) w.deep;
}

-- and so behind declarations
pub onward_deep : (m : Bool) (env next : Environment) → Onward m env next → 0 < length env.around → (deeper : ℕ)
    → length env.around + deeper ≤ greatest_levels → Deep next deeper
onward_deep m env next o inside deeper deep = record {
  sits = o.sits;
  inside = subst (λ a. 0 < length a) (sym o.around) inside;
  deep = subst (λ a. length a + deeper ≤ greatest_levels) (sym o.around) deep;
}

-- a list is its first construct with the others behind it
joined : {A B : Type 0} (One : List Shape → List Block → (ℕ → ℕ → Heading) → ℕ → A → Type 0)
    (Each : List Shape → List Block → (ℕ → ℕ → Heading) → ℕ → B → Type 0) (put : A → B → B) →
    ((env : Environment) → here env < length env.blocks → (one : After A) (others : After B) → Does One env one → Does Each one.env others
    → Does Each env (record { what = put one.what others.what; env = others.env })) →
    (env : Environment) (a b : ℕ) → Deep env (max a b) → (m : Judged (After A)) (rest : Environment → Judged (After B)) →
    (Deep env a → Gives (Does One env) m) → ((one : Environment) → Deep one b → Gives (Does Each one) (rest one)) →
    Gives (Does Each env) (m >>= λ one. rest one.env >>= λ others. gives (record { what = put one.what others.what; env = others.env }))
joined One Each put both env a b w m rest first sequels =
    bind (Does One env) (Does Each env) m _ (first (shallower env _ w a (omega arith))) (λ one k.
    bind (Does Each one.env) (Does Each env) (rest one.env) _ (sequels one.env (shallower one.env _ (still_deep env one.env _ k.steps w) b (omega arith)))
    (λ others j. both env (here_inside env w.sits w.inside) one others k j))

mutual
  pub list_does : (l : text.StatementList) (env : Environment) → Deep env (list_depth l) → ListHolds in_range l → Gives (Does ActsFit env) (statement_list l env)
  list_does (text.list s more) env w h =
      joined ActFits ActsFit unit.act_then sequel env (statement_depth s) (statements_depth more) w (statement s env) (statements more)
      (λ u. statement_does s env u h.0) (λ one u. statements_do more one u h.1)

  statements_do : (ss : text.Statements) (env : Environment) → Deep env (statements_depth ss) → StatementsHolds in_range ss → Gives (Does ActsFit env)
      (statements ss env)
  statements_do text.no_statement env w h = record { steps = steps_same env w.sits; fits = tt }
  statements_do (text.next_statement s more) env w h =
      joined ActFits ActsFit unit.act_then sequel env (statement_depth s) (statements_depth more) w (statement s env) (statements more)
      (λ u. statement_does s env u h.0) (λ one u. statements_do more one u h.1)

  statement_does : (s : text.Statement) (env : Environment) → Deep env (statement_depth s) → StatementHolds in_range s → Gives (Does ActFits env) (statement s env)
  statement_does text.skip env w h = record { steps = steps_same env w.sits; fits = tt }
  statement_does (text.assignment v line e) env w h =
      bind (ActSits env) (Does ActFits env) (assigned env v line e) (λ a. gives (record { what = a; env = env }))
      (bind (LocatedFits env) (ActSits env) (variable_place env v) _ (place_fits env w.sits v h.0) (λ l k.
      bind (TypedFits env) (ActSits env) (expression env e) _ (expression_fits env w.sits e h.1) (λ x j.
      ruled (ActSits env) (l.of == x.of) kind.Types line _ (λ same. (k.has_type ∙ eqb-true l.of x.of same ∙ sym j.has_type, k.fits, j.fits)))))
      (λ a k. record { steps = steps_same env w.sits; fits = k })
  statement_does (text.call name xs) env w h =
      bind (EntitySits env) (Does ActFits env) (look_up env name) _ (look_up_sits env w.sits name) (λ means k.
      bind (ActSits env) (Does ActFits env) (called env name.line (use_of env means) xs) (λ a. gives (record { what = a; env = env }))
      (called_fits env w.sits name.line (use_of env means) xs (use_fits env w.sits means k) h)
      (λ a j. record { steps = steps_same env w.sits; fits = j }))
  statement_does (text.if_statement cs) env w h =
      bind (Does ClausesFit env) (Does ActFits env) _ _ (conditions_do cs env (shallower env _ w _ (omega arith)) h)
      (λ done k. record { steps = k.steps; fits = k.fits })
  statement_does (text.while_statement cs) env w h =
      bind (Does ClausesFit env) (Does ActFits env) _ _ (conditions_do cs env (shallower env _ w _ (omega arith)) h)
      (λ done k. record { steps = k.steps; fits = k.fits })
  statement_does (text.when_statement line cs) env w h =
      bind (Does ClausesFit env) (Does ActFits env) _ _ (conditions_do cs env (shallower env _ w _ (omega arith)) h)
      (λ done k. record { steps = k.steps; fits = k.fits })
  statement_does (text.cobegin line b bs) env w h =
      bind (Branched env (branches_count bs)) (Does ActFits env) _ _
      (bind (Does ActsFit (enter_branch env)) (Branched env (branches_count bs)) _ _ (branch_does b env (shallower env _ w _ (omega arith)) h.1.0) (λ one k.
      branches_do bs env one (shallower env _ w _ (omega arith)) h.1.1 k))
      (λ done k. let many = k.many in record { steps = k.steps; fits = (omega (arith, many), omega (arith, many, h.0), k.fits) })

  conditions_do : (cs : text.Conditions) (env : Environment) → Deep env (conditions_depth cs) → ConditionsHolds in_range cs → Gives (Does ClausesFit env)
      (conditions cs env)
  conditions_do (text.conditions c more) env w h =
      joined ClauseFits ClausesFit unit.clause_then sequel_clauses env (condition_depth c) (else_depth more) w (condition c env) (elses more)
      (λ u. condition_does c env u h.0) (λ one u. elses_do more one u h.1)

  elses_do : (cs : text.Else) (env : Environment) → Deep env (else_depth cs) → ElseHolds in_range cs → Gives (Does ClausesFit env) (elses cs env)
  elses_do text.no_else env w h = record { steps = steps_same env w.sits; fits = tt }
  elses_do (text.next_else c more) env w h =
      joined ClauseFits ClausesFit unit.clause_then sequel_clauses env (condition_depth c) (else_depth more) w (condition c env) (elses more)
      (λ u. condition_does c env u h.0) (λ one u. elses_do more one u h.1)

  condition_does : (c : text.Condition) (env : Environment) → Deep env (condition_depth c) → ConditionHolds in_range c → Gives (Does ClauseFits env) (condition c env)
  condition_does (text.condition e line s) env w h =
      bind (TypedFits env) (Does ClauseFits env) (expression env e) _ (expression_fits env w.sits e h.0) (λ c k.
      ruled (Does ClauseFits env) (c.of == bool_type) kind.Types line _ (λ is.
      bind (Does ActsFit env) (Does ClauseFits env) (statement_list s env) _ (list_does s env (shallower env _ w _ (omega arith)) h.1)
      (λ done j. guarded env (here_inside env w.sits w.inside) c done w.sits k (eqb-true c.of bool_type is) j)))

  branch_does : (b : text.Branch) (env : Environment) → Deep env (suc (branch_depth b)) → BranchHolds in_range b
      → Gives (Does ActsFit (enter_branch env)) (branch b env)
  branch_does (text.branch c line s) env w h =
      behind (Does ActsFit (enter_branch env)) (constant env c) _ (λ k.
      ruled (Does ActsFit (enter_branch env)) (k.of == int_type) kind.Types line _ (λ is.
      let deep = w.deep in
      list_does s (enter_branch env)
      (record { sits = entered_sits env w.sits w.inside (omega (arith, deep)); inside = omega arith; deep = omega (arith, deep) }) h.1))

  branches_do : (bs : text.Branches) (before : Environment) (done : After Acts) → Deep before (suc (branches_depth bs)) → BranchesHolds in_range bs →
      Does ActsFit (enter_branch before) done → Gives (Branched before (branches_count bs)) (branches bs before done)
  branches_do (text.no_branch end) before done w h k =
      bind (Left before) (Branched before 0) _ _ (leave_left before end done w.sits w.inside k) (one_branch before)
  branches_do (text.next_branch also b bs) before done w h k =
      bind (Left before) (Branched before (suc (branches_count bs))) _ _ (leave_left before also done w.sits w.inside k) (λ one j.
      let u : Deep one.env (suc (branches_depth (text.next_branch also b bs))) = still_deep before one.env _ j.steps w in
      bind (Branched one.env (branches_count bs)) (Branched before (suc (branches_count bs))) _ _
      (bind (Does ActsFit (enter_branch one.env)) (Branched one.env (branches_count bs)) _ _
      (branch_does b one.env (shallower one.env _ u _ (omega arith)) h.0) (λ next i.
      branches_do bs one.env next (shallower one.env _ u _ (omega arith)) h.1 i))
      (λ others i. more_branches before (branches_count bs) one others j i))
