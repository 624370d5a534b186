-- The names that are used in accepted statements are visible, and statements declare none.
use Rattle.std.proofs.Common.{◌≡◌, ℕ, true, is_some, List, length, nat_le, Option, Some, None, subst}
use Rattle.edi_scope.specs.Scope.{Scope, visible}
use Rattle.edi_tree.specs.Tree as text
use Rattle.edi_unit.specs.Types.{greatest_size}
use Rattle.edi_unit.specs.Tree.{Acts}
use Rattle.edi_unit.specs.Need.{need}
use Rattle.edi_unit.specs.Headings.{heading_formals}
use Rattle.edi_static.specs.declared.faults.StaticKind.TheVariants as kind
use Rattle.edi_static.specs.Judged.{Judged, gives, faults, ◌>>=◌}
use Rattle.edi_static.specs.Environment.{Environment}
use Rattle.edi_static.specs.Fitting.{Use, constructs, calls, halts, neither, use_of}
use Rattle.edi_static.specs.Statements as spec
use Rattle.edi_static.specs.Statements.{After, add_statements, close_block, leave_branch, enter_branch}
use Rattle.edi_static.proofs.Judging.{Gives, bind, ruled}
use Rattle.edi_static.specs.Leaves.{StatementsHolds, StatementHolds, ConditionsHolds, ConditionHolds, ElseHolds, BranchHolds, BranchesHolds}
use Rattle.edi_static.specs.Leaves.{OptionalArgsHolds, VariableHolds, ExprHolds}
use Rattle.edi_static.specs.names.Uses.{is_among, ListKnown, known_by}
use Rattle.edi_static.proofs.names.Shows.{Holds, Shows, always, first, over, two}
use Rattle.edi_static.proofs.names.UsesExpressions.{Within, look_known, constant_known, expression_known, place_known, all_arguments_known}

-- these scopes, before and behind
module _ (scopes : List Scope) (names : List (List ℕ)) (among : (name : List ℕ) → is_some (visible scopes name) ≡ true → is_among names name ≡ true) where
  abbrev pub Same : Environment → Type 0
  Same env = env.scopes ≡ scopes

  within : (env : Environment) → Same env → Within names env
  within env e = λ name h. among name (subst (λ (s : List Scope). is_some (visible s name) ≡ true) e h)

  abbrev Stays : {A : Type 0} → Type 0 → Judged (After A) → Type 0
  Stays P m = Gives (λ a. P × Same a.env) m

  record Keeps {A : Type 0} (P : Type 0) (m : Judged (After A)) : Type 0 where
    kept : Stays P m

  -- ---- one construct behind another

  pairs : {A : Type 0} (P Q : Type 0) (m : Judged (After A)) → P → Stays Q m → Stays (P × Q) m
  pairs P Q (gives a) p h = ((p, h.0), h.1)
  pairs P Q (faults why line) p h = tt

  lefts : {A : Type 0} (P : Type 0) (m : Judged (After A)) → P → Stays (Unit {0}) m → Stays P m
  lefts P (gives a) p h = (p, h.1)
  lefts P (faults why line) p h = tt

  boths : {A B : Type 0} (P Q : Type 0) (m : Judged (After A)) (f : After A → Judged (After B)) → Stays P m → ((a : After A) → Same a.env → Keeps Q (f a))
      → Stays (P × Q) (m >>= f)
  boths P Q (gives a) f h k = pairs P Q (f a) h.0 (k a h.1).kept
  boths P Q (faults why line) f h k = tt

  both : {A B P Q : Type 0} {m : Judged (After A)} {f : After A → Judged (After B)} → Keeps P m → ((a : After A) → Same a.env → Keeps Q (f a))
      → Keeps (P × Q) (m >>= f)
  both {P = P} {Q = Q} {m = m} {f = f} h k = record { kept = boths P Q m f h.kept k }

  ends : {A B : Type 0} (P : Type 0) (m : Judged (After A)) (f : After A → Judged (After B)) → Stays P m
      → ((a : After A) → Same a.env → Keeps (Unit {0}) (f a)) → Stays P (m >>= f)
  ends P (gives a) f h k = lefts P (f a) h.0 (k a h.1).kept
  ends P (faults why line) f h k = tt

  -- what stands behind uses no name
  alone : {A B P : Type 0} {m : Judged (After A)} {f : After A → Judged (After B)} → Keeps P m → ((a : After A) → Same a.env → Keeps (Unit {0}) (f a))
      → Keeps P (m >>= f)
  alone {P = P} {m = m} {f = f} h k = record { kept = ends P m f h.kept k }

  afters : {A B : Type 0} (P Q : Type 0) (m : Judged A) (f : A → Judged (After B)) → Holds P m → ((a : A) → Keeps Q (f a)) → Stays (P × Q) (m >>= f)
  afters P Q (gives a) f h k = pairs P Q (f a) h (k a).kept
  afters P Q (faults why line) f h k = tt

  behinds : {A B : Type 0} (P Q : Type 0) (m : Judged (After A)) (f : After A → Judged (After B)) → Stays P m → ((a : After A) → Same a.env → Keeps Q (f a))
      → Stays Q (m >>= f)
  behinds P Q (gives a) f h k = (k a h.1).kept
  behinds P Q (faults why line) f h k = tt

  -- what stands in front uses no name
  behind : {A B P Q : Type 0} {m : Judged (After A)} {f : After A → Judged (After B)} → Keeps P m → ((a : After A) → Same a.env → Keeps Q (f a))
      → Keeps Q (m >>= f)
  behind {P = P} {Q = Q} {m = m} {f = f} h k = record { kept = behinds P Q m f h.kept k }

  -- statements behind a part that leaves nothing known
  after : {A B P Q : Type 0} {m : Judged A} {f : A → Judged (After B)} → Shows P m → ((a : A) → Keeps Q (f a)) → Keeps (P × Q) (m >>= f)
  after {P = P} {Q = Q} {m = m} {f = f} h k = record { kept = afters P Q m f h.shown k }

  only_parts : {A B : Type 0} (P : Type 0) (m : Judged A) (f : A → Judged (After B)) → Holds P m → ((a : A) → Keeps (Unit {0}) (f a)) → Stays P (m >>= f)
  only_parts P (gives a) f h k = lefts P (f a) h (k a).kept
  only_parts P (faults why line) f h k = tt

  only : {A B P : Type 0} {m : Judged A} {f : A → Judged (After B)} → Shows P m → ((a : A) → Keeps (Unit {0}) (f a)) → Keeps P (m >>= f)
  only {P = P} {m = m} {f = f} h k = record { kept = only_parts P m f h.shown k }

  passes : {A B : Type 0} (Q : Type 0) (m : Judged A) (f : A → Judged (After B)) → ((a : A) → Keeps Q (f a)) → Stays Q (m >>= f)
  passes Q (gives a) f k = (k a).kept
  passes Q (faults why line) f k = tt

  pass : {A B Q : Type 0} (m : Judged A) {f : A → Judged (After B)} → ((a : A) → Keeps Q (f a)) → Keeps Q (m >>= f)
  pass {Q = Q} m {f = f} k = record { kept = passes Q m f k }

  done : {A : Type 0} {a : After A} → Same a.env → Keeps (Unit {0}) (gives a)
  done e = record { kept = (tt, e) }

  -- ---- statements

  called_known : (env : Environment) → Same env → (line : ℕ) (use' : Use) (x : Option text.Args) → Shows (OptionalArgsHolds (known_by names) x)
      (spec.called env line use' x)
  called_known env e line (calls c) None = always (spec.called env line (calls c) None) tt
  called_known env e line (calls c) (Some xs) = over _ (λ _. first _ (all_arguments_known env names (within env e) line xs (heading_formals c.asks)))
  called_known env e line halts None = record { shown = tt }
  called_known env e line halts (Some xs) = record { shown = tt }
  called_known env e line (constructs of) x = record { shown = tt }
  called_known env e line neither x = record { shown = tt }

  assigned_known : (env : Environment) → Same env → (v : text.Variable) (line : ℕ) (x : text.Expr) → Shows (VariableHolds (known_by names) v × ExprHolds (known_by names) x)
      (spec.assigned env v line x)
  assigned_known env e v line x = two (place_known env names (within env e) v) (λ l. first _ (expression_known env names (within env e) x))

  pub closed : (n : ℕ) (s : Acts) (line : ℕ) (env : Environment) → Same env → Gives Same (close_block n s line env)
  closed n s line env e =
      let next : Environment = add_statements n s env in
      ruled Same (nat_le (need next.types next.blocks n) greatest_size) kind.Range line _ (λ _. e)

  left : (before : Environment) (line : ℕ) (a : After Acts) → Same a.env → Keeps (Unit {0}) (leave_branch before line a)
  left before line a e =
      record {
        kept = bind Same (λ b. Unit {0} × Same b.env) (close_block (length before.blocks) a.what line a.env) _
            (closed (length before.blocks) a.what line a.env e) (λ b k. (tt, k));
      }

  mutual
    list_keeps : (x : text.StatementList) (env : Environment) → Same env → Keeps (ListKnown names x) (spec.statement_list x env)
    list_keeps (text.list s more) env e = both (statement_keeps s env e) (λ a k. alone (statements_keep more a.env k) (λ b j. done j))

    statements_keep : (x : text.Statements) (env : Environment) → Same env → Keeps (StatementsHolds (known_by names) x) (spec.statements x env)
    statements_keep text.no_statement env e = done e
    statements_keep (text.next_statement s more) env e = both (statement_keeps s env e) (λ a k. alone (statements_keep more a.env k) (λ b j. done j))

    statement_keeps : (x : text.Statement) (env : Environment) → Same env → Keeps (StatementHolds (known_by names) x) (spec.statement x env)
    statement_keeps text.skip env e = done e
    statement_keeps (text.assignment v line x) env e = only (assigned_known env e v line x) (λ a. done e)
    statement_keeps (text.call name xs) env e =
        after (look_known env names (within env e) name) (λ means. only (called_known env e name.line (use_of env means) xs) (λ a. done e))
    statement_keeps (text.if_statement cs) env e = alone (conditions_keep cs env e) (λ a k. done k)
    statement_keeps (text.while_statement cs) env e = alone (conditions_keep cs env e) (λ a k. done k)
    statement_keeps (text.when_statement line cs) env e = alone (conditions_keep cs env e) (λ a k. done k)
    statement_keeps (text.cobegin line b bs) env e =
        alone (both (branch_keeps b env e) (λ a k. branches_keep bs env a k)) (λ a k. done k)

    conditions_keep : (x : text.Conditions) (env : Environment) → Same env → Keeps (ConditionsHolds (known_by names) x) (spec.conditions x env)
    conditions_keep (text.conditions c more) env e = both (condition_keeps c env e) (λ a k. alone (elses_keep more a.env k) (λ b j. done j))

    elses_keep : (x : text.Else) (env : Environment) → Same env → Keeps (ElseHolds (known_by names) x) (spec.elses x env)
    elses_keep text.no_else env e = done e
    elses_keep (text.next_else c more) env e = both (condition_keeps c env e) (λ a k. alone (elses_keep more a.env k) (λ b j. done j))

    condition_keeps : (x : text.Condition) (env : Environment) → Same env → Keeps (ConditionHolds (known_by names) x) (spec.condition x env)
    condition_keeps (text.condition x line s) env e =
        after (expression_known env names (within env e) x) (λ c. pass _ (λ _. alone (list_keeps s env e) (λ a k. done k)))

    branch_keeps : (x : text.Branch) (env : Environment) → Same env → Keeps (BranchHolds (known_by names) x) (spec.branch x env)
    branch_keeps (text.branch c line s) env e =
        after (constant_known env names (within env e) c) (λ k. pass _ (λ _. list_keeps s (enter_branch env) e))

    branches_keep : (x : text.Branches) (before : Environment) (a : After Acts) → Same a.env → Keeps (BranchesHolds (known_by names) x) (spec.branches x before a)
    branches_keep (text.no_branch end) before a e = alone (left before end a e) (λ b k. done k)
    branches_keep (text.next_branch also b bs) before a e =
        behind (left before also a e) (λ o k. alone (both (branch_keeps b o.env k) (λ c j. branches_keep bs o.env c j)) (λ d j. done j))

  pub statements_known : (x : text.StatementList) (env : Environment) → Same env → Gives (λ a. ListKnown names x × Same a.env) (spec.statement_list x env)
  statements_known x env e = (list_keeps x env e).kept
