-- The `when`s that are met without judging statements are those of the definition.
use Rattle.std.proofs.Common.{◌≡◌, ℕ, ◌==◌, List, [], ◌∷◌, ◌++◌, length, nat_le, Result, Ok, Err, OnOk, refl, ap, sym, ◌∙◌, subst, arith}
use Rattle.std.proofs.lemmas.List.{length-append, length-set}
use Rattle.edi_tree.specs.Tree as text
use Rattle.edi_unit.specs.Types.{int_type, bool_type, greatest_size}
use Rattle.edi_unit.specs.Tree as unit
use Rattle.edi_unit.specs.Tree.{Acts}
use Rattle.edi_unit.specs.Need.{need}
use Rattle.edi_static.specs.declared.faults.StaticKind.TheVariants as kind
use Rattle.edi_static.specs.declared.faults.StaticFault.{StaticFault}
use Rattle.edi_static.specs.Answers.{JudgedAnswers}
use Rattle.edi_static.specs.Judged.{Judged, gives, faults, ◌>>=◌}
use Rattle.edi_static.specs.Environment.{Environment, look_up}
use Rattle.edi_static.specs.Types.{constant}
use Rattle.edi_static.specs.Fitting.{use_of}
use Rattle.edi_static.specs.Expressions.{expression}
use Rattle.edi_static.specs.Statements.{After, assigned, called, add_statements, close_block, enter_branch, leave_branch, statement_list, statements}
use Rattle.edi_static.specs.Statements.{statement, conditions, elses, condition, branch, branches}
use Rattle.edi_static.specs.Declarations.{all_completed}
use Rattle.edi_static.proofs.Judging.{Gives, bind, behind as unknown_before, ruled}
use Rattle.edi_sema.specs.Blocks.{inside_block}
use Rattle.edi_sema.specs.Bodies.{finished, finished_module}
use Rattle.edi_sema.specs.Frames.{without_blocks}
use Rattle.edi_sights.specs.declared.awaits.Await.{Await}
use Rattle.edi_sights.specs.Awaits as met
use Rattle.edi_sights.specs.Awaits.{await_at, behind}
use Rattle.edi_sights.specs.Counted as counted
use Rattle.edi_sights.specs.Counted.{Met, with_await, with_block}

-- where statements began and where the walk is now only the blocks differ; the number of the next block is known, and the same
-- `when`s were met
pub record Agrees (at env : Environment) (m : Met) (awaits : List Await) : Type 0 where
  pub same : without_blocks env ≡ without_blocks at
  pub next : m.next ≡ length env.blocks
  pub whens : m.awaits ≡ awaits

-- ---- one `when`

awaited : (name : List ℕ) (line : ℕ) (at env : Environment) (m : Met) (awaits : List Await) → Agrees at env m awaits →
    Agrees at env (with_await (await_at name line at) m) (awaits ++ await_at name line env ∷ [])
awaited name line at env m awaits h = record {
  same = h.same;
  next = h.next;
  whens = ap (λ ws. ws ++ await_at name line at ∷ []) h.whens ∙ ap (λ e. awaits ++ await_at name line e ∷ []) (sym h.same);
}

-- ---- branches

entered : (at env : Environment) (m : Met) (awaits : List Await) → Agrees at env m awaits → Agrees (inside_block m.next at) (enter_branch env) (with_block m)
    awaits
entered at env m awaits h = record {
  same = ap (λ n. without_blocks (inside_block n env)) (sym h.next) ∙ ap (inside_block m.next) h.same;
  next = omega (arith, h.next, length-append env.blocks);
  whens = h.whens;
}

-- a block is closed
pub record Closed (env after : Environment) : Type 0 where
  pub same : without_blocks after ≡ without_blocks env
  pub blocks : length after.blocks ≡ length env.blocks

closed : (n : ℕ) (s : Acts) (line : ℕ) (env : Environment) → Gives (Closed env) (close_block n s line env)
closed n s line env =
    let after : Environment = add_statements n s env in
    ruled (Closed env) (nat_le (need after.types after.blocks n) greatest_size) kind.Range line _ (λ _.
    record { same = refl; blocks = length-set after.blocks n _ ∙ length-set env.blocks n _ })

left : (n : ℕ) (at before : Environment) (line : ℕ) (done : After Acts) (m : Met) (awaits : List Await) → without_blocks before ≡ without_blocks at →
    Agrees (inside_block n at) done.env m awaits → Gives (λ (one : After ℕ). Agrees at one.env m awaits) (leave_branch before line done)
left n at before line done m awaits e h =
    bind (Closed done.env) (λ (one : After ℕ). Agrees at one.env m awaits) (close_block (length before.blocks) done.what line done.env) _
    (closed (length before.blocks) done.what line done.env) (λ after k. record {
      same =
          ap (λ (x : Environment). record x { around = before.around }) (k.same ∙ h.same)
          ∙ ap (λ (x : Environment). record (without_blocks at) { around = x.around }) e;
      next = h.next ∙ sym k.blocks;
      whens = h.whens;
    })

-- ---- constructs one after another

in_turn : {A B C : Type 0} (at : Environment) (c : Judged (After A)) (rest : Environment → Judged (After B)) (make : A → B → C) (m n : Met)
    (awaits : List Await)
    (more : Environment → List Await → List Await) → Gives (λ (one : After A). Agrees at one.env m awaits) c →
    ((e : Environment) → Agrees at e m awaits → Gives (λ (others : After B). Agrees at others.env n (more e awaits)) (rest e)) →
    Gives (λ (done : After C). Agrees at done.env n (behind c (λ one. more one.env) awaits))
    (c >>= λ one. rest one.env >>= λ others. gives (record { what = make one.what others.what; env = others.env }))
in_turn {B = B} {C = C} at (gives one) rest make m n awaits more h k =
    bind (λ (others : After B). Agrees at others.env n (more one.env awaits)) (λ (done : After C). Agrees at done.env n (more one.env awaits)) (rest one.env)
    _ (k one.env h) (λ others j. j)
in_turn at (faults why line) rest make m n awaits more h k = tt

-- a branch, and those behind it
joined : (name : List ℕ) (bs : text.Branches) (inside : Environment) (at env : Environment) (c : Judged (After Acts)) (m n : Met) (awaits : List Await) →
    Gives (λ (done : After Acts). Agrees inside done.env m awaits) c →
    ((done : After Acts) → Agrees inside done.env m awaits
    → Gives (λ (others : After (List ℕ)). Agrees at others.env n (met.branches_met name bs env done awaits)) (branches bs env done)) →
    Gives (λ (others : After (List ℕ)). Agrees at others.env n (behind c (met.branches_met name bs env) awaits)) (c >>= branches bs env)
joined name bs inside at env (gives done) m n awaits h k = k done h
joined name bs inside at env (faults why line) m n awaits h k = tt

-- the same construct, seen otherwise
renamed : {A C : Type 0} (at : Environment) (c : Judged (After A)) (make : A → C) (m : Met) (awaits : List Await)
    → Gives (λ (one : After A). Agrees at one.env m awaits) c →
    Gives (λ (done : After C). Agrees at done.env m awaits) (c >>= λ one. gives (record { what = make one.what; env = one.env }))
renamed at (gives one) make m awaits h = h
renamed at (faults why line) make m awaits h = tt

-- the branches behind one that is closed
behind_branch : (at : Environment) (c : Judged (After ℕ)) (rest : Environment → Judged (After (List ℕ))) (m n : Met) (awaits : List Await)
    (more : Environment → List Await → List Await) → Gives (λ (one : After ℕ). Agrees at one.env m awaits) c →
    ((e : Environment) → Agrees at e m awaits → Gives (λ (others : After (List ℕ)). Agrees at others.env n (more e awaits)) (rest e)) →
    Gives (λ (done : After (List ℕ)). Agrees at done.env n (behind c (λ one. more one.env) awaits))
    (c >>= λ one. rest one.env >>= λ others. gives (record { what = one.what ∷ others.what; env = others.env }))
behind_branch at c rest m n awaits more h k = in_turn at c rest (λ x xs. x ∷ xs) m n awaits more h k

-- ---- statements

mutual
  pub list_agrees : (name : List ℕ) (s : text.StatementList) (at env : Environment) (m : Met) (awaits : List Await) → Agrees at env m awaits →
      Gives (λ (done : After Acts). Agrees at done.env (counted.list_counted name s at m) (met.list_met name s env awaits)) (statement_list s env)
  list_agrees name (text.list s more) at env m awaits h =
      in_turn at (statement s env) (statements more) unit.act_then _ (counted.list_counted name (text.list s more) at m) _ (met.statements_met name more)
      (statement_agrees name s at env m awaits h) (λ e k. statements_agrees name more at e _ _ k)

  statements_agrees : (name : List ℕ) (ss : text.Statements) (at env : Environment) (m : Met) (awaits : List Await) → Agrees at env m awaits →
      Gives (λ (done : After Acts). Agrees at done.env (counted.statements_counted name ss at m) (met.statements_met name ss env awaits)) (statements ss env)
  statements_agrees name text.no_statement at env m awaits h = h
  statements_agrees name (text.next_statement s more) at env m awaits h =
      in_turn at (statement s env) (statements more) unit.act_then _ (counted.statements_counted name (text.next_statement s more) at m) _
      (met.statements_met name more)
      (statement_agrees name s at env m awaits h) (λ e k. statements_agrees name more at e _ _ k)

  statement_agrees : (name : List ℕ) (s : text.Statement) (at env : Environment) (m : Met) (awaits : List Await) → Agrees at env m awaits →
      Gives (λ (done : After unit.Act). Agrees at done.env (counted.statement_counted name s at m) (met.statement_met name s env awaits)) (statement s env)
  statement_agrees name text.skip at env m awaits h = h
  statement_agrees name (text.assignment v line x) at env m awaits h = unknown_before (λ (done : After unit.Act). Agrees at done.env m awaits)
      (assigned env v line x) _ (λ a. h)
  statement_agrees name (text.call called_name xs) at env m awaits h =
      unknown_before (λ (done : After unit.Act). Agrees at done.env m awaits) (look_up env called_name) _ (λ means.
      unknown_before (λ (done : After unit.Act). Agrees at done.env m awaits) (called env called_name.line (use_of env means) xs) _ (λ a. h))
  statement_agrees name (text.if_statement cs) at env m awaits h = renamed at (conditions cs env) unit.if_act _ _ (conditions_agrees name cs at env m awaits h)
  statement_agrees name (text.while_statement cs) at env m awaits h = renamed at (conditions cs env) unit.while_act _ _
      (conditions_agrees name cs at env m awaits h)
  statement_agrees name (text.when_statement line cs) at env m awaits h =
      renamed at (conditions cs env) (λ done. unit.when_act done line) _ _
      (conditions_agrees name cs at env (with_await (await_at name line at) m) (awaits ++ await_at name line env ∷ []) (awaited name line at env m awaits h))
  statement_agrees name (text.cobegin line b bs) at env m awaits h =
      renamed at (branch b env >>= branches bs env) (λ numbers. unit.cobegin numbers line) _ _
      (joined name bs (inside_block m.next at) at env (branch b env) _ _ _ (branch_agrees name b at env m awaits h) (λ done k.
      branches_agree name bs m.next at env done _ _ h.same k))

  conditions_agrees : (name : List ℕ) (cs : text.Conditions) (at env : Environment) (m : Met) (awaits : List Await) → Agrees at env m awaits →
      Gives (λ (done : After unit.Clauses). Agrees at done.env (counted.conditions_counted name cs at m) (met.conditions_met name cs env awaits))
      (conditions cs env)
  conditions_agrees name (text.conditions c more) at env m awaits h =
      in_turn at (condition c env) (elses more) unit.clause_then _ (counted.conditions_counted name (text.conditions c more) at m) _ (met.elses_met name more)
      (condition_agrees name c at env m awaits h) (λ e k. elses_agrees name more at e _ _ k)

  elses_agrees : (name : List ℕ) (cs : text.Else) (at env : Environment) (m : Met) (awaits : List Await) → Agrees at env m awaits →
      Gives (λ (done : After unit.Clauses). Agrees at done.env (counted.elses_counted name cs at m) (met.elses_met name cs env awaits)) (elses cs env)
  elses_agrees name text.no_else at env m awaits h = h
  elses_agrees name (text.next_else c more) at env m awaits h =
      in_turn at (condition c env) (elses more) unit.clause_then _ (counted.elses_counted name (text.next_else c more) at m) _ (met.elses_met name more)
      (condition_agrees name c at env m awaits h) (λ e k. elses_agrees name more at e _ _ k)

  condition_agrees : (name : List ℕ) (c : text.Condition) (at env : Environment) (m : Met) (awaits : List Await) → Agrees at env m awaits →
      Gives (λ (done : After unit.Clause). Agrees at done.env (counted.condition_counted name c at m) (met.condition_met name c env awaits)) (condition c env)
  condition_agrees name (text.condition x line s) at env m awaits h =
      unknown_before (λ (done : After unit.Clause). Agrees at done.env (counted.list_counted name s at m) (met.list_met name s env awaits)) (expression env x)
      _ (λ v.
      ruled (λ (done : After unit.Clause). Agrees at done.env (counted.list_counted name s at m) (met.list_met name s env awaits)) (v.of == bool_type)
      kind.Types line _ (λ _.
      renamed at (statement_list s env) (unit.clause v.what) _ _ (list_agrees name s at env m awaits h)))

  -- inside a branch
  branch_agrees : (name : List ℕ) (b : text.Branch) (at env : Environment) (m : Met) (awaits : List Await) → Agrees at env m awaits →
      Gives (λ (done : After Acts). Agrees (inside_block m.next at) done.env (counted.branch_counted name b at m) (met.branch_met name b env awaits))
      (branch b env)
  branch_agrees name (text.branch c line s) at env m awaits h =
      unknown_before _ (constant env c) _ (λ k.
      ruled _ (k.of == int_type) kind.Types line _ (λ _.
      list_agrees name s (inside_block m.next at) (enter_branch env) (with_block m) awaits (entered at env m awaits h)))

  -- behind the statements of a branch that began in an environment
  branches_agree : (name : List ℕ) (bs : text.Branches) (n : ℕ) (at before : Environment) (done : After Acts) (m : Met) (awaits : List Await) →
      without_blocks before ≡ without_blocks at → Agrees (inside_block n at) done.env m awaits →
      Gives (λ (others : After (List ℕ)). Agrees at others.env (counted.branches_counted name bs at m) (met.branches_met name bs before done awaits))
      (branches bs before done)
  branches_agree name (text.no_branch end) n at before done m awaits e h =
      renamed at (leave_branch before end done) (λ one. one ∷ []) m awaits (left n at before end done m awaits e h)
  branches_agree name (text.next_branch also b bs) n at before done m awaits e h =
      behind_branch at (leave_branch before also done) (λ env. branch b env >>= branches bs env) m
      (counted.branches_counted name (text.next_branch also b bs) at m) awaits
      (λ env awaits. behind (branch b env) (met.branches_met name bs env) (met.branch_met name b env awaits))
      (left n at before also done m awaits e h) (λ env k.
      joined name bs (inside_block m.next at) at env (branch b env) _ _ _ (branch_agrees name b at env m awaits k) (λ inner j.
      branches_agree name bs m.next at env inner _ _ k.same j))

-- the statements of a procedure or a module
pub body_agrees : (name : List ℕ) (s : text.StatementList) (env : Environment) (done : After Acts) (awaits : List Await) → statement_list s env ≡ gives done →
    counted.body_counted name s env awaits ≡ met.list_met name s env awaits
body_agrees name s env done awaits e =
    let start : Met = record { awaits = awaits; next = length env.blocks } in
    let h : Agrees env done.env (counted.list_counted name s env start) (met.list_met name s env awaits) =
    subst (Gives (λ (done : After Acts). Agrees env done.env (counted.list_counted name s env start) (met.list_met name s env awaits))) e
    (list_agrees name s env env start awaits (record { same = refl; next = refl; whens = refl })) in
    h.whens

-- what was judged behind statements that have no fault was judged behind these
sound_before : {A : Type 0} (P : Type 0) (first : Judged (Unit {0})) (m : Judged (After Acts)) (f : After Acts → Judged A) (after : A) →
    (first >>= λ _. m >>= f) ≡ gives after → ((done : After Acts) → m ≡ gives done → P) → P
sound_before P (gives u) (gives done) f after e k = k done refl
sound_before P (gives u) (faults why line) f after e k = absurd (cc)
sound_before P (faults why line) m f after e k = absurd (cc)

pub finished_agrees : (name : List ℕ) (block : ℕ) (s : text.StatementList) (end : ℕ) (env after : Environment) (awaits : List Await)
    → finished block s end env ≡ gives after →
    counted.body_counted name s env awaits ≡ met.list_met name s env awaits
finished_agrees name block s end env after awaits e =
    sound_before _ (all_completed env.begun) (statement_list s env) (λ done. close_block block done.what end done.env) after e
    (λ done stated. body_agrees name s env done awaits stated)

pub module_agrees : (name : List ℕ) (block : ℕ) (s : text.StatementList) (env after : Environment) (awaits : List Await) → finished_module block s env ≡ gives
    after →
    counted.body_counted name s env awaits ≡ met.list_met name s env awaits
module_agrees name block s env after awaits e =
    sound_before _ (all_completed env.begun) (statement_list s env) (λ done. gives (add_statements block done.what done.env)) after e
    (λ done stated. body_agrees name s env done awaits stated)

-- ---- what is answered at the end of a body

pub finished_answer : {B : Type 0} (name : List ℕ) (block : ℕ) (s : text.StatementList) (end : ℕ) (env now after : Environment) (awaits more : List Await)
    (r : Result B StaticFault) →
    JudgedAnswers (λ _. after) r (finished block s end now) → now ≡ env → more ≡ counted.body_counted name s env awaits
    → OnOk r (more ≡ met.list_met name s env awaits)
finished_answer name block s end env now after awaits more (Ok b) e i m =
    m ∙ finished_agrees name block s end env after awaits (ap (finished block s end) (sym i) ∙ e)
finished_answer name block s end env now after awaits more (Err f) e i m = tt

pub module_answer : {B : Type 0} (name : List ℕ) (block : ℕ) (s : text.StatementList) (env now after : Environment) (awaits more : List Await)
    (r : Result B StaticFault) →
    JudgedAnswers (λ _. after) r (finished_module block s now) → now ≡ env → more ≡ counted.body_counted name s env awaits
    → OnOk r (more ≡ met.list_met name s env awaits)
module_answer name block s env now after awaits more (Ok b) e i m =
    m ∙ module_agrees name block s env after awaits (ap (finished_module block s) (sym i) ∙ e)
module_answer name block s env now after awaits more (Err f) e i m = tt
