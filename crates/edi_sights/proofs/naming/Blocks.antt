-- Statements: each branch of a `cobegin` is a block that is named.
use Rattle.std.proofs.Common.{◌≡◌, ℕ, List, [], ◌∷◌, length, None, nat_le, ◌==◌, refl, ◌∙◌}
use Rattle.edi_tree.specs.Tree as text
use Rattle.edi_unit.specs.declared.units.BlockKind.TheVariants as block_kind
use Rattle.edi_unit.specs.Types.{int_type, bool_type, greatest_size}
use Rattle.edi_unit.specs.Tree as unit
use Rattle.edi_unit.specs.Tree.{Acts}
use Rattle.edi_unit.specs.Need.{block_at, need}
use Rattle.edi_static.specs.declared.faults.StaticKind.TheVariants as kind
use Rattle.edi_static.specs.Judged.{Judged, gives, faults, ◌>>=◌}
use Rattle.edi_static.specs.Environment.{Environment, look_up, here, begun_block}
use Rattle.edi_static.specs.Types.{constant}
use Rattle.edi_static.specs.Fitting.{use_of}
use Rattle.edi_static.specs.Expressions.{expression}
use Rattle.edi_static.specs.Statements.{After, assigned, called, with_statements, add_statements, close_block, enter_branch, leave_branch, statement_list}
use Rattle.edi_static.specs.Statements.{statements, statement, conditions, elses, condition, branch, branches}
use Rattle.edi_static.proofs.Judging.{Gives, bind, behind, ruled}
use Rattle.edi_sights.specs.named.Laws.{slot_count, variable_count}
use Rattle.edi_sights.specs.named.Naming as naming
use Rattle.edi_sights.specs.named.Naming.{Naming, with_block, nameless}
use Rattle.edi_sights.proofs.naming.Counts.{slots_same, one_more}
use Rattle.edi_sights.proofs.naming.Declared.{Agrees}

abbrev pub AfterAgrees : {A : Type 0} → (place : List ℕ) → Naming → After A → Type 0
AfterAgrees place w done = Agrees place w done.env

-- ---- blocks

pub added_agrees : (place : List ℕ) (w : Naming) (n : ℕ) (s : Acts) (env : Environment) → Agrees place w env → Agrees place w (add_statements n s env)
added_agrees place w n s env h = record {
  of_blocks = slots_same env.blocks n (with_statements s (block_at env.blocks n)) refl ∙ h.of_blocks;
  of_types = h.of_types;
  of_begun = h.of_begun;
  at = h.at;
}

pub close_agrees : (place : List ℕ) (w : Naming) (n : ℕ) (s : Acts) (line : ℕ) (env : Environment) → Agrees place w env
    → Gives (Agrees place w) (close_block n s line env)
close_agrees place w n s line env h =
    let after : Environment = add_statements n s env in
    let k : Agrees place w after = added_agrees place w n s env h in
    ruled (Agrees place w) (nat_le (need after.types after.blocks n) greatest_size) kind.Range line _ (λ _. record {
      of_blocks = slots_same after.blocks n (record (block_at after.blocks n) { need = need after.types after.blocks n }) refl ∙ k.of_blocks;
      of_types = k.of_types;
      of_begun = k.of_begun;
      at = k.at;
    })

enter_agrees : (place : List ℕ) (w : Naming) (env : Environment) → Agrees place w env
    → Agrees (length env.blocks ∷ env.around) (with_block nameless w) (enter_branch env)
enter_agrees place w env h = record {
  of_blocks = one_more slot_count variable_count env.blocks (begun_block block_kind.Branch (here env) None []) w.blocks nameless h.of_blocks refl;
  of_types = h.of_types;
  of_begun = h.of_begun;
  at = refl;
}

-- a branch is closed, and what follows stands in the blocks round it
leave_agrees : (place inner : List ℕ) (w : Naming) (before : Environment) (line : ℕ) (done : After Acts) → before.around ≡ place → AfterAgrees inner w done
    → Gives (AfterAgrees place w) (leave_branch before line done)
leave_agrees place inner w before line done e h =
    bind (Agrees inner w) (AfterAgrees place w) _ _ (close_agrees inner w (length before.blocks) done.what line done.env h)
    (λ after k. record { of_blocks = k.of_blocks; of_types = k.of_types; of_begun = k.of_begun; at = e })

-- ---- statements

-- constructs one after another
in_turn : {A B C : Type 0} (place : List ℕ) (v w : Naming) (c : Judged (After A)) (rest : Environment → Judged (After B)) (make : A → B → C)
    → Gives (AfterAgrees place v) c → ((env : Environment) → Agrees place v env → Gives (AfterAgrees place w) (rest env)) →
    Gives (AfterAgrees place w) (c >>= λ one. rest one.env >>= λ others. gives (record { what = make one.what others.what; env = others.env }))
in_turn place v w (gives one) rest make h k = bind (AfterAgrees place w) (AfterAgrees place w) (rest one.env) _ (k one.env h) (λ others j. j)
in_turn place v w (faults why line) rest make h k = tt

-- the same construct, seen otherwise
renamed : {A C : Type 0} (place : List ℕ) (w : Naming) (c : Judged (After A)) (make : A → C) → Gives (AfterAgrees place w) c →
    Gives (AfterAgrees place w) (c >>= λ one. gives (record { what = make one.what; env = one.env }))
renamed place w (gives one) make h = h
renamed place w (faults why line) make h = tt

mutual
  pub list_agrees : (place : List ℕ) (w : Naming) (s : text.StatementList) (env : Environment) → Agrees place w env
      → Gives (AfterAgrees place (naming.list_named s w)) (statement_list s env)
  list_agrees place w (text.list s more) env h =
      in_turn place (naming.statement_named s w) (naming.statements_named more (naming.statement_named s w)) (statement s env) (statements more) unit.act_then
      (statement_agrees place w s env h) (λ e k. statements_agree place (naming.statement_named s w) more e k)

  statements_agree : (place : List ℕ) (w : Naming) (ss : text.Statements) (env : Environment) → Agrees place w env
      → Gives (AfterAgrees place (naming.statements_named ss w)) (statements ss env)
  statements_agree place w text.no_statement env h = h
  statements_agree place w (text.next_statement s more) env h =
      in_turn place (naming.statement_named s w) (naming.statements_named more (naming.statement_named s w)) (statement s env) (statements more) unit.act_then
      (statement_agrees place w s env h) (λ e k. statements_agree place (naming.statement_named s w) more e k)

  statement_agrees : (place : List ℕ) (w : Naming) (s : text.Statement) (env : Environment) → Agrees place w env
      → Gives (AfterAgrees place (naming.statement_named s w)) (statement s env)
  statement_agrees place w text.skip env h = h
  statement_agrees place w (text.assignment v line x) env h = behind (AfterAgrees place w) (assigned env v line x) _ (λ a. h)
  statement_agrees place w (text.call name xs) env h =
      behind (AfterAgrees place w) (look_up env name) _ (λ means.
      behind (AfterAgrees place w) (called env name.line (use_of env means) xs) _ (λ a. h))
  statement_agrees place w (text.if_statement cs) env h =
      renamed place (naming.conditions_named cs w) (conditions cs env) unit.if_act (conditions_agree place w cs env h)
  statement_agrees place w (text.while_statement cs) env h =
      renamed place (naming.conditions_named cs w) (conditions cs env) unit.while_act (conditions_agree place w cs env h)
  statement_agrees place w (text.when_statement line cs) env h =
      renamed place (naming.conditions_named cs w) (conditions cs env) (λ done. unit.when_act done line) (conditions_agree place w cs env h)
  statement_agrees place w (text.cobegin line b bs) env h =
      let one = naming.branch_named b w in
      let inner : List ℕ = length env.blocks ∷ env.around in
      renamed place (naming.branches_named bs one) (branch b env >>= branches bs env) (λ numbers. unit.cobegin numbers line)
      (bind (AfterAgrees inner one) (AfterAgrees place (naming.branches_named bs one)) (branch b env) _ (branch_agrees place w b env h)
      (λ done k. branches_agree place inner one bs env done h.at k))

  conditions_agree : (place : List ℕ) (w : Naming) (cs : text.Conditions) (env : Environment) → Agrees place w env
      → Gives (AfterAgrees place (naming.conditions_named cs w)) (conditions cs env)
  conditions_agree place w (text.conditions c more) env h =
      in_turn place (naming.condition_named c w) (naming.elses_named more (naming.condition_named c w)) (condition c env) (elses more) unit.clause_then
      (condition_agrees place w c env h) (λ e k. elses_agree place (naming.condition_named c w) more e k)

  elses_agree : (place : List ℕ) (w : Naming) (cs : text.Else) (env : Environment) → Agrees place w env
      → Gives (AfterAgrees place (naming.elses_named cs w)) (elses cs env)
  elses_agree place w text.no_else env h = h
  elses_agree place w (text.next_else c more) env h =
      in_turn place (naming.condition_named c w) (naming.elses_named more (naming.condition_named c w)) (condition c env) (elses more) unit.clause_then
      (condition_agrees place w c env h) (λ e k. elses_agree place (naming.condition_named c w) more e k)

  condition_agrees : (place : List ℕ) (w : Naming) (c : text.Condition) (env : Environment) → Agrees place w env
      → Gives (AfterAgrees place (naming.condition_named c w)) (condition c env)
  condition_agrees place w (text.condition x line s) env h =
      let Q = AfterAgrees place (naming.list_named s w) in
      behind Q (expression env x) _ (λ v.
      ruled Q (v.of == bool_type) kind.Types line _ (λ _.
      renamed place (naming.list_named s w) (statement_list s env) (unit.clause v.what) (list_agrees place w s env h)))

  -- inside a branch
  branch_agrees : (place : List ℕ) (w : Naming) (b : text.Branch) (env : Environment) → Agrees place w env
      → Gives (AfterAgrees (length env.blocks ∷ env.around) (naming.branch_named b w)) (branch b env)
  branch_agrees place w (text.branch c line s) env h =
      let inner : List ℕ = length env.blocks ∷ env.around in
      let Q = AfterAgrees inner (naming.list_named s (with_block nameless w)) in
      behind Q (constant env c) _ (λ k.
      ruled Q (k.of == int_type) kind.Types line _ (λ _.
      list_agrees inner (with_block nameless w) s (enter_branch env) (enter_agrees place w env h)))

  -- behind the statements of a branch
  branches_agree : (place inner : List ℕ) (w : Naming) (bs : text.Branches) (before : Environment) (done : After Acts) → before.around ≡ place
      → AfterAgrees inner w done → Gives (AfterAgrees place (naming.branches_named bs w)) (branches bs before done)
  branches_agree place inner w (text.no_branch end) before done e h =
      renamed place w (leave_branch before end done) (λ one. one ∷ []) (leave_agrees place inner w before end done e h)
  branches_agree place inner w (text.next_branch also b bs) before done e h =
      let one = naming.branch_named b w in
      bind (AfterAgrees place w) (AfterAgrees place (naming.branches_named bs one)) (leave_branch before also done) _
      (leave_agrees place inner w before also done e h) (λ left k.
      renamed place (naming.branches_named bs one) (branch b left.env >>= branches bs left.env) (λ others. left.what ∷ others)
      (bind (AfterAgrees (length left.env.blocks ∷ left.env.around) one) (AfterAgrees place (naming.branches_named bs one)) (branch b left.env) _
      (branch_agrees place w b left.env k)
      (λ next j. branches_agree place (length left.env.blocks ∷ left.env.around) one bs left.env next k.at j)))
