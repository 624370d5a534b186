-- A fact about the types and blocks that are known which lasts from the start of a program to its end. The fact may ask something
-- of the statements that come into a block, which then is said of each statement by the levels that are open in its text.
use Rattle.std.proofs.Common.{◌≡◌, ℕ, suc, ◌<◌, ◌≤◌, max, Bool, true, false, List, [], ◌∷◌, ◌++◌, length, Option, None, nat_le, ◌==◌, refl, arith}
use Rattle.std.specs.Prelude.{slice_set}
use Rattle.edi_scope.specs.declared.entity.Entity.TheVariants as entity
use Rattle.edi_tree.specs.declared.names.Name.{Name}
use Rattle.edi_tree.specs.Tree as text
use Rattle.edi_tree.specs.Depth.{constant_depth, expr_depth, optional_args_depth, variable_depth, list_depth, statements_depth, statement_depth}
use Rattle.edi_tree.specs.Depth.{conditions_depth, condition_depth, else_depth, branch_depth, branches_depth, procedure_depth, item_depth, module_depth}
use Rattle.edi_tree.specs.Depth.{member_depth, members_depth, declaration_depth, declarations_depth, depth}
use Rattle.edi_unit.specs.declared.units.BlockKind.{BlockKind}
use Rattle.edi_unit.specs.declared.units.BlockKind.TheVariants as block_kind
use Rattle.edi_unit.specs.Types.{Shape, standard_types, greatest_size, int_type, bool_type}
use Rattle.edi_unit.specs.Tree as unit
use Rattle.edi_unit.specs.Tree.{Act, Acts, Clause, Clauses, Block, ProgramUnit}
use Rattle.edi_unit.specs.Need.{block_at, need}
use Rattle.edi_unit.specs.Headings.{heading_result, heading_formals}
use Rattle.edi_static.specs.declared.faults.StaticKind.TheVariants as kind
use Rattle.edi_static.specs.Judged.{Judged, gives, faults, ◌>>=◌}
use Rattle.edi_static.specs.Environment.{Environment, at_first, look_up, declare, enter, here, begun_block, parameters_of}
use Rattle.edi_static.specs.Types.{constant, type_decl}
use Rattle.edi_static.specs.Headings.{Headed, round, own_name, heading_parts}
use Rattle.edi_static.specs.Operators.{Typed}
use Rattle.edi_static.specs.Fitting.{Use, use_of}
use Rattle.edi_static.specs.Expressions.{expression}
use Rattle.edi_static.specs.Statements.{After, assigned, called, with_statements, add_statements, with_need, close_block, enter_branch, leave_branch}
use Rattle.edi_static.specs.Statements.{statement_list, statements, statement, conditions, elses, condition, branch, branches}
use Rattle.edi_static.specs.Declarations.{kind_of, with_heading, block_of, procedure_name, heading_of, begun_named, completes, post_export, all_completed}
use Rattle.edi_static.specs.Declarations.{begin_procedure, begin_post, pre_decl, procedure_rest, item, module_decl, members, member, declarations}
use Rattle.edi_static.specs.Declarations.{declaration}
use Rattle.edi_static.specs.Programs.{program_heading, global_decls, program_procedure, resolve_tree}
use Rattle.edi_static.proofs.Judging.{Gives, bind, behind, ruled, weaker}
use Rattle.edi_static.proofs.Declared.{Keeping, Grown, const_list_kept, type_decl_kept, var_kept, heading_kept, round_kept, outside_round_kept, globals_kept}

-- ---- what is said of statements

-- What is said of whatever statements, conditions and expressions become in whose text so many levels are open.
pub record Said : Type 1 where
  pub OfAct : ℕ → Act → Type 0
  pub OfActs : ℕ → Acts → Type 0
  pub OfClause : ℕ → Clause → Type 0
  pub OfClauses : ℕ → Clauses → Type 0
  pub OfValue : ℕ → Typed → Type 0
  pub skipping : OfAct 0 unit.skip
  pub assigning : (env : Environment) (v : text.Variable) (line : ℕ) (e : text.Expr) → Gives (OfAct (max (variable_depth v) (expr_depth e)))
      (assigned env v line e)
  pub calling : (env : Environment) (line : ℕ) (u : Use) (xs : Option text.Args) → Gives (OfAct (optional_args_depth xs)) (called env line u xs)
  pub conditional : (d : ℕ) (cs : Clauses) → OfClauses d cs → OfAct (suc d) (unit.if_act cs)
  pub loop : (d : ℕ) (cs : Clauses) → OfClauses d cs → OfAct (suc d) (unit.while_act cs)
  pub await : (d : ℕ) (cs : Clauses) (line : ℕ) → OfClauses d cs → OfAct (suc d) (unit.when_act cs line)
  pub forking : (d : ℕ) (bs : List ℕ) (line : ℕ) → OfAct (suc d) (unit.cobegin bs line)
  pub no_acts : OfActs 0 unit.no_act
  pub acts : (a b : ℕ) (x : Act) (xs : Acts) → OfAct a x → OfActs b xs → OfActs (max a b) (unit.act_then x xs)
  pub deeper : (a b : ℕ) (xs : Acts) → a ≤ b → OfActs a xs → OfActs b xs
  pub valued : (env : Environment) (e : text.Expr) → Gives (OfValue (expr_depth e)) (expression env e)
  pub guarded : (a b : ℕ) (c : Typed) (xs : Acts) → OfValue a c → OfActs b xs → OfClause (max a b) (unit.clause c.what xs)
  pub no_clauses : OfClauses 0 unit.no_clause
  pub clauses : (a b : ℕ) (c : Clause) (cs : Clauses) → OfClause a c → OfClauses b cs → OfClauses (max a b) (unit.clause_then c cs)

abbrev pub Nothing : {A : Type 0} → ℕ → A → Type 0
Nothing d a = Unit {0}

pub any_given : {A : Type 0} (d : ℕ) (m : Judged A) → Gives (Nothing d) m
any_given d (gives a) = tt
any_given d (faults why line) = tt

abbrev pub nothing_said : Said
nothing_said = record {
  OfAct = Nothing;
  OfActs = Nothing;
  OfClause = Nothing;
  OfClauses = Nothing;
  OfValue = Nothing;
  skipping = tt;
  assigning = λ env v line e. any_given (max (variable_depth v) (expr_depth e)) (assigned env v line e);
  calling = λ env line u xs. any_given (optional_args_depth xs) (called env line u xs);
  conditional = λ d cs h. tt;
  loop = λ d cs h. tt;
  await = λ d cs line h. tt;
  forking = λ d bs line. tt;
  no_acts = tt;
  acts = λ a b x xs h k. tt;
  deeper = λ a b xs less h. tt;
  valued = λ env e. any_given (expr_depth e) (expression env e);
  guarded = λ a b c xs h k. tt;
  no_clauses = tt;
  clauses = λ a b c cs h k. tt;
}

-- ---- what lasts

-- A fact that holds of the standard types without a block, and stays where constants, types, variables and headings are declared,
-- where a block begins, where statements with fewer levels than these come into one, and where its need is told.
pub record Lasting (levels : ℕ) : Type 1 where
  pub keep : Keeping
  pub said : Said
  pub settled : (types : List Shape) (blocks : List Block) → keep.Becomes types blocks → keep.Is types blocks
  pub first : keep.Is standard_types []
  pub begun : (types : List Shape) (blocks : List Block) (block : Block) → block.body ≡ unit.no_act → block.need ≡ 0 → keep.Is types blocks
      → keep.Is types (blocks ++ block ∷ [])
  pub added : (types : List Shape) (blocks : List Block) (n d : ℕ) (s : Acts) → d < levels → said.OfActs d s → keep.Is types blocks
      → keep.Is types (slice_set blocks n (with_statements s (block_at blocks n)))
  pub needed : (types : List Shape) (blocks : List Block) (n most : ℕ) → most ≤ greatest_size → keep.Is types blocks
      → keep.Is types (slice_set blocks n (record (block_at blocks n) { need = most }))

module _ (levels : ℕ) (lasting : Lasting levels) where
  abbrev Lasts : Environment → Type 0
  Lasts env = lasting.keep.Is env.types env.blocks

  abbrev HeadedLasts : Headed → Type 0
  HeadedLasts headed = Lasts headed.env

  abbrev AfterLasts : {A : Type 0} → After A → Type 0
  AfterLasts after = Lasts after.env

  -- what constructs with so many levels open in them become, and what is known after them
  abbrev ActDone : ℕ → After Act → Type 0
  ActDone d done = Lasts done.env × lasting.said.OfAct d done.what

  abbrev ActsDone : ℕ → After Acts → Type 0
  ActsDone d done = Lasts done.env × lasting.said.OfActs d done.what

  abbrev ClauseDone : ℕ → After Clause → Type 0
  ClauseDone d done = Lasts done.env × lasting.said.OfClause d done.what

  abbrev ClausesDone : ℕ → After Clauses → Type 0
  ClausesDone d done = Lasts done.env × lasting.said.OfClauses d done.what

  -- ---- blocks

  add_lasts : (n d : ℕ) (s : Acts) (env : Environment) → d < levels → lasting.said.OfActs d s → Lasts env → Lasts (add_statements n s env)
  add_lasts n d s env less low h = lasting.added env.types env.blocks n d s less low h

  need_lasts : (n line : ℕ) (env : Environment) → Lasts env → Gives Lasts (with_need n line env)
  need_lasts n line env h =
      let most : ℕ = need env.types env.blocks n in
      ruled Lasts (nat_le most greatest_size) kind.Range line _ (λ e. lasting.needed env.types env.blocks n most (grind (arith, e)) h)

  close_lasts : (n d : ℕ) (s : Acts) (line : ℕ) (env : Environment) → d < levels → lasting.said.OfActs d s → Lasts env
      → Gives Lasts (close_block n s line env)
  close_lasts n d s line env less low h = need_lasts n line (add_statements n s env) (add_lasts n d s env less low h)

  enter_branch_lasts : (env : Environment) → Lasts env → Lasts (enter_branch env)
  enter_branch_lasts env h = lasting.begun env.types env.blocks (begun_block block_kind.Branch (here env) None []) refl refl h

  leave_branch_lasts : (before : Environment) (line : ℕ) (done : After Acts) (d : ℕ) → d < levels → ActsDone d done
      → Gives AfterLasts (leave_branch before line done)
  leave_branch_lasts before line done d less h =
      bind Lasts AfterLasts _ _ (close_lasts _ d done.what line done.env less h.1 h.0) (λ e k. k)

  with_heading_lasts : (headed : Headed) → HeadedLasts headed → (k : BlockKind) → Lasts (with_heading k headed)
  with_heading_lasts headed h k =
      let block : Block = begun_block k (here headed.env) (heading_result headed.asks) (parameters_of (heading_formals headed.asks)) in
      lasting.begun headed.env.types headed.env.blocks block refl refl h

  -- ---- statements

  abbrev LastsWith : {A : Type 0} → (A → Type 0) → After A → Type 0
  LastsWith P done = Lasts done.env × P done.what

  -- a first part, and the rest of a list
  joined : {A B : Type 0} (One : A → Type 0) (Others Every : B → Type 0) (put : A → B → B) → ((x : A) (xs : B) → One x → Others xs → Every (put x xs)) →
      (m : Judged (After A)) (rest : Environment → Judged (After B)) → Gives (LastsWith One) m
      → ((env : Environment) → Lasts env → Gives (LastsWith Others) (rest env))
      → Gives (LastsWith Every)
      (m >>= λ first. rest first.env >>= λ others. gives (record { what = put first.what others.what; env = others.env }))
  joined One Others Every put both m rest h sequels =
      bind (LastsWith One) (LastsWith Every) m _ h (λ first k.
      bind (LastsWith Others) (LastsWith Every) (rest first.env) _ (sequels first.env k.0)
      (λ others j. (j.0, both first.what others.what k.1 j.1)))

  acts_joined : (s : text.Statement) (more : text.Statements) (env : Environment) → Gives (ActDone (statement_depth s)) (statement s env)
      → ((env : Environment) → Lasts env → Gives (ActsDone (statements_depth more)) (statements more env))
      → Gives (ActsDone (list_depth (text.list s more))) (statement_list (text.list s more) env)
  acts_joined s more env =
      joined (lasting.said.OfAct (statement_depth s)) (lasting.said.OfActs (statements_depth more)) (lasting.said.OfActs (list_depth (text.list s more)))
      unit.act_then (lasting.said.acts (statement_depth s) (statements_depth more)) (statement s env) (statements more)

  clauses_joined : (c : text.Condition) (more : text.Else) (env : Environment) → Gives (ClauseDone (condition_depth c)) (condition c env)
      → ((env : Environment) → Lasts env → Gives (ClausesDone (else_depth more)) (elses more env))
      → Gives (ClausesDone (conditions_depth (text.conditions c more))) (conditions (text.conditions c more) env)
  clauses_joined c more env =
      joined (lasting.said.OfClause (condition_depth c)) (lasting.said.OfClauses (else_depth more)) (lasting.said.OfClauses (conditions_depth
      (text.conditions c more))) unit.clause_then (lasting.said.clauses (condition_depth c) (else_depth more)) (condition c env) (elses more)

  mutual
    list_lasts : (s : text.StatementList) (env : Environment) → list_depth s < levels → Lasts env → Gives (ActsDone (list_depth s)) (statement_list s env)
    list_lasts (text.list s more) env less h =
        acts_joined s more env (statement_lasts s env (omega (arith, less)) h) (λ e k. statements_last more e (omega (arith, less)) k)

    statements_last : (s : text.Statements) (env : Environment) → statements_depth s < levels → Lasts env → Gives (ActsDone (statements_depth s))
        (statements s env)
    statements_last text.no_statement env less h = (h, lasting.said.no_acts)
    statements_last (text.next_statement s more) env less h =
        acts_joined s more env (statement_lasts s env (omega (arith, less)) h) (λ e k. statements_last more e (omega (arith, less)) k)

    statement_lasts : (s : text.Statement) (env : Environment) → statement_depth s < levels → Lasts env → Gives (ActDone (statement_depth s))
        (statement s env)
    statement_lasts text.skip env less h = (h, lasting.said.skipping)
    statement_lasts (text.assignment v line e) env less h =
        let d : ℕ = max (variable_depth v) (expr_depth e) in
        bind (lasting.said.OfAct d) (ActDone d) (assigned env v line e) _ (lasting.said.assigning env v line e) (λ a k. (h, k))
    statement_lasts (text.call name xs) env less h =
        let d : ℕ = optional_args_depth xs in
        behind (ActDone d) (look_up env name) _ (λ means.
        bind (lasting.said.OfAct d) (ActDone d) (called env name.line (use_of env means) xs) _
        (lasting.said.calling env name.line (use_of env means) xs) (λ a k. (h, k)))
    statement_lasts (text.if_statement cs) env less h =
        let d : ℕ = conditions_depth cs in
        bind (ClausesDone d) (ActDone (suc d)) _ _ (conditions_last cs env (omega (arith, less)) h)
        (λ done k. (k.0, lasting.said.conditional d done.what k.1))
    statement_lasts (text.while_statement cs) env less h =
        let d : ℕ = conditions_depth cs in
        bind (ClausesDone d) (ActDone (suc d)) _ _ (conditions_last cs env (omega (arith, less)) h) (λ done k. (k.0, lasting.said.loop d done.what k.1))
    statement_lasts (text.when_statement line cs) env less h =
        let d : ℕ = conditions_depth cs in
        bind (ClausesDone d) (ActDone (suc d)) _ _ (conditions_last cs env (omega (arith, less)) h)
        (λ done k. (k.0, lasting.said.await d done.what line k.1))
    statement_lasts (text.cobegin line b bs) env less h =
        let d : ℕ = max (branch_depth b) (branches_depth bs) in
        bind AfterLasts (ActDone (suc d)) _ _
        (bind (ActsDone (branch_depth b)) AfterLasts _ _ (branch_lasts b env (omega (arith, less)) h) (λ one k.
        branches_last bs env one (branch_depth b) (omega (arith, less)) (omega (arith, less)) k))
        (λ done k. (k, lasting.said.forking d done.what line))

    conditions_last : (cs : text.Conditions) (env : Environment) → conditions_depth cs < levels → Lasts env → Gives (ClausesDone (conditions_depth cs))
        (conditions cs env)
    conditions_last (text.conditions c more) env less h =
        clauses_joined c more env (condition_lasts c env (omega (arith, less)) h) (λ e k. elses_last more e (omega (arith, less)) k)

    elses_last : (cs : text.Else) (env : Environment) → else_depth cs < levels → Lasts env → Gives (ClausesDone (else_depth cs)) (elses cs env)
    elses_last text.no_else env less h = (h, lasting.said.no_clauses)
    elses_last (text.next_else c more) env less h =
        clauses_joined c more env (condition_lasts c env (omega (arith, less)) h) (λ e k. elses_last more e (omega (arith, less)) k)

    condition_lasts : (c : text.Condition) (env : Environment) → condition_depth c < levels → Lasts env → Gives (ClauseDone (condition_depth c))
        (condition c env)
    condition_lasts (text.condition e line s) env less h =
        let d : ℕ = max (expr_depth e) (list_depth s) in
        bind (lasting.said.OfValue (expr_depth e)) (ClauseDone d) (expression env e) _ (lasting.said.valued env e) (λ c k.
        ruled (ClauseDone d) (c.of == bool_type) kind.Types line _ (λ r.
        bind (ActsDone (list_depth s)) (ClauseDone d) _ _ (list_lasts s env (omega (arith, less)) h)
        (λ done j. (j.0, lasting.said.guarded (expr_depth e) (list_depth s) c done.what k j.1))))

    branch_lasts : (b : text.Branch) (env : Environment) → branch_depth b < levels → Lasts env → Gives (ActsDone (branch_depth b)) (branch b env)
    branch_lasts (text.branch c line s) env less h =
        let d : ℕ = max (constant_depth c) (list_depth s) in
        behind (ActsDone d) (constant env c) _ (λ k.
        ruled (ActsDone d) (k.of == int_type) kind.Types line _ (λ r.
        weaker (ActsDone (list_depth s)) (ActsDone d) (statement_list s (enter_branch env))
        (λ done j. (j.0, lasting.said.deeper (list_depth s) d done.what (omega arith) j.1))
        (list_lasts s (enter_branch env) (omega (arith, less)) (enter_branch_lasts env h))))

    branches_last : (bs : text.Branches) (before : Environment) (done : After Acts) (d : ℕ) → d < levels → branches_depth bs < levels → ActsDone d done
        → Gives AfterLasts (branches bs before done)
    branches_last (text.no_branch end) before done d less few h =
        bind AfterLasts AfterLasts _ _ (leave_branch_lasts before end done d less h) (λ one k. k)
    branches_last (text.next_branch also b bs) before done d less few h =
        bind AfterLasts AfterLasts _ _ (leave_branch_lasts before also done d less h) (λ one k.
        bind AfterLasts AfterLasts _ _
        (bind (ActsDone (branch_depth b)) AfterLasts _ _ (branch_lasts b one.env (omega (arith, few)) k) (λ next j.
        branches_last bs one.env next (branch_depth b) (omega (arith, few)) (omega (arith, few)) j))
        (λ others j. j))

  -- ---- declarations

  begin_lasts : (m : Bool) (h : text.Heading) (env : Environment) → Lasts env → Gives Lasts (begin_procedure m h env)
  begin_lasts m h env s =
      bind HeadedLasts Lasts _ _ (heading_kept lasting.keep _ h env s) (λ headed k.
      round_kept lasting.keep m (own_name h) (entity.Procedure (length env.blocks))
      (with_heading (kind_of (heading_result headed.asks)) headed) (with_heading_lasts headed k (kind_of (heading_result headed.asks))))

  export_lasts : (m : Bool) (name : Name) (block : ℕ) (env : Environment) → Lasts env → Gives Lasts (post_export m name block env)
  export_lasts true name block env h = outside_round_kept lasting.keep name (entity.Procedure block) env h
  export_lasts false name block env h = h

  post_lasts : (m : Bool) (h : text.Heading) (env : Environment) → Lasts env → Gives Lasts (begin_post m h env)
  post_lasts m h env s =
      bind HeadedLasts Lasts _ _ (heading_kept lasting.keep _ h env s) (λ headed k.
      behind Lasts (completes (begun_named env.begun (own_name h).text) (own_name h) headed) _ (λ _. export_lasts m (own_name h) _ headed.env k))

  pre_lasts : (m : Bool) (h : text.Heading) (env : Environment) → Lasts env → Gives Lasts (pre_decl m h env)
  pre_lasts m h env s = bind Lasts Lasts _ _ (begin_lasts m h env s) (λ e k. k)

  mutual
    rest_lasts : (block : ℕ) (p : text.Procedure) (env : Environment) → procedure_depth p ≤ levels → Lasts env → Gives Lasts (procedure_rest block p env)
    rest_lasts block (text.procedure h ds s end) env small k =
        bind Lasts Lasts _ _ (declarations_last ds _ (omega (arith, small)) k) (λ inner j.
        behind Lasts (all_completed inner.begun) _ (λ _.
        let less : list_depth s < levels = omega (arith, small) in
        bind (ActsDone (list_depth s)) Lasts _ _ (list_lasts s inner less j)
        (λ done i. close_lasts block (list_depth s) done.what end done.env less i.1 i.0)))

    item_lasts : (m : Bool) (i : text.Item) (env : Environment) → item_depth i ≤ levels → Lasts env → Gives Lasts (item m i env)
    item_lasts m (text.const_item cs) env small h = const_list_kept lasting.keep m cs env h
    item_lasts m (text.type_item t) env small h =
        weaker (Grown lasting.keep) Lasts (type_decl m t env) (λ e k. lasting.settled e.types e.blocks k) (type_decl_kept lasting.keep m t env h)
    item_lasts m (text.var_item vs) env small h = var_kept lasting.keep m vs env h
    item_lasts m (text.procedure_item p) env small h =
        bind Lasts Lasts (begin_procedure m (heading_of p) env >>= procedure_rest (length env.blocks) p) _
        (bind Lasts Lasts (begin_procedure m (heading_of p) env) _ (begin_lasts m (heading_of p) env h) (λ e k. rest_lasts _ p e small k))
        (λ e k. k)
    item_lasts m (text.pre_item p) env small h = pre_lasts m p env h
    item_lasts m (text.post_item p) env small h =
        let block : ℕ = block_of env (begun_named env.begun (procedure_name p).text) in
        bind Lasts Lasts (begin_post m (heading_of p) env >>= procedure_rest block p) _
        (bind Lasts Lasts (begin_post m (heading_of p) env) _ (post_lasts m (heading_of p) env h) (λ e k. rest_lasts block p e small k))
        (λ e k. k)

    module_lasts : (m : text.Module) (env : Environment) → module_depth m ≤ levels → Lasts env → Gives Lasts (module_decl m env)
    module_lasts (text.module_with ms s) env small h =
        bind Lasts Lasts _ _ (members_last ms _ (omega (arith, small)) h) (λ inner k.
        behind Lasts (all_completed inner.begun) _ (λ _.
        let less : list_depth s < levels = omega (arith, small) in
        bind (ActsDone (list_depth s)) Lasts _ _ (list_lasts s inner less k)
        (λ done j. add_lasts (here env) (list_depth s) done.what done.env less j.1 j.0)))

    members_last : (ms : text.Members) (env : Environment) → members_depth ms ≤ levels → Lasts env → Gives Lasts (members ms env)
    members_last text.no_member env small h = h
    members_last (text.next_member m ms) env small h = bind Lasts Lasts _ _ (member_lasts m env (omega (arith, small)) h)
        (λ e k. members_last ms e (omega (arith, small)) k)

    member_lasts : (m : text.Member) (env : Environment) → member_depth m ≤ levels → Lasts env → Gives Lasts (member m env)
    member_lasts (text.item_member i) env small h = item_lasts false i env small h
    member_lasts (text.exported_member i) env small h = item_lasts true i env small h
    member_lasts (text.module_member m) env small h = module_lasts m env small h

    declarations_last : (ds : text.Declarations) (env : Environment) → declarations_depth ds ≤ levels → Lasts env → Gives Lasts (declarations ds env)
    declarations_last text.no_declaration env small h = h
    declarations_last (text.next_declaration d ds) env small h =
        bind Lasts Lasts _ _ (declaration_lasts d env (omega (arith, small)) h) (λ e k. declarations_last ds e (omega (arith, small)) k)

    declaration_lasts : (d : text.Declaration) (env : Environment) → declaration_depth d ≤ levels → Lasts env → Gives Lasts (declaration d env)
    declaration_lasts (text.item_declaration i) env small h = item_lasts false i env small h
    declaration_lasts (text.module_declaration m) env small h = module_lasts m env small h

  -- ---- programs

  abbrev pub UnitLasts : ProgramUnit → Type 0
  UnitLasts u = lasting.keep.Is u.types u.blocks

  program_lasts : (p : text.Procedure) (env : Environment) → procedure_depth p ≤ levels → Lasts env → Gives UnitLasts (program_procedure p env)
  program_lasts p env small h =
      bind HeadedLasts UnitLasts (heading_parts 0 (heading_of p) env) _ (heading_kept lasting.keep 0 (heading_of p) env h) (λ headed k.
      bind Lasts UnitLasts (round (declare false (own_name (heading_of p)) (entity.Procedure 0)) (with_heading block_kind.Program headed)) _
      (round_kept lasting.keep false (own_name (heading_of p)) (entity.Procedure 0) (with_heading block_kind.Program headed)
      (with_heading_lasts headed k block_kind.Program)) (λ begun j.
      behind UnitLasts (program_heading begun.types (heading_of p) headed.asks) _ (λ calls.
      bind Lasts UnitLasts (procedure_rest 0 p begun) _ (rest_lasts 0 p begun small j) (λ after i. i))))

  pub unit_lasts : (tree : text.Program) → depth tree ≤ levels → Gives UnitLasts (resolve_tree tree)
  unit_lasts (text.program gs p) small =
      bind Lasts UnitLasts (global_decls gs (enter false at_first)) _
      (globals_kept lasting.keep lasting.settled gs (enter false at_first) lasting.first)
      (λ e k. program_lasts p e (omega (arith, small)) k)
