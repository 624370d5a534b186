-- The bodies of blocks and what they cost, construct by construct: what the blocks of the marks so far take, and 8 words for
-- each mark that is still to come, never grow.
use Rattle.std.proofs.Common.{◌≡◌, ℕ, zero, suc, ◌+◌, ◌*◌, ◌≤◌, Bool, true, false, List, [], ◌∷◌, ◌++◌, length, Option, Some, None, All, nat_lt, nat_le}
use Rattle.std.proofs.Common.{◌==◌, refl, arith, subst, sym}
use Rattle.std.specs.Prelude.{slice_set}
use Rattle.std.proofs.lemmas.List.{get_or_past, length-append}
use Rattle.std.proofs.lemmas.List.Elements.{All-set, All-get_or, All-push}
use Rattle.edi_lex.specs.declared.symbol.Symbol.TheVariants as is
use Rattle.edi_tree.specs.declared.names.Name.{Name}
use Rattle.edi_tree.specs.Tree as text
use Rattle.edi_tree.specs.Stands.{Spelled, on, just, name_mark}
use Rattle.edi_tree.specs.Spelled.{constant_then, expr_then, variable_then, optional_args_then, args_then, list_then}
use Rattle.edi_tree.specs.Spelled.{statements_then, statement_then, conditions_then, condition_then, else_then, branch_then, branches_then}
use Rattle.edi_unit.specs.declared.units.BlockKind.TheVariants as block_kind
use Rattle.edi_unit.specs.Types.{Shape, greatest_size, int_type, bool_type}
use Rattle.edi_unit.specs.Tree.{Act, Acts, no_act, act_then, Clause, Clauses, Block}
use Rattle.edi_unit.specs.Need.{no_block, block_at, need}
use Rattle.edi_unit.specs.Headings.{heading_formals}
use Rattle.edi_static.specs.declared.faults.StaticKind.TheVariants as kind
use Rattle.edi_static.specs.Environment.{Environment, look_up, here, begun_block}
use Rattle.edi_static.specs.Types.{constant}
use Rattle.edi_static.specs.Fitting.{Use, constructs, calls, halts, neither, use_of}
use Rattle.edi_static.specs.Expressions.{expression, variable_place, all_arguments, args_count}
use Rattle.edi_static.specs.Statements.{After, procedure_called, acts_append, assigned, called, add_statements, with_need, close_block, enter_branch}
use Rattle.edi_static.specs.Statements.{leave_branch, statement_list, statements, statement, conditions, elses, condition, branch, branches}
use Rattle.edi_static.proofs.Judging.{Gives, bind, behind, ruled}
use Rattle.edi_scheme.specs.Lines.{ActLines, ActsLines, ClauseLines, ClausesLines}
use Rattle.edi_scheme.specs.Laws.{HasPart}
use Rattle.edi_compile.proofs.codable.Front.{weight, Lined, constant_front}
use Rattle.edi_compile.proofs.codable.Most.{expression_most, act_most, acts_most, clause_most, clauses_most, total}
use Rattle.edi_compile.proofs.codable.Costs.{Costs, Fine}
use Rattle.edi_compile.proofs.codable.Expressions.{PlaceFine, ArgumentsFine, expression_fine, place_fine, arguments_fine}

-- ---- statements without statements in them

abbrev ActFine : List Spelled → List Spelled → Act → Type 0
ActFine a b x = Costs (ActLines x) (act_most x) a b

assigned_fine : (env : Environment) (v : text.Variable) (line : ℕ) (e : text.Expr) (more : List Spelled)
    → Lined (variable_then v (on is.Becomes line ∷ expr_then e more)) → Gives (ActFine (variable_then v (on is.Becomes line ∷ expr_then e more)) more)
    (assigned env v line e)
assigned_fine env v line e more h =
    let inner : List Spelled = expr_then e more in
    let front : List Spelled = variable_then v (on is.Becomes line ∷ inner) in
    bind (PlaceFine front (on is.Becomes line ∷ inner)) (ActFine front more) (variable_place env v) _ (place_fine env v (on is.Becomes line ∷ inner) h) (λ l k.
    bind (Fine inner more) (ActFine front more) (expression env e) _ (expression_fine env e more k.lined.1) (λ x j.
    ruled (ActFine front more) (l.of == x.of) kind.Types line _
    (λ r. record { lined = j.lined; lines = (k.lines, j.lines); fewer = omega (arith, k.fewer, j.fewer) })))

called_fine : (env : Environment) (name : Name) (u : Use) (xs : Option text.Args) (more : List Spelled) → Lined (name_mark name ∷ optional_args_then xs more)
    → Gives (ActFine (name_mark name ∷ optional_args_then xs more) more) (called env name.line u xs)
called_fine env name (calls c) None more h =
    behind (ActFine (name_mark name ∷ more) more) (procedure_called name.line c 0) _ (λ r. record { lined = h.1; lines = (h.0, tt); fewer = omega arith })
called_fine env name (calls c) (Some xs) more h =
    let front : List Spelled = name_mark name ∷ args_then xs more in
    behind (ActFine front more) (procedure_called name.line c (args_count xs)) _ (λ r.
    bind (ArgumentsFine (args_then xs more) more) (ActFine front more) (all_arguments env name.line xs (heading_formals c.asks)) _
    (arguments_fine env name.line xs (heading_formals c.asks) more h.1)
    (λ ys k. record { lined = k.lined; lines = (h.0, k.lines); fewer = omega (arith, k.fewer) }))
called_fine env name halts None more h = record { lined = h.1; lines = h.0; fewer = omega arith }
called_fine env name halts (Some xs) more h = tt
called_fine env name (constructs of) None more h = tt
called_fine env name (constructs of) (Some xs) more h = tt
called_fine env name neither None more h = tt
called_fine env name neither (Some xs) more h = tt

-- ---- blocks

abbrev pub BodyLines : Block → Type 0
BodyLines block = ActsLines block.body

lined_or : (bs : List Block) (n : ℕ) (inside : Bool) → nat_lt n (length bs) ≡ inside → All BodyLines bs → BodyLines (block_at bs n)
lined_or bs n true e h = All-get_or BodyLines bs n no_block (grind (arith, e)) h
lined_or bs n false e h = subst BodyLines (sym (get_or_past bs n no_block (grind (arith, e)))) tt

at_lined : (bs : List Block) (n : ℕ) → All BodyLines bs → BodyLines (block_at bs n)
at_lined bs n h = lined_or bs n (nat_lt n (length bs)) refl h

set_total : (bs : List Block) (n : ℕ) (b : Block) (extra : ℕ) → acts_most b.body ≤ acts_most (block_at bs n).body + extra → total (slice_set bs n b) ≤ total
    bs + extra
set_total [] n b extra h = omega arith
set_total (c ∷ bs) zero b extra h = omega (arith, h)
set_total (c ∷ bs) (suc n) b extra h = omega (arith, set_total bs n b extra h)

pub push_total : (bs : List Block) (b : Block) → total (bs ++ b ∷ []) ≡ total bs + (acts_most b.body + 9)
push_total [] b = omega arith
push_total (c ∷ bs) b = omega (arith, push_total bs b)

appended_lines : (a s : Acts) → ActsLines a → ActsLines s → ActsLines (acts_append a s)
appended_lines no_act s h k = k
appended_lines (act_then x a) s h k = (h.0, appended_lines a s h.1 k)

appended_most : (a s : Acts) → acts_most (acts_append a s) ≡ acts_most a + acts_most s
appended_most no_act s = omega arith
appended_most (act_then x a) s = omega (arith, appended_most a s)

-- the blocks take at most so many words, with 8 for each type
pub record Counted (n : ℕ) (types : List Shape) (blocks : List Block) : Type 0 where
  pub bodies : All BodyLines blocks
  pub standard : 3 ≤ length types
  pub within : total blocks + 8 * length types ≤ n

pub typed : (n : ℕ) (types : List Shape) (blocks : List Block) (shape : Shape) → HasPart shape → Counted n types blocks
    → Counted (n + 8) (types ++ shape ∷ []) blocks
typed n types blocks shape part h =
    let one_more = length-append types (shape ∷ []) in
    record { bodies = h.bodies; standard = omega (arith, h.standard, one_more); within = omega (arith, h.within, one_more) }

pub varied : (m : ℕ) (types : List Shape) (blocks : List Block) (n : ℕ) (block : Block) → block.body ≡ (block_at blocks n).body → Counted m types blocks
    → Counted m types (slice_set blocks n block)
varied m types blocks n block e h =
    let body : ActsLines block.body = subst ActsLines (sym e) (at_lined blocks n h.bodies) in
    let most : acts_most block.body ≤ acts_most (block_at blocks n).body + 0 = subst (λ s. acts_most s ≤ acts_most (block_at blocks n).body + 0) (sym e)
    (omega arith) in
    record { bodies = All-set BodyLines blocks n block body h.bodies; standard = h.standard; within = omega (arith, set_total blocks n block 0 most, h.within) }

-- of a program that may take so many words
module _ (budget : ℕ) where
  -- a place of the text, where so many words are spent on what belongs to no block yet
  pub record Good (spent : ℕ) (env : Environment) (front : List Spelled) : Type 0 where
    pub bodies : All BodyLines env.blocks
    pub standard : 3 ≤ length env.types
    pub within : total env.blocks + 8 * length env.types + spent + 8 * weight front ≤ budget
    pub lined : Lined front

  abbrev pub ActDone : ℕ → List Spelled → After Act → Type 0
  ActDone spent more done = ActLines done.what × Good (spent + act_most done.what) done.env more

  abbrev pub ActsDone : ℕ → List Spelled → After Acts → Type 0
  ActsDone spent more done = ActsLines done.what × Good (spent + acts_most done.what) done.env more

  abbrev ClauseDone : ℕ → List Spelled → After Clause → Type 0
  ClauseDone spent more done = ClauseLines done.what × Good (spent + clause_most done.what) done.env more

  abbrev ClausesDone : ℕ → List Spelled → After Clauses → Type 0
  ClausesDone spent more done = ClausesLines done.what × Good (spent + clauses_most done.what) done.env more

  -- each branch takes three words of the COBEGIN
  abbrev BranchesDone : ℕ → List Spelled → After (List ℕ) → Type 0
  BranchesDone spent more done = Good (spent + 3 * length done.what) done.env more

  pub moved : {n m : ℕ} {env : Environment} {a b : List Spelled} → Good n env a → Lined b → m + 8 * weight b ≤ n + 8 * weight a → Good m env b
  moved g h less = record { bodies = g.bodies; standard = g.standard; within = omega (arith, g.within, less); lined = h }

  -- ---- ends of blocks

  pub add_good : (n : ℕ) (s : Acts) (env : Environment) (spent : ℕ) (front : List Spelled) → ActsLines s → Good (spent + acts_most s) env front
      → Good spent (add_statements n s env) front
  add_good n s env spent front h g =
      let old : Block = block_at env.blocks n in
      let body : ActsLines (acts_append old.body s) = appended_lines old.body s (at_lined env.blocks n g.bodies) h in
      let most : acts_most (acts_append old.body s) ≤ acts_most old.body + acts_most s = omega (arith, appended_most old.body s) in
      let all : total (add_statements n s env).blocks ≤ total env.blocks + acts_most s = set_total env.blocks n _ (acts_most s) most in
      record { bodies = All-set BodyLines env.blocks n _ body g.bodies; standard = g.standard; within = omega (arith, g.within, all); lined = g.lined }

  need_good : (n line : ℕ) (env : Environment) (spent : ℕ) (front : List Spelled) → Good spent env front → Gives (λ e. Good spent e front)
      (with_need n line env)
  need_good n line env spent front g =
      ruled (λ e. Good spent e front) (nat_le (need env.types env.blocks n) greatest_size) kind.Range line _ (λ e.
      let kept = varied (total env.blocks + 8 * length env.types) env.types env.blocks n
      (record (block_at env.blocks n) { need = need env.types env.blocks n }) refl
      (record { bodies = g.bodies; standard = g.standard; within = omega arith }) in
      record { bodies = kept.bodies; standard = kept.standard; within = omega (arith, g.within, kept.within); lined = g.lined })

  pub close_good : (n : ℕ) (s : Acts) (line : ℕ) (env : Environment) (spent : ℕ) (front : List Spelled) → ActsLines s → Good (spent + acts_most s) env front
      → Gives (λ e. Good spent e front) (close_block n s line env)
  close_good n s line env spent front h g = need_good n line (add_statements n s env) spent front (add_good n s env spent front h g)

  leave_good : (before : Environment) (line : ℕ) (done : After Acts) (spent : ℕ) (front : List Spelled) → ActsDone spent front done
      → Gives (λ one. Good spent one.env front) (leave_branch before line done)
  leave_good before line done spent front h =
      bind (λ e. Good spent e front) (λ one. Good spent one.env front) (close_block (length before.blocks) done.what line done.env) _
      (close_good (length before.blocks) done.what line done.env spent front h.0 h.1)
      (λ e k. record { bodies = k.bodies; standard = k.standard; within = k.within; lined = k.lined })

  enter_good : (env : Environment) (spent : ℕ) (front more : List Spelled) → Good spent env front → Lined more → 2 + weight more ≤ weight front
      → Good spent (enter_branch env) more
  enter_good env spent front more g h less =
      let block : Block = begun_block block_kind.Branch (here env) None [] in
      record {
        bodies = All-push BodyLines env.blocks block g.bodies tt;
        standard = g.standard;
        within = omega (arith, g.within, push_total env.blocks block, less);
        lined = h;
      }

  -- ---- statements

  mutual
    pub list_good : (s : text.StatementList) (more : List Spelled) (env : Environment) (spent : ℕ) → Good spent env (list_then s more)
        → Gives (ActsDone spent more) (statement_list s env)
    list_good (text.list s ss) more env spent g =
        bind (ActDone spent (statements_then ss more)) (ActsDone spent more) _ _ (statement_good s (statements_then ss more) env spent g) (λ one k.
        bind (ActsDone (spent + act_most one.what) more) (ActsDone spent more) _ _ (statements_good ss more one.env (spent + act_most one.what) k.1)
        (λ others j.
        ((k.0, j.0), moved j.1 j.1.lined (omega arith))))

    statements_good : (s : text.Statements) (more : List Spelled) (env : Environment) (spent : ℕ) → Good spent env (statements_then s more)
        → Gives (ActsDone spent more) (statements s env)
    statements_good text.no_statement more env spent g = (tt, moved g g.lined (omega arith))
    statements_good (text.next_statement s ss) more env spent g =
        bind (ActDone spent (statements_then ss more)) (ActsDone spent more) _ _
        (statement_good s (statements_then ss more) env spent (moved g g.lined.1 (omega arith))) (λ one k.
        bind (ActsDone (spent + act_most one.what) more) (ActsDone spent more) _ _ (statements_good ss more one.env (spent + act_most one.what) k.1)
        (λ others j.
        ((k.0, j.0), moved j.1 j.1.lined (omega arith))))

    statement_good : (s : text.Statement) (more : List Spelled) (env : Environment) (spent : ℕ) → Good spent env (statement_then s more)
        → Gives (ActDone spent more) (statement s env)
    statement_good text.skip more env spent g = (tt, moved g g.lined.1 (omega arith))
    statement_good (text.assignment v line e) more env spent g =
        let front : List Spelled = variable_then v (on is.Becomes line ∷ expr_then e more) in
        bind (ActFine front more) (ActDone spent more) (assigned env v line e) _ (assigned_fine env v line e more g.lined) (λ a k.
        (k.lines, moved g k.lined (omega (arith, k.fewer))))
    statement_good (text.call name xs) more env spent g =
        let front : List Spelled = name_mark name ∷ optional_args_then xs more in
        behind (ActDone spent more) (look_up env name) _ (λ means.
        bind (ActFine front more) (ActDone spent more) (called env name.line (use_of env means) xs) _
        (called_fine env name (use_of env means) xs more g.lined) (λ a k.
        (k.lines, moved g k.lined (omega (arith, k.fewer)))))
    statement_good (text.if_statement cs) more env spent g =
        bind (ClausesDone spent (just is.End ∷ more)) (ActDone spent more) _ _
        (conditions_good cs (just is.End ∷ more) env spent (moved g g.lined.1 (omega arith))) (λ done k.
        (k.0, moved k.1 k.1.lined.1 (omega arith)))
    statement_good (text.while_statement cs) more env spent g =
        bind (ClausesDone spent (just is.End ∷ more)) (ActDone spent more) _ _
        (conditions_good cs (just is.End ∷ more) env spent (moved g g.lined.1 (omega arith))) (λ done k.
        (k.0, moved k.1 k.1.lined.1 (omega arith)))
    statement_good (text.when_statement line cs) more env spent g =
        bind (ClausesDone spent (just is.End ∷ more)) (ActDone spent more) _ _
        (conditions_good cs (just is.End ∷ more) env spent (moved g g.lined.1 (omega arith))) (λ done k.
        ((g.lined.0, k.0), moved k.1 k.1.lined.1 (omega arith)))
    statement_good (text.cobegin line b bs) more env spent g =
        bind (BranchesDone (spent + 3) more) (ActDone spent more) _ _
        (bind (ActsDone (spent + 3) (branches_then bs more)) (BranchesDone (spent + 3) more) _ _
        (branch_good b (branches_then bs more) env (spent + 3) (moved g g.lined.1 (omega arith))) (λ one k.
        branches_good bs more env one (spent + 3) k))
        (λ done k. (g.lined.0, moved k k.lined (omega arith)))

    conditions_good : (cs : text.Conditions) (more : List Spelled) (env : Environment) (spent : ℕ) → Good spent env (conditions_then cs more)
        → Gives (ClausesDone spent more) (conditions cs env)
    conditions_good (text.conditions c cs) more env spent g =
        bind (ClauseDone spent (else_then cs more)) (ClausesDone spent more) _ _ (condition_good c (else_then cs more) env spent g) (λ one k.
        bind (ClausesDone (spent + clause_most one.what) more) (ClausesDone spent more) _ _ (elses_good cs more one.env (spent + clause_most one.what) k.1)
        (λ others j.
        ((k.0, j.0), moved j.1 j.1.lined (omega arith))))

    elses_good : (cs : text.Else) (more : List Spelled) (env : Environment) (spent : ℕ) → Good spent env (else_then cs more) → Gives (ClausesDone spent more)
        (elses cs env)
    elses_good text.no_else more env spent g = (tt, moved g g.lined (omega arith))
    elses_good (text.next_else c cs) more env spent g =
        bind (ClauseDone spent (else_then cs more)) (ClausesDone spent more) _ _
        (condition_good c (else_then cs more) env spent (moved g g.lined.1 (omega arith))) (λ one k.
        bind (ClausesDone (spent + clause_most one.what) more) (ClausesDone spent more) _ _ (elses_good cs more one.env (spent + clause_most one.what) k.1)
        (λ others j.
        ((k.0, j.0), moved j.1 j.1.lined (omega arith))))

    -- the mark `do` pays what stands in front of the list and behind it
    condition_good : (c : text.Condition) (more : List Spelled) (env : Environment) (spent : ℕ) → Good spent env (condition_then c more)
        → Gives (ClauseDone spent more) (condition c env)
    condition_good (text.condition e line s) more env spent g =
        let inner : List Spelled = on is.Do line ∷ list_then s more in
        bind (Fine (expr_then e inner) inner) (ClauseDone spent more) (expression env e) _ (expression_fine env e inner g.lined) (λ c k.
        ruled (ClauseDone spent more) (c.of == bool_type) kind.Types line _ (λ r.
        let paid : Good (spent + (expression_most c.what + 7)) env (list_then s more) = moved g k.lined.1 (omega (arith, k.fewer)) in
        bind (ActsDone (spent + (expression_most c.what + 7)) more) (ClauseDone spent more) _ _
        (list_good s more env (spent + (expression_most c.what + 7)) paid) (λ done j.
        ((k.lines, j.0), moved j.1 j.1.lined (omega arith)))))

    -- the constant and the mark `do` pay the word behind the list
    branch_good : (b : text.Branch) (more : List Spelled) (env : Environment) (spent : ℕ) → Good spent env (branch_then b more)
        → Gives (ActsDone spent more) (branch b env)
    branch_good (text.branch c line s) more env spent g =
        let inner : List Spelled = on is.Do line ∷ list_then s more in
        let first = constant_front c inner in
        let lined : Lined inner = first.lined g.lined in
        behind (ActsDone spent more) (constant env c) _ (λ k.
        ruled (ActsDone spent more) (k.of == int_type) kind.Types line _ (λ r.
        list_good s more (enter_branch env) spent (enter_good env spent (constant_then c inner) (list_then s more) g lined.1 (omega (arith, first.fewer)))))

    branches_good : (bs : text.Branches) (more : List Spelled) (before : Environment) (done : After Acts) (spent : ℕ) → ActsDone spent (branches_then bs more)
        done → Gives (BranchesDone spent more) (branches bs before done)
    branches_good (text.no_branch end) more before done spent h =
        bind (λ one. Good spent one.env (on is.End end ∷ more)) (BranchesDone spent more) _ _ (leave_good before end done spent (on is.End end ∷ more) h)
        (λ one k.
        moved k k.lined.1 (omega arith))
    branches_good (text.next_branch also b bs) more before done spent h =
        let inner : List Spelled = branch_then b (branches_then bs more) in
        bind (λ one. Good spent one.env (on is.Also also ∷ inner)) (BranchesDone spent more) _ _
        (leave_good before also done spent (on is.Also also ∷ inner) h) (λ one k.
        bind (BranchesDone (spent + 3) more) (BranchesDone spent more) _ _
        (bind (ActsDone (spent + 3) (branches_then bs more)) (BranchesDone (spent + 3) more) _ _
        (branch_good b (branches_then bs more) one.env (spent + 3) (moved k k.lined.1 (omega arith))) (λ next j.
        branches_good bs more one.env next (spent + 3) j))
        (λ others j. moved j j.lined (omega arith)))
