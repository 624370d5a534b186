-- The `when`s that are met in statements tell of the statements that these become.
use Rattle.std.proofs.Common.{◌≡◌, ℕ, suc, ◌+◌, ◌<◌, ◌≤◌, ◌==◌, if◌then◌else◌, List, [], ◌∷◌, ◌++◌, length, Option, Some, None, refl, sym}
use Rattle.std.proofs.Common.{ap, ◌∙◌, subst, arith, append_assoc, length-append, nat_le}
use Rattle.std.proofs.lemmas.List.Elements.{All-push}
use Rattle.edi_tree.specs.Tree as text
use Rattle.edi_tree.specs.Depth.{list_depth, statements_depth, statement_depth, conditions_depth, condition_depth, else_depth, branch_depth, branches_depth}
use Rattle.edi_unit.specs.Types.{bool_type, int_type, greatest_size}
use Rattle.edi_unit.specs.Tree as unit
use Rattle.edi_unit.specs.Tree.{Acts, Block}
use Rattle.edi_unit.specs.Need.{block_at, need}
use Rattle.edi_unit.specs.Fits.{ActsFit, greatest_levels}
use Rattle.edi_unit.specs.Headings.{heading_formals}
use Rattle.edi_static.specs.declared.faults.StaticKind.TheVariants as kind
use Rattle.edi_static.specs.Judged.{Judged, gives, faults, ◌>>=◌}
use Rattle.edi_static.specs.Environment.{Environment, here, look_up, no_heading}
use Rattle.edi_static.specs.Types.{constant}
use Rattle.edi_static.specs.Fitting.{Use, constructs, calls, halts, neither, use_of}
use Rattle.edi_static.specs.Expressions.{expression, variable_place, all_arguments, args_count}
use Rattle.edi_static.specs.Statements.{After, procedure_called, called, assigned, add_statements, close_block, enter_branch, leave_branch, statement_list, statements, statement}
use Rattle.edi_static.specs.Statements.{conditions, elses, condition, branch, branches}
use Rattle.edi_static.specs.Leaves.{ListHolds, StatementsHolds, StatementHolds, ConditionsHolds, ConditionHolds, ElseHolds, BranchHolds, BranchesHolds}
use Rattle.edi_static.specs.InRange.{in_range}
use Rattle.edi_static.proofs.Judging.{Gives, bind, behind as unknown_before, ruled, weaker, also}
use Rattle.edi_static.proofs.Fitness.{headings_of, Sits}
use Rattle.edi_static.proofs.FitnessLater.{Later}
use Rattle.edi_static.proofs.FitnessBlocks.{Closes, block_later, block_closes}
use Rattle.edi_static.proofs.FitnessStatements.{Steps, here_same, Does, entered_sits, Left, leave_left}
use Rattle.edi_static.proofs.FitnessSequels.{Deep, list_does}
use Rattle.edi_static.proofs.FitnessVariables.{here_inside}
use Rattle.edi_sights.specs.declared.awaits.Await.{Await}
use Rattle.edi_sights.specs.Awaits.{await_at, behind, list_met, statements_met, statement_met, conditions_met, elses_met, condition_met, branch_met}
use Rattle.edi_sights.specs.Awaits.{branches_met}
use Rattle.edi_sights.specs.Whens.{act_lines, acts_lines, clause_lines, clauses_lines, block_lines}
use Rattle.edi_sights.proofs.told.Told.{lines_in, AwaitSits, ToldAt, and_then}
use Rattle.edi_sights.proofs.told.Blocks.{lines_append, begun_lines, changed_lines, then_again, then_nothing, none_else, come}
use Rattle.edi_sights.proofs.told.Slots.{met_sits, all_later}

-- ---- what is met behind a judged construct

pub met_behind : {A B : Type 0} (P : A → Type 0) (Q : B → List Await → Type 0) (m : Judged A) (f : A → Judged B) (more : A → List Await → List Await)
    (awaits : List Await) → Gives P m → ((a : A) → P a → Gives (λ b. Q b (more a awaits)) (f a)) → Gives (λ b. Q b (behind m more awaits)) (m >>= f)
met_behind P Q (gives a) f more awaits h k = k a h
met_behind P Q (faults why line) f more awaits h k = tt

-- ---- places

-- no lines are still to come into blocks that are to come
abbrev pub Fresh : Environment → (ℕ → List ℕ) → Type 0
Fresh env coming = (b : ℕ) → length env.blocks ≤ b → coming b ≡ []

fresh_then : (env : Environment) (h : ℕ) (l : List ℕ) (coming : ℕ → List ℕ) → h < length env.blocks → Fresh env coming → Fresh env (and_then h l coming)
fresh_then env h l coming inside fresh b past = none_else h l coming b (λ e. absurd (omega (arith, e, inside, past))) ∙ fresh b past

fresh_later : (env next : Environment) (coming : ℕ → List ℕ) → Later env next → Fresh env coming → Fresh next coming
fresh_later env next coming l fresh b past = let longer = l.longer in fresh b (omega (arith, past, longer))

shallower : (env : Environment) (deeper : ℕ) → Deep env deeper → (less : ℕ) → less ≤ deeper → Deep env less
shallower env deeper w less h = record { sits = w.sits; inside = w.inside; deep = let deep = w.deep in omega (arith, deep, h) }

still_deep : (env next : Environment) (deeper : ℕ) → Steps env next → Deep env deeper → Deep next deeper
still_deep env next deeper g w = record {
  sits = g.sits;
  inside = subst (λ a. 0 < length a) (sym g.around) w.inside;
  deep = subst (λ a. length a + deeper ≤ greatest_levels) (sym g.around) w.deep;
}

-- ---- what is told

told_as : (env : Environment) (awaits : List Await) (c d : ℕ → List ℕ) → ((b : ℕ) → c b ≡ d b) → ToldAt env awaits c → ToldAt env awaits d
told_as env awaits c d same t = record { lines = λ b. t.lines b ∙ ap (λ l. block_lines env.blocks b ++ l) (same b); sit = t.sit }

-- a `when`
when_told : (name : List ℕ) (line : ℕ) (env : Environment) (h : ℕ) → here env ≡ h → Sits env → 0 < length env.around → (awaits : List Await)
    (coming : ℕ → List ℕ) → ToldAt env awaits coming → ToldAt env (awaits ++ await_at name line env ∷ []) (and_then h (line ∷ []) coming)
when_told name line env h e s inside awaits coming t = record {
  lines = λ b.
      lines_append b awaits (await_at name line env ∷ []) ∙ ap (λ l. l ++ lines_in b (await_at name line env ∷ [])) (t.lines b)
      ∙ append_assoc (block_lines env.blocks b) (coming b) (lines_in b (await_at name line env ∷ []))
      ∙ ap (λ k. block_lines env.blocks b ++ (coming b ++ (if k == b then line ∷ [] else []))) e;
  sit = All-push (AwaitSits env.types env.blocks) awaits (await_at name line env) t.sit (met_sits env s inside name line);
}

-- a block that ends
pub closed_told : (n : ℕ) (s : Acts) (line : ℕ) (env : Environment) (awaits : List Await) (coming : ℕ → List ℕ) → Sits env → n < length env.blocks →
    ActsFit env.types env.blocks (headings_of env.headings) n s → coming n ≡ [] → ToldAt env awaits (and_then n (acts_lines s) coming) →
    Gives (λ next. ToldAt next awaits coming) (close_block n s line env)
closed_told n s line env awaits coming sits inside fits none t =
    weaker (λ next. Closes n env next × ((b : ℕ) → lines_in b awaits ≡ block_lines next.blocks b ++ coming b)) (λ next. ToldAt next awaits coming)
    (close_block n s line env)
    (λ next k. let c = k.0.changes in record { lines = k.1; sit = all_later env next sits c.later awaits t.sit })
    (also (Closes n env) (λ next. (b : ℕ) → lines_in b awaits ≡ block_lines next.blocks b ++ coming b) (close_block n s line env)
    (block_closes n s line env sits inside fits) lines)
  where
    lines : Gives (λ next. (b : ℕ) → lines_in b awaits ≡ block_lines next.blocks b ++ coming b) (close_block n s line env)
    lines =
        let after : Environment = add_statements n s env in
        ruled (λ next. (b : ℕ) → lines_in b awaits ≡ block_lines next.blocks b ++ coming b) (nat_le (need after.types after.blocks n) greatest_size) kind.Range
        line _ (λ small b.
        come n s env awaits coming inside none t.lines b
        ∙ ap (λ l. l ++ coming b)
        (sym (changed_lines after.blocks n (record (block_at after.blocks n) { need = need after.types after.blocks n }) refl b)))

-- ---- branches

begun_told : (before : Environment) → Sits before → (awaits : List Await) (coming : ℕ → List ℕ) → ToldAt before awaits coming
    → ToldAt (enter_branch before) awaits coming
begun_told before s awaits coming t = record {
  lines = λ b. t.lines b ∙ ap (λ l. l ++ coming b) (sym (begun_lines before.blocks _ b refl));
  sit = all_later before (enter_branch before) s (block_later _ no_heading before s) awaits t.sit;
}

one_longer : (before : Environment) → length (enter_branch before).blocks ≡ suc (length before.blocks)
one_longer before = omega (arith, length-append before.blocks)

record Leaves (before : Environment) (awaits : List Await) (coming : ℕ → List ℕ) (one : After ℕ) : Type 0 where
  steps : Steps before one.env
  told : ToldAt one.env awaits coming

left_told : (before : Environment) (line : ℕ) (done : After Acts) (awaits : List Await) (coming : ℕ → List ℕ) → Sits before → 0 < length before.around →
    Fresh before coming → Does ActsFit (enter_branch before) done → ToldAt done.env awaits (and_then (length before.blocks) (acts_lines done.what) coming) →
    Gives (Leaves before awaits coming) (leave_branch before line done)
left_told before line done awaits coming s inside fresh does t =
    let n : ℕ = length before.blocks in
    let one = one_longer before in
    let l = does.steps.later in
    let longer = l.longer in
    weaker (λ one. Left before one × ToldAt one.env awaits coming) (Leaves before awaits coming) (leave_branch before line done)
    (λ one k. let left = k.0 in record { steps = left.steps; told = k.1 })
    (also (Left before) (λ one. ToldAt one.env awaits coming) (leave_branch before line done) (leave_left before line done s inside does)
    (bind (λ next. ToldAt next awaits coming) (λ one. ToldAt one.env awaits coming) (close_block n done.what line done.env) _
    (closed_told n done.what line done.env awaits coming does.steps.sits (omega (arith, one, longer)) does.fits (fresh n (omega arith)) t) (λ after k. k)))

-- ---- constructs one after another

alone : {A B : Type 0} (env : Environment) (m : Judged (After A)) (f : A → B) → Gives (λ (d : After B). Steps env d.env)
    (m >>= λ one. gives (record { what = f one.what; env = one.env })) → Gives (λ (one : After A). Steps env one.env) m
alone env (gives one) f h = h
alone env (faults why line) f h = tt

statement_steps : (s : text.Statement) (env : Environment) → Deep env (statement_depth s) → StatementHolds in_range s
    → Gives (λ (one : After unit.Act). Steps env one.env) (statement s env)
statement_steps s env w h =
    alone env (statement s env) (λ a. unit.act_then a unit.no_act)
    (weaker (Does ActsFit env) (λ (d : After Acts). Steps env d.env) (statement_list (text.list s text.no_statement) env) (λ d k. k.steps)
    (list_does (text.list s text.no_statement) env (shallower env _ w _ (omega arith)) (h, tt)))

condition_steps : (c : text.Condition) (env : Environment) → Deep env (suc (condition_depth c)) → ConditionHolds in_range c
    → Gives (λ (one : After unit.Clause). Steps env one.env) (condition c env)
condition_steps c env w h =
    alone env (condition c env) (λ x. unit.clause_then x unit.no_clause)
    (alone env (conditions (text.conditions c text.no_else) env) unit.if_act
    (statement_steps (text.if_statement (text.conditions c text.no_else)) env (shallower env _ w _ (omega arith)) (h, tt)))

module _ {A B C : Type 0} (la : A → List ℕ) (lb : B → List ℕ) (lc : C → List ℕ) (make : A → B → C) (same : (a : A) (b : B) → lc (make a b) ≡ la a ++ lb b) where
  two_told : (env : Environment) (h : ℕ) → here env ≡ h → (d : ℕ) → Deep env d → (coming : ℕ → List ℕ) → Fresh env coming →
      (m : Judged (After A)) (rest : Environment → Judged (After B)) (more : Environment → List Await → List Await) (awaits : List Await) →
      Gives (λ (one : After A). Steps env one.env) m → Gives (λ (one : After A). ToldAt one.env awaits (and_then h (la one.what) coming)) m →
      ((e : Environment) → here e ≡ h → Deep e d → (c : ℕ → List ℕ) → Fresh e c → ToldAt e awaits c →
      Gives (λ (o : After B). ToldAt o.env (more e awaits) (and_then h (lb o.what) c)) (rest e)) →
      Gives (λ (done : After C). ToldAt done.env (behind m (λ one. more one.env) awaits) (and_then h (lc done.what) coming))
      (m >>= λ one. rest one.env >>= λ others. gives (record { what = make one.what others.what; env = others.env }))
  two_told env h at d w coming fresh m rest more awaits steps first sequel =
      met_behind (λ (one : After A). Steps env one.env × ToldAt one.env awaits (and_then h (la one.what) coming))
      (λ (done : After C) met. ToldAt done.env met (and_then h (lc done.what) coming)) m _ (λ one. more one.env) awaits
      (also (λ (one : After A). Steps env one.env) (λ (one : After A). ToldAt one.env awaits (and_then h (la one.what) coming)) m steps first)
      (λ one k.
      let g : Steps env one.env = k.0 in
      bind (λ (o : After B). ToldAt o.env (more one.env awaits) (and_then h (lb o.what) (and_then h (la one.what) coming)))
      (λ (done : After C). ToldAt done.env (more one.env awaits) (and_then h (lc done.what) coming)) (rest one.env) _
      (sequel one.env (here_same env one.env g.around ∙ at) (still_deep env one.env d g w) (and_then h (la one.what) coming)
      (fresh_later env one.env _ g.later (fresh_then env h (la one.what) coming (subst (λ k. k < length env.blocks) at (here_inside env w.sits w.inside)) fresh))
      k.1)
      (λ others j.
      told_as others.env (more one.env awaits) _ (and_then h (lc (make one.what others.what)) coming)
      (λ b. then_again h (la one.what) (lb others.what) coming b ∙ ap (λ l. and_then h l coming b) (sym (same one.what others.what))) j))

-- a construct of which no `when` is a part
nothing_told : {A : Type 0} (la : A → List ℕ) (env : Environment) (h : ℕ) (a : A) (awaits : List Await) (coming : ℕ → List ℕ) → la a ≡ [] → ToldAt env awaits coming
    → ToldAt env awaits (and_then h (la a) coming)
nothing_told la env h a awaits coming e t =
    told_as env awaits coming (and_then h (la a) coming) (λ b. sym (then_nothing h coming b) ∙ ap (λ l. and_then h l coming b) (sym e)) t

-- an assignment and a call have none
assigned_told : (v : text.Variable) (line : ℕ) (x : text.Expr) (env : Environment) (h : ℕ) (coming : ℕ → List ℕ) (awaits : List Await) → ToldAt env awaits coming →
    Gives (λ (done : After unit.Act). ToldAt done.env awaits (and_then h (act_lines done.what) coming))
    (assigned env v line x >>= λ a. gives (record { what = a; env = env }))
assigned_told v line x env h coming awaits t =
    bind (λ a. act_lines a ≡ []) (λ (done : After unit.Act). ToldAt done.env awaits (and_then h (act_lines done.what) coming)) (assigned env v line x) _
    (unknown_before (λ a. act_lines a ≡ []) (variable_place env v) _ (λ l.
    unknown_before (λ a. act_lines a ≡ []) (expression env x) _ (λ e. ruled (λ a. act_lines a ≡ []) (l.of == e.of) kind.Types line _ (λ is. refl))))
    (λ a e. nothing_told act_lines env h a awaits coming e t)

called_told : (u : Use) (line : ℕ) (xs : Option text.Args) (env : Environment) (h : ℕ) (coming : ℕ → List ℕ) (awaits : List Await) → ToldAt env awaits coming →
    Gives (λ (done : After unit.Act). ToldAt done.env awaits (and_then h (act_lines done.what) coming))
    (called env line u xs >>= λ a. gives (record { what = a; env = env }))
called_told u line xs env h coming awaits t =
    bind (λ a. act_lines a ≡ []) (λ (done : After unit.Act). ToldAt done.env awaits (and_then h (act_lines done.what) coming)) (called env line u xs) _
    (no_lines u xs) (λ a e. nothing_told act_lines env h a awaits coming e t)
  where
    no_lines : (u : Use) (xs : Option text.Args) → Gives (λ a. act_lines a ≡ []) (called env line u xs)
    no_lines (calls c) None = unknown_before (λ a. act_lines a ≡ []) (procedure_called line c 0) _ (λ k. refl)
    no_lines (calls c) (Some as') =
        unknown_before (λ a. act_lines a ≡ []) (procedure_called line c (args_count as')) _ (λ k.
        unknown_before (λ a. act_lines a ≡ []) (all_arguments env line as' (heading_formals c.asks)) _ (λ given. refl))
    no_lines halts None = refl
    no_lines halts (Some as') = tt
    no_lines (constructs of) o = tt
    no_lines neither o = tt

-- ---- statements

module _ (name : List ℕ) where
  abbrev ListTold : ℕ → (ℕ → List ℕ) → List Await → After Acts → Type 0
  ListTold h coming met done = ToldAt done.env met (and_then h (acts_lines done.what) coming)

  abbrev ActTold : ℕ → (ℕ → List ℕ) → List Await → After unit.Act → Type 0
  ActTold h coming met done = ToldAt done.env met (and_then h (act_lines done.what) coming)

  abbrev ClausesTold : ℕ → (ℕ → List ℕ) → List Await → After unit.Clauses → Type 0
  ClausesTold h coming met done = ToldAt done.env met (and_then h (clauses_lines done.what) coming)

  abbrev ClauseTold : ℕ → (ℕ → List ℕ) → List Await → After unit.Clause → Type 0
  ClauseTold h coming met done = ToldAt done.env met (and_then h (clause_lines done.what) coming)

  mutual
    pub list_told : (s : text.StatementList) (env : Environment) (h : ℕ) → here env ≡ h → Deep env (list_depth s) → ListHolds in_range s →
        (coming : ℕ → List ℕ) → Fresh env coming → (awaits : List Await) → ToldAt env awaits coming →
        Gives (ListTold h coming (list_met name s env awaits)) (statement_list s env)
    list_told (text.list s more) env h at w i coming fresh awaits t =
        two_told act_lines acts_lines acts_lines unit.act_then (λ a b. refl) env h at _ w coming fresh (statement s env) (statements more)
        (statements_met name more) (statement_met name s env awaits)
        (statement_steps s env (shallower env _ w _ (omega arith)) i.0)
        (statement_told s env h at (shallower env _ w _ (omega arith)) i.0 coming fresh awaits t)
        (λ e at u c f k. statements_told more e h at (shallower e _ u _ (omega arith)) i.1 c f _ k)

    statements_told : (ss : text.Statements) (env : Environment) (h : ℕ) → here env ≡ h → Deep env (statements_depth ss) → StatementsHolds in_range ss →
        (coming : ℕ → List ℕ) → Fresh env coming → (awaits : List Await) → ToldAt env awaits coming →
        Gives (ListTold h coming (statements_met name ss env awaits)) (statements ss env)
    statements_told text.no_statement env h at w i coming fresh awaits t = nothing_told acts_lines env h unit.no_act awaits coming refl t
    statements_told (text.next_statement s more) env h at w i coming fresh awaits t =
        two_told act_lines acts_lines acts_lines unit.act_then (λ a b. refl) env h at _ w coming fresh (statement s env) (statements more)
        (statements_met name more) (statement_met name s env awaits)
        (statement_steps s env (shallower env _ w _ (omega arith)) i.0)
        (statement_told s env h at (shallower env _ w _ (omega arith)) i.0 coming fresh awaits t)
        (λ e at u c f k. statements_told more e h at (shallower e _ u _ (omega arith)) i.1 c f _ k)

    statement_told : (s : text.Statement) (env : Environment) (h : ℕ) → here env ≡ h → Deep env (statement_depth s) → StatementHolds in_range s →
        (coming : ℕ → List ℕ) → Fresh env coming → (awaits : List Await) → ToldAt env awaits coming →
        Gives (ActTold h coming (statement_met name s env awaits)) (statement s env)
    statement_told text.skip env h at w i coming fresh awaits t = nothing_told act_lines env h unit.skip awaits coming refl t
    statement_told (text.assignment v line x) env h at w i coming fresh awaits t =
        assigned_told v line x env h coming awaits t
    statement_told (text.call called_name xs) env h at w i coming fresh awaits t =
        unknown_before (ActTold h coming awaits) (look_up env called_name) _ (λ means. called_told (use_of env means) called_name.line xs env h coming awaits t)
    statement_told (text.if_statement cs) env h at w i coming fresh awaits t =
        bind (ClausesTold h coming (conditions_met name cs env awaits)) (ActTold h coming (conditions_met name cs env awaits)) (conditions cs env) _
        (conditions_told cs env h at w i coming fresh awaits t) (λ done k. k)
    statement_told (text.while_statement cs) env h at w i coming fresh awaits t =
        bind (ClausesTold h coming (conditions_met name cs env awaits)) (ActTold h coming (conditions_met name cs env awaits)) (conditions cs env) _
        (conditions_told cs env h at w i coming fresh awaits t) (λ done k. k)
    statement_told (text.when_statement line cs) env h at w i coming fresh awaits t =
        let met : List Await = conditions_met name cs env (awaits ++ await_at name line env ∷ []) in
        bind (ClausesTold h (and_then h (line ∷ []) coming) met) (ActTold h coming met) (conditions cs env) _
        (conditions_told cs env h at w i (and_then h (line ∷ []) coming)
        (fresh_then env h (line ∷ []) coming (subst (λ k. k < length env.blocks) at (here_inside env w.sits w.inside)) fresh)
        (awaits ++ await_at name line env ∷ []) (when_told name line env h at w.sits w.inside awaits coming t))
        (λ done k. told_as done.env met _ _ (then_again h (line ∷ []) (clauses_lines done.what) coming) k)
    statement_told (text.cobegin line b bs) env h at w i coming fresh awaits t =
        let met : List Await = behind (branch b env) (branches_met name bs env) (branch_met name b env awaits) in
        bind (λ (done : After (List ℕ)). ToldAt done.env met coming) (ActTold h coming met) (branch b env >>= branches bs env) _
        (met_behind (λ done. Does ActsFit (enter_branch env) done × ListTold (length env.blocks) coming (branch_met name b env awaits) done)
        (λ (done : After (List ℕ)) met. ToldAt done.env met coming) (branch b env) (branches bs env) (branches_met name bs env) (branch_met name b env awaits)
        (branch_told b env (shallower env _ w _ (omega arith)) i.1.0 coming fresh awaits t)
        (λ done k. branches_told bs env done (shallower env _ w _ (omega arith)) i.1.1 coming fresh (branch_met name b env awaits) k.0 k.1))
        (λ done k. told_as done.env met coming (and_then h [] coming) (λ b. sym (then_nothing h coming b)) k)

    conditions_told : (cs : text.Conditions) (env : Environment) (h : ℕ) → here env ≡ h → Deep env (suc (conditions_depth cs)) → ConditionsHolds in_range cs →
        (coming : ℕ → List ℕ) → Fresh env coming → (awaits : List Await) → ToldAt env awaits coming →
        Gives (ClausesTold h coming (conditions_met name cs env awaits)) (conditions cs env)
    conditions_told (text.conditions c more) env h at w i coming fresh awaits t =
        two_told clause_lines clauses_lines clauses_lines unit.clause_then (λ a b. refl) env h at _ w coming fresh (condition c env) (elses more)
        (elses_met name more) (condition_met name c env awaits)
        (condition_steps c env (shallower env _ w _ (omega arith)) i.0)
        (condition_told c env h at (shallower env _ w _ (omega arith)) i.0 coming fresh awaits t)
        (λ e at u d f k. elses_told more e h at (shallower e _ u _ (omega arith)) i.1 d f _ k)

    elses_told : (cs : text.Else) (env : Environment) (h : ℕ) → here env ≡ h → Deep env (suc (else_depth cs)) → ElseHolds in_range cs →
        (coming : ℕ → List ℕ) → Fresh env coming → (awaits : List Await) → ToldAt env awaits coming →
        Gives (ClausesTold h coming (elses_met name cs env awaits)) (elses cs env)
    elses_told text.no_else env h at w i coming fresh awaits t = nothing_told clauses_lines env h unit.no_clause awaits coming refl t
    elses_told (text.next_else c more) env h at w i coming fresh awaits t =
        two_told clause_lines clauses_lines clauses_lines unit.clause_then (λ a b. refl) env h at _ w coming fresh (condition c env) (elses more)
        (elses_met name more) (condition_met name c env awaits)
        (condition_steps c env (shallower env _ w _ (omega arith)) i.0)
        (condition_told c env h at (shallower env _ w _ (omega arith)) i.0 coming fresh awaits t)
        (λ e at u d f k. elses_told more e h at (shallower e _ u _ (omega arith)) i.1 d f _ k)

    condition_told : (c : text.Condition) (env : Environment) (h : ℕ) → here env ≡ h → Deep env (suc (condition_depth c)) → ConditionHolds in_range c →
        (coming : ℕ → List ℕ) → Fresh env coming → (awaits : List Await) → ToldAt env awaits coming →
        Gives (ClauseTold h coming (condition_met name c env awaits)) (condition c env)
    condition_told (text.condition x line s) env h at w i coming fresh awaits t =
        let met : List Await = list_met name s env awaits in
        unknown_before (ClauseTold h coming met) (expression env x) _ (λ v.
        ruled (ClauseTold h coming met) (v.of == bool_type) kind.Types line _ (λ is.
        bind (ListTold h coming met) (ClauseTold h coming met) (statement_list s env) _
        (list_told s env h at (shallower env _ w _ (omega arith)) i.1 coming fresh awaits t) (λ done k. k)))

    branch_told : (b : text.Branch) (env : Environment) → Deep env (suc (branch_depth b)) → BranchHolds in_range b → (coming : ℕ → List ℕ) → Fresh env coming →
        (awaits : List Await) → ToldAt env awaits coming →
        Gives (λ done. Does ActsFit (enter_branch env) done × ListTold (length env.blocks) coming (branch_met name b env awaits) done) (branch b env)
    branch_told (text.branch c line s) env w i coming fresh awaits t =
        let inner : Environment = enter_branch env in
        let met : List Await = list_met name s inner awaits in
        let deep = w.deep in
        let one = one_longer env in
        let u : Deep inner (list_depth s) = record { sits = entered_sits env w.sits w.inside (omega (arith, deep)); inside = omega arith; deep = omega (arith, deep) } in
        unknown_before (λ done. Does ActsFit inner done × ListTold (length env.blocks) coming met done) (constant env c) _ (λ k.
        ruled (λ done. Does ActsFit inner done × ListTold (length env.blocks) coming met done) (k.of == int_type) kind.Types line _ (λ is.
        also (Does ActsFit inner) (ListTold (length env.blocks) coming met) (statement_list s inner) (list_does s inner u i.1)
        (list_told s inner (length env.blocks) refl u i.1 coming (λ b past. fresh b (omega (arith, past, one))) awaits
        (begun_told env w.sits awaits coming t))))

    branches_told : (bs : text.Branches) (before : Environment) (done : After Acts) → Deep before (suc (branches_depth bs)) → BranchesHolds in_range bs →
        (coming : ℕ → List ℕ) → Fresh before coming → (awaits : List Await) → Does ActsFit (enter_branch before) done → ListTold (length before.blocks) coming awaits done →
        Gives (λ (others : After (List ℕ)). ToldAt others.env (branches_met name bs before done awaits) coming) (branches bs before done)
    branches_told (text.no_branch end) before done w i coming fresh awaits does t =
        bind (Leaves before awaits coming) (λ (others : After (List ℕ)). ToldAt others.env awaits coming) (leave_branch before end done) _
        (left_told before end done awaits coming w.sits w.inside fresh does t) (λ one k. k.told)
    branches_told (text.next_branch also_line b bs) before done w i coming fresh awaits does t =
        met_behind (Leaves before awaits coming) (λ (others : After (List ℕ)) met. ToldAt others.env met coming) (leave_branch before also_line done) _
        (λ one met. behind (branch b one.env) (branches_met name bs one.env) (branch_met name b one.env met)) awaits
        (left_told before also_line done awaits coming w.sits w.inside fresh does t)
        (λ one k.
        let u : Deep one.env (suc (branches_depth (text.next_branch also_line b bs))) = still_deep before one.env _ k.steps w in
        let f : Fresh one.env coming = fresh_later before one.env coming (let g = k.steps in g.later) fresh in
        bind (λ (o : After (List ℕ)). ToldAt o.env (behind (branch b one.env) (branches_met name bs one.env) (branch_met name b one.env awaits)) coming)
        (λ (o : After (List ℕ)). ToldAt o.env (behind (branch b one.env) (branches_met name bs one.env) (branch_met name b one.env awaits)) coming)
        (branch b one.env >>= branches bs one.env) _
        (met_behind (λ next. Does ActsFit (enter_branch one.env) next × ListTold (length one.env.blocks) coming (branch_met name b one.env awaits) next)
        (λ (o : After (List ℕ)) met. ToldAt o.env met coming) (branch b one.env) (branches bs one.env) (branches_met name bs one.env)
        (branch_met name b one.env awaits)
        (branch_told b one.env (shallower one.env _ u _ (omega arith)) i.0 coming f awaits k.told)
        (λ next j. branches_told bs one.env next (shallower one.env _ u _ (omega arith)) i.1 coming f (branch_met name b one.env awaits) j.0 j.1))
        (λ others j. j))
