-- Laws of going through a list of constructs.
use Rattle.std.proofs.Common.{◌≡◌, ℕ, List, [], ◌∷◌, ◌++◌, refl, ap, sym, ◌∙◌}
use Rattle.std.proofs.lemmas.List.{append-nil, append_assoc}
use Rattle.edi_tree.specs.Tree as text
use Rattle.edi_tree.specs.View.{ClosedBranch, else_list}
use Rattle.edi_tree.specs.View as tree
use Rattle.edi_unit.specs.Tree as unit
use Rattle.edi_unit.specs.View.{acts, clauses}
use Rattle.edi_static.specs.declared.faults.StaticKind.{StaticKind}
use Rattle.edi_static.specs.Judged.{Judged, gives, faults, ◌>>=◌}
use Rattle.edi_static.specs.Environment.{Environment}
use Rattle.edi_static.specs.Statements.{After, statement_list, statements, statement, conditions, elses, condition, branch, branches, leave_branch}
use Rattle.edi_values.proofs.Behind.{bind_same}
use Rattle.edi_sema.specs.Walks.{walk, behind_these, seen_as, closed_branch, statements_walk, conditions_walk}

-- ---- loops

-- what stands behind the constructs that have become these is judged as it was behind those at the start
abbrev pub WalksOn : {X Y : Type 0} → (X → Environment → Judged (After Y)) → (ys begun : List Y) → (rest all : List X) → (now first : Environment) → Type 0
WalksOn step ys begun rest all now first = behind_these ys (walk step rest now) ≡ behind_these begun (walk step all first)

behind_both : {Y : Type 0} (ys : List Y) (y : Y) (m : Judged (After (List Y))) → behind_these ys (behind_these (y ∷ []) m) ≡ behind_these (ys ++ y ∷ []) m
behind_both ys y (gives done) = ap (λ zs. gives (record { what = zs; env = done.env })) (sym (append_assoc ys (y ∷ []) done.what))
behind_both ys y (faults why line) = refl

-- one construct is judged, and the rest is still to come
pub walk_first : {X Y : Type 0} (step : X → Environment → Judged (After Y)) (x : X) (xs : List X) (env : Environment) (y : Y) (after : Environment) →
    step x env ≡ gives (record { what = y; env = after }) → behind_these (y ∷ []) (walk step xs after) ≡ walk step (x ∷ xs) env
walk_first step x xs env y after e =
    sym (ap (λ m. m >>= λ one. walk step xs one.env >>= λ others. gives (record { what = one.what ∷ others.what; env = others.env })) e)

pub walk_next : {X Y : Type 0} (step : X → Environment → Judged (After Y)) (ys : List Y) (x : X) (xs : List X) (env : Environment) (y : Y)
    (after : Environment) (whole : Judged (After (List Y))) →
    behind_these ys (walk step (x ∷ xs) env) ≡ whole → step x env ≡ gives (record { what = y; env = after })
    → behind_these (ys ++ y ∷ []) (walk step xs after) ≡ whole
walk_next step ys x xs env y after whole h e =
    sym (behind_both ys y (walk step xs after)) ∙ (ap (behind_these ys) (walk_first step x xs env y after e) ∙ h)

pub walk_done : {X Y : Type 0} (step : X → Environment → Judged (After Y)) (ys : List Y) (env : Environment) (whole : Judged (After (List Y))) →
    behind_these ys (walk step [] env) ≡ whole → whole ≡ gives (record { what = ys; env = env })
walk_done step ys env whole h = sym h ∙ ap (λ zs. gives (record { what = zs; env = env })) (append-nil ys)

pub walk_faults : {X Y : Type 0} (step : X → Environment → Judged (After Y)) (ys : List Y) (x : X) (xs : List X) (env : Environment) (why : StaticKind)
    (line : ℕ) (whole : Judged (After (List Y))) →
    behind_these ys (walk step (x ∷ xs) env) ≡ whole → step x env ≡ faults why line → whole ≡ faults why line
walk_faults step ys x xs env why line whole h e =
    sym h ∙ ap (λ m. behind_these ys (m >>= λ one. walk step xs one.env >>= λ others. gives (record { what = one.what ∷ others.what; env = others.env }))) e

-- ---- whole lists, whose first construct is judged before the loop

pub looped : {X Y : Type 0} (step : X → Environment → Judged (After Y)) (x : X) (xs rest : List X) (y : Y) (ys begun : List Y) (env first now : Environment) →
    begun ≡ y ∷ [] → step x env ≡ gives (record { what = y; env = first }) →
    behind_these ys (walk step rest now) ≡ behind_these begun (walk step xs first) → behind_these ys (walk step rest now) ≡ walk step (x ∷ xs) env
looped step x xs rest y ys begun env first now b e h =
    h ∙ (ap (λ ys. behind_these ys (walk step xs first)) b ∙ walk_first step x xs env y first e)

pub looped_done : {X Y : Type 0} (step : X → Environment → Judged (After Y)) (rest : List X) (ys : List Y) (now : Environment)
    (whole : Judged (After (List Y))) →
    behind_these ys (walk step rest now) ≡ whole → rest ≡ [] → whole ≡ gives (record { what = ys; env = now })
looped_done step rest ys now whole h e = walk_done step ys now whole (ap (λ rest. behind_these ys (walk step rest now)) (sym e) ∙ h)

pub looped_next : {X Y : Type 0} (step : X → Environment → Judged (After Y)) (rest zs : List X) (z : X) (w : Y) (ys more : List Y) (now after : Environment)
    (whole : Judged (After (List Y))) →
    behind_these ys (walk step rest now) ≡ whole → rest ≡ z ∷ zs → step z now ≡ gives (record { what = w; env = after }) → more ≡ ys ++ w ∷ [] →
    behind_these more (walk step zs after) ≡ whole
looped_next step rest zs z w ys more now after whole h r e m =
    ap (λ more. behind_these more (walk step zs after)) m
    ∙ walk_next step ys z zs now w after whole (ap (λ rest. behind_these ys (walk step rest now)) (sym r) ∙ h) e

pub looped_faults : {X Y : Type 0} (step : X → Environment → Judged (After Y)) (rest zs : List X) (z : X) (ys : List Y) (now : Environment)
    (whole : Judged (After (List Y))) →
    behind_these ys (walk step rest now) ≡ whole → rest ≡ z ∷ zs → (why : StaticKind) (line : ℕ) → step z now ≡ faults why line → whole ≡ faults why line
looped_faults step rest zs z ys now whole h r why line e =
    walk_faults step ys z zs now why line whole (ap (λ rest. behind_these ys (walk step rest now)) (sym r) ∙ h) e

pub first_faults : {X Y : Type 0} (step : X → Environment → Judged (After Y)) (x : X) (xs : List X) (env : Environment) (why : StaticKind) (line : ℕ) →
    step x env ≡ faults why line → walk step (x ∷ xs) env ≡ faults why line
first_faults step x xs env why line e =
    ap (λ m. m >>= λ one. walk step xs one.env >>= λ others. gives (record { what = one.what ∷ others.what; env = others.env })) e

-- ---- a first construct put in front of a list

abbrev before : {Y L : Type 0} → (Y → L → L) → Y → After L → Judged (After L)
before put y others = gives (record { what = put y others.what; env = others.env })

module _ {X Y L : Type 0} (view : List Y → L) (put : Y → L → L) (same : (y : Y) (ys : List Y) → put y (view ys) ≡ view (y ∷ ys))
    (step : X → Environment → Judged (After Y))
  where
    put_first : (y : Y) (m : Judged (After (List Y))) →
        (seen_as view m >>= before put y) ≡ seen_as view (m >>= λ others. gives (record { what = y ∷ others.what; env = others.env }))
    put_first y (gives others) = ap (λ l. after l others.env) (same y others.what)
      where
        after : L → Environment → Judged (After L)
        after l env = gives (record { what = l; env = env })
    put_first y (faults why line) = refl

    put_step : (xs : List X) (rest : Environment → Judged (After L)) → ((env : Environment) → rest env ≡ seen_as view (walk step xs env)) →
        (m : Judged (After Y)) →
        (m >>= λ one. rest one.env >>= before put one.what)
        ≡ seen_as view (m >>= λ one. walk step xs one.env >>= λ others. gives (record { what = one.what ∷ others.what; env = others.env }))
    put_step xs rest h (gives one) = ap (λ r. r >>= before put one.what) (h one.env) ∙ put_first one.what (walk step xs one.env)
    put_step xs rest h (faults why line) = refl

-- ---- lists of statements, and conditions

statements_are : (ss : List text.Statement) (env : Environment) → statements (tree.statements ss) env ≡ statements_walk ss env
statements_are [] env = refl
statements_are (s ∷ ss) env =
    put_step acts unit.act_then (λ a as'. refl) statement ss (statements (tree.statements ss)) (statements_are ss) (statement s env)

pub list_is : (s : text.Statement) (ss : List text.Statement) (env : Environment) → statement_list (text.list s (tree.statements ss)) env ≡ statements_walk
    (s ∷ ss) env
list_is s ss env = statements_are (s ∷ ss) env

elses_are : (cs : List text.Condition) (env : Environment) → elses (else_list cs) env ≡ conditions_walk cs env
elses_are [] env = refl
elses_are (c ∷ cs) env = put_step clauses unit.clause_then (λ c cs. refl) condition cs (elses (else_list cs)) (elses_are cs) (condition c env)

pub conditions_are : (c : text.Condition) (cs : List text.Condition) (env : Environment) → conditions (text.conditions c (else_list cs)) env ≡ conditions_walk
    (c ∷ cs) env
conditions_are c cs env = elses_are (c ∷ cs) env

-- ---- branches

abbrev number_before : ℕ → After (List ℕ) → Judged (After (List ℕ))
number_before b others = gives (record { what = b ∷ others.what; env = others.env })

-- a branch is closed by the symbol behind it, and then come the others
closed_first : (m : Judged (After unit.Acts)) (env : Environment) (end : ℕ) (more : After ℕ → Judged (After (List ℕ))) →
    (m >>= λ done. leave_branch env end done >>= more) ≡ ((m >>= leave_branch env end) >>= more)
closed_first (gives done) env end more = refl
closed_first (faults why line) env end more = refl

single : (m : Judged (After ℕ)) →
    (m >>= λ one. gives (record { what = one.what ∷ []; env = one.env })) ≡ (m >>= λ one. walk closed_branch [] one.env >>= number_before one.what)
single (gives one) = refl
single (faults why line) = refl

pub branches_are : (b : ClosedBranch) (bs : List ClosedBranch) (env : Environment) →
    (branch b.opened env >>= branches (tree.branches b.end bs) env) ≡ walk closed_branch (b ∷ bs) env
branches_are b [] env =
    closed_first (branch b.opened env) env b.end (λ one. gives (record { what = one.what ∷ []; env = one.env })) ∙ single (closed_branch b env)
branches_are b (next ∷ bs) env =
    closed_first (branch b.opened env) env b.end (λ one. branch next.opened one.env >>= branches (tree.branches next.end bs) one.env >>= number_before one.what)
    ∙ bind_same (closed_branch b env) _ _ (λ one. ap (λ m. m >>= number_before one.what) (branches_are next bs one.env))

pub cobegin_is : (line : ℕ) (b : ClosedBranch) (bs : List ClosedBranch) (env : Environment) →
    statement (text.cobegin line b.opened (tree.branches b.end bs)) env
    ≡ (walk closed_branch (b ∷ bs) env >>= λ done. gives (record { what = unit.cobegin done.what line; env = done.env }))
cobegin_is line b bs env = ap (λ m. m >>= λ done. gives (record { what = unit.cobegin done.what line; env = done.env })) (branches_are b bs env)
