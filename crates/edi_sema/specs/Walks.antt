-- Words of contracts. Lists of constructs, judged from left to right.
use Rattle.std.specs.Prelude.{ℕ, List, [], ◌∷◌, ◌++◌}
use Rattle.edi_tree.specs.Tree as text
use Rattle.edi_tree.specs.View.{ClosedBranch}
use Rattle.edi_unit.specs.Tree as unit
use Rattle.edi_unit.specs.View.{acts, clauses}
use Rattle.edi_static.specs.Judged.{Judged, gives, ◌>>=◌}
use Rattle.edi_static.specs.Environment.{Environment}
use Rattle.edi_static.specs.Statements.{After, statement, condition, branch, leave_branch}

-- what each construct of a list becomes, and what is known after the last
abbrev pub walk : {X Y : Type 0} → (X → Environment → Judged (After Y)) → List X → Environment → Judged (After (List Y))
walk step [] env = gives (record { what = []; env = env })
walk step (x ∷ xs) env =
    step x env >>= λ one. walk step xs one.env >>= λ others. gives (record { what = one.what ∷ others.what; env = others.env })

-- behind constructs that have become these
abbrev pub behind_these : {Y : Type 0} → List Y → Judged (After (List Y)) → Judged (After (List Y))
behind_these ys judged = judged >>= λ others. gives (record { what = ys ++ others.what; env = others.env })

-- what a construct becomes, seen otherwise
abbrev pub seen_as : {A B : Type 0} → (A → B) → Judged (After A) → Judged (After B)
seen_as view judged = judged >>= λ done. gives (record { what = view done.what; env = done.env })

-- a branch with the symbol that closes it
abbrev pub closed_branch : ClosedBranch → Environment → Judged (After ℕ)
closed_branch b env = branch b.opened env >>= leave_branch env b.end

abbrev pub statements_walk : List text.Statement → Environment → Judged (After unit.Acts)
statements_walk ss env = seen_as acts (walk statement ss env)

abbrev pub conditions_walk : List text.Condition → Environment → Judged (After unit.Clauses)
conditions_walk cs env = seen_as clauses (walk condition cs env)
