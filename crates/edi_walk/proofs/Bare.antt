-- Work without the positions of its statements.
use Rattle.std.proofs.Common.{◌≡◌, ℕ, suc, List, [], ◌∷◌, ◌++◌, Some, refl, ap, ◌∙◌}
use Rattle.edi_unit.specs.Tree as tree
use Rattle.edi_unit.specs.Tree.{Acts, Clauses, ProgramUnit}
use Rattle.edi_unit.specs.Need.{block_at}
use Rattle.edi_meaning.specs.Step.{Position, Work, doing_all, body_of, inside, with_chosen}
use Rattle.edi_walk.specs.Processes.{acts_bare, bare, bare_all, does}

pub doing_bare : (s : Acts) (position : Position) (n : ℕ) (work : List Work) → bare_all (doing_all s position n work) ≡ acts_bare s ++ bare_all work
doing_bare tree.no_act position n work = refl
doing_bare (tree.act_then a as') position n work = ap (λ l. does a ∷ l) (doing_bare as' position (suc n) work)

pub body_bare : (unit : ProgramUnit) (number : ℕ) (work : List Work) →
    bare_all (body_of unit number work) ≡ acts_bare (block_at unit.blocks number).body ++ bare_all work
body_bare unit number work = doing_bare (block_at unit.blocks number).body (record { of = number; path = [] }) 0 work

pub append_bare : (some work : List Work) → bare_all (some ++ work) ≡ bare_all some ++ bare_all work
append_bare [] work = refl
append_bare (w ∷ some) work = ap (λ l. bare w ∷ l) (append_bare some work)

pub chosen_bare : (position : Position) (c : Acts × ℕ) (after work : List Work) →
    bare_all (with_chosen position (Some c) after work) ≡ acts_bare c.0 ++ (bare_all after ++ bare_all work)
chosen_bare position c after work =
    doing_bare c.0 (inside position c.1) 0 (after ++ work) ∙ ap (λ l. acts_bare c.0 ++ l) (append_bare after work)
