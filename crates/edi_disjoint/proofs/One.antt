-- A program has one report: the report tells of branches alone, and which of them are disjoint is one answer.
use Rattle.std.proofs.Common.{arith, ◌<◌, ◌≡◌, ℕ, zero, suc, Bool, true, false, if◌then◌else◌, List, [], ◌∷◌, ◌++◌, length, refl, sym, ap, ◌∙◌}
use Rattle.std.specs.Prelude.{nat_lt, filter, slice_index_or}
use Rattle.std.specs.Bool.{Decides}
use Rattle.edi_unit.specs.Fits.{Fits}
use Rattle.edi_unit.specs.Need.{block_at}
use Rattle.edi_unit.specs.Tree as tree
use Rattle.edi_unit.specs.Tree.{Act, Acts, Clause, Clauses, Block, ProgramUnit}
use Rattle.edi_meaning.proofs.Lasting.{Every}
use Rattle.edi_meaning.proofs.Own.{every-append}
use Rattle.edi_disjoint.specs.Footprints.{IsBranch, Disjoint}
use Rattle.edi_disjoint.specs.Report.{Fork, forks_in_act, forks_in_acts, forks_in_clause, forks_in_clauses, forks_of, begins_with, forks_from, forks_in_order}
use Rattle.edi_disjoint.specs.Report.{most_branches, pair_line, pair_lines, branch_lines, many_line, fork_lines, report_of, IsReport}
use Rattle.edi_disjoint.specs.Leaves.{ActMay, ActsMay, ClauseMay, ClausesMay}
use Rattle.edi_disjoint.proofs.Texts.{text_of, body_may}

decides_same : (x y : Bool) (A : Type 0) → Decides x A → Decides y A → x ≡ y
decides_same true true A d e = refl
decides_same true false A d e = sym (e.1 (d.0 refl))
decides_same false true A d e = d.1 (e.0 refl)
decides_same false false A d e = refl

every_filter : {A : Type 0} (P : A → Type 0) (test : A → Bool) (xs : List A) → Every P xs → Every P (filter test xs)
every_filter P test [] h = tt
every_filter P test (x ∷ xs) h = go (test x) (every_filter P test xs h.1)
  where
    go : (b : Bool) → Every P (filter test xs) → Every P (if b then x ∷ filter test xs else filter test xs)
    go true k = (h.0, k)
    go false k = k

module _ (unit : ProgramUnit) (ok : Fits unit) where
  -- ---- the `cobegin`s have branches

  abbrev OfBranches : Fork → Type 0
  OfBranches fork = Every (IsBranch unit) fork.branches

  each_branch : (bs : List ℕ) → ((i d : ℕ) → i < length bs → IsBranch unit (slice_index_or bs i d)) → Every (IsBranch unit) bs
  each_branch [] h = tt
  each_branch (b ∷ bs) h = (h 0 0 (omega arith), each_branch bs (λ i d l. h (suc i) d (omega (arith, l))))

  module _ (n : ℕ) where
    mutual
      act_forks : (a : Act) → ActMay (text_of unit ok n) a → Every OfBranches (forks_in_act a)
      act_forks tree.skip m = tt
      act_forks (tree.assign v e) m = tt
      act_forks (tree.call c xs line) m = tt
      act_forks (tree.halt line) m = tt
      act_forks (tree.if_act cs) m = clauses_forks cs m
      act_forks (tree.while_act cs) m = clauses_forks cs m
      act_forks (tree.when_act cs line) m = clauses_forks cs m
      act_forks (tree.cobegin bs line) m = (each_branch bs (λ i d l. ((m i d l).0, (m i d l).1)), tt)

      acts_forks : (as' : Acts) → ActsMay (text_of unit ok n) as' → Every OfBranches (forks_in_acts as')
      acts_forks tree.no_act m = tt
      acts_forks (tree.act_then a as') m = every-append OfBranches (forks_in_act a) (forks_in_acts as') (act_forks a m.0) (acts_forks as' m.1)

      clause_forks : (c : Clause) → ClauseMay (text_of unit ok n) c → Every OfBranches (forks_in_clause c)
      clause_forks (tree.clause e as') m = acts_forks as' m.1

      clauses_forks : (cs : Clauses) → ClausesMay (text_of unit ok n) cs → Every OfBranches (forks_in_clauses cs)
      clauses_forks tree.no_clause m = tt
      clauses_forks (tree.clause_then c cs) m = every-append OfBranches (forks_in_clause c) (forks_in_clauses cs) (clause_forks c m.0) (clauses_forks cs m.1)

  blocks_forks : (bs : List Block) → ((n : ℕ) → n < length bs → Every OfBranches (forks_in_acts (block_at bs n).body)) → Every OfBranches (forks_of bs)
  blocks_forks [] h = tt
  blocks_forks (b ∷ bs) h =
      every-append OfBranches (forks_in_acts b.body) (forks_of bs) (h 0 (omega arith)) (blocks_forks bs (λ n l. h (suc n) (omega (arith, l))))

  from_forks : (forks : List Fork) (n many : ℕ) → Every OfBranches forks → Every OfBranches (forks_from forks n many)
  from_forks forks n zero h = tt
  from_forks forks n (suc many) h =
      every-append OfBranches (filter (begins_with n) forks) (forks_from forks (suc n) many) (every_filter OfBranches (begins_with n) forks h)
      (from_forks forks (suc n) many h)

  -- ---- two answers that agree on branches

  module _ (f g : ℕ → ℕ → Bool) (agree : (a b : ℕ) → IsBranch unit a → IsBranch unit b → f a b ≡ g a b) where
    pairs_same : (line i a j : ℕ) (bs : List ℕ) → IsBranch unit a → Every (IsBranch unit) bs → pair_lines f line i a j bs ≡ pair_lines g line i a j bs
    pairs_same line i a j [] h k = refl
    pairs_same line i a j (b ∷ bs) h k =
        ap (λ x. pair_line x line i j ++ pair_lines f line i a (suc j) bs) (agree a b h k.0) ∙ ap (λ t. pair_line (g a b) line i j ++ t) (pairs_same line i a (suc j) bs h k.1)

    branches_same : (line i : ℕ) (bs : List ℕ) → Every (IsBranch unit) bs → branch_lines f line i bs ≡ branch_lines g line i bs
    branches_same line i [] h = refl
    branches_same line i (a ∷ bs) h =
        ap (λ t. t ++ branch_lines f line (suc i) bs) (pairs_same line i a (suc i) bs h.0 h.1)
        ∙ ap (λ t. pair_lines g line i a (suc i) bs ++ t) (branches_same line (suc i) bs h.1)

    fork_same : (fork : Fork) → OfBranches fork → fork_lines f fork ≡ fork_lines g fork
    fork_same fork h =
        ap (λ t. if nat_lt most_branches (length fork.branches) then many_line fork.line else t) (branches_same fork.line 1 fork.branches h)

    reports_same : (forks : List Fork) → Every OfBranches forks → report_of f forks ≡ report_of g forks
    reports_same [] h = refl
    reports_same (fork ∷ forks) h = ap (λ t. t ++ report_of f forks) (fork_same fork h.0) ∙ ap (λ t. fork_lines g fork ++ t) (reports_same forks h.1)

  pub one_report : (one other : List ℕ) → IsReport unit one → IsReport unit other → one ≡ other
  one_report one other r s =
      r.is
      ∙ reports_same r.answer s.answer (λ a b h k. decides_same (r.answer a b) (s.answer a b) (Disjoint unit a b) (r.exact a b h k) (s.exact a b h k))
      (forks_in_order unit)
      (from_forks (forks_of unit.blocks) 0 (length unit.blocks) (blocks_forks unit.blocks (λ n l. acts_forks n (block_at unit.blocks n).body (body_may unit ok n l))))
      ∙ sym s.is
