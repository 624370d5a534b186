-- `cobegin`s that are kept by the blocks of their first branches, in the order of the text.
use Rattle.std.proofs.Common.{◌≡◌, ℕ, ◌+◌, ◌<◌, Bool, true, false, ◌==◌, if◌then◌else◌, List, [], ◌∷◌, ◌++◌, map, length, drop, get_or, refl, sym, subst, ap, ◌∙◌, arith, append_assoc, append-nil}
use Rattle.std.specs.Prelude.{filter, replicate, slice_index_or, slice_set}
use Rattle.std.specs.Global.{Vec}
use Rattle.std.proofs.lemmas.Bool.{eqb-true, eq-eqb, false≢true}
use Rattle.std.proofs.lemmas.List.{get_or-set_same, get_or-set_other, get_or-replicate, get_or-map, length-map, length-replicate, length-set, map-set, map-append, at_drop_more, replicate-append-replicate}
use Rattle.edi_disjoint.specs.declared.showing.Fork as code_fork
use Rattle.edi_unit.specs.declared.statements.Clause as code_clause
use Rattle.edi_unit.specs.declared.statements.Act.TheFolds.{fold_out-Clause}
use Rattle.edi_unit.specs.Tree.{Act, Clause}
use Rattle.edi_unit.specs.View.{act_step, clause_step, acts_of, clause_of}
use Rattle.edi_disjoint.specs.Report.{Fork, begins_with, first_is, forks_in_acts, forks_in_clause}
use Rattle.edi_disjoint.specs.Shown.{fork_of, forks_here, filed_at, filed_by, all_filed}

pub all_filed_append : (begun : List (List Fork)) (xs ys : List Fork) → all_filed (all_filed begun xs) ys ≡ all_filed begun (xs ++ ys)
all_filed_append begun [] ys = refl
all_filed_append begun (x ∷ xs) ys = all_filed_append (filed_by begun x.branches x) xs ys

-- ---- those of one block

long_by : (begun : List (List Fork)) (bs : List ℕ) (fork : Fork) → length (filed_by begun bs fork) ≡ length begun
long_by begun [] fork = refl
long_by begun (b ∷ bs) fork = length-set begun b (slice_index_or begun b [] ++ fork ∷ [])

-- one fork more
filed_here : (begun : List (List Fork)) (bs : List ℕ) (fork : Fork) (n : ℕ) → n < length begun →
    slice_index_or (filed_by begun bs fork) n [] ≡ slice_index_or begun n [] ++ (if first_is n bs then fork ∷ [] else [])
filed_here begun [] fork n l = sym (append-nil (slice_index_or begun n []))
filed_here begun (b ∷ bs) fork n l = go (b == n) refl
  where
    go : (t : Bool) → (b == n) ≡ t → slice_index_or (filed_at begun b fork) n [] ≡ slice_index_or begun n [] ++ (if t then fork ∷ [] else [])
    go true e =
        let is : b ≡ n = eqb-true b n e in
        ap (λ (k : ℕ). slice_index_or (filed_at begun k fork) n []) is ∙ get_or-set_same begun n (slice_index_or begun n [] ++ fork ∷ []) [] l
    go false e =
        get_or-set_other begun b n (slice_index_or begun b [] ++ fork ∷ []) [] (λ h. false≢true (sym e ∙ eq-eqb b n (sym h)))
        ∙ sym (append-nil (slice_index_or begun n []))

pub all_here : (begun : List (List Fork)) (forks : List Fork) (n : ℕ) → n < length begun →
    slice_index_or (all_filed begun forks) n [] ≡ slice_index_or begun n [] ++ filter (begins_with n) forks
all_here begun [] n l = sym (append-nil (slice_index_or begun n []))
all_here begun (fork ∷ forks) n l =
    all_here (filed_by begun fork.branches fork) forks n (subst (λ k. n < k) (sym (long_by begun fork.branches fork)) l)
    ∙ ap (λ xs. xs ++ filter (begins_with n) forks) (filed_here begun fork.branches fork n l)
    ∙ go (first_is n fork.branches)
  where
    go : (t : Bool) → (slice_index_or begun n [] ++ (if t then fork ∷ [] else [])) ++ filter (begins_with n) forks
        ≡ slice_index_or begun n [] ++ (if t then fork ∷ filter (begins_with n) forks else filter (begins_with n) forks)
    go true = append_assoc (slice_index_or begun n []) (fork ∷ []) (filter (begins_with n) forks)
    go false = append_assoc (slice_index_or begun n []) [] (filter (begins_with n) forks)

-- of a program of so many blocks
pub filed_all : (many : ℕ) (forks : List Fork) (n : ℕ) → n < many → slice_index_or (all_filed (replicate many []) forks) n [] ≡ filter (begins_with n) forks
filed_all many forks n l =
    all_here (replicate many []) forks n (subst (λ k. n < k) (sym (length-replicate many [])) l)
    ∙ ap (λ xs. xs ++ filter (begins_with n) forks) (get_or-replicate many n [] [] l)

pub all_long : (begun : List (List Fork)) (forks : List Fork) → length (all_filed begun forks) ≡ length begun
all_long begun [] = refl
all_long begun (fork ∷ forks) = all_long (filed_by begun fork.branches fork) forks ∙ long_by begun fork.branches fork

-- ---- what the code does

abbrev none_here : List Fork
none_here = []

pub one_empty_more : (n : ℕ) → replicate n none_here ++ none_here ∷ [] ≡ replicate (n + 1) none_here
one_empty_more n = replicate-append-replicate n 1 none_here

pub put_at : (begun : List (Vec code_fork.Fork)) (n : ℕ) (old new : Vec code_fork.Fork) (fork : code_fork.Fork) → n < length begun → slice_index_or begun n old ≡ old →
    new.items ≡ old.items ++ fork ∷ [] → map forks_here (slice_set begun n new) ≡ filed_at (map forks_here begun) n (fork_of fork)
put_at begun n old new fork l is e =
    map-set forks_here begun n new
    ∙ ap (λ x. slice_set (map forks_here begun) n x)
    (ap (map fork_of) e ∙ map-append fork_of old.items (fork ∷ [])
    ∙ ap (λ xs. xs ++ fork_of fork ∷ []) (sym (get_or-map forks_here begun n old [] l ∙ ap forks_here is)))

-- the `cobegin`s of a clause are those of its statements
pub clause_forks : (c : code_clause.Clause) → forks_in_clause (clause_of c) ≡ forks_in_acts (acts_of c.body)
clause_forks c = ap forks_in_clause (fold_out-Clause Act Clause act_step clause_step c)

-- what comes next in a list is put in
pub filed_step : {A : Type 0} (f : List A → List Fork) (g : A → List Fork) (begun new : List (List Fork)) (xs : List A) (i : ℕ) (x : A) → i < length xs →
    x ≡ get_or xs i x → f (x ∷ drop (i + 1) xs) ≡ g x ++ f (drop (i + 1) xs) → new ≡ all_filed begun (g x) →
    all_filed new (f (drop (i + 1) xs)) ≡ all_filed begun (f (drop i xs))
filed_step f g begun new xs i x l is cons e =
    ap (λ b. all_filed b (f (drop (i + 1) xs))) e ∙ all_filed_append begun (g x) (f (drop (i + 1) xs)) ∙ ap (all_filed begun) (sym cons)
    ∙ ap (λ ys. all_filed begun (f ys)) (sym (at_drop_more (λ ys. ys) xs i x l ∙ ap (λ y. y ∷ drop (i + 1) xs) (sym is)))

-- the lists of a program's blocks
module _ (begun : List (Vec code_fork.Fork)) (many : ℕ) (all : List Fork) (filed : map forks_here begun ≡ all_filed (replicate many []) all) where
  pub as_many_begun : length begun ≡ many
  as_many_begun = sym (length-map begun forks_here) ∙ ap length filed ∙ all_long (replicate many none_here) all ∙ length-replicate many none_here

  pub read_here : (i : ℕ) (forks : Vec code_fork.Fork) → i < length begun → forks ≡ get_or begun i forks → forks_here forks ≡ filter (begins_with i) all
  read_here i forks l is =
      ap forks_here is ∙ sym (get_or-map forks_here begun i forks none_here l) ∙ ap (λ xs. slice_index_or xs i none_here) filed
      ∙ filed_all many all i (omega (arith, l, as_many_begun))
