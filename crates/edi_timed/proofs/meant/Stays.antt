-- What a step of one process leaves of the others: each is taken as it was, but the children that a fork has made.
use Rattle.std.proofs.Common.{◌≡◌, ℕ, zero, suc, ◌-◌, ◌<◌, ◌≤◌, ◌⊎◌, inl, inr, Bool, true, false, List}
use Rattle.std.proofs.Common.{[], ◌∷◌, length, Some, None, refl, sym, subst, ap, ◌∙◌, arith}
use Rattle.std.specs.Prelude.{⊤}
use Rattle.edi_calls.specs.Names.{Name, Table, same, find, with_at, without}
use Rattle.edi_calls.specs.Outcome.{Ending}
use Rattle.edi_calls.specs.Ready.{child, parent_of, stays, joins, freed}
use Rattle.edi_calls.specs.State.{Traced}
use Rattle.edi_calls.proofs.Names.{some_is}
use Rattle.edi_calls.proofs.Tables.{same-or-other, same-symmetric, find-with_at-same, find-with_at-other, find-without-same, find-without-other}
use Rattle.edi_unit.specs.Tree.{Clauses, ProgramUnit}
use Rattle.edi_meaning.specs.Store.{Spot, shape, now}
use Rattle.edi_meaning.specs.Evaluation.{World, Evaluation, gives, ends}
use Rattle.edi_meaning.specs.Step.{Position, Work, Standing, ready, at_when, waiting, Asks, Process, Processes, Stepped, went, ended, child_process, with_child}
use Rattle.edi_meaning.specs.Step.{back, with_children, awaits, local_step, step}
use Rattle.edi_meaning.proofs.Family.{kept_without}
use Rattle.edi_meaning.proofs.Kernel.{rest_of, Handles, kernel_handles, of_process}
use Rattle.edi_meaning.proofs.Lasting.{Gives}
use Rattle.edi_meaning.proofs.Parents.{child_differs}
use Rattle.edi_timeline.specs.Stints.{started}

no_other : {x : Process} → None ≡ Some x → ⊥
no_other e = cc

true_false : true ≡ false → ⊥
true_false e = cc

-- who waits for one child less is taken as before
starts_alike : (unit : ProgramUnit) (y : Process) (n m : ℕ) → y.standing ≡ waiting n →
    started unit (record y { standing = awaits m }) (awaits m) ≡ started unit y y.standing
starts_alike unit y n zero e = ap (started unit y) (sym e)
starts_alike unit y n (suc m) e = ap (started unit y) (sym e)

-- the children of a fork are new to their names
pub children_are : (unit : ProgramUnit) (p : Name) (f share : ℕ) (parent : Spot) (bs : List ℕ) (k : ℕ) (s : Processes) (r : Name) (y : Process) →
    find (with_children unit p f k share parent bs s).live r ≡ Some y →
    (find s.live r ≡ Some y) ⊎ ((j : ℕ) × (r ≡ child p f j) × (y.forks ≡ 0) × (y.standing ≡ ready))
children_are unit p f share parent [] k s r y e = inl e
children_are unit p f share parent (b ∷ bs) k s r y e =
    elim (children_are unit p f share parent bs (suc k) (with_child unit (child p f k) share parent b s) r y e) [
      | inl h ↦ of_child h (same-or-other r (child p f k))
      | inr h ↦ inr h
    ]
  where
    c : Process
    c = child_process unit share b

    of_child : find (with_at s.live (child p f k) (child_process unit share b)) r ≡ Some y → (r ≡ child p f k) ⊎ (same r (child p f k) ≡ false) →
        (find s.live r ≡ Some y) ⊎ ((j : ℕ) × (r ≡ child p f j) × (y.forks ≡ 0) × (y.standing ≡ ready))
    of_child h (inl i) =
        let is : child_process unit share b ≡ y =
        some_is (sym (find-with_at-same s.live (child p f k) (child_process unit share b))
        ∙ sym (ap (find (with_at s.live (child p f k) (child_process unit share b))) i) ∙ h) in
        inr (k, i, sym (ap (λ (z : Process). z.forks) is), sym (ap (λ (z : Process). z.standing) is))
    of_child h (inr n) = inl (sym (find-with_at-other s.live (child p f k) r (child_process unit share b) n) ∙ h)

module _ (unit : ProgramUnit) (s : Processes) (p : Name) (q : Process) (found : find s.live p ≡ Some q) where
  -- it was there, and was taken in the same way
  pub record Kept (r : Name) (y : Process) : Type 0 where
    pub was : Process
    pub there : find s.live r ≡ Some was
    pub starts : started unit y y.standing ≡ started unit was was.standing
    pub forks : y.forks ≡ was.forks

  -- it is a child of a new fork
  pub record Born (r : Name) (y : Process) : Type 0 where
    pub fork : ℕ
    pub number : ℕ
    pub named : r ≡ child p fork number
    pub later : q.forks < fork
    pub none : y.forks ≡ 0
    pub rests : y.standing ≡ ready

  pub record Goes (live : Table Process) : Type 0 where
    pub theirs : (r : Name) (y : Process) → same r p ≡ false → find live r ≡ Some y → Kept r y ⊎ Born r y
    pub mine : (y : Process) → find live p ≡ Some y → q.forks ≤ y.forks
    pub waits : (y : Process) (n : ℕ) → find live p ≡ Some y → y.standing ≡ waiting n → 0 < y.forks

  abbrev pub IsReady : Table Process → Type 0
  IsReady live = (y : Process) → find live p ≡ Some y → y.standing ≡ ready

  abbrev pub IsNotReady : Table Process → Type 0
  IsNotReady live = (y : Process) → find live p ≡ Some y → y.standing ≡ ready → ⊥

  -- p goes on by itself only after a step that marks nobody, and then is ready
  abbrev pub StepsOn : Stepped → Type 0
  StepsOn (ended ending system turns) = ⊤
  StepsOn (went t stays quiet) = Goes t.live × IsReady t.live × (quiet ≡ false)
  StepsOn (went t (joins ps) quiet) = Goes t.live × IsNotReady t.live

  as_was : (r : Name) (y : Process) → find s.live r ≡ Some y → Kept r y
  as_was r y e = record { was = y; there = e; starts = refl; forks = refl }

  -- p is written back
  module _ (q' : Process) (same_forks : q.forks ≡ q'.forks) where
    it_is : (y : Process) → find (with_at s.live p q') p ≡ Some y → q' ≡ y
    it_is y e = some_is (sym (find-with_at-same s.live p q') ∙ e)

    written : ((n : ℕ) → q'.standing ≡ waiting n → ⊥) → Goes (with_at s.live p q')
    written free = record {
      theirs = λ r y n e. inl (as_was r y (sym (find-with_at-other s.live p r q' n) ∙ e));
      mine = λ y e. omega (arith, same_forks, ap (λ (z : Process). z.forks) (it_is y e));
      waits = λ y n e w. absurd (free n (ap (λ (z : Process). z.standing) (it_is y e) ∙ w));
    }

    stands : (st : Standing) → q'.standing ≡ st → (y : Process) → find (with_at s.live p q') p ≡ Some y → y.standing ≡ st
    stands st f y e = sym (ap (λ (z : Process). z.standing) (it_is y e)) ∙ f

  -- p has forked
  module _ (t : Processes) (q' : Process) (n share : ℕ) (parent : Spot) (bs : List ℕ) (forks : q'.forks ≡ suc q.forks) (waits : q'.standing ≡ waiting n)
      (live : t.live ≡ with_at s.live p q') where
    abbrev after : Table Process
    after = (with_children unit p (suc q.forks) 0 share parent bs t).live

    mine_there : (y : Process) → find after p ≡ Some y → q' ≡ y
    mine_there y e = elim (children_are unit p (suc q.forks) share parent bs 0 t p y e) [
      | inl h ↦ some_is (sym (find-with_at-same s.live p q') ∙ sym (ap (λ l. find l p) live) ∙ h)
      | inr h ↦ absurd (not_child h.0 h.1)
    ]
      where
        not_child : (j : ℕ) → p ≡ child p (suc q.forks) j → ⊥
        not_child j i =
            true_false (sym (Rattle.edi_calls.proofs.Tables.same-refl p) ∙ ap (λ z. same z p) i ∙ child_differs p (suc q.forks) j)

    forked : Goes after
    forked = record {
      theirs = λ r y m e. elim (children_are unit p (suc q.forks) share parent bs 0 t r y e) [
        | inl h ↦ inl (as_was r y (sym (find-with_at-other s.live p r q' m) ∙ sym (ap (λ l. find l r) live) ∙ h))
        | inr h ↦ inr (record { fork = suc q.forks; number = h.0; named = h.1; later = omega arith; none = h.2; rests = h.3 })
      ];
      mine = λ y e. omega (arith, forks, ap (λ (z : Process). z.forks) (mine_there y e));
      waits = λ y m e w. omega (arith, forks, ap (λ (z : Process). z.forks) (mine_there y e));
    }

    not_ready : IsNotReady after
    not_ready y e r = let c : waiting n ≡ ready = sym waits ∙ ap (λ (z : Process). z.standing) (mine_there y e) ∙ r in absurd (cc)

  -- p has ended
  gone : Goes (without s.live p)
  gone = record {
    theirs = λ r y n e. inl (as_was r y (sym (find-without-other s.live p r n) ∙ e));
    mine = λ y e. absurd (no_other (sym (find-without-same s.live p) ∙ e));
    waits = λ y n e w. absurd (no_other (sym (find-without-same s.live p) ∙ e));
  }

  -- and its parent waits for one child less
  module _ (y0 : Process) (n : ℕ) (e0 : find (without s.live p) (parent_of p) ≡ Some y0) (w0 : y0.standing ≡ waiting n) where
    abbrev less : Process
    less = record y0 { standing = awaits (n - 1) }

    abbrev told : Table Process
    told = with_at (without s.live p) (parent_of p) less

    none_there : (y : Process) → find told p ≡ Some y → ⊥
    none_there y e = go (same-or-other p (parent_of p))
      where
        go : (p ≡ parent_of p) ⊎ (same p (parent_of p) ≡ false) → ⊥
        go (inl i) = no_other (sym (find-without-same s.live p) ∙ ap (find (without s.live p)) i ∙ e0)
        go (inr m) = no_other (sym (find-without-same s.live p) ∙ sym (find-with_at-other (without s.live p) (parent_of p) p less m) ∙ e)

    awaited : Goes told
    awaited = record {
      theirs = λ r y m e. inl (other r y e (same-or-other r (parent_of p)));
      mine = λ y e. absurd (none_there y e);
      waits = λ y m e w. absurd (none_there y e);
    }
      where
        other : (r : Name) (y : Process) → find told r ≡ Some y → (r ≡ parent_of p) ⊎ (same r (parent_of p) ≡ false) → Kept r y
        other r y e (inl i) =
            let is : less ≡ y = some_is (sym (find-with_at-same (without s.live p) (parent_of p) less) ∙ sym (ap (find told) i) ∙ e) in
            subst (Kept r) is (record {
              was = y0;
              there = ap (find s.live) i ∙ kept_without s.live p (parent_of p) y0 e0;
              starts = starts_alike unit y0 n (n - 1) w0;
              forks = refl;
            })
        other r y e (inr m) = as_was r y (kept_without s.live p r y (sym (find-with_at-other (without s.live p) (parent_of p) r less m) ∙ e))

  -- a parent joins, or not
  freed_on : (m : ℕ) (r : Name) (t : Processes) (quiet : Bool) → Goes t.live → IsNotReady t.live → StepsOn (went t (freed m r) quiet)
  freed_on zero r t quiet g i = (g, i)
  freed_on (suc m) r t quiet g i = (g, i)

  abbrev Any : Asks → World → Type 0
  Any a w = ⊤

  abbrev AnyEnd : Ending → Traced → ℕ → Type 0
  AnyEnd ending system turns = ⊤

  any_given : (r : Evaluation Asks) → Gives Any AnyEnd r
  any_given (gives a w) = tt
  any_given (ends ending system turns) = tt

  handles : Handles unit s p q Any AnyEnd StepsOn
  handles = record {
    of_end = λ ending system turns d. tt;
    of_goes = λ work w d.
        let q' : Process = record q { work = work; standing = ready } in
        (written q' refl (λ n e. absurd (cc)), stands q' refl ready refl, refl);
    of_arrives = λ cs position work w d. at_its_when cs position work;
    of_again = λ cs position quiet work w d. at_its_when cs position work;
    of_no_fork = λ bs line work w ending o d. tt;
    of_fork = λ bs line work w n share e d.
        let q' : Process = record q { forks = suc q.forks; work = work; standing = waiting (length bs) } in
        let t : Processes = record { live = with_at s.live p q'; world = record w { turns = n } } in
        (forked t q' (length bs) share (now (shape w.store) p) bs refl refl refl, not_ready t q' (length bs) share (now (shape w.store) p) bs refl refl refl);
    of_leaves = λ w nobody d. (gone, λ y e r. no_other (sym (find-without-same s.live p) ∙ e));
    of_awaited = λ w y n e st d. freed_on (n - 1) (parent_of p)
        (back (rest_of s p w) (parent_of p) (record y { standing = awaits (n - 1) }) (rest_of s p w).world) false (awaited y n e st)
        (λ z f r. none_there y n e st z f);
  }
    where
      at_its_when : (cs : Clauses) (position : Position) (work : List Work) →
          Goes (with_at s.live p (record q { work = work; standing = at_when cs position }))
          × IsNotReady (with_at s.live p (record q { work = work; standing = at_when cs position }))
      at_its_when cs position work =
          let q' : Process = record q { work = work; standing = at_when cs position } in (
            written q' refl (λ n e. absurd (cc)),
            λ y e r. let c : at_when cs position ≡ ready = sym (stands q' refl (at_when cs position) refl y e) ∙ r in absurd (cc),
          )

  pub step_on : StepsOn (step unit s p)
  step_on =
      of_process unit s p q StepsOn found
      (kernel_handles unit s p q Any AnyEnd StepsOn handles (local_step unit p q.size q.standing q.work s.world)
      (any_given (local_step unit p q.size q.standing q.work s.world)))
