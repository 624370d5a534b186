-- The processes of the code, by their names, against the table of the definitions.
use Rattle.std.proofs.Common.{◌≡◌, ℕ, zero, suc, ◌+◌, ◌<◌, ◌≤◌, Bool, true, false, if◌then◌else◌, List, [], ◌∷◌, ◌++◌, length, Some, None, refl, sym, subst, ap, ◌∙◌}
use Rattle.std.proofs.Common.{take, drop, get_or, arith}
use Rattle.std.specs.Prelude.{slice_get, slice_set}
use Rattle.edi_unit.proofs.Limits.{drop_item}
use Rattle.edi_calls.specs.Names.{Name, Table, same, find, with_at, without}
use Rattle.edi_calls.proofs.Names.{some_is}
use Rattle.edi_calls.proofs.Tables.{same-equal, same-refl}
use Rattle.edi_meaning.specs.Step.{Process}
use Rattle.edi_walk.specs.declared.process.Process as code
use Rattle.edi_walk.specs.Processes.{AreProcesses, ForksFit, IsProcess, LivesAt, NoneLives, without_named}

-- ---- the search of a name

-- none of this name stands before this place
abbrev pub PassedBy : Name → ℕ → List code.Process → Type 0
PassedBy name k cs = record {
  place : (i : ℕ) → LivesAt name i (drop k cs) → LivesAt name (k + i) cs;
  rest : NoneLives name (drop k cs) → NoneLives name cs;
}

pub passed_by : (name : Name) (k : ℕ) (cs : List code.Process) (c : code.Process) → k < length cs → c ≡ get_or cs k c → same name c.name.items ≡ false →
    PassedBy name k cs → PassedBy name (k + 1) cs
passed_by name k cs c h is other p = record {
  place = λ i s. subst (λ n. LivesAt name n cs) (omega arith) (p.place (suc i) (subst (LivesAt name (suc i)) (sym (drop_item cs k c h is)) (other, s)));
  rest = λ none. p.rest (subst (NoneLives name) (sym (drop_item cs k c h is)) (other, none));
}

pub lives_there : (name : Name) (k : ℕ) (cs : List code.Process) (c : code.Process) → k < length cs → c ≡ get_or cs k c → same name c.name.items ≡ true →
    PassedBy name k cs → LivesAt name k cs
lives_there name k cs c h is s p =
    subst (λ n. LivesAt name n cs) (omega arith) (p.place 0 (subst (LivesAt name 0) (sym (drop_item cs k c h is)) s))

pub none_passed : (name : Name) (k : ℕ) (cs : List code.Process) → length cs ≤ k → PassedBy name k cs → NoneLives name cs
none_passed name k cs h p = p.rest (beyond k cs h)
  where
    beyond : (k : ℕ) (cs : List code.Process) → length cs ≤ k → NoneLives name (drop k cs)
    beyond zero [] h = tt
    beyond (suc k) [] h = tt
    beyond zero (c ∷ cs) h = absurd (omega (arith, h))
    beyond (suc k) (c ∷ cs) h = beyond k cs (omega (arith, h))

pub lives_within : (name : Name) (i : ℕ) (cs : List code.Process) → LivesAt name i cs → i < length cs
lives_within name i [] s = absurd s
lives_within name zero (c ∷ cs) s = omega arith
lives_within name (suc i) (c ∷ cs) s = omega (arith, lives_within name i cs s.1)

-- ---- a process that stands there

as_named : (c : code.Process) (p r : Name) (q : Process) → p ≡ r → IsProcess c p q → IsProcess c r q
as_named c p r q e h = subst (λ n. IsProcess c n q) e h

pub record Found (p : Name) (i : ℕ) (cs : List code.Process) (t : Table Process) : Type 0 where
  pub q : Process
  pub c : code.Process
  pub found : find t p ≡ Some q
  pub there : slice_get cs i ≡ Some c
  pub is : IsProcess c p q

pub are_found : (p : Name) (i : ℕ) (cs : List code.Process) (t : Table Process) → AreProcesses cs t → LivesAt p i cs → Found p i cs t
are_found p i [] t h s = absurd s
are_found p i (c ∷ cs) [] h s = absurd h
are_found p zero (c ∷ cs) (e ∷ t) h s =
    let named : p ≡ c.name.items = same-equal p c.name.items s in
    record {
      q = e.1;
      c = c;
      found = ap (λ b. if b then Some e.1 else find t p) (ap (same p) (sym h.0.named) ∙ s);
      there = refl;
      is = as_named c e.0 p e.1 (sym h.0.named ∙ sym named) h.0;
    }
are_found p (suc i) (c ∷ cs) (e ∷ t) h s =
    let f = are_found p i cs t h.1 s.1 in
    record {
      q = f.q;
      c = f.c;
      found = ap (λ b. if b then Some e.1 else find t p) (ap (same p) (sym h.0.named) ∙ s.0) ∙ f.found;
      there = f.there;
      is = f.is;
    }

pub are_none : (p : Name) (cs : List code.Process) (t : Table Process) → AreProcesses cs t → NoneLives p cs → find t p ≡ None
are_none p [] [] h s = refl
are_none p [] (e ∷ t) h s = absurd h
are_none p (c ∷ cs) [] h s = absurd h
are_none p (c ∷ cs) (e ∷ t) h s = ap (λ b. if b then Some e.1 else find t p) (ap (same p) (sym h.0.named) ∙ s.0) ∙ are_none p cs t h.1 s.1

pub are_set : (p : Name) (i : ℕ) (cs : List code.Process) (t : Table Process) (c : code.Process) (q : Process) → AreProcesses cs t → LivesAt p i cs → IsProcess c p q →
    AreProcesses (slice_set cs i c) (with_at t p q)
are_set p i [] t c q h s is = absurd s
are_set p i (x ∷ cs) [] c q h s is = absurd h
are_set p zero (x ∷ cs) (e ∷ t) c q h s is =
    subst (λ b. AreProcesses (c ∷ cs) (if b then (e.0, q) ∷ t else e ∷ with_at t p q)) (sym (ap (same p) (sym h.0.named) ∙ s))
    (as_named c p e.0 q (same-equal p x.name.items s ∙ h.0.named) is, h.1)
are_set p (suc i) (x ∷ cs) (e ∷ t) c q h s is =
    subst (λ b. AreProcesses (x ∷ slice_set cs i c) (if b then (e.0, q) ∷ t else e ∷ with_at t p q)) (sym (ap (same p) (sym h.0.named) ∙ s.0))
    (h.0, are_set p i cs t c q h.1 s.1 is)

pub are_new : (p : Name) (cs : List code.Process) (t : Table Process) (c : code.Process) (q : Process) → AreProcesses cs t → NoneLives p cs → IsProcess c p q →
    AreProcesses (cs ++ c ∷ []) (with_at t p q)
are_new p [] [] c q h s is = (is, tt)
are_new p [] (e ∷ t) c q h s is = absurd h
are_new p (x ∷ cs) [] c q h s is = absurd h
are_new p (x ∷ cs) (e ∷ t) c q h s is =
    subst (λ b. AreProcesses (x ∷ (cs ++ c ∷ [])) (if b then (e.0, q) ∷ t else e ∷ with_at t p q)) (sym (ap (same p) (sym h.0.named) ∙ s.0))
    (h.0, are_new p cs t c q h.1 s.1 is)

pub are_without : (p : Name) (cs : List code.Process) (t : Table Process) → AreProcesses cs t → AreProcesses (without_named p cs) (without t p)
are_without p [] [] h = tt
are_without p [] (e ∷ t) h = absurd h
are_without p (c ∷ cs) [] h = absurd h
are_without p (c ∷ cs) (e ∷ t) h =
    subst (λ n. AreProcesses (if same p c.name.items then without_named p cs else c ∷ without_named p cs) (if same p n then without t p else e ∷ without t p)) h.0.named
    (by_name (same p c.name.items) (are_without p cs t h.1))
  where
    by_name : (b : Bool) → AreProcesses (without_named p cs) (without t p) →
        AreProcesses (if b then without_named p cs else c ∷ without_named p cs) (if b then without t p else e ∷ without t p)
    by_name true more = more
    by_name false more = (h.0, more)

pub are_counted : (cs : List code.Process) (t : Table Process) → AreProcesses cs t → length cs ≡ length t
are_counted [] [] h = refl
are_counted [] (e ∷ t) h = absurd h
are_counted (c ∷ cs) [] h = absurd h
are_counted (c ∷ cs) (e ∷ t) h = ap suc (are_counted cs t h.1)

-- ---- places of the list

pub set_there : {A : Type 0} (xs : List A) (i : ℕ) (x : A) → i < length xs → slice_get (slice_set xs i x) i ≡ Some x
set_there [] i x h = absurd (omega (arith, h))
set_there (y ∷ xs) zero x h = refl
set_there (y ∷ xs) (suc i) x h = set_there xs i x (omega (arith, h))

pub set_twice : {A : Type 0} (xs : List A) (i : ℕ) (x y : A) → slice_set (slice_set xs i x) i y ≡ slice_set xs i y
set_twice [] i x y = refl
set_twice (z ∷ xs) zero x y = refl
set_twice (z ∷ xs) (suc i) x y = ap (λ l. z ∷ l) (set_twice xs i x y)

pub set_without : (p : Name) (i : ℕ) (cs : List code.Process) (c : code.Process) → LivesAt p i cs → c.name.items ≡ p →
    without_named p (slice_set cs i c) ≡ without_named p cs
set_without p i [] c s e = absurd s
set_without p zero (x ∷ cs) c s e =
    ap (λ b. if b then without_named p cs else c ∷ without_named p cs) (ap (same p) e ∙ same-refl p)
    ∙ sym (ap (λ b. if b then without_named p cs else x ∷ without_named p cs) s)
set_without p (suc i) (x ∷ cs) c s e =
    ap (λ b. if b then without_named p (slice_set cs i c) else x ∷ without_named p (slice_set cs i c)) s.0
    ∙ ap (λ l. x ∷ l) (set_without p i cs c s.1 e)
    ∙ sym (ap (λ b. if b then without_named p cs else x ∷ without_named p cs) s.0)

pub removed_without : (p : Name) (i : ℕ) (cs : List code.Process) → LivesAt p i cs → without_named p (take i cs ++ drop (suc i) cs) ≡ without_named p cs
removed_without p i [] s = absurd s
removed_without p zero (x ∷ cs) s = sym (ap (λ b. if b then without_named p cs else x ∷ without_named p cs) s)
removed_without p (suc i) (x ∷ cs) s =
    ap (λ b. if b then without_named p (take i cs ++ drop (suc i) cs) else x ∷ without_named p (take i cs ++ drop (suc i) cs)) s.0
    ∙ ap (λ l. x ∷ l) (removed_without p i cs s.1)
    ∙ sym (ap (λ b. if b then without_named p cs else x ∷ without_named p cs) s.0)

pub none_without : (p : Name) (cs : List code.Process) → NoneLives p cs → without_named p cs ≡ cs
none_without p [] s = refl
none_without p (x ∷ cs) s = ap (λ b. if b then without_named p cs else x ∷ without_named p cs) s.0 ∙ ap (λ l. x ∷ l) (none_without p cs s.1)

-- ---- forks

pub forks_less : (bound n m : ℕ) (t : Table Process) → n ≤ m → ForksFit bound m t → ForksFit bound n t
forks_less bound n m [] h f = tt
forks_less bound n m (e ∷ t) h f = (omega (arith, h, f.0), forks_less bound n m t h f.1)

pub forks_with : (bound n : ℕ) (t : Table Process) (p : Name) (q : Process) → ForksFit bound n t → q.forks + n ≤ bound → ForksFit bound n (with_at t p q)
forks_with bound n [] p q f h = (h, tt)
forks_with bound n (e ∷ t) p q f h = by_name (same p e.0) (forks_with bound n t p q f.1 h)
  where
    by_name : (b : Bool) → ForksFit bound n (with_at t p q) → ForksFit bound n (if b then (e.0, q) ∷ t else e ∷ with_at t p q)
    by_name true more = (h, f.1)
    by_name false more = (f.0, more)

pub forks_without : (bound n : ℕ) (t : Table Process) (p : Name) → ForksFit bound n t → ForksFit bound n (without t p)
forks_without bound n [] p f = tt
forks_without bound n (e ∷ t) p f = by_name (same p e.0) (forks_without bound n t p f.1)
  where
    by_name : (b : Bool) → ForksFit bound n (without t p) → ForksFit bound n (if b then without t p else e ∷ without t p)
    by_name true more = more
    by_name false more = (f.0, more)

pub forks_of : (bound n : ℕ) (t : Table Process) (p : Name) (q : Process) → ForksFit bound n t → find t p ≡ Some q → q.forks + n ≤ bound
forks_of bound n [] p q f h = absurd (cc)
forks_of bound n (e ∷ t) p q f h = by_name (same p e.0) h (forks_of bound n t p q f.1)
  where
    by_name : (b : Bool) → (if b then Some e.1 else find t p) ≡ Some q → (find t p ≡ Some q → q.forks + n ≤ bound) → q.forks + n ≤ bound
    by_name true g more = subst (λ (x : Process). x.forks + n ≤ bound) (some_is g) f.0
    by_name false g more = more g
