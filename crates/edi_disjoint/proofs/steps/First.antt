-- A step that keeps to itself goes first.
use Rattle.std.proofs.Common.{◌≡◌, ◌⊎◌, inl, inr, ◌+◌, Bool, true, false, if◌then◌else◌, List, [], ◌∷◌, ◌++◌, refl, sym, ap, subst, ◌∙◌, arith}
use Rattle.edi_calls.specs.Names.{Name}
use Rattle.edi_calls.specs.Outcome as outcome
use Rattle.edi_calls.specs.Ready.{Next}
use Rattle.edi_unit.specs.Tree.{ProgramUnit}
use Rattle.edi_meaning.specs.Step.{Processes, Stepped, went, ended, step}
use Rattle.edi_meaning.specs.Permitted.{is_running_process, may_step, at, nowhere, onward, permitted}
use Rattle.edi_disjoint.specs.steps.Own.{IsBut, FindsSame, GoesAlone, IsSpent, KeepsToItself, LeadsAlike, ComesBefore}
use Rattle.edi_disjoint.specs.steps.Turns.{with_more}
use Rattle.edi_disjoint.specs.steps.First.{IsSameWith, OwnStepsGoFirst}
use Rattle.edi_disjoint.proofs.steps.Leading.{same_state, own_steps_come_before}

-- ---- the last of permitted steps

module _ (unit : ProgramUnit) (p : Name) (a : Processes) where
  -- where the last step begins, and that it leads here
  record Last (names : List Name) (s : Processes) : Type 0 where
    before : Processes
    leads : permitted unit names s ≡ at before
    next : Next
    quiet : Bool
    goes : step unit before p ≡ went a next quiet

  last_alone : (s : Processes) (b : Bool) (x : Stepped) → step unit s p ≡ x → (if b then onward x [] (permitted unit []) else nowhere) ≡ at a → Last [] s
  last_alone s true (went c n quiet) goes e =
      record { before = s; leads = refl; next = n; quiet = quiet; goes = goes ∙ ap (λ (z : Processes). went z n quiet) (same_state c a e) }
  last_alone s true (ended ending system turns) goes e = absurd (cc)
  last_alone s false x goes e = absurd (cc)

  last_by : (q : Name) (qs : List Name) (s : Processes) → ((t : Processes) → permitted unit (qs ++ p ∷ []) t ≡ at a → Last qs t) → (b : Bool) → may_step s q ≡ b →
      (x : Stepped) → step unit s q ≡ x → (if b then onward x (qs ++ p ∷ []) (permitted unit (qs ++ p ∷ [])) else nowhere) ≡ at a → Last (q ∷ qs) s
  last_by q qs s rest true may (went c n quiet) goes e =
      let l : Last qs c = rest c e in
      record {
        before = l.before;
        leads = ap (λ b. if b then onward (step unit s q) qs (permitted unit qs) else nowhere) may ∙ ap (λ (x : Stepped). onward x qs (permitted unit qs)) goes ∙ l.leads;
        next = l.next;
        quiet = l.quiet;
        goes = l.goes;
      }
  last_by q [] s rest true may (ended ending system turns) goes e = absurd (cc)
  last_by q (r ∷ rs) s rest true may (ended ending system turns) goes e = absurd (cc)
  last_by q qs s rest false may x goes e = absurd (cc)

  last_of : (names : List Name) (s : Processes) → permitted unit (names ++ p ∷ []) s ≡ at a → Last names s
  last_of [] s e = last_alone s (may_step s p) (step unit s p) refl e
  last_of (q ∷ qs) s e = last_by q qs s (last_of qs) (may_step s q) refl (step unit s q) refl e

-- ---- the step of p at the end is the one that it may do first

went_is : (u a : Processes) (n m : Next) (b c : Bool) → went u n b ≡ went a m c → u ≡ a
went_is u a n m b c e = cc

module _ (unit : ProgramUnit) (s : Processes) (p : Name) (k : KeepsToItself unit s p) where
  done_at : (b a : Processes) (n : Next) (quiet : Bool) → FindsSame p s b → step unit b p ≡ went a n quiet → IsBut p k.after k.own b a × (a.world.turns + k.taken ≡ b.world.turns)
  done_at b a n quiet f goes = go (k.either b f)
    where
      go : GoesAlone unit p k.after k.own k.next k.quiet k.taken b ⊎ IsSpent unit p b → IsBut p k.after k.own b a × (a.world.turns + k.taken ≡ b.world.turns)
      go (inl g) =
          let is : g.0 ≡ a = went_is g.0 a k.next n k.quiet quiet (sym g.1 ∙ goes) in
          (subst (IsBut p k.after k.own b) is g.2, ap (λ (z : Processes). z.world.turns + k.taken) (sym is) ∙ g.3)
      go (inr g) = impossible (sym g.2 ∙ goes)
        where
          impossible : ended outcome.turns g.0 g.1 ≡ went a n quiet → IsBut p k.after k.own b a × (a.world.turns + k.taken ≡ b.world.turns)
          impossible e = absurd (cc)

  -- p's step from s with some turns more
  first_step : GoesAlone unit p k.after k.own k.next k.quiet k.taken (with_more (k.taken + k.enough) s)
  first_step =
      k.goes (with_more (k.taken + k.enough) s) (record { process = refl; own = refl; frames = λ r o. refl; references = λ r d k o. refl }) (omega arith)

  from_s : (t : Processes) → IsBut p k.after k.own (with_more (k.taken + k.enough) s) t → IsBut p k.after k.own s t
  from_s t h = record { live = h.live; store = h.store; system = h.system }

  moved : (names : List Name) (b a t : Processes) → IsBut p k.after k.own b a → IsBut p k.after k.own b t → a.world.turns + k.taken ≡ b.world.turns →
      t.world.turns ≡ b.world.turns + k.enough → IsSameWith (k.taken + k.enough) a t
  moved names b a t h g few many = record {
    live = g.live ∙ sym h.live;
    store = λ r. g.store r ∙ sym (h.store r);
    system = sym g.system ∙ h.system;
    turns = omega (arith, few, many);
  }

pub own_steps_go_first : OwnStepsGoFirst
own_steps_go_first unit system bound order s p names a comes k off e =
    let l : Last unit p a names s = last_of unit p a names s e in
    let c : ComesBefore unit s p k names = own_steps_come_before unit system bound order s p names comes k off in
    let d : IsBut p k.after k.own l.before a × (a.world.turns + k.taken ≡ l.before.world.turns) =
    done_at unit s p k l.before a l.next l.quiet (c.stays l.before l.leads) l.goes in
    let f : GoesAlone unit p k.after k.own k.next k.quiet k.taken (with_more (k.taken + k.enough) s) = first_step unit s p k in
    let alike : LeadsAlike p k.after k.own k.enough (at l.before) (permitted unit names f.0) =
    subst (λ led. LeadsAlike p k.after k.own k.enough led (permitted unit names f.0)) l.leads
    (c.alike f.0 k.enough (from_s unit s p k f.0 f.2) (omega (arith, f.3))) in
    record {
      more = k.taken + k.enough;
      state = alike.0;
      leads = ap (λ b. if b then onward (step unit (with_more (k.taken + k.enough) s) p) names (permitted unit names) else nowhere)
          (ap is_running_process k.found ∙ k.runs)
          ∙ ap (λ (x : Stepped). onward x names (permitted unit names)) f.1 ∙ alike.1;
      same = moved unit s p k names l.before a alike.0 d.0 alike.2 d.1 alike.3;
    }
