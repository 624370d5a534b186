-- A walk is one of the permitted executions.
use Rattle.std.proofs.Common.{◌≡◌, ℕ, zero, suc, ◌⊎◌, inl, inr, Bool, true, false, if◌then◌else◌, List, [], ◌∷◌, ◌++◌, Option, Some, None, refl, sym, subst}
use Rattle.std.proofs.Common.{ap, ◌∙◌}
use Rattle.std.specs.Prelude.{⊤, ◌||◌}
use Rattle.edi_calls.specs.Choice.{Choices}
use Rattle.edi_calls.specs.Names.{Name, same, find}
use Rattle.edi_calls.specs.Ready.{has, Next, stays, joins, Taking, nobody, taking, take_next}
use Rattle.edi_calls.proofs.Tables.{same-refl, same-or-other}
use Rattle.edi_unit.specs.Tree.{ProgramUnit}
use Rattle.edi_meaning.specs.Step.{Process, Processes, Stepped, went, ended, step, start}
use Rattle.edi_meaning.specs.Permitted.{is_running_process, may_step, Led, at, over, nowhere, onward}
use Rattle.edi_meaning.specs.Permitted.{permitted}
use Rattle.edi_meaning.specs.Select.{Selected, unfinished, finished, stepped_first}
use Rattle.edi_meaning.proofs.Family.{Fresh, start_fresh}
use Rattle.edi_meaning.proofs.Sound.{Each, EachTaken, each_next, has-append, once-append}
use Rattle.edi_meaning.proofs.Permitted.{May, StepSound, step_sound, start_may, start_all}
use Rattle.edi_meaning.proofs.Someone.{someone_may_step}
use Rattle.edi_walk.specs.Walk.{joining, behind_step, taken_step, walked}
use Rattle.edi_walk.specs.Laws.{WalkIsPermitted}

-- ---- who has gone to the back

turned_round : (a b : Bool) → (a || (b || false)) ≡ (b || a)
turned_round true true = refl
turned_round true false = refl
turned_round false true = refl
turned_round false false = refl

has-back : (p x : Name) (others : List Name) → has (others ++ p ∷ []) x ≡ has (p ∷ others) x
has-back p x others = has-append others (p ∷ []) x ∙ turned_round (has others x) (same x p)

apart : (p x : Name) (others : List Name) → has others p ≡ false → has others x ≡ true → (same x p || false) ≡ false
apart p x others n h = go (same-or-other x p)
  where
    go : (x ≡ p) ⊎ (same x p ≡ false) → (same x p || false) ≡ false
    go (inl e) = let a : has others p ≡ true = sym (ap (has others) e) ∙ h in let c : false ≡ true = sym n ∙ a in absurd (cc)
    go (inr m) = ap (λ b. b || false) m

each_back : (P : Name → Type 0) (p : Name) (others : List Name) → Each P (p ∷ others) → Each P (others ++ p ∷ [])
each_back P p others e = record {
  once = once-append others (p ∷ []) e.once.1 (refl, tt) (λ x h. apart p x others e.once.0 h);
  holds = λ x h. e.holds x (sym (has-back p x others) ∙ h);
  all = λ x m. has-back p x others ∙ e.all x m;
}

-- ---- along a walk

module _ (unit : ProgramUnit) (choices : Choices) (first : Processes)
    (someone : (names : List Name) (s : Processes) → permitted unit names first ≡ at s → (p : Name) × (may_step s p ≡ true)) where
  abbrev Leads : (List Name → Led) → Selected → Type 0
  Leads led unfinished = ⊤
  Leads led (finished ending end turns drawn order) = led order ≡ over ending end turns

  abbrev Reached : Processes → Type 0
  Reached s = (names : List Name) × (permitted unit names first ≡ at s)

  -- one step further
  led_on : (names : List Name) (r s : Processes) (p : Name) (t : Processes) (next : Next) (quiet : Bool) → permitted unit names r ≡ at s →
      may_step s p ≡ true → step unit s p ≡ went t next quiet → permitted unit (names ++ p ∷ []) r ≡ at t
  led_on [] r s p t next quiet e m is =
      let same : r ≡ s = at_same r s e in
      subst (λ x. permitted unit (p ∷ []) x ≡ at t) (sym same) (rw (m, is) refl)
    where
      at_same : (r s : Processes) → at r ≡ at s → r ≡ s
      at_same r s e = cc
  led_on (q ∷ qs) r s p t next quiet e m is = go (may_step r q) (step unit r q) (λ u. led_on qs u s p t next quiet) e m is
    where
      go : (b : Bool) (x : Stepped) →
          ((u : Processes) → permitted unit qs u ≡ at s → may_step s p ≡ true → step unit s p ≡ went t next quiet → permitted unit (qs ++ p ∷ []) u ≡ at t) →
          (if b then onward x qs (permitted unit qs) else nowhere) ≡ at s → may_step s p ≡ true → step unit s p ≡ went t next quiet →
          (if b then onward x (qs ++ p ∷ []) (permitted unit (qs ++ p ∷ [])) else nowhere) ≡ at t
      go false x ih e m is = absurd (cc)
      go true (went u n quiet') ih e m is = ih u e m is
      go true (ended ending system turns) ih e m is = none qs e
        where
          none : (qs : List Name) → onward (ended ending system turns) qs (permitted unit qs) ≡ at s →
              onward (ended ending system turns) (qs ++ p ∷ []) (permitted unit (qs ++ p ∷ [])) ≡ at t
          none [] e = absurd (cc)
          none (y ∷ ys) e = absurd (cc)

  abbrev MoreLeads : (Processes → List Name → ℕ → Selected) → Type 0
  MoreLeads more = (s : Processes) (listed : List Name) (d : ℕ) → Fresh s.live → Each (May s.live) listed → Reached s → Leads (λ order. permitted unit order s)
      (more s listed d)

  next_each : (t : Processes) (p : Name) (others : List Name) (next : Next) (quiet : Bool) → StepSound p others (went t next quiet) →
      Fresh t.live × Each (May t.live) (others ++ joining p next)
  next_each t p others stays quiet h = (h.0, each_back (May t.live) p others h.1)
  next_each t p others (joins ps) quiet h = h

  stepped_leads : (more : Processes → List Name → ℕ → Selected) → MoreLeads more → (s : Processes) (p : Name) (others : List Name) (drawn : ℕ) →
      may_step s p ≡ true → Reached s → (x : Stepped) → step unit s p ≡ x → StepSound p others x →
      Leads (λ order. onward x order (permitted unit order)) (behind_step more p others drawn x)
  stepped_leads more h s p others drawn m r (ended ending system turns) is sound = refl
  stepped_leads more h s p others drawn m r (went t next quiet) is sound =
      let each = next_each t p others next quiet sound in
      h t (others ++ joining p next) drawn each.0 each.1 (r.0 ++ p ∷ [], led_on r.0 first s p t next quiet r.1 m is)

  first_leads : (s : Processes) (p : Name) (r : Selected) → may_step s p ≡ true → Leads (λ order. onward (step unit s p) order (permitted unit order)) r →
      Leads (λ order. permitted unit order s) (stepped_first p r)
  first_leads s p unfinished m h = tt
  first_leads s p (finished ending end turns drawn order) m h = rw m h

  taken_leads : (more : Processes → List Name → ℕ → Selected) → MoreLeads more → (s : Processes) (before : ℕ) (t : Taking) → Fresh s.live →
      EachTaken (May s.live) t → Reached s → Leads (λ order. permitted unit order s) (taken_step unit more s before t)
  taken_leads more h s before nobody f e r = let who = someone r.0 s r.1 in absurd (e who.0 who.1)
  taken_leads more h s before (taking p others drawn) f e r = of_found (find s.live p) refl
    where
      may : may_step s p ≡ true
      may = e.holds p (ap (λ b. b || has others p) (same-refl p))

      of_found : (x : Option Process) → find s.live p ≡ x → Leads (λ order. permitted unit order s) (stepped_first p (behind_step more p others drawn (step unit s p)))
      of_found None g = let a : false ≡ true = sym (ap is_running_process g) ∙ may in absurd (cc)
      of_found (Some q) g =
          first_leads s p (behind_step more p others drawn (step unit s p)) may
          (stepped_leads more h s p others drawn may r (step unit s p) refl (step_sound unit s p q others g f e))

  walked_leads : (n : ℕ) → MoreLeads (walked unit choices n)
  walked_leads zero s listed d f e r = tt
  walked_leads (suc n) s listed d f e r =
      taken_leads (walked unit choices n) (walked_leads n) s d (take_next choices d listed) f (each_next (May s.live) choices d listed e) r

pub walk_is_permitted : WalkIsPermitted
walk_is_permitted unit system bound choices before ending end turns drawn order branches e =
    let l = walked_leads unit choices (start unit system bound) (λ names s. someone_may_step unit system bound names s branches) e.0 (start unit system bound)
    ([] ∷ []) before (start_fresh unit system bound)
    (record { once = (refl, tt); holds = start_may unit system bound; all = start_all unit system bound }) ([], refl) in
    let P : Selected → Type 0 = λ r. Leads unit choices (start unit system bound)
    (λ names s. someone_may_step unit system bound names s branches) (λ order. permitted unit order (start unit system bound)) r in
    subst P e.1 l
