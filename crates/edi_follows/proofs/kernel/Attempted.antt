-- An attempt at a `when` that fails leaves its process just where it stood. Whoever hands itself over otherwise was ready.
use Rattle.std.proofs.Common.{◌≡◌, ℕ, zero, suc, ◌+◌, ◌-◌, Bool, true, false, if◌then◌else◌, List, length, Option, Some, None, refl, sym, subst, ap, ◌∙◌}
use Rattle.std.specs.Prelude.{⊤}
use Rattle.edi_calls.specs.Names.{Name, find}
use Rattle.edi_unit.specs.Tree.{Clauses, ProgramUnit}
use Rattle.edi_meaning.specs.Store.{Shape, shape, now}
use Rattle.edi_meaning.specs.Evaluation.{World, Evaluation, gives, ends, ◌>>=◌, turn_from, turn}
use Rattle.edi_meaning.specs.Whole.{whole_first}
use Rattle.edi_meaning.specs.Step.{Process, Processes, Position, Work, Standing, ready, at_when, waiting, Asks, goes, arrives, again, forks, leaves, is_quiet}
use Rattle.edi_meaning.specs.Step.{local_step}
use Rattle.edi_meaning.specs.Permitted.{is_running}
use Rattle.edi_meaning.proofs.Standstill.{Unmarked, work_unmarked}
use Rattle.edi_target.specs.Mach.{Machine, is_first}
use Rattle.edi_scheme.specs.Sites.{Site, statements, statement, nothing_there}
use Rattle.edi_follows.specs.places.Coded.{Coded}
use Rattle.edi_follows.specs.places.Spots.{address}
use Rattle.edi_follows.specs.places.Located.{IsAt, IsAwaited, frame_of}
use Rattle.edi_follows.specs.places.Related.{standing_of, Related}
use Rattle.edi_follows.specs.places.Lands.{spot_as, spot_of, Stepping, pc_of}
use Rattle.edi_follows.proofs.kernel.Kernels.{activity_here, found_here}

-- ---- of the meaning

-- what an attempt at this `when` may ask
abbrev pub OfAttempt : Clauses → Position → Evaluation Asks → Type 0
OfAttempt cs position (ends ending system turns) = ⊤
OfAttempt cs position (gives (goes work) w) = ⊤
OfAttempt cs position (gives (arrives c o work) w) = ⊥
OfAttempt cs position (gives (again c o quiet work) w) = (c ≡ cs) × (o ≡ position)
OfAttempt cs position (gives (forks bs line work) w) = ⊥
OfAttempt cs position (gives leaves w) = ⊥

failed_asks : (cs : Clauses) (position : Position) (work : List Work) (n : ℕ) (w : World) →
    OfAttempt cs position (turn_from n w (gives (again cs position (is_quiet cs) work)))
failed_asks cs position work zero w = tt
failed_asks cs position work (suc n) w = (refl, refl)

attempt_asks : (cs : Clauses) (position : Position) (work : List Work) (r : Evaluation Bool) →
    OfAttempt cs position (r >>= λ ran w. if ran then gives (goes work) w else turn w (gives (again cs position (is_quiet cs) work)))
attempt_asks cs position work (gives true w) = tt
attempt_asks cs position work (gives false w) = failed_asks cs position work w.turns w
attempt_asks cs position work (ends ending system turns) = tt

module _ (unit : ProgramUnit) (p : Name) (size : ℕ) (work : List Work) (v : World) where
  -- what no attempt asks is asked by who is ready
  pub was_ready : (st : Standing) (r : Evaluation Asks) → local_step unit p size st work v ≡ r → is_running st ≡ true →
      ((cs : Clauses) (position : Position) → OfAttempt cs position r → ⊥) → st ≡ ready
  was_ready ready r e h never = refl
  was_ready (at_when cs position) r e h never =
      absurd (never cs position (subst (OfAttempt cs position) e (attempt_asks cs position work (whole_first unit p size cs v))))
  was_ready (waiting n) r e h never = absurd (cc)

  -- who stands at a `when` again stood there
  pub stood_there : (st : Standing) (cs : Clauses) (position : Position) (quiet : Bool) (ws : List Work) (w : World) →
      local_step unit p size st work v ≡ gives (again cs position quiet ws) w → is_running st ≡ true → st ≡ at_when cs position
  stood_there ready cs position quiet ws w e h = absurd (subst Unmarked e (work_unmarked unit p size work v))
  stood_there (at_when c o) cs position quiet ws w e h =
      let k : (cs ≡ c) × (position ≡ o) = subst (OfAttempt c o) e (attempt_asks c o work (whole_first unit p size c v)) in
      λ i. at_when (sym k.0 i) (sym k.1 i)
  stood_there (waiting n) cs position quiet ws w e h = absurd (cc)

-- ---- on the machine

-- a `when` stands at one address
abbrev address_in : Site → ℕ
address_in (statements s at) = at
address_in (statement a at) = at
address_in nothing_there = 0

pub one_address : (g : Coded) (b b' : ℕ) (position : Position) (cs : Clauses) (pc pc' : ℕ) → IsAwaited g b position cs pc → IsAwaited g b' position cs pc' → pc' ≡ pc
one_address g b b' position cs pc pc' h k = k.behind ∙ ap (λ n. n + 2) (ap address_in (sym k.sited.there ∙ h.sited.there)) ∙ sym h.behind

module _ (g : Coded) (s : Processes) (t : Machine) (p : Name) (q : Process) (x : Stepping g s p q) (r : Related g s t) where
  -- who is ready stands at no `when`
  pub ready_spot : q.standing ≡ ready → spot_of (find t.activities p) ≡ None
  ready_spot e = ap spot_of (found_here g s t p q x r) ∙ ap (λ st. spot_as (activity_here g s t p q x r) (standing_of st)) e

  pub not_again : q.standing ≡ ready → (o : Option (ℕ × ℕ)) (spot : ℕ × ℕ) → spot_of (find t.activities p) ≡ Some spot → o ≡ Some spot
  not_again e o spot f = let n : ◌≡◌ {A = Option (ℕ × ℕ)} None (Some spot) = sym (ready_spot e) ∙ f in absurd (cc)

  module _ (cs : Clauses) (position : Position) (e : q.standing ≡ at_when cs position) where
    pub when_spot : spot_of (find t.activities p) ≡ Some (address r.first (shape s.world.store) (now (shape s.world.store) p), pc_of g s t p q x r)
    when_spot = ap spot_of (found_here g s t p q x r) ∙ ap (λ st. spot_as (activity_here g s t p q x r) (standing_of st)) e

    -- in the same frames, at the same `when`, it stands at the same spot
    pub same_spot : (G : Shape) (m : List ℕ) (ws : List Work) (pc d : ℕ) → shape s.world.store ≡ G →
        IsAt g (is_first p) (r.first p) (G p) m (at_when cs position) ws pc d →
        (spot : ℕ × ℕ) → spot_of (find t.activities p) ≡ Some spot → Some (address r.first G (now G p), pc) ≡ Some spot
    same_spot G m ws pc d same at spot f =
        (λ i. Some (address r.first (sym same i) (now (sym same i) p), one_address g _ _ position cs (pc_of g s t p q x r) pc here at.6 i)) ∙ sym when_spot ∙ f
      where
        here : IsAwaited g (frame_of (shape s.world.store p) (length (shape s.world.store p) - 1)).block position cs (pc_of g s t p q x r)
        here = (subst (λ z. IsAt g (is_first p) (r.first p) (shape s.world.store p) t.memory z q.work (pc_of g s t p q x r)
            (length (shape s.world.store p) - 1)) e (r.words.each p q x.found).at).6
