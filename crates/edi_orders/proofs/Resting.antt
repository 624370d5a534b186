-- The rest of a stint, told by what the process finds: its inner steps, each of which keeps to itself, and its last step.
use Rattle.std.proofs.Common.{◌≡◌, ℕ, zero, suc, ◌⊎◌, inl, inr, Bool, true, false, if◌then◌else◌, List, [], ◌∷◌, length, Option, Some, refl, sym, ap, ◌∙◌}
use Rattle.std.specs.Prelude.{⊤}
use Rattle.std.specs.List.{list_any}
use Rattle.edi_calls.specs.Forks.{equal_share}
use Rattle.edi_calls.specs.Names.{Name, same, find, with_at}
use Rattle.edi_calls.specs.Ready.{stays}
use Rattle.edi_calls.proofs.Tables.{same-refl, same-or-other, find-with_at-same, find-with_at-other}
use Rattle.edi_unit.specs.Tree.{ProgramUnit}
use Rattle.edi_meaning.specs.Store.{Location, Instance, instances, frames, room}
use Rattle.edi_meaning.specs.Step.{ready, Asks, goes, arrives, again, forks, leaves, Process, Processes, exceeds}
use Rattle.edi_meaning.specs.Permitted.{is_running}
use Rattle.edi_disjoint.specs.steps.Own.{IsBut, FindsSame, KeepsToItself, reference_at}
use Rattle.edi_disjoint.specs.steps.Inner.{IsReady}
use Rattle.edi_disjoint.proofs.Effects.{instances_with}
use Rattle.edi_disjoint.proofs.steps.Leading.{keeps_on}
use Rattle.edi_orders.proofs.Lasts.{IsLast}
use Rattle.edi_orders.proofs.Pending.{Last, Pending, NotIn, live_of, store_of, live_told, store_told}
use Rattle.edi_orders.proofs.Reaching.{Runs}

-- the branches of a fork are not too large for their shares
abbrev pub Fits : ProgramUnit → Process → List Instance → Asks → Type 0
Fits unit x own (goes work) = ⊤
Fits unit x own (arrives cs position work) = ⊤
Fits unit x own (again cs position quiet work) = ⊤
Fits unit x own (forks bs line work) = list_any (exceeds unit (equal_share (room x.size (frames own)) (length bs))) bs ≡ false
Fits unit x own leaves = ⊤

module _ (unit : ProgramUnit) (p : Name) where
  -- the last step comes next
  pub record AtLast (z : Processes) (l : Last) : Type 0 where
    pub found : find z.live p ≡ Some l.process
    pub standing : l.process.standing ≡ ready
    pub own : instances z.world.store p ≡ l.own
    pub last : IsLast l.process.work l.asks
    pub fits : Fits unit l.process l.own l.asks

  -- a step that keeps to itself comes next, and then this
  pub record Inner (z : Processes) (More : Processes → Type 0) : Type 0 where
    pub keep : KeepsToItself unit z p
    pub on : keep.next ≡ stays
    pub standing : keep.process.standing ≡ ready
    pub after : Processes
    pub but : IsBut p keep.after keep.own z after
    pub more : More after

  -- THE REST OF ITS STINT: so many inner steps, and then this last step
  abbrev pub Rest : ℕ → Processes → Last → Type 0
  Rest zero z l = AtLast z l
  Rest (suc n) z l = Inner z (λ t. Rest n t l)

  -- who has become the same in two states in which it found the same finds the same
  pub both_but : (x : Process) (own : List Instance) (y z s t : Processes) → FindsSame p y z → IsBut p x own y s → IsBut p x own z t → FindsSame p s t
  both_but x own y z s t h a b = record {
    process = ap (λ l. find l p) b.live ∙ find-with_at-same z.live p x ∙ sym (ap (λ l. find l p) a.live ∙ find-with_at-same y.live p x);
    own = b.store p ∙ one (same p p) (same-refl p) ∙ sym (a.store p);
    frames = λ r o. ap frames (b.store r) ∙ other frames (same r p) r (h.frames r o) ∙ sym (ap frames (a.store r));
    references = λ r d k o.
        ap (at d k) (b.store r) ∙ other (at d k) (same r p) r (h.references r d k o) ∙ sym (ap (at d k) (a.store r));
  }
    where
      one : (c : Bool) → c ≡ true → (if c then own else instances z.world.store p) ≡ (if c then own else instances y.world.store p)
      one true e = refl
      one false e = absurd (cc)

      at : (depth variable : ℕ) → List Instance → Option Location
      at depth variable is = reference_at is depth variable

      other : {A : Type 0} (of : List Instance → A) (c : Bool) (r : Name) → of (instances z.world.store r) ≡ of (instances y.world.store r) →
          of (if c then own else instances z.world.store r) ≡ of (if c then own else instances y.world.store r)
      other of true r e = refl
      other of false r e = e

  -- the state with p so
  pub become : (x : Process) (own : List Instance) (z : Processes) → (t : Processes) × IsBut p x own z t
  become x own z = (
    record { live = with_at z.live p x; world = record z.world { store = with_at z.world.store p own } },
    record { live = refl; store = λ r. instances_with z.world.store p r own; system = refl },
  )

  -- wherever p finds the same the rest is the same
  pub rest_kept : (n : ℕ) (y z : Processes) (l : Last) → FindsSame p y z → Rest n y l → Rest n z l
  rest_kept zero y z l h r = record { found = h.process ∙ r.found; standing = r.standing; own = h.own ∙ r.own; last = r.last; fits = r.fits }
  rest_kept (suc n) y z l h r =
      let b : (t : Processes) × IsBut p r.keep.after r.keep.own z t = become r.keep.after r.keep.own z in
      record {
        keep = keeps_on unit y z p r.keep h;
        on = r.on;
        standing = r.standing;
        after = b.0;
        but = b.1;
        more = rest_kept n r.after b.0 l (both_but r.keep.after r.keep.own y z r.after b.0 h r.but b.1) r.more;
      }

  pub rest_ready : (n : ℕ) (z : Processes) (l : Last) → Rest n z l → IsReady z p
  rest_ready zero z l r = record { process = l.process; found = r.found; standing = r.standing }
  rest_ready (suc n) z l r = record { process = r.keep.process; found = r.keep.found; standing = r.standing }

pub ready_runs : (z : Processes) (p : Name) → IsReady z p → Runs z p
ready_runs z p r = record { process = r.process; found = r.found; running = ap is_running r.standing }

-- ---- several

module _ (unit : ProgramUnit) where
  -- each of these has the rest of its stint before it
  abbrev pub AllRest : Processes → Pending → Type 0
  AllRest s [] = ⊤
  AllRest s (e ∷ ks) = ((n : ℕ) × Rest unit e.0 n s e.1) × AllRest s ks

  pub all_kept : (p : Name) (s t : Processes) (ks : Pending) → ((q : Name) → Runs s q → same p q ≡ false → FindsSame q s t) → NotIn p ks → AllRest s ks → AllRest t ks
  all_kept p s t [] h n r = tt
  all_kept p s t (e ∷ ks) h n r = (
    (r.0.0, rest_kept unit e.0 r.0.0 s t e.1 (h e.0 (ready_runs s e.0 (rest_ready unit e.0 r.0.0 s e.1 r.0.1)) n.0) r.0.1),
    all_kept p s t ks h n.1 r.1,
  )

-- what p will be after its stint is the same, whatever steps it has done by itself
module _ (unit : ProgramUnit) (p : Name) (l : Last) (x : Process) (own : List Instance) (s t : Processes) (but : IsBut p x own s t) where
  pub told_live : (r : Name) → live_of unit p l r (find t.live r) ≡ live_of unit p l r (find s.live r)
  told_live r = go (same-or-other r p)
    where
      go : (r ≡ p) ⊎ (same r p ≡ false) → live_of unit p l r (find t.live r) ≡ live_of unit p l r (find s.live r)
      go (inl e) =
          ap (λ q. live_of unit p l q (find t.live q)) e ∙ live_told unit p l (find t.live p) (find s.live p) ∙ ap (λ q. live_of unit p l q (find s.live q)) (sym e)
      go (inr n) = ap (live_of unit p l r) (ap (λ live. find live r) but.live ∙ find-with_at-other s.live p r x n)

  pub told_store : (r : Name) → store_of unit p l r (instances t.world.store r) ≡ store_of unit p l r (instances s.world.store r)
  told_store r = go (same-or-other r p)
    where
      go : (r ≡ p) ⊎ (same r p ≡ false) → store_of unit p l r (instances t.world.store r) ≡ store_of unit p l r (instances s.world.store r)
      go (inl e) =
          ap (λ q. store_of unit p l q (instances t.world.store q)) e ∙ store_told unit p l (instances t.world.store p) (instances s.world.store p)
          ∙ ap (λ q. store_of unit p l q (instances s.world.store q)) (sym e)
      go (inr n) = ap (store_of unit p l r) (but.store r ∙ ap (λ b. if b then own else instances s.world.store r) n)
