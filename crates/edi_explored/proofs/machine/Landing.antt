-- A stint of the meaning, and the stint of the machine meanwhile: the induction over its steps.
use Rattle.std.proofs.Common.{◌≡◌, ℕ, zero, suc, true, false, List, [], ◌++◌, ap, ◌∙◌}
use Rattle.std.specs.Prelude.{⊤}
use Rattle.edi_calls.specs.Names.{Name}
use Rattle.edi_calls.specs.Ready.{stays, joins}
use Rattle.edi_calls.specs.State.{State}
use Rattle.edi_meaning.specs.Step as source
use Rattle.edi_meaning.specs.Step.{Processes}
use Rattle.edi_target.specs.Mach as target
use Rattle.edi_target.specs.Mach.{Machine, OwnWords}
use Rattle.edi_target.specs.Moments.{news_at}
use Rattle.edi_kernel.specs.Stints as stints
use Rattle.edi_follows.specs.places.Coded.{Coded}
use Rattle.edi_follows.specs.places.Related.{Related, Kept, Queue}
use Rattle.edi_follows.specs.places.Lands.{step, Passes, Lands, Taken, StepClaim, QueueAfter, StepsQueue}
use Rattle.edi_explored.specs.Stint.{Stinted, goes_on, behind, over, stint, stint_after}
use Rattle.edi_explored.proofs.Induction.{Shaped, step_shaped}

module _ (g : Coded) where
  abbrev pub run : ℕ → Machine → Name → List Name → stints.Stint
  run n t p others = stints.stint g.fetched n t p others

  abbrev pub none : ℕ → Type 0
  none a = ⊥

  -- instructions before
  passes : (k n : ℕ) (t : Machine) (past : List State) (p : Name) (others : List Name) (u : Machine) (now : List State) → Passes g none k t past p others u now →
      (m : ℕ) × (run m t p others ≡ run n u p others)
  passes zero n t past p others u now h = (n, ap (λ x. run n x p others) h.0)
  passes (suc k) n t past p others u now h =
      let rest = passes k n h.0 (news_at g.fetched t p ++ past) p others u now h.3 in
      (suc rest.0, ap (stints.stint_after (λ x. run rest.0 x p others)) h.1 ∙ rest.1)

  -- the machine has come to the end of its stint
  pub record Comes (t : Machine) (p : Name) (others : List Name) (x : stints.Stint) : Type 0 where
    pub steps : ℕ
    pub is : run steps t p others ≡ x

  pub passed : (k : ℕ) (t : Machine) (past : List State) (p : Name) (others : List Name) (u : Machine) (now : List State) (x : stints.Stint) →
      Passes g none k t past p others u now → Comes u p others x → Comes t p others x
  passed k t past p others u now x h c =
      let r = passes k c.steps t past p others u now h in
      record { steps = r.0; is = r.1 ∙ c.is }

  pub stepped : (t : Machine) (p : Name) (others : List Name) (x : target.Stepped) → step g t p others ≡ x →
      Comes t p others (stints.stint_after (λ u. stints.unfinished) x)
  stepped t p others x e = record { steps = 1; is = ap (stints.stint_after (λ u. stints.unfinished)) e }

  -- where the meaning's stint leads, there the machine's does
  pub record SwitchesTo (t : Machine) (p : Name) (others : List Name) (s : Processes) (joined : List Name) : Type 0 where
    pub machine : Machine
    pub comes : Comes t p others (stints.switched machine joined)
    pub related : Related g s machine
    pub kept : Kept s machine
    pub queue : Queue s (others ++ joined)
    pub unmarked : machine.marks ≡ []

  -- WHAT THE MEANING'S STINT COMES TO, the machine's comes to; of an attempt that marks its process nothing is said here
  abbrev pub LandsAs : Machine → Name → List Name → Stinted → Type 0
  LandsAs t p others goes_on = ⊤
  LandsAs t p others (behind s joined true) = ⊤
  LandsAs t p others (behind s joined false) = SwitchesTo t p others s joined
  LandsAs t p others (over ending shown) = (u : Machine) × Comes t p others (stints.over ending u) × (u.system.shown ≡ shown)

  lands_before : (k : ℕ) (t : Machine) (past : List State) (p : Name) (others : List Name) (u : Machine) (now : List State) (x : Stinted) →
      Passes g none k t past p others u now → LandsAs u p others x → LandsAs t p others x
  lands_before k t past p others u now goes_on h l = tt
  lands_before k t past p others u now (behind s joined true) h l = tt
  lands_before k t past p others u now (behind s joined false) h l = record {
    machine = l.machine;
    comes = passed k t past p others u now (stints.switched l.machine joined) h l.comes;
    related = l.related;
    kept = l.kept;
    queue = l.queue;
    unmarked = l.unmarked;
  }
  lands_before k t past p others u now (over ending shown) h l = (l.0, passed k t past p others u now (stints.over ending l.0) h l.1, l.2)

  abbrev AllLand : ℕ → Type 0
  AllLand n =
      (s : Processes) (t : Machine) (p : Name) (others marks : List Name) → Taken g s t p others marks → LandsAs t p others (stint g.unit n s p)

  landed : (n : ℕ) → AllLand n → (t : Machine) (past : List State) (p : Name) (others marks : List Name) (x : source.Stepped) → Shaped p x →
      Lands g none t past p others marks x → QueueAfter p others x → LandsAs t p others (stint_after (λ u. stint g.unit n u p) x)
  landed n ih t past p others marks (source.ended e system turns) shape h q = (
    h.machine,
    passed h.steps t past p others h.before h.since (stints.over e h.machine) h.passes (stepped h.before p others (target.ended e h.machine) h.is),
    ap (λ (y : State). y.shown) h.system_is,
  )
  landed n ih t past p others marks (source.went s stays true) shape h q = let e : true ≡ false = shape.0 in absurd (cc)
  landed n ih t past p others marks (source.went s stays false) shape h q =
      lands_before h.steps t past p others h.machine s.world.system.past (stint g.unit n s p) h.passes
      (ih s h.machine p others [] (record { related = h.related; kept = h.kept; queue = q; marks_agree = h.marks_agree }))
  landed n ih t past p others marks (source.went s (joins ps) true) shape h q = tt
  landed n ih t past p others marks (source.went s (joins ps) false) shape h q = record {
    machine = h.machine;
    comes = passed h.steps t past p others h.before h.since (stints.switched h.machine ps) h.passes
        (stepped h.before p others (target.went h.machine (joins ps)) h.is);
    related = h.related;
    kept = h.kept;
    queue = q;
    unmarked = h.same_marks;
  }

  module _ (claim : StepClaim g) (queues : StepsQueue) where
    pub stint_lands : (n : ℕ) → AllLand n
    stint_lands zero s t p others marks k = tt
    stint_lands (suc n) s t p others marks k =
        landed n (stint_lands n) t s.world.system.past p others marks (source.step g.unit s p) (step_shaped g.unit s p)
        (claim none s t p others marks k (λ a o w. o)) (queues g.unit s p others k.kept.coherent k.queue)
