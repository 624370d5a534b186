-- A process that forks waits for its children, and stands at no `when`.
use Rattle.std.proofs.Common.{◌≡◌, ℕ, zero, suc, ◌-◌, ◌<◌, ◌≤◌, Bool, true, false, if◌then◌else◌, List, [], ◌∷◌, length, Option, Some, None, refl, subst}
use Rattle.std.proofs.Common.{ap, ◌∙◌, arith, length-append, length-take}
use Rattle.std.specs.Prelude.{⊤}
use Rattle.edi_calls.specs.Names.{Name, find, same, with_at, without}
use Rattle.edi_calls.specs.Outcome as outcome
use Rattle.edi_calls.specs.Ready.{parent_of, all_marked, stays, joins, freed, child, children}
use Rattle.edi_calls.proofs.Tables.{find-with_at-same, same-equal}
use Rattle.edi_target.specs.Op.{Instruction}
use Rattle.edi_target.specs.Effect.{Turn, entering, leaving, looping, arriving, again, forking, exiting, finishing}
use Rattle.edi_target.specs.Mach.{Running, Answer, on, behind, turned, over, local_step, Standing, ready, at_when, waiting, awaits, Activity, Machine, Stepped, went}
use Rattle.edi_target.specs.Op.{Branch}
use Rattle.edi_target.specs.Mach.{ended, running_of, activity_of, back, with_children, one_less, notified, at_turn, kernel, is_first, step_of, step}
use Rattle.edi_target.specs.Arrivals.{arrived_in}
use Rattle.edi_target.proofs.segments.Children.{others_stay}

module _ (p : Name) (others : List Name) where
  abbrev NotArrived : Machine → Type 0
  NotArrived m = arrived_in m p (find m.activities p) ≡ []

  -- where the children of a fork of p join, p is not at its `when`
  abbrev Waits : Stepped → Type 0
  Waits (went m stays) = ⊤
  Waits (went m (joins ps)) = (f n : ℕ) → 0 < n → ps ≡ children p f 0 n → NotArrived m
  Waits (ended ending m) = ⊤

  -- a name no longer than that of p is no child of it
  no_child : (q : Name) → length q ≤ length p → (f n : ℕ) → 0 < n → q ∷ [] ≡ children p f 0 n → ⊥
  no_child q le f zero some e = omega (arith, some)
  no_child q le f (suc n) some e =
      let first : q ≡ child p f 0 = (cc) in omega (arith, le, ap length first, length-append p (f ∷ 0 ∷ []))

  alone : (q : Name) (m : Machine) → length q ≤ length p → Waits (went m (joins (q ∷ [])))
  alone q m le f n some e = absurd (no_child q le f n some e)

  nobody_joins : (m : Machine) → Waits (went m (joins []))
  nobody_joins m f zero some e = absurd (omega (arith, some))
  nobody_joins m f (suc n) some e = absurd (cc)

  freed_waits : (n : ℕ) (m : Machine) (q : Name) → length q ≤ length p → Waits (went m (freed n q))
  freed_waits zero m q le = alone q m le
  freed_waits (suc n) m q le = nobody_joins m

  less_waits : (m : Machine) (q : Name) (a : Activity) (s : Standing) → length q ≤ length p → Waits (one_less m q a s)
  less_waits m q a (waiting n) le = freed_waits (n - 1) (record m { activities = with_at m.activities q (record a { standing = awaits (n - 1) }) }) q le
  less_waits m q a ready le = nobody_joins m
  less_waits m q a at_when le = nobody_joins m

  told_waits : (m : Machine) (q : Name) (a : Option Activity) → length q ≤ length p → Waits (notified m q a)
  told_waits m q None le = nobody_joins m
  told_waits m q (Some a) le = less_waits m q a a.standing le

  tested_waits : (b : Bool) (m : Machine) → Waits (if b then ended outcome.standstill m else went m (joins (p ∷ [])))
  tested_waits true m = tt
  tested_waits false m = alone p m (omega arith)

  -- no child is p itself
  other_name : (f i : ℕ) → same p (child p f i) ≡ false
  other_name f i = go (same p (child p f i)) refl
    where
      go : (b : Bool) → same p (child p f i) ≡ b → b ≡ false
      go false e = refl
      go true e =
          let is : p ≡ child p f i = same-equal p (child p f i) e in absurd (omega (arith, ap length is, length-append p (f ∷ i ∷ [])))

  forked_waits : (m : Machine) (forks n base at share : ℕ) (branches : List Branch) (r : Running)
      → NotArrived (with_children p forks 0 base at share branches (back m p (activity_of r.local forks (waiting n)) [] r))
  forked_waits m forks n base at share branches r =
      let after : Machine = back m p (activity_of r.local forks (waiting n)) [] r in
      let all : Machine = with_children p forks 0 base at share branches after in
      ap (arrived_in all p)
      (others_stay p forks base share p (other_name forks) branches 0 at after ∙ find-with_at-same m.activities p (activity_of r.local forks (waiting n)))

  turned_waits : (m : Machine) (a : Activity) (kind : Turn) (r : Running) → Waits (at_turn m p others a kind r)
  turned_waits m a entering r = tt
  turned_waits m a leaving r = tt
  turned_waits m a looping r = tt
  turned_waits m a arriving r = alone p (back m p (activity_of r.local a.forks at_when) [] r) (omega arith)
  turned_waits m a (again false) r = alone p (back m p (activity_of r.local a.forks at_when) [] r) (omega arith)
  turned_waits m a (again true) r =
      tested_waits (all_marked (p ∷ m.marks) (p ∷ others)) (back m p (activity_of r.local a.forks at_when) (p ∷ m.marks) r)
  turned_waits m a (forking branches) r = λ f n some e. forked_waits m (suc a.forks) (length branches) _ _ _ branches r
  turned_waits m a exiting r =
      told_waits _ (parent_of p) (find (without m.activities p) (parent_of p)) (omega (arith, length-take (length p - 2) p))
  turned_waits m a finishing r = tt

  kernel_waits : (m : Machine) (a : Activity) (answer : Answer) → Waits (kernel m p others a answer)
  kernel_waits m a (on r) = tt
  kernel_waits m a (behind r) = tt
  kernel_waits m a (turned kind r) = turned_waits m a kind r
  kernel_waits m a (over ending r) = tt

  module _ (fetch : ℕ → Option (Instruction × ℕ)) where
    step_of_waits : (m : Machine) (a : Option Activity) → Waits (step_of fetch m p others a)
    step_of_waits m None = tt
    step_of_waits m (Some a) = kernel_waits m a (local_step fetch (length m.activities) (is_first p) (running_of m a))

    pub fork_waits : (m t : Machine) (ps : List Name) (f n : ℕ) → step fetch m p others ≡ went t (joins ps) → 0 < n → ps ≡ children p f 0 n → NotArrived t
    fork_waits m t ps f n e some are = (subst Waits e (step_of_waits m (find m.activities p))) f n some are
