-- Where a search has nothing for no move, no execution makes more moves than it has followed.
use Rattle.std.proofs.Common.{◌≡◌, ℕ, zero, suc, ◌<◌, ◌≤◌, Bool, true, false, if◌then◌else◌, List, [], ◌∷◌, ◌++◌, refl, sym, subst, ap, arith}
use Rattle.edi_calls.specs.State.{State}
use Rattle.edi_calls.specs.Choice.{Choices}
use Rattle.edi_calls.specs.Names.{Name}
use Rattle.edi_calls.specs.Ready.{all_marked, Next, stays, joins, Taking, nobody, taking, take_next}
use Rattle.edi_unit.specs.Tree.{ProgramUnit}
use Rattle.edi_meaning.specs.Step.{Processes, Stepped, went, ended, step, start}
use Rattle.edi_meaning.specs.Select.{marked}
use Rattle.edi_meaning.proofs.Standstill.{Marks}
use Rattle.edi_explored.specs.Moves.{moves_on, moves_next, moves_after, moves}
use Rattle.edi_explored.specs.Stint.{stint, stint_after}
use Rattle.edi_explored.specs.Covered.{Reordered, Report, Followed, BeginsWith}
use Rattle.edi_explored.specs.Within.{MakeFewer}
use Rattle.edi_explored.proofs.Members.{MembersTaken, members_taken}
use Rattle.edi_explored.proofs.Induction.{Shaped, step_shaped, step_marked, AreIdle, marks_after, nothing_differs, Covered, Going, begins, goes_on, to_back}
use Rattle.edi_explored.proofs.Induction.{quiet_covered}

module _ (unit : ProgramUnit) (report : Report) (V : Type 0) (Covers : V → Processes → List Name → Type 0) (Has : ℕ → V → Type 0)
    (f : Followed unit report V Covers Has) (none : (v : V) → Has zero v → ⊥) (choices : Choices) where
  abbrev Here : ℕ → Processes → List Name → Type 0
  Here = Covered unit report V Covers Has f choices

  abbrev Goes : ℕ → Processes → Name → List Name → Type 0
  Goes = Going unit report V Covers Has f choices

  abbrev Rest : Type 0
  Rest = Processes → List Name → Name → List Name → ℕ → ℕ

  abbrev RestFew : Rest → Type 0
  RestFew more =
      (n : ℕ) (s : Processes) (marks : List Name) (p : Name) (others : List Name) (drawn : ℕ) → AreIdle unit s marks → Goes n s p others →
      more s marks p others drawn ≤ n

  -- the next is taken
  taken_few : (n : ℕ) (s : Processes) (marks names : List Name) (more : Rest) → AreIdle unit s marks → Here (suc n) s names → RestFew more → (t : Taking) →
      MembersTaken names t → moves_on t (more s marks) ≤ n
  taken_few n s marks names more i c h nobody m = omega arith
  taken_few n s marks names more i c h (taking p others d) m =
      h n s marks p others d i (begins unit report V Covers Has f choices n s p others
      (record { by = c.by; has_it = c.has_it; covers = f.forgets c.by s s names (p ∷ others) c.covers (nothing_differs s) m }))

  -- after a move
  moved_few : (n : ℕ) (s : Processes) (marks names : List Name) (more : Rest) → AreIdle unit s marks → Here n s names → RestFew more → (t : Taking) →
      MembersTaken names t → suc (moves_on t (more s marks)) ≤ n
  moved_few zero s marks names more i c h t m = absurd (none c.by c.has_it)
  moved_few (suc n) s marks names more i c h t m = omega (arith, taken_few n s marks names more i c h t m)

  -- after a step
  next_few : (n : ℕ) (s t : Processes) (marks : List Name) (p : Name) (others : List Name) (drawn : ℕ) (quiet : Bool) (next : Next) (more : Rest) →
      step unit s p ≡ went t next quiet → Shaped p (went t next quiet) → Marks unit s p (went t next quiet) → AreIdle unit t marks → Goes n s p others →
      RestFew more → moves_next choices (more t marks) p others drawn quiet next ≤ n
  next_few n s t marks p others drawn quiet stays more e shape m i g h =
      h n t marks p others drawn i (goes_on unit report V Covers Has f choices n s t p others quiet e (shape.1, shape.2, shape.3) g)
  next_few n s t marks p others drawn false (joins ps) more e shape m i g h =
      moved_few n t marks (others ++ ps) more i (g.leads 1 t ps (ap (stint_after (λ u. stint unit 0 u p)) e)) h
      (take_next choices drawn (others ++ ps)) (members_taken choices drawn (others ++ ps))
  next_few n s t marks p others drawn true (joins ps) more e shape m i g h =
      taken_few n t marks (others ++ ps) more i
      (quiet_covered unit report V Covers Has f choices n s t p others (others ++ ps) m.0 m.1 g
      (subst (λ l. Reordered (p ∷ others) (others ++ l)) (sym shape) (to_back unit report V Covers Has f choices p others))) h
      (take_next choices drawn (others ++ ps)) (members_taken choices drawn (others ++ ps))

  tested_few : (n : ℕ) (s t : Processes) (marks : List Name) (p : Name) (others : List Name) (drawn : ℕ) (quiet : Bool) (next : Next) (more : Rest) →
      step unit s p ≡ went t next quiet → Shaped p (went t next quiet) → Marks unit s p (went t next quiet) → AreIdle unit t (marked quiet p marks) →
      Goes n s p others → RestFew more → moves_after choices more p others marks drawn (went t next quiet) ≤ n
  tested_few n s t marks p others drawn false next more e shape m i g h = next_few n s t [] p others drawn false next more e shape m i g h
  tested_few n s t marks p others drawn true next more e shape m i g h = go (all_marked (p ∷ marks) (p ∷ others))
    where
      go : (b : Bool) → (if b then 0 else moves_next choices (more t (p ∷ marks)) p others drawn true next) ≤ n
      go true = omega arith
      go false = next_few n s t (p ∷ marks) p others drawn true next more e shape m i g h

  stepped_few : (n : ℕ) (s : Processes) (marks : List Name) (p : Name) (others : List Name) (drawn : ℕ) (x : Stepped) (more : Rest) →
      step unit s p ≡ x → Shaped p x → Marks unit s p x → AreIdle unit s marks → Goes n s p others → RestFew more →
      moves_after choices more p others marks drawn x ≤ n
  stepped_few n s marks p others drawn (ended ending system turns) more e shape m i g h = omega arith
  stepped_few n s marks p others drawn (went t next quiet) more e shape m i g h =
      tested_few n s t marks p others drawn quiet next more e shape m (marks_after unit s t p marks quiet next m i) g h

  pub all_few : (steps : ℕ) → RestFew (moves unit choices steps)
  all_few zero n s marks p others drawn i g = omega arith
  all_few (suc steps) n s marks p others drawn i g =
      stepped_few n s marks p others drawn (step unit s p) (moves unit choices steps) refl (step_shaped unit s p) (step_marked unit s p) i g (all_few steps)

-- the law
pub followed_fewer : (unit : ProgramUnit) (system : State) (report : Report) (V : Type 0)
    (Covers : V → Processes → List Name → Type 0) (Has : ℕ → V → Type 0) (v : V) (most : ℕ) → Followed unit report V Covers Has →
    ((w : V) → Has zero w → ⊥) → BeginsWith unit system V Covers v → Has most v → MakeFewer most unit system
followed_fewer unit system report V Covers Has v zero f none b h bound choices steps = absurd (none v h)
followed_fewer unit system report V Covers Has v (suc most) f none b h bound choices steps =
    let r : moves unit choices steps (start unit system bound) [] [] [] 0 ≤ most =
    all_few unit report V Covers Has f none choices steps most (start unit system bound) [] [] [] 0
    (λ m i. let a : false ≡ true = i in absurd (cc))
    (begins unit report V Covers Has f choices most (start unit system bound) [] [] (record { by = v; has_it = h; covers = b bound })) in
    omega (arith, r)
