-- The moves of an execution are those of the run of its code: a walk over the selection, beside which the machine goes.
use Rattle.std.proofs.Common.{◌≡◌, ℕ, zero, suc, inl, Bool, true, false, if◌then◌else◌, List, [], ◌∷◌, ◌++◌, length, refl, sym, ap, subst, ◌∙◌}
use Rattle.edi_calls.specs.Choice.{Choices}
use Rattle.edi_calls.specs.Names.{Name}
use Rattle.edi_calls.specs.Outcome as outcome
use Rattle.edi_calls.specs.Outcome.{Ending}
use Rattle.edi_calls.specs.Ready.{Next, stays, joins, Taking, nobody, taking, take_next}
use Rattle.edi_calls.specs.State.{State, Traced}
use Rattle.edi_meaning.specs.Step as source
use Rattle.edi_meaning.specs.Step.{Processes}
use Rattle.edi_meaning.specs.Select as selection
use Rattle.edi_meaning.specs.Select.{finished, marked, is_standstill, select}
use Rattle.edi_meaning.proofs.Sound.{EachTaken, each_next}
use Rattle.edi_meaning.proofs.Selections.{stepped_before}
use Rattle.edi_target.specs.Fetch.{fetch}
use Rattle.edi_target.specs.Mach as target
use Rattle.edi_target.specs.Mach.{Machine}
use Rattle.edi_target.specs.Moments.{news_at}
use Rattle.edi_scheme.specs.Code.{code_of}
use Rattle.edi_follows.specs.places.Coded.{Coded}
use Rattle.edi_follows.specs.places.Related.{Related, Kept, MayStep}
use Rattle.edi_follows.specs.places.Lands.{Passes, EndsSo, LandsNext, LandsTested, Lands, Taken, StepClaim, StepsQueue, QueueAfter, StartClaim, Begins, BeginsNot}
use Rattle.edi_follows.proofs.Whole.{steps, starts}
use Rattle.edi_follows.proofs.kernel.Meaning.{steps_queue}
use Rattle.edi_explored.specs.Moves.{counted, moves_on, moves_next, moves_after, moves, moves_of}
use Rattle.edi_explored.specs.machine.Counted.{is_marked, moved_after, moved, MovesAreCounted}
use Rattle.edi_explored.proofs.machine.Coding.{coded}
use Rattle.edi_explored.proofs.machine.Counted.{moved_once}

-- the last step marks its process exactly where it is quiet
is_quiet : (quiet : Bool) (p : Name) (marks : List Name) → is_marked (marked quiet p marks) ≡ quiet
is_quiet true p marks = refl
is_quiet false p marks = refl

module _ (g : Coded) (choices : Choices) where
  abbrev Run : ℕ → Machine → Name → List Name → ℕ → target.MachineRun
  Run j t p others drawn = target.run g.fetched choices j t p others drawn

  abbrev Moved : ℕ → Machine → Name → List Name → ℕ → ℕ
  Moved j t p others drawn = moved g.fetched choices j t p others drawn

  abbrev none : ℕ → Type 0
  none a = ⊥

  -- the run from here ends, after so many moves
  pub record Counts (t : Machine) (p : Name) (others : List Name) (drawn count : ℕ) : Type 0 where
    pub steps : ℕ
    pub ending : Ending
    pub machine : Machine
    pub last : ℕ
    pub ends : Run steps t p others drawn ≡ target.finished ending machine last
    pub counts : Moved steps t p others drawn ≡ count

  passed : (k : ℕ) (t : Machine) (past : List State) (p : Name) (others : List Name) (u : Machine) (now : List State) (drawn count : ℕ) →
      Passes g none k t past p others u now → Counts u p others drawn count → Counts t p others drawn count
  passed zero t past p others u now drawn count h c = subst (λ x. Counts x p others drawn count) (sym h.0) c
  passed (suc k) t past p others u now drawn count h c =
      let r = passed k h.0 (news_at g.fetched t p ++ past) p others u now drawn count h.3 c in
      record {
        steps = suc r.steps;
        ending = r.ending;
        machine = r.machine;
        last = r.last;
        ends = ap (target.after_step choices (target.run g.fetched choices r.steps) p others drawn) h.1 ∙ r.ends;
        counts = ap (moved_after choices (moved g.fetched choices r.steps) p others drawn) h.1 ∙ r.counts;
      }

  -- what the run comes to ends in no move
  ends_so : (t : Machine) (past : List State) (p : Name) (others : List Name) (drawn : ℕ) (ending : Ending) (system : Traced) (turns : ℕ) →
      EndsSo g none t past p others ending system turns → Counts t p others drawn 0
  ends_so t past p others drawn ending system turns h =
      passed h.steps t past p others h.before h.since drawn 0 h.passes (record {
        steps = 1;
        ending = ending;
        machine = h.machine;
        last = drawn;
        ends = ap (target.after_step choices (target.run g.fetched choices 0) p others drawn) h.is;
        counts = ap (moved_after choices (moved g.fetched choices 0) p others drawn) h.is;
      })

  -- the next is taken
  pub record CountsOn (u : Machine) (drawn : ℕ) (x : Taking) (count : ℕ) : Type 0 where
    pub steps : ℕ
    pub ending : Ending
    pub machine : Machine
    pub last : ℕ
    pub ends : target.go_on x (target.run g.fetched choices steps u) u drawn ≡ target.finished ending machine last
    pub counts : moves_on x (moved g.fetched choices steps u) ≡ count

  module _ (claim : StepClaim g) (queues : StepsQueue) where
    -- at most n steps of the meaning
    abbrev Main : ℕ → Type 0
    Main n =
        (s : Processes) (t : Machine) (p : Name) (others marks : List Name) (drawn : ℕ) → Taken g s t p others marks →
        (ending : Ending) (end : Traced) (turns d : ℕ) (order : List Name) → select g.unit choices n s marks p others drawn
        ≡ finished ending end turns d order → Counts t p others drawn (moves g.unit choices (length order) s marks p others drawn)

    module _ (n : ℕ) (main : Main n) (t : Machine) (past : List State) (p : Name) (others marks : List Name) (drawn : ℕ) (ending : Ending) (end : Traced)
        (turns d : ℕ) (order : List Name) where
      taken_on : (s : Processes) (u : Machine) (x : Taking) → Related g s u → Kept s u → u.marks ≡ marks → EachTaken (MayStep s) x →
          selection.go_on x (select g.unit choices n s marks) s drawn ≡ finished ending end turns d order →
          CountsOn u drawn x (moves_on x (moves g.unit choices (length order) s marks))
      taken_on s u nobody r k same q e = record { steps = 0; ending = outcome.standstill; machine = u; last = drawn; ends = refl; counts = refl }
      taken_on s u (taking z os c) r k same q e =
          let x = main s u z os marks c (record { related = r; kept = k; queue = q; marks_agree = inl same }) ending end turns d order e in
          record { steps = x.steps; ending = x.ending; machine = x.machine; last = x.last; ends = x.ends; counts = x.counts }

      next_counts : (s : Processes) (next : Next) (quiet : Bool) → is_marked marks ≡ quiet → LandsNext g none t past p others marks s next →
          QueueAfter p others (source.went s next quiet) →
          selection.after_next choices (select g.unit choices n s marks) s p others drawn next ≡ finished ending end turns d order →
          Counts t p others drawn (moves_next choices (moves g.unit choices (length order) s marks) p others drawn quiet next)
      next_counts s stays quiet is h q e =
          passed h.steps t past p others h.machine s.world.system.past drawn (moves g.unit choices (length order) s marks p others drawn) h.passes
          (main s h.machine p others marks drawn (record { related = h.related; kept = h.kept; queue = q; marks_agree = h.marks_agree }) ending end turns d order e)
      next_counts s (joins ps) quiet is h q e =
          let x : Taking = take_next choices drawn (others ++ ps) in
          let r : CountsOn h.machine drawn x (moves_on x (moves g.unit choices (length order) s marks)) =
          taken_on s h.machine x h.related h.kept h.same_marks (each_next (MayStep s) choices drawn (others ++ ps) q) e in
          let quiet_is : is_marked h.machine.marks ≡ quiet = ap is_marked h.same_marks ∙ is in
          passed h.steps t past p others h.before h.since drawn (counted quiet (moves_on x (moves g.unit choices (length order) s marks))) h.passes (record {
            steps = suc r.steps;
            ending = r.ending;
            machine = r.machine;
            last = r.last;
            ends = ap (target.after_step choices (target.run g.fetched choices r.steps) p others drawn) h.is ∙ r.ends;
            counts = ap (moved_after choices (moved g.fetched choices r.steps) p others drawn) h.is ∙ (λ i. counted (quiet_is i) (r.counts i));
          })

      tested_counts : (b : Bool) (s : Processes) (next : Next) (quiet : Bool) → is_marked marks ≡ quiet → LandsTested g none b t past p others marks s next →
          QueueAfter p others (source.went s next quiet) →
          (if b then finished outcome.standstill s.world.system s.world.turns drawn [] else selection.after_next choices
          (select g.unit choices n s marks) s p others drawn next) ≡ finished ending end turns d order →
          Counts t p others drawn (if b then 0 else moves_next choices (moves g.unit choices (length order) s marks) p others drawn quiet next)
      tested_counts true s next quiet is h q e = ends_so t past p others drawn outcome.standstill s.world.system s.world.turns h.ends
      tested_counts false s next quiet is h q e = next_counts s next quiet is h q e

    step_counts : (n : ℕ) → Main n → (t : Machine) (past : List State) (p : Name) (others marks : List Name) (drawn : ℕ) (ending : Ending) (end : Traced)
        (turns d : ℕ) (order : List Name) (x : source.Stepped) →
        Lands g none t past p others marks x → QueueAfter p others x → selection.after_step choices
        (select g.unit choices n) p others marks drawn x ≡ finished ending end turns d order →
        Counts t p others drawn (moves_after choices (moves g.unit choices (length order)) p others marks drawn x)
    step_counts n main t past p others marks drawn ending end turns d order (source.ended e system left) h q f =
        ends_so t past p others drawn e system left h
    step_counts n main t past p others marks drawn ending end turns d order (source.went s next quiet) h q f =
        tested_counts n main t past p others (marked quiet p marks) drawn ending end turns d order
        (is_standstill quiet (marked quiet p marks) (p ∷ others)) s next quiet (is_quiet quiet p marks) h q f

    pub main : (n : ℕ) → Main n
    main zero s t p others marks drawn k ending end turns d order e = absurd (cc)
    main (suc n) s t p others marks drawn k ending end turns d order e =
        let before : (rest : List Name) ×
        (selection.after_step choices (select g.unit choices n) p others marks drawn (source.step g.unit s p) ≡ finished ending end turns d rest)
        × (p ∷ rest ≡ order) =
        stepped_before p (selection.after_step choices (select g.unit choices n) p others marks drawn (source.step g.unit s p)) ending end turns d order e in
        subst (λ (o : List Name). Counts t p others drawn (moves g.unit choices (length o) s marks p others drawn)) before.2
        (step_counts n (main n) t s.world.system.past p others marks drawn ending end turns d before.0 (source.step g.unit s p)
        (claim none s t p others marks k (λ a x y. x)) (queues g.unit s p others k.kept.coherent k.queue) before.1)

-- ---- from the start

module _ (g : Coded) (claim : StepClaim g) (start : StartClaim g) (queues : StepsQueue) where
  -- a run of the code ends after so many moves
  pub record CodeCounts (system : State) (bound : ℕ) (choices : Choices) (count : ℕ) : Type 0 where
    pub steps : ℕ
    pub ending : Ending
    pub machine : Machine
    pub last : ℕ
    pub ends : target.after_step choices (target.run g.fetched choices steps) [] [] 0 (target.entered (g.fetched 0) 0 g.unit.calls bound system)
        ≡ target.finished ending machine last
    pub counts : moved_after choices (moved g.fetched choices steps) [] [] 0 (target.entered (g.fetched 0) 0 g.unit.calls bound system) ≡ count

  first_counts : (n : ℕ) (choices : Choices) (system : State) (bound : ℕ) (ending : Ending) (end : Traced) (turns drawn : ℕ) (order : List Name) →
      selection.after_step choices (select g.unit choices n) [] [] [] 0 (source.step g.unit (source.start g.unit system bound) [])
      ≡ finished ending end turns drawn order → CodeCounts system bound choices (moves_of g.unit system bound choices (suc (length order)))
  first_counts n choices system zero ending end turns drawn order e =
      let b : BeginsNot g system = start.begins_not system in
      record {
        steps = 0;
        ending = outcome.turns;
        machine = b.machine;
        last = 0;
        ends = ap (target.after_step choices (target.run g.fetched choices 0) [] [] 0) b.entered;
        counts = ap (moved_after choices (moved g.fetched choices 0) [] [] 0) b.entered;
      }
  first_counts n choices system (suc k) ending end turns drawn order e =
      let b : Begins g system k = start.begins system k in
      let r : Counts g choices b.machine [] [] 0 (moves g.unit choices (length order) b.state [] [] [] 0) =
      main g choices claim queues n b.state b.machine [] [] [] 0 b.taken ending end turns drawn order
      (sym (ap (selection.after_step choices (select g.unit choices n) [] [] [] 0) b.stepped) ∙ e) in
      record {
        steps = r.steps;
        ending = r.ending;
        machine = r.machine;
        last = r.last;
        ends = ap (target.after_step choices (target.run g.fetched choices r.steps) [] [] 0) b.entered ∙ r.ends;
        counts = ap (moved_after choices (moved g.fetched choices r.steps) [] [] 0) b.entered ∙ r.counts
            ∙ sym (ap (moves_after choices (moves g.unit choices (length order)) [] [] [] 0) b.stepped);
      }

  pub code_counts : (system : State) (bound : ℕ) (choices : Choices) (ending : Ending) (end : Traced) (turns drawn : ℕ) (order : List Name) →
      selection.Ends g.unit system bound choices ending end turns drawn order → CodeCounts system bound choices (moves_of g.unit system bound choices (length order))
  code_counts system bound choices ending end turns drawn order e = go e.0 e.1
    where
      go : (n : ℕ) → selection.select_from_start g.unit system bound choices n ≡ finished ending end turns drawn order →
          CodeCounts system bound choices (moves_of g.unit system bound choices (length order))
      go zero h = absurd (cc)
      go (suc n) h =
          let before : (rest : List Name) ×
          (selection.after_step choices (select g.unit choices n) [] [] [] 0 (source.step g.unit (source.start g.unit system bound) [])
          ≡ finished ending end turns drawn rest) × ([] ∷ rest ≡ order) =
          stepped_before [] (selection.after_step choices (select g.unit choices n) [] [] [] 0
          (source.step g.unit (source.start g.unit system bound) [])) ending end turns drawn order h in
          subst (λ (o : List Name). CodeCounts system bound choices (moves_of g.unit system bound choices (length o))) before.2
          (first_counts n choices system bound ending end turns drawn before.0 before.1)

-- THE LAW: both runs are one, and so are their moves
pub moves_are_counted : MovesAreCounted
moves_are_counted unit c code is system bound choices ending m drawn count h meant end turns number order e =
    let g : Coded = coded unit c in
    let r = code_counts g (steps g) (starts g) steps_queue system bound choices meant end turns number order e in
    let as_code : (target.after_step choices (target.run (fetch (code_of unit)) choices h.steps) [] [] 0
    (target.entered (fetch (code_of unit) 0) 0 unit.calls bound system) ≡ target.finished ending m drawn)
    × (moved_after choices (moved (fetch (code_of unit)) choices h.steps) [] [] 0 (target.entered (fetch (code_of unit) 0) 0 unit.calls bound system) ≡ count) =
    subst (λ x. x) (λ i. (target.after_step choices (target.run (fetch (is.words i)) choices h.steps) [] [] 0
    (target.entered (fetch (is.words i) (is.entry i)) (is.entry i) (is.calls i) bound system) ≡ target.finished ending m drawn)
    × (moved_after choices (moved (fetch (is.words i)) choices h.steps) [] [] 0
    (target.entered (fetch (is.words i) (is.entry i)) (is.entry i) (is.calls i) bound system) ≡ count)) (h.ends, h.counts) in
    sym r.counts ∙ moved_once (fetch (code_of unit)) choices (target.entered (fetch (code_of unit) 0) 0 unit.calls bound system) [] [] 0 r.steps h.steps
    r.ending ending r.machine m r.last drawn r.ends as_code.0 ∙ as_code.1
