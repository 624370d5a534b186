-- The states of the past are those of the moments.
use Rattle.std.proofs.Common.{◌≡◌, ℕ, zero, suc, ◌⊎◌, inl, inr, List, [], ◌∷◌, ◌++◌, length, Option, Some, None, refl, sym, subst, ap, ◌∙◌, arith}
use Rattle.std.specs.Prelude.{Contains}
use Rattle.std.proofs.lemmas.List.Elements.{Contains-append_cases}
use Rattle.edi_calls.specs.Calls.{CallResult, answered, no_file, file_limit, call}
use Rattle.edi_calls.specs.Choice.{Choices}
use Rattle.edi_calls.specs.Names.{Name, find}
use Rattle.edi_calls.specs.Ready.{stays, joins, Taking, nobody, taking, take_next}
use Rattle.edi_calls.specs.Laws.{IsSameOutside}
use Rattle.edi_calls.specs.State.{State, moments_of, newest}
use Rattle.edi_calls.proofs.Parts.{done_by, torn_is_before_or_behind_all}
use Rattle.edi_machine.specs.Steps.{Tears}
use Rattle.edi_target.specs.Op.{Instruction}
use Rattle.edi_target.specs.Check.{CodeParts}
use Rattle.edi_target.specs.Fetch as target
use Rattle.edi_target.specs.Effect.{Local, Turn, Effect, goes, released, asks, due, fails, bad}
use Rattle.edi_target.specs.Mach.{Running, Answer, on, behind, turned, over, called, turn_from, settled, effect_at, local_step, Activity, Machine, Stepped}
use Rattle.edi_target.specs.Mach.{went, ended, running_of, kernel, is_first, step_of, step, entered}
use Rattle.edi_target.specs.Moments.{news_of_call, news_of_effect, news_from, news_at, history_on, history_after, history, ComesThrough}
use Rattle.edi_target.proofs.Histories.{Has, newest_again, step_has, entered_has}
use Rattle.edi_kernel.specs.Moments.{Moment, moment_on, moment_after, moment}
use Rattle.edi_kernel.specs.Passed.{past_at, MomentIsNewest, MomentAdds, PastIsOfMoments, FaultIsMoment, IsFailedCall, FaultIsCall}
use Rattle.edi_kernel.specs.Runs.{FailsIn}
use Rattle.edi_trace.specs.Drawn.{Drawn}

-- ---- where an instruction adds a state, the run goes on in it

abbrev AnswerTells : List State → Answer → Type 0
AnswerTells news (on r) = (s : State) → Contains news s → r.system ≡ s
AnswerTells news (behind r) = news ≡ []
AnswerTells news (turned kind r) = news ≡ []
AnswerTells news (over ending r) = news ≡ []

abbrev Tells : List State → Stepped → Type 0
Tells news (ended ending m) = news ≡ []
Tells news (went m stays) = (s : State) → Contains news s → m.system ≡ s
Tells news (went m (joins ps)) = news ≡ []

one_of : (x s : State) → Contains (x ∷ []) s → x ≡ s
one_of x s (zero, l, e) = e
one_of x s (suc k, l, e) = absurd (omega (arith, l))

none_of : {A : Type 0} (s : State) → Contains [] s → A
none_of s c = absurd (omega (arith, c.1))

call_tells : (result : CallResult) (address : Option ℕ) (line : ℕ) (l : Local) (r : Running) → AnswerTells (news_of_call result)
    (called result address line l r)
call_tells (answered words system) address line l r = λ s c. one_of system s c
call_tells no_file address line l r = refl
call_tells file_limit address line l r = refl

turn_tells : (n : ℕ) (kind : Turn) (l : Local) (r : Running) → AnswerTells [] (turn_from n kind l r)
turn_tells zero kind l r = refl
turn_tells (suc n) kind l r = refl

settled_tells : (e : Effect) (r : Running) → AnswerTells (news_of_effect e r.system) (settled e r)
settled_tells (goes l) r = λ s c. none_of s c
settled_tells (released l) r = refl
settled_tells (asks number arguments address line l) r = call_tells (call number arguments r.system) address line l r
settled_tells (due kind l) r = turn_tells r.turns kind l r
settled_tells (fails c line) r = refl
settled_tells bad r = refl

-- nothing is added
nothing : (news : List State) (x : Stepped) → news ≡ [] → Tells news x
nothing news (ended ending m) e = e
nothing news (went m stays) e = λ s c. none_of s (subst (λ y. Contains y s) e c)
nothing news (went m (joins ps)) e = e

kernel_tells : (m : Machine) (p : Name) (others : List Name) (a : Activity) (answer : Answer) (news : List State) → AnswerTells news answer
    → Tells news (kernel m p others a answer)
kernel_tells m p others a (on r) news h = h
kernel_tells m p others a (behind r) news h = nothing news (kernel m p others a (behind r)) h
kernel_tells m p others a (turned kind r) news h = nothing news (kernel m p others a (turned kind r)) h
kernel_tells m p others a (over ending r) news h = h

module _ (fetch : ℕ → Option (Instruction × ℕ)) where
  step_of_tells : (m : Machine) (p : Name) (others : List Name) (a : Option Activity) → Tells (news_from fetch m p a) (step_of fetch m p others a)
  step_of_tells m p others None = refl
  step_of_tells m p others (Some a) =
      kernel_tells m p others a (local_step fetch (length m.activities) (is_first p) (running_of m a)) _
      (settled_tells (effect_at fetch (fetch a.pc) (length m.activities) (is_first p) (running_of m a).local) (running_of m a))

  step_tells : (m : Machine) (p : Name) (others : List Name) → Tells (news_at fetch m p) (step fetch m p others)
  step_tells m p others = step_of_tells m p others (find m.activities p)

  module _ (choices : Choices) where
    -- ---- the system at a moment

    taken_newest : (first : State) (t : Taking) (n : ℕ) (m : Machine) (past : List State) (x : Moment) → newest first past ≡ m.system →
        ((p : Name) (others : List Name) (d : ℕ) → moment fetch choices n m p others d ≡ Some x → newest first (history fetch choices n m p others d past)
        ≡ x.machine.system) →
        moment_on t (moment fetch choices n m) ≡ Some x → newest first (history_on t (λ q os d. history fetch choices n m q os d past) past) ≡ x.machine.system
    taken_newest first nobody n m past x is each e = absurd (cc)
    taken_newest first (taking p others d) n m past x is each e = each p others d e

    stepped_newest : (first : State) (s : Stepped) (n : ℕ) (p : Name) (others : List Name) (drawn : ℕ) (past : List State) (x : Moment)
        → Has (newest first past) s →
        ((m : Machine) (p : Name) (others : List Name) (d : ℕ) → newest first past ≡ m.system → moment fetch choices n m p others d ≡ Some x
        → newest first (history fetch choices n m p others d past) ≡ x.machine.system) →
        moment_after choices (moment fetch choices n) p others drawn s ≡ Some x
        → newest first (history_after choices (history fetch choices n) p others drawn past s) ≡ x.machine.system
    stepped_newest first (ended ending m) n p others drawn past x is each e = absurd (cc)
    stepped_newest first (went m stays) n p others drawn past x is each e = each m p others drawn (sym is) e
    stepped_newest first (went m (joins ps)) n p others drawn past x is each e =
        taken_newest first (take_next choices drawn (others ++ ps)) n m past x (sym is) (λ q os d f. each m q os d (sym is) f) e

    moment_newest : (first : State) (n : ℕ) (m : Machine) (p : Name) (others : List Name) (drawn : ℕ) (past : List State) (x : Moment)
        → newest first past ≡ m.system → moment fetch choices n m p others drawn ≡ Some x →
        newest first (history fetch choices n m p others drawn past) ≡ x.machine.system
    moment_newest first zero m p others drawn past x is e = let same : m ≡ x.machine = (cc) in is ∙ ap (λ (y : Machine). y.system) same
    moment_newest first (suc n) m p others drawn past x is e =
        let now : newest first (news_at fetch m p ++ past) ≡ newest m.system (news_at fetch m p) =
        newest_again first (news_at fetch m p) past ∙ ap (λ s. newest s (news_at fetch m p)) is in
        stepped_newest first (step fetch m p others) n p others drawn (news_at fetch m p ++ past) x
        (subst (λ s. Has s (step fetch m p others)) (sym now) (step_has fetch m p others))
        (λ m' q os d f g. moment_newest first n m' q os d (news_at fetch m p ++ past) x f g) e

    -- ---- what is added there

    ended_adds : (s : Stepped) (p : Name) (others : List Name) (drawn : ℕ) (past : List State) → history_after choices (history fetch choices zero) p others
        drawn past s ≡ past
    ended_adds (ended ending m) p others drawn past = refl
    ended_adds (went m stays) p others drawn past = refl
    ended_adds (went m (joins ps)) p others drawn past = go (take_next choices drawn (others ++ ps))
      where
        go : (t : Taking) → history_on t (λ q os d. past) past ≡ past
        go nobody = refl
        go (taking q os d) = refl

    abbrev Adds : ℕ → Moment → Machine → Name → List Name → ℕ → List State → Type 0
    Adds n x m p others drawn past = history fetch choices (suc n) m p others drawn past ≡ news_at fetch x.machine x.name ++ history fetch choices n m p
        others drawn past

    taken_adds : (t : Taking) (n : ℕ) (m : Machine) (past : List State) (x : Moment)
        → ((p : Name) (others : List Name) (d : ℕ) → moment fetch choices n m p others d ≡ Some x → Adds n x m p others d past)
        → moment_on t (moment fetch choices n m) ≡ Some x →
        history_on t (λ q os d. history fetch choices (suc n) m q os d past) past ≡ news_at fetch x.machine x.name
        ++ history_on t (λ q os d. history fetch choices n m q os d past) past
    taken_adds nobody n m past x each e = absurd (cc)
    taken_adds (taking p others d) n m past x each e = each p others d e

    stepped_adds : (s : Stepped) (n : ℕ) (p : Name) (others : List Name) (drawn : ℕ) (past : List State) (x : Moment)
        → ((m : Machine) (p : Name) (others : List Name) (d : ℕ) → moment fetch choices n m p others d ≡ Some x → Adds n x m p others d past) →
        moment_after choices (moment fetch choices n) p others drawn s ≡ Some x →
        history_after choices (history fetch choices (suc n)) p others drawn past s ≡ news_at fetch x.machine x.name
        ++ history_after choices (history fetch choices n) p others drawn past s
    stepped_adds (ended ending m) n p others drawn past x each e = absurd (cc)
    stepped_adds (went m stays) n p others drawn past x each e = each m p others drawn e
    stepped_adds (went m (joins ps)) n p others drawn past x each e = taken_adds (take_next choices drawn (others ++ ps)) n m past x
        (λ q os d f. each m q os d f) e

    moment_adds : (n : ℕ) (m : Machine) (p : Name) (others : List Name) (drawn : ℕ) (past : List State) (x : Moment) → moment fetch choices n m p others drawn
        ≡ Some x → Adds n x m p others drawn past
    moment_adds zero m p others drawn past x e =
        let machine : m ≡ x.machine = (cc) in
        let name : p ≡ x.name = (cc) in
        ended_adds (step fetch m p others) p others drawn (news_at fetch m p ++ past) ∙ (λ i. news_at fetch (machine i) (name i) ++ past)
    moment_adds (suc n) m p others drawn past x e =
        stepped_adds (step fetch m p others) n p others drawn (news_at fetch m p ++ past) x
        (λ m' q os d f. moment_adds n m' q os d (news_at fetch m p ++ past) x f) e

    -- ---- where the states of a past come from

    abbrev Comes : State → Machine → Name → List Name → ℕ → Type 0
    Comes s m p others drawn = (k : ℕ) × (x : Moment) × (moment fetch choices k m p others drawn ≡ Some x) × (x.machine.system ≡ s)

    abbrev Later : State → Name → List Name → ℕ → Stepped → Type 0
    Later s p others drawn x = (k : ℕ) × (y : Moment) × (moment_after choices (moment fetch choices k) p others drawn x ≡ Some y) × (y.machine.system ≡ s)

    taken_comes : (t : Taking) (n : ℕ) (m : Machine) (past : List State) (s : State)
        → ((p : Name) (others : List Name) (d : ℕ) → Contains (history fetch choices n m p others d past) s → Contains past s ⊎ Comes s m p others d) →
        Contains (history_on t (λ q os d. history fetch choices n m q os d past) past) s → Contains past s
        ⊎ ((k : ℕ) × (x : Moment) × (moment_on t (moment fetch choices k m) ≡ Some x) × (x.machine.system ≡ s))
    taken_comes nobody n m past s each c = inl c
    taken_comes (taking p others d) n m past s each c = each p others d c

    stepped_comes : (x : Stepped) (n : ℕ) (p : Name) (others : List Name) (drawn : ℕ) (past : List State) (s : State) →
        ((m : Machine) (p : Name) (others : List Name) (d : ℕ) → Contains (history fetch choices n m p others d past) s → Contains past s
        ⊎ Comes s m p others d) →
        Contains (history_after choices (history fetch choices n) p others drawn past x) s → Contains past s ⊎ Later s p others drawn x
    stepped_comes (ended ending m) n p others drawn past s each c = inl c
    stepped_comes (went m stays) n p others drawn past s each c = each m p others drawn c
    stepped_comes (went m (joins ps)) n p others drawn past s each c = taken_comes (take_next choices drawn (others ++ ps)) n m past s
        (λ q os d f. each m q os d f) c

    at_news : (x : Stepped) (p : Name) (others : List Name) (drawn : ℕ) (news : List State) (s : State) → Tells news x → Contains news s
        → Later s p others drawn x
    at_news (ended ending m) p others drawn news s h c = none_of s (subst (λ y. Contains y s) h c)
    at_news (went m stays) p others drawn news s h c = (0, record { machine = m; name = p; others = others; drawn = drawn }, refl, h s c)
    at_news (went m (joins ps)) p others drawn news s h c = none_of s (subst (λ y. Contains y s) h c)

    history_comes : (n : ℕ) (m : Machine) (p : Name) (others : List Name) (drawn : ℕ) (past : List State) (s : State)
        → Contains (history fetch choices n m p others drawn past) s → Contains past s ⊎ Comes s m p others drawn
    history_comes zero m p others drawn past s c = inl c
    history_comes (suc n) m p others drawn past s c =
        elim (stepped_comes (step fetch m p others) n p others drawn (news_at fetch m p ++ past) s
        (λ m' q os d f. history_comes n m' q os d (news_at fetch m p ++ past) s f) c) [
          | inl h ↦ elim (Contains-append_cases (news_at fetch m p) past s h)
              [ inl y ↦ inr (later (at_news (step fetch m p others) p others drawn (news_at fetch m p) s (step_tells m p others) y)) | inr y ↦ inl y ]
          | inr h ↦ inr (later h)
        ]
      where
        later : Later s p others drawn (step fetch m p others) → Comes s m p others drawn
        later h = (suc h.0, h.1, h.2, h.3)

-- ---- from the start

module _ (code : CodeParts) (system : State) (bound : ℕ) (choices : Choices) (before : ℕ) where
  abbrev Started : Stepped
  Started = entered (target.fetch code.words code.entry) code.entry code.calls bound system

  pub moment_is_newest : MomentIsNewest code system bound choices before
  moment_is_newest n x e =
      stepped_newest (target.fetch code.words) choices system Started n [] [] before [] x
      (entered_has (target.fetch code.words code.entry) code.entry code.calls bound system)
      (λ m q os d f g. moment_newest (target.fetch code.words) choices system n m q os d [] x f g) e

  pub moment_adds_news : MomentAdds code system bound choices before
  moment_adds_news n x e = stepped_adds (target.fetch code.words) choices Started n [] [] before [] x
      (λ m q os d f. moment_adds (target.fetch code.words) choices n m q os d [] x f) e

  pub past_is_of_moments : PastIsOfMoments code system bound choices before
  past_is_of_moments n s c = elim (Contains-append_cases (past_at code system bound choices before n) (system ∷ []) s c) [
    | inl h ↦ elim (stepped_comes (target.fetch code.words) choices Started n [] [] before [] s
        (λ m q os d f. history_comes (target.fetch code.words) choices n m q os d [] s f) h) [
          | inl y ↦ none_of s y
          | inr y ↦ inr y
        ]
    | inr h ↦ inl (sym (one_of system s h))
  ]

-- ---- a fault

newest_among : (first : State) (past : List State) → Contains (moments_of first past) (newest first past)
newest_among first [] = (0, omega arith, refl)
newest_among first (s ∷ past) = (0, omega arith, refl)

first_among : (first s : State) (past : List State) → Contains (moments_of first (s ∷ past)) s
first_among first s past = (0, omega arith, refl)

-- answered, the call that failed would add the state that it leaves
answered_adds : (code : CodeParts) (system : State) (bound : ℕ) (old new : Drawn) (used : ℕ) (now : State) (f : FailsIn code system bound old used now new)
    (words : List ℕ) (next : State) → call f.fails.number f.fails.arguments f.at.machine.system ≡ answered words next
    → past_at code system bound old.source old.drawn (suc f.steps) ≡ next ∷ past_at code system bound old.source old.drawn f.steps
answered_adds code system bound old new used now f words next is =
    moment_adds_news code system bound old.source old.drawn f.steps f.at f.is
    ∙ ap (λ x. x ++ past_at code system bound old.source old.drawn f.steps)
    (ap (news_from (target.fetch code.words) f.at.machine f.at.name) f.fails.found
    ∙ ap (λ e. news_of_effect e f.at.machine.system) f.fails.effect
    ∙ ap news_of_call is)

pub fault_is_moment : FaultIsMoment
fault_is_moment code system bound old new used now f = go (call f.fails.number f.fails.arguments m.system) refl f.fails.tears
  where
    m : Machine
    m = f.at.machine

    past : List State
    past = past_at code system bound old.source old.drawn f.steps

    before : ComesThrough (target.fetch code.words) code.entry code.calls system bound old.source old.drawn m.system
    before = (
      f.steps,
      subst (Contains (moments_of system (past_at code system bound old.source old.drawn f.steps)))
          (moment_is_newest code system bound old.source old.drawn f.steps f.at f.is)
          (newest_among system (past_at code system bound old.source old.drawn f.steps)),
    )

    behind : (words : List ℕ) (next : State) → call f.fails.number f.fails.arguments m.system ≡ answered words next → ComesThrough (target.fetch code.words)
        code.entry code.calls system bound old.source old.drawn next
    behind words next is = (
      suc f.steps,
      subst (λ x. Contains (moments_of system x) next)
          (sym (answered_adds code system bound old new used now f words next is))
          (first_among system next (past_at code system bound old.source old.drawn f.steps)),
    )

    go : (r : CallResult) → call f.fails.number f.fails.arguments m.system ≡ r → Tears r m.system now →
        (moment : State) × ComesThrough (target.fetch code.words) code.entry code.calls system bound old.source old.drawn moment × IsSameOutside moment now
    go (answered words next) is torn = elim (torn_is_before_or_behind_all f.fails.number f.fails.arguments words m.system next now is torn) [
      | inl same ↦ (m.system, before, same)
      | inr same ↦ (next, behind words next is, same.1)
    ]
    go no_file is torn = absurd torn
    go file_limit is torn = absurd torn

pub fault_is_call : FaultIsCall
fault_is_call code system bound old new used now f outside uses_it = go (call f.fails.number f.fails.arguments m.system) refl f.fails.tears
  where
    m : Machine
    m = f.at.machine

    past : ℕ → List State
    past n = past_at code system bound old.source old.drawn n

    go : (r : CallResult) → call f.fails.number f.fails.arguments m.system ≡ r → Tears r m.system now → (n : ℕ) × IsFailedCall outside system (past n) now
    go (answered words next) is torn = (
      suc f.steps,
      record {
        before = m.system;
        next = next;
        follows = record {
          later = [];
          earlier = past f.steps;
          is = answered_adds code system bound old new used now f words next is;
          last = moment_is_newest code system bound old.source old.drawn f.steps f.at f.is;
        };
        asks = record { number = f.fails.number; arguments = f.fails.arguments; answer = words; is = is; uses_it = uses_it };
        at = elim (torn_is_before_or_behind_all f.fails.number f.fails.arguments words m.system next now is torn) [
          | inl same ↦ inl same
          | inr same ↦ inr (done_by f.fails.number outside same.0 uses_it, same.1)
        ];
      },
    )
    go no_file is torn = absurd torn
    go file_limit is torn = absurd torn
