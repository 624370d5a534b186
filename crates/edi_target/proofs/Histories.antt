-- The past of the system along a run: it is determined, it grows, and its last state is the machine's.
use Rattle.std.proofs.Common.{◌≡◌, ℕ, zero, suc, ◌+◌, ◌-◌, ◌/◌, ◌≤◌, inl, inr, Bool, true, false, if◌then◌else◌, List, [], ◌∷◌, ◌++◌, length, Option, Some}
use Rattle.std.proofs.Common.{None, refl, sym, subst, ap, ◌∙◌, arith}
use Rattle.std.proofs.lemmas.Bool.{cases_lt}
use Rattle.std.specs.Prelude.{Contains}
use Rattle.std.proofs.lemmas.List.{append_assoc}
use Rattle.std.proofs.lemmas.List.Elements.{Contains-append_right}
use Rattle.edi_calls.specs.Calls.{CallResult, answered, no_file, file_limit, call}
use Rattle.edi_calls.specs.Choice.{Choices}
use Rattle.edi_calls.specs.Names.{Name, find, without}
use Rattle.edi_calls.specs.Outcome.{Ending}
use Rattle.edi_calls.specs.Ready.{child, parent_of, all_marked, stays, joins, Taking, nobody, taking, take_next}
use Rattle.edi_calls.specs.State.{State, moments_of, newest}
use Rattle.edi_target.specs.Op as op
use Rattle.edi_target.specs.Op.{Instruction, Branch}
use Rattle.edi_target.specs.Effect.{Local, Turn, entering, leaving, looping, arriving, again, forking, exiting, finishing, Effect, goes, released, asks, due}
use Rattle.edi_target.specs.Effect.{fails, bad}
use Rattle.edi_target.specs.Mach.{Running, Answer, on, behind, turned, over, called, turn_from, settled, effect_at, local_step, Standing, ready, at_when}
use Rattle.edi_target.specs.Mach.{waiting, Activity, Machine, Stepped, went, ended, running_of, activity_of, back, with_child, with_children, one_less}
use Rattle.edi_target.specs.Mach.{notified, at_turn, kernel, is_first, step_of, step, MachineRun, finished, go_on, after_step, run, entered}
use Rattle.edi_target.specs.Fetch as code
use Rattle.edi_target.proofs.Stands.{code_stands_below}
use Rattle.edi_target.proofs.Runs.{started_ends, same_end}
use Rattle.edi_target.specs.Moments.{news_of_call, news_of_effect, news_from, news_at, history_on, history_after, history, history_from_start, ComesThrough}
use Rattle.edi_target.specs.Pasts.{EndIsDetermined, ComesThroughItsPast, PastGrows, SystemIsNewest, EveryRunEndsThrough}

-- ---- more instructions behind the end add nothing

taken_same : (t : Taking) (one : Name → List Name → ℕ → MachineRun) (h k : Name → List Name → ℕ → List State) (m : Machine) (drawn : ℕ) (r : MachineRun)
    (past : List State) →
    ((p : Name) (others : List Name) (d : ℕ) → one p others d ≡ r → h p others d ≡ k p others d) → go_on t one m drawn ≡ r → history_on t h past ≡ history_on
    t k past
taken_same nobody one h k m drawn r past each e = refl
taken_same (taking p others d) one h k m drawn r past each e = each p others d e

stepped_same : (choices : Choices) (s : Stepped) (one : Machine → Name → List Name → ℕ → MachineRun)
    (h k : Machine → Name → List Name → ℕ → List State → List State) (p : Name) (others : List Name) (drawn : ℕ) (r : MachineRun) (past : List State) →
    ((m : Machine) (p : Name) (others : List Name) (d : ℕ) → one m p others d ≡ r → h m p others d past ≡ k m p others d past)
    → after_step choices one p others drawn s ≡ r → history_after choices h p others drawn past s ≡ history_after choices k p others drawn past s
stepped_same choices (ended ending m) one h k p others drawn r past each e = refl
stepped_same choices (went m stays) one h k p others drawn r past each e = each m p others drawn e
stepped_same choices (went m (joins ps)) one h k p others drawn r past each e =
    taken_same (take_next choices drawn (others ++ ps)) (one m) (λ q os d. h m q os d past) (λ q os d. k m q os d past) m drawn r past (each m) e

-- ---- what is added

abbrev Grown : List State → List State → Type 0
Grown past x = (news : List State) × (x ≡ news ++ past)

grown_all : (a b c : List State) → Grown a b → Grown b c → Grown a c
grown_all a b c h k = (k.0 ++ h.0, k.1 ∙ ap (λ y. k.0 ++ y) h.1 ∙ sym (append_assoc k.0 h.0 a))

taken_grown : (t : Taking) (h k : Name → List Name → ℕ → List State) (past : List State)
    → ((p : Name) (others : List Name) (d : ℕ) → Grown (h p others d) (k p others d)) → Grown (history_on t h past) (history_on t k past)
taken_grown nobody h k past each = ([], refl)
taken_grown (taking p others d) h k past each = each p others d

stepped_grown : (choices : Choices) (s : Stepped) (h k : Machine → Name → List Name → ℕ → List State → List State) (p : Name) (others : List Name) (drawn : ℕ)
    (past : List State) →
    ((m : Machine) (p : Name) (others : List Name) (d : ℕ) → Grown (h m p others d past) (k m p others d past))
    → Grown (history_after choices h p others drawn past s) (history_after choices k p others drawn past s)
stepped_grown choices (ended ending m) h k p others drawn past each = ([], refl)
stepped_grown choices (went m stays) h k p others drawn past each = each m p others drawn
stepped_grown choices (went m (joins ps)) h k p others drawn past each =
    taken_grown (take_next choices drawn (others ++ ps)) (λ q os d. h m q os d past) (λ q os d. k m q os d past) past (each m)

nothing_told : (choices : Choices) (s : Stepped) (p : Name) (others : List Name) (drawn : ℕ) (past : List State) → history_after choices (λ m q os d l. l) p
    others drawn past s ≡ past
nothing_told choices (ended ending m) p others drawn past = refl
nothing_told choices (went m stays) p others drawn past = refl
nothing_told choices (went m (joins ps)) p others drawn past = go (take_next choices drawn (others ++ ps))
  where
    go : (t : Taking) → history_on t (λ q os d. past) past ≡ past
    go nobody = refl
    go (taking q os d) = refl

-- ---- the system behind a step

abbrev AnswerHas : State → Answer → Type 0
AnswerHas system (on r) = r.system ≡ system
AnswerHas system (behind r) = r.system ≡ system
AnswerHas system (turned kind r) = r.system ≡ system
AnswerHas system (over ending r) = r.system ≡ system

abbrev pub Has : State → Stepped → Type 0
Has system (ended ending m) = m.system ≡ system
Has system (went m next) = m.system ≡ system

call_has : (result : CallResult) (address : Option ℕ) (line : ℕ) (l : Local) (r : Running) → AnswerHas (newest r.system (news_of_call result))
    (called result address line l r)
call_has (answered words system) address line l r = refl
call_has no_file address line l r = refl
call_has file_limit address line l r = refl

turn_has : (n : ℕ) (kind : Turn) (l : Local) (r : Running) → AnswerHas r.system (turn_from n kind l r)
turn_has zero kind l r = refl
turn_has (suc n) kind l r = refl

settled_has : (e : Effect) (r : Running) → AnswerHas (newest r.system (news_of_effect e r.system)) (settled e r)
settled_has (goes l) r = refl
settled_has (released l) r = refl
settled_has (asks number arguments address line l) r = call_has (call number arguments r.system) address line l r
settled_has (due kind l) r = turn_has r.turns kind l r
settled_has (fails c line) r = refl
settled_has bad r = refl

system_of_children : (p : Name) (f i base at share : ℕ) (branches : List Branch) (m : Machine) → (with_children p f i base at share branches m).system
    ≡ m.system
system_of_children p f i base at share [] m = refl
system_of_children p f i base at share (b ∷ bs) m = system_of_children p f (suc i) base (at + share) share bs (with_child (child p f i) base at share b m)

one_less_has : (m : Machine) (q : Name) (a : Activity) (s : Standing) (x : State) → m.system ≡ x → Has x (one_less m q a s)
one_less_has m q a ready x h = h
one_less_has m q a at_when x h = h
one_less_has m q a (waiting n) x h = h

told_has : (m : Machine) (q : Name) (a : Option Activity) (x : State) → m.system ≡ x → Has x (notified m q a)
told_has m q None x h = h
told_has m q (Some a) x h = one_less_has m q a a.standing x h

tested_has : (b : Bool) (ending : Ending) (m : Machine) (ps : List Name) (x : State) → m.system ≡ x → Has x (if b then ended ending m else went m (joins ps))
tested_has true ending m ps x h = h
tested_has false ending m ps x h = h

turned_has : (m : Machine) (p : Name) (others : List Name) (a : Activity) (kind : Turn) (r : Running) (x : State) → r.system ≡ x
    → Has x (at_turn m p others a kind r)
turned_has m p others a entering r x h = h
turned_has m p others a leaving r x h = h
turned_has m p others a looping r x h = h
turned_has m p others a arriving r x h = h
turned_has m p others a (again false) r x h = h
turned_has m p others a (again true) r x h = tested_has (all_marked (p ∷ m.marks) (p ∷ others)) _ _ _ x h
turned_has m p others a (forking branches) r x h =
    system_of_children p (suc a.forks) 0 r.local.base r.local.end ((r.local.last - r.local.end) / length branches) branches
    (back m p (activity_of r.local (suc a.forks) (waiting (length branches))) [] r) ∙ h
turned_has m p others a exiting r x h = told_has _ (parent_of p) (find (without m.activities p) (parent_of p)) x h
turned_has m p others a finishing r x h = h

kernel_has : (m : Machine) (p : Name) (others : List Name) (a : Activity) (answer : Answer) (x : State) → AnswerHas x answer
    → Has x (kernel m p others a answer)
kernel_has m p others a (on r) x h = h
kernel_has m p others a (behind r) x h = h
kernel_has m p others a (turned kind r) x h = turned_has m p others a kind r x h
kernel_has m p others a (over ending r) x h = h

pub newest_again : (first : State) (news past : List State) → newest first (news ++ past) ≡ newest (newest first past) news
newest_again first [] past = refl
newest_again first (s ∷ news) past = refl

module _ (fetch : ℕ → Option (Instruction × ℕ)) where
  step_of_has : (m : Machine) (p : Name) (others : List Name) (a : Option Activity) → Has (newest m.system (news_from fetch m p a)) (step_of fetch m p others a)
  step_of_has m p others None = refl
  step_of_has m p others (Some a) =
      kernel_has m p others a (local_step fetch (length m.activities) (is_first p) (running_of m a)) _
      (settled_has (effect_at fetch (fetch a.pc) (length m.activities) (is_first p) (running_of m a).local) (running_of m a))

  pub step_has : (m : Machine) (p : Name) (others : List Name) → Has (newest m.system (news_at fetch m p)) (step fetch m p others)
  step_has m p others = step_of_has m p others (find m.activities p)

  module _ (choices : Choices) where
    pub history_more : (n k : ℕ) (ending : Ending) (end : Machine) (d : ℕ) → n ≤ k → (m : Machine) (p : Name) (others : List Name) (drawn : ℕ)
        (past : List State) →
        run fetch choices n m p others drawn ≡ finished ending end d → history fetch choices n m p others drawn past ≡ history fetch choices k m p others
        drawn past
    history_more zero k ending end d le m p others drawn past e = absurd (cc)
    history_more (suc n) zero ending end d le m p others drawn past e = absurd (omega arith)
    history_more (suc n) (suc k) ending end d le m p others drawn past e =
        stepped_same choices (step fetch m p others) (run fetch choices n) (history fetch choices n) (history fetch choices k) p others drawn
        (finished ending end d) (news_at fetch m p ++ past)
        (λ m' q os d' f. history_more n k ending end d (omega arith) m' q os d' (news_at fetch m p ++ past) f) e

    -- it only grows
    history_grown : (n : ℕ) (m : Machine) (p : Name) (others : List Name) (drawn : ℕ) (past : List State)
        → Grown past (history fetch choices n m p others drawn past)
    history_grown zero m p others drawn past = ([], refl)
    history_grown (suc n) m p others drawn past =
        let more : List State = news_at fetch m p ++ past in
        let rest : Grown (history_after choices (λ m q os d l. l) p others drawn more (step fetch m p others))
        (history_after choices (history fetch choices n) p others drawn more (step fetch m p others)) =
        stepped_grown choices (step fetch m p others) (λ m q os d l. l) (history fetch choices n) p others drawn more
        (λ m' q os d. history_grown n m' q os d more) in
        grown_all past more (history fetch choices (suc n) m p others drawn past) (news_at fetch m p, refl)
        (subst (λ y. Grown y (history fetch choices (suc n) m p others drawn past)) (nothing_told choices (step fetch m p others) p others drawn more) rest)

    pub history_grows : (n k : ℕ) → n ≤ k → (m : Machine) (p : Name) (others : List Name) (drawn : ℕ) (past : List State)
        → Grown (history fetch choices n m p others drawn past) (history fetch choices k m p others drawn past)
    history_grows zero k le m p others drawn past = history_grown k m p others drawn past
    history_grows (suc n) zero le m p others drawn past = absurd (omega arith)
    history_grows (suc n) (suc k) le m p others drawn past =
        stepped_grown choices (step fetch m p others) (history fetch choices n) (history fetch choices k) p others drawn (news_at fetch m p ++ past)
        (λ m' q os d. history_grows n k (omega arith) m' q os d (news_at fetch m p ++ past))

    -- ---- the last state

    module _ (first : State) (ending : Ending) (end : Machine) (d : ℕ) where
      taken_newest : (t : Taking) (one : Name → List Name → ℕ → MachineRun) (h : Name → List Name → ℕ → List State) (m : Machine) (drawn : ℕ)
          (past : List State) → newest first past ≡ m.system →
          ((p : Name) (others : List Name) (c : ℕ) → one p others c ≡ finished ending end d → newest first (h p others c) ≡ end.system)
          → go_on t one m drawn ≡ finished ending end d → newest first (history_on t h past) ≡ end.system
      taken_newest nobody one h m drawn past is each e = let same : m ≡ end = (cc) in is ∙ ap (λ (x : Machine). x.system) same
      taken_newest (taking p others c) one h m drawn past is each e = each p others c e

      stepped_newest : (s : Stepped) (one : Machine → Name → List Name → ℕ → MachineRun) (h : Machine → Name → List Name → ℕ → List State → List State)
          (p : Name) (others : List Name) (drawn : ℕ) (past : List State) → Has (newest first past) s →
          ((m : Machine) (p : Name) (others : List Name) (c : ℕ) → newest first past ≡ m.system → one m p others c ≡ finished ending end d
          → newest first (h m p others c past) ≡ end.system) →
          after_step choices one p others drawn s ≡ finished ending end d → newest first (history_after choices h p others drawn past s) ≡ end.system
      stepped_newest (ended f m) one h p others drawn past is each e = let same : m ≡ end = (cc) in sym is ∙ ap (λ (x : Machine). x.system) same
      stepped_newest (went m stays) one h p others drawn past is each e = each m p others drawn (sym is) e
      stepped_newest (went m (joins ps)) one h p others drawn past is each e =
          taken_newest (take_next choices drawn (others ++ ps)) (one m) (λ q os c. h m q os c past) m drawn past (sym is)
          (λ q os c f. each m q os c (sym is) f) e

      history_newest : (n : ℕ) (m : Machine) (p : Name) (others : List Name) (drawn : ℕ) (past : List State) → newest first past ≡ m.system
          → run fetch choices n m p others drawn ≡ finished ending end d → newest first (history fetch choices n m p others drawn past) ≡ end.system
      history_newest zero m p others drawn past is e = absurd (cc)
      history_newest (suc n) m p others drawn past is e =
          let now : newest first (news_at fetch m p ++ past) ≡ newest m.system (news_at fetch m p) =
          newest_again first (news_at fetch m p) past ∙ ap (λ s. newest s (news_at fetch m p)) is in
          stepped_newest (step fetch m p others) (run fetch choices n) (history fetch choices n) p others drawn (news_at fetch m p ++ past)
          (subst (λ s. Has s (step fetch m p others)) (sym now) (step_has m p others))
          (λ m' q os c f g. history_newest n m' q os c (news_at fetch m p ++ past) f g) e

-- ---- from the start

pub entered_has : (found : Option (Instruction × ℕ)) (entry : ℕ) (calls : List ℕ) (bound : ℕ) (system : State)
    → Has system (entered found entry calls bound system)
entered_has (Some (op.entry need r p v f, body)) entry calls zero system = refl
entered_has (Some (op.entry need r p v f, body)) entry calls (suc n) system = refl
entered_has None entry calls bound system = refl
entered_has (Some x) entry calls bound system = refl

same_ending : {a b : Ending} {x y : Machine} {c d : ℕ} → finished a x c ≡ finished b y d → a ≡ b
same_ending e = cc

same_machine : {a b : Ending} {x y : Machine} {c d : ℕ} → finished a x c ≡ finished b y d → x ≡ y
same_machine e = cc

same_drawn : {a b : Ending} {x y : Machine} {c d : ℕ} → finished a x c ≡ finished b y d → c ≡ d
same_drawn e = cc

module _ (fetch : ℕ → Option (Instruction × ℕ)) (entry : ℕ) (calls : List ℕ) (system : State) (bound : ℕ) (choices : Choices) (before : ℕ) where
  abbrev Started : Stepped
  Started = entered (fetch entry) entry calls bound system

  abbrev History : ℕ → List State
  History n = history_from_start fetch entry calls system bound choices before n

  -- behind the end nothing is added
  pub same_past : (n k : ℕ) (ending : Ending) (m : Machine) (d : ℕ) → n ≤ k → after_step choices (run fetch choices n) [] [] before Started ≡ finished ending
      m d → History n ≡ History k
  same_past n k ending m d le e =
      stepped_same choices Started (run fetch choices n) (history fetch choices n) (history fetch choices k) [] [] before (finished ending m d) []
      (λ m' q os d' f. history_more fetch choices n k ending m d le m' q os d' [] f) e

  pub end_is_determined : EndIsDetermined fetch entry calls system bound choices before
  end_is_determined one other m m' drawn drawn' past past' a b = (same_ending is, same_machine is, same_drawn is, sym a.2 ∙ pasts ∙ b.2)
    where
      is : finished one m drawn ≡ finished other m' drawn'
      is = elim (cases_lt a.0 b.0) [
        | inl h ↦ same_end fetch entry calls system bound choices before a.0 b.0 one other m m' drawn drawn' (omega arith) a.1 b.1
        | inr h ↦ sym (same_end fetch entry calls system bound choices before b.0 a.0 other one m' m drawn' drawn h b.1 a.1)
      ]

      pasts : History a.0 ≡ History b.0
      pasts = elim (cases_lt a.0 b.0) [
        | inl h ↦ same_past a.0 b.0 one m drawn (omega arith) a.1
        | inr h ↦ sym (same_past b.0 a.0 other m' drawn' h b.1)
      ]

  pub past_grows : PastGrows fetch entry calls system bound choices before
  past_grows n k le =
      stepped_grown choices Started (history fetch choices n) (history fetch choices k) [] [] before []
      (λ m q os d. history_grows fetch choices n k le m q os d [])

  pub comes_through_its_past : ComesThroughItsPast fetch entry calls system bound choices before
  comes_through_its_past ending m drawn past moment e = (to, λ c. (e.0, subst (λ y. Contains (moments_of system y) moment) (sym e.2) c))
    where
      to : ComesThrough fetch entry calls system bound choices before moment → Contains (moments_of system past) moment
      to h = elim (cases_lt e.0 h.0) [
        | inl l ↦ subst (λ y. Contains (moments_of system y) moment) (sym (same_past e.0 h.0 ending m drawn (omega arith) e.1) ∙ e.2) h.1
        | inr l ↦
            let g : (news : List State) × (History e.0 ≡ news ++ History h.0) = past_grows h.0 e.0 l in
            subst (λ y. Contains (moments_of system y) moment) (sym g.1 ∙ e.2) (more g.0 (History h.0) h.1)
      ]
        where
          more : (news x : List State) → Contains (moments_of system x) moment → Contains (moments_of system (news ++ x)) moment
          more news x c = subst (λ y. Contains y moment) (sym (append_assoc news x (system ∷ []))) (Contains-append_right news (x ++ system ∷ []) moment c)

  pub system_is_newest : SystemIsNewest fetch entry calls system bound choices before
  system_is_newest ending m drawn past e =
      ap (newest system) (sym e.2)
      ∙ stepped_newest fetch choices system ending m drawn Started (run fetch choices e.0) (history fetch choices e.0) [] [] before []
      (entered_has (fetch entry) entry calls bound system)
      (λ m' q os c f g. history_newest fetch choices system ending m drawn e.0 m' q os c [] f g) e.1

pub every_run_ends_through : EveryRunEndsThrough
every_run_ends_through words entry calls system bound choices before =
    let e : (n : ℕ) × (ending : Ending) × (end : Machine) × (d : ℕ)
    × (after_step choices (run (code.fetch words) choices n) [] [] before (entered (code.fetch words entry) entry calls bound system) ≡ finished ending end
    d) =
    started_ends (code.fetch words) choices (length words) (code_stands_below words) before (entered (code.fetch words entry) entry calls bound system) in
    (e.1, e.2, e.3, history_from_start (code.fetch words) entry calls system bound choices before e.0, (e.0, e.4, refl))
