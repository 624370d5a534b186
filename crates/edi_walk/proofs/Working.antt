-- What each part of a step makes of the work that there is.
use Rattle.std.proofs.Common.{◌≡◌, ℕ, Bool, true, false, if◌then◌else◌, List, [], ◌∷◌, ◌++◌, Option, Some, None, Result, Ok, Err, refl, sym, subst, ap, ◌∙◌, append_assoc, arith}
use Rattle.std.specs.Prelude.{map, ⊤}
use Rattle.std.specs.Borrow.{Bor}
use Rattle.edi_calls.specs.State.{State, Traced}
use Rattle.edi_unit.specs.Tree as tree
use Rattle.edi_unit.specs.Tree.{Act, Acts, Arguments, Clauses, Expression, Place, ProgramUnit}
use Rattle.edi_unit.specs.View.{act_of, acts, clause_of, clauses, unit_of}
use Rattle.edi_unit.specs.declared.statements.Act as code_act
use Rattle.edi_unit.specs.declared.statements.Clause as code_clause
use Rattle.edi_meaning.specs.Evaluation.{World, Evaluation, gives, ◌>>=◌, turn}
use Rattle.edi_meaning.specs.Step.{Position, Work, doing, loop_end, procedure_end, branch_end, program_entry, program_end}
use Rattle.edi_meaning.specs.Step.{Asks, goes, arrives, again, forks, attempt, chosen, is_quiet}
use Rattle.edi_meaning.specs.Step.{with_chosen}
use Rattle.edi_meaning.specs.Whole.{below, left, whole_assignment, whole_first}
use Rattle.edi_meaning.proofs.Going.{goes_same}
use Rattle.edi_walk.specs.declared.evaluation.Evaluation as code
use Rattle.edi_walk.specs.declared.process.Asked as code_asked
use Rattle.edi_walk.specs.declared.process.Asked.TheVariants as asks
use Rattle.edi_walk.specs.declared.process.Work as code_work
use Rattle.edi_walk.specs.declared.stop.Stop.{Stop}
use Rattle.edi_walk.specs.declared.stop.Stop.TheVariants as stop
use Rattle.edi_walk.specs.Frames.{after, assigns, Frame, Given, places, resume, tries, truth_given}
use Rattle.edi_walk.specs.Ends.{PartBlames}
use Rattle.edi_calls.specs.declared.ends.Outside.{Outside}
use Rattle.edi_walk.proofs.Calls.{given_up}
use Rattle.edi_walk.specs.Machine.{deeper_of, frame_of, given_of, IsSameProcess, PutsTwo, world_of}
use Rattle.edi_walk.specs.Processes.{acts_bare, Bare, bare_all, does, ends_branch, ends_procedure, ends_program, enters_program, loops_back}
use Rattle.edi_walk.specs.Processes.{work_of}
use Rattle.edi_walk.specs.Runs.{Runs, RunsTo}
use Rattle.edi_walk.specs.Steps.{Chosen, Continues, IsChosen, MakesSo, Wholly}
use Rattle.edi_walk.specs.Works.{AsksSo, Attempt, Attempted, Does, IsCalm, PutsChosen, PutsFirst, Statement}
use Rattle.edi_walk.specs.Works.{Tried, TurnsTo, WhollyBoth}
use Rattle.edi_walk.proofs.Bare.{chosen_bare}
use Rattle.edi_walk.proofs.Parted.{does_stop, does_then, makes_here, turn_continues}
use Rattle.edi_walk.proofs.Parted.{turned_does, up_here}
use Rattle.edi_walk.proofs.Wholes.{assignment_is, first_is, run_so}

-- ---- what was made, read as this

module _ {A T : Type 0} (R : T → A → Type 0) (old new : code.Evaluation) (s t : State) where
  pub does_at : (m n : World → Evaluation A) (result : Result T Stop) → ((system : Traced) → m (world_of old system) ≡ n (world_of old system)) →
      Does m R result old new s t → Does n R result old new s t
  does_at m n result e h system i = subst (MakesSo system R result new t) (e system) (h system i)

  abbrev Made : (World → Evaluation Given) → Result (Unit {0}) Stop → Type 0
  Made m result = (system : Traced) → system.now ≡ s → RunsTo old.turns system result new t (m (world_of old system))

  pub read_so : (m : World → Evaluation Given) (f : Given → A) (x : T) → R x (f (given_of new.given)) → Made m (Ok tt) →
      Does (λ w. m w >>= λ g v. gives (f g) v) R (Ok x) old new s t
  read_so m f x q h system i =
      let k = run_so old.turns system (Ok tt) new t (m (world_of old system)) f (h system i) in
      record {
        value = f (given_of new.given);
        related = q;
        system = k.system;
        system_is = k.system_is;
        grew = k.grew;
        is = k.is ∙ ap (λ v. gives v (world_of new k.system)) k.related;
      }

  pub read_stop : (m : World → Evaluation Given) (f : Given → A) (x : Stop) → Made m (Err x) → Does (λ w. m w >>= λ g v. gives (f g) v) R (Err x) old new s t
  read_stop m f x h system i = run_so old.turns system (Err x) new t (m (world_of old system)) f (h system i)

-- ---- an attempt at a `when`

module _ (old new : code.Evaluation) (s t : State) (cs : Clauses) where
  abbrev tries_of : World → Evaluation Given
  tries_of w = resume (unit_of old.unit.now) old.name.items old.size (below (unit_of old.unit.now) old.name.items old.size w) (tries cs) (given_of old.given) w

  first_of_old : (system : Traced) → (tries_of (world_of old system) >>= λ g v. gives (truth_given g) v)
      ≡ whole_first (unit_of old.unit.now) old.name.items old.size cs (world_of old system)
  first_of_old system = first_is (unit_of old.unit.now) old.name.items old.size (world_of old system) cs (given_of old.given)

  pub tried_so : (b : Bool) → b ≡ truth_given (given_of new.given) → Wholly (tries cs) (Ok tt) old new s t → Tried cs (Ok b) old new s t
  tried_so b e h =
      does_at (λ b a. a ≡ b) old new s t (λ w. tries_of w >>= λ g v. gives (truth_given g) v) (whole_first (unit_of old.unit.now) old.name.items old.size cs) (Ok b)
      first_of_old (read_so (λ b a. a ≡ b) old new s t tries_of truth_given b (sym e) h)

  pub tried_stop : (x : Stop) → Wholly (tries cs) (Err x) old new s t → Tried cs (Err x) old new s t
  tried_stop x h =
      does_at (λ b a. a ≡ b) old new s t (λ w. tries_of w >>= λ g v. gives (truth_given g) v) (whole_first (unit_of old.unit.now) old.name.items old.size cs) (Err x)
      first_of_old (read_stop (λ b a. a ≡ b) old new s t tries_of truth_given x h)

module _ (old : code.Evaluation) (cs : Clauses) (position : Position) (work : List Work) where
  abbrev attempted : Bool → World → Evaluation Asks
  attempted ran w = if ran then gives (goes work) w else turn w (gives (again cs position (is_quiet cs) work))

  attempted_continues : (ran : Bool) (w : World) → Continues w (attempted ran w)
  attempted_continues true w = goes_same w
  attempted_continues false w = turn_continues w _ (λ v. goes_same v)

pub attempt_so : (old mid new : code.Evaluation) (s t : State) (list : Bor (List code_clause.Clause)) (ran : Bool) (result : Result code_asked.Asked Stop) →
    Tried (clauses (map clause_of list.now)) (Ok ran) old mid s t → Attempted list ran result mid new → Attempt (clauses (map clause_of list.now)) result old new s t
attempt_so old mid new s t list true (Ok a) h q left position work b =
    let cs = clauses (map clause_of list.now) in
    subst (λ x. Does (attempt (unit_of old.unit.now) old.name.items old.size cs position work) (AsksSo left) (Ok x) old new s t) (sym q.0)
    (subst (λ e. Does (attempt (unit_of old.unit.now) old.name.items old.size cs position work) (AsksSo left) (Ok asks.Goes) old e s t) (sym q.1)
    (does_then (λ b a. a ≡ b) (AsksSo left) old (whole_first (unit_of old.unit.now) old.name.items old.size cs) (attempted old cs position work) true (Ok asks.Goes) mid
    mid s t t h
    (λ c r. makes_here (AsksSo left) mid mid (attempted old cs position work c) t asks.Goes (goes work) b
    (λ system. ap (λ d. attempted old cs position work d (world_of mid system)) r))))
attempt_so old mid new s t list true (Err x) h q left position work b = absurd q
attempt_so old mid new s t list false result h turned left position work b =
    let cs = clauses (map clause_of list.now) in
    does_then (λ b a. a ≡ b) (AsksSo left) old (whole_first (unit_of old.unit.now) old.name.items old.size cs) (attempted old cs position work) false result mid
    new s t t h
    (λ a r. does_at (AsksSo left) mid new t t (λ w. turn w (gives (again cs position (is_quiet cs) work))) (attempted old cs position work a) result
    (λ system. ap (λ c. attempted old cs position work c (world_of mid system)) (sym r))
    (turned_does (AsksSo left) (asks.Stands list) (again cs position (is_quiet cs) work) result mid new t (refl, b) turned))

pub attempt_stop : (old new : code.Evaluation) (s t : State) (cs : Clauses) (x : Stop) → Tried cs (Err x) old new s t → Attempt cs (Err x) old new s t
attempt_stop old new s t cs x h left position work b =
    does_stop {S = Bool} (λ b a. a ≡ b) (AsksSo left) old (whole_first (unit_of old.unit.now) old.name.items old.size cs) (attempted old cs position work) x new s t h
    (attempted_continues old cs position work)

-- ---- statements

pub skip_so : (old : code.Evaluation) (s : State) (left : List code_work.Work) → Statement tree.skip (work_of left []) left (Ok asks.Goes) old old s s
skip_so old s left position work b = makes_here (AsksSo left) old old (gives (goes work)) s asks.Goes (goes work) b (λ system. refl)

pub halt_so : (old : code.Evaluation) (s : State) (line : ℕ) (todo : List Bare) (left : List code_work.Work) →
    Statement (tree.halt line) todo left (Err (stop.Halted line)) old old s s
halt_so old s line todo left position work b system i = record { system = system; system_is = i; is = refl }

pub when_so : (old new : code.Evaluation) (s : State) (list : Bor (List code_clause.Clause)) (line : ℕ) (left : List code_work.Work) (result : Result code_asked.Asked Stop) →
    TurnsTo (asks.Stands list) result old new → Statement (tree.when_act (clauses (map clause_of list.now)) line) (work_of left []) left result old new s s
when_so old new s list line left result h position work b =
    turned_does (AsksSo left) (asks.Stands list) (arrives (clauses (map clause_of list.now)) position work) result old new s (refl, b) h

pub fork_so : (old : code.Evaluation) (s : State) (bs : Bor (List ℕ)) (line : ℕ) (left : List code_work.Work) →
    Statement (tree.cobegin bs.now line) (work_of left []) left (Ok (asks.Forks bs line)) old old s s
fork_so old s bs line left position work b =
    makes_here (AsksSo left) old old (gives (forks bs.now line work)) s (asks.Forks bs line) (forks bs.now line work) (refl, refl, b) (λ system. refl)

abbrev pub Nothing : Unit {0} → Unit {0} → Type 0
Nothing a b = ⊤

module _ (old new : code.Evaluation) (s t : State) (v : Place) (e : Expression) where
  abbrev assigning : World → Evaluation Given
  assigning w =
      resume (unit_of old.unit.now) old.name.items old.size (below (unit_of old.unit.now) old.name.items old.size w) (places v) (given_of old.given) w
      >>= (λ h w'. resume (unit_of old.unit.now) old.name.items old.size (below (unit_of old.unit.now) old.name.items old.size w) (assigns e) h w' >>= gives)

  abbrev then_on : List Work → Unit {0} → World → Evaluation Asks
  then_on work _ w = gives (goes work) w

  assigned_of_old : (system : Traced) → (assigning (world_of old system) >>= λ g v. gives (tt {0}) v)
      ≡ whole_assignment (unit_of old.unit.now) old.name.items old.size v e (world_of old system)
  assigned_of_old system = assignment_is (unit_of old.unit.now) old.name.items old.size (world_of old system) v e (given_of old.given)

  pub assigned_so : WhollyBoth (assigns e) (places v) (Ok tt) old new s t → (left : List code_work.Work) →
      Statement (tree.assign v e) (work_of left []) left (Ok asks.Goes) old new s t
  assigned_so h left position work b =
      does_then Nothing (AsksSo left) old (whole_assignment (unit_of old.unit.now) old.name.items old.size v e) (then_on work) tt (Ok asks.Goes) new new s t t
      (does_at Nothing old new s t (λ w. assigning w >>= λ g v. gives (tt {0}) v) (whole_assignment (unit_of old.unit.now) old.name.items old.size v e) (Ok tt)
      assigned_of_old (read_so Nothing old new s t assigning (λ _. tt) tt tt h))
      (λ a r. makes_here (AsksSo left) new new (then_on work a) t asks.Goes (goes work) b (λ system. refl))

  pub assigned_stop : (x : Stop) → WhollyBoth (assigns e) (places v) (Err x) old new s t → (left : List code_work.Work) →
      Statement (tree.assign v e) (work_of left []) left (Err x) old new s t
  assigned_stop x h left position work b =
      does_stop {S = Unit {0}} Nothing (AsksSo left) old (whole_assignment (unit_of old.unit.now) old.name.items old.size v e) (then_on work) x new s t
      (does_at Nothing old new s t (λ w. assigning w >>= λ g v. gives (tt {0}) v) (whole_assignment (unit_of old.unit.now) old.name.items old.size v e) (Err x)
      assigned_of_old (read_stop Nothing old new s t assigning (λ _. tt) x h))
      (λ a w. goes_same w)

-- ---- more work comes first

-- this has been made, and more work was put first
pub puts_here : (old new : code.Evaluation) (s : State) (m : World → Evaluation Asks) (work : List Work) (some : List Bare) (result : Result code_asked.Asked Stop)
    (before left : List code_work.Work) → ((system : Traced) → m (world_of old system) ≡ gives (goes work) (world_of new system)) →
    ((w : World) → Continues w (m w)) → bare_all work ≡ some ++ work_of before [] → PutsFirst some result before left → Does m (AsksSo left) result old new s s
puts_here old new s m work some (Ok a) before left is on b h =
    makes_here (AsksSo left) old new m s a (goes work) (subst (λ x. AsksSo left x (goes work)) (sym h.0) (b ∙ sym h.1)) is
puts_here old new s m work some (Err stop.NoMemory) before left is on b h = up_here (AsksSo left) old new m s on
puts_here old new s m work some (Err stop.Done) before left is on b h = absurd h
puts_here old new s m work some (Err (stop.Halted line)) before left is on b h = absurd h
puts_here old new s m work some (Err (stop.Failed c line)) before left is on b h = absurd h
puts_here old new s m work some (Err stop.Turns) before left is on b h = absurd h
puts_here old new s m work some (Err (stop.Fault number)) before left is on b h = absurd h

-- the choice of a list: the list comes first, then this, and then what there was
module _ (cs : Clauses) (after : Position → List Work) (lower : List Bare) (same : (position : Position) → bare_all (after position) ≡ lower)
    (old new : code.Evaluation) (s t : State) (before : List code_work.Work) where
  abbrev chosen_on : (position : Position) (work : List Work) → Option (Acts × ℕ) → World → Evaluation Asks
  chosen_on position work c w = gives (goes (with_chosen position c (after position) work)) w

  abbrev choosing : World → Evaluation (Option (Acts × ℕ))
  choosing w = chosen (unit_of old.unit.now) old.name.items old.size cs 0 w

  abbrev Chooses : (left : List code_work.Work) → Result code_asked.Asked Stop → Type 0
  Chooses left result =
      (position : Position) (work : List Work) → bare_all work ≡ work_of before [] → Does (λ w. choosing w >>= chosen_on position work) (AsksSo left) result old new s t

  some_chosen : (body : Bor (List code_act.Act)) (result : Result code_asked.Asked Stop) (left : List code_work.Work) → Chosen cs (Ok (Some body)) old new s t →
      PutsFirst (acts_bare (acts (map act_of body.now)) ++ lower) result before left → Chooses left result
  some_chosen body result left h puts position work b =
      does_then IsChosen (AsksSo left) old choosing (chosen_on position work) (Some body) result new new s t t (λ system i. h system i 0)
      (λ a r. puts_here new new t (chosen_on position work a) (with_chosen position a (after position) work) (acts_bare (acts (map act_of body.now)) ++ lower) result before
      left (λ system. refl) (λ w. goes_same w) (more a r) puts)
    where
      more : (a : Option (Acts × ℕ)) → IsChosen (Some body) a →
          bare_all (with_chosen position a (after position) work) ≡ (acts_bare (acts (map act_of body.now)) ++ lower) ++ work_of before []
      more None r = absurd r
      more (Some c) r =
          chosen_bare position c (after position) work
          ∙ ap (λ x. acts_bare x ++ (bare_all (after position) ++ bare_all work)) r
          ∙ ap (λ x. acts_bare (acts (map act_of body.now)) ++ (x ++ bare_all work)) (same position)
          ∙ ap (λ x. acts_bare (acts (map act_of body.now)) ++ (lower ++ x)) b
          ∙ sym (append_assoc (acts_bare (acts (map act_of body.now))) lower (work_of before []))

  pub chosen_so : (body : Option (Bor (List code_act.Act))) (result : Result code_asked.Asked Stop) (left : List code_work.Work) → Chosen cs (Ok body) old new s t →
      PutsChosen lower body result before left → Chooses left result
  chosen_so None (Ok a) left h puts position work b =
      subst (λ x. Does (λ w. choosing w >>= chosen_on position work) (AsksSo left) (Ok x) old new s t) (sym puts.0)
      (does_then IsChosen (AsksSo left) old choosing (chosen_on position work) None (Ok asks.Goes) new new s t t (λ system i. h system i 0)
      (λ c r. makes_here (AsksSo left) new new (chosen_on position work c) t asks.Goes (goes (with_chosen position c (after position) work)) (nothing_more c r ∙ sym puts.1)
      (λ system. refl)))
    where
      nothing_more : (c : Option (Acts × ℕ)) → IsChosen None c → bare_all (with_chosen position c (after position) work) ≡ work_of before []
      nothing_more None r = b
      nothing_more (Some c) r = absurd r
  chosen_so None (Err x) left h puts position work b = absurd puts
  chosen_so (Some body) result left h puts position work b = some_chosen body result left h puts position work b

  pub choice_stops : (x : Stop) (left : List code_work.Work) → Chosen cs (Err x) old new s t → Chooses left (Err x)
  choice_stops x left h position work b =
      does_stop {S = Option (Bor (List code_act.Act))} IsChosen (AsksSo left) old choosing (chosen_on position work) x new s t (λ system i. h system i 0)
      (λ a w. goes_same w)

-- ---- what comes first of the work

first_is_so : {A : Type 0} (x y : A) (xs ys : List A) → x ∷ xs ≡ y ∷ ys → x ≡ y
first_is_so x y xs ys e = cc

rest_is_so : {A : Type 0} (x y : A) (xs ys : List A) → x ∷ xs ≡ y ∷ ys → xs ≡ ys
rest_is_so x y xs ys e = cc

same_act : (a b : Act) → does a ≡ does b → b ≡ a
same_act a b e = cc

same_clauses : (a b : Clauses) → loops_back a ≡ loops_back b → b ≡ a
same_clauses a b e = cc

module _ (P : List Work → Type 0) (rest : List Bare) where
  pub does_first : (a : Act) → ((position : Position) (work : List Work) → bare_all work ≡ rest → P (doing a position ∷ work)) → (work : List Work) →
      bare_all work ≡ does a ∷ rest → P work
  does_first a h [] e = absurd (cc)
  does_first a h (doing x position ∷ work) e =
      subst (λ y. P (doing y position ∷ work)) (same_act x a (first_is_so _ _ _ _ e)) (h position work (rest_is_so _ _ _ _ e))
  does_first a h (loop_end cs position ∷ work) e = let f = first_is_so _ _ _ _ e in absurd (cc)
  does_first a h (procedure_end line ∷ work) e = let f = first_is_so _ _ _ _ e in absurd (cc)
  does_first a h (branch_end ∷ work) e = let f = first_is_so _ _ _ _ e in absurd (cc)
  does_first a h (program_entry ∷ work) e = let f = first_is_so _ _ _ _ e in absurd (cc)
  does_first a h (program_end ∷ work) e = let f = first_is_so _ _ _ _ e in absurd (cc)

  pub loops_first : (cs : Clauses) → ((position : Position) (work : List Work) → bare_all work ≡ rest → P (loop_end cs position ∷ work)) → (work : List Work) →
      bare_all work ≡ loops_back cs ∷ rest → P work
  loops_first cs h [] e = absurd (cc)
  loops_first cs h (doing x position ∷ work) e = let f = first_is_so _ _ _ _ e in absurd (cc)
  loops_first cs h (loop_end ds position ∷ work) e =
      subst (λ y. P (loop_end y position ∷ work)) (same_clauses ds cs (first_is_so _ _ _ _ e)) (h position work (rest_is_so _ _ _ _ e))
  loops_first cs h (procedure_end line ∷ work) e = let f = first_is_so _ _ _ _ e in absurd (cc)
  loops_first cs h (branch_end ∷ work) e = let f = first_is_so _ _ _ _ e in absurd (cc)
  loops_first cs h (program_entry ∷ work) e = let f = first_is_so _ _ _ _ e in absurd (cc)
  loops_first cs h (program_end ∷ work) e = let f = first_is_so _ _ _ _ e in absurd (cc)

  pub procedure_first : ((line : ℕ) (work : List Work) → bare_all work ≡ rest → P (procedure_end line ∷ work)) → (work : List Work) →
      bare_all work ≡ ends_procedure ∷ rest → P work
  procedure_first h [] e = absurd (cc)
  procedure_first h (doing x position ∷ work) e = let f = first_is_so _ _ _ _ e in absurd (cc)
  procedure_first h (loop_end ds position ∷ work) e = let f = first_is_so _ _ _ _ e in absurd (cc)
  procedure_first h (procedure_end line ∷ work) e = h line work (rest_is_so _ _ _ _ e)
  procedure_first h (branch_end ∷ work) e = let f = first_is_so _ _ _ _ e in absurd (cc)
  procedure_first h (program_entry ∷ work) e = let f = first_is_so _ _ _ _ e in absurd (cc)
  procedure_first h (program_end ∷ work) e = let f = first_is_so _ _ _ _ e in absurd (cc)

  pub branch_first : ((work : List Work) → bare_all work ≡ rest → P (branch_end ∷ work)) → (work : List Work) → bare_all work ≡ ends_branch ∷ rest → P work
  branch_first h [] e = absurd (cc)
  branch_first h (doing x position ∷ work) e = let f = first_is_so _ _ _ _ e in absurd (cc)
  branch_first h (loop_end ds position ∷ work) e = let f = first_is_so _ _ _ _ e in absurd (cc)
  branch_first h (procedure_end line ∷ work) e = let f = first_is_so _ _ _ _ e in absurd (cc)
  branch_first h (branch_end ∷ work) e = h work (rest_is_so _ _ _ _ e)
  branch_first h (program_entry ∷ work) e = let f = first_is_so _ _ _ _ e in absurd (cc)
  branch_first h (program_end ∷ work) e = let f = first_is_so _ _ _ _ e in absurd (cc)

  pub entry_first : ((work : List Work) → bare_all work ≡ rest → P (program_entry ∷ work)) → (work : List Work) → bare_all work ≡ enters_program ∷ rest → P work
  entry_first h [] e = absurd (cc)
  entry_first h (doing x position ∷ work) e = let f = first_is_so _ _ _ _ e in absurd (cc)
  entry_first h (loop_end ds position ∷ work) e = let f = first_is_so _ _ _ _ e in absurd (cc)
  entry_first h (procedure_end line ∷ work) e = let f = first_is_so _ _ _ _ e in absurd (cc)
  entry_first h (branch_end ∷ work) e = let f = first_is_so _ _ _ _ e in absurd (cc)
  entry_first h (program_entry ∷ work) e = h work (rest_is_so _ _ _ _ e)
  entry_first h (program_end ∷ work) e = let f = first_is_so _ _ _ _ e in absurd (cc)

  pub end_first : ((work : List Work) → bare_all work ≡ rest → P (program_end ∷ work)) → (work : List Work) → bare_all work ≡ ends_program ∷ rest → P work
  end_first h [] e = absurd (cc)
  end_first h (doing x position ∷ work) e = let f = first_is_so _ _ _ _ e in absurd (cc)
  end_first h (loop_end ds position ∷ work) e = let f = first_is_so _ _ _ _ e in absurd (cc)
  end_first h (procedure_end line ∷ work) e = let f = first_is_so _ _ _ _ e in absurd (cc)
  end_first h (branch_end ∷ work) e = let f = first_is_so _ _ _ _ e in absurd (cc)
  end_first h (program_entry ∷ work) e = let f = first_is_so _ _ _ _ e in absurd (cc)
  end_first h (program_end ∷ work) e = h work (rest_is_so _ _ _ _ e)

-- ---- small parts

-- two pieces, one before the other
pub puts_both : (upper lower : List Bare) (a : code_asked.Asked) (result : Result code_asked.Asked Stop) (old mid new : List code_work.Work) →
    PutsFirst lower (Ok a) old mid → PutsFirst upper result mid new → PutsFirst (upper ++ lower) result old new
puts_both upper lower a (Ok b) old mid new h k = (k.0, k.1 ∙ ap (λ l. upper ++ l) h.1 ∙ sym (append_assoc upper lower (work_of old [])))
puts_both upper lower a (Err stop.NoMemory) old mid new h k = tt
puts_both upper lower a (Err stop.Done) old mid new h k = absurd k
puts_both upper lower a (Err (stop.Halted line)) old mid new h k = absurd k
puts_both upper lower a (Err (stop.Failed c line)) old mid new h k = absurd k
puts_both upper lower a (Err stop.Turns) old mid new h k = absurd k
puts_both upper lower a (Err (stop.Fault number)) old mid new h k = absurd k

pub puts_failed : (some more : List Bare) (x : Stop) (old new last : List code_work.Work) → PutsFirst some (Err x) old new → PutsFirst more (Err x) old last
puts_failed some more stop.NoMemory old new last h = tt
puts_failed some more stop.Done old new last h = absurd h
puts_failed some more (stop.Halted line) old new last h = absurd h
puts_failed some more (stop.Failed c line) old new last h = absurd h
puts_failed some more stop.Turns old new last h = absurd h
puts_failed some more (stop.Fault number) old new last h = absurd h

-- who puts pieces has failed no object outside
pub puts_calm : (some : List Bare) (result : Result code_asked.Asked Stop) (old new : List code_work.Work) → PutsFirst some result old new → IsCalm result
puts_calm some (Ok a) old new h = tt
puts_calm some (Err stop.NoMemory) old new h = tt
puts_calm some (Err stop.Done) old new h = tt
puts_calm some (Err (stop.Halted line)) old new h = tt
puts_calm some (Err (stop.Failed c line)) old new h = tt
puts_calm some (Err stop.Turns) old new h = tt
puts_calm some (Err (stop.Fault number)) old new h = h

pub chosen_calm : (lower : List Bare) (body : Option (Bor (List code_act.Act))) (result : Result code_asked.Asked Stop) (old new : List code_work.Work) →
    PutsChosen lower body result old new → IsCalm result
chosen_calm lower None (Ok a) old new h = tt
chosen_calm lower None (Err x) old new h = absurd h
chosen_calm lower (Some body) result old new h = puts_calm (acts_bare (acts (map act_of body.now)) ++ lower) result old new h

pub calm_blames : {T : Type 0} (result : Result T Stop) → IsCalm result → (failed : Option Outside → Type 0) (before now : Outside → ℕ) → failed None →
    PartBlames result failed before now
calm_blames (Ok x) h failed before now none = none
calm_blames (Err stop.Done) h failed before now none = none
calm_blames (Err (stop.Halted line)) h failed before now none = none
calm_blames (Err (stop.Failed c line)) h failed before now none = none
calm_blames (Err stop.Turns) h failed before now none = none
calm_blames (Err (stop.Fault number)) h failed before now none = absurd h
calm_blames (Err stop.NoMemory) h failed before now none = none

-- ---- two frames alone

pub both_so : (old mid new : code.Evaluation) (s t : State) (lower upper : Frame) (result : Result (Unit {0}) Stop) → old.frames.items ≡ [] →
    mid ≡ record old { frames = mid.frames } → PutsTwo lower upper (Ok tt) old mid → Runs result mid new s t → WhollyBoth lower upper result old new s t
both_so old mid new s t lower upper result none is puts runs system i =
    let U = unit_of old.unit.now in
    let p = old.name.items in
    let deep = deeper_of old.turns old in
    subst (RunsTo old.turns system result new t)
    (sym (puts old.turns system _
    (ap (λ fs. resume U p old.size deep upper (given_of old.given) (world_of old system) >>= (λ g w. resume U p old.size deep lower g w >>= after U p old.size deep (map frame_of fs) gives))
    (sym none))))
    (runs old.turns system i (omega (arith, ap (λ (x : code.Evaluation). x.turns) is)))

pub both_up : (old new : code.Evaluation) (s : State) (lower upper : Frame) → IsSameProcess old new → WhollyBoth lower upper (Err stop.NoMemory) old new s s
both_up old new s lower upper same system i =
    given_up old.turns system old new _ s same (record {
      frames = lower ∷ upper ∷ [];
      given = given_of old.given;
      world = world_of old system;
      grew = ([], refl, refl);
      enough = omega arith;
      is = refl;
      system_is = i;
    })
