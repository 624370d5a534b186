-- At a standstill nothing can happen any more but that turns are taken.
use Rattle.std.proofs.Common.{◌≡◌, ℕ, zero, suc, ◌⊎◌, inl, inr, Bool, true, false, ◌&&◌, if◌then◌else◌, List, [], ◌∷◌, Some, refl, sym, subst, ap, ◌∙◌}
use Rattle.std.specs.Prelude.{⊤, nat_lt}
use Rattle.edi_calls.specs.Names.{Name, Table, same, find, with_at}
use Rattle.edi_calls.specs.Outcome as outcome
use Rattle.edi_calls.specs.Outcome.{Ending}
use Rattle.edi_calls.specs.Ready.{has, all_marked}
use Rattle.edi_calls.proofs.Tables.{same-equal, with_at-found}
use Rattle.edi_unit.specs.Need.{block_at}
use Rattle.edi_unit.specs.Tree as tree
use Rattle.edi_unit.specs.Tree.{Act, Acts, Clauses, ProgramUnit}
use Rattle.edi_meaning.specs.Store.{Store, Closure, system_procedure, block_procedure, Cell, shape, room}
use Rattle.edi_meaning.specs.Evaluation.{World, Evaluation, gives, ends, ◌>>=◌, turn_from, turn}
use Rattle.edi_meaning.specs.Whole.{meant, system_call, levels_of, whole_first, whole_arguments, whole_assignment, first}
use Rattle.edi_meaning.specs.Step.{Position, Work, doing, loop_end, procedure_end, branch_end, program_entry, program_end, Standing, ready, at_when, waiting}
use Rattle.edi_meaning.specs.Step.{Asks, goes, arrives, again, forks, leaves, is_quiet, chosen, with_chosen, called, statement_step, work_step, attempt}
use Rattle.edi_meaning.specs.Step.{local_step, Process, Processes, Stepped, went, ended, kernel, step}
use Rattle.edi_meaning.specs.Permitted.{is_running_process, may_step, Led, nowhere, onward}
use Rattle.edi_meaning.specs.Permitted.{permitted}
use Rattle.edi_meaning.specs.Laws.{Settled}
use Rattle.edi_meaning.proofs.Lasting.{Gives}
use Rattle.edi_meaning.proofs.Kernel.{if_either, Handles, kernel_handles, of_process}
use Rattle.edi_meaning.proofs.Pure.{none_true}
use Rattle.edi_meaning.proofs.Sound.{or_true}

-- ---- only an attempt asks for a mark

abbrev pub IsNotAgain : Asks → World → Type 0
IsNotAgain (again cs position quiet work) w = ⊥
IsNotAgain (goes work) w = ⊤
IsNotAgain (arrives cs position work) w = ⊤
IsNotAgain (forks bs line work) w = ⊤
IsNotAgain leaves w = ⊤

abbrev pub Unmarked : Evaluation Asks → Type 0
Unmarked r = Gives IsNotAgain (λ ending system turns. ⊤) r

goes_unmarked : {A : Type 0} (r : Evaluation A) (work : A → List Work) → Unmarked (r >>= λ a w. gives (goes (work a)) w)
goes_unmarked (gives a w) work = tt
goes_unmarked (ends e system turns) work = tt

turn_unmarked : (n : ℕ) (w : World) (go : World → Evaluation Asks) → ((w : World) → Unmarked (go w)) → Unmarked (turn_from n w go)
turn_unmarked zero w go h = tt
turn_unmarked (suc n) w go h = h (record w { turns = n })

module _ (unit : ProgramUnit) (p : Name) (size : ℕ) where
  called_unmarked : (c : Closure) (cells : List Cell) (line : ℕ) (work : List Work) (w : World) → Unmarked (called unit p size c cells line work w)
  called_unmarked (system_procedure number) cells line work w = goes_unmarked (system_call number cells line w) (λ _. work)
  called_unmarked (block_procedure number parent) cells line work w =
      if_either Unmarked (nat_lt (room size (shape w.store p)) (block_at unit.blocks number).need) _ _ tt (turn_unmarked w.turns w _ (λ w. tt))

  arguments_unmarked : (c : World → Closure) (line : ℕ) (work : List Work) (r : Evaluation (List Cell))
      → Unmarked (r >>= λ cells w. called unit p size (c w) cells line work w)
  arguments_unmarked c line work (gives cells w) = called_unmarked (c w) cells line work w
  arguments_unmarked c line work (ends e system turns) = tt

  statement_unmarked : (a : Act) (position : Position) (work : List Work) (w : World) → Unmarked (statement_step unit p size a position work w)
  statement_unmarked tree.skip position work w = tt
  statement_unmarked (tree.assign v e) position work w = goes_unmarked (whole_assignment unit p size v e w) (λ _. work)
  statement_unmarked (tree.call c es line) position work w = arguments_unmarked (meant unit p size c) line work (whole_arguments unit p size es w)
  statement_unmarked (tree.halt line) position work w = tt
  statement_unmarked (tree.if_act cs) position work w = goes_unmarked (chosen unit p size cs 0 w) (λ c. with_chosen position c [] work)
  statement_unmarked (tree.while_act cs) position work w = goes_unmarked (chosen unit p size cs 0 w)
      (λ c. with_chosen position c (loop_end cs position ∷ []) work)
  statement_unmarked (tree.when_act cs line) position work w = turn_unmarked w.turns w _ (λ w. tt)
  statement_unmarked (tree.cobegin bs line) position work w = tt

  pub work_unmarked : (work : List Work) (w : World) → Unmarked (work_step unit p size work w)
  work_unmarked [] w = tt
  work_unmarked (doing a position ∷ work) w = statement_unmarked a position work w
  work_unmarked (loop_end cs position ∷ work) w = turn_unmarked w.turns w _ (λ w. tt)
  work_unmarked (procedure_end line ∷ work) w = turn_unmarked w.turns w _ (λ w. tt)
  work_unmarked (branch_end ∷ work) w = turn_unmarked w.turns w _ (λ w. tt)
  work_unmarked (program_entry ∷ work) w = turn_unmarked w.turns w _ (λ w. tt)
  work_unmarked (program_end ∷ work) w = turn_unmarked w.turns w _ (λ w. tt)

-- ---- a marked process

-- p is at a `when` whose conditions call nothing, and none of them is true with these variables
pub record Idle (unit : ProgramUnit) (live : Table Process) (store : Store) (p : Name) : Type 0 where
  pub process : Process
  pub found : find live p ≡ Some process
  pub clauses : Clauses
  pub position : Position
  pub standing : process.standing ≡ at_when clauses position
  pub quiet : is_quiet clauses ≡ true
  pub none : (deeper : Acts → World → Evaluation (Unit {0})) (w : World) → w.store ≡ store → first unit p process.size deeper clauses w ≡ gives false w

-- nothing but the turns has changed
pub record SameBut (s t : Processes) : Type 0 where
  pub live : t.live ≡ s.live
  pub store : t.world.store ≡ s.world.store
  pub system : t.world.system ≡ s.world.system

-- what a step leaves that marks its process
abbrev pub Marks : ProgramUnit → Processes → Name → Stepped → Type 0
Marks unit s p (went t next true) = SameBut s t × Idle unit s.live s.world.store p
Marks unit s p (went t next false) = ⊤
Marks unit s p (ended ending system turns) = ⊤

module _ (unit : ProgramUnit) (s : Processes) (p : Name) (q : Process) (found : find s.live p ≡ Some q) where
  unmarked : Handles unit s p q IsNotAgain (λ ending system turns. ⊤) (Marks unit s p)
  unmarked = record {
    of_end = λ ending system turns h. tt;
    of_goes = λ work w h. tt;
    of_arrives = λ cs position work w h. tt;
    of_again = λ cs position quiet work w h. absurd h;
    of_no_fork = λ bs line work w ending o h. tt;
    of_fork = λ bs line work w n share e h. tt;
    of_leaves = λ w k h. tt;
    of_awaited = λ w y n e g h. tt;
  }

  -- an attempt that found nothing
  failed_marks : (cs : Clauses) (position : Position) → q.standing ≡ at_when cs position → (quiet : Bool) → is_quiet cs ≡ quiet → (w : World)
      → whole_first unit p q.size cs s.world ≡ gives false w →
      (n : ℕ) → Marks unit s p (kernel unit s p q (turn_from n w (gives (again cs position quiet q.work))))
  failed_marks cs position st quiet e w h zero = tt
  failed_marks cs position st false e w h (suc n) = tt
  failed_marks cs position st true e w h (suc n) =
      let none : (w ≡ s.world) × ((deeper : Acts → World → Evaluation (Unit {0})) (v : World) → v.store ≡ s.world.store → first unit p q.size deeper cs v
      ≡ gives false v) =
      none_true unit p q.size s.world.store cs e (levels_of unit p q.size s.world.turns) s.world w refl h in
      let as_before : record q { work = q.work; standing = at_when cs position } ≡ q = ap (λ x. record q { standing = x }) (sym st) in (
        record {
          live = ap (with_at s.live p) as_before ∙ with_at-found s.live p q found;
          store = ap (λ v. v.store) none.0;
          system = ap (λ v. v.system) none.0;
        },
        record { process = q; found = found; clauses = cs; position = position; standing = st; quiet = e; none = none.1 },
      )

  attempt_marks : (cs : Clauses) (position : Position) → q.standing ≡ at_when cs position → (r : Evaluation Bool) → whole_first unit p q.size cs s.world ≡ r →
      Marks unit s p (kernel unit s p q (r >>= λ ran w. if ran then gives (goes q.work) w else turn w (gives (again cs position (is_quiet cs) q.work))))
  attempt_marks cs position st (gives true w) h = tt
  attempt_marks cs position st (gives false w) h = failed_marks cs position st (is_quiet cs) refl w h w.turns
  attempt_marks cs position st (ends e system turns) h = tt

  local_marks : (standing : Standing) → q.standing ≡ standing → Marks unit s p (kernel unit s p q (local_step unit p q.size standing q.work s.world))
  local_marks ready st = kernel_handles unit s p q _ _ (Marks unit s p) unmarked (work_step unit p q.size q.work s.world)
      (work_unmarked unit p q.size q.work s.world)
  local_marks (at_when cs position) st = attempt_marks cs position st (whole_first unit p q.size cs s.world) refl
  local_marks (waiting n) st = tt

pub step_marks : (unit : ProgramUnit) (s : Processes) (p : Name) (q : Process) → find s.live p ≡ Some q → Marks unit s p (step unit s p)
step_marks unit s p q found = of_process unit s p q (Marks unit s p) found (local_marks unit s p q found q.standing refl)

-- ---- where every process that may step is idle

pub idle_same : (unit : ProgramUnit) (s t : Processes) (p : Name) → SameBut s t → Idle unit s.live s.world.store p → Idle unit t.live t.world.store p
idle_same unit s t p e i = record {
  process = i.process;
  found = ap (λ l. find l p) e.live ∙ i.found;
  clauses = i.clauses;
  position = i.position;
  standing = i.standing;
  quiet = i.quiet;
  none = λ deeper w f. i.none deeper w (f ∙ e.store);
}

same_again : (s : Processes) → SameBut s s
same_again s = record { live = refl; store = refl; system = refl }

same_twice : (s t u : Processes) → SameBut s t → SameBut t u → SameBut s u
same_twice s t u e f = record { live = f.live ∙ e.live; store = f.store ∙ e.store; system = f.system ∙ e.system }

-- the step of an idle process takes a turn, or ends for want of one
abbrev Idles : Processes → Stepped → Type 0
Idles s (went t next quiet) = SameBut s t
Idles s (ended ending system turns) = (ending ≡ outcome.turns) × (system ≡ s.world.system)

idle_step : (unit : ProgramUnit) (s : Processes) (p : Name) → Idle unit s.live s.world.store p → Idles s (step unit s p)
idle_step unit s p i =
    let Q : Standing → Type 0 = λ x. Idles s (kernel unit s p i.process (local_step unit p i.process.size x i.process.work s.world)) in
    of_process unit s p i.process (Idles s) i.found (subst Q (sym i.standing) (tried (i.none (levels_of unit p i.process.size s.world.turns) s.world refl)))
  where
    turned : (n : ℕ) → Idles s (kernel unit s p i.process (turn_from n s.world (gives (again i.clauses i.position (is_quiet i.clauses) i.process.work))))
    turned zero = (refl, refl)
    turned (suc n) =
        let as_before : record i.process { work = i.process.work; standing = at_when i.clauses i.position } ≡ i.process =
        ap (λ x. record i.process { standing = x }) (sym i.standing) in
        record { live = ap (with_at s.live p) as_before ∙ with_at-found s.live p i.process i.found; store = refl; system = refl }

    tried : whole_first unit p i.process.size i.clauses s.world ≡ gives false s.world
        → Idles s (kernel unit s p i.process (attempt unit p i.process.size i.clauses i.position i.process.work s.world))
    tried h =
        let R : Evaluation Bool → Type 0 = λ r. Idles s
        (kernel unit s p i.process (r >>= λ ran w. if ran then gives (goes i.process.work) w else turn w
        (gives (again i.clauses i.position (is_quiet i.clauses) i.process.work)))) in
        subst R (sym h) (turned s.world.turns)

-- every process that may step is idle
abbrev pub AllIdle : ProgramUnit → Processes → Type 0
AllIdle unit s = (p : Name) → may_step s p ≡ true → Idle unit s.live s.world.store p

idle_onward : (s : Processes) (x : Stepped) (names : List Name) (go : Processes → Led) → Idles s x → ((t : Processes) → SameBut s t → Settled s (go t))
    → Settled s (onward x names go)
idle_onward s (went t next quiet) names go h k = k t h
idle_onward s (ended ending system turns) [] go h k = h
idle_onward s (ended ending system turns) (p ∷ ps) go h k = tt

if_settled : (s : Processes) (b : Bool) (x : Led) → (b ≡ true → Settled s x) → Settled s (if b then x else nowhere)
if_settled s true x h = h refl
if_settled s false x h = tt

settled_from : (unit : ProgramUnit) (names : List Name) (s t : Processes) → SameBut s t → AllIdle unit s → Settled s (permitted unit names t)
settled_from unit [] s t e idle = (e.live, e.store, e.system)
settled_from unit (p ∷ ps) s t e idle =
    if_settled s (may_step t p) _ (λ m. steps m
    (idle_step unit t p (idle_same unit s t p e (idle p (ap (λ l. is_running_process (find l p)) (sym e.live) ∙ m))))
    (λ u f. settled_from unit ps s u (same_twice s t u e f) idle))
  where
    steps : may_step t p ≡ true → Idles t (step unit t p) → ((u : Processes) → SameBut t u → Settled s (permitted unit ps u))
        → Settled s (onward (step unit t p) ps (permitted unit ps))
    steps m i k = go (step unit t p) ps i k
      where
        go : (x : Stepped) (names : List Name) → Idles t x → ((u : Processes) → SameBut t u → Settled s (permitted unit ps u))
            → Settled s (onward x names (permitted unit ps))
        go (went u next quiet) names i k = k u i
        go (ended ending system turns) [] i k = (i.0, i.1 ∙ e.system)
        go (ended ending system turns) (r ∷ rs) i k = tt

pub nothing_happens : (unit : ProgramUnit) (s : Processes) → AllIdle unit s → (names : List Name) → Settled s (permitted unit names s)
nothing_happens unit s idle names = settled_from unit names s s (same_again s) idle

-- ---- where every ready process is marked

pub marked_one : (marks l : List Name) (p : Name) → all_marked marks l ≡ true → has l p ≡ true → has marks p ≡ true
marked_one marks [] p a h = absurd (cc)
marked_one marks (x ∷ xs) p a h = go (has marks x) refl (or_true (same p x) (has xs p) h) a (marked_one marks xs p)
  where
    go : (b : Bool) → has marks x ≡ b → (same p x ≡ true) ⊎ (has xs p ≡ true) → (b && all_marked marks xs) ≡ true
        → (all_marked marks xs ≡ true → has xs p ≡ true → has marks p ≡ true) → has marks p ≡ true
    go false e o f ih = absurd (cc)
    go true e (inl k) f ih = ap (has marks) (same-equal p x k) ∙ e
    go true e (inr k) f ih = ih f k
