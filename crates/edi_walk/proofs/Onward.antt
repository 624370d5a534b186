-- A step of one process, from what the process does to what that asks for all processes.
use Rattle.std.proofs.Common.{◌≡◌, ℕ, zero, suc, ◌-◌, ◌<◌, ◌≤◌, false, List, [], ◌∷◌, ◌++◌, length, Some, Result, Ok, Err}
use Rattle.std.proofs.Common.{refl, sym, subst, ap, ◌∙◌, arith, get_or, take, drop, nat_eq, ◌^◌}
use Rattle.std.specs.Prelude.{map, slice_get, slice_set, OnErr, OnOk}
use Rattle.std.proofs.lemmas.List.{map-append}
use Rattle.edi_calls.specs.Names.{Name, find, with_at}
use Rattle.edi_calls.proofs.Names.{some_is}
use Rattle.edi_calls.specs.Outcome as outcome
use Rattle.edi_calls.specs.Outcome.{Ending}
use Rattle.edi_calls.specs.Ready.{stays, joins}
use Rattle.edi_calls.specs.State.{State, Traced}
use Rattle.edi_unit.specs.Tree.{ProgramUnit}
use Rattle.edi_unit.specs.View.{unit_of}
use Rattle.edi_meaning.specs.Evaluation.{World, Evaluation, gives, ends}
use Rattle.edi_meaning.specs.Laws.{GoesFrom, Grows}
use Rattle.edi_meaning.specs.Step.{Work, Standing, ready, at_when, waiting, Asks, goes, arrives, again, forks, leaves, Process, Processes}
use Rattle.edi_meaning.specs.Step.{back, kernel, local_step, program_end, program_entry, start, step, step_of}
use Rattle.edi_meaning.specs.Store.{now, shape}
use Rattle.edi_meaning.proofs.Going.{goes_same}
use Rattle.edi_meaning.proofs.Kernel.{Handles, kernel_handles}
use Rattle.edi_meaning.proofs.Lasting.{Gives}
use Rattle.edi_meaning.proofs.Work.{world_of_children}
use Rattle.edi_walk.specs.declared.evaluation.Evaluation as code
use Rattle.edi_walk.specs.declared.process.Asked as code_asked
use Rattle.edi_walk.specs.declared.process.Asked.TheVariants as asks
use Rattle.edi_walk.specs.declared.process.Process as code_process
use Rattle.edi_walk.specs.declared.process.Standing as code_standing
use Rattle.edi_walk.specs.declared.process.Standing.TheVariants as stands
use Rattle.edi_walk.specs.declared.process.Work as code_work
use Rattle.edi_walk.specs.declared.stop.Stop.{Stop}
use Rattle.edi_walk.specs.declared.stop.Stop.TheVariants as stop
use Rattle.edi_walk.specs.declared.walker.Walker as code_walker
use Rattle.edi_walk.specs.Machine.{IsSameProcess, world_of}
use Rattle.edi_walk.specs.Memory.{store_of}
use Rattle.edi_walk.specs.Processes.{AreProcesses, bare_all, Holds, IsProcess, LivesAt, NoneLives, StandsSo, work_of}
use Rattle.edi_walk.specs.Steps.{Continues, Ended, MakesSo, StopsSo}
use Rattle.edi_walk.specs.Walkers.{Follows, GoneBack, KernelMakes, Midway, StandsThere, StepEnds, StepMakes, StepOn, TakenMakes, Takes}
use Rattle.edi_walk.specs.Walkers.{Walks}
use Rattle.edi_walk.specs.Works.{AsksSo, IsCalm, Local}
use Rattle.edi_walk.proofs.Pieces.{err_is}
use Rattle.edi_walk.proofs.Livings.{are_found, are_none, are_set, forks_less, forks_of, forks_with, lives_within, set_there, set_twice}
use Rattle.edi_walk.proofs.Taking.{take_is}
use Rattle.edi_walk.specs.declared.process.Work.TheVariants as code_piece
use Rattle.edi_walk.specs.Ends.{PicksBy}
use Rattle.edi_trace.specs.Drawn.{Drawn}
use Rattle.std.specs.Global.{Vec}
use Rattle.edi_calls.specs.Ready.{take_next, taking}

-- ---- what the kernel makes goes on

goes_by_kernel : (unit : ProgramUnit) (s : Processes) (p : Name) (q : Process) (before : World) → Handles unit s p q (λ a w. GoesFrom before w.system w.turns)
    (λ ending. GoesFrom before) (StepOn before)
goes_by_kernel unit s p q before = record {
  of_end = λ ending system turns h. h;
  of_goes = λ work w h. h;
  of_arrives = λ cs position work w h. h;
  of_again = λ cs position quiet work w h. h;
  of_no_fork = λ bs line work w ending o h. h;
  of_fork = λ bs line work w n share e h.
      let same = world_of_children unit p (suc q.forks) 0 share (now (shape w.store) p) bs
      (back s p (record q { forks = suc q.forks; work = work; standing = waiting (length bs) }) (record w { turns = n })) in
      subst (λ v. GoesFrom before v.system v.turns) (sym same) (omega (arith, e, h.0), h.1, h.2);
  of_leaves = λ w k h. h;
  of_awaited = λ w y n e g h. h;
}

pub kernel_on : (unit : ProgramUnit) (s : Processes) (p : Name) (q : Process) (w : World) (m : Evaluation Asks) → Continues w m → StepOn w (kernel unit s p q m)
kernel_on unit s p q w m h = kernel_handles unit s p q _ _ (StepOn w) (goes_by_kernel unit s p q w) m (so m h)
  where
    so : (m : Evaluation Asks) → Continues w m → Gives (λ a v. GoesFrom w v.system v.turns) (λ ending. GoesFrom w) m
    so (gives a v) h = h
    so (ends e system turns) h = h

-- ---- the step of a process that is found

module _ (unit : ProgramUnit) (s : Processes) (p : Name) (q : Process) (found : find s.live p ≡ Some q) where
  abbrev locally : Evaluation Asks
  locally = local_step unit p q.size q.standing q.work s.world

  step_is : step unit s p ≡ kernel unit s p q locally
  step_is = ap (step_of unit s p) found

  step_gives : (a : Asks) (w : World) → locally ≡ gives a w → step unit s p ≡ kernel unit s p q (gives a w)
  step_gives a w e = step_is ∙ ap (kernel unit s p q) e

  -- it goes no further
  ended_so : (ending : Ending) (new : code.Evaluation) (t : State) → Ended ending new t locally → StepEnds unit s p ending t
  ended_so ending new t h = record {
    system = h.system;
    turns = new.turns;
    is = step_is ∙ ap (kernel unit s p q) h.is;
    system_is = h.system_is;
  }

  pub stops_step : (bound : ℕ) (others : List Name) (x : Stop) (last : code_walker.Walker) (new : code.Evaluation) (t : State) →
      StopsSo s.world.system x new t locally → StepMakes unit bound s p others (Err x) last t
  stops_step bound others stop.Done last new t h = ended_so outcome.done new t h
  stops_step bound others (stop.Halted line) last new t h = ended_so (outcome.halted line) new t h
  stops_step bound others (stop.Failed c line) last new t h = ended_so (outcome.failed c line) new t h
  stops_step bound others stop.Turns last new t h = ended_so outcome.turns new t h
  stops_step bound others (stop.Fault number) last new t h = record {
    before = h.before;
    grew = h.grew;
    next = h.next;
    arguments = h.arguments;
    answer = h.answer;
    answers = h.answers;
    torn = h.torn;
    world = h.world;
    world_is = h.world_is;
    goes = subst (StepOn h.world) (sym step_is) (kernel_on unit s p q h.world locally h.goes);
  }
  stops_step bound others stop.NoMemory last new t h = record {
    world = h.world;
    grew = h.grew;
    system_is = h.system_is;
    goes = subst (StepOn h.world) (sym step_is) (kernel_on unit s p q h.world locally h.goes);
  }

  -- what it asks was done
  pub follows_step : (bound : ℕ) (others : List Name) (a : Asks) (w : World) (result : Result (Unit {0}) Stop) (new : code_walker.Walker) (t : State) →
      locally ≡ gives a w → Grows s.world.system w.system → w.system.now ≡ t → KernelMakes unit bound s p q a w others result new →
      StepMakes unit bound s p others result new t
  follows_step bound others a w (Ok x) new t e grew i k = record {
    state = k.state;
    next = k.next;
    quiet = k.quiet;
    is = step_gives a w e ∙ k.is;
    holds = k.holds;
    system_is = ap (λ (y : Traced). y.now) k.system_is ∙ i;
  }
  follows_step bound others a w (Err (stop.Failed c line)) new t e grew i k =
      record { system = w.system; turns = w.turns; is = step_gives a w e ∙ k; system_is = i }
  follows_step bound others a w (Err stop.Turns) new t e grew i k = record { system = w.system; turns = w.turns; is = step_gives a w e ∙ k; system_is = i }
  follows_step bound others a w (Err stop.NoMemory) new t e grew i k = record {
    world = w;
    grew = grew;
    system_is = i;
    goes = subst (StepOn w) (sym (step_gives a w e)) (kernel_on unit s p q w (gives a w) (goes_same w));
  }
  follows_step bound others a w (Err stop.Done) new t e grew i k = absurd k
  follows_step bound others a w (Err (stop.Halted line)) new t e grew i k = absurd k
  follows_step bound others a w (Err (stop.Fault number)) new t e grew i k = absurd k

-- ---- a process that was found in the code's list

-- the evaluation of process p, as it stands for the world of the definition
module _ (old : code_walker.Walker) (p : Name) (index : ℕ) (c : code_process.Process) (there : slice_get old.live.items index ≡ Some c) (first : code.Evaluation)
    (name : first.name.items ≡ p) (size : first.size ≡ c.size) (same : (first.unit ≡ old.evaluation.unit) × (first.memory ≡ old.evaluation.memory)
    × (first.turns ≡ old.evaluation.turns) × (first.frames ≡ old.evaluation.frames)) where
  world_is : (unit : ProgramUnit) (bound : ℕ) (s : Processes) (others : List Name) → Holds unit bound old s others → world_of first s.world.system ≡ s.world
  world_is unit bound s others h =
      ap (λ m. record { store = store_of m; system = s.world.system; turns = first.turns }) same.1
      ∙ ap (λ x. record { store = x; system = s.world.system; turns = first.turns }) h.store
      ∙ ap (λ n. record { store = s.world.store; system = s.world.system; turns = n }) (same.2 ∙ h.turns)

  -- its own step, in the terms of the definition
  local_so : (unit : ProgramUnit) (bound : ℕ) (s : Processes) (others : List Name) (q : Process) (result : Result code_asked.Asked Stop) (work : List code_work.Work)
      (last : code.Evaluation) (t : State) → Holds unit bound old s others → IsProcess c p q → s.world.system.now ≡ s.world.system.now →
      Local c.standing (work_of c.work.items []) work result first last s.world.system.now t →
      MakesSo s.world.system (AsksSo work) result last t (local_step unit p q.size q.standing q.work s.world)
  local_so unit bound s others q result work last t h is i l =
      subst (λ w. MakesSo s.world.system (AsksSo work) result last t (local_step unit p q.size q.standing q.work w)) (world_is unit bound s others h)
      (subst (λ n. MakesSo s.world.system (AsksSo work) result last t (local_step unit p n q.standing q.work (world_of first s.world.system))) (size ∙ is.size)
      (subst (λ n. MakesSo s.world.system (AsksSo work) result last t (local_step unit n first.size q.standing q.work (world_of first s.world.system))) name
      (subst (λ u. MakesSo s.world.system (AsksSo work) result last t (local_step u first.name.items first.size q.standing q.work (world_of first s.world.system)))
      (ap (λ u. unit_of u.now) same.0 ∙ h.unit_is)
      (l q.standing is.standing q.work (sym is.work) s.world.system i))))

  pub taken_stops : (x : Stop) (work : List code_work.Work) (last : code.Evaluation) (end : code_walker.Walker) (b t : State) →
      Local c.standing (work_of c.work.items []) work (Err x) first last b t → Takes p index (Err x) old end b t
  taken_stops x work last end b t l unit bound s others h at i =
      let f = are_found p index old.live.items s.live h.live at in
      let mine : IsProcess c p f.q = subst (λ y. IsProcess y p f.q) (some_is (sym f.there ∙ there)) f.is in
      stops_step unit s p f.q f.found bound others x end last t
      (local_so unit bound s others f.q (Err x) work last t h mine refl
      (subst (λ y. Local c.standing (work_of c.work.items []) work (Err x) first last y t) (sym i) l))

  pub taken_goes : (asked : code_asked.Asked) (work : List code_work.Work) (last : code.Evaluation) (mid end : code_walker.Walker) (process : code_process.Process)
      (result : Result (Unit {0}) Stop) (b t : State) → Local c.standing (work_of c.work.items []) work (Ok asked) first last b t → IsSameProcess first last →
      last.frames.items ≡ [] → mid.evaluation ≡ last → mid.listed ≡ old.listed → mid.live.items ≡ slice_set old.live.items index process →
      process.work.items ≡ work → process.name ≡ c.name → process.size ≡ c.size → process.forks ≡ c.forks → Follows asked index result mid end →
      Takes p index result old end b t
  taken_goes asked work last mid end process result b t l kept free is listed live working named sized forked follows unit bound s others h at i =
      let f = are_found p index old.live.items s.live h.live at in
      let mine : IsProcess c p f.q = subst (λ y. IsProcess y p f.q) (some_is (sym f.there ∙ there)) f.is in
      let m = local_so unit bound s others f.q (Ok asked) work last t h mine refl
      (subst (λ y. Local c.standing (work_of c.work.items []) work (Ok asked) first last y t) (sym i) l) in
      let w = world_of last m.system in
      let less : last.turns ≤ s.world.turns = omega (arith, kept.turns, same.2, h.turns) in
      follows_step unit s p f.q f.found bound others m.value w result end t m.is m.grew m.system_is
      (follows unit bound s p f.q w work others m.value
      (record {
        before = old.live.items;
        live = h.live;
        at = at;
        found = f.found;
        process = process;
        live_is = live;
        there = ap (λ l. slice_get l index) live ∙ set_there old.live.items index process (lives_within p index old.live.items at);
        named = ap (λ n. n.items) named ∙ mine.named;
        size = sized ∙ mine.size;
        forked = forked ∙ mine.forks;
        work = working;
        name = ap (λ (e : code.Evaluation). e.name.items) is ∙ ap (λ n. n.items) kept.name ∙ name;
        unit_is = ap (λ (e : code.Evaluation). unit_of e.unit.now) is ∙ ap (λ u. unit_of u.now) (kept.unit ∙ same.0) ∙ h.unit_is;
        listed_are = ap (λ l. map (λ n. n.items) l.items) listed ∙ h.listed_are;
        store = ap (λ (e : code.Evaluation). store_of e.memory) is;
        turns = ap (λ (e : code.Evaluation). e.turns) is;
        forks = forks_less bound last.turns s.world.turns s.live less h.forks;
        within = omega (arith, less, h.within);
        small = h.small;
        free = ap (λ (e : code.Evaluation). e.frames.items) is ∙ free;
      })
      m.related)

-- ---- at the back of the list

pub back_holds : (unit : ProgramUnit) (bound : ℕ) (old new : code_walker.Walker) (index : ℕ) (s : Processes) (p : Name) (q : Process) (w : World)
    (left : List code_work.Work) (others : List Name) (standing : code_standing.Standing) (st : Standing) (work : List Work) →
    Midway unit bound old index s p q w left others → GoneBack index standing old new → StandsSo standing st → bare_all work ≡ work_of left [] →
    Holds unit bound new (back s p (record q { work = work; standing = st }) w) (others ++ p ∷ [])
back_holds unit bound old new index s p q w left others standing st work m g stand b =
    let done = record m.process { standing = standing } in
    record {
      unit_is = ap (λ (e : code.Evaluation). unit_of e.unit.now) g.evaluation ∙ m.unit_is;
      live = subst (λ l. AreProcesses l (with_at s.live p (record q { work = work; standing = st })))
          (sym (g.live m.process m.there ∙ ap (λ l. slice_set l index done) m.live_is ∙ set_twice m.before index m.process done))
          (are_set p index m.before s.live done (record q { work = work; standing = st }) m.live m.at
          (record { named = m.named; size = m.size; forks = m.forked; work = ap (λ l. work_of l []) m.work ∙ sym b; standing = stand }));
      listed_are = ap (λ l. map (λ n. n.items) l) g.listed ∙ map-append (λ n. n.items) old.listed.items (old.evaluation.name ∷ [])
          ∙ ap (λ l. l ++ old.evaluation.name.items ∷ []) m.listed_are ∙ ap (λ n. others ++ n ∷ []) m.name;
      store = ap (λ (e : code.Evaluation). store_of e.memory) g.evaluation ∙ m.store;
      turns = ap (λ (e : code.Evaluation). e.turns) g.evaluation ∙ m.turns;
      forks = forks_with bound w.turns s.live p (record q { work = work; standing = st }) m.forks (forks_of bound w.turns s.live p q m.forks m.found);
      within = m.within;
      small = m.small;
      free = ap (λ (e : code.Evaluation). e.frames.items) g.evaluation ∙ m.free;
    }

-- the process goes on; or it stands at its `when`
pub goes_follow : (index : ℕ) (result : Result (Unit {0}) Stop) (old new : code_walker.Walker) → OnOk result (GoneBack index stands.Ready old new) →
    OnErr result (result ≡ Err stop.NoMemory) → Follows asks.Goes index result old new
goes_follow index (Ok x) old new g err unit bound s p q w left others (goes work) m b = record {
  state = back s p (record q { work = work; standing = ready }) w;
  next = stays;
  quiet = false;
  is = refl;
  holds = back_holds unit bound old new index s p q w left others stands.Ready ready work m g tt b;
  system_is = refl;
}
goes_follow index (Ok x) old new g err unit bound s p q w left others (arrives cs position work) m b = absurd b
goes_follow index (Ok x) old new g err unit bound s p q w left others (again cs position quiet work) m b = absurd b
goes_follow index (Ok x) old new g err unit bound s p q w left others (forks bs line work) m b = absurd b
goes_follow index (Ok x) old new g err unit bound s p q w left others leaves m b = absurd b
goes_follow index (Err x) old new g err unit bound s p q w left others a m b =
    subst (λ y. KernelMakes unit bound s p q a w others (Err y) new) (sym (err_is x stop.NoMemory err)) tt

pub stands_follow : (index : ℕ) (list : Rattle.std.specs.Borrow.Bor (List Rattle.edi_unit.specs.declared.statements.Clause.Clause)) (result : Result (Unit {0}) Stop)
    (old new : code_walker.Walker) → OnOk result (GoneBack index (stands.AtWhen list) old new) → OnErr result (result ≡ Err stop.NoMemory) →
    Follows (asks.Stands list) index result old new
stands_follow index list (Ok x) old new g err unit bound s p q w left others (goes work) m b = absurd b
stands_follow index list (Ok x) old new g err unit bound s p q w left others (arrives cs position work) m b = record {
  state = back s p (record q { work = work; standing = at_when cs position }) w;
  next = joins (p ∷ []);
  quiet = false;
  is = refl;
  holds = back_holds unit bound old new index s p q w left others (stands.AtWhen list) (at_when cs position) work m g b.0 b.1;
  system_is = refl;
}
stands_follow index list (Ok x) old new g err unit bound s p q w left others (again cs position quiet work) m b = record {
  state = back s p (record q { work = work; standing = at_when cs position }) w;
  next = joins (p ∷ []);
  quiet = quiet;
  is = refl;
  holds = back_holds unit bound old new index s p q w left others (stands.AtWhen list) (at_when cs position) work m g b.0 b.1;
  system_is = refl;
}
stands_follow index list (Ok x) old new g err unit bound s p q w left others (forks bs line work) m b = absurd b
stands_follow index list (Ok x) old new g err unit bound s p q w left others leaves m b = absurd b
stands_follow index list (Err x) old new g err unit bound s p q w left others a m b =
    subst (λ y. KernelMakes unit bound s p q a w others (Err y) new) (sym (err_is x stop.NoMemory err)) tt

-- ---- places of a list

pub got_there : {A : Type 0} (xs : List A) (i : ℕ) (x : A) → i < length xs → x ≡ get_or xs i x → slice_get xs i ≡ Some x
got_there [] i x h e = absurd (omega (arith, h))
got_there (y ∷ xs) zero x h e = ap Some (sym e)
got_there (y ∷ xs) (suc i) x h e = got_there xs i x (omega (arith, h)) e

pub gone_back : (result : Result (Unit {0}) Stop) (index : ℕ) (standing : code_standing.Standing) (old new : code_walker.Walker) →
    StandsThere index standing old.live.items new.live.items → new.evaluation ≡ record old.evaluation { name = new.evaluation.name } →
    OnOk result (new.listed.items ≡ old.listed.items ++ old.evaluation.name ∷ []) → OnOk result (GoneBack index standing old new)
gone_back (Ok x) index standing old new live evaluation listed = record { live = live; listed = listed; evaluation = evaluation }
gone_back (Err x) index standing old new live evaluation listed = tt

pub back_free : (result : Result (Unit {0}) Stop) (index : ℕ) (standing : code_standing.Standing) (old new : code_walker.Walker) →
    OnOk result (GoneBack index standing old new) → old.evaluation.frames.items ≡ [] → OnOk result (new.evaluation.frames.items ≡ [])
back_free (Ok x) index standing old new g free = ap (λ (e : code.Evaluation). e.frames.items) g.evaluation ∙ free
back_free (Err x) index standing old new g free = tt

pub calm_for_memory : {T : Type 0} (result : Result T Stop) → OnErr result (result ≡ Err stop.NoMemory) → IsCalm result
calm_for_memory (Ok x) err = tt
calm_for_memory {T = T} (Err x) err = subst (λ y. IsCalm {T = T} (Err y)) (sym (err_is x stop.NoMemory err)) tt

-- ---- the first process

pub start_holds : (unit : ProgramUnit) (bound : ℕ) (w : code_walker.Walker) (c : code_process.Process) (n : Vec ℕ) (system : State) →
    unit_of w.evaluation.unit.now ≡ unit → w.live.items ≡ c ∷ [] → w.listed.items ≡ n ∷ [] → n.items ≡ [] → c.name.items ≡ [] → c.size ≡ 65536 → c.forks ≡ 0 →
    c.work.items ≡ code_piece.ProgramEnd ∷ code_piece.ProgramEntry ∷ [] → c.standing ≡ stands.Ready → store_of w.evaluation.memory ≡ [] → w.evaluation.turns ≡ bound →
    bound < 2 ^ 64 → w.evaluation.frames.items ≡ [] → Holds unit bound w (start unit system bound) ([] ∷ [])
start_holds unit bound w c n system is live listed name named size forked work stand store turns small free =
    let q : Process = record { size = 65536; forks = 0; work = program_entry ∷ program_end ∷ []; standing = ready } in
    let first : IsProcess c [] q = record {
      named = named;
      size = size;
      forks = forked;
      work = ap (λ ws. work_of ws []) work;
      standing = subst (λ k. StandsSo k ready) (sym stand) tt;
    } in
    record {
      unit_is = is;
      live = subst (λ l. AreProcesses l (([], q) ∷ [])) (sym live) (first, tt);
      listed_are = ap (λ l. map (λ x. x.items) l) listed ∙ ap (λ l. l ∷ []) name;
      store = store;
      turns = turns;
      forks = (omega arith, tt);
      within = omega arith;
      small = small;
      free = free;
    }

-- ---- who is taken from the list

pub walks_nobody : (w : code_walker.Walker) (o : Drawn) (t : State) → w.listed.items ≡ [] → Walks (Err stop.Turns) w w o o t t
walks_nobody w o t none unit bound s listed few h i =
    subst (λ l. TakenMakes unit bound s (take_next o.source o.drawn l) o.drawn o.drawn (Err stop.Turns) w t)
    (ap (λ l. map (λ n. n.items) l) (sym none) ∙ h.listed_are) (refl, i)

module _ (old mid : code_walker.Walker) (i : ℕ) (name : Vec ℕ) (o n : Drawn) (some : 0 < length old.listed.items) (inside : i < length old.listed.items)
    (picks : PicksBy (nat_eq (length old.listed.items) 1) (length old.listed.items) o i n) (is : name ≡ get_or old.listed.items i name)
    (others : mid.listed.items ≡ take i old.listed.items ++ drop (suc i) old.listed.items) (live : mid.live ≡ old.live) (same : mid.evaluation ≡ old.evaluation) where
  abbrev left_of : List Name
  left_of = map (λ n. n.items) (take i old.listed.items ++ drop (suc i) old.listed.items)

  taken_of : (listed : List Name) → map (λ n. n.items) old.listed.items ≡ listed → o.drawn < 2 ^ 64 - 1 →
      take_next o.source o.drawn listed ≡ taking name.items left_of n.drawn
  taken_of listed e few = ap (take_next o.source o.drawn) (sym e) ∙ take_is old.listed.items o n i name some inside picks few is

  still_holds : (unit : ProgramUnit) (bound : ℕ) (s : Processes) (listed : List Name) → Holds unit bound old s listed → Holds unit bound mid s left_of
  still_holds unit bound s listed h = record {
    unit_is = ap (λ (e : code.Evaluation). unit_of e.unit.now) same ∙ h.unit_is;
    live = subst (λ l. AreProcesses l.items s.live) (sym live) h.live;
    listed_are = ap (λ l. map (λ n. n.items) l) others;
    store = ap (λ (e : code.Evaluation). store_of e.memory) same ∙ h.store;
    turns = ap (λ (e : code.Evaluation). e.turns) same ∙ h.turns;
    forks = h.forks;
    within = h.within;
    small = h.small;
    free = ap (λ (e : code.Evaluation). e.frames.items) same ∙ h.free;
  }

  pub walks_taken : (new : code_walker.Walker) (index : ℕ) (result : Result (Unit {0}) Stop) (b t : State) → LivesAt name.items index mid.live.items →
      Takes name.items index result mid new b t → Walks result old new o n b t
  walks_taken new index result b t at takes unit bound s listed few h e =
      subst (λ k. TakenMakes unit bound s k o.drawn n.drawn result new t) (sym (taken_of listed h.listed_are few))
      (refl, takes unit bound s left_of (still_holds unit bound s listed h) at e)

  pub walks_lost : (b : State) → NoneLives name.items mid.live.items → Walks (Err stop.Turns) old mid o n b b
  walks_lost b none unit bound s listed few h e =
      subst (λ k. TakenMakes unit bound s k o.drawn n.drawn (Err stop.Turns) mid b) (sym (taken_of listed h.listed_are few)) (
        refl,
        record {
          system = s.world.system;
          turns = s.world.turns;
          is = ap (step_of unit s name.items) (are_none name.items mid.live.items s.live (subst (λ l. AreProcesses l.items s.live) (sym live) h.live) none);
          system_is = e;
        },
      )

-- what stands at a place is one
pub one_there : {A : Type 0} (xs : List A) (i : ℕ) (x y : A) → slice_get xs i ≡ Some x → slice_get xs i ≡ Some y → x ≡ y
one_there xs i x y e f = some_is (sym e ∙ f)

pub none_of : {A : Type 0} (xs : List A) → length xs ≡ 0 → xs ≡ []
none_of [] e = refl
none_of (x ∷ xs) e = absurd (omega (arith, e))
