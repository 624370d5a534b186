-- Forks: the process waits, and its children begin.
use Rattle.std.proofs.Common.{◌≡◌, ℕ, zero, suc, ◌+◌, ◌-◌, ◌<◌, ◌≤◌, ◌^◌, Bool, true, false, if◌then◌else◌, List, [], ◌∷◌, ◌++◌, length, Some, Result, Ok, Err}
use Rattle.std.proofs.Common.{refl, sym, subst, ap, ◌∙◌, arith, drop, get_or, append_assoc}
use Rattle.std.specs.Prelude.{map, min, nat_lt, slice_get, slice_set, OnErr, OnOk}
use Rattle.std.specs.List.{list_any}
use Rattle.std.proofs.lemmas.List.{append-nil, map-append}
use Rattle.std.proofs.lemmas.Bool.{le-ltb, lt-ltb}
use Rattle.std.proofs.Math.Nat.{div-zero}
use Rattle.edi_calls.specs.Forks.{equal_share, most_processes}
use Rattle.edi_calls.specs.Names.{Name, with_at}
use Rattle.edi_calls.specs.Outcome as outcome
use Rattle.edi_calls.specs.Ready.{joins, child, children}
use Rattle.edi_calls.specs.declared.kinds.Cause.TheVariants as cause
use Rattle.edi_unit.specs.Tree.{Acts, ProgramUnit}
use Rattle.edi_unit.specs.Need.{block_at}
use Rattle.edi_unit.specs.View.{unit_of}
use Rattle.edi_unit.proofs.Limits.{drop_item}
use Rattle.edi_meaning.specs.Evaluation.{World}
use Rattle.edi_meaning.specs.Store.{now, room, shape}
use Rattle.edi_meaning.specs.Step.{Standing, ready, waiting, Work, branch_end, Asks, goes, arrives, again, forks, leaves, Process, Processes, went, ended, back, body_of}
use Rattle.edi_meaning.specs.Step.{child_process, exceeds, fork_taken, forked, kernel, with_child, with_children}
use Rattle.edi_meaning.specs.Whole.{instance_of}
use Rattle.edi_meaning.proofs.Work.{world_of_children}
use Rattle.edi_walk.specs.declared.evaluation.Evaluation as code
use Rattle.edi_walk.specs.declared.forking.Fork as code_fork
use Rattle.edi_walk.specs.declared.memory.Memory as code_memory
use Rattle.edi_walk.specs.declared.process.Asked.TheVariants as asks
use Rattle.edi_walk.specs.declared.process.Process as code_process
use Rattle.edi_walk.specs.declared.process.Standing.TheVariants as stands
use Rattle.edi_walk.specs.declared.process.Work as code_work
use Rattle.edi_walk.specs.declared.stop.Stop.{Stop}
use Rattle.edi_walk.specs.declared.stop.Stop.TheVariants as stop
use Rattle.edi_walk.specs.declared.walker.Walker as code_walker
use Rattle.edi_walk.specs.Data.{spot_of}
use Rattle.edi_walk.specs.Memory.{store_of}
use Rattle.edi_walk.specs.Processes.{acts_bare, AreProcesses, bare_all, ends_branch, ForksFit, Holds, IsProcess, LivesAt, NoneLives, work_of}
use Rattle.edi_walk.specs.Walkers.{BeginAll, Begins, Enlists, Follows, Forked, KernelMakes, Midway, Parted, WaitsThere}
use Rattle.edi_walk.specs.Works.{IsCalm}
use Rattle.edi_walk.proofs.Bare.{body_bare}
use Rattle.edi_walk.proofs.Pieces.{err_is}
use Rattle.edi_walk.proofs.Livings.{are_counted, are_new, are_set, forks_less, forks_of, forks_with, set_twice}

-- ---- one child

pub enlists_there : (c : code_process.Process) (i : ℕ) (old new : List code_process.Process) → LivesAt c.name.items i old → new ≡ slice_set old i c → Enlists c old new
enlists_there c i old new at is t q h e = subst (λ l. AreProcesses l (with_at t c.name.items q)) (sym is) (are_set c.name.items i old t c q h at e)

enlists_new : (c : code_process.Process) (old new : List code_process.Process) → NoneLives c.name.items old → new ≡ old ++ c ∷ [] → Enlists c old new
enlists_new c old new none is t q h e = subst (λ l. AreProcesses l (with_at t c.name.items q)) (sym is) (are_new c.name.items old t c q h none e)

pub enlists_new_so : (result : Result (Unit {0}) Stop) (c : code_process.Process) (old new : List code_process.Process) → NoneLives c.name.items old →
    OnOk result (new ≡ old ++ c ∷ []) → OnOk result (Enlists c old new)
enlists_new_so (Ok x) c old new none is = enlists_new c old new none is
enlists_new_so (Err x) c old new none is = tt

-- the child of a fork: its instance, its process and its place in the list
pub child_begins : (fork : code_fork.Fork) (i number : ℕ) (old new : code_walker.Walker) (memory : code_memory.Memory) (name : Rattle.std.specs.Global.Vec ℕ)
    (c : code_process.Process) (body : Acts) → name.items ≡ child fork.parent.name.items fork.number i → c.name.items ≡ name.items → c.size ≡ fork.share →
    c.forks ≡ 0 → c.standing ≡ stands.Ready → work_of c.work.items [] ≡ acts_bare body ++ ends_branch ∷ [] →
    body ≡ (block_at (unit_of old.evaluation.unit.now).blocks number).body →
    store_of memory ≡ with_at (store_of old.evaluation.memory) name.items
    (instance_of (unit_of old.evaluation.unit.now) old.evaluation.name.items old.evaluation.size number (spot_of fork.parent) [] ∷ []) →
    new.evaluation ≡ record old.evaluation { memory = memory } → Enlists c old.live.items new.live.items → new.listed.items ≡ old.listed.items ++ name ∷ [] →
    Begins fork i number old new
child_begins fork i number old new memory name c body named mine sized forked stand work is store evaluation enlists listed unit bound s more h =
    let n = child fork.parent.name.items fork.number i in
    let q = child_process unit fork.share number in
    let todo : work_of c.work.items [] ≡ bare_all q.work =
    work ∙ ap (λ x. acts_bare x ++ ends_branch ∷ []) (is ∙ ap (λ u. (block_at u.blocks number).body) h.unit_is) ∙ sym (body_bare unit number (branch_end ∷ [])) in
    let process : IsProcess c c.name.items q = record {
      named = refl;
      size = sized;
      forks = forked;
      work = todo;
      standing = subst (λ k. Rattle.edi_walk.specs.Processes.StandsSo k ready) (sym stand) tt;
    } in
    record {
      unit_is = ap (λ (e : code.Evaluation). unit_of e.unit.now) evaluation ∙ h.unit_is;
      live = subst (λ r. AreProcesses new.live.items (with_at s.live r q)) (mine ∙ named) (enlists s.live q h.live process);
      listed_are = ap (λ l. map (λ x. x.items) l) listed ∙ map-append (λ x. x.items) old.listed.items (name ∷ []) ∙ ap (λ l. l ++ name.items ∷ []) h.listed_are
          ∙ ap (λ r. more ++ r ∷ []) named;
      store = ap (λ (e : code.Evaluation). store_of e.memory) evaluation ∙ store
          ∙ ap (λ r. with_at (store_of old.evaluation.memory) r
          (instance_of (unit_of old.evaluation.unit.now) old.evaluation.name.items old.evaluation.size number (spot_of fork.parent) [] ∷ [])) named
          ∙ ap (λ u. with_at (store_of old.evaluation.memory) n (instance_of u n fork.share number (spot_of fork.parent) [] ∷ [])) h.unit_is
          ∙ ap (λ x. with_at x n (instance_of unit n fork.share number (spot_of fork.parent) [] ∷ [])) h.store;
      turns = ap (λ (e : code.Evaluation). e.turns) evaluation ∙ h.turns;
      forks = forks_with bound s.world.turns s.live n q h.forks (omega (arith, h.within));
      within = h.within;
      small = h.small;
      free = ap (λ (e : code.Evaluation). e.frames.items) evaluation ∙ h.free;
    }

pub child_begun : (result : Result (Unit {0}) Stop) (fork : code_fork.Fork) (i number : ℕ) (old new : code_walker.Walker) (memory : code_memory.Memory)
    (name : Rattle.std.specs.Global.Vec ℕ) (c : code_process.Process) (body : Acts) → name.items ≡ child fork.parent.name.items fork.number i →
    c.name.items ≡ name.items → c.size ≡ fork.share → c.forks ≡ 0 → c.standing ≡ stands.Ready → work_of c.work.items [] ≡ acts_bare body ++ ends_branch ∷ [] →
    body ≡ (block_at (unit_of old.evaluation.unit.now).blocks number).body →
    store_of memory ≡ with_at (store_of old.evaluation.memory) name.items
    (instance_of (unit_of old.evaluation.unit.now) old.evaluation.name.items old.evaluation.size number (spot_of fork.parent) [] ∷ []) →
    new.evaluation ≡ record old.evaluation { memory = memory } → Enlists c old.live.items new.live.items →
    OnOk result (new.listed.items ≡ old.listed.items ++ name ∷ []) → OnOk result (Begins fork i number old new)
child_begun (Ok x) fork i number old new memory name c body named mine sized forked stand work is store evaluation enlists listed =
    child_begins fork i number old new memory name c body named mine sized forked stand work is store evaluation enlists listed
child_begun (Err x) fork i number old new memory name c body named mine sized forked stand work is store evaluation enlists listed = tt

-- ---- all children, from child i on

abbrev pub BegunTo : code_fork.Fork → (i : ℕ) → (rest branches : List ℕ) → (old new : code_walker.Walker) → Type 0
BegunTo fork i rest branches old new =
    (unit : ProgramUnit) (bound : ℕ) (s : Processes) (listed : List Name) → Holds unit bound old s listed →
    (state : Processes) × (more : List Name) × Holds unit bound new state more
    × (with_children unit fork.parent.name.items fork.number i fork.share (spot_of fork.parent) rest state
    ≡ with_children unit fork.parent.name.items fork.number 0 fork.share (spot_of fork.parent) branches s)
    × (more ++ children fork.parent.name.items fork.number i (length rest) ≡ listed ++ children fork.parent.name.items fork.number 0 (length branches))

pub begun_first : (fork : code_fork.Fork) (branches : List ℕ) (old : code_walker.Walker) → BegunTo fork 0 branches branches old old
begun_first fork branches old unit bound s listed h = (s, listed, h, refl, refl)

pub begun_next : (fork : code_fork.Fork) (i number : ℕ) (rest branches : List ℕ) (old mid new : code_walker.Walker) → BegunTo fork i (number ∷ rest) branches old mid →
    Begins fork i number mid new → BegunTo fork (suc i) rest branches old new
begun_next fork i number rest branches old mid new before begins unit bound s listed h =
    let b = before unit bound s listed h in
    let n = child fork.parent.name.items fork.number i in (
      with_child unit n fork.share (spot_of fork.parent) number b.0,
      b.1 ++ n ∷ [],
      begins unit bound b.0 b.1 b.2,
      b.3,
      append_assoc b.1 (n ∷ []) (children fork.parent.name.items fork.number (suc i) (length rest)) ∙ b.4,
    )

pub begun_step : (fork : code_fork.Fork) (branches : List ℕ) (old mid new : code_walker.Walker) (k i number : ℕ) → i ≡ k → k < length branches →
    BegunTo fork k (drop k branches) branches old mid → Begins fork i number mid new → number ≡ get_or branches k number →
    BegunTo fork (k + 1) (drop (k + 1) branches) branches old new
begun_step fork branches old mid new k i number at within before begins is =
    subst (λ n. BegunTo fork n (drop (k + 1) branches) branches old new) (omega arith)
    (begun_next fork k number (drop (k + 1) branches) branches old mid new
    (subst (λ l. BegunTo fork k l branches old mid) (drop_item branches k number within is) before)
    (subst (λ n. Begins fork n number mid new) at begins))

begun_all : (fork : code_fork.Fork) (i : ℕ) (branches : List ℕ) (old new : code_walker.Walker) → BegunTo fork i [] branches old new → BeginAll fork branches old new
begun_all fork i branches old new before unit bound s listed h =
    let b = before unit bound s listed h in
    subst (λ l. Holds unit bound new (with_children unit fork.parent.name.items fork.number 0 fork.share (spot_of fork.parent) branches s) l)
    (sym (append-nil b.1) ∙ b.4) (subst (λ x. Holds unit bound new x b.1) b.3 b.2)

pub all_begun : (fork : code_fork.Fork) (i : ℕ) (branches : List ℕ) (old new : code_walker.Walker) → length branches ≤ i →
    BegunTo fork i (drop i branches) branches old new → BeginAll fork branches old new
all_begun fork i branches old new h before = begun_all fork i branches old new (subst (λ l. BegunTo fork i l branches old new) (beyond i branches h) before)
  where
    beyond : (k : ℕ) (bs : List ℕ) → length bs ≤ k → drop k bs ≡ []
    beyond zero [] h = refl
    beyond (suc k) [] h = refl
    beyond zero (b ∷ bs) h = absurd (omega (arith, h))
    beyond (suc k) (b ∷ bs) h = beyond k bs (omega (arith, h))

-- ---- the process waits

-- a number that is counted one further
counted : (n m : ℕ) → m ≡ min (n + 1) (2 ^ 64 - 1) → n + 1 < 2 ^ 64 → m ≡ suc n
counted n m e h = omega (arith, e, h)

pub parts_so : (index share : ℕ) (branches : List ℕ) (old mid new : code_walker.Walker) (fork : code_fork.Fork) (c : code_process.Process)
    (name : Rattle.std.specs.Global.Vec ℕ) → slice_get old.live.items index ≡ Some c → fork.parent.name.items ≡ old.evaluation.name.items → fork.share ≡ share →
    fork.number ≡ min (c.forks + 1) (2 ^ 64 - 1) →
    spot_of fork.parent ≡ now (shape (store_of old.evaluation.memory)) old.evaluation.name.items → WaitsThere index fork.number (length branches) old.live.items mid.live.items →
    mid.evaluation ≡ record old.evaluation { name = name } → mid.listed ≡ old.listed → BeginAll fork branches mid new → Parted index share branches old new
parts_so index share branches old mid new fork c name there parent shared number spot waits evaluation listed begins unit bound s p q w left others work m b few =
    let done = record m.process { forks = fork.number; standing = stands.Waiting (length branches) } in
    let mine : c ≡ m.process = one_is c m.process (sym there ∙ m.there) in
    let forked : fork.number ≡ suc q.forks =
    counted q.forks fork.number (number ∙ ap (λ (x : code_process.Process). min (x.forks + 1) (2 ^ 64 - 1)) mine ∙ ap (λ n. min (n + 1) (2 ^ 64 - 1)) m.forked)
    (omega (arith, few, m.small)) in
    let q' = record q { forks = suc q.forks; work = work; standing = waiting (length branches) } in
    let held : Holds unit bound mid (back s p q' w) others = record {
      unit_is = ap (λ (e : code.Evaluation). unit_of e.unit.now) evaluation ∙ m.unit_is;
      live = subst (λ l. AreProcesses l (with_at s.live p q'))
          (sym (waits m.process m.there ∙ ap (λ l. slice_set l index done) m.live_is ∙ set_twice m.before index m.process done))
          (are_set p index m.before s.live done q' m.live m.at
          (record { named = m.named; size = m.size; forks = forked; work = ap (λ l. work_of l []) m.work ∙ sym b; standing = refl }));
      listed_are = ap (λ l. map (λ n. n.items) l.items) listed ∙ m.listed_are;
      store = ap (λ (e : code.Evaluation). store_of e.memory) evaluation ∙ m.store;
      turns = ap (λ (e : code.Evaluation). e.turns) evaluation ∙ m.turns;
      forks = forks_with bound w.turns s.live p q' m.forks few;
      within = m.within;
      small = m.small;
      free = ap (λ (e : code.Evaluation). e.frames.items) evaluation ∙ m.free;
    } in
    let made = begins unit bound (back s p q' w) others held in
    let here : spot_of fork.parent ≡ now (shape w.store) p = spot ∙ ap (λ n. now (shape (store_of old.evaluation.memory)) n) m.name ∙ ap (λ x. now (shape x) p) m.store in
    let called : fork.parent.name.items ≡ p = parent ∙ m.name in
    subst (λ r. Holds unit bound new (with_children unit r (suc q.forks) 0 share (now (shape w.store) p) branches (back s p q' w)) (others ++ children r (suc q.forks) 0 (length branches)))
    called
    (subst (λ f. Holds unit bound new (with_children unit fork.parent.name.items f 0 share (now (shape w.store) p) branches (back s p q' w))
    (others ++ children fork.parent.name.items f 0 (length branches))) forked
    (subst (λ n. Holds unit bound new (with_children unit fork.parent.name.items fork.number 0 n (now (shape w.store) p) branches (back s p q' w))
    (others ++ children fork.parent.name.items fork.number 0 (length branches))) shared
    (subst (λ x. Holds unit bound new (with_children unit fork.parent.name.items fork.number 0 fork.share x branches (back s p q' w))
    (others ++ children fork.parent.name.items fork.number 0 (length branches))) here made)))
  where
    one_is : (x y : code_process.Process) → Some x ≡ Some y → x ≡ y
    one_is x y e = cc

pub all_parted : (result : Result (Unit {0}) Stop) (index share : ℕ) (branches : List ℕ) (old mid new : code_walker.Walker) (fork : code_fork.Fork) (c : code_process.Process)
    (name : Rattle.std.specs.Global.Vec ℕ) → slice_get old.live.items index ≡ Some c → fork.parent.name.items ≡ old.evaluation.name.items → fork.share ≡ share →
    fork.number ≡ min (c.forks + 1) (2 ^ 64 - 1) →
    spot_of fork.parent ≡ now (shape (store_of old.evaluation.memory)) old.evaluation.name.items → WaitsThere index fork.number (length branches) old.live.items mid.live.items →
    mid.evaluation ≡ record old.evaluation { name = name } → mid.listed ≡ old.listed → OnOk result (BeginAll fork branches mid new) →
    OnOk result (Parted index share branches old new)
all_parted (Ok x) index share branches old mid new fork c name there parent shared number spot waits evaluation listed begins =
    parts_so index share branches old mid new fork c name there parent shared number spot waits evaluation listed begins
all_parted (Err x) index share branches old mid new fork c name there parent shared number spot waits evaluation listed begins = tt

-- ---- its turn

forked_ok : (index share : ℕ) (branches : List ℕ) (old mid new : code_walker.Walker) (last : code.Evaluation) (x : Unit {0}) →
    old.evaluation.turns ≡ suc last.turns → last ≡ record old.evaluation { turns = last.turns } → mid ≡ record old { evaluation = last } →
    Parted index share branches mid new → Forked index share branches (Ok x) old new
forked_ok index share branches old mid new last x e is moved parted unit bound s p q w left others work m b =
    let v = record w { turns = last.turns } in
    let taken : w.turns ≡ suc last.turns = sym m.turns ∙ e in
    let once : Midway unit bound (record old { evaluation = last }) index s p q v left others = record {
      before = m.before;
      live = m.live;
      at = m.at;
      found = m.found;
      process = m.process;
      live_is = m.live_is;
      there = m.there;
      named = m.named;
      size = m.size;
      forked = m.forked;
      work = m.work;
      name = ap (λ (y : code.Evaluation). y.name.items) is ∙ m.name;
      unit_is = ap (λ (y : code.Evaluation). unit_of y.unit.now) is ∙ m.unit_is;
      listed_are = m.listed_are;
      store = ap (λ (y : code.Evaluation). store_of y.memory) is ∙ m.store;
      turns = refl;
      forks = forks_less bound last.turns w.turns s.live (omega (arith, taken)) m.forks;
      within = omega (arith, taken, m.within);
      small = m.small;
      free = ap (λ (y : code.Evaluation). y.frames.items) is ∙ m.free;
    } in
    let q' = record q { forks = suc q.forks; work = work; standing = waiting (length branches) } in (
      with_children unit p (suc q.forks) 0 share (now (shape w.store) p) branches (back s p q' v),
      ap (λ n. fork_taken unit s p q branches work w n share) taken,
      parted unit bound s p q v left others work (subst (λ k. Midway unit bound k index s p q v left others) (sym moved) once) b
          (omega (arith, forks_of bound w.turns s.live p q m.forks m.found, taken)),
      ap (λ (z : World). z.system) (world_of_children unit p (suc q.forks) 0 share (now (shape w.store) p) branches (back s p q' v)),
    )

pub forked_so : (index share : ℕ) (branches : List ℕ) (old mid new : code_walker.Walker) (last : code.Evaluation) (result : Result (Unit {0}) Stop) →
    old.evaluation.turns ≡ suc last.turns → last ≡ record old.evaluation { turns = last.turns } → mid ≡ record old { evaluation = last } →
    OnOk result (Parted index share branches mid new) → OnErr result (result ≡ Err stop.NoMemory) → Forked index share branches result old new
forked_so index share branches old mid new last (Ok x) e is moved parted err = forked_ok index share branches old mid new last x e is moved parted
forked_so index share branches old mid new last (Err x) e is moved parted err =
    subst (λ y. Forked index share branches (Err y) old new) (sym (err_is x stop.NoMemory err)) tt

pub forked_calm : (index share : ℕ) (branches : List ℕ) (result : Result (Unit {0}) Stop) (old new : code_walker.Walker) → Forked index share branches result old new →
    IsCalm result
forked_calm index share branches (Ok x) old new h = tt
forked_calm index share branches (Err stop.NoMemory) old new h = tt
forked_calm index share branches (Err stop.Done) old new h = tt
forked_calm index share branches (Err (stop.Halted line)) old new h = tt
forked_calm index share branches (Err (stop.Failed c line)) old new h = tt
forked_calm index share branches (Err stop.Turns) old new h = tt
forked_calm index share branches (Err (stop.Fault number)) old new h = h

-- ---- its limits

module _ (index : ℕ) (branches : Rattle.std.specs.Borrow.Bor (List ℕ)) (line : ℕ) (old new : code_walker.Walker) where
  abbrev fork_of : ProgramUnit → Processes → Name → Process → List Work → World → Rattle.edi_meaning.specs.Step.Stepped
  fork_of unit s p q work w = forked unit s p q branches.now line work w

  -- what the code asks of a fork is what the definition asks
  abbrev pub Forks : Result (Unit {0}) Stop → Type 0
  Forks result =
      (unit : ProgramUnit) (bound : ℕ) (s : Processes) (p : Name) (q : Process) (w : World) (left : List code_work.Work) (others : List Name) (work : List Work) →
      Midway unit bound old index s p q w left others → bare_all work ≡ work_of left [] →
      KernelMakes unit bound s p q (forks branches.now line work) w others result new

  pub forks_follow : (result : Result (Unit {0}) Stop) → Forks result → Follows (asks.Forks branches line) index result old new
  forks_follow result h unit bound s p q w left others (forks ns l work) m b =
      subst (λ n. KernelMakes unit bound s p q (forks n l work) w others result new) (sym b.0)
      (subst (λ n. KernelMakes unit bound s p q (forks branches.now n work) w others result new) (sym b.1) (h unit bound s p q w left others work m b.2))
  forks_follow result h unit bound s p q w left others (goes work) m b = absurd b
  forks_follow result h unit bound s p q w left others (arrives cs position work) m b = absurd b
  forks_follow result h unit bound s p q w left others (again cs position quiet work) m b = absurd b
  forks_follow result h unit bound s p q w left others leaves m b = absurd b

  abbrev share_in : Process → World → Name → ℕ
  share_in q w p = equal_share (room q.size (shape w.store p)) (length branches.now)

  -- too many processes
  pub too_many : nat_lt most_processes (length old.live.items + length branches.now) ≡ true → Forks (Err (stop.Failed cause.ProcessLimit line))
  too_many many unit bound s p q w left others work m b =
      let counted : length old.live.items ≡ length s.live =
      ap length m.live_is ∙ set_length m.before index m.process ∙ are_counted m.before s.live m.live in
      ap (λ t. if t then ended (outcome.failed cause.ProcessLimit line) w.system w.turns
      else if list_any (exceeds unit (share_in q w p)) branches.now then ended (outcome.failed cause.VariableLimit line) w.system w.turns
      else fork_taken unit s p q branches.now work w w.turns (share_in q w p))
      (ap (λ n. nat_lt most_processes (n + length branches.now)) (sym counted) ∙ many)
    where
      set_length : {A : Type 0} (xs : List A) (i : ℕ) (x : A) → length (slice_set xs i x) ≡ length xs
      set_length [] i x = refl
      set_length (y ∷ xs) zero x = refl
      set_length (y ∷ xs) (suc i) x = ap suc (set_length xs i x)

  -- one block needs more than its share; or there is room for all
  module _ (few : nat_lt most_processes (length old.live.items + length branches.now) ≡ false) (c : code_process.Process) (there : slice_get old.live.items index ≡ Some c)
      (share : ℕ)
      (shared : share ≡ equal_share (room c.size (shape (store_of old.evaluation.memory) old.evaluation.name.items)) (length branches.now)) where
    share_is : (unit : ProgramUnit) (bound : ℕ) (s : Processes) (p : Name) (q : Process) (w : World) (left : List code_work.Work) (others : List Name) →
        Midway unit bound old index s p q w left others → share ≡ share_in q w p
    share_is unit bound s p q w left others m =
        let mine : c ≡ m.process = one_is c m.process (sym there ∙ m.there) in
        shared
        ∙ ap (λ (x : code_process.Process). equal_share (room x.size (shape (store_of old.evaluation.memory) old.evaluation.name.items)) (length branches.now)) mine
        ∙ ap (λ n. equal_share (room n (shape (store_of old.evaluation.memory) old.evaluation.name.items)) (length branches.now)) m.size
        ∙ ap (λ n. equal_share (room q.size (shape (store_of old.evaluation.memory) n)) (length branches.now)) m.name
        ∙ ap (λ x. equal_share (room q.size (shape x p)) (length branches.now)) m.store
      where
        one_is : (x y : code_process.Process) → Some x ≡ Some y → x ≡ y
        one_is x y e = cc

    by_limit : (unit : ProgramUnit) (bound : ℕ) (s : Processes) (p : Name) (q : Process) (w : World) (left : List code_work.Work) (others : List Name) (work : List Work)
        (m : Midway unit bound old index s p q w left others) (b : Bool) → list_any (exceeds (unit_of old.evaluation.unit.now) share) branches.now ≡ b →
        fork_of unit s p q work w
        ≡ (if b then ended (outcome.failed cause.VariableLimit line) w.system w.turns else fork_taken unit s p q branches.now work w w.turns share)
    by_limit unit bound s p q w left others work m b e =
        let counted : length old.live.items ≡ length s.live =
        ap length m.live_is ∙ set_length m.before index m.process ∙ are_counted m.before s.live m.live in
        let same = share_is unit bound s p q w left others m in
        ap (λ t. if t then ended (outcome.failed cause.ProcessLimit line) w.system w.turns
        else if list_any (exceeds unit (share_in q w p)) branches.now then ended (outcome.failed cause.VariableLimit line) w.system w.turns
        else fork_taken unit s p q branches.now work w w.turns (share_in q w p))
        (ap (λ n. nat_lt most_processes (n + length branches.now)) (sym counted) ∙ few)
        ∙ ap (λ n. if list_any (exceeds unit n) branches.now then ended (outcome.failed cause.VariableLimit line) w.system w.turns
        else fork_taken unit s p q branches.now work w w.turns n) (sym same)
        ∙ ap (λ u. if list_any (exceeds u share) branches.now then ended (outcome.failed cause.VariableLimit line) w.system w.turns
        else fork_taken unit s p q branches.now work w w.turns share) (sym m.unit_is)
        ∙ ap (λ t. if t then ended (outcome.failed cause.VariableLimit line) w.system w.turns else fork_taken unit s p q branches.now work w w.turns share) e
      where
        set_length : {A : Type 0} (xs : List A) (i : ℕ) (x : A) → length (slice_set xs i x) ≡ length xs
        set_length [] i x = refl
        set_length (y ∷ xs) zero x = refl
        set_length (y ∷ xs) (suc i) x = ap suc (set_length xs i x)

    pub too_large : list_any (exceeds (unit_of old.evaluation.unit.now) share) branches.now ≡ true → Forks (Err (stop.Failed cause.VariableLimit line))
    too_large large unit bound s p q w left others work m b = by_limit unit bound s p q w left others work m true large

    pub room_for_all : list_any (exceeds (unit_of old.evaluation.unit.now) share) branches.now ≡ false → (result : Result (Unit {0}) Stop) →
        Forked index share branches.now result old new → Forks result
    room_for_all fits (Ok x) h unit bound s p q w left others work m b =
        let f = h unit bound s p q w left others work m b in
        record {
          state = f.0;
          next = joins (children p (suc q.forks) 0 (length branches.now));
          quiet = false;
          is = by_limit unit bound s p q w left others work m false fits ∙ f.1;
          holds = f.2;
          system_is = f.3;
        }
    room_for_all fits (Err stop.Turns) h unit bound s p q w left others work m b =
        by_limit unit bound s p q w left others work m false fits
        ∙ ap (λ n. fork_taken unit s p q branches.now work w n share) (sym m.turns ∙ h)
    room_for_all fits (Err stop.NoMemory) h unit bound s p q w left others work m b = tt
    room_for_all fits (Err stop.Done) h unit bound s p q w left others work m b = absurd h
    room_for_all fits (Err (stop.Halted l)) h unit bound s p q w left others work m b = absurd h
    room_for_all fits (Err (stop.Failed d l)) h unit bound s p q w left others work m b = absurd h
    room_for_all fits (Err (stop.Fault number)) h unit bound s p q w left others work m b = absurd h

-- ---- shares

pub no_share : (room n : ℕ) → n ≡ 0 → 0 ≡ equal_share room n
no_share room n e = sym (div-zero room) ∙ ap (λ k. equal_share room k) (sym e)

-- a number of processes above the limit, and one within it
pub above_limit : (a b sat : ℕ) → sat ≡ min (a + b) (2 ^ 64 - 1) → 32 < sat → nat_lt most_processes (a + b) ≡ true
above_limit a b sat e h = lt-ltb 32 (a + b) (omega (arith, e, h))

pub within_limit : (a b sat : ℕ) → sat ≡ min (a + b) (2 ^ 64 - 1) → sat ≤ 32 → nat_lt most_processes (a + b) ≡ false
within_limit a b sat e h = le-ltb 32 (a + b) (omega (arith, e, h))
