-- The end of a child: it goes, and its parent waits for one child less.
use Rattle.std.proofs.Common.{◌≡◌, ℕ, zero, suc, ◌-◌, ◌<◌, ◌≤◌, false, List, [], ◌∷◌, ◌++◌, Some, None, Result, Ok, Err, refl, sym, subst, ap, ◌∙◌, arith}
use Rattle.std.specs.Prelude.{map, slice_get, OnErr, OnOk}
use Rattle.std.proofs.lemmas.List.{append-nil, map-append}
use Rattle.std.specs.Global.{Vec}
use Rattle.edi_calls.specs.Names.{Name, find, with_at, without}
use Rattle.edi_calls.proofs.Names.{some_is}
use Rattle.edi_calls.specs.Ready.{joins, freed, parent_of}
use Rattle.edi_unit.specs.Tree.{ProgramUnit}
use Rattle.edi_unit.specs.View.{unit_of}
use Rattle.edi_meaning.specs.Evaluation.{World}
use Rattle.edi_meaning.specs.Step.{Standing, ready, at_when, waiting, goes, arrives, again, forks, leaves, Process, Processes, went, awaits, back, notified}
use Rattle.edi_meaning.specs.Step.{one_less}
use Rattle.edi_meaning.proofs.Kernel.{rest_of}
use Rattle.edi_walk.specs.declared.evaluation.Evaluation as code
use Rattle.edi_walk.specs.declared.process.Asked.TheVariants as asks
use Rattle.edi_walk.specs.declared.process.Process as code_process
use Rattle.edi_walk.specs.declared.process.Standing as code_standing
use Rattle.edi_walk.specs.declared.process.Standing.TheVariants as stands
use Rattle.edi_walk.specs.declared.process.Work as code_work
use Rattle.edi_walk.specs.declared.stop.Stop.{Stop}
use Rattle.edi_walk.specs.declared.stop.Stop.TheVariants as stop
use Rattle.edi_walk.specs.declared.walker.Walker as code_walker
use Rattle.edi_walk.specs.Memory.{store_of}
use Rattle.edi_walk.specs.Processes.{AreProcesses, Holds, IsProcess, LivesAt, NoneLives, StandsSo, without_named}
use Rattle.edi_walk.specs.Walkers.{Follows, Freed, LessOne, Midway, Notifies, StandsThere}
use Rattle.edi_walk.specs.Works.{IsCalm}
use Rattle.edi_walk.proofs.Pieces.{err_is}
use Rattle.edi_walk.proofs.Livings.{are_found, are_none, are_set, are_without, forks_of, forks_with, forks_without, set_without}

-- ---- the process has gone

pub gone_holds : (unit : ProgramUnit) (bound : ℕ) (old mid : code_walker.Walker) (index : ℕ) (s : Processes) (p : Name) (q : Process) (w : World)
    (left : List code_work.Work) (others : List Name) (memory : Rattle.edi_walk.specs.declared.memory.Memory.Memory) (name : Rattle.std.specs.Global.Vec ℕ) →
    Midway unit bound old index s p q w left others → mid.live.items ≡ without_named old.evaluation.name.items old.live.items →
    mid.evaluation ≡ record old.evaluation { memory = memory; name = name } → store_of memory ≡ without (store_of old.evaluation.memory) old.evaluation.name.items →
    mid.listed ≡ old.listed → Holds unit bound mid (rest_of s p w) others
gone_holds unit bound old mid index s p q w left others memory name m live evaluation store listed = record {
  unit_is = ap (λ (e : code.Evaluation). unit_of e.unit.now) evaluation ∙ m.unit_is;
  live = subst (λ l. AreProcesses l (without s.live p))
      (sym (live ∙ ap (λ n. without_named n old.live.items) m.name ∙ ap (without_named p) m.live_is ∙ set_without p index m.before m.process m.at m.named))
      (are_without p m.before s.live m.live);
  listed_are = ap (λ l. map (λ n. n.items) l.items) listed ∙ m.listed_are;
  store = ap (λ (e : code.Evaluation). store_of e.memory) evaluation ∙ store ∙ ap (λ n. without (store_of old.evaluation.memory) n) m.name ∙ ap (λ x. without x p) m.store;
  turns = ap (λ (e : code.Evaluation). e.turns) evaluation ∙ m.turns;
  forks = forks_without bound w.turns s.live p m.forks;
  within = m.within;
  small = m.small;
  free = ap (λ (e : code.Evaluation). e.frames.items) evaluation ∙ m.free;
}

-- nobody waits for it
pub leaves_alone : (index : ℕ) (old mid : code_walker.Walker) (parent : Name) → NoneLives parent mid.live.items →
    ((unit : ProgramUnit) (bound : ℕ) (s : Processes) (p : Name) (q : Process) (w : World) (left : List code_work.Work) (others : List Name) →
    Midway unit bound old index s p q w left others → Holds unit bound mid (rest_of s p w) others × (parent ≡ parent_of p)) →
    Follows asks.Leaves index (Ok tt) old mid
leaves_alone index old mid parent none gone unit bound s p q w left others leaves m b =
    let g = gone unit bound s p q w left others m in
    let rest = rest_of s p w in
    let lost : find rest.live (parent_of p) ≡ None = are_none (parent_of p) mid.live.items rest.live g.0.live (subst (λ n. NoneLives n mid.live.items) g.1 none) in
    record {
      state = rest;
      next = joins [];
      quiet = false;
      is = ap (notified rest (parent_of p)) lost;
      holds = subst (Holds unit bound mid rest) (sym (append-nil others)) g.0;
      system_is = refl;
    }
leaves_alone index old mid parent none gone unit bound s p q w left others (goes work) m b = absurd b
leaves_alone index old mid parent none gone unit bound s p q w left others (arrives cs position work) m b = absurd b
leaves_alone index old mid parent none gone unit bound s p q w left others (again cs position quiet work) m b = absurd b
leaves_alone index old mid parent none gone unit bound s p q w left others (forks bs line work) m b = absurd b

-- its parent waits for it
pub leaves_parent : (index : ℕ) (old mid new : code_walker.Walker) (parent : Name) (at : ℕ) (result : Result (Unit {0}) Stop) →
    LivesAt parent at mid.live.items → Notifies parent at result mid new →
    ((unit : ProgramUnit) (bound : ℕ) (s : Processes) (p : Name) (q : Process) (w : World) (left : List code_work.Work) (others : List Name) →
    Midway unit bound old index s p q w left others → Holds unit bound mid (rest_of s p w) others × (parent ≡ parent_of p)) →
    Follows asks.Leaves index result old new
leaves_parent index old mid new parent at (Ok x) lives notifies gone unit bound s p q w left others leaves m b =
    let g = gone unit bound s p q w left others m in
    let rest = rest_of s p w in
    let f = are_found (parent_of p) at mid.live.items rest.live g.0.live (subst (λ r. LivesAt r at mid.live.items) g.1 lives) in
    let told : Notifies (parent_of p) at (Ok x) mid new = subst (λ r. Notifies r at (Ok x) mid new) g.1 notifies in
    let n = told unit bound rest others f.q g.0 (subst (λ r. LivesAt r at mid.live.items) g.1 lives) f.found in
    record {
      state = n.0;
      next = joins n.1;
      quiet = false;
      is = ap (notified rest (parent_of p)) f.found ∙ n.2;
      holds = n.3;
      system_is = n.4;
    }
leaves_parent index old mid new parent at (Ok x) lives notifies gone unit bound s p q w left others (goes work) m b = absurd b
leaves_parent index old mid new parent at (Ok x) lives notifies gone unit bound s p q w left others (arrives cs position work) m b = absurd b
leaves_parent index old mid new parent at (Ok x) lives notifies gone unit bound s p q w left others (again cs position quiet work) m b = absurd b
leaves_parent index old mid new parent at (Ok x) lives notifies gone unit bound s p q w left others (forks bs line work) m b = absurd b
leaves_parent index old mid new parent at (Err stop.NoMemory) lives notifies gone unit bound s p q w left others a m b = tt
leaves_parent index old mid new parent at (Err stop.Done) lives notifies gone unit bound s p q w left others a m b = absurd notifies
leaves_parent index old mid new parent at (Err (stop.Halted line)) lives notifies gone unit bound s p q w left others a m b = absurd notifies
leaves_parent index old mid new parent at (Err (stop.Failed c line)) lives notifies gone unit bound s p q w left others a m b = absurd notifies
leaves_parent index old mid new parent at (Err stop.Turns) lives notifies gone unit bound s p q w left others a m b = absurd notifies
leaves_parent index old mid new parent at (Err (stop.Fault number)) lives notifies gone unit bound s p q w left others a m b = absurd notifies

-- ---- the parent

-- another process stands so
pub stand_holds : (unit : ProgramUnit) (bound : ℕ) (old new : code_walker.Walker) (index : ℕ) (s : Processes) (listed more : List Name) (r : Name) (q : Process)
    (c : code_process.Process) (standing : code_standing.Standing) (st : Standing) → Holds unit bound old s listed → LivesAt r index old.live.items →
    find s.live r ≡ Some q → slice_get old.live.items index ≡ Some c → IsProcess c r q → StandsThere index standing old.live.items new.live.items →
    new.evaluation ≡ old.evaluation → map (λ n. n.items) new.listed.items ≡ map (λ n. n.items) old.listed.items ++ more → StandsSo standing st →
    Holds unit bound new (back s r (record q { standing = st }) s.world) (listed ++ more)
stand_holds unit bound old new index s listed more r q c standing st h at found there is stands same names so = record {
  unit_is = ap (λ (e : code.Evaluation). unit_of e.unit.now) same ∙ h.unit_is;
  live = subst (λ l. AreProcesses l (with_at s.live r (record q { standing = st }))) (sym (stands c there))
      (are_set r index old.live.items s.live (record c { standing = standing }) (record q { standing = st }) h.live at
      (record { named = is.named; size = is.size; forks = is.forks; work = is.work; standing = so }));
  listed_are = names ∙ ap (λ l. l ++ more) h.listed_are;
  store = ap (λ (e : code.Evaluation). store_of e.memory) same ∙ h.store;
  turns = ap (λ (e : code.Evaluation). e.turns) same ∙ h.turns;
  forks = forks_with bound s.world.turns s.live r (record q { standing = st }) h.forks (forks_of bound s.world.turns s.live r q h.forks found);
  within = h.within;
  small = h.small;
  free = ap (λ (e : code.Evaluation). e.frames.items) same ∙ h.free;
}

-- it does not wait
pub idle_parent : (old : code_walker.Walker) (parent : Name) (index : ℕ) (c : code_process.Process) (x : Unit {0}) → slice_get old.live.items index ≡ Some c →
    ((n : ℕ) → c.standing ≡ stands.Waiting n → ⊥) → Notifies parent index (Ok x) old old
idle_parent old parent index c x there idle unit bound s listed q h at found =
    let f = are_found parent index old.live.items s.live h.live at in
    let mine : StandsSo c.standing q.standing =
    subst (λ y. StandsSo c.standing (Process.standing y)) (some_is (sym f.found ∙ found))
    (subst (λ y. StandsSo (code_process.Process.standing y) f.q.standing) (some_is (sym f.there ∙ there)) f.is.standing) in
    (s, [], by_standing q.standing mine, subst (Holds unit bound old s) (sym (append-nil listed)) h, refl)
  where
    waits : (k : code_standing.Standing) (n : ℕ) → StandsSo k (waiting n) → k ≡ stands.Waiting n
    waits (stands.Waiting m) n e = ap stands.Waiting (sym e)
    waits stands.Ready n e = absurd e
    waits (stands.AtWhen cs) n e = absurd e

    by_standing : (st : Standing) → StandsSo c.standing st → one_less s parent q st ≡ went s (joins []) false
    by_standing ready e = refl
    by_standing (at_when cs position) e = refl
    by_standing (waiting n) e = absurd (idle n (waits c.standing n e))

-- it waits for one less
lost : (n : ℕ) (parent : Name) (index : ℕ) (x : Stop) (old new : code_walker.Walker) → LessOne n parent index (Err x) old new → Notifies parent index (Err x) old new
lost n parent index stop.NoMemory old new h = tt
lost zero parent index stop.Done old new h = h
lost zero parent index (stop.Halted line) old new h = h
lost zero parent index (stop.Failed c line) old new h = h
lost zero parent index stop.Turns old new h = h
lost zero parent index (stop.Fault number) old new h = h
lost (suc zero) parent index stop.Done old new h = h
lost (suc zero) parent index (stop.Halted line) old new h = h
lost (suc zero) parent index (stop.Failed c line) old new h = h
lost (suc zero) parent index stop.Turns old new h = h
lost (suc zero) parent index (stop.Fault number) old new h = h
lost (suc (suc n)) parent index stop.Done old new h = h
lost (suc (suc n)) parent index (stop.Halted line) old new h = h
lost (suc (suc n)) parent index (stop.Failed c line) old new h = h
lost (suc (suc n)) parent index stop.Turns old new h = h
lost (suc (suc n)) parent index (stop.Fault number) old new h = h

less_so : (old new : code_walker.Walker) (parent : Name) (index n : ℕ) (c : code_process.Process) (x : Unit {0}) →
    slice_get old.live.items index ≡ Some c → c.standing ≡ stands.Waiting n → LessOne n parent index (Ok x) old new → Notifies parent index (Ok x) old new
less_so old new parent index n c x there waits less unit bound s listed q h at found =
    let f = are_found parent index old.live.items s.live h.live at in
    let is : IsProcess c parent q =
    subst (λ y. IsProcess c parent y) (some_is (sym f.found ∙ found)) (subst (λ y. IsProcess y parent f.q) (some_is (sym f.there ∙ there)) f.is) in
    by_standing q.standing refl is (subst (λ k. StandsSo k q.standing) waits is.standing) n less refl
  where
    at_less : (i k : ℕ) → i - 1 ≡ k → one_less s parent q (waiting i) ≡ went (back s parent (record q { standing = awaits k }) s.world) (freed k parent) false
    at_less i k e = ap (λ k. went (back s parent (record q { standing = awaits k }) s.world) (freed k parent) false) e

    by_standing : (st : Standing) → q.standing ≡ st → IsProcess c parent q → StandsSo (stands.Waiting n) st → (m : ℕ) → LessOne m parent index (Ok x) old new →
        m ≡ n →
        (state : Processes) × (ps : List Name) × (one_less s parent q st ≡ went state (joins ps) false) × Holds unit bound new state (listed ++ ps)
        × (state.world.system ≡ s.world.system)
    by_standing ready e is so m l k = absurd so
    by_standing (at_when cs position) e is so m l k = absurd so
    by_standing (waiting j) e is so zero l k = (
      back s parent (record q { standing = ready }) s.world,
      parent ∷ [],
      at_less j 0 (omega (arith, so, k)),
      stand_holds unit bound old new index s listed (parent ∷ []) parent q c stands.Ready ready h at found there is l.live l.evaluation l.listed tt,
      refl,
    )
    by_standing (waiting j) e is so (suc zero) l k = (
      back s parent (record q { standing = ready }) s.world,
      parent ∷ [],
      at_less j 0 (omega (arith, so, k)),
      stand_holds unit bound old new index s listed (parent ∷ []) parent q c stands.Ready ready h at found there is l.live l.evaluation l.listed tt,
      refl,
    )
    by_standing (waiting j) e is so (suc (suc m)) l k = (
      back s parent (record q { standing = waiting (suc m) }) s.world,
      [],
      at_less j (suc m) (omega (arith, so, k)),
      stand_holds unit bound old new index s listed [] parent q c (stands.Waiting (suc m)) (waiting (suc m)) h at found there is l.0
          (ap (λ (w : code_walker.Walker). w.evaluation) l.1) (ap (λ (w : code_walker.Walker). map (λ n. n.items) w.listed.items) l.1 ∙ sym (append-nil _)) refl,
      refl,
    )

pub less_parent : (old new : code_walker.Walker) (parent : Name) (index n : ℕ) (c : code_process.Process) (result : Result (Unit {0}) Stop) →
    slice_get old.live.items index ≡ Some c → c.standing ≡ stands.Waiting n → LessOne n parent index result old new → Notifies parent index result old new
less_parent old new parent index n c (Ok x) there waits less = less_so old new parent index n c x there waits less
less_parent old new parent index n c (Err x) there waits less = lost n parent index x old new less

pub less_calm : (parent : Name) (index : ℕ) (result : Result (Unit {0}) Stop) (old new : code_walker.Walker) → Notifies parent index result old new →
    IsCalm result
less_calm parent index (Ok x) old new h = tt
less_calm parent index (Err stop.NoMemory) old new h = tt
less_calm parent index (Err stop.Done) old new h = tt
less_calm parent index (Err (stop.Halted line)) old new h = tt
less_calm parent index (Err (stop.Failed c line)) old new h = tt
less_calm parent index (Err stop.Turns) old new h = tt
less_calm parent index (Err (stop.Fault number)) old new h = h

-- children are left; or none is
pub fewer_left : (old new : code_walker.Walker) (parent : Name) (index n : ℕ) → 1 < n → StandsThere index (stands.Waiting (n - 1)) old.live.items new.live.items →
    new ≡ record old { live = new.live } → LessOne n parent index (Ok tt) old new
fewer_left old new parent index zero h live others = absurd (omega (arith, h))
fewer_left old new parent index (suc zero) h live others = absurd (omega (arith, h))
fewer_left old new parent index (suc (suc n)) h live others =
    let same : suc (suc n) - 1 ≡ suc n = omega arith in
    (subst (λ k. StandsThere index (stands.Waiting k) old.live.items new.live.items) same live, others)

pub fewer_freed : (old new : code_walker.Walker) (parent : Name) (index n : ℕ) (result : Result (Unit {0}) Stop) → n ≤ 1 → OnOk result (Freed parent index old new) →
    OnErr result (result ≡ Err stop.NoMemory) → LessOne n parent index result old new
fewer_freed old new parent index zero (Ok x) h g err = g
fewer_freed old new parent index (suc zero) (Ok x) h g err = g
fewer_freed old new parent index (suc (suc n)) (Ok x) h g err = absurd (omega (arith, h))
fewer_freed old new parent index n (Err x) h g err = subst (λ y. LessOne n parent index (Err y) old new) (sym (err_is x stop.NoMemory err)) (by_number n)
  where
    by_number : (n : ℕ) → LessOne n parent index (Err stop.NoMemory) old new
    by_number zero = tt
    by_number (suc zero) = tt
    by_number (suc (suc n)) = tt

pub freed_so : (result : Result (Unit {0}) Stop) (parent : Name) (index : ℕ) (old new : code_walker.Walker) (name : Vec ℕ) →
    StandsThere index stands.Ready old.live.items new.live.items → name.items ≡ parent → new.evaluation ≡ old.evaluation →
    OnOk result (new.listed.items ≡ old.listed.items ++ name ∷ []) → OnOk result (Freed parent index old new)
freed_so (Ok x) parent index old new name live named evaluation listed = record {
  live = live;
  listed = ap (λ l. map (λ n. n.items) l) listed ∙ map-append (λ n. n.items) old.listed.items (name ∷ []) ∙ ap (λ p. map (λ n. n.items) old.listed.items ++ p ∷ []) named;
  evaluation = evaluation;
}
freed_so (Err x) parent index old new name live named evaluation listed = tt
