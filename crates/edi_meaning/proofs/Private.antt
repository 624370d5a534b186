-- A step of a process changes no cell but those of its own instances, of its ancestors', and of the children that it
-- makes.
use Rattle.std.proofs.Common.{◌≡◌, ℕ, suc, ◌+◌, ◌-◌, ◌<◌, ◌≤◌, ◌⊎◌, inl, inr, false, List, [], ◌∷◌, ◌++◌, map, take, length, Option, Some, None, refl, sym}
use Rattle.std.proofs.Common.{subst, ap, ◌∙◌, arith}
use Rattle.std.specs.Prelude.{⊤}
use Rattle.edi_calls.specs.State.{State}
use Rattle.edi_calls.specs.Names.{Name, Table, same, find, with_at, without}
use Rattle.edi_calls.specs.Ready.{child, parent_of, freed}
use Rattle.edi_calls.proofs.Tables.{same-or-other, find-with_at-same, find-with_at-other, find-without-other}
use Rattle.edi_unit.specs.Tree.{ProgramUnit}
use Rattle.edi_unit.specs.Values.{Value}
use Rattle.edi_meaning.specs.Store.{Spot, Location, Cell, system_procedure, procedure, Instance, Store, instances, frames, shape, now, put, Owns}
use Rattle.edi_meaning.specs.Evaluation.{World, Evaluation, gives, ends}
use Rattle.edi_meaning.specs.Whole.{instance_of}
use Rattle.edi_meaning.specs.Step.{Work, Standing, ready, at_when, waiting, Asks, Process, Processes, Stepped, went, ended, back, with_child, with_children}
use Rattle.edi_meaning.specs.Step.{fork_taken, awaits, local_step, step_of, step, start}
use Rattle.edi_meaning.specs.Laws.{IsMade, IsPrivate, StepIsPrivate, CellsArePrivate}
use Rattle.edi_meaning.proofs.Lasting.{Every, Gives, Lasting, Keeps}
use Rattle.edi_meaning.proofs.Local.{Moving, local_keeps}
use Rattle.edi_meaning.proofs.Kernel.{rest_of, Handles, kernel_handles, of_process, After, permitted_keep}
use Rattle.edi_meaning.proofs.Own.{owns_self, owns_all, owns_first, owns_parent, every-append, every-take, CellOwned, InstanceOwned, Owned, slot_owned}
use Rattle.edi_meaning.proofs.Own.{meant_owned, calls_fit, instance_owned, instances-other, instances-gone, instances-left, owned_with, owned_without}
use Rattle.edi_meaning.proofs.Own.{put_owned}
use Rattle.edi_meaning.proofs.Frames.{framing, Steps, local_steps}
use Rattle.edi_calls.proofs.Names.{no_some}
use Rattle.edi_meaning.proofs.Family.{Fresh, fresh_changed, fresh_without, free_name, free_next, Forked, forked_children, start_fresh}

-- ---- one process

-- what p leaves of a store while it goes on by itself
pub record Leaves (p : Name) (before store : Store) : Type 0 where
  pub owned : Owned store
  pub others : (r : Name) → (Owns p r → ⊥) → instances store r ≡ instances before r

leaves_all : (p : Name) (store : Store) → Owned store → Leaves p store store
leaves_all p store o = record { owned = o; others = λ r n. refl }

-- who is not p's is not p
not_self : (p r : Name) → (Owns p r → ⊥) → same r p ≡ false
not_self p r n = go (same-or-other r p)
  where
    go : (r ≡ p) ⊎ (same r p ≡ false) → same r p ≡ false
    go (inl e) = absurd (n (subst (Owns p) (sym e) (owns_self p)))
    go (inr m) = m

-- a value is stored in a variable of p or of an ancestor
pub leaves_put : (p : Name) (before store : Store) (l : Location) (v : Value) → Owns p l.spot.0 → Leaves p before store → Leaves p before (put store l v)
leaves_put p before store l v o h = record {
  owned = put_owned store l v h.owned;
  others = λ r n. other r n (same-or-other r l.spot.0);
}
  where
    other : (r : Name) → (Owns p r → ⊥) → (r ≡ l.spot.0) ⊎ (same r l.spot.0 ≡ false) → instances (put store l v) r ≡ instances before r
    other r n (inl e) = absurd (n (subst (Owns p) (sym e) o))
    other r n (inr m) = instances-other store l.spot.0 r _ m ∙ h.others r n

-- p has other instances
leaves_with : (p : Name) (before store : Store) (is : List Instance) → Every (InstanceOwned p) is → Leaves p before store → Leaves p before (with_at store p is)
leaves_with p before store is k h = record {
  owned = owned_with store p is h.owned k;
  others = λ r n. instances-other store p r is (not_self p r n) ∙ h.others r n;
}

module _ (unit : ProgramUnit) (p : Name) (size : ℕ) (before : Store) where
  pub grown_leaves : (number : ℕ) (parent : Spot) (cells : List Cell) (store : Store) → Owns p parent.0 → Every (CellOwned p) cells → Leaves p before store →
      Leaves p before (with_at store p (instances store p ++ instance_of unit p size number parent cells ∷ []))
  grown_leaves number parent cells store c f h =
      leaves_with p before store _ (every-append (InstanceOwned p) (instances store p) _ (h.owned.each p)
      (instance_owned unit p size number parent cells c f, tt)) h

  pub shrunk_leaves : (store : Store) → Leaves p before store → Leaves p before (with_at store p (take (length (instances store p) - 1) (instances store p)))
  shrunk_leaves store h = leaves_with p before store _ (every-take (InstanceOwned p) (length (instances store p) - 1) (instances store p) (h.owned.each p)) h

  abbrev pub privacy : Lasting unit p size
  privacy = record {
    Level = Unit {0};
    Holds = λ x w. Leaves p before w.store;
    Ends = λ e system turns. ⊤;
    Comes = λ x l. Owns p l.spot.0;
    Fits = λ x. CellOwned p;
    over = λ x e w o h. tt;
    turned = λ x n w e h. h;
    stored = λ x l v w c h. leaves_put p before w.store l v c h;
    replied = λ x number asked words system w e h. h;
    called = λ x number parent cells w c f h. (tt, grown_leaves number parent cells w.store c f h, λ v k. shrunk_leaves v.store k);
    of_slot = λ x levels variable w h. slot_owned p w.store levels variable h.owned;
    of_part = λ x l n c. c;
    by_value = λ x v. tt;
    by_location = λ x l c. c;
    to_location = λ x l c. c;
    by_procedure = λ x c w h. meant_owned unit p size c w h.owned;
  }

  private_moves : Moving privacy tt (λ w. Leaves p before w.store)
  private_moves = record {
    stays = λ w h. h;
    grows = λ number parent cells w c f h. grown_leaves number parent cells w.store c f h;
    shrinks = λ w h. shrunk_leaves w.store h;
    begins = λ w h. leaves_with p before w.store _ (
      instance_owned unit p size unit.program ([], 0) (map (λ n. procedure (system_procedure n)) unit.calls) (owns_first p)
          (calls_fit (CellOwned p) (λ n. tt) unit.calls),
      tt,
    ) h;
  }

pub local_leaves : (unit : ProgramUnit) (p : Name) (size : ℕ) (standing : Standing) (work : List Work) (w : World) → Owned w.store →
    Keeps (privacy unit p size w.store) (λ a v. Leaves p w.store v.store) (local_step unit p size standing work w)
local_leaves unit p size standing work w o =
    local_keeps (privacy unit p size w.store) tt (λ v. Leaves p w.store v.store) (private_moves unit p size w.store) standing work w (λ idle v h. tt)
    (leaves_all p w.store o)

-- ---- all processes

-- what every state keeps that permitted steps reach
pub record Proper (s : Processes) : Type 0 where
  pub owned : Owned s.world.store
  pub fresh : Fresh s.live
  -- who is not live has no instances
  pub bare : (r : Name) → find s.live r ≡ None → instances s.world.store r ≡ []

abbrev Moves : Processes → Name → Stepped → Type 0
Moves s p (went t next quiet) = IsPrivate s t p × Proper t
Moves s p (ended ending system turns) = ⊤

-- who is not live with a new entry was not live before
pub none_before : (live : Table Process) (p : Name) (q : Process) (r : Name) → find (with_at live p q) r ≡ None → find live r ≡ None
none_before live p q r e = go (same-or-other r p)
  where
    go : (r ≡ p) ⊎ (same r p ≡ false) → find live r ≡ None
    go (inl h) = absurd (no_some (find (with_at live p q) r) e (ap (find (with_at live p q)) h ∙ find-with_at-same live p q))
    go (inr n) = sym (find-with_at-other live p r q n) ∙ e

pub other_than : (p r : Name) → (r ≡ p → ⊥) → same r p ≡ false
other_than p r n = go (same-or-other r p)
  where
    go : (r ≡ p) ⊎ (same r p ≡ false) → same r p ≡ false
    go (inl e) = absurd (n e)
    go (inr m) = m

pub no_frames : (is : List Instance) → frames is ≡ [] → is ≡ []
no_frames [] e = refl
no_frames (i ∷ is) e = absurd (cc)

-- ---- children

module _ (unit : ProgramUnit) (p : Name) (f share : ℕ) (parent : Spot) (mine : Owns p parent.0) where
  children_owned : (bs : List ℕ) (k : ℕ) (s : Processes) → Owned s.world.store → Owned (with_children unit p f k share parent bs s).world.store
  children_owned [] k s o = o
  children_owned (b ∷ bs) k s o =
      children_owned bs (suc k) (with_child unit (child p f k) share parent b s)
      (owned_with s.world.store (child p f k) _ o
      (instance_owned unit (child p f k) share b parent [] (owns_all (child p f k) p parent.0 (owns_parent p f k) mine) tt, tt))

  -- only children have other instances
  only_children : (bs : List ℕ) (k : ℕ) (s : Processes) (r : Name) →
      (instances (with_children unit p f k share parent bs s).world.store r ≡ instances s.world.store r)
      ⊎ ((j : ℕ) × (k ≤ j) × (j < k + length bs) × (r ≡ child p f j))
  only_children [] k s r = inl refl
  only_children (b ∷ bs) k s r = go (only_children bs (suc k) (with_child unit (child p f k) share parent b s) r) (same-or-other r (child p f k))
    where
      go : (instances (with_children unit p f (suc k) share parent bs (with_child unit (child p f k) share parent b s)).world.store r ≡ instances
          (with_child unit (child p f k) share parent b s).world.store r) ⊎ ((j : ℕ) × (suc k ≤ j) × (j < suc k + length bs) × (r ≡ child p f j)) →
          (r ≡ child p f k) ⊎ (same r (child p f k) ≡ false) →
          (instances (with_children unit p f (suc k) share parent bs (with_child unit (child p f k) share parent b s)).world.store r ≡ instances s.world.store
          r) ⊎ ((j : ℕ) × (k ≤ j) × (j < k + suc (length bs)) × (r ≡ child p f j))
      go (inl e) (inl h) = inr (k, omega arith, omega arith, h)
      go (inl e) (inr n) = inl (e ∙ instances-other s.world.store (child p f k) r _ n)
      go (inr c) n = inr (c.0, omega arith, omega arith, c.3)

-- ---- a step

module _ (unit : ProgramUnit) (s : Processes) (p : Name) (q : Process) (found : find s.live p ≡ Some q) (proper : Proper s) where
  -- what p itself leaves of the store
  abbrev Left : Store → Type 0
  Left store = Leaves p s.world.store store × Steps p s.world.store store

  -- who is not live is not p
  apart : (r : Name) → find s.live r ≡ None → same r p ≡ false
  apart r e = other_than p r (λ h. no_some (find s.live r) e (ap (find s.live) h ∙ found))

  still_bare : (store : Store) → Left store → (r : Name) → find s.live r ≡ None → instances store r ≡ []
  still_bare store l r e = no_frames (instances store r) (l.1.others r (apart r e) ∙ ap frames (proper.bare r e))

  back_moves : (q' : Process) (w : World) → q.forks ≤ q'.forks → Left w.store → IsPrivate s (back s p q' w) p × Proper (back s p q' w)
  back_moves q' w le l = (
    record { cells = λ r n. inl (l.0.others r n); frames = λ r n. inl (l.1.others r (other_than p r n)) },
    record {
      owned = l.0.owned;
      fresh = fresh_changed s.live p q q' found le proper.fresh;
      bare = λ r e. still_bare w.store l r (none_before s.live p q' r e);
    },
  )

  -- its end, however the table of the others is then
  gone_moves : (live : Table Process) (w : World) → Fresh live → ((r : Name) → find live r ≡ None → find (without s.live p) r ≡ None) → Left w.store →
      IsPrivate s (record { live = live; world = record w { store = without w.store p } }) p
      × Proper (record { live = live; world = record w { store = without w.store p } })
  gone_moves live w fresh was l = (
    record {
      cells = λ r n. inl (instances-left w.store p r (not_self p r n) ∙ l.0.others r n);
      frames = λ r n. inl (ap frames (instances-left w.store p r (other_than p r n)) ∙ l.1.others r (other_than p r n));
    },
    record { owned = owned_without w.store p l.0.owned; fresh = fresh; bare = λ r e. bare r (same-or-other r p) (was r e) },
  )
    where
      bare : (r : Name) → (r ≡ p) ⊎ (same r p ≡ false) → find (without s.live p) r ≡ None → instances (without w.store p) r ≡ []
      bare r (inl h) e = ap (instances (without w.store p)) h ∙ instances-gone w.store p
      bare r (inr n) e = instances-left w.store p r n ∙ still_bare w.store l r (sym (find-without-other s.live p r n) ∙ e)

  awaited_moves : (w : World) (r : Name) (y : Process) (n : ℕ) → find (without s.live p) r ≡ Some y → Left w.store →
      Moves s p (went (back (rest_of s p w) r (record y { standing = awaits (n - 1) }) (rest_of s p w).world) (freed (n - 1) r) false)
  awaited_moves w r y n e l =
      let y' : Process = record y { standing = awaits (n - 1) } in
      gone_moves (with_at (without s.live p) r y') w (fresh_changed (without s.live p) r y y' e (omega arith) (fresh_without s.live p proper.fresh))
      (λ x g. none_before (without s.live p) r y' x g) l

  fork_moves : (bs : List ℕ) (work : List Work) (w : World) (n share : ℕ) → Left w.store → Moves s p (fork_taken unit s p q bs work w (suc n) share)
  fork_moves bs work w n share l = (
    record {
      cells = λ r m. only_made r (instances s.world.store r) (λ is. is) (l.0.others r m);
      frames = λ r m. only_made r (shape s.world.store r) frames (l.1.others r (other_than p r m));
    },
    record {
      owned = children_owned unit p f share (now (shape w.store) p) (owns_self p) bs 0 s1 l.0.owned;
      fresh = born.fresh;
      bare = λ r e. bare r e (made r);
    },
  )
    where
      f : ℕ
      f = suc q.forks

      q' : Process
      q' = record q { forks = f; work = work; standing = waiting (length bs) }

      s1 : Processes
      s1 = back s p q' (record w { turns = n })

      t : Processes
      t = with_children unit p f 0 share (now (shape w.store) p) bs s1

      born : Forked s1.live t.live p f 0 (length bs)
      born =
          forked_children unit p f share (now (shape w.store) p) bs 0 q' s1 (find-with_at-same s.live p q') (omega arith)
          (free_next s.live p q q' found proper.fresh)
          (fresh_changed s.live p q q' found (omega arith) proper.fresh)

      made : (r : Name) → (instances t.world.store r ≡ instances w.store r) ⊎ IsMade s t p r
      made r = go (only_children unit p f share (now (shape w.store) p) (owns_self p) bs 0 s1 r)
        where
          go : (instances t.world.store r ≡ instances w.store r) ⊎ ((j : ℕ) × (0 ≤ j) × (j < 0 + length bs) × (r ≡ child p f j))
              → (instances t.world.store r ≡ instances w.store r) ⊎ IsMade s t p r
          go (inl e) = inl e
          go (inr c) =
              let free : find s.live r ≡ None = none_before s.live p q' r
              (ap (find s1.live) c.3 ∙ free_name s1.live p f 0 c.0 c.1 (free_next s.live p q q' found proper.fresh)) in
              let b : (x : Process) × (find t.live (child p f c.0) ≡ Some x) × (x.standing ≡ ready) = born.born c.0 c.1 c.2 in
              inr (record { fork = f; number = c.0; named = c.3; free = free; bare = proper.bare r free; process = b.0; live = ap (find t.live) c.3 ∙ b.1 })

      only_made : {A : Type 0} (r : Name) (old : A) (of : List Instance → A) → of (instances w.store r) ≡ old → (of (instances t.world.store r) ≡ old)
          ⊎ IsMade s t p r
      only_made r old of e = go (made r)
        where
          go : (instances t.world.store r ≡ instances w.store r) ⊎ IsMade s t p r → (of (instances t.world.store r) ≡ old) ⊎ IsMade s t p r
          go (inl h) = inl (ap of h ∙ e)
          go (inr m) = inr m

      bare : (r : Name) → find t.live r ≡ None → (instances t.world.store r ≡ instances w.store r) ⊎ IsMade s t p r → instances t.world.store r ≡ []
      bare r e (inr m) = absurd (no_some (find t.live r) e m.live)
      bare r e (inl h) = h ∙ still_bare w.store l r (none_before s.live p q' r (not_live (find s1.live r) refl))
        where
          not_live : (x : Option Process) → find s1.live r ≡ x → find s1.live r ≡ None
          not_live None g = g
          not_live (Some y) g = absurd (no_some (find t.live r) e (born.kept r y g))

  moving : Handles unit s p q (λ a w. Left w.store) (λ ending system turns. ⊤) (Moves s p)
  moving = record {
    of_end = λ ending system turns h. tt;
    of_goes = λ work w h. back_moves (record q { work = work; standing = ready }) w (omega arith) h;
    of_arrives = λ cs position work w h. back_moves (record q { work = work; standing = at_when cs position }) w (omega arith) h;
    of_again = λ cs position quiet work w h. back_moves (record q { work = work; standing = at_when cs position }) w (omega arith) h;
    of_no_fork = λ bs line work w ending o h. tt;
    of_fork = λ bs line work w n share e h. fork_moves bs work w n share h;
    of_leaves = λ w k h. gone_moves (without s.live p) w (fresh_without s.live p proper.fresh) (λ r e. e) h;
    of_awaited = λ w y n e g h. awaited_moves w (parent_of p) y n e h;
  }

  all_left : (r : Evaluation Asks) → Keeps (privacy unit p q.size s.world.store) (λ a w. Leaves p s.world.store w.store) r → Keeps (framing unit p q.size)
      (λ a w. Steps p s.world.store w.store) r →
      Gives (λ a w. Left w.store) (λ ending system turns. ⊤) r
  all_left (gives a w) h k = (h.is, k.is)
  all_left (ends e system turns) h k = tt

step_moves : (unit : ProgramUnit) (s : Processes) (p : Name) → Proper s → Moves s p (step unit s p)
step_moves unit s p proper = go (find s.live p) refl
  where
    go : (x : Option Process) → find s.live p ≡ x → Moves s p (step unit s p)
    go None e = subst (λ x. Moves s p (step_of unit s p x)) (sym e) tt
    go (Some q) e =
        let r : Evaluation Asks = local_step unit p q.size q.standing q.work s.world in
        of_process unit s p q (Moves s p) e
        (kernel_handles unit s p q _ _ (Moves s p) (moving unit s p q e proper) r
        (all_left unit s p q e proper r (local_leaves unit p q.size q.standing q.work s.world proper.owned)
        (local_steps unit p q.size q.standing q.work s.world)))

-- ---- along permitted steps

pub start_proper : (unit : ProgramUnit) (system : State) (bound : ℕ) → Proper (start unit system bound)
start_proper unit system bound = record { owned = record { each = λ r. tt }; fresh = start_fresh unit system bound; bare = λ r e. refl }

pub step_proper : (unit : ProgramUnit) (s : Processes) (p : Name) → Proper s → After Proper (step unit s p)
step_proper unit s p proper = go (step unit s p) (step_moves unit s p proper)
  where
    go : (x : Stepped) → Moves s p x → After Proper x
    go (went t next quiet) h = h.1
    go (ended ending system turns) h = tt

step_private : (s : Processes) (p : Name) (x : Stepped) → Moves s p x → StepIsPrivate s p x
step_private s p (went t next quiet) h = h.0
step_private s p (ended ending system turns) h = tt

pub cells_are_private : CellsArePrivate
cells_are_private unit system bound names s p e =
    let proper : Proper s = permitted_keep unit Proper (step_proper unit) names (start unit system bound) s (start_proper unit system bound) e in
    step_private s p (step unit s p) (step_moves unit s p proper)
