-- A step forgets nobody: who may go on after it is in the list of those that are ready, and who waits has children.
use Rattle.std.proofs.Common.{◌≡◌, ℕ, zero, suc, ◌+◌, ◌-◌, ◌/◌, ◌<◌, ◌⊎◌, inl, inr, Bool, true, false, ◌||◌, if◌then◌else◌, List, [], ◌∷◌}
use Rattle.std.proofs.Common.{◌++◌, length, Some, refl, sym, subst, ap, ◌∙◌, arith}
use Rattle.std.specs.Prelude.{⊤}
use Rattle.edi_calls.specs.Names.{Name, same, find, with_at, without}
use Rattle.edi_calls.specs.Outcome as outcome
use Rattle.edi_calls.specs.Outcome.{Ending}
use Rattle.edi_calls.specs.Ready.{children, parent_of, has, all_marked, stays, joins, freed}
use Rattle.edi_calls.proofs.Names.{some_is}
use Rattle.edi_calls.proofs.Tables.{same-refl, same-or-other, find-with_at-same, find-with_at-other, find-without-other}
use Rattle.edi_target.specs.Op.{Branch}
use Rattle.edi_target.specs.Reading.{AreWords}
use Rattle.edi_target.specs.Fetch.{fetch}
use Rattle.edi_target.specs.Effect.{Local, Turn, entering, leaving, looping, arriving, again, forking, exiting, finishing}
use Rattle.edi_target.specs.Mach.{Running, Answer, on, behind, turned, over, local_step, ready}
use Rattle.edi_target.specs.Mach.{at_when, waiting, Activity, Machine, Stepped, went, ended, running_of, activity_of, back, with_children, awaits}
use Rattle.edi_target.specs.Mach.{one_less, notified, exited, at_turn, kernel, is_first, step_of, step}
use Rattle.edi_target.specs.segments.Nested.{MayGoOn, machine_after, IsInParent, Stays, unchanged, awaited}
use Rattle.edi_target.proofs.segments.Families.{IsFree, Sound, parent_apart, left_apart, left_was}
use Rattle.edi_target.proofs.segments.Children.{others_stay}
use Rattle.edi_target.proofs.segments.Steps.{Left, step_leaves, no_child}
use Rattle.edi_target.proofs.segments.Queues.{Join, Queues, step_queues}
use Rattle.edi_target.proofs.segments.Reaching.{allowed_at}
use Rattle.edi_target.proofs.segments.Running.{has-here}
use Rattle.edi_machine.specs.Steps.{effect_of}
use Rattle.edi_machine.proofs.Telling.{fork_of_step}
use Rattle.edi_kernel.specs.StandsStill.{StandsStill}
use Rattle.edi_kernel.proofs.Effects.{every_effect_fits}
use Rattle.edi_kernel.proofs.NameLists.{or_right, never, has-left, has-right, marked_in, dropped, dropped_has, dropped_once, dropped_apart, dropped_size}
use Rattle.edi_kernel.proofs.Remembered.{Fair, settled_fair, counted, child_of, born_only, IsChild, Many, Full, many_stay}

-- ---- what the kernel makes of it

abbrev pub Still : Ending → Machine → Type 0
Still outcome.standstill t = StandsStill t
Still outcome.done t = ⊤
Still (outcome.halted line) t = ⊤
Still (outcome.failed c line) t = ⊤
Still outcome.turns t = ⊤
Still (outcome.bad address) t = ⊤

abbrev pub FullAfter : Name → List Name → Stepped → Type 0
FullAfter p others (went t stays) = Full t (p ∷ others)
FullAfter p others (went t (joins ps)) = Full t (others ++ ps)
FullAfter p others (ended ending t) = Still ending t

same_wait : (n k : ℕ) → waiting n ≡ waiting k → n ≡ k
same_wait n k e = cc

longer_of : (p : Name) → is_first p ≡ false → 0 < length p
longer_of [] e = absurd (cc)
longer_of (x ∷ p) e = omega arith

pub ready_free : (n : ℕ) → ready ≡ waiting n → ⊥
ready_free n e = cc

arrived_free : (n : ℕ) → at_when ≡ waiting n → ⊥
arrived_free n e = cc

module _ (m : Machine) (p : Name) (others : List Name) (a : Activity) (lives : find m.activities p ≡ Some a) (free : IsFree a) (s : Sound m.activities)
    (f : Full m (p ∷ others)) where
  other_ready : (q : Name) → same q p ≡ false → MayGoOn m q → has others q ≡ true
  other_ready q n g = subst (λ b. (b || has others q) ≡ true) n (f.all q g)

  -- p goes on, or stands at its `when`
  module _ (a' : Activity) (idle : IsFree a') where
    is_new : (q : Name) (b : Activity) → q ≡ p → find (with_at m.activities p a') q ≡ Some b → a' ≡ b
    is_new q b k e = some_is (sym (find-with_at-same m.activities p a') ∙ sym (ap (find (with_at m.activities p a')) k) ∙ e)

    on_lives : (r : Name) (b : Activity) → find m.activities r ≡ Some b → (c : Activity) × (find (with_at m.activities p a') r ≡ Some c)
    on_lives r b e = go (same-or-other r p)
      where
        go : (r ≡ p) ⊎ (same r p ≡ false) → (c : Activity) × (find (with_at m.activities p a') r ≡ Some c)
        go (inl k) = (a', ap (find (with_at m.activities p a')) k ∙ find-with_at-same m.activities p a')
        go (inr n) = (b, find-with_at-other m.activities p r a' n ∙ e)

    now : (marks : List Name) (r : Running) (queue : List Name) → has queue p ≡ true → ((q : Name) → has others q ≡ true → has queue q ≡ true)
        → Full (back m p a' marks r) queue
    now marks r queue here rest = record {
      all = λ q g. in_queue q g (same-or-other q p);
      many = λ q b n e w. still q b n e w (same-or-other q p);
      first = on_lives [] f.first.0 f.first.1;
    }
      where
        in_queue : (q : Name) → MayGoOn (back m p a' marks r) q → (q ≡ p) ⊎ (same q p ≡ false) → has queue q ≡ true
        in_queue q g (inl k) = subst (λ x. has queue x ≡ true) (sym k) here
        in_queue q g (inr n) = rest q (other_ready q n
            (record { activity = g.activity; lives = sym (find-with_at-other m.activities p q a' n) ∙ g.lives; free = g.free }))

        still : (q : Name) (b : Activity) (n : ℕ) → find (with_at m.activities p a') q ≡ Some b → b.standing ≡ waiting n
            → (q ≡ p) ⊎ (same q p ≡ false) → Many (with_at m.activities p a') q n
        still q b n e w (inl k) = absurd (idle n (ap (λ x. x.standing) (is_new q b k e) ∙ w))
        still q b n e w (inr d) =
            many_stay m.activities (with_at m.activities p a') q n (λ r c of some_ h. on_lives r c h)
            (f.many q b n (sym (find-with_at-other m.activities p q a' d) ∙ e) w)

  back_at : (q : Name) → has others q ≡ true → has (others ++ p ∷ []) q ≡ true
  back_at q h = has-left others (p ∷ []) q h

  goes_first : (q : Name) → has others q ≡ true → has (p ∷ others) q ≡ true
  goes_first q h = or_right (same q p) (has others q) h

  on_now : (marks : List Name) (r : Running) → Full (back m p (activity_of r.local a.forks ready) marks r) (p ∷ others)
  on_now marks r = now (activity_of r.local a.forks ready) ready_free marks r (p ∷ others) (has-here p others) goes_first

  stands : (marks : List Name) (r : Running) → Full (back m p (activity_of r.local a.forks at_when) marks r) (others ++ p ∷ [])
  stands marks r = now (activity_of r.local a.forks at_when) arrived_free marks r (others ++ p ∷ []) (has-right others (p ∷ []) p (has-here p [])) back_at

  abbrev After : Stepped → Type 0
  After x = Queues m p x → Left m.activities p (machine_after x).activities → FullAfter p others x

  -- an attempt that marks p
  tried : (r : Running) (b : Bool) → all_marked (p ∷ m.marks) (p ∷ others) ≡ b →
      After (if b then ended outcome.standstill (back m p (activity_of r.local a.forks at_when) (p ∷ m.marks) r)
      else went (back m p (activity_of r.local a.forks at_when) (p ∷ m.marks) r) (joins (p ∷ [])))
  tried r true e = λ queues left. record {
    name = p;
    may = record {
      activity = activity_of r.local a.forks at_when;
      lives = find-with_at-same m.activities p (activity_of r.local a.forks at_when);
      free = arrived_free;
    };
    arrived = refl;
    marked = λ q g. marked_in (p ∷ m.marks) (p ∷ others) q e
        ((now (activity_of r.local a.forks at_when) arrived_free (p ∷ m.marks) r (p ∷ others) (has-here p others) goes_first).all q g);
  }
  tried r false e = λ queues left. stands (p ∷ m.marks) r

  -- a fork
  module _ (branches : List Branch) (r : Running) (some : 0 < length branches) where
    abbrev parent : Activity
    parent = activity_of r.local (suc a.forks) (waiting (length branches))

    abbrev share : ℕ
    share = (r.local.last - r.local.end) / length branches

    abbrev before : Machine
    before = back m p parent [] r

    abbrev born : Machine
    born = with_children p (suc a.forks) 0 r.local.base r.local.end share branches before

    abbrev young : List Name
    young = children p (suc a.forks) 0 (length branches)

    p_lives : find born.activities p ≡ Some parent
    p_lives =
        others_stay p (suc a.forks) r.local.base share p (λ i. no_child m p a lives free s p a (suc a.forks) i lives) branches 0 r.local.end before
        ∙ find-with_at-same m.activities p parent

    is_parent : (q : Name) (b : Activity) → q ≡ p → find (with_at m.activities p parent) q ≡ Some b → parent ≡ b
    is_parent q b k e = some_is (sym (find-with_at-same m.activities p parent) ∙ sym (ap (find (with_at m.activities p parent)) k) ∙ e)

    module _ (j : Join m p born young) (left : Left m.activities p born.activities) where
      of_stays : (q : Name) (b : Activity) → Stays born.activities q b → (c : Activity) × (find born.activities q ≡ Some c)
      of_stays q b (unchanged e) = (b, e)
      of_stays q b (awaited n w e) = (record b { standing = awaits (n - 1) }, e)

      lives_on : (q : Name) (b : Activity) → find m.activities q ≡ Some b → (c : Activity) × (find born.activities q ≡ Some c)
      lives_on q b e = go (same-or-other q p)
        where
          go : (q ≡ p) ⊎ (same q p ≡ false) → (c : Activity) × (find born.activities q ≡ Some c)
          go (inl k) = (parent, ap (find born.activities) k ∙ p_lives)
          go (inr d) = of_stays q b (left.others q b d e)

      own : Many born.activities p (length branches)
      own = record {
        list = young;
        some = some;
        size = (let one : length young ≡ length branches = counted p (suc a.forks) 0 (length branches) in omega (arith, one));
        once = j.once;
        each = λ q h. let c : (parent_of q ≡ p) × (0 < length q) = child_of p (suc a.forks) 0 (length branches) q h in
            let g : MayGoOn born q = j.free q h in
            record { own = c.0; some = c.1; activity = g.activity; lives = g.lives };
      }

      forked : Full born (others ++ young)
      forked = record {
        all = λ q g. in_queue q g (born_only p (suc a.forks) r.local.base share q g.activity branches 0 r.local.end before g.lives) (same-or-other q p);
        many = λ q b n e w. still q b n e w (born_only p (suc a.forks) r.local.base share q b branches 0 r.local.end before e) (same-or-other q p);
        first = lives_on [] f.first.0 f.first.1;
      }
        where
          in_queue : (q : Name) (g : MayGoOn born q) → (has young q ≡ true) ⊎ (find (with_at m.activities p parent) q ≡ Some g.activity)
              → (q ≡ p) ⊎ (same q p ≡ false) → has (others ++ young) q ≡ true
          in_queue q g (inl h) k = has-right others young q h
          in_queue q g (inr h) (inl k) = absurd (g.free (length branches) (sym (ap (λ x. x.standing) (is_parent q g.activity k h))))
          in_queue q g (inr h) (inr d) = has-left others young q (other_ready q d
              (record { activity = g.activity; lives = sym (find-with_at-other m.activities p q parent d) ∙ h; free = g.free }))

          still : (q : Name) (b : Activity) (n : ℕ) → find born.activities q ≡ Some b → b.standing ≡ waiting n
              → (has young q ≡ true) ⊎ (find (with_at m.activities p parent) q ≡ Some b) → (q ≡ p) ⊎ (same q p ≡ false) → Many born.activities q n
          still q b n e w (inl h) k =
              let g : MayGoOn born q = j.free q h in
              absurd (g.free n (ap (λ x. x.standing) (some_is (sym g.lives ∙ e)) ∙ w))
          still q b n e w (inr h) (inl k) =
              let number : length branches ≡ n = same_wait (length branches) n (ap (λ x. x.standing) (is_parent q b k h) ∙ w) in
              subst (λ x. Many born.activities x n) (sym k) (subst (λ i. Many born.activities p i) number own)
          still q b n e w (inr h) (inr d) =
              many_stay m.activities born.activities q n (λ x c of some_ l. lives_on x c l)
              (f.many q b n (sym (find-with_at-other m.activities p q parent d) ∙ h) w)

  -- a child that ends
  module _ (longer : 0 < length p) (r : Running) where
    up : IsInParent m.activities p a
    up = s.nested p a longer lives

    abbrev without_it : Machine
    without_it = record { memory = r.local.memory; activities = without m.activities p; marks = []; turns = r.turns; system = r.system }

    abbrev fewer : ℕ → Machine
    fewer k = record without_it { activities = with_at (without m.activities p) (parent_of p) (record up.parent { standing = awaits k }) }

    found : find (without m.activities p) (parent_of p) ≡ Some up.parent
    found = find-without-other m.activities p (parent_of p) (parent_apart p longer) ∙ up.lives

    many_of : Many m.activities (parent_of p) up.number
    many_of = f.many (parent_of p) up.parent up.number up.lives up.waits

    is_up : (k : ℕ) (q : Name) (b : Activity) → q ≡ parent_of p → find (fewer k).activities q ≡ Some b → awaits k ≡ b.standing
    is_up k q b i e =
        ap (λ x. x.standing)
        (some_is (sym (find-with_at-same (without m.activities p) (parent_of p) (record up.parent { standing = awaits k }))
        ∙ sym (ap (find (fewer k).activities) i) ∙ e))

    -- who lives but for p lives still
    left_lives : (k : ℕ) (q : Name) (b : Activity) → same q p ≡ false → find m.activities q ≡ Some b → (c : Activity) × (find (fewer k).activities q ≡ Some c)
    left_lives k q b n e = go (same-or-other q (parent_of p))
      where
        go : (q ≡ parent_of p) ⊎ (same q (parent_of p) ≡ false) → (c : Activity) × (find (fewer k).activities q ≡ Some c)
        go (inl i) = (
          record up.parent { standing = awaits k },
          ap (find (fewer k).activities) i ∙ find-with_at-same (without m.activities p) (parent_of p) (record up.parent { standing = awaits k }),
        )
        go (inr d) = (
          b,
          find-with_at-other (without m.activities p) (parent_of p) q (record up.parent { standing = awaits k }) d
              ∙ find-without-other m.activities p q n ∙ e,
        )

    was_left : (k : ℕ) (q : Name) (b : Activity) → same q (parent_of p) ≡ false → find (fewer k).activities q ≡ Some b
        → find (without m.activities p) q ≡ Some b
    was_left k q b d e = sym (find-with_at-other (without m.activities p) (parent_of p) q (record up.parent { standing = awaits k }) d) ∙ e

    first_other : (q : Name) → 0 < length q → same [] q ≡ false
    first_other [] some = absurd (omega (arith, some))
    first_other (x ∷ q) some = refl

    -- who is no parent of p keeps its children
    others_keep : (k : ℕ) (q : Name) (b : Activity) (n : ℕ) → same q (parent_of p) ≡ false → find (fewer k).activities q ≡ Some b → b.standing ≡ waiting n
        → Many (fewer k).activities q n
    others_keep k q b n d e w =
        many_stay m.activities (fewer k).activities q n (λ x c of some_ h. left_lives k x c (no_p x of (same-or-other x p)) h)
        (f.many q b n (left_was m.activities p a lives free s q b (was_left k q b d e)) w)
      where
        no_p : (x : Name) → parent_of x ≡ q → (x ≡ p) ⊎ (same x p ≡ false) → same x p ≡ false
        no_p x of (inr n) = n
        no_p x of (inl i) =
            never (same q (parent_of p)) (ap (λ y. same y (parent_of p)) (sym of ∙ ap parent_of i) ∙ same-refl (parent_of p)) d

    other_queued : (k : ℕ) (q : Name) (g : MayGoOn (fewer k) q) → same q (parent_of p) ≡ false → has others q ≡ true
    other_queued k q g d =
        let was : find (without m.activities p) q ≡ Some g.activity = was_left k q g.activity d g.lives in
        other_ready q (left_apart m.activities p a lives free s q g.activity was)
        (record { activity = g.activity; lives = left_was m.activities p a lives free s q g.activity was; free = g.free })

    by_count : (k : ℕ) → k + 1 ≡ up.number → FullAfter p others (went (fewer k) (freed k (parent_of p)))
    by_count zero count = record {
      all = λ q g. in_queue q g (same-or-other q (parent_of p));
      many = λ q b n e w. still q b n e w (same-or-other q (parent_of p));
      first = left_lives 0 [] f.first.0 (first_other p longer) f.first.1;
    }
      where
        in_queue : (q : Name) → MayGoOn (fewer 0) q → (q ≡ parent_of p) ⊎ (same q (parent_of p) ≡ false) → has (others ++ parent_of p ∷ []) q ≡ true
        in_queue q g (inl i) =
            subst (λ x. has (others ++ parent_of p ∷ []) x ≡ true) (sym i)
            (has-right others (parent_of p ∷ []) (parent_of p) (has-here (parent_of p) []))
        in_queue q g (inr d) = has-left others (parent_of p ∷ []) q (other_queued 0 q g d)

        still : (q : Name) (b : Activity) (n : ℕ) → find (fewer 0).activities q ≡ Some b → b.standing ≡ waiting n
            → (q ≡ parent_of p) ⊎ (same q (parent_of p) ≡ false) → Many (fewer 0).activities q n
        still q b n e w (inl i) = absurd (ready_free n (is_up 0 q b i e ∙ w))
        still q b n e w (inr d) = others_keep 0 q b n d e w
    by_count (suc k) count = record {
      all = λ q g. in_queue q g (same-or-other q (parent_of p));
      many = λ q b n e w. still q b n e w (same-or-other q (parent_of p));
      first = left_lives (suc k) [] f.first.0 (first_other p longer) f.first.1;
    }
      where
        in_queue : (q : Name) → MayGoOn (fewer (suc k)) q → (q ≡ parent_of p) ⊎ (same q (parent_of p) ≡ false) → has (others ++ []) q ≡ true
        in_queue q g (inl i) = absurd (g.free (suc k) (sym (is_up (suc k) q g.activity i g.lives)))
        in_queue q g (inr d) = has-left others [] q (other_queued (suc k) q g d)

        apart : (q : Name) → has (dropped p many_of.list) q ≡ true → (q ≡ p) ⊎ (same q p ≡ false) → same q p ≡ false
        apart q h (inr n) = n
        apart q h (inl i) =
            never (has (dropped p many_of.list) p) (subst (λ x. has (dropped p many_of.list) x ≡ true) i h) (dropped_apart p many_of.list many_of.once)

        less : Many (fewer (suc k)).activities (parent_of p) (suc k)
        less = record {
          list = dropped p many_of.list;
          some = omega arith;
          size = omega (arith, count, many_of.size, dropped_size p many_of.list);
          once = dropped_once p many_of.list many_of.once;
          each = λ q h. let c : IsChild m.activities (parent_of p) q = many_of.each q (dropped_has p q many_of.list h) in
              let d : (d : Activity) × (find (fewer (suc k)).activities q ≡ Some d) =
              left_lives (suc k) q c.activity (apart q h (same-or-other q p)) c.lives in
              record { own = c.own; some = c.some; activity = d.0; lives = d.1 };
        }

        still : (q : Name) (b : Activity) (n : ℕ) → find (fewer (suc k)).activities q ≡ Some b → b.standing ≡ waiting n
            → (q ≡ parent_of p) ⊎ (same q (parent_of p) ≡ false) → Many (fewer (suc k)).activities q n
        still q b n e w (inl i) =
            let number : suc k ≡ n = same_wait (suc k) n (is_up (suc k) q b i e ∙ w) in
            subst (λ x. Many (fewer (suc k)).activities x n) (sym i) (subst (λ y. Many (fewer (suc k)).activities (parent_of p) y) number less)
        still q b n e w (inr d) = others_keep (suc k) q b n d e w

    gone : FullAfter p others (exited m p r)
    gone =
        subst (λ x. FullAfter p others (notified without_it (parent_of p) x)) (sym found)
        (subst (λ standing. FullAfter p others (one_less without_it (parent_of p) up.parent standing)) (sym up.waits)
        (by_count (up.number - 1) (omega (arith, many_of.some))))

  turn_full : (kind : Turn) (r : Running) → Fair (is_first p) (turned kind r) → After (at_turn m p others a kind r)
  turn_full entering r h = λ queues left. on_now [] r
  turn_full leaving r h = λ queues left. on_now [] r
  turn_full looping r h = λ queues left. on_now [] r
  turn_full arriving r h = λ queues left. stands [] r
  turn_full (again false) r h = λ queues left. stands [] r
  turn_full (again true) r h = tried r (all_marked (p ∷ m.marks) (p ∷ others)) refl
  turn_full (forking branches) r h = λ queues left. forked branches r h queues left
  turn_full exiting r h = λ queues left. gone (longer_of p h) r
  turn_full finishing r h = λ queues left. tt

  over_full : (ending : Ending) (r : Running) → Fair (is_first p) (over ending r) → After (kernel m p others a (over ending r))
  over_full outcome.done r h = λ queues left. tt
  over_full (outcome.halted line) r h = λ queues left. tt
  over_full (outcome.failed c line) r h = λ queues left. tt
  over_full outcome.turns r h = λ queues left. tt
  over_full outcome.standstill r h = absurd h
  over_full (outcome.bad address) r h = λ queues left. tt

  kernel_full : (answer : Answer) → Fair (is_first p) answer → After (kernel m p others a answer)
  kernel_full (on r) h = λ queues left. on_now m.marks r
  kernel_full (behind r) h = λ queues left. on_now [] r
  kernel_full (turned kind r) h = turn_full kind r h
  kernel_full (over ending r) h = over_full ending r h

  pub step_full : (words : List ℕ) → AreWords words → FullAfter p others (step (fetch words) m p others)
  step_full words are =
      let l : Local = (running_of m a).local in
      (subst (λ x. After (step_of (fetch words) m p others x)) (sym lives)
      (kernel_full (local_step (fetch words) (length m.activities) (is_first p) (running_of m a))
      (settled_fair words l.pc (length m.activities) (is_first p) (effect_of words (length m.activities) (is_first p) l) (running_of m a)
      (fork_of_step words words (length m.activities) (is_first p) l refl)
      (every_effect_fits (fetch words) (fetch words l.pc) (length m.activities) (is_first p) l))))
      (step_queues m p a lives free s (fetch words) others)
      (step_leaves m p a lives free s (fetch words) (allowed_at words are a.first a.last) others)
