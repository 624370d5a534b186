-- A machine with the same marks does the same, whatever was printed before, and whatever was shown, where that is not told, however many turns
-- are left, and in whatever order the others are ready, unless one of the two is cut by its turns.
use Rattle.std.proofs.Common.{◌≡◌, inl, inr, ℕ, zero, suc, ◌∙◌, ◌+◌, ◌-◌, ◌/◌, Bool, true, false, if◌then◌else◌, ◌&&◌, ◌||◌, List, [], ◌∷◌, length, Option, Some, None, refl, sym, subst, ap}
use Rattle.edi_calls.specs.Names.{Name, same, find, without, with_at}
use Rattle.edi_calls.specs.Outcome as outcome
use Rattle.edi_calls.specs.Outcome.{Ending}
use Rattle.edi_calls.proofs.Tables.{same-refl}
use Rattle.edi_calls.specs.Ready.{has, child, parent_of, all_marked, Next, stays, joins}
use Rattle.edi_target.specs.Op.{Instruction, Branch}
use Rattle.edi_target.specs.Effect.{Local, Turn, entering, leaving, looping, arriving, again, forking, exiting, finishing}
use Rattle.edi_target.specs.Mach.{Running, Answer, on, behind, turned, over, Machine, Activity, Standing, ready, at_when, waiting, Stepped, went, ended}
use Rattle.edi_target.specs.Mach.{activity_of, back, with_child, with_children, one_less, notified, attempted, at_turn, kernel, step, step_of, is_first}
use Rattle.edi_target.specs.Mach.{running_of, awaits}
use Rattle.edi_explored.specs.machine.Alike.{shows, SameShown, RunAlike, AnswerAlike}
use Rattle.edi_meaning.proofs.Standstill.{marked_one}
use Rattle.edi_kernel.specs.Stints as stints
use Rattle.edi_explored.specs.machine.Twins.{Twin, SteppedTwins, StintedTwins}
use Rattle.edi_explored.proofs.machine.Steps.{step_alike}

-- ---- who is in the list counts, and not where

marked_all : (marks xs : List Name) → ((x : Name) → has xs x ≡ true → has marks x ≡ true) → all_marked marks xs ≡ true
marked_all marks [] h = refl
marked_all marks (x ∷ xs) h =
    ap (λ b. b && all_marked marks xs) (h x (ap (λ b. b || has xs x) (same-refl x)))
    ∙ marked_all marks xs (λ y i. h y (ap (λ b. same y x || b) i ∙ right (same y x)))
  where
    right : (b : Bool) → (b || true) ≡ true
    right true = refl
    right false = refl

both_ways : (a b : Bool) → (a ≡ true → b ≡ true) → (b ≡ true → a ≡ true) → b ≡ a
both_ways true b f g = f refl
both_ways false true f g = sym (g refl)
both_ways false false f g = refl

marked_same : (marks xs ys : List Name) → ((x : Name) → has ys x ≡ has xs x) → all_marked marks ys ≡ all_marked marks xs
marked_same marks xs ys h =
    both_ways (all_marked marks xs) (all_marked marks ys)
    (λ a. marked_all marks ys (λ x i. marked_one marks xs x a (sym (h x) ∙ i)))
    (λ a. marked_all marks xs (λ x i. marked_one marks ys x a (h x ∙ i)))

-- ---- cuts

module _ (told : Bool) where
  cut_after : (x : Stepped) (e : Ending) (v : Machine) → e ≡ outcome.turns → SteppedTwins told x (ended e v)
  cut_after (went m next) e v c = c
  cut_after (ended ending m) e v c = inr (inr c)

  cut_before : (x : Stepped) (e : Ending) (v : Machine) → e ≡ outcome.turns → SteppedTwins told (ended e v) x
  cut_before (went m next) e v c = c
  cut_before (ended ending m) e v c = inr (inl c)

  tested : (c d : Bool) (u v : Machine) (next : Next) → d ≡ c → Twin told u v →
      SteppedTwins told (if c then ended outcome.standstill u else went u next) (if d then ended outcome.standstill v else went v next)
  tested true true u v next e o = inl (refl, o.system.shown)
  tested true false u v next e o = absurd (cc)
  tested false true u v next e o = absurd (cc)
  tested false false u v next e o = (refl, o)

  -- ---- forks

  children_alike : (p : Name) (f i base at share : ℕ) (bs : List Branch) (m q : Machine) → Twin told m q →
      Twin told (with_children p f i base at share bs m) (with_children p f i base at share bs q)
  children_alike p f i base at share [] m q o = o
  children_alike p f i base at share (b ∷ bs) m q o =
      children_alike p f (suc i) base (at + share) share bs (with_child (child p f i) base at share b m) (with_child (child p f i) base at share b q)
      (record {
        memory = ap (λ x. Rattle.edi_store.specs.Memory.written x at (base ∷ 0 ∷ 0 ∷ 0 ∷ 0 ∷ [])) o.memory;
        activities = ap (λ x. with_at x (child p f i) (record { base = at; end = at + b.need; top = at + 5; pc = b.address; first = at; last = at + share; held = 0; forks = 0; standing = ready })) o.activities;
        system = o.system;
        marks = o.marks;
      })

  module _ (m q : Machine) (p : Name) (others rest : List Name) (alike : (x : Name) → has rest x ≡ has others x) (a : Activity) (o : Twin told m q) where
    back_alike : (r s : Running) → RunAlike told r s → (f : ℕ) (standing : Standing) (ms ns : List Name) → ns ≡ ms →
        Twin told (back m p (activity_of r.local f standing) ms r) (back q p (activity_of s.local f standing) ns s)
    back_alike r s h f standing ms ns e = record {
      marks = e;
      memory = ap (λ (l : Local). l.memory) h.local;
      activities = λ i. with_at (o.activities i) p (activity_of (h.local i) f standing);
      system = h.system;
    }

    less_alike : (u v : Machine) → Twin told u v → (n : Name) (b : Activity) (standing : Standing) → SteppedTwins told (one_less u n b standing) (one_less v n b standing)
    less_alike u v k n b ready = (refl, k)
    less_alike u v k n b at_when = (refl, k)
    less_alike u v k n b (waiting c) = (refl, record { memory = k.memory; activities = ap (λ x. with_at x n (record b { standing = awaits (c - 1) })) k.activities; system = k.system; marks = k.marks })

    notified_alike : (u v : Machine) → Twin told u v → (n : Name) (x y : Option Activity) → y ≡ x → SteppedTwins told (notified u n x) (notified v n y)
    notified_alike u v k n x y e = subst (λ z. SteppedTwins told (notified u n x) (notified v n z)) (sym e) (same x)
      where
        same : (x : Option Activity) → SteppedTwins told (notified u n x) (notified v n x)
        same None = (refl, k)
        same (Some b) = less_alike u v k n b b.standing

    attempted_alike : (quiet : Bool) (r s : Running) → RunAlike told r s → SteppedTwins told (attempted m p others a quiet r) (attempted q p rest a quiet s)
    attempted_alike false r s h = (refl, back_alike r s h a.forks at_when [] [] refl)
    attempted_alike true r s h =
        tested (all_marked (p ∷ m.marks) (p ∷ others)) (all_marked (p ∷ q.marks) (p ∷ rest)) _ _ (joins (p ∷ []))
        (ap (λ l. all_marked (p ∷ l) (p ∷ rest)) o.marks
        ∙ marked_same (p ∷ m.marks) (p ∷ others) (p ∷ rest) (λ x. ap (λ b. same x p || b) (alike x)))
        (back_alike r s h a.forks at_when (p ∷ m.marks) (p ∷ q.marks) (ap (λ l. p ∷ l) o.marks))

    turn_alike : (kind : Turn) (r s : Running) → RunAlike told r s → SteppedTwins told (at_turn m p others a kind r) (at_turn q p rest a kind s)
    turn_alike entering r s h = (refl, back_alike r s h a.forks ready [] [] refl)
    turn_alike leaving r s h = (refl, back_alike r s h a.forks ready [] [] refl)
    turn_alike looping r s h = (refl, back_alike r s h a.forks ready [] [] refl)
    turn_alike arriving r s h = (refl, back_alike r s h a.forks at_when [] [] refl)
    turn_alike (again quiet) r s h = attempted_alike quiet r s h
    turn_alike (forking bs) r s h =
        let n = length bs in
        let f = suc a.forks in
        let made : Twin told
        (with_children p f 0 r.local.base r.local.end ((r.local.last - r.local.end) / n) bs (back m p (activity_of r.local f (waiting n)) [] r))
        (with_children p f 0 r.local.base r.local.end ((r.local.last - r.local.end) / n) bs (back q p (activity_of s.local f (waiting n)) [] s)) =
        children_alike p f 0 r.local.base r.local.end ((r.local.last - r.local.end) / n) bs _ _ (back_alike r s h f (waiting n) [] [] refl) in (
          refl,
          subst (λ (l : Local). Twin told
              (with_children p f 0 r.local.base r.local.end ((r.local.last - r.local.end) / n) bs (back m p (activity_of r.local f (waiting n)) [] r))
              (with_children p f 0 l.base l.end ((l.last - l.end) / n) bs (back q p (activity_of s.local f (waiting n)) [] s))) (sym h.local) made,
        )
    turn_alike exiting r s h =
        notified_alike
        (record { memory = r.local.memory; activities = without m.activities p; marks = []; turns = r.turns; system = r.system })
        (record { memory = s.local.memory; activities = without q.activities p; marks = []; turns = s.turns; system = s.system })
        (record { memory = ap (λ (l : Local). l.memory) h.local; activities = ap (λ x. without x p) o.activities; system = h.system; marks = refl })
        (parent_of p) (find (without m.activities p) (parent_of p)) (find (without q.activities p) (parent_of p))
        (ap (λ x. find (without x p) (parent_of p)) o.activities)
    turn_alike finishing r s h = inl (refl, h.system.shown)

    kernel_alike : (x y : Answer) → AnswerAlike told x y → SteppedTwins told (kernel m p others a x) (kernel q p rest a y)
    kernel_alike (on r) (on s) h = (refl, back_alike r s h a.forks ready m.marks q.marks o.marks)
    kernel_alike (behind r) (behind s) h = (refl, back_alike r s h a.forks ready [] [] refl)
    kernel_alike (turned kind r) (turned other s) h =
        subst (λ k. SteppedTwins told (at_turn m p others a kind r) (at_turn q p rest a k s)) (sym h.0) (turn_alike kind r s h.1)
    kernel_alike (turned kind r) (over ending s) h = cut_after (at_turn m p others a kind r) ending (back q p a q.marks s) h
    kernel_alike (over ending r) (turned kind s) h = cut_before (at_turn q p rest a kind s) ending (back m p a m.marks r) h
    kernel_alike (over ending r) (over other s) h = inl h
    kernel_alike (on r) (behind s) h = absurd h
    kernel_alike (on r) (turned kind s) h = absurd h
    kernel_alike (on r) (over ending s) h = absurd h
    kernel_alike (behind r) (on s) h = absurd h
    kernel_alike (behind r) (turned kind s) h = absurd h
    kernel_alike (behind r) (over ending s) h = absurd h
    kernel_alike (turned kind r) (on s) h = absurd h
    kernel_alike (turned kind r) (behind s) h = absurd h
    kernel_alike (over ending r) (on s) h = absurd h
    kernel_alike (over ending r) (behind s) h = absurd h

  module _ (fetch : ℕ → Option (Instruction × ℕ)) where
    as_twin : (m q : Machine) → Twin told m q → q ≡ record m { system = shows q.system.shown q.system.printed m.system; turns = q.turns }
    as_twin m q o = λ i. record {
      memory = o.memory i;
      activities = o.activities i;
      marks = o.marks i;
      turns = q.turns;
      system = record {
        input = o.system.input i;
        shown = q.system.shown;
        printed = q.system.printed;
        slots = o.system.slots i;
        blocks = o.system.blocks i;
        found = o.system.found i;
        buffer = o.system.buffer i;
      };
    }

    module _ (m : Machine) (shown printed : List ℕ) (n : ℕ) (same : SameShown told m.system.shown shown) where
      abbrev q : Machine
      q = record m { system = shows shown printed m.system; turns = n }

      twin_here : Twin told m q
      twin_here = record { memory = refl; activities = refl; system = record { input = refl; slots = refl; blocks = refl; found = refl; buffer = refl; shown = same }; marks = refl }

      found_alike : (p : Name) (others rest : List Name) (alike : (x : Name) → has rest x ≡ has others x) (x : Option Activity) →
          SteppedTwins told (step_of fetch m p others x) (step_of fetch q p rest x)
      found_alike p others rest alike None = inl (refl, same)
      found_alike p others rest alike (Some a) =
          kernel_alike m q p others rest alike a twin_here _ _ (step_alike told fetch (length m.activities) (is_first p) shown printed n (running_of m a) same)

    pub twins_step : (m q : Machine) (p : Name) (others rest : List Name) → Twin told m q → ((x : Name) → has rest x ≡ has others x) →
        SteppedTwins told (step fetch m p others) (step fetch q p rest)
    twins_step m q p others rest o alike =
        subst (λ x. SteppedTwins told (step fetch m p others) (step fetch x p rest)) (sym (as_twin m q o))
        (found_alike m q.system.shown q.system.printed q.turns o.system.shown p others rest alike (find m.activities p))

    stinted : (x y : Stepped) (go run : Machine → stints.Stint) → ((m q : Machine) → Twin told m q → StintedTwins told (go m) (run q)) → SteppedTwins told x y →
        StintedTwins told (stints.stint_after go x) (stints.stint_after run y)
    stinted (went m stays) (went q stays) go run h a = h m q a.1
    stinted (went m (joins ps)) (went q (joins qs)) go run h a = (same_names a.0, a.1)
      where
        same_names : joins qs ≡ joins ps → qs ≡ ps
        same_names e = cc
    stinted (went m stays) (went q (joins qs)) go run h a = let e : joins qs ≡ stays = a.0 in absurd (cc)
    stinted (went m (joins ps)) (went q stays) go run h a = let e : stays ≡ joins ps = a.0 in absurd (cc)
    stinted (went m stays) (ended e v) go run h a = cut (go m)
      where
        cut : (x : stints.Stint) → StintedTwins told x (stints.over e v)
        cut stints.unfinished = a
        cut (stints.switched t ps) = a
        cut (stints.over f t) = inr (inr a)
    stinted (went m (joins ps)) (ended e v) go run h a = a
    stinted (ended e v) (went q stays) go run h a = cut (run q)
      where
        cut : (x : stints.Stint) → StintedTwins told (stints.over e v) x
        cut stints.unfinished = a
        cut (stints.switched t ps) = a
        cut (stints.over f t) = inr (inl a)
    stinted (ended e v) (went q (joins qs)) go run h a = a
    stinted (ended e v) (ended f u) go run h a = a

    pub twins_stint : (n : ℕ) (m q : Machine) (p : Name) (others rest : List Name) → Twin told m q → ((x : Name) → has rest x ≡ has others x) →
        StintedTwins told (stints.stint fetch n m p others) (stints.stint fetch n q p rest)
    twins_stint zero m q p others rest o alike = tt
    twins_stint (suc n) m q p others rest o alike =
        stinted (step fetch m p others) (step fetch q p rest) (λ x. stints.stint fetch n x p others) (λ x. stints.stint fetch n x p rest)
        (λ m q o. twins_stint n m q p others rest o alike) (twins_step m q p others rest o alike)
