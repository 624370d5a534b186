-- Each run that has ended has a dump.
use Rattle.std.proofs.Common.{◌≡◌, ◌⊎◌, inl, inr, ℕ, Bool, true, false, true≢false, if◌then◌else◌, List, [], ◌∷◌, Contains, Some, refl, sym, ap, subst, ◌∙◌}
use Rattle.edi_calls.specs.Choice.{Choices}
use Rattle.edi_calls.specs.Names.{Name, Table, find, same}
use Rattle.edi_calls.specs.Outcome as outcome
use Rattle.edi_calls.specs.State.{State, fresh}
use Rattle.edi_calls.proofs.Tables.{same-equal, same-or-other, same-refl}
use Rattle.edi_target.specs.Check.{CodeParts}
use Rattle.edi_target.specs.Mach.{Activity, Machine}
use Rattle.edi_target.proofs.Histories.{every_run_ends_through}
use Rattle.edi_waits.specs.Ends.{AreAtEnd, AtEnd, IsSeen, end_of, has_broken}
use Rattle.edi_waits.specs.Left.{put_in}
use Rattle.edi_waits.proofs.Lists.{some_is}
use Rattle.edi_waits.proofs.Ordered.{Free, InOrder, IsIn, contained_in, in_back, in_contained, in_more, in_put, order_put, ordered}
use Rattle.edi_dump.specs.Text.{dump_text}
use Rattle.edi_dumped.specs.Dumps.{IsDumpOf, TellsEnd}
use Rattle.edi_dumped.proofs.Ended.{last_stint, tells_end}
use Rattle.edi_dumped.proofs.Programs.{run_by}
use Rattle.edi_timed.specs.on.Timelines.{IsOf, Timable}

-- ---- whether one has this name

abbrev has : Name → List AtEnd → Bool
has p [] = false
has p (x ∷ xs) = if same p x.process then true else has p xs

free_of : (p : Name) (xs : List AtEnd) → has p xs ≡ false → Free p xs
free_of p [] e x h is = h
free_of p (y ∷ ys) e x h is = go (same p y.process) refl e h (λ k i. free_of p ys k x i is)
  where
    go : (b : Bool) → same p y.process ≡ b → (if b then true else has p ys) ≡ false → (x ≡ y) ⊎ IsIn x ys → (has p ys ≡ false → IsIn x ys → ⊥) → ⊥
    go true s k i more = true≢false k
    go false s k (inl e) more = true≢false (sym (same-refl p) ∙ ap (same p) (sym is ∙ ap (λ (z : AtEnd). z.process) e) ∙ s)
    go false s k (inr i) more = more k i

found_in : (p : Name) (xs : List AtEnd) → has p xs ≡ true → (x : AtEnd) × IsIn x xs × (x.process ≡ p)
found_in p [] e = absurd (true≢false (sym e))
found_in p (y ∷ ys) e = go (same p y.process) refl e (found_in p ys)
  where
    go : (b : Bool) → same p y.process ≡ b → (if b then true else has p ys) ≡ true → (has p ys ≡ true → (x : AtEnd) × IsIn x ys × (x.process ≡ p))
        → (x : AtEnd) × ((x ≡ y) ⊎ IsIn x ys) × (x.process ≡ p)
    go true s k more = (y, inl refl, sym (same-equal p y.process s))
    go false s k more = let f = more k in (f.0, inr f.1, f.2)

has_in : (x : AtEnd) (xs : List AtEnd) → IsIn x xs → has x.process xs ≡ true
has_in x [] h = absurd h
has_in x (y ∷ ys) h = go (same x.process y.process) refl h (has_in x ys)
  where
    go : (b : Bool) → same x.process y.process ≡ b → (x ≡ y) ⊎ IsIn x ys → (IsIn x ys → has x.process ys ≡ true) → (if b then true else has x.process ys) ≡ true
    go true s i more = refl
    go false s (inl e) more = absurd (true≢false (sym (same-refl x.process) ∙ ap (λ (z : AtEnd). same x.process z.process) e ∙ s))
    go false s (inr i) more = more i

has_put : (p : Name) (x : AtEnd) (xs : List AtEnd) → has p xs ≡ true → has p (put_in x xs) ≡ true
has_put p x xs e =
    let f = found_in p xs e in subst (λ q. has q (put_in x xs) ≡ true) f.2 (has_in f.0 (put_in x xs) (in_more x f.0 xs f.1))

not_put : (p : Name) (x : AtEnd) (xs : List AtEnd) → has p (put_in x xs) ≡ false → has p xs ≡ false
not_put p x xs e = go (has p xs) refl
  where
    go : (b : Bool) → has p xs ≡ b → b ≡ false
    go true k = absurd (true≢false (sym (has_put p x xs k) ∙ e))
    go false k = refl

differs : (p q : Name) (xs : List AtEnd) → has p xs ≡ false → has q xs ≡ true → same p q ≡ false
differs p q xs e k = elim (same-or-other p q) [
  | inl is ↦ absurd (true≢false (sym k ∙ ap (λ r. has r xs) (sym is) ∙ e))
  | inr other ↦ other
]

-- ---- those of a table, one after another

module _ (m : Machine) (ran : Name → Bool) where
  abbrev End : Name → Activity → AtEnd
  End = end_of m ran

  abbrev more : Bool → AtEnd → List AtEnd → List AtEnd
  more true x acc = acc
  more false x acc = put_in x acc

  abbrev gather : Table Activity → List AtEnd → List AtEnd
  gather [] acc = acc
  gather (e ∷ t) acc = gather t (more (has e.0 acc) (End e.0 e.1) acc)

  order : (t : Table Activity) (acc : List AtEnd) → InOrder acc → InOrder (gather t acc)
  order [] acc o = o
  order (e ∷ t) acc o = order t (more (has e.0 acc) (End e.0 e.1) acc) (step (has e.0 acc) refl)
    where
      step : (b : Bool) → has e.0 acc ≡ b → InOrder (more b (End e.0 e.1) acc)
      step true k = o
      step false k = order_put (End e.0 e.1) acc o (free_of e.0 acc k)

  -- one of them is found in the table, and none of these has its name
  record Late (t : Table Activity) (acc : List AtEnd) (x : AtEnd) : Type 0 where
    activity : Activity
    found : find t x.process ≡ Some activity
    is : x ≡ End x.process activity
    new : has x.process acc ≡ false

  each : (t : Table Activity) (acc : List AtEnd) (x : AtEnd) → IsIn x (gather t acc) → IsIn x acc ⊎ Late t acc x
  each [] acc x h = inl h
  each (e ∷ t) acc x h = step (has e.0 acc) refl (each t (more (has e.0 acc) (End e.0 e.1) acc) x h)
    where
      later : (same x.process e.0 ≡ false) → has x.process acc ≡ false → (a : Activity) → find t x.process ≡ Some a → x ≡ End x.process a
          → Late (e ∷ t) acc x
      later s k a f i = record { activity = a; found = ap (λ b. if b then Some e.1 else find t x.process) s ∙ f; is = i; new = k }

      step : (b : Bool) → has e.0 acc ≡ b → IsIn x (more b (End e.0 e.1) acc) ⊎ Late t (more b (End e.0 e.1) acc) x → IsIn x acc ⊎ Late (e ∷ t) acc x
      step true k (inl i) = inl i
      step true k (inr l) = inr (later (differs x.process e.0 acc l.new k) l.new l.activity l.found l.is)
      step false k (inl i) = elim (in_back (End e.0 e.1) x acc i) [
        | inl is ↦ let named : x.process ≡ e.0 = ap (λ (z : AtEnd). z.process) is in
            inr (record {
              activity = e.1;
              found = ap (λ p. find (e ∷ t) p) named ∙ ap (λ b. if b then Some e.1 else find t e.0) (same-refl e.0);
              is = is ∙ ap (λ p. End p e.1) (sym named);
              new = ap (λ p. has p acc) named ∙ k;
            })
        | inr there ↦ inl there
      ]
      step false k (inr l) =
          let x_new : has x.process acc ≡ false = not_put x.process (End e.0 e.1) acc l.new in
          let put : has e.0 (put_in (End e.0 e.1) acc) ≡ true = has_in (End e.0 e.1) (put_in (End e.0 e.1) acc) (in_put (End e.0 e.1) acc) in
          inr (later (differs x.process e.0 (put_in (End e.0 e.1) acc) l.new put) x_new l.activity l.found l.is)

  keeps : (t : Table Activity) (acc : List AtEnd) (p : Name) → has p acc ≡ true → has p (gather t acc) ≡ true
  keeps [] acc p h = h
  keeps (e ∷ t) acc p h = keeps t (more (has e.0 acc) (End e.0 e.1) acc) p (step (has e.0 acc))
    where
      step : (b : Bool) → has p (more b (End e.0 e.1) acc) ≡ true
      step true = h
      step false = has_put p (End e.0 e.1) acc h

  all : (t : Table Activity) (acc : List AtEnd) (p : Name) (a : Activity) → find t p ≡ Some a → has p (gather t acc) ≡ true
  all [] acc p a f = absurd (cc)
  all (e ∷ t) acc p a f = go (same p e.0) refl f (all t (more (has e.0 acc) (End e.0 e.1) acc) p a)
    where
      there : (b : Bool) → has e.0 acc ≡ b → has e.0 (more b (End e.0 e.1) acc) ≡ true
      there true k = k
      there false k = has_in (End e.0 e.1) (put_in (End e.0 e.1) acc) (in_put (End e.0 e.1) acc)

      go : (b : Bool) → same p e.0 ≡ b → (if b then Some e.1 else find t p) ≡ Some a
          → (find t p ≡ Some a → has p (gather t (more (has e.0 acc) (End e.0 e.1) acc)) ≡ true)
          → has p (gather t (more (has e.0 acc) (End e.0 e.1) acc)) ≡ true
      go true s g rest =
          keeps t (more (has e.0 acc) (End e.0 e.1) acc) p
          (subst (λ q. has q (more (has e.0 acc) (End e.0 e.1) acc) ≡ true) (sym (same-equal p e.0 s)) (there (has e.0 acc) refl))
      go false s g rest = rest g

  abbrev gathered : List AtEnd
  gathered = gather m.activities []

  late : (x : AtEnd) → IsIn x gathered → Late m.activities [] x
  late x h = elim (each m.activities [] x h) [
    | inl never ↦ absurd never
    | inr l ↦ l
  ]

  -- each process of the machine is one of them
  one : (p : Name) (a : Activity) → find m.activities p ≡ Some a → Contains gathered (End p a)
  one p a f =
      let g = found_in p gathered (all m.activities [] p a f) in
      let l : Late m.activities [] g.0 = late g.0 g.1 in
      let same_activity : l.activity ≡ a = some_is (sym l.found ∙ ap (find m.activities) g.2 ∙ f) in
      subst (Contains gathered) (l.is ∙ (λ i. End (g.2 i) (same_activity i))) (in_contained gathered g.0 g.1)

  -- THEY ARE THERE
  pub all_gathered : AreAtEnd m ran gathered
  all_gathered = record {
    each = λ x c. let l : Late m.activities [] x = late x (contained_in gathered x c) in (l.activity, l.found, l.is);
    all = one;
    order = ordered gathered (order m.activities [] tt);
  }

-- ---- the end of a run

-- the machine of an end may be told as it is
seen_so : (words : List ℕ) (end : outcome.Ending) (m : Machine) (p : Name) → IsSeen words end m m p
seen_so words outcome.done m p = refl
seen_so words (outcome.halted line) m p = refl
seen_so words (outcome.failed cause line) m p = refl
seen_so words outcome.turns m p = inl refl
seen_so words outcome.standstill m p = refl
seen_so words (outcome.bad at) m p = refl

-- EACH RUN HAS A DUMP
pub each_run_has_a_dump : (program : Timable) (parts : CodeParts) → IsOf program parts → (system : State) (bound : ℕ) (choices : Choices)
    → (told : List ℕ) × IsDumpOf program system bound choices told
each_run_has_a_dump program parts is system bound choices =
    let r = run_by program parts is in
    let e = every_run_ends_through parts.words parts.entry parts.calls (fresh system) bound choices 0 in
    let l = last_stint parts r.0 system bound choices e.4.0 e.0 e.1 e.2 e.4.1 in
    let xs : List AtEnd = gathered e.1 (has_broken e.0 l.0) in
    let tells : TellsEnd parts r.0 system bound choices (dump_text r.0 parts.words e.1.memory e.0 xs) =
    tells_end parts r.0 system bound choices e.4.0 e.0 e.1 e.2 e.4.1 l.0 l.1 e.1 (seen_so parts.words e.0 e.1 l.0) xs (all_gathered e.1 (has_broken e.0 l.0)) in
    (dump_text r.0 parts.words e.1.memory e.0 xs, (parts, r.0, r.1, tells))
