-- A run takes only processes that may go on, so that it ends with segments nested.
use Rattle.std.proofs.Common.{◌≡◌, ℕ, zero, suc, ◌+◌, ◌%◌, ◌<◌, ◌⊎◌, inl, inr, Bool, true, false, ◌||◌, List, [], ◌∷◌, ◌++◌, length, mod-lt, Some, refl, sym}
use Rattle.std.proofs.Common.{subst, ap, ◌∙◌, arith}
use Rattle.std.specs.Prelude.{⊤}
use Rattle.edi_calls.specs.Choice.{Choices, choice}
use Rattle.edi_calls.specs.Names.{Name, same, find}
use Rattle.edi_calls.specs.Outcome.{Ending}
use Rattle.edi_calls.specs.Ready.{has, stays, joins, Taking, nobody, taking, name_at, without_index, take_next}
use Rattle.edi_calls.proofs.Tables.{same-refl, same-equal}
use Rattle.edi_target.specs.Reading.{AreWords}
use Rattle.edi_target.specs.Fetch.{fetch}
use Rattle.edi_target.specs.Mach.{Activity, Machine, Stepped, went, ended, step, finished, go_on, after_step, run, entered}
use Rattle.edi_target.specs.segments.Nested.{MayGoOn, machine_after, Stays, unchanged, awaited, EveryEndIsNested}
use Rattle.edi_target.proofs.segments.Families.{Sound}
use Rattle.edi_target.proofs.segments.Steps.{Left, step_leaves}
use Rattle.edi_target.proofs.segments.Queues.{Once, in_one, Join, Queues, step_queues}
use Rattle.edi_target.proofs.segments.Reaching.{Starts, starts, allowed_at, nested_of}

-- ---- lists of processes that may go on

-- each of these processes may go on, and is named once
pub record AllFree (m : Machine) (ps : List Name) : Type 0 where
  pub once : Once ps
  pub free : (q : Name) → has ps q ≡ true → MayGoOn m q

or_cases : (b c : Bool) → (b || c) ≡ true → (b ≡ true) ⊎ (c ≡ true)
or_cases true c h = inl refl
or_cases false c h = inr h

or_right : (b c : Bool) → c ≡ true → (b || c) ≡ true
or_right true c h = refl
or_right false c h = h

not_both : {A : Type 0} (b : Bool) → b ≡ true → b ≡ false → A
not_both b h k = let no : true ≡ false = sym h ∙ k in absurd (cc)

false_where : (b : Bool) → (b ≡ true → ⊥) → b ≡ false
false_where true h = absurd (h refl)
false_where false h = refl

pub has-here : (p : Name) (ps : List Name) → has (p ∷ ps) p ≡ true
has-here p ps = ap (λ b. b || has ps p) (same-refl p)

has-append : (xs ys : List Name) (q : Name) → has (xs ++ ys) q ≡ true → (has xs q ≡ true) ⊎ (has ys q ≡ true)
has-append [] ys q h = inr h
has-append (x ∷ xs) ys q h = elim (or_cases (same q x) (has (xs ++ ys) q) h) [
  | inl e ↦ inl (ap (λ b. b || has xs q) e)
  | inr k ↦ elim (has-append xs ys q k) [ inl e ↦ inl (or_right (same q x) (has xs q) e) | inr e ↦ inr e ]
]

once-append : (xs ys : List Name) → Once xs → Once ys → ((q : Name) → has xs q ≡ true → has ys q ≡ true → ⊥) → Once (xs ++ ys)
once-append [] ys o u apart = u
once-append (x ∷ xs) ys o u apart = (
  false_where (has (xs ++ ys) x) (λ h. elim (has-append xs ys x h) [ inl e ↦ not_both (has xs x) e o.0 | inr e ↦ apart x (has-here x xs) e ]),
  once-append xs ys o.1 u (λ q h k. apart q (or_right (same q x) (has xs q) h) k),
)

-- the one at a place is one of them, and so are those at the other places
name_in : (ps : List Name) (k : ℕ) → k < length ps → has ps (name_at ps k) ≡ true
name_in [] k h = absurd (omega (arith, h))
name_in (p ∷ ps) zero h = has-here p ps
name_in (p ∷ ps) (suc k) h = or_right (same (name_at ps k) p) (has ps (name_at ps k)) (name_in ps k (omega (arith, h)))

others_in : (ps : List Name) (k : ℕ) (q : Name) → has (without_index ps k) q ≡ true → has ps q ≡ true
others_in [] k q h = absurd (cc)
others_in (p ∷ ps) zero q h = or_right (same q p) (has ps q) h
others_in (p ∷ ps) (suc k) q h = elim (or_cases (same q p) (has (without_index ps k) q) h) [
  | inl e ↦ ap (λ b. b || has ps q) e
  | inr e ↦ or_right (same q p) (has ps q) (others_in ps k q e)
]

once_at : (ps : List Name) (k : ℕ) → k < length ps → Once ps → Once (name_at ps k ∷ without_index ps k)
once_at [] k h o = absurd (omega (arith, h))
once_at (p ∷ ps) zero h o = o
once_at (p ∷ ps) (suc k) h o =
    let ih : Once (name_at ps k ∷ without_index ps k) = once_at ps k (omega (arith, h)) o.1 in
    let other : same (name_at ps k) p ≡ false = false_where (same (name_at ps k) p)
    (λ e. not_both (has ps p) (subst (λ x. has ps x ≡ true) (same-equal (name_at ps k) p e) (name_in ps k (omega (arith, h)))) o.0) in (
      ap (λ b. b || has (without_index ps k) (name_at ps k)) other ∙ ih.0,
      (false_where (has (without_index ps k) p) (λ e. not_both (has ps p) (others_in ps k p e) o.0), ih.1),
    )

free_at : (m : Machine) (ps : List Name) (k : ℕ) → k < length ps → AllFree m ps → AllFree m (name_at ps k ∷ without_index ps k)
free_at m ps k h a = record {
  once = once_at ps k h a.once;
  free = λ q e. elim (or_cases (same q (name_at ps k)) (has (without_index ps k) q) e) [
    | inl i ↦ a.free q (subst (λ x. has ps x ≡ true) (sym (same-equal q (name_at ps k) i)) (name_in ps k h))
    | inr i ↦ a.free q (others_in ps k q i)
  ];
}

abbrev pub TakesFree : Machine → Taking → Type 0
TakesFree m nobody = ⊤
TakesFree m (taking p others drawn) = AllFree m (p ∷ others)

pub taken_free : (m : Machine) (choices : Choices) (drawn : ℕ) (ps : List Name) → AllFree m ps → TakesFree m (take_next choices drawn ps)
taken_free m choices drawn [] a = tt
taken_free m choices drawn (p ∷ []) a = a
taken_free m choices drawn (p ∷ q ∷ ps) a =
    free_at m (p ∷ q ∷ ps) (choice choices (drawn + 1) % length (p ∷ q ∷ ps)) (mod-lt (choice choices (drawn + 1)) {m = length (p ∷ q ∷ ps)} (omega arith)) a

-- ---- after a step

module _ (m : Machine) (p : Name) (others : List Name) (a : AllFree m (p ∷ others)) (t : Machine)
    (stay : (q : Name) (b : Activity) → same q p ≡ false → find m.activities q ≡ Some b → Stays t.activities q b) where
  -- who is ready beside p is so still
  still_free : (q : Name) → has others q ≡ true → MayGoOn t q
  still_free q h = go (stay q g.activity other g.lives)
    where
      g : MayGoOn m q
      g = a.free q (or_right (same q p) (has others q) h)

      other : same q p ≡ false
      other = false_where (same q p) (λ e. not_both (has others p) (subst (λ x. has others x ≡ true) (same-equal q p e) h) a.once.0)

      go : Stays t.activities q g.activity → MayGoOn t q
      go (unchanged e) = record { activity = g.activity; lives = e; free = g.free }
      go (awaited n w e) = absurd (g.free n w)

  pub goes_on : MayGoOn t p → AllFree t (p ∷ others)
  goes_on g = record {
    once = a.once;
    free = λ q h. elim (or_cases (same q p) (has others q) h) [ inl e ↦ subst (MayGoOn t) (sym (same-equal q p e)) g | inr e ↦ still_free q e ];
  }

  pub joined : (ps : List Name) → Join m p t ps → AllFree t (others ++ ps)
  joined ps j = record {
    once = once-append others ps a.once.1 j.once (λ q h k. elim (j.new q k) [
      | inl e ↦ not_both (has others p) (subst (λ x. has others x ≡ true) e h) a.once.0
      | inr was_not ↦ was_not (a.free q (or_right (same q p) (has others q) h))
    ]);
    free = λ q h. elim (has-append others ps q h) [ inl e ↦ still_free q e | inr e ↦ j.free q e ];
  }

-- ---- runs

module _ (words : List ℕ) (are : AreWords words) (choices : Choices) where
  -- a run from a machine where these processes may go on ends with nested segments
  abbrev pub Keeps : ℕ → Type 0
  Keeps n = (m : Machine) (p : Name) (others : List Name) (drawn : ℕ) → Sound m.activities → AllFree m (p ∷ others) →
      (ending : Ending) (t : Machine) (d : ℕ) → run (fetch words) choices n m p others drawn ≡ finished ending t d → Sound t.activities

  the_machine : {x y : Ending} {m t : Machine} {c d : ℕ} → finished x m c ≡ finished y t d → m ≡ t
  the_machine e = cc

  go_on_keeps : (n : ℕ) → Keeps n → (m : Machine) → Sound m.activities → (next : Taking) → TakesFree m next → (drawn : ℕ) (ending : Ending) (t : Machine)
      (d : ℕ) → go_on next (run (fetch words) choices n m) m drawn ≡ finished ending t d → Sound t.activities
  go_on_keeps n ih m s nobody f drawn ending t d e = subst Sound (ap (λ x. x.activities) (the_machine e)) s
  go_on_keeps n ih m s (taking p others drawn') f drawn ending t d e = ih m p others drawn' s f ending t d e

  after_step_keeps : (n : ℕ) → Keeps n → (m : Machine) (p : Name) (others : List Name) (drawn : ℕ) → AllFree m (p ∷ others) → (x : Stepped)
      → Left m.activities p (machine_after x).activities → Queues m p x →
      (ending : Ending) (t : Machine) (d : ℕ) → after_step choices (run (fetch words) choices n) p others drawn x ≡ finished ending t d → Sound t.activities
  after_step_keeps n ih m p others drawn a (ended last u) l q ending t d e = subst Sound (ap (λ x. x.activities) (the_machine e)) l.sound
  after_step_keeps n ih m p others drawn a (went u stays) l q ending t d e = ih u p others drawn l.sound (goes_on m p others a u l.others q) ending t d e
  after_step_keeps n ih m p others drawn a (went u (joins ps)) l q ending t d e =
      go_on_keeps n ih u l.sound (take_next choices drawn (others ++ ps)) (taken_free u choices drawn (others ++ ps) (joined m p others a u l.others ps q))
      drawn ending t d e

  runs_keep : (n : ℕ) → Keeps n
  runs_keep zero m p others drawn s a ending t d e = absurd (cc)
  runs_keep (suc n) m p others drawn s a ending t d e =
      let g : MayGoOn m p = a.free p (has-here p others) in
      after_step_keeps n (runs_keep n) m p others drawn a (step (fetch words) m p others)
      (step_leaves m p g.activity g.lives g.free s (fetch words) (allowed_at words are g.activity.first g.activity.last) others)
      (step_queues m p g.activity g.lives g.free s (fetch words) others) ending t d e

  pub alone_free : (m : Machine) → MayGoOn m [] → AllFree m ([] ∷ [])
  alone_free m g = record { once = (refl, tt); free = λ q h. subst (MayGoOn m) (sym (in_one [] q h)) g }

  from_start : (n : ℕ) (x : Stepped) → Starts x → (ending : Ending) (t : Machine) (d : ℕ) → after_step choices (run (fetch words) choices n) [] [] 0 x
      ≡ finished ending t d → Sound t.activities
  from_start n (ended last u) s ending t d e = subst Sound (ap (λ x. x.activities) (the_machine e)) s
  from_start n (went u stays) s ending t d e = runs_keep n u [] [] 0 s.0 (alone_free u s.1) ending t d e
  from_start n (went u (joins ps)) s ending t d e = absurd s

pub every_end_is_nested : EveryEndIsNested
every_end_is_nested words entry calls system bound choices ending m drawn are ends =
    nested_of m.activities (from_start words are choices ends.0 (entered (fetch words entry) entry calls bound system)
    (starts words are entry calls system bound) ending m drawn ends.1)
