-- The segments are nested at the start, and so in every machine that is reached.
use Rattle.std.proofs.Common.{◌≡◌, ℕ, zero, suc, ◌+◌, ◌^◌, ◌<◌, ◌≤◌, true, List, [], ◌∷◌, ◌++◌, length, drop, Option, Some, None, refl, sym, subst, ap, ◌∙◌}
use Rattle.std.proofs.Common.{arith}
use Rattle.std.specs.Prelude.{nat_le}
use Rattle.std.specs.List.{All}
use Rattle.std.proofs.lemmas.Bool.{leb-true, and_parts}
use Rattle.std.proofs.lemmas.List.Elements.{All-get_or, All-drop}
use Rattle.edi_calls.proofs.Names.{some_is}
use Rattle.edi_calls.specs.Names.{Name, Table, find}
use Rattle.edi_calls.specs.Ready.{Next, stays, joins}
use Rattle.edi_calls.specs.State.{State}
use Rattle.edi_target.specs.Op as op
use Rattle.edi_target.specs.Op.{Instruction, is_allowed, is_flag, words_of}
use Rattle.edi_target.specs.Decode.{decode}
use Rattle.edi_target.specs.Reading.{Reads, AreWords}
use Rattle.edi_target.specs.Fetch.{fetch}
use Rattle.edi_target.specs.Mach.{ready, waiting, Activity, Machine, Stepped, went, ended, step, first_activity, entered}
use Rattle.edi_target.proofs.Reading.{decode_reads}
use Rattle.edi_target.specs.segments.Nested.{MayGoOn, machine_after, Reached, at_start, after_step, IsInOrder, AreNested, SegmentsAreNested}
use Rattle.edi_target.proofs.segments.Keeping.{Allows}
use Rattle.edi_target.proofs.segments.Families.{Sound}
use Rattle.edi_target.proofs.segments.Steps.{Left, step_leaves}
use Rattle.edi_target.proofs.segments.Pairs.{pair}

-- ---- what stands in the words of a code

module _ (words : List ℕ) (are : AreWords words) where
  pub allowed_at : (first last at : ℕ) → Allows first last (fetch words at)
  allowed_at first last at = go (decode (drop at words)) refl
    where
      go : (d : Option (Instruction × ℕ)) → decode (drop at words) ≡ d → Allows first last (elim d [ None ↦ None | Some found ↦ Some (found.0, at + found.1) ])
      go None e = tt
      go (Some x) e = (decode_reads words at x.0 x.1 are e).allowed

  -- the need of an entry is a word
  need_is_word : (at need r p v f n : ℕ) → decode (drop at words) ≡ Some (op.entry need r p v f, n) → need < 2 ^ 16
  need_is_word at need r p v f n e =
      let reads : Reads words at (op.entry need r p v f) (at + n) = decode_reads words at (op.entry need r p v f) n are e in
      let all : All (λ word. word < 2 ^ 16) (words_of (op.entry need r p v f) ++ drop (at + n) words) = subst (All (λ word. word < 2 ^ 16)) reads.stands
      (All-drop (λ word. word < 2 ^ 16) at words are) in
      All-get_or (λ word. word < 2 ^ 16) (words_of (op.entry need r p v f) ++ drop (at + n) words) 1 0 (omega arith) all

-- ---- the start

module _ (x : Activity) (order : IsInOrder x) (is : x.standing ≡ ready) where
  in_order : (p : Name) (a : Activity) → find (([], x) ∷ []) p ≡ Some a → IsInOrder a
  in_order [] a e = subst IsInOrder (some_is e) order
  in_order (y ∷ p) a e = absurd (cc)

  nobody : (p : Name) (a : Activity) → 0 < length p → find (([], x) ∷ []) p ≡ Some a → ⊥
  nobody [] a some e = omega (arith, some)
  nobody (y ∷ p) a some e = cc

  not_waiting : (p : Name) (a : Activity) (n : ℕ) → find (([], x) ∷ []) p ≡ Some a → a.standing ≡ waiting n → ⊥
  not_waiting [] a n e w = let no : ready ≡ waiting n = sym is ∙ ap (λ y. y.standing) (some_is e) ∙ w in absurd (cc)
  not_waiting (y ∷ p) a n e w = cc

  pub alone : Sound (([], x) ∷ [])
  alone = record {
    ordered = in_order;
    nested = λ p a some e. absurd (nobody p a some e);
    siblings = λ p q a b some some' k n e f. absurd (nobody p a some e);
    few = λ p a n e w. absurd (not_waiting p a n e w);
  }

pub first_order : (need r p v f pc : ℕ) → is_allowed (op.entry need r p v f) ≡ true → need < 2 ^ 16 → IsInOrder (first_activity need (5 + p + v) pc)
first_order need r p v f pc allowed small =
    let enough : 5 + r + p + v ≤ need = leb-true (5 + r + p + v) need (and_parts (nat_le (5 + r + p + v) need) (is_flag f) allowed).0 in
    record { begins = omega arith; links = omega arith; uses = omega (arith, enough); ends = omega (arith, small); fits = omega arith }

-- a run begins with the first process, which may go on, or ends before
abbrev pub Starts : Stepped → Type 0
Starts (went m stays) = Sound m.activities × MayGoOn m []
Starts (went m (joins ps)) = ⊥
Starts (ended ending m) = Sound m.activities

empty : Sound []
empty = record {
  ordered = λ p a e. absurd (cc);
  nested = λ p a some e. absurd (cc);
  siblings = λ p q a b some some' k n e f. absurd (cc);
  few = λ p a n e w. absurd (cc);
}

module _ (words : List ℕ) (are : AreWords words) (entry : ℕ) (calls : List ℕ) (system : State) where
  pub starts : (bound : ℕ) → Starts (entered (fetch words entry) entry calls bound system)
  starts bound = go (decode (drop entry words)) refl bound
    where
      first : (need r p v f n : ℕ) → decode (drop entry words) ≡ Some (op.entry need r p v f, n)
          → Sound (([], first_activity need (5 + p + v) (entry + n)) ∷ [])
      first need r p v f n e =
          alone (first_activity need (5 + p + v) (entry + n))
          (first_order need r p v f (entry + n) (decode_reads words entry (op.entry need r p v f) n are e).allowed
          (need_is_word words are entry need r p v f n e)) refl

      go : (d : Option (Instruction × ℕ)) → decode (drop entry words) ≡ d → (bound : ℕ)
          → Starts (entered (elim d [ None ↦ None | Some found ↦ Some (found.0, entry + found.1) ]) entry calls bound system)
      go None e bound = empty
      go (Some (op.entry need r p v f, n)) e zero = first need r p v f n e
      go (Some (op.entry need r p v f, n)) e (suc k) =
          (first need r p v f n e, record { activity = first_activity need (5 + p + v) (entry + n); lives = refl; free = λ i w. absurd (cc) })
      go (Some x) e bound = empty

  begun : (m : Machine) (next : Next) → Starts (went m next) → Sound m.activities
  begun m stays s = s.0
  begun m (joins ps) s = absurd s

  -- ---- every machine

  reached : (bound : ℕ) (m : Machine) → Reached (fetch words) entry calls system bound m → Sound m.activities
  reached bound _ (at_start m next e) = begun m next (subst Starts e (starts bound))
  reached bound _ (after_step m t p others next before g e) =
      subst (λ y. Sound (machine_after y).activities) e
      (step_leaves m p g.activity g.lives g.free (reached bound m before) (fetch words) (allowed_at words are g.activity.first g.activity.last) others).sound

pub nested_of : (t : Table Activity) → Sound t → AreNested t
nested_of t s = record { ordered = s.ordered; nested = s.nested; siblings = s.siblings; pairs = pair t s }

pub segments_are_nested : SegmentsAreNested
segments_are_nested words entry calls system bound m are r =
    let s : Sound m.activities = reached words are entry calls system bound m r in (
      nested_of m.activities s,
      λ p others g.
          let l : Left m.activities p (machine_after (step (fetch words) m p others)).activities = step_leaves m p g.activity g.lives g.free s (fetch words)
          (allowed_at words are g.activity.first g.activity.last) others in
          (nested_of (machine_after (step (fetch words) m p others)).activities l.sound, l.others),
    )
