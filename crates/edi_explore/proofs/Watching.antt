-- What a watcher is told, number after number.
use Rattle.std.proofs.Common.{◌≡◌, ◌⊎◌, inl, inr, ℕ, zero, suc, ◌+◌, ◌≤◌, List, [], ◌∷◌, ◌++◌, length, Option, Some, None, refl, sym, ap, ◌∙◌}
use Rattle.std.proofs.Common.{arith, length-append, append_assoc}
use Rattle.std.specs.Prelude.{slice_get}
use Rattle.std.proofs.lemmas.List.{append-nil}
use Rattle.std.proofs.lemmas.Option.{slice_get_within}
use Rattle.edi_told.specs.Told.{WhereTold}
use Rattle.edi_explore.specs.declared.ends.Verdict.{Verdict}
use Rattle.edi_explore.specs.declared.ends.Verdict.TheVariants as verdict
use Rattle.edi_explore.specs.declared.step.GivenUp.{GivenUp}
use Rattle.edi_explore.specs.declared.step.GivenUp.TheVariants as given_up
use Rattle.edi_explore.specs.Verdicts.{IsConfirmed, or_else, verdict_of_given_up}
use Rattle.edi_explore.specs.Watched.{IsWatched, NeverFall, Sees}
use Rattle.edi_explore.proofs.Keying.{some_is, split_at}

-- what stands in a list behind another one
after_at : (xs ys : List ℕ) (i n : ℕ) → slice_get (xs ++ ys) i ≡ Some n →
    (slice_get xs i ≡ Some n) ⊎ ((j : ℕ) × (i ≡ length xs + j) × (slice_get ys j ≡ Some n))
after_at [] ys i n e = inr (i, omega arith, e)
after_at (x ∷ xs) ys zero n e = inl e
after_at (x ∷ xs) ys (suc i) n e = elim (after_at xs ys i n e) [
  | inl h ↦ inl h
  | inr h ↦ inr (h.0, omega (arith, h.1), h.2)
]

-- of two lists whose numbers never fall, where none of the second is less than one of the first
falls_never : (xs ys : List ℕ) (bound : ℕ) → NeverFall xs → NeverFall ys → ((i m : ℕ) → slice_get xs i ≡ Some m → m ≤ bound) →
    ((i n : ℕ) → slice_get ys i ≡ Some n → bound ≤ n) → NeverFall (xs ++ ys)
falls_never xs ys bound one other up low i m n a b = elim (after_at xs ys (suc i) n b) [
  | inl h ↦ elim (after_at xs ys i m a) [
    | inl g ↦ one i m n g h
    | inr g ↦ absurd (omega (arith, g.1, slice_get_within xs (suc i) n h))
  ]
  | inr h ↦ elim (after_at xs ys i m a) [
    | inl g ↦ omega (arith, up i m g, low h.0 n h.2)
    | inr g ↦
        let next : h.0 ≡ suc g.0 = omega (arith, g.1, h.1) in
        other g.0 m n g.2 (ap (λ j. slice_get ys j) (sym next) ∙ h.2)
  ]
]

one_never : (n : ℕ) → NeverFall (n ∷ [])
one_never n i a b p q = absurd (cc)

pub sees_none : (from least most : ℕ) (xs : List ℕ) → (s : Sees from least most xs xs) × (length s.more ≡ 0)
sees_none from least most xs = (
  record { more = []; is = sym (append-nil xs); each = λ i n e. absurd (cc); rises = λ i m n p q. absurd (cc) },
  refl,
)

-- where there may be more
pub sees_wide : (from least before most : ℕ) (xs ys : List ℕ) → Sees from least before xs ys → before ≤ most → Sees from least most xs ys
sees_wide from least before most xs ys s grows = record {
  more = s.more;
  is = s.is;
  each = λ i n e. let b = s.each i n e in (b.0, b.1, omega (arith, b.2, grows));
  rises = s.rises;
}

-- one number more
pub sees_one : (from least before most states : ℕ) (xs ys zs : List ℕ) (s : Sees from least before xs ys) → zs ≡ ys ++ states ∷ [] → before ≤ states →
    states ≤ most → least ≤ states → from + length s.more + 2 ≤ states →
    (t : Sees from least most xs zs) × (length t.more ≡ length s.more + 1)
sees_one from least before most states xs ys zs s is grows few above far = (
  record {
    more = s.more ++ states ∷ [];
    is = is ∙ ap (λ (l : List ℕ). l ++ states ∷ []) s.is ∙ append_assoc xs s.more (states ∷ []);
    each = λ i n e. elim (split_at s.more states n i e) [
      | inl h ↦ let b = s.each i n h in (b.0, b.1, omega (arith, b.2, grows, few))
      | inr h ↦ (omega (arith, h.0, h.1, far), omega (arith, h.1, above), omega (arith, h.1, few))
    ];
    rises = falls_never s.more (states ∷ []) states s.rises (one_never states) (λ i m e. omega (arith, (s.each i m e).2, grows))
        (λ i n e. only i n e);
  },
  length-append s.more (states ∷ []),
)
  where
    only : (i n : ℕ) → slice_get (states ∷ []) i ≡ Some n → states ≤ n
    only zero n e = let same : states ≡ n = some_is e in omega (arith, same)
    only (suc i) n e = absurd (cc)

-- and those of a level
pub sees_on : (before most from : ℕ) (xs ys zs : List ℕ) (s : Sees 0 0 before xs ys) (t : Sees from before most ys zs) → from ≡ length s.more →
    before ≤ most → (u : Sees 0 0 most xs zs) × (length u.more ≡ from + length t.more)
sees_on before most from xs ys zs s t same grows = (
  record {
    more = s.more ++ t.more;
    is = t.is ∙ ap (λ (l : List ℕ). l ++ t.more) s.is ∙ append_assoc xs s.more t.more;
    each = λ i n e. elim (after_at s.more t.more i n e) [
      | inl h ↦ let b = s.each i n h in (b.0, b.1, omega (arith, b.2, grows))
      | inr h ↦ let b = t.each h.0 n h.2 in (omega (arith, b.0, h.1, same), omega arith, b.2)
    ];
    rises = falls_never s.more t.more before s.rises t.rises (λ i m e. (s.each i m e).2) (λ i n e. (t.each i n e).1);
  },
  length-append s.more t.more ∙ ap (λ n. n + length t.more) (sym same),
)

-- nobody was told
pub told_same : {A : Type 0} (P : A → A → Type 0) (o : Option A) → ((x : A) → P x x) → WhereTold o o P
told_same P None h = tt
told_same P (Some x) h = h x

-- ---- the verdict

never_all : (v : Verdict) (g : GivenUp) (moves : ℕ) → or_else v (verdict_of_given_up g moves) ≡ verdict.All → ⊥
never_all verdict.All given_up.Full moves e = absurd (cc)
never_all verdict.All given_up.Many moves e = absurd (cc)
never_all verdict.All given_up.NoMemory moves e = absurd (cc)
never_all (verdict.Full n) g moves e = absurd (cc)
never_all (verdict.Many n) g moves e = absurd (cc)
never_all (verdict.Cut n) g moves e = absurd (cc)
never_all (verdict.Unrecorded n) g moves e = absurd (cc)
never_all (verdict.NoMemory n) g moves e = absurd (cc)

never_full : (v : Verdict) (moves : ℕ) → or_else v (verdict.Full moves) ≡ verdict.All → ⊥
never_full verdict.All moves e = absurd (cc)
never_full (verdict.Full n) moves e = absurd (cc)
never_full (verdict.Many n) moves e = absurd (cc)
never_full (verdict.Cut n) moves e = absurd (cc)
never_full (verdict.Unrecorded n) moves e = absurd (cc)
never_full (verdict.NoMemory n) moves e = absurd (cc)

pub watched_whole : (v : Verdict) (most states : ℕ) (xs ys : List ℕ) → states ≤ most → (s : Sees 0 0 states xs ys) → length s.more + 1 ≡ states →
    IsWatched v most states xs ys
watched_whole v most states xs ys few s whole = record { few = few; sees = s; whole = λ e. whole }

pub watched_not : (v : Verdict) (most states : ℕ) (xs ys : List ℕ) → states ≤ most → Sees 0 0 states xs ys → (v ≡ verdict.All → ⊥) →
    IsWatched v most states xs ys
watched_not v most states xs ys few s not = record { few = few; sees = s; whole = λ e. absurd (not e) }

pub watched_early : (v w : Verdict) (g : GivenUp) (moves most states : ℕ) (xs ys : List ℕ) → w ≡ or_else v (verdict_of_given_up g moves) →
    states ≤ most → Sees 0 0 states xs ys → IsWatched w most states xs ys
watched_early v w g moves most states xs ys is few s = watched_not w most states xs ys few s (λ e. never_all v g moves (sym is ∙ e))

pub watched_full : (v w : Verdict) (moves most states : ℕ) (xs ys : List ℕ) → w ≡ or_else v (verdict.Full moves) → states ≤ most →
    Sees 0 0 states xs ys → IsWatched w most states xs ys
watched_full v w moves most states xs ys is few s = watched_not w most states xs ys few s (λ e. never_full v moves (sym is ∙ e))

pub watched_confirmed : (v w : Verdict) (most states : ℕ) (xs ys : List ℕ) → IsConfirmed v w → IsWatched v most states xs ys → IsWatched w most states xs ys
watched_confirmed v w most states xs ys e h = record { few = h.few; sees = h.sees; whole = λ all. h.whole (was_all v w e all) }
  where
    was_all : (v w : Verdict) → IsConfirmed v w → w ≡ verdict.All → v ≡ verdict.All
    was_all verdict.All w e all = refl
    was_all (verdict.Full n) w e all = sym e ∙ all
    was_all (verdict.Many n) w e all = sym e ∙ all
    was_all (verdict.Cut n) w (inl e) all = sym e ∙ all
    was_all (verdict.Cut n) w (inr (inl e)) all = let x : verdict.Unrecorded n ≡ verdict.All = sym e ∙ all in absurd (cc)
    was_all (verdict.Cut n) w (inr (inr e)) all = let x : verdict.NoMemory n ≡ verdict.All = sym e ∙ all in absurd (cc)
    was_all (verdict.Unrecorded n) w e all = sym e ∙ all
    was_all (verdict.NoMemory n) w e all = sym e ∙ all
