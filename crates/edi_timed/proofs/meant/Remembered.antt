-- The meaning begins a stint of a process where its last one has left it: what is kept of this by each step.
use Rattle.std.proofs.Common.{◌≡◌, ℕ, ◌<◌, ◌≤◌, ◌⊎◌, inl, inr, ◌==◌, Bool, true, false, if◌then◌else◌, List}
use Rattle.std.proofs.Common.{[], ◌∷◌, ◌++◌, Some, None, refl, sym, subst, ap, ◌∙◌, arith, append-nil}
use Rattle.std.proofs.lemmas.Bool.{ne_eqb}
use Rattle.edi_calls.specs.Names.{Name, Table, same, find}
use Rattle.edi_calls.specs.Ready.{child, joins}
use Rattle.edi_calls.proofs.Names.{some_is, flat, not_below, deeper}
use Rattle.edi_calls.proofs.Tables.{same-or-other, same-symmetric, find-with_at-same}
use Rattle.edi_unit.specs.Tree.{ProgramUnit}
use Rattle.edi_meaning.specs.Step.{Standing, ready, at_when, waiting, Process, Processes, went, step}
use Rattle.edi_meaning.specs.Places.{is_at_when, attempts}
use Rattle.edi_meaning.specs.Laws.{IsWhole}
use Rattle.edi_meaning.proofs.Attempts.{attempts_are_whole}
use Rattle.edi_meaning.proofs.Family.{Fresh}
use Rattle.edi_timeline.specs.Stints.{Start, begin, join, Stint, started, start_of, failed_as, stopped, end_of}
use Rattle.edi_timeline.specs.Adding.{start_by, start_after}
use Rattle.edi_timed.specs.Ran.{newest_of, start_in}
use Rattle.edi_timed.proofs.Newest.{newest_same, newest_other}
use Rattle.edi_timed.proofs.meant.Stays.{Kept, Born, Goes, IsNotReady}

-- a process is taken where its last stint has left it
abbrev pub Remembered : ProgramUnit → List Stint → Name → Process → Type 0
Remembered unit xs r x = started unit x x.standing ≡ start_in xs r

-- so is everyone but p
abbrev pub Remembers : ProgramUnit → List Stint → Table Process → Name → Type 0
Remembers unit xs live p = (r : Name) (x : Process) → same r p ≡ false → find live r ≡ Some x → Remembered unit xs r x

-- no stint is of a child of a later fork, nor of one below such a child
abbrev pub Unborn : List Stint → Table Process → Type 0
Unborn xs live =
    (r : Name) (x : Process) (f i : ℕ) (rest : List (ℕ × ℕ)) → find live r ≡ Some x → x.forks < f →
    newest_of xs (child r f i ++ flat rest) ≡ None

module _ (unit : ProgramUnit) (s : Processes) (p : Name) (q : Process) (found : find s.live p ≡ Some q) (live : Table Process)
    (g : Goes unit s p q found live) where
  -- ---- without a new stint

  module _ (xs : List Stint) (u : Unborn xs s.live) where
    child_unborn : (r : Name) (y : Process) → Born unit s p q found r y → (rest : List (ℕ × ℕ)) → newest_of xs (r ++ flat rest) ≡ None
    child_unborn r y b rest = ap (λ z. newest_of xs (z ++ flat rest)) b.named ∙ u p q b.fork b.number rest found b.later

    pub unborn_on : Unborn xs live
    unborn_on r y f i rest e less = go (same-or-other r p)
      where
        by : Kept unit s p q found r y ⊎ Born unit s p q found r y → newest_of xs (child r f i ++ flat rest) ≡ None
        by (inl k) = u r k.was f i rest k.there (omega (arith, less, k.forks))
        by (inr b) =
            ap (λ z. newest_of xs (child z f i ++ flat rest)) b.named ∙ ap (newest_of xs) (deeper p b.fork b.number f i rest)
            ∙ u p q b.fork b.number ((f, i) ∷ rest) found b.later

        go : (r ≡ p) ⊎ (same r p ≡ false) → newest_of xs (child r f i ++ flat rest) ≡ None
        go (inl h) =
            ap (λ z. newest_of xs (child z f i ++ flat rest)) h
            ∙ u p q f i rest found (omega (arith, less, g.mine y (sym (ap (find live) h) ∙ e)))
        go (inr n) = by (g.theirs r y n e)

    pub remembers_on : Remembers unit xs s.live p → Remembers unit xs live p
    remembers_on h r y n e = by (g.theirs r y n e)
      where
        by : Kept unit s p q found r y ⊎ Born unit s p q found r y → Remembered unit xs r y
        by (inl k) = k.starts ∙ h r k.was n k.there
        by (inr b) =
            ap (started unit y) b.rests ∙ ap (λ n. if n == 0 then begin else join) b.none
            ∙ sym (ap start_after (ap (newest_of xs) (sym (append-nil r)) ∙ child_unborn r y b []))

  -- ---- with a stint of p more

  module _ (xs : List Stint) (x : Stint) (of_p : x.process ≡ p) where
    pub unborn_more : Fresh s.live → Unborn xs live → Unborn (xs ++ x ∷ []) live
    unborn_more fresh u r y f i rest e less =
        newest_other xs x (child r f i ++ flat rest) (other (same-or-other x.process (child r f i ++ flat rest))) ∙ u r y f i rest e less
      where
        by : p ≡ child r f i ++ flat rest → Kept unit s p q found r y ⊎ Born unit s p q found r y → ⊥
        by h (inl k) =
            let le : f ≤ k.was.forks = fresh.old r k.was f i rest q k.there (sym (ap (find s.live) h) ∙ found) in
            absurd (omega (arith, le, less, k.forks))
        by h (inr b) =
            not_below p b.fork b.number ((f, i) ∷ rest)
            (sym (deeper p b.fork b.number f i rest) ∙ sym (ap (λ z. child z f i ++ flat rest) b.named) ∙ sym h)

        never : p ≡ child r f i ++ flat rest → (r ≡ p) ⊎ (same r p ≡ false) → ⊥
        never h (inl k) = not_below p f i rest (sym (ap (λ z. child z f i ++ flat rest) k) ∙ sym h)
        never h (inr n) = by h (g.theirs r y n e)

        other : (x.process ≡ child r f i ++ flat rest) ⊎ (same x.process (child r f i ++ flat rest) ≡ false) →
            same x.process (child r f i ++ flat rest) ≡ false
        other (inl h) = absurd (never (sym of_p ∙ h) (same-or-other r p))
        other (inr n) = n

    -- everyone is taken where the last stint has left it
    pub remembers_more : Remembers unit xs live p → ((y : Process) → find live p ≡ Some y → started unit y y.standing ≡ start_by x.from x.end) →
        (r : Name) (y : Process) → find live r ≡ Some y → Remembered unit (xs ++ x ∷ []) r y
    remembers_more h own r y e = go (same-or-other r p)
      where
        go : (r ≡ p) ⊎ (same r p ≡ false) → Remembered unit (xs ++ x ∷ []) r y
        go (inl k) =
            own y (sym (ap (find live) k) ∙ e)
            ∙ sym (ap start_after (newest_same xs x r (of_p ∙ sym k)))
        go (inr n) =
            h r y n e ∙ sym (ap start_after (newest_other xs x r (ap (λ z. same z r) of_p ∙ same-symmetric r p n)))

  -- ---- how p itself is taken after its stint

  pub own_start : (attempt quiet : Bool) (from : Start) → IsNotReady unit s p q found live →
      (attempt ≡ true → (y : Process) → find live p ≡ Some y → started unit y y.standing ≡ from) →
      (y : Process) → find live p ≡ Some y → started unit y y.standing ≡ start_by from (end_of unit attempt quiet (find live p))
  own_start attempt quiet from never again y e =
      of_standing y.standing refl attempt refl ∙ sym (ap (λ o. start_by from (end_of unit attempt quiet o)) e)
    where
      failed : (v : Bool) → start_by from (failed_as unit v) ≡ from
      failed true = refl
      failed false = refl

      some_forks : (n : ℕ) → 0 < n → (if n == 0 then begin else join) ≡ join
      some_forks n h = ap (λ v. if v then begin else join) (ne_eqb n 0 (λ e. absurd (omega (arith, h, e))))

      of_standing : (st : Standing) → y.standing ≡ st → (v : Bool) → attempt ≡ v →
          started unit y y.standing ≡ start_by from (stopped unit attempt quiet y y.standing)
      of_standing ready f v a = absurd (never y e f)
      of_standing (waiting n) f v a =
          ap (started unit y) f ∙ some_forks y.forks (g.waits y n e f) ∙ sym (ap (λ st. start_by from (stopped unit attempt quiet y st)) f)
      of_standing (at_when cs position) f true a =
          again a y e ∙ sym (ap (λ st. start_by from (stopped unit attempt quiet y st)) f
          ∙ ap (λ v. start_by from (stopped unit v quiet y (at_when cs position))) a ∙ failed quiet)
      of_standing (at_when cs position) f false a =
          ap (started unit y) f ∙ sym (ap (λ st. start_by from (stopped unit attempt quiet y st)) f
          ∙ ap (λ v. start_by from (stopped unit v quiet y (at_when cs position))) a)

-- after an attempt that has failed p is taken as before it
pub again_start : (unit : ProgramUnit) (s t : Processes) (p : Name) (q : Process) (ps : List Name) (quiet : Bool) → find s.live p ≡ Some q →
    step unit s p ≡ went t (joins ps) quiet → attempts (find s.live p) ≡ true → (y : Process) → find t.live p ≡ Some y →
    started unit y y.standing ≡ start_of unit (find s.live p)
again_start unit s t p q ps quiet found is attempt y e = of_standing q.standing refl
  where
    of_standing : (st : Standing) → q.standing ≡ st → started unit y y.standing ≡ start_of unit (find s.live p)
    of_standing ready f = let c : false ≡ true = sym (ap attempts found ∙ ap is_at_when f) ∙ attempt in absurd (cc)
    of_standing (waiting n) f = let c : false ≡ true = sym (ap attempts found ∙ ap is_at_when f) ∙ attempt in absurd (cc)
    of_standing (at_when cs position) f =
        let q' : Process = record q { standing = at_when cs position } in
        let whole : IsWhole s p q cs position (went t (joins ps) quiet) =
        subst (IsWhole s p q cs position) is (attempts_are_whole unit s p q cs position found f) in
        let one : q' ≡ y = some_is (sym (find-with_at-same s.live p q') ∙ sym (ap (λ l. find l p) whole.0) ∙ e) in
        sym (ap (λ (z : Process). started unit z z.standing) one) ∙ sym (ap (started unit q) f) ∙ sym (ap (start_of unit) found)
