-- The first law is kept by every step, and so it holds along permitted steps.
use Rattle.std.proofs.Common.{◌≡◌, ℕ, zero, suc, ◌+◌, ◌<◌, ◌≤◌, ◌⊎◌, inl, inr, true, false, List, [], ◌∷◌, map, length, Option, Some, None, refl, sym}
use Rattle.std.proofs.Common.{subst, ap, ◌∙◌, arith}
use Rattle.std.specs.Prelude.{⊤, slice_get, unwrap_or}
use Rattle.std.proofs.lemmas.Bool.{cases_lt}
use Rattle.std.proofs.lemmas.List.{nil_from_length}
use Rattle.edi_calls.specs.Names.{Name, same, find, with_at}
use Rattle.edi_calls.specs.Ready.{child}
use Rattle.edi_calls.specs.State.{State, Traced}
use Rattle.edi_calls.specs.Outcome.{Ending}
use Rattle.edi_calls.proofs.Names.{some_is}
use Rattle.edi_calls.proofs.Tables.{same-or-other}
use Rattle.edi_unit.specs.Need.{block_at, slots}
use Rattle.edi_unit.specs.Fits.{Fits}
use Rattle.edi_unit.specs.Headings.{Heading}
use Rattle.edi_unit.specs.Tree.{ProgramUnit}
use Rattle.edi_meaning.specs.Store.{Spot, Instance, no_frame, Store, Shape, instances, frames, shape, frame_at, now, IsLive, procedure, system_procedure}
use Rattle.edi_meaning.specs.Evaluation.{World, Evaluation, gives, ends, turn_from}
use Rattle.edi_meaning.specs.Whole.{instance_of}
use Rattle.edi_meaning.specs.Step.{Standing, ready, at_when, waiting, Work, doing, loop_end, procedure_end, branch_end, program_entry, program_end, body_of, Asks, goes, arrives, again, forks, leaves, Process}
use Rattle.edi_meaning.specs.Step.{Processes, Stepped, went, ended, local_step, kernel, step_of, step, start}
use Rattle.edi_meaning.specs.Permitted.{is_running, at, permitted}
use Rattle.edi_meaning.proofs.Lasting.{Every, Gives, Keeps}
use Rattle.edi_meaning.proofs.Kernel.{After, of_process, permitted_keep}
use Rattle.edi_meaning.proofs.Own.{new_cells_fit, calls_fit, instances-same, instances-other}
use Rattle.edi_meaning.proofs.Frames.{own_shape, framing, Steps, local_steps}
use Rattle.edi_meaning.proofs.Family.{free_name, free_next}
use Rattle.edi_meaning.proofs.Private.{none_before}
use Rattle.edi_meaning.proofs.References.{Refers}
use Rattle.edi_meaning.proofs.Living.{Setting, local_refers, begun_refers}
use Rattle.edi_meaning.proofs.Due.{DueAs, DueAsks, due_some, local_due}
use Rattle.edi_meaning.proofs.Dangling.{Coherent, alone_now, step_coherent, start_coherent}
use Rattle.edi_disjoint.specs.Footprints.{Variable, CallsParameter, NamesProgram, IsBranch}
use Rattle.edi_disjoint.specs.Open.{UsesOpenly}
use Rattle.edi_disjoint.proofs.Pairing.{Pair}
use Rattle.edi_disjoint.proofs.Locally.{StandingMay}
use Rattle.edi_disjoint.proofs.Cells.{block_in, InstanceFits, InstancesFit, StoreFits, fits-moved}
use Rattle.edi_disjoint.proofs.Chains.{FrameFits, OpenFits}
use Rattle.edi_disjoint.proofs.Texts.{text_of, open_text}
use Rattle.edi_disjoint.proofs.Beside.{Knows}
use Rattle.edi_disjoint.proofs.SecondLaw.{Second, second_law}
use Rattle.edi_disjoint.proofs.Inside.{Known}
use Rattle.edi_disjoint.proofs.Knowing.{Still, local_fits}
use Rattle.edi_disjoint.proofs.Effects.{Results, results}
use Rattle.edi_disjoint.proofs.Exchanged.{agree_self}
use Rattle.edi_disjoint.proofs.Working.{blocks_of, top, top_is, WorkAs, WorkAsks, may_of, local_work, attempt_frames}
use Rattle.edi_disjoint.proofs.steps.Following.{Follows}
use Rattle.edi_disjoint.proofs.steps.Stepping as stepping
use Rattle.edi_disjoint.proofs.steps.Owning.{Owning, Owned, local_owned}
use Rattle.edi_disjoint.proofs.steps.Referring.{setting_now}
use Rattle.edi_disjoint.proofs.steps.Stores.{SameOwn}
use Rattle.edi_disjoint.proofs.FirstLaw.{first_block, FirstFits, nothing_fits, Stood, Did, Plain, plain_fit, goes_on, has_ended, has_forked}

both_after : (K L J : Processes → Type 0) (x : Stepped) → After K x → After L x → ((t : Processes) → K t → L t → J t) → After J x
both_after K L J (went t next quiet) k l h = h t k l
both_after K L J (ended ending system turns) k l h = tt

module _ (unit : ProgramUnit) (ok : Fits unit) (unnamed : NamesProgram unit → ⊥) where
  abbrev H : ℕ → ℕ → Heading
  H = ok.headings

  module _ (s : Processes) (p : Name) (q : Process) (found : find s.live p ≡ Some q) (runs : is_running q.standing ≡ true) (coherent : Coherent s) (stood : Stood unit ok s) where
    abbrev F : Shape
    F = shape s.world.store

    due : DueAs p q.standing q.work (length (F p))
    due = coherent.due p q found

    pub setting : 0 < length (F p) → Setting p F
    setting l = setting_now unit s p q found runs coherent l

    pub may_now : 0 < length (F p) → StandingMay (text_of unit ok (block_in F (now F p))) q.standing q.work
    may_now l =
        subst (λ n. StandingMay (text_of unit ok n) q.standing q.work) (top_is F p)
        (may_of unit ok (blocks_of (F p)) p q.standing q.work (length (F p)) l due (stood.work p q found))

    known : 0 < length (F p) → Known unit ok p F s.world
    known l = record { setting = setting l; refers = coherent.refers; store = stood.store }

    pub knows : (b : ℕ) (quiet : CallsParameter unit b → ⊥) → 0 < length (F p) → first_block (F p) ≡ b → (p ≡ [] → ⊥) → Knows unit ok unnamed b quiet p q.size F s.world
    knows b quiet l e some = record {
      known = known l;
      frames = subst (λ n. (CallsParameter unit n → ⊥) → Every (FrameFits unit n p) (F p)) e (stood.branches p some).closed quiet;
    }

    abbrev r : Evaluation Asks
    r = local_step unit p q.size q.standing q.work s.world

    -- ---- what the step leaves

    abbrev Nothing : Ending → Traced → ℕ → Type 0
    Nothing e system turns = ⊤

    collect : (r : Evaluation Asks) → Gives (λ a v. Refers (shape v.store) v.store) Nothing r → Gives (λ a v. StoreFits unit H (shape v.store) v.store) Nothing r →
        Keeps (framing unit p q.size) (WorkAsks unit ok p) r → Keeps (framing unit p q.size) (DueAsks p) r → Keeps (framing unit p q.size) (λ a v. Steps p s.world.store v.store) r →
        ((p ≡ [] → ⊥) → Gives (λ a v. FirstFits unit ok p (shape v.store p)) Nothing r) → Gives (Did unit ok s p) Nothing r
    collect (gives a w) h f k d t b = record { refers = h; fits = f; work = k.is; due = d.is; steps = t.is; branch = b }
    collect (ends e system turns) h f k d t b = tt

    still_fits : (r : Evaluation Asks) → Pair (λ a v z. Still unit ok unnamed p q.size F v) r r → Gives (λ a v. StoreFits unit H (shape v.store) v.store) Nothing r
    still_fits (gives a w) h = h.1.fits
    still_fits (ends e system turns) h = tt

    -- with its oldest instance a process of a branch stays one
    branch_first : (p ≡ [] → ⊥) → 0 < length (F p) → (w : World) → (0 < length (shape w.store p) → frame_at (shape w.store) (p, 0) ≡ frame_at F (p, 0)) →
        ((CallsParameter unit (first_block (F p)) → ⊥) → Every (FrameFits unit (first_block (F p)) p) (shape w.store p)) →
        (((v : Variable) → UsesOpenly unit (first_block (F p)) v → ⊥) → Every (OpenFits unit (first_block (F p)) p) (shape w.store p)) → FirstFits unit ok p (shape w.store p)
    branch_first some here w oldest h k = go (cases_lt 0 (length (shape w.store p)))
      where
        go : (0 < length (shape w.store p)) ⊎ (length (shape w.store p) ≤ 0) → FirstFits unit ok p (shape w.store p)
        go (inl l) =
            let e : first_block (shape w.store p) ≡ first_block (F p) = ap (λ f. f.block) (oldest l) in
            record {
              closed = λ quiet. subst (λ n. Every (FrameFits unit n p) (shape w.store p)) (sym e) (h (subst (λ n. CallsParameter unit n → ⊥) e quiet));
              apart = λ none. subst (λ n. Every (OpenFits unit n p) (shape w.store p)) (sym e) (k (subst (λ n. (v : Variable) → UsesOpenly unit n v → ⊥) e none));
              branch = λ l. subst (IsBranch unit) (sym e) ((stood.branches p some).branch here);
            }
        go (inr l) = subst (FirstFits unit ok p) (sym (nil_from_length (shape w.store p) (omega (arith, l)))) (nothing_fits unit ok p)

    branch_stays : (p ≡ [] → ⊥) → 0 < length (F p) → (r : Evaluation Asks) → Pair (λ a v z. Still unit ok unnamed p q.size F v) r r →
        ((quiet : CallsParameter unit (first_block (F p)) → ⊥) →
        Pair (λ a v z. Second unit ok unnamed (first_block (F p)) quiet p q.size s.world s.world F v z) r r) →
        (((v : Variable) → UsesOpenly unit (first_block (F p)) v → ⊥) → Gives (λ a v. Every (OpenFits unit (first_block (F p)) p) (shape v.store p)) Nothing r) →
        Gives (λ a v. FirstFits unit ok p (shape v.store p)) Nothing r
    branch_stays some here (gives a w) h k m = branch_first some here w h.1.oldest (λ quiet. (k quiet).1.frames) m
    branch_stays some here (ends e system turns) h k m = tt

    -- ---- outside critical phases

    pub open_now : 0 < length (F p) → q.standing ≡ ready → stepping.StandingMay ⊥ (open_text unit ok (block_in F (now F p))) ready q.work
    open_now l e =
        subst (λ n. stepping.StandingMay ⊥ (open_text unit ok n) ready q.work) (top_is F p)
        (may_open (blocks_of (F p)) q.work (subst (λ x. DueAs p x q.work (length (F p))) e due) (subst (λ x. WorkAs unit ok (blocks_of (F p)) x q.work) e (stood.work p q found)))
      where
        may_open : (ns : List ℕ) (work : List Work) → DueAs p ready work (length (F p)) → WorkAs unit ok ns ready work → stepping.StandingMay ⊥ (open_text unit ok (top ns)) ready work
        may_open ns [] h k = tt
        may_open ns (doing a position ∷ work) h k = k.0.1
        may_open ns (loop_end cs position ∷ work) h k = tt
        may_open ns (procedure_end line ∷ work) h k = tt
        may_open ns (branch_end ∷ work) h k = tt
        may_open ns (program_entry ∷ work) h k = absurd (omega (arith, l, h.1))
        may_open ns (program_end ∷ work) h k = tt

    module _ (some : p ≡ [] → ⊥) (l : 0 < length (F p)) (none : (v : Variable) → UsesOpenly unit (first_block (F p)) v → ⊥) where
      -- two worlds in which p finds the same, the first that of the state
      pub owns_now : (more : ℕ) (u : World) → SameOwn p u.store s.world.store u.store → u.turns ≡ s.world.turns + more →
          Owning unit ok unnamed (first_block (F p)) none p q.size more s.world u F s.world u
      owns_now more u same turns = record {
        known = known l;
        frames = (stood.branches p some).apart none;
        store = same;
        system = refl;
        turns = turns;
        few = omega arith;
      }

      abbrev Fitting : Evaluation Asks → Type 0
      Fitting x = Gives (λ a v. Every (OpenFits unit (first_block (F p)) p) (shape v.store p)) Nothing x

      followed : (x : Evaluation Asks) → Follows (λ z. s.world.system) 0 (λ a w u. Owned unit ok unnamed (first_block (F p)) none p q.size 0 s.world s.world w u) x x → Fitting x
      followed (gives a w) h = h.1.frames
      followed (ends e system turns) h = tt

      attempted : (x : Evaluation Asks) → Keeps (framing unit p q.size) (λ a v. shape v.store p ≡ F p) x → Fitting x
      attempted (gives a w) h = subst (Every (OpenFits unit (first_block (F p)) p)) (sym h.is) ((stood.branches p some).apart none)
      attempted (ends e system turns) h = tt

      open_frames : (standing : Standing) → q.standing ≡ standing → Fitting (local_step unit p q.size standing q.work s.world)
      open_frames ready e =
          followed (local_step unit p q.size ready q.work s.world)
          (local_owned unit ok unnamed (first_block (F p)) none p q.size 0 s.world s.world F ready q.work s.world s.world (open_now l e)
          (owns_now 0 s.world (record { own = refl; alike = λ r o. refl; references = λ r d k o. refl; others = λ r n. refl }) (omega arith))).is
      open_frames (at_when cs position) e =
          attempted (local_step unit p q.size (at_when cs position) q.work s.world) (attempt_frames unit ok p q.size cs position q.work s.world)
      open_frames (waiting n) e = tt

    living : 0 < length (F p) → Gives (Did unit ok s p) Nothing r
    living l =
        let still : Pair (λ a v z. Still unit ok unnamed p q.size F v) r r = (local_fits unit ok unnamed p q.size F q.standing q.work s.world (may_now l) (known l)).is in
        collect r (local_refers unit p q.size q.standing q.work s.world (setting l) coherent.refers).is (still_fits r still)
        (local_work unit ok p q.size q.standing q.work s.world (stood.work p q found)) (local_due unit p q.size q.standing q.work s.world due)
        (local_steps unit p q.size q.standing q.work s.world)
        (λ some. branch_stays some l r still (λ quiet. (second_law unit ok unnamed (first_block (F p)) quiet p q.size s.world s.world F q.standing q.work (may_now l)
        (knows (first_block (F p)) quiet l refl some) (agree_self unit (first_block (F p)) p s.world)).is)
        (λ none. open_frames some l none q.standing refl))

    -- ---- the program's entry

    module _ (e : p ≡ []) (none : length (F p) ≡ 0) where
      abbrev i : Instance
      i = instance_of unit p q.size unit.program ([], 0) (map (λ n. procedure (system_procedure n)) unit.calls)

      abbrev begun : Store
      begun = with_at s.world.store p (i ∷ [])

      abbrev G : Shape
      G = shape begun

      lives_on : (z : Spot) → IsLive F z → frame_at G z ≡ frame_at F z
      lives_on z l = go (same-or-other z.0 p)
        where
          go : (z.0 ≡ p) ⊎ (same z.0 p ≡ false) → frame_at G z ≡ frame_at F z
          go (inl h) = let k : length (F z.0) ≡ 0 = ap (λ x. length (F x)) h ∙ none in absurd (omega (arith, l, k))
          go (inr n) = ap (λ is. unwrap_or (slice_get (frames is) z.1) no_frame) (instances-other s.world.store p z.0 (i ∷ []) n)

      program_up : (block_at unit.blocks unit.program).up ≡ unit.program
      program_up =
          subst (λ n. (block_at unit.blocks n).up ≡ n) (sym ok.first) ((ok.fits_blocks 0 ok.some).outermost refl)

      program_fits : InstanceFits unit H G i
      program_fits = record {
        parent = ap (λ x. block_in G (x, 0)) (sym e) ∙ ap (λ is. (unwrap_or (slice_get (frames is) 0) no_frame).block) (instances-same s.world.store p (i ∷ [])) ∙ sym program_up;
        cells = plain_fit unit ok G unit.program 0 (slots (block_at unit.blocks unit.program)) _
            (new_cells_fit Plain (λ v. tt) unit p q.size unit.program ([], 0) (map (λ n. procedure (system_procedure n)) unit.calls) (calls_fit Plain (λ n. tt) unit.calls));
      }

      begun_fits : StoreFits unit H G begun
      begun_fits = record { shape = own_shape begun; each = λ x. go x (same-or-other x p) }
        where
          go : (x : Name) → (x ≡ p) ⊎ (same x p ≡ false) → InstancesFit unit H G (instances begun x)
          go x (inl h) = subst (InstancesFit unit H G) (sym (ap (instances begun) h ∙ instances-same s.world.store p (i ∷ []))) (program_fits, tt)
          go x (inr n) = subst (InstancesFit unit H G) (sym (instances-other s.world.store p x (i ∷ []) n))
              (fits-moved unit H F G F x lives_on (instances s.world.store x) 0 (coherent.refers.each x) (stood.store.each x))

      entry_refers : (n : ℕ) (work : List Work) → Gives (λ a v. Refers (shape v.store) v.store) Nothing
          (turn_from n s.world (λ w. gives (goes (body_of unit unit.program work)) (record w { store = with_at w.store p (i ∷ []) })))
      entry_refers zero work = tt
      entry_refers (suc n) work = begun_refers unit p q.size F s.world.store coherent.refers (alone_now unit s p q found runs coherent) (inl e)

      entry_fits : (n : ℕ) (work : List Work) → Gives (λ a v. StoreFits unit H (shape v.store) v.store) Nothing
          (turn_from n s.world (λ w. gives (goes (body_of unit unit.program work)) (record w { store = with_at w.store p (i ∷ []) })))
      entry_fits zero work = tt
      entry_fits (suc n) work = begun_fits

      entering : (work : List Work) → q.standing ≡ ready → q.work ≡ program_entry ∷ work → Gives (Did unit ok s p) Nothing r
      entering work f g =
          collect r (at_entry (λ x. Gives (λ a v. Refers (shape v.store) v.store) Nothing x) (entry_refers s.world.turns work))
          (at_entry (λ x. Gives (λ a v. StoreFits unit H (shape v.store) v.store) Nothing x) (entry_fits s.world.turns work))
          (local_work unit ok p q.size q.standing q.work s.world (stood.work p q found)) (local_due unit p q.size q.standing q.work s.world due)
          (local_steps unit p q.size q.standing q.work s.world) (λ some. absurd (some e))
        where
          at_entry : (P : Evaluation Asks → Type 0) → P (local_step unit p q.size ready (program_entry ∷ work) s.world) → P r
          at_entry P h = subst (λ x. P (local_step unit p q.size x q.work s.world)) (sym f) (subst (λ x. P (local_step unit p q.size ready x s.world)) (sym g) h)

    did : Gives (Did unit ok s p) Nothing r
    did = go q.standing q.work refl refl due
      where
        go : (standing : Standing) (work : List Work) → q.standing ≡ standing → q.work ≡ work → DueAs p standing work (length (F p)) → Gives (Did unit ok s p) Nothing r
        go ready work f g d = elim (due_some p work (length (F p)) d) [
          | inl l ↦ living l
          | inr e ↦ entering e.2 e.3 e.0 f (g ∙ e.1)
        ]
        go (at_when cs position) work f g d = living d.0
        go (waiting n) work f g d = living d.0

    -- ---- what the kernel makes of it

    stood_after : (a : Asks) (w : World) (t : Processes) → Did unit ok s p a w → Results unit s p q a w t → Coherent t → Stood unit ok t
    stood_after (goes work) w t d h c = goes_on unit ok s p q (goes work) w t stood d h (record q { work = work; standing = ready }) h.live h.store d.work
    stood_after (arrives cs position work) w t d h c =
        goes_on unit ok s p q (arrives cs position work) w t stood d h (record q { work = work; standing = at_when cs position }) h.live h.store d.work
    stood_after (again cs position quiet work) w t d h c =
        goes_on unit ok s p q (again cs position quiet work) w t stood d h (record q { work = work; standing = at_when cs position }) h.live h.store d.work
    stood_after (forks bs line work) w t d h c =
        has_forked unit ok s p q (forks bs line work) w t stood d h bs line work refl d.work.0 d.work.1 d.due.0 free
      where
        q' : Process
        q' = record q { forks = suc q.forks; work = work; standing = waiting (length bs) }

        free : (j : ℕ) → instances s.world.store (child p (suc q.forks) j) ≡ []
        free j = coherent.family.proper.bare (child p (suc q.forks) j) (none_before s.live p q' (child p (suc q.forks) j)
            (free_name (with_at s.live p q') p (suc q.forks) 0 j (omega arith) (free_next s.live p q q' found coherent.family.proper.fresh)))
    stood_after leaves w t d h c = has_ended unit ok s p q leaves w t stood d h c.refers h.live h.store

    running : After Coherent (kernel unit s p q r) → After (Stood unit ok) (kernel unit s p q r)
    running c = go r did c
      where
        go : (x : Evaluation Asks) → Gives (Did unit ok s p) Nothing x → After Coherent (kernel unit s p q x) → After (Stood unit ok) (kernel unit s p q x)
        go (ends e system turns) d c = tt
        go (gives a w) d c =
            both_after (Results unit s p q a w) Coherent (Stood unit ok) (kernel unit s p q (gives a w)) (results unit s p q a w) c
            (λ t h c. stood_after a w t d h c)

  -- ---- along permitted steps

  pub record Lawful (s : Processes) : Type 0 where
    pub coherent : Coherent s
    pub stood : Stood unit ok s

  step_stood : (s : Processes) (p : Name) → Lawful s → After (Stood unit ok) (step unit s p)
  step_stood s p h = go (find s.live p) refl
    where
      coherent_at : (q : Process) → find s.live p ≡ Some q → After Coherent (kernel unit s p q (local_step unit p q.size q.standing q.work s.world))
      coherent_at q e = subst (λ x. After Coherent (step_of unit s p x)) e (step_coherent unit s p h.coherent)

      of_standing : (q : Process) → find s.live p ≡ Some q → (standing : Standing) → q.standing ≡ standing
          → After (Stood unit ok) (kernel unit s p q (local_step unit p q.size q.standing q.work s.world))
      of_standing q e ready g = running s p q e (ap is_running g) h.coherent h.stood (coherent_at q e)
      of_standing q e (at_when cs position) g = running s p q e (ap is_running g) h.coherent h.stood (coherent_at q e)
      of_standing q e (waiting n) g = subst (λ x. After (Stood unit ok) (kernel unit s p q (local_step unit p q.size x q.work s.world))) (sym g) tt

      go : (x : Option Process) → find s.live p ≡ x → After (Stood unit ok) (step unit s p)
      go None e = subst (λ x. After (Stood unit ok) (step_of unit s p x)) (sym e) tt
      go (Some q) e = of_process unit s p q (After (Stood unit ok)) e (of_standing q e q.standing refl)

  step_lawful : (s : Processes) (p : Name) → Lawful s → After Lawful (step unit s p)
  step_lawful s p h =
      both_after Coherent (Stood unit ok) Lawful (step unit s p) (step_coherent unit s p h.coherent) (step_stood s p h) (λ t c k. record { coherent = c; stood = k })

  start_lawful : (system : State) (bound : ℕ) → Lawful (start unit system bound)
  start_lawful system bound = record {
    coherent = start_coherent unit system bound;
    stood = record { store = record { shape = own_shape []; each = λ r. tt }; work = work; branches = λ r some. nothing_fits unit ok r };
  }
    where
      work : (r : Name) (q : Process) → find (start unit system bound).live r ≡ Some q → WorkAs unit ok [] q.standing q.work
      work [] q e = subst (λ x. WorkAs unit ok [] x.standing x.work) (some_is e) tt
      work (y ∷ ys) q e = absurd (cc)

  -- THE FIRST LAW
  pub permitted_lawful : (system : State) (bound : ℕ) (order : List Name) (s : Processes) → permitted unit order (start unit system bound) ≡ at s → Lawful s
  permitted_lawful system bound order s e = permitted_keep unit Lawful step_lawful order (start unit system bound) s (start_lawful system bound) e
