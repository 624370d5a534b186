-- How `explore` came to its status, exit by exit, whatever the drive and the printer are.
use Rattle.std.specs.Prelude.{⊤}
use Rattle.std.proofs.Common.{◌≡◌, ◌∙◌, inl, inr, ℕ, Bool, false, List, [], Option, Some, Ok, Err, refl, sym, subst}
use Rattle.std.specs.Global.{Vec}
use Rattle.edi_told.specs.Told.{WhereTold}
use Rattle.edi_host.specs.Contents.{Contents}
use Rattle.edi_system.specs.Growing.{Shrinks}
use Rattle.edi_runs.specs.explore.Explorations.{Findings, IsExplorationOf}
use Rattle.edi_runs.specs.explore.Keeping.{KeepsInTurn}
use Rattle.edi_runs.specs.explore.Records.{records_of}
use Rattle.edi_runs.specs.explore.Told.{findings_of}
use Rattle.edi_words.specs.Words.{ExploreOptions, explore}
use Rattle.edi_statuses.specs.declared.ended.Ended.{Ended}
use Rattle.edi_statuses.specs.declared.status.Status.{Status}
use Rattle.edi_statuses.specs.declared.status.Status.TheVariants as status
use Rattle.edi_statuses.specs.Decided.{Came}
use Rattle.edi_statuses.specs.EachObject.{LeavesEach}
use Rattle.edi_statuses.specs.Means.{Means}
use Rattle.edi_statuses.specs.Outside.{Lent, outside_with, still_told}
use Rattle.edi_statuses.proofs.Due.{due_then}
use Rattle.edi_statuses.proofs.EachLeft.{each_same}
use Rattle.edi_statuses.proofs.Told.{itself, just_told, shows_nothing, told_so}
use Rattle.edi_main.specs.declared.text.explore.programs.Explorable.{Explorable}
use Rattle.edi_main.specs.declared.text.explore.reports.Explored.{Explored}
use Rattle.edi_main.specs.steps.OnFiles.{files_only}
use Rattle.edi_main.specs.text.ExploreCommand.{EndsAs, EndsExploring, GivesProgram, IsExplored, TakesInput}
use Rattle.edi_main.proofs.text.ExploreMeans.{ended_means, input_shrinks, unfed_means, unread_means, unshown_means}

abbrev CameHere : (file : List ℕ) → ExploreOptions → Status → (due : Bool) → (old new : Option Contents) → (left rest taken takes : Option (List ℕ))
    → Lent → Type 0
CameHere file o s due old new left rest taken takes kernel =
    (blocks : Option (List (List ℕ))) (printed : Option (List ℕ))
    → Came s due (Some (explore file o)) (outside_with old blocks left taken printed) (outside_with new blocks rest takes printed) kernel

module _ (file : List ℕ) (o : ExploreOptions) (old new : Option Contents) (left rest taken takes : Option (List ℕ)) (kernel : Lent) where
  -- of the other objects only the input may have lost its first bytes
  each_fed : WhereTold left rest Shrinks → (blocks : Option (List (List ℕ))) (printed : Option (List ℕ))
      → LeavesEach (Some (explore file o)) (outside_with old blocks left taken printed) (outside_with new blocks rest takes printed)
  each_fed h blocks printed =
      let same = each_same (Some (explore file o)) (outside_with old blocks left taken printed) (outside_with new blocks left takes printed) refl refl refl in
      record { drive = same.drive; input = h; printer = same.printer }

  -- the command has stopped before it showed anything
  silent : (s t : Status) (due : Bool) → t ≡ s → due ≡ false → takes ≡ taken → WhereTold left rest Shrinks
      → ((blocks : Option (List (List ℕ))) (printed : Option (List ℕ))
      → Means s (Some (explore file o)) (outside_with old blocks left taken printed) (outside_with new blocks rest takes printed) [] kernel)
      → CameHere file o t due old new left rest taken takes kernel
  silent s t due is due_is same shrinks means = λ blocks printed. record {
    shown = [];
    means =
        subst (λ x. Means x (Some (explore file o)) (outside_with old blocks left taken printed) (outside_with new blocks rest takes printed) [] kernel)
        (sym is) (means blocks printed);
    shows = shows_nothing taken takes same;
    due_is = due_is;
    each = each_fed shrinks blocks printed;
  }

-- what came of the records was told where the files tell it
ever_told : (name : Option (List ℕ)) (f : Findings) (s : Status) (front lines : List ℕ) (old new : Option Contents) → EndsAs name f s front lines old new
    → WhereTold old new (λ a b. ⊤)
ever_told name f s front lines old new (inl h) = just_told (λ a b. b ≡ a) old new h.2
ever_told name f s front lines old new (inr h) = just_told (KeepsInTurn h.1.end (records_of name f.endings)) old new h.1.keeps

shrinks_not : (left : Option (List ℕ)) → WhereTold left left Shrinks
shrinks_not left = told_so (λ a b. b ≡ a) Shrinks left left (λ a b e. (0, e)) (itself left)

-- the text was not read
pub came_unread : (file : List ℕ) (o : ExploreOptions) (old new : Option Contents) (left taken : Option (List ℕ)) (kernel : Lent) (s t : Status)
    (due : Bool) → kernel.after ≡ kernel.before → t ≡ s → due ≡ false → WhereTold old new (λ a b. b ≡ a)
    → GivesProgram (files_only (still_told old new)) file (Err s) → CameHere file o t due old new left left taken taken kernel
came_unread file o old new left taken kernel s t due idle is due_is same gives =
    silent file o old new left left taken taken kernel s t due is due_is refl (shrinks_not left) (λ blocks printed.
    unread_means file o old new left left taken taken blocks printed kernel same refl idle s gives)

module _ (file : List ℕ) (o : ExploreOptions) (old mid : Option Contents) (same : WhereTold old mid (λ a b. b ≡ a)) (p : Explorable)
    (gives : GivesProgram (files_only (still_told old mid)) file (Ok p)) (left rest taken : Option (List ℕ)) (kernel : Lent) where
  ever : WhereTold mid mid (λ a b. ⊤)
  ever = just_told (λ a b. b ≡ a) mid mid (itself mid)

  -- the input was not read
  pub came_unfed : (s t : Status) (due : Bool) → kernel.after ≡ kernel.before → t ≡ s → due ≡ false → TakesInput p.asks (Err s) left rest
      → CameHere file o t due old mid left rest taken taken kernel
  came_unfed s t due idle is due_is h =
      silent file o old mid left rest taken taken kernel s t due is due_is refl (input_shrinks p.asks (Err s) left rest h) (λ blocks printed.
      unfed_means file o old mid left rest taken taken blocks printed kernel mid ever gives.0 gives.2.0 gives.1 gives.2.1.front.unit_is same idle p.asks
      gives.2.1.asks_is s h)

  module _ (bytes : Vec ℕ) (fed : TakesInput p.asks (Ok bytes) left rest) where
    -- memory ran out before the lines were shown
    pub came_unshown : (t : Status) (due : Bool) → t ≡ status.NoMemory → due ≡ false → CameHere file o t due old mid left rest taken taken kernel
    came_unshown t due is due_is =
        silent file o old mid left rest taken taken kernel status.NoMemory t due is due_is refl (input_shrinks p.asks (Ok bytes) left rest fed)
        (λ blocks printed.
        unshown_means file o old mid left rest taken taken blocks printed kernel mid ever gives.0 gives.2.0 gives.1 gives.2.1.front.unit_is
        bytes.items p.asks gives.2.1.asks_is fed same)

    -- the lines were shown, or a first part of them
    pub came_ended : (input : List ℕ) → input ≡ bytes.items → (e : Explored) → IsExplored gives.0 input o.states o.turns o.shown o.record_file e → (new : Option Contents)
        (takes : Option (List ℕ)) (ended : Ended) → EndsExploring o.record_file (findings_of e.exploration) e.lines.items ended taken takes mid new
        → CameHere file o ended.status ended.due old new left rest taken takes kernel
    came_ended input input_is e found new takes ended ends = λ blocks printed. record {
      shown = ends.front;
      means =
          ended_means file o old new left rest taken takes blocks printed kernel mid (ever_told o.record_file (findings_of e.exploration) ended.status ends.front e.lines.items mid new ends.ends) gives.0 gives.2.0 gives.1
          gives.2.1.front.unit_is bytes.items p.asks gives.2.1.asks_is fed (findings_of e.exploration)
          (subst (λ i. IsExplorationOf gives.0 i o.states o.turns o.shown (findings_of e.exploration)) input_is found.is) same ended.status ends.front
          (subst (λ l. EndsAs o.record_file (findings_of e.exploration) ended.status ends.front l mid new) found.lines_are ends.ends);
      shows = ends.shows;
      due_is = ends.due_is ∙ sym (due_then [] ends.front);
      each = each_fed file o old new left rest taken takes kernel (input_shrinks p.asks (Ok bytes) left rest fed) blocks printed;
    }
