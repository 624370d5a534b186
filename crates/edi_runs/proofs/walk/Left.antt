-- What a walk leaves of the objects, from what it leaves of the system over them; and where it was broken off, a state through which it comes.
use Rattle.std.proofs.Common.{◌≡◌, ◌∙◌, ◌⊎◌, ℕ, true, List, Option, Some, None, refl, sym, subst, inl, inr}
use Rattle.std.specs.Prelude.{Contains, IfSome, IsSome}
use Rattle.edi_told.specs.Told.{WhereTold}
use Rattle.edi_calls.specs.declared.ends.Outside.{Outside}
use Rattle.edi_calls.specs.Asked.{may_have_done}
use Rattle.edi_calls.specs.Laws.{IsSameOutside}
use Rattle.edi_calls.specs.Names.{Name}
use Rattle.edi_calls.specs.Outcome.{Ending}
use Rattle.edi_calls.specs.State.{State, Traced, fresh, moments_of, newest}
use Rattle.edi_calls.proofs.Parts.{done_by, torn_is_before_or_behind_all}
use Rattle.edi_system.specs.AsCalls.{FailsBeforeEnd, KeepsDue, LeavesByte}
use Rattle.edi_system.specs.Parts.{KeepsTold, SystemBegins}
use Rattle.edi_system.specs.State.{due_in, failed_in, state_of, state_with}
use Rattle.edi_system.specs.declared.system.System.{System}
use Rattle.edi_trace.specs.Drawn.{Drawn}
use Rattle.edi_unit.specs.Tree.{ProgramUnit}
use Rattle.edi_walk.specs.Ends.{WalkFails, WalkFailsBy, WalkFaultsBy, WalkIsCut, WalksTo}
use Rattle.edi_walk.specs.Walk.{WalkEnds}
use Rattle.edi_walk.specs.declared.walking.WalkEnd.{WalkEnd}
use Rattle.edi_walk.specs.declared.walking.WalkEnd.TheVariants as end
use Rattle.edi_execute.specs.Objects.{Contents, Objects, Show, contents_with, system_on}
use Rattle.edi_system.proofs.Told.{told_with}
use Rattle.edi_system.proofs.Used.{bytes_left}
use Rattle.edi_execute.proofs.Executing.{byte_before}
use Rattle.edi_execute.proofs.Runs.{AreOf, AreUnder, due_run, on_objects, told_run}
use Rattle.edi_runs.specs.walk.Leaves.{BrokeAtCall, BrokeAtCallOf, HasWalked, WalkLeaves}
use Rattle.edi_runs.specs.declared.walk.run.Walked.{Walked}
use Rattle.edi_runs.proofs.walk.Chained.{IsAmong, failed_among}

-- ---- the objects after a walk

shows_same : (one other : State) (c : Contents) → IsSameOutside one other → Show other c → Show one c
shows_same one other c same shows = record {
  input = shows.input ∙ same.input;
  shown = shows.shown ∙ same.shown;
  printed = shows.printed ∙ same.printed;
  slots = shows.slots ∙ same.slots;
  blocks = shows.blocks ∙ same.blocks;
}

some_same : {A : Type 0} (a b : A) → Some a ≡ Some b → a ≡ b
some_same a b e = cc

-- an object failed in a call that uses it
broke_at : (unit : ProgramUnit) (bound : ℕ) (old new : Drawn) (x y : Contents) (s : State) (failed : Option Outside → Type 0)
    (f : WalkFailsBy failed unit (system_on x) bound old s new) → Show s y → LeavesByte f.outside s.input → BrokeAtCall f.outside unit bound old x y
broke_at unit bound old new x y s failed f shows left =
    let one : State = newest (system_on x) f.fails.earlier in
    let at : IsSameOutside one s ⊎ ((may_have_done f.outside ≡ true) × IsSameOutside f.fails.next s) =
    elim (torn_is_before_or_behind_all f.asks.number f.asks.arguments f.asks.answer one f.fails.next s f.asks.is f.fails.torn) [
      | inl same ↦ inl same
      | inr same ↦ inr (done_by f.asks.number f.outside same.0 f.asks.uses_it, same.1)
    ] in
    record {
      ending = f.fails.ending;
      last = f.fails.last;
      turns = f.fails.turns;
      drawn = f.fails.drawn;
      order = f.fails.order;
      is = f.fails.is;
      one = one;
      next = f.fails.next;
      followed = record { later = f.fails.later; earlier = f.fails.earlier; is = f.fails.past; last = refl };
      asks = f.asks;
      left = byte_before f.outside one f.fails.next s at left;
      shows = elim at [
        | inl same ↦ inl (shows_same one s y same shows)
        | inr same ↦ inr (same.0, shows_same f.fails.next s y same.1 shows)
      ];
    }

broke_of : (unit : ProgramUnit) (bound : ℕ) (old new : Drawn) (x y : Contents) (s : State) (e : WalkEnd) (named failed : Option Outside) → named ≡ failed
    → (IsSome failed → e ≡ end.Fault) → WalkFaultsBy (λ o. failed ≡ o) unit (system_on x) bound old e s new → IfSome failed (λ o. LeavesByte o s.input) → Show s y
    → BrokeAtCallOf named unit bound old x y
broke_of unit bound old new x y s e None failed is so h left shows = tt
broke_of unit bound old new x y s e (Some o) failed is so h left shows =
    let f : WalkFailsBy (λ o. failed ≡ o) unit (system_on x) bound old s new =
    subst (λ k. WalkFaultsBy (λ o. failed ≡ o) unit (system_on x) bound old k s new) (so (subst IsSome is refl)) h in
    let byte : LeavesByte f.outside s.input = subst (λ p. IfSome p (λ o. LeavesByte o s.input)) f.failed_is left in
    subst (λ p. BrokeAtCall p unit bound old x y) (some_same f.outside o (sym (is ∙ f.failed_is)))
    (broke_at unit bound old new x y s (λ o. failed ≡ o) f shows byte)

module _ {D S T P : Type 0} (contents : D → Option (List (List ℕ))) (left : S → Option (List ℕ)) (shown : T → Option (List ℕ)) (printed : P → Option (List ℕ))
    (before after : System D S T P) (o o' : Objects D S T P) (are : AreUnder contents before o) (are' : AreOf after o') where
  pub walk_leaves : (unit : ProgramUnit) (bound : ℕ) (old : Drawn) (walked : Walked) (new : Drawn) → SystemBegins before
      → WhereTold (state_of contents left shown printed before) (state_of contents left shown printed after)
      (λ s t. WalksTo unit (fresh s) bound old walked.end t new)
      → WhereTold (state_of contents left shown printed before) (state_of contents left shown printed after)
      (λ s t. WalkFaultsBy (λ o. failed_in after ≡ o) unit (fresh s) bound old walked.end t new)
      → FailsBeforeEnd left after → (IsSome (failed_in after) → walked.end ≡ end.Fault) → walked.failed ≡ failed_in after
      → walked.due ≡ due_in after → KeepsTold contents left shown printed before after → KeepsDue shown before after
      → WalkLeaves contents left shown printed unit bound old walked new o o'
  walk_leaves unit bound old walked new begins exact asked before_end fault named due told keeps = record {
    walks = on_objects contents left shown printed before after o o' are are' (λ s t. WalksTo unit (fresh s) bound old walked.end t new)
        (HasWalked unit bound old walked.end new)
        (λ x x' y y' z z' w w' is. record {
          state = state_with after x' y' z' w';
          walks = is;
          shows = record { input = refl; shown = refl; printed = refl; slots = refl; blocks = refl };
        }) exact;
    broke = on_objects contents left shown printed before after o o' are are'
        (λ s t. WalkFaultsBy (λ o. failed_in after ≡ o) unit (fresh s) bound old walked.end t new × IfSome (failed_in after) (λ o. LeavesByte o t.input))
        (BrokeAtCallOf walked.failed unit bound old)
        (λ x x' y y' z z' w w' is. broke_of unit bound old new (contents_with x y z w) (contents_with x' y' z' w') (state_with after x' y' z' w') walked.end
        walked.failed (failed_in after) named fault is.0 is.1 (record { input = refl; shown = refl; printed = refl; slots = refl; blocks = refl }))
        (told_with (λ s t. WalkFaultsBy (λ o. failed_in after ≡ o) unit (fresh s) bound old walked.end t new)
        (λ (t : State). IfSome (failed_in after) (λ o. LeavesByte o t.input)) _ _ (bytes_left contents left shown printed after before_end) asked);
    told = told_run contents left shown printed before after o o' are are' told;
    due = due_run contents left shown printed before after o o' are are' walked.due begins due told keeps;
  }

-- ---- a walk that was broken off

-- an object failed, or memory ran out
abbrev pub IsBrokenOff : WalkEnd → Type 0
IsBrokenOff e = (e ≡ end.Fault) ⊎ (e ≡ end.NoMemory)

-- The objects have what a state has through which the walk comes.
pub record StandsInWalk (unit : ProgramUnit) (bound : ℕ) (old : Drawn) (before after : Contents) : Type 0 where
  pub ending : Ending
  pub last : Traced
  pub turns : ℕ
  pub drawn : ℕ
  pub order : List Name
  pub is : WalkEnds unit (system_on before) bound old.source old.drawn ending last turns drawn order
  pub moment : State
  pub among : Contains (moments_of (system_on before) last.past) moment
  pub shows : Show moment after

stands_failed : (unit : ProgramUnit) (bound : ℕ) (old : Drawn) (new : Drawn) (x y : Contents) (s : State) → WalkFails unit (system_on x) bound old s new
    → Show s y → StandsInWalk unit bound old x y
stands_failed unit bound old new x y s f shows =
    let at : IsAmong (system_on x) f.last.past s = failed_among unit (system_on x) bound old s new f in
    record {
      ending = f.ending;
      last = f.last;
      turns = f.turns;
      drawn = f.drawn;
      order = f.order;
      is = f.is;
      moment = at.moment;
      among = at.among;
      shows = shows_same at.moment s y at.same shows;
    }

stands_cut : (unit : ProgramUnit) (bound : ℕ) (old : Drawn) (new : Drawn) (x y : Contents) (s : State) → WalkIsCut unit (system_on x) bound old s new
    → Show s y → StandsInWalk unit bound old x y
stands_cut unit bound old new x y s f shows = record {
  ending = f.ending;
  last = f.last;
  turns = f.turns;
  drawn = f.drawn;
  order = f.order;
  is = f.is;
  moment = s;
  among = f.moment;
  shows = shows;
}

pub stands_in_walk : (unit : ProgramUnit) (bound : ℕ) (old : Drawn) (e : WalkEnd) (new : Drawn) (x y : Contents) → IsBrokenOff e
    → HasWalked unit bound old e new x y → StandsInWalk unit bound old x y
stands_in_walk unit bound old e new x y (inl is) h =
    stands_failed unit bound old new x y h.state (subst (λ k. WalksTo unit (system_on x) bound old k h.state new) is h.walks) h.shows
stands_in_walk unit bound old e new x y (inr is) h =
    stands_cut unit bound old new x y h.state (subst (λ k. WalksTo unit (system_on x) bound old k h.state new) is h.walks) h.shows
