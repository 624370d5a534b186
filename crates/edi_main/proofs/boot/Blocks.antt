-- The disk has the same number of blocks all through a session.
use Rattle.std.proofs.Common.{◌≡◌, inl, inr, ℕ, zero, suc, List, [], ◌∷◌, ◌++◌, refl, sym, ap, subst, ◌∙◌, arith}
use Rattle.std.specs.Prelude.{Contains}
use Rattle.std.proofs.lemmas.List.Elements.{Contains-append_cases}
use Rattle.edi_calls.specs.declared.ends.Outside.{Outside}
use Rattle.edi_calls.specs.Choice.{Choices}
use Rattle.edi_calls.specs.Outcome.{Ending}
use Rattle.edi_calls.specs.State.{State, fresh, moments_of}
use Rattle.edi_target.specs.Check.{CodeParts}
use Rattle.edi_target.specs.Fetch.{fetch}
use Rattle.edi_target.specs.Mach.{Machine}
use Rattle.edi_target.specs.Moments.{EndsThrough}
use Rattle.edi_target.proofs.Histories.{comes_through_its_past}
use Rattle.edi_session.specs.declared.end.SessionEnd.{SessionEnd}
use Rattle.edi_session.specs.Course.{Course, becomes, prints, shows, states_of}
use Rattle.edi_session.specs.Session.{behind, IsFaultOfSession, Session, stops}
use Rattle.edi_session.specs.Shell.{Shell, session_on, state_in}
use Rattle.edi_session.proofs.ends.Throughout.{EachPartKeeps, comes_keeps, goes_keeps}
use Rattle.edi_main.proofs.run.Blocks.{end_blocks, moment_blocks}

one_of : {X : Type 0} (x m : X) → Contains (x ∷ []) m → x ≡ m
one_of x m (zero, below, is) = is
one_of x m (suc i, below, is) = absurd (omega (arith, below))

module _ (count : ℕ) where
  -- all these states have so many
  abbrev Have : List State → Type 0
  Have states = (m : State) → Contains states m → m.blocks ≡ count

  -- so all through which a shell came
  abbrev Has : Shell → Type 0
  Has s = Have (states_of s.system)

  now_has : (c : Course) → Have (states_of c) → c.now.blocks ≡ count
  now_has c h = h c.now (0, omega arith, refl)

  becomes_has : (next : State) (c : Course) → next.blocks ≡ count → Have (states_of c) → Have (states_of (becomes next c))
  becomes_has next c n h m there = elim (Contains-append_cases (next ∷ []) (states_of c) m there) [
    | inl first ↦ subst (λ (s : State). s.blocks ≡ count) (one_of next m first) n
    | inr more ↦ h m more
  ]

  shows_has : (bytes : List ℕ) (c : Course) → Have (states_of c) → Have (states_of (shows bytes c))
  shows_has [] c h = h
  shows_has (b ∷ bytes) c h = shows_has bytes (becomes _ c) (becomes_has _ c (now_has c h) h)

  prints_has : (bytes : List ℕ) (c : Course) → Have (states_of c) → Have (states_of (prints bytes c))
  prints_has [] c h = h
  prints_has (b ∷ bytes) c h = prints_has bytes (becomes _ c) (becomes_has _ c (now_has c h) h)

  runs_has : (bound : ℕ) (choices : Choices) (code : CodeParts) (ending : Ending) (machine : Machine) (drawn : ℕ) (past : List State) (s : Shell)
      → EndsThrough (fetch code.words) code.entry code.calls (fresh (state_in s)) bound choices s.drawn ending machine drawn past → Has s
      → Has (behind machine.system past drawn s)
  runs_has bound choices code ending machine drawn past s ends h m there =
      elim (Contains-append_cases (machine.system ∷ []) (moments_of (fresh (state_in s)) past ++ states_of s.system) m there) [
        | inl last ↦ ap (λ (x : State). x.blocks) (sym (one_of machine.system m last))
            ∙ (end_blocks (fetch code.words) code.entry code.calls (fresh (state_in s)) bound choices s.drawn ends.0 ending machine drawn ends.1
            ∙ now_has s.system h)
        | inr more ↦ elim (Contains-append_cases (moments_of (fresh (state_in s)) past) (states_of s.system) m more) [
          | inl run ↦ moment_blocks (fetch code.words) code.entry code.calls (fresh (state_in s)) bound choices s.drawn m
              ((comes_through_its_past (fetch code.words) code.entry code.calls (fresh (state_in s)) bound choices s.drawn ending machine drawn past m
              ends).1 run)
              ∙ now_has s.system h
          | inr old ↦ h m old
        ]
      ]

  each_part : (bound : ℕ) (choices : Choices) → EachPartKeeps bound choices Has
  each_part bound choices = record {
    taking_ = record {
      shows_ = λ bytes s h. shows_has bytes s.system h;
      takes = λ left s h. becomes_has (record s.system.now { input = left }) s.system (now_has s.system h) h;
    };
    prints_ = λ bytes s h. prints_has bytes s.system h;
    changes = λ slots s h. becomes_has (record (fresh s.system.now) { slots = slots }) s.system (now_has s.system h) h;
    turns_to = λ mode s h. h;
    runs_ = runs_has bound choices;
  }

module _ (bound : ℕ) (choices : Choices) (state : State) (drawn shown_before : ℕ) where
  start_has : Has state.blocks (session_on state drawn shown_before)
  start_has m there = ap (λ (x : State). x.blocks) (sym (one_of state m there))

  -- at each moment
  pub moment_of_session : (failed : Outside) (moment : State) → IsFaultOfSession bound choices (session_on state drawn shown_before) failed moment
      → moment.blocks ≡ state.blocks
  moment_of_session failed moment h =
      goes_keeps bound choices (Has state.blocks) (each_part state.blocks bound choices) h.last h.next
      (comes_keeps bound choices (Has state.blocks) (each_part state.blocks bound choices) h.lines_ (session_on state drawn shown_before) h.last start_has
      h.comes)
      h.goes_ moment h.there.there

  -- at the end
  pub end_of_session : (end : SessionEnd) (after : Shell) → Session bound choices (session_on state drawn shown_before) end after
      → (state_in after).blocks ≡ state.blocks
  end_of_session end after h =
      now_has state.blocks after.system
      (goes_keeps bound choices (Has state.blocks) (each_part state.blocks bound choices) h.last (stops end after)
      (comes_keeps bound choices (Has state.blocks) (each_part state.blocks bound choices) h.lines_ (session_on state drawn shown_before) h.last start_has
      h.comes) h.stops_)
