-- The disk has the same number of blocks all through a run.
use Rattle.std.proofs.Common.{◌≡◌, ◌∙◌, ℕ, ◌<◌, zero, suc, List, [], ◌∷◌, ◌++◌, length, Option, Some, None, refl, sym, ap, subst, arith}
use Rattle.std.specs.Prelude.{slice_index_or, ⊤}
use Rattle.edi_calls.specs.Asked.{IsFollowed}
use Rattle.edi_calls.specs.Calls.{CallResult, answered, no_file, file_limit, call}
use Rattle.edi_calls.specs.Choice.{Choices}
use Rattle.edi_calls.specs.Names.{Name, find}
use Rattle.edi_calls.specs.Outcome.{Ending}
use Rattle.edi_calls.specs.Ready.{stays, joins, Taking, nobody, taking, take_next}
use Rattle.edi_calls.specs.State.{State, moments_of, newest}
use Rattle.edi_calls.proofs.Lasting.{each_call_goes_on_all}
use Rattle.edi_target.specs.Op.{Instruction}
use Rattle.edi_target.specs.Effect.{Effect, goes, released, asks, due, fails, bad}
use Rattle.edi_target.specs.Mach.{Activity, Machine, Stepped, went, ended, running_of, is_first, effect_at, step, finished, after_step, run, entered}
use Rattle.edi_target.specs.Moments.{ComesThrough, history, history_after, history_from_start, history_on, news_at, news_from, news_of_call, news_of_effect}
use Rattle.edi_target.proofs.Histories.{Has, entered_has, step_has, system_is_newest}

module _ (count : ℕ) where
  abbrev HasCount : State → Type 0
  HasCount s = s.blocks ≡ count

  -- all these states have it
  abbrev AllHave : List State → Type 0
  AllHave [] = ⊤
  AllHave (s ∷ states) = HasCount s × AllHave states

  both_have : (one other : List State) → AllHave one → AllHave other → AllHave (one ++ other)
  both_have [] other h k = k
  both_have (s ∷ one) other h k = (h.0, both_have one other h.1 k)

  newest_has : (first : State) (past : List State) → HasCount first → AllHave past → HasCount (newest first past)
  newest_has first [] f h = f
  newest_has first (s ∷ past) f h = h.0

  one_has : (states : List State) (s : State) → AllHave states → (i : ℕ) → i < length states → slice_index_or states i s ≡ s → HasCount s
  one_has [] s h i below is = absurd (omega arith)
  one_has (first ∷ states) s h zero below is = subst HasCount is h.0
  one_has (first ∷ states) s h (suc i) below is = one_has states s h.1 i (omega (arith, below)) is

  behind_have : (later states : List State) → AllHave (later ++ states) → AllHave states
  behind_have [] states h = h
  behind_have (s ∷ later) states h = behind_have later states h.1

  -- ---- of one instruction

  call_has : (number : ℕ) (arguments : List ℕ) (system : State) (result : CallResult) → HasCount system → call number arguments system ≡ result
      → AllHave (news_of_call result)
  call_has number arguments system (answered words after) h is = ((each_call_goes_on_all number arguments words system after is).blocks ∙ h, tt)
  call_has number arguments system no_file h is = tt
  call_has number arguments system file_limit h is = tt

  effect_has : (e : Effect) (system : State) → HasCount system → AllHave (news_of_effect e system)
  effect_has (goes l) system h = tt
  effect_has (released l) system h = tt
  effect_has (asks number arguments address line l) system h = call_has number arguments system (call number arguments system) h refl
  effect_has (due kind l) system h = tt
  effect_has (fails c line) system h = tt
  effect_has bad system h = tt

  module _ (fetch : ℕ → Option (Instruction × ℕ)) (choices : Choices) where
    from_has : (m : Machine) (p : Name) (a : Option Activity) → HasCount m.system → AllHave (news_from fetch m p a)
    from_has m p None h = tt
    from_has m p (Some a) h = effect_has (effect_at fetch (fetch a.pc) (length m.activities) (is_first p) (running_of m a).local) m.system h

    -- ---- along a run

    taken_have : (t : Taking) (more : Name → List Name → ℕ → List State) (past : List State) → AllHave past
        → ((p : Name) (others : List Name) (d : ℕ) → AllHave (more p others d)) → AllHave (history_on t more past)
    taken_have nobody more past h each = h
    taken_have (taking p others d) more past h each = each p others d

    stepped_have : (s : Stepped) (more : Machine → Name → List Name → ℕ → List State → List State) (p : Name) (others : List Name) (drawn : ℕ)
        (past : List State) (system : State) → HasCount system → Has system s → AllHave past
        → ((m : Machine) (p : Name) (others : List Name) (d : ℕ) → HasCount m.system → AllHave (more m p others d past))
        → AllHave (history_after choices more p others drawn past s)
    stepped_have (ended ending m) more p others drawn past system c is h each = h
    stepped_have (went m stays) more p others drawn past system c is h each = each m p others drawn (subst HasCount (sym is) c)
    stepped_have (went m (joins ps)) more p others drawn past system c is h each =
        taken_have (take_next choices drawn (others ++ ps)) (λ q rest d. more m q rest d past) past h
        (λ q rest d. each m q rest d (subst HasCount (sym is) c))

    history_has : (n : ℕ) (m : Machine) (p : Name) (others : List Name) (drawn : ℕ) (past : List State) → HasCount m.system → AllHave past
        → AllHave (history fetch choices n m p others drawn past)
    history_has zero m p others drawn past c h = h
    history_has (suc n) m p others drawn past c h =
        let news : AllHave (news_at fetch m p) = from_has m p (find m.activities p) c in
        let more : AllHave (news_at fetch m p ++ past) = both_have (news_at fetch m p) past news h in
        stepped_have (step fetch m p others) (history fetch choices n) p others drawn (news_at fetch m p ++ past) (newest m.system (news_at fetch m p))
        (newest_has m.system (news_at fetch m p) c news) (step_has fetch m p others) more
        (λ m' q rest d c'. history_has n m' q rest d (news_at fetch m p ++ past) c' more)

-- ---- from the start

module _ (fetch : ℕ → Option (Instruction × ℕ)) (entry : ℕ) (calls : List ℕ) (system : State) (bound : ℕ) (choices : Choices) (before : ℕ) where
  all_have : (n : ℕ) → AllHave system.blocks (history_from_start fetch entry calls system bound choices before n)
  all_have n =
      stepped_have system.blocks fetch choices (entered (fetch entry) entry calls bound system) (history fetch choices n) [] [] before [] system refl
      (entered_has (fetch entry) entry calls bound system) tt (λ m p others d c. history_has system.blocks fetch choices n m p others d [] c tt)

  -- at each moment
  pub moment_blocks : (moment : State) → ComesThrough fetch entry calls system bound choices before moment → moment.blocks ≡ system.blocks
  moment_blocks moment h =
      one_has system.blocks (moments_of system (history_from_start fetch entry calls system bound choices before h.0)) moment
      (both_have system.blocks (history_from_start fetch entry calls system bound choices before h.0) (system ∷ []) (all_have h.0) (refl, tt)) h.1.0 h.1.1 h.1.2

  -- before and after each call
  pub call_blocks : (n : ℕ) (from next : State) → IsFollowed system (history_from_start fetch entry calls system bound choices before n) from next
      → (from.blocks ≡ system.blocks) × (next.blocks ≡ system.blocks)
  call_blocks n from next h =
      let all : AllHave system.blocks (h.later ++ next ∷ h.earlier) = subst (AllHave system.blocks) h.is (all_have n) in
      let rest : AllHave system.blocks (next ∷ h.earlier) = behind_have system.blocks h.later (next ∷ h.earlier) all in
      (subst (HasCount system.blocks) h.last (newest_has system.blocks system h.earlier refl rest.1), rest.0)

  -- at the end
  pub end_blocks : (n : ℕ) (ending : Ending) (m : Machine) (drawn : ℕ)
      → after_step choices (run fetch choices n) [] [] before (entered (fetch entry) entry calls bound system) ≡ finished ending m drawn
      → m.system.blocks ≡ system.blocks
  end_blocks n ending m drawn is =
      let past : List State = history_from_start fetch entry calls system bound choices before n in
      ap (λ (s : State). s.blocks) (sym (system_is_newest fetch entry calls system bound choices before ending m drawn past (n, is, refl)))
      ∙ newest_has system.blocks system past refl (all_have n)
