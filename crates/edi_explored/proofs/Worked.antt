-- What choices bring about in the worked programs.
use Rattle.std.proofs.Common.{◌≡◌, ◌⊎◌, inl, inr, ℕ, zero, suc, List, [], ◌∷◌, length, Contains, refl, sym, subst, ap, arith}
use Rattle.std.specs.Prelude.{⊤, slice_index}
use Rattle.edi_calls.specs.Choice.{Choices, listed}
use Rattle.edi_calls.specs.Outcome as outcome
use Rattle.edi_calls.specs.Outcome.{Ending}
use Rattle.edi_unit.specs.Values.{zero_value}
use Rattle.edi_meaning.specs.Select.{Selected, unfinished, finished, select_from_start}
use Rattle.edi_meaning.specs.Rows.{empty_system, program_that_waits, program_where_two_wait}
use Rattle.edi_explored.specs.Moves.{moves_of}
use Rattle.edi_explored.specs.Reached.{IsReached, IsShown, AreAll, AreAllBelow, AreAllShown}
use Rattle.edi_explored.specs.Rows.{run_of, end_of, order_of, program_that_loses}

-- ---- endings and texts that differ

uncut_done : outcome.done ≡ outcome.turns → ⊥
uncut_done e = absurd (cc)

uncut_standstill : outcome.standstill ≡ outcome.turns → ⊥
uncut_standstill e = absurd (cc)

two_texts : ◌≡◌ {A = Ending × List ℕ} (outcome.done, 49 ∷ []) (outcome.done, 50 ∷ []) → ⊥
two_texts e = let n : 49 ≡ 50 = ap (λ (x : Ending × List ℕ). slice_index x.1 0) e in absurd (omega (arith, n))

-- ---- what some choices reach

pub loses_one : IsShown program_that_loses empty_system [] outcome.done (49 ∷ [])
unfolding zero_value
loses_one = record {
  bound = 40;
  end = end_of (run_of program_that_loses []);
  turns = 31;
  drawn = 5;
  order = order_of (run_of program_that_loses []);
  ends = (80, refl);
  uncut = uncut_done;
  text = refl;
}

pub loses_none : IsShown program_that_loses empty_system (0 ∷ 0 ∷ 0 ∷ 1 ∷ []) outcome.done (50 ∷ [])
unfolding zero_value
loses_none = record {
  bound = 40;
  end = end_of (run_of program_that_loses (0 ∷ 0 ∷ 0 ∷ 1 ∷ []));
  turns = 31;
  drawn = 4;
  order = order_of (run_of program_that_loses (0 ∷ 0 ∷ 0 ∷ 1 ∷ []));
  ends = (80, refl);
  uncut = uncut_done;
  text = refl;
}

pub two_stand : IsReached program_where_two_wait empty_system [] outcome.standstill
unfolding zero_value
two_stand = record {
  bound = 40;
  end = end_of (run_of program_where_two_wait []);
  turns = 34;
  drawn = 4;
  order = order_of (run_of program_where_two_wait []);
  ends = (80, refl);
  uncut = uncut_standstill;
}

-- ---- what is no list of all

none_in : {A : Type 0} (x : A) → Contains [] x → ⊥
none_in x h = absurd (omega (arith, h.1))

other_than : {A : Type 0} (x y : A) → (x ≡ y → ⊥) → Contains (x ∷ []) y → ⊥
other_than x y apart (zero, l, h) = apart h
other_than x y apart (suc k, l, h) = absurd (omega (arith, l))

pub one_text_is_not_all : AreAllShown program_that_loses empty_system ((outcome.done, 49 ∷ []) ∷ []) → ⊥
one_text_is_not_all all =
    let r = loses_none in
    elim (all r.bound (listed (0 ∷ 0 ∷ 0 ∷ 1 ∷ [])) outcome.done r.end r.turns r.drawn r.order r.ends) [
      | inl e ↦ uncut_done e
      | inr c ↦ other_than (outcome.done, 49 ∷ []) (outcome.done, 50 ∷ []) two_texts
          (subst (λ x. Contains {X = Ending × List ℕ} ((outcome.done, 49 ∷ []) ∷ []) (outcome.done, x)) r.text c)
    ]

-- ---- the one process that waits

abbrev WaitsSo : ℕ → Choices → Selected → Type 0
WaitsSo bound choices unfinished = ⊤
WaitsSo bound choices (finished ending end turns drawn order) =
    (ending ≡ outcome.turns) ⊎ ((ending ≡ outcome.standstill) × (moves_of program_that_waits empty_system bound choices (length order) ≡ 1))

-- the entry, the arrival, and an attempt, each with a turn
waits_so : (bound : ℕ) (choices : Choices) (n : ℕ) → WaitsSo bound choices (select_from_start program_that_waits empty_system bound choices n)
unfolding zero_value
waits_so bound choices zero = tt
waits_so zero choices (suc n) = inl refl
waits_so (suc zero) choices (suc zero) = tt
waits_so (suc zero) choices (suc (suc n)) = inl refl
waits_so (suc (suc zero)) choices (suc zero) = tt
waits_so (suc (suc zero)) choices (suc (suc zero)) = tt
waits_so (suc (suc zero)) choices (suc (suc (suc n))) = inl refl
waits_so (suc (suc (suc b))) choices (suc zero) = tt
waits_so (suc (suc (suc b))) choices (suc (suc zero)) = tt
waits_so (suc (suc (suc b))) choices (suc (suc (suc n))) = inr (refl, refl)

pub waits_all : AreAll program_that_waits empty_system (outcome.standstill ∷ [])
waits_all bound choices ending end turns drawn order e =
    elim (subst (WaitsSo bound choices) e.1 (waits_so bound choices e.0)) [
      | inl cut ↦ inl cut
      | inr stands ↦ inr (0, omega arith, sym stands.0)
    ]

pub waits_below : AreAllBelow 1 program_that_waits empty_system []
waits_below bound choices ending end turns drawn order e less =
    elim (subst (WaitsSo bound choices) e.1 (waits_so bound choices e.0)) [
      | inl cut ↦ inl cut
      | inr stands ↦ absurd (omega (arith, less, stands.1))
    ]

waits : IsReached program_that_waits empty_system [] outcome.standstill
unfolding zero_value
waits = record {
  bound = 40;
  end = end_of (run_of program_that_waits []);
  turns = 37;
  drawn = 0;
  order = order_of (run_of program_that_waits []);
  ends = (80, refl);
  uncut = uncut_standstill;
}

pub waits_not_below : AreAllBelow 2 program_that_waits empty_system [] → ⊥
unfolding zero_value waits
waits_not_below all =
    elim (all 40 (listed []) outcome.standstill waits.end waits.turns waits.drawn waits.order waits.ends (omega arith)) [
      | inl e ↦ waits.uncut e
      | inr c ↦ none_in outcome.standstill c
    ]
