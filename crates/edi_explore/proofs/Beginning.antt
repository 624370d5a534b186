-- The first stint of a search.
use Rattle.std.proofs.Common.{◌≡◌, ℕ, zero, suc, ◌<◌, ◌^◌, arith, Bool, true, false, List, length, Some, refl, sym, ap, subst, ◌∙◌}
use Rattle.edi_calls.specs.Names.{Name}
use Rattle.edi_calls.proofs.Names.{some_is}
use Rattle.edi_target.specs.Check.{CodeParts}
use Rattle.edi_target.specs.Mach.{Machine}
use Rattle.edi_kernel.specs.declared.ends.Ending.{Ending}
use Rattle.edi_kernel.specs.declared.ends.Ending.TheVariants as ending
use Rattle.edi_kernel.specs.declared.ends.StintEnd.{StintEnd}
use Rattle.edi_kernel.specs.declared.ends.StintEnd.TheVariants as stint_end
use Rattle.edi_kernel.specs.declared.state.KernelState.{KernelState}
use Rattle.edi_kernel.specs.Kernel.{GoesTo, IsKernel, ended_by, is_over}
use Rattle.edi_kernel.specs.Runs.{IsAt, Started}
use Rattle.edi_explored.specs.machine.Kernels.{IsFailed}
use Rattle.edi_explored.specs.machine.Levels.{Below}
use Rattle.edi_explore.specs.declared.ends.Limits.{Limits}
use Rattle.edi_explore.specs.declared.expand.Expanded.TheVariants as expanded
use Rattle.edi_explore.specs.declared.finding.Search.{Search}
use Rattle.edi_explore.specs.declared.offline.Offline.{Offline}
use Rattle.edi_explore.specs.declared.step.Followed.{Followed}
use Rattle.edi_explore.specs.declared.step.Followed.TheVariants as followed
use Rattle.edi_explore.specs.Expand.{ComesTo, GoesFurther, HasBegun, IsSearch, by_record}
use Rattle.edi_explore.specs.Finding.{IsBegun}
use Rattle.edi_explore.specs.Shown.{HasEnding, asks_of, told_by}
use Rattle.edi_explore.specs.Offline.{offline}
use Rattle.edi_explore.specs.Systems.{system_of}
use Rattle.edi_explore.specs.Steps.{FollowedAs, IsProper}
use Rattle.edi_explore.specs.Tables.{table_of}
use Rattle.edi_explore.specs.Verdicts.{HasFirst}
use Rattle.edi_explore.proofs.Expanding.{further_by, recorded_told}
use Rattle.edi_explore.proofs.Iteration.{FoundSo, found_ended, found_failed, found_led, leads_on}
use Rattle.edi_explore.proofs.Table.{number_within}

-- a search that has found nothing keeps no state
pub new_search : (code : CodeParts) (input : List ℕ) (limits : Limits) (s : Search) → IsBegun input s → IsSearch code input limits s
new_search code input limits s h = record {
  states = h.states;
  input_is = h.input_is;
  kept = λ v l. absurd (omega (arith, l, ap length h.none.keys));
}

-- an ending of no turns
no_turns : (asks : Bool) (from : ℕ) (r : Followed) (end : StintEnd) (a b : Search) (k : KernelState) (o : Offline) → FollowedAs asks from r end a.states b.states k o → (r ≡ followed.Cut → ⊥) →
    end ≡ stint_end.Over 0 ending.Turns → ⊥
no_turns asks from (followed.Ended e) end a b k o f n t =
    let same : ending.Turns ≡ e = some_is (ap ended_by (sym t ∙ f.0.1)) in
    subst IsProper (sym same) f.1
no_turns asks from followed.Cut end a b k o f n t = n refl
no_turns asks from followed.Failed end a b k o f n t = subst (λ x. IsFailed x k) t f.0
no_turns asks from followed.Led end a b k o f n t = let e : true ≡ false = sym (ap is_over t) ∙ f.0 in absurd (cc)

module _ (code : CodeParts) (input : List ℕ) (limits : Limits) (from : ℕ) (a b : Search) (started after : KernelState) (end : StintEnd) (o : Offline) (starts : Started code started)
    (goes : (m : Machine) (p : Name) (others : List Name) → IsAt code started (system_of a.calls) limits.turns m p others →
    GoesTo code.words end limits.turns after (system_of o) m p others) (entry : started.entering ≡ true → limits.turns ≡ 0 → end ≡ stint_end.Over 0 ending.Turns)
    (kernel : IsKernel after) (long : length after.store ≡ 2 ^ 16) (free : is_over end ≡ false → after.taken ≡ Rattle.std.proofs.Common.None) (new : IsBegun input a)
    (same : o.input.items ≡ input) (calls : b.calls.input.items ≡ input) where
  abbrev Under : ℕ → ℕ → Type 0
  Under = Below code (offline input) limits.turns (told_by (asks_of limits) b.found.items) (table_of b.states input) (length b.states.keys.keys)

  abbrev Fine : StintEnd → Type 0
  Fine x = FoundSo code (offline input) limits.turns (asks_of limits) b.found.items (table_of b.states input) Under x after (system_of o)

  first_by : Fine end → HasBegun code input limits b
  first_by f = record {
    started = started;
    starts = starts;
    end = end;
    after = after;
    now = system_of o;
    goes = λ m p others at. goes m p others (subst (λ s. IsAt code started s limits.turns m p others) (sym new.system) at);
    kernel = kernel;
    long = long;
    free = free;
    found = f;
  }

  abbrev So : Followed → Type 0
  So r = FollowedAs (asks_of limits) from r end a.states b.states after o

  some : (r : Followed) → So r → (r ≡ followed.Cut → ⊥) → 0 < limits.turns
  some r f n = go limits.turns (entry starts.entering)
    where
      go : (t : ℕ) → (t ≡ 0 → end ≡ stint_end.Over 0 ending.Turns) → 0 < t
      go zero h = absurd (no_turns (asks_of limits) from r end a b after o f n (h refl))
      go (suc t) h = omega arith

  further : (r : Followed) → So r → GoesFurther code input limits a b
  further r f = further_by code input limits from a b after o (new_search code input limits a new) calls kernel long r end free f

  pub began_led : So followed.Led → ComesTo code input limits a b expanded.Whole (HasFirst code input limits b)
  began_led f = record {
    further = further followed.Led f;
    so = λ _. record {
      some = some followed.Led f (λ e. no_led e);
      first = first_by (found_led code (offline input) limits.turns (asks_of limits) b.found.items (table_of b.states input) Under end after (system_of o) f.0
          (leads_on code input limits.turns (asks_of limits) a.states b.states b.found.items after o Under f.2.0
          (number_within a.states b.states input (asks_of limits) after o f.2.0) same));
    };
  }
    where
      no_led : followed.Led ≡ followed.Cut → ⊥
      no_led e = cc

  pub began_failed : So followed.Failed → ComesTo code input limits a b expanded.Whole (HasFirst code input limits b)
  began_failed f = record {
    further = further followed.Failed f;
    so = λ _. record {
      some = some followed.Failed f (λ e. no_failed e);
      first = first_by (found_failed code (offline input) limits.turns (asks_of limits) b.found.items (table_of b.states input) Under end after (system_of o) f.0);
    };
  }
    where
      no_failed : followed.Failed ≡ followed.Cut → ⊥
      no_failed e = cc

  pub began_cut : So followed.Cut → ComesTo code input limits a b expanded.Cut (HasFirst code input limits b)
  began_cut f = record { further = further followed.Cut f; so = λ e. absurd (no_cut e) }
    where
      no_cut : expanded.Cut ≡ expanded.Whole → ⊥
      no_cut e = cc

  pub began_ended : (e : Ending) (told : Bool) → So (followed.Ended e) → (told ≡ true → HasEnding (asks_of limits) b.found.items e o.shown.items) →
      ComesTo code input limits a b (by_record told) (HasFirst code input limits b)
  began_ended e told f has = record {
    further = further (followed.Ended e) f;
    so = λ whole. record {
      some = some (followed.Ended e) f (λ x. no_end e x);
      first = first_by (subst Fine (sym f.0.1)
          (found_ended code (offline input) limits.turns (asks_of limits) b.found.items (table_of b.states input) Under f.0.0 e after (system_of o) f.1
          (has (recorded_told told whole))));
    };
  }
    where
      no_end : (e : Ending) → followed.Ended e ≡ followed.Cut → ⊥
      no_end e x = cc
