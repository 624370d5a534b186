-- Rounds of a timed run whose timeline is full: their stints are only counted.
use Rattle.std.proofs.Common.{◌≡◌, ◌≤◌, ◌<◌, ℕ, zero, suc, ◌+◌, ◌-◌, true, false, nat_le, List, length, Option, Some, None, refl, sym, ap, ◌∙◌, subst, arith}
use Rattle.std.specs.Prelude.{IsSome, replicate}
use Rattle.std.proofs.lemmas.Bool.{le-leb}
use Rattle.std.specs.Option.{option_map}
use Rattle.edi_told.specs.Told.{WhereTold}
use Rattle.edi_told.proofs.Told.{WhereTold-map, WhereTold-then}
use Rattle.edi_calls.specs.declared.ends.Outside.{Outside}
use Rattle.edi_calls.specs.Names.{Name}
use Rattle.edi_calls.specs.Outcome as outcome
use Rattle.edi_calls.specs.State.{State}
use Rattle.edi_trace.specs.Drawn.{Drawn}
use Rattle.edi_target.specs.Check.{CodeParts}
use Rattle.edi_target.specs.Mach.{Machine}
use Rattle.edi_kernel.specs.declared.ends.Ending.{Ending}
use Rattle.edi_kernel.specs.declared.ends.StintEnd.{StintEnd}
use Rattle.edi_kernel.specs.declared.state.KernelState.{KernelState}
use Rattle.edi_kernel.specs.Table.{process_at, ready_slots}
use Rattle.edi_kernel.specs.TableIsMachine.{IsTaken, Naming}
use Rattle.edi_kernel.specs.Kernel.{IsKernel, IsTakenIn, ended_by, used_in}
use Rattle.edi_kernel.specs.Named.{ChoosesBy, GoesBy, HoldsBy, SlotsStay}
use Rattle.edi_kernel.specs.Runs.{FaultsBy, IsAt}
use Rattle.edi_timeline.specs.Timelines.{Told}
use Rattle.edi_timeline.specs.Told.{meant}
use Rattle.edi_timeline.specs.Adding.{counted, skipped}
use Rattle.edi_timeline.specs.declared.entry.Said.{Said}
use Rattle.edi_timed.specs.declared.seats.Seated.{Seated}
use Rattle.edi_timed.specs.declared.leaving.Begun.{Begun}
use Rattle.edi_timed.specs.declared.leaving.Spot.{Spot}
use Rattle.edi_timed.specs.Leaving.{AddsBy, Begins, ended_as, spot_at, spot_in}
use Rattle.edi_timed.specs.Timed.{Timed}
use Rattle.edi_timed.specs.Underway.{AsksFailed, Going, RoundsTo}
use Rattle.edi_timed.proofs.Arms.{round_on, round_over}
use Rattle.edi_timed.proofs.Rounds.{HasGone}
use Rattle.edi_timed.proofs.Whole.{where_same}

-- ---- a stint that has begun

abbrev stood_as : Option (ℕ × ℕ) → Option Spot
stood_as None = None
stood_as (Some s) = Some (record { base = s.0; pc = s.1 })

stood_so : (o : Option (ℕ × ℕ)) → spot_in (stood_as o) ≡ o
stood_so None = refl
stood_so (Some s) = refl

-- the process that is taken has a slot
pub record HasBegun (k : KernelState) : Type 0 where
  pub begun : Begun
  pub begins : Begins k begun

pub has_begun : (k : KernelState) → IsKernel k → IsSome k.taken → HasBegun k
has_begun k kernel some = go k.taken refl some
  where
    go : (o : Option ℕ) → k.taken ≡ o → IsSome o → HasBegun k
    go None is none = let w : false ≡ true = none in absurd (cc)
    go (Some slot) is one =
        let taken : IsTaken k.table slot = subst (IsTakenIn k.table) is kernel.taken in
        record {
          begun = record { slot = slot; others = length (ready_slots k.table); stood = stood_as (spot_at (process_at k.table slot)) };
          begins = record { taken = is; inside = taken.inside; others = refl; stood = stood_so (spot_at (process_at k.table slot)) };
        }

-- ---- the timeline

-- nothing was shown
abbrev silent : Said
silent = record { characters = replicate 7 0; many = 0 }

-- ---- a round

module _ (code : CodeParts) (bound : ℕ) (old k : KernelState) (now : Drawn) (seats : List Seated) (told later : Told)
    (old_kernel : IsKernel old) (taken : IsSome old.taken) (kernel : IsKernel k) (within : old.used ≤ bound) (small : k.used ≤ bound)
    (is_full : 100000 ≤ told.count) (end : StintEnd) (full : ℕ) (all : full ≡ bound - old.used) (turns : full - used_in end ≡ bound - k.used)
    (ended : Option Ending) (ended_is : ended ≡ ended_by (ended_as (length (ready_slots k.table)) end)) (skipped : later ≡ counted told (option_map meant ended)) where
  abbrev pub Names : State → State → Type 0
  Names x y = (m : Machine) (p : Name) (others : List Name) (n : Naming) → IsAt code old x full m p others → HoldsBy n old m (Some p) others →
      GoesBy code.words end full old n k y m p others

  abbrev pub AnyRound : Option Ending → KernelState → Drawn → State → State → Type 0
  AnyRound result next drawn x y = (s : State) (first : Drawn) → first.source ≡ now.source → Going code s bound first old x now seats told →
      RoundsTo code s bound first result next y drawn seats later

  abbrev begun : Begun
  begun = (has_begun old old_kernel taken).begun

  gone : (x y : State) (s : State) (first : Drawn) → first.source ≡ now.source → Going code s bound first old x now seats told →
      HasGone code s bound first old k x y now begun silent seats told
  gone x y s first source w = record {
    w = w;
    begins = (has_begun old old_kernel taken).begins;
    old_kernel = old_kernel;
    kernel = kernel;
    within = within;
    small = small;
    start = silent;
    nothing = refl;
    few = omega arith;
    fits = λ room. absurd (omega (arith, room, is_full));
    same_source = source;
  }

  named : (x y : State) (s : State) (first : Drawn) → (w : Going code s bound first old x now seats told) → Names x y →
      GoesBy code.words end full old w.naming k y w.machine w.name w.others
  named x y s first w names =
      names w.machine w.name w.others w.naming (subst (λ n. IsAt code old x n w.machine w.name w.others) (sym all) w.at) w.by

  no_room : nat_le 100000 told.count ≡ true
  no_room = le-leb 100000 told.count is_full

  adds : AddsBy (nat_le 100000 told.count) code.words k begun (ended_as (length (ready_slots k.table)) end) silent seats seats told later
  adds =
      subst (λ b. AddsBy b code.words k begun (ended_as (length (ready_slots k.table)) end) silent seats seats told later) (sym no_room)
      (skipped ∙ ap (λ o. counted told (option_map meant o)) ended_is)

  no_more : (A : Type 0) → nat_le 100000 told.count ≡ false → A
  no_more A room = let w : true ≡ false = sym no_room ∙ room in absurd (cc)

  pub counted_over : (e : Ending) (o n : Option State) → ended ≡ Some e → WhereTold o n Names → WhereTold o n (AnyRound (Some e) k now)
  unfolding gone
  counted_over e o n is names =
      WhereTold-map Names (AnyRound (Some e) k now) o n
      (λ x y g s first source w.
      round_over code s bound first old k x y now begun silent seats seats told later (gone x y s first source w) full end e turns (sym ended_is ∙ is)
      (named x y s first w g) (λ other. (adds, no_more _))) names

  pub counted_on : (next : KernelState) (drawn : Drawn) (o n : Option State) → ended ≡ None → WhereTold o n Names → k.taken ≡ None →
      ((names : Naming) (m : Machine) (ns : List Name) → HoldsBy names k m None ns → ChoosesBy names next m now drawn ns) → SlotsStay k.table next.table →
      next.used ≡ k.used → next.entering ≡ false → WhereTold o n (AnyRound None next drawn)
  unfolding gone
  counted_on next drawn o n is names free chooses stay used entering =
      WhereTold-map Names (AnyRound None next drawn) o n
      (λ x y g s first source w.
      round_on code s bound first old k x y now begun silent seats seats told later (gone x y s first source w) full next drawn free chooses stay used entering end
      turns (sym ended_is ∙ is) (named x y s first w g) (adds, no_more _)) names

-- ---- rounds, one after another

-- what is told after so many rounds
abbrev pub rounds_told : ℕ → Told → Told
rounds_told zero t = t
rounds_told (suc n) t = skipped t (suc n) None

pub counted_is : (n : ℕ) (t : Told) (e : Option outcome.Ending) → counted (rounds_told n t) e ≡ skipped t (suc n) e
counted_is zero t e =
    let with_count : ℕ → Told = λ c. record t { count = c; ending = e } in
    let one : suc t.count ≡ suc zero + t.count = omega arith in
    ap with_count one
counted_is (suc n) t e =
    let with_count : ℕ → Told = λ c. record t { count = c; ending = e } in
    let one : suc (suc n + t.count) ≡ suc (suc n) + t.count = omega arith in
    ap with_count one

pub full_still : (n : ℕ) (t : Told) → 100000 ≤ t.count → 100000 ≤ (rounds_told n t).count
full_still zero t full = full
full_still (suc n) t full = omega (arith, full)

module _ (code : CodeParts) (bound : ℕ) (seats : List Seated) (old : KernelState) (from : Drawn) (told : Told) where
  -- whatever was so at the start of these rounds is so of this kernel
  abbrev pub GoesOn : KernelState → Drawn → ℕ → State → State → Type 0
  GoesOn k now n x y = (s : State) (first : Drawn) → first.source ≡ from.source → Going code s bound first old x from seats told →
      Going code s bound first k y now seats (rounds_told n told)

  pub goes_first : (o : Option State) → WhereTold o o (GoesOn old from 0)
  goes_first o = where_same o (GoesOn old from 0) (λ x s first source w. w)

  module _ (a b c : Option State) (k next : KernelState) (now drawn : Drawn) (n : ℕ) (same : now.source ≡ from.source) where
    abbrev pub Round : Option Ending → State → State → Type 0
    Round result x y = (s : State) (first : Drawn) → first.source ≡ now.source → Going code s bound first k x now seats (rounds_told n told) →
        RoundsTo code s bound first result next y drawn seats (counted (rounds_told n told) (option_map meant result))

    abbrev pub EndsSo : Ending → Told → State → State → Type 0
    EndsSo e later x y = (s : State) (first : Drawn) → first.source ≡ from.source → Going code s bound first old x from seats told →
        Timed code s bound first e next y drawn later

    pub goes_more : (m : ℕ) → m ≡ suc n → WhereTold a b (GoesOn k now n) → WhereTold b c (Round None) → WhereTold a c (GoesOn next drawn m)
    goes_more m one h g =
        WhereTold-then (GoesOn k now n) (Round None) (GoesOn next drawn m) a b c
        (λ x y z w round s first source v.
        subst (Going code s bound first next z drawn seats) (counted_is n told None ∙ ap (λ i. rounds_told i told) (sym one)) (round s first (source ∙ sym same) (w s first source v))) h g

    pub goes_to_end : (e : Ending) (later : Told) → later ≡ skipped told (suc n) (Some (meant e)) → WhereTold a b (GoesOn k now n) →
        WhereTold b c (Round (Some e)) → WhereTold a c (EndsSo e later)
    goes_to_end e later is h g =
        WhereTold-then (GoesOn k now n) (Round (Some e)) (EndsSo e later) a b c
        (λ x y z w round s first source v.
        subst (Timed code s bound first e next z drawn) (counted_is n told (Some (meant e)) ∙ sym is) (round s first (source ∙ sym same) (w s first source v)))
        h g

    module _ (failed : Option Outside → Type 0) (e : Ending) where
      abbrev pub RoundAsks : State → State → Type 0
      RoundAsks x y = (s : State) (first : Drawn) → first.source ≡ now.source → Going code s bound first k x now seats (rounds_told n told) →
          AsksFailed code s bound first failed (Some e) next y drawn

      abbrev pub AsksSo : State → State → Type 0
      AsksSo x y = (s : State) (first : Drawn) → first.source ≡ from.source → Going code s bound first old x from seats told →
          FaultsBy failed code s bound first e next.used y drawn

      pub asks_at_end : WhereTold a b (GoesOn k now n) → WhereTold b c RoundAsks → WhereTold a c AsksSo
      asks_at_end h g =
          WhereTold-then (GoesOn k now n) RoundAsks AsksSo a b c
          (λ x y z w round s first source v. round s first (source ∙ sym same) (w s first source v)) h g
