-- The answer of a call of the system is put where its variable is, or the program fails.
use Rattle.std.proofs.Common.{◌≡◌, ℕ, ◌+◌, ◌≤◌, false, pos, List, [], ◌∷◌, ◌++◌, length, Option, Some, None, refl, sym, subst, ap, ◌∙◌, arith}
use Rattle.edi_calls.specs.declared.kinds.Cause.TheVariants as cause
use Rattle.edi_calls.specs.Calls.{CallResult, answered, no_file, file_limit, call}
use Rattle.edi_calls.specs.Outcome as outcome
use Rattle.edi_calls.specs.Outcome.{Ending}
use Rattle.edi_calls.specs.State.{State, after_call}
use Rattle.edi_store.specs.Memory.{written}
use Rattle.edi_unit.specs.Values.{Value, ordinal, IsOf}
use Rattle.edi_unit.specs.Fits.{IsCall}
use Rattle.edi_unit.specs.Headings.{Formals}
use Rattle.edi_meaning.specs.Store.{Cell, Shape, put}
use Rattle.edi_meaning.specs.Evaluation.{World, Evaluation, gives}
use Rattle.edi_meaning.specs.Whole.{words_of_cells, answer_in, answered_by, system_call}
use Rattle.edi_target.specs.Memory.{word}
use Rattle.edi_target.specs.Effect.{Local, asks}
use Rattle.edi_target.specs.Mach.{answer_at, called, effect_at, is_first, over}
use Rattle.edi_target.specs.Moments.{news_of_call}
use Rattle.edi_follows.specs.values.Words.{value_words}
use Rattle.edi_follows.specs.values.Asked.{asked_types, AreAnswers}
use Rattle.edi_follows.proofs.values.Given.{answers_are_values}
use Rattle.edi_follows.specs.places.Coded.{Coded}
use Rattle.edi_follows.specs.places.Spots.{frames_end, location_address, cells_words}
use Rattle.edi_follows.specs.places.Walks.{Walker, plain, Moves, Stops}
use Rattle.edi_follows.specs.places.Scene.{Scene, Outer, alone, Stands, After, Does, local_at}
use Rattle.edi_follows.specs.places.Claims.{Ran}
use Rattle.edi_follows.specs.places.Instructions.{Stored}
use Rattle.edi_follows.proofs.places.Doing.{moves_asks, gets_one, stops_by}
use Rattle.edi_follows.proofs.places.Stores.{store_does}
use Rattle.edi_follows.proofs.values.Lengths.{values_are_long}
use Rattle.edi_follows.proofs.values.Portions.{parts_stand}
use Rattle.edi_follows.proofs.calls.Fed.{table_of, Silent, Answering}

module _ (g : Coded) (s : Scene) (F : Shape) (w : World) (m : List ℕ) (h : Stands g s F w m) (cells : List Cell) (number : ℕ) (formals : Formals)
    (pc t held line to : ℕ) (high : t ≤ frames_end s.first F s.name) where
  abbrev top : ℕ
  top = t + length (cells_words g s.first F cells)

  abbrev args : List ℕ
  args = words_of_cells cells

  abbrev Done : Evaluation (Unit {0}) → Type 0
  Done run = Does g s F pc top t held w m (Ran g s to t) run

  -- the instruction at pc asks for the call
  abbrev Asks : Option ℕ → Type 0
  Asks address =
      effect_at g.fetched (g.fetched pc) s.count (is_first s.name) (local_at s F m pc top held) ≡ asks number args address line (local_at s F m to t held)

  -- the world behind an answer
  abbrev behind : List ℕ → State → World
  behind words state = record { store = answer_in cells words w.store; system = after_call state w.system; turns = w.turns }

  abbrev start : Walker
  start = alone s F m pc top held w

  abbrev at_local : Local → State → Walker
  at_local l state = record { local = l; system = after_call state w.system; turns = w.turns }

  -- an answer, after which the memory mirrors the variables
  answered_does : (address : Option ℕ) (words m' : List ℕ) (state : State) → Asks address → call number args w.system.now ≡ answered words state →
      (answer_at address words (local_at s F m to t held)).memory ≡ m' → After g s F w (behind words state) m m' t false →
      ((a : ℕ) → Outer s a → word m' a ≡ word m a) →
      answer_at address words (local_at s F m to t held) ≡ local_at s F m' to t held →
      Done (gives tt (behind words state))
  answered_does address words m' state at e memory after keeps local = record {
    is = record {
      memory = m';
      to = to;
      up = t;
      cleared = false;
      walked =
          gets_one g.fetched s.count (is_first s.name) (Outer s) start (alone s F m' to t held (behind words state)) false
          (subst (λ l. Moves g.fetched s.count (is_first s.name) (Outer s) start (at_local l state) false) local
          (moves_asks g.fetched s.count (is_first s.name) (Outer s) start number args address line (local_at s F m to t held) words state at e
          (λ a o. ap (λ k. word k a) memory ∙ keeps a o)));
      after = after;
      above = omega arith;
      within = high;
      post = record { pc_is = refl; top_is = refl };
    };
  }

  -- a refusal ends the run
  refused : (address : Option ℕ) (result : CallResult) (ending : Ending) → Asks address → call number args w.system.now ≡ result → news_of_call result ≡ [] →
      called result address line (local_at s F m to t held) (plain start) ≡ over ending (plain start) →
      Stops g.fetched s.count (is_first s.name) (Outer s) start ending w.system w.turns
  refused address result ending at e none ends =
      stops_by g.fetched s.count (is_first s.name) (Outer s) start start
      (asks number args address line (local_at s F m to t held)) ending at
      (ap (λ r. called r address line (local_at s F m to t held) (plain start)) e ∙ ends)
      (ap (λ l. l ++ w.system.past) (sym (ap news_of_call e ∙ none))) (λ a o. refl)

  -- whatever the system says
  by_result : (address : Option ℕ) → Asks address →
      ((words : List ℕ) (state : State) → call number args w.system.now ≡ answered words state → Done (gives tt (behind words state))) →
      (result : CallResult) → call number args w.system.now ≡ result → Done (answered_by result cells line w)
  by_result address at answer (answered words state) e = answer words state e
  by_result address at answer no_file e = record { is = refused address no_file (outcome.failed cause.NoFile line) at e refl refl }
  by_result address at answer file_limit e = record { is = refused address file_limit (outcome.failed cause.FileLimit line) at e refl refl }

  -- ---- a call without an answer

  no_words : (ts words : List ℕ) → ts ≡ [] → AreAnswers g.unit.types ts words → words ≡ []
  no_words [] [] e are = refl
  no_words [] (x ∷ xs) e are = absurd are
  no_words (u ∷ ts) words e are = absurd (cc)

  module _ (is : IsCall g.unit.types number formals) where
    answers : (words : List ℕ) (state : State) → call number args w.system.now ≡ answered words state → AreAnswers g.unit.types (asked_types formals) words
    answers words state e = answers_are_values g.unit.types (table_of g) number formals args words w.system.now state is e

    pub silent_does : Silent g s F cells number formals → Asks None → Done (system_call number cells line w)
    silent_does k at = by_result None at given (call number args w.system.now) refl
      where
        after : (words : List ℕ) (state : State) → answer_in cells words w.store ≡ w.store → After g s F w (behind words state) m m t false
        after words state same =
            subst (λ store. After g s F w (record { store = store; system = after_call state w.system; turns = w.turns }) m m t false) (sym same)
            (record {
              shaped =
                  h.shaped;
              mirrors = h.mirrors;
              typed = h.typed;
              long = h.long;
              untouched = λ a b o. refl;
              turns = omega arith;
              clears = λ e. absurd (cc);
            })

        given : (words : List ℕ) (state : State) → call number args w.system.now ≡ answered words state → Done (gives tt (behind words state))
        given words state e =
            let none : words ≡ [] = no_words (asked_types formals) words k.types (answers words state e) in
            answered_does None words m state at e refl (after words state (ap (λ x. answer_in cells x w.store) none ∙ k.stays w.store)) (λ a o. refl) refl

    -- ---- a call with an answer

    -- the one word of it, a value of the variable's type
    record IsAnswer (of : ℕ) (words : List ℕ) : Type 0 where
      one : ℕ
      is_one : words ≡ one ∷ []
      typed : IsOf g.unit.types (ordinal (pos one)) of
      as_words : value_words (ordinal (pos one)) ≡ one ∷ []

    one_answer : (of : ℕ) (ts words : List ℕ) → ts ≡ of ∷ [] → AreAnswers g.unit.types ts words → IsAnswer of words
    one_answer of ts words e are = go words (subst (λ x. AreAnswers g.unit.types x words) e are)
      where
        go : (words : List ℕ) → AreAnswers g.unit.types (of ∷ []) words → IsAnswer of words
        go [] a = absurd a
        go (x ∷ []) a = record { one = x; is_one = refl; typed = a.1; as_words = a.2 }
        go (x ∷ (y ∷ ys)) a = absurd a.3

    pub answering_does : (k : Answering g s F cells number formals) → Asks (Some (location_address g s.first F k.at)) → Done (system_call number cells line w)
    answering_does k at = by_result (Some a) at given (call number args w.system.now) refl
      where
        a : ℕ
        a = location_address g s.first F k.at

        given : (words : List ℕ) (state : State) → call number args w.system.now ≡ answered words state → Done (gives tt (behind words state))
        given words state e =
            let x : IsAnswer k.of words = one_answer k.of (asked_types formals) words k.types (answers words state e) in
            let v : Value = ordinal (pos x.one) in
            let stored : Stored g s F w (record { store = put w.store k.at v; system = after_call state w.system; turns = w.turns }) m k.at v k.of t =
            store_does g s values_are_long parts_stand F w m k.at v k.of t (after_call state w.system) h k.leads k.older x.typed in
            let as_words : value_words v ≡ words = x.as_words ∙ sym x.is_one in
            let m' : List ℕ = written m a (value_words v) in
            let same : put w.store k.at v ≡ answer_in cells words w.store = sym (ap (λ y. answer_in cells y w.store) x.is_one ∙ k.puts x.one w.store) in
            answered_does (Some a) words m' state at e (ap (written m a) (sym as_words))
            (subst (λ store. After g s F w (record { store = store; system = after_call state w.system; turns = w.turns }) m m' t false) same stored.after)
            stored.keeps (ap (λ y. local_at s F (written m a y) to t held) (sym as_words))
