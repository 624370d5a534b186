-- Each answered call changes one part of the state at most, so a torn state is whole.
use Rattle.std.proofs.Common.{◌≡◌, ℕ, Bool, true, false, List, [], ◌∷◌, length, Option, Some, None, refl, sym, subst, ◌∙◌, ◌⊎◌, inl, inr}
use Rattle.std.proofs.lemmas.Bool.{eqb-true}
use Rattle.std.specs.Prelude.{slice_index, slice_get, nat_lt, ◌==◌}
use Rattle.edi_calls.specs.Asked.{may_have_done, uses}
use Rattle.edi_calls.specs.State.{Found, State, title_of, most_bytes}
use Rattle.edi_calls.specs.declared.ends.Outside.{Outside}
use Rattle.edi_calls.specs.declared.ends.Outside.TheVariants as outside
use Rattle.edi_calls.specs.Calls as calls
use Rattle.edi_calls.specs.Calls.{CallResult, call}
use Rattle.edi_calls.specs.Ends.{IsTorn}
use Rattle.edi_calls.specs.Laws.{ChangesOnePart, only_input, only_shown, only_printed, only_slots, EachCallChangesOnePart, IsSameOutside, TornIsBeforeOrBehind}
use Rattle.edi_calls.proofs.Lasting.{IfAnswered, by_test, by_option, answer_is, each_call_goes_on_all}

abbrev Changing : State → List ℕ → State → Type 0
Changing s words after = ChangesOnePart s after

abbrev Changes : State → CallResult → Type 0
Changes s result = IfAnswered (Changing s) result

accepts : (input : List ℕ) (s : State) → Changes s (calls.accept_from input s)
accepts [] s = only_slots refl refl refl
accepts (b ∷ bs) s = only_input refl refl refl

mores : (found : Option Found) (s : State) → Changes s (calls.more_of found s)
mores None s = tt
mores (Some found) s = only_slots refl refl refl

nexts : (byte : Option ℕ) (found : Found) (s : State) → Changes s (calls.read_next byte found s)
nexts None found s = only_slots refl refl refl
nexts (Some byte) found s = only_slots refl refl refl

reads : (found : Option Found) (s : State) → Changes s (calls.read_of found s)
reads None s = tt
reads (Some found) s = nexts (slice_get (calls.found_bytes s found) found.position) found s

writes : (buffer : Option (List ℕ)) (word : ℕ) (s : State) → Changes s (calls.write_to buffer word s)
writes None word s = tt
writes (Some bytes) word s = by_test (Changing s) (nat_lt (length bytes) most_bytes) _ _ (only_slots refl refl refl) tt

closes_as : (bytes title : List ℕ) (s : State) → Changes s (calls.close_as bytes title s)
closes_as bytes title s =
    by_option (Changing s) _ (calls.room_for s title (length bytes)) _ (λ index. only_slots refl refl refl) (only_slots refl refl refl)

closes : (buffer : Option (List ℕ)) (words : List ℕ) (s : State) → Changes s (calls.close_of buffer words s)
closes None words s = tt
closes (Some bytes) words s = by_option (Changing s) _ (title_of words) _ (λ title. closes_as bytes title s) (only_slots refl refl refl)

removes_as : (title : List ℕ) (s : State) → Changes s (calls.remove_as title s)
removes_as title s =
    by_option (Changing s) _ (calls.open_slot s.slots title) _ (λ index. only_slots refl refl refl) (only_slots refl refl refl)

removes : (words : List ℕ) (s : State) → Changes s (calls.remove words s)
removes words s = by_option (Changing s) _ (title_of words) _ (λ title. removes_as title s) (only_slots refl refl refl)

changes : (number : ℕ) (words : List ℕ) (s : State) → Changes s (call number words s)
changes number words s =
    by_test (Changing s) (number == 1) _ _ (accepts s.input s)
    (by_test (Changing s) (number == 2) _ _ (only_shown refl refl refl)
    (by_test (Changing s) (number == 3) _ _ (only_printed refl refl refl)
    (by_test (Changing s) (number == 4) _ _ (only_slots refl refl refl)
    (by_test (Changing s) (number == 5) _ _ (mores s.found s)
    (by_test (Changing s) (number == 6) _ _ (reads s.found s)
    (by_test (Changing s) (number == 7) _ _ (only_slots refl refl refl)
    (by_test (Changing s) (number == 8) _ _ (writes s.buffer (slice_index words 0) s)
    (by_test (Changing s) (number == 9) _ _ (closes s.buffer words s)
    (by_test (Changing s) (number == 10) _ _ (removes words s) (only_slots refl refl refl))))))))))

pub each_call_changes_one_part_all : EachCallChangesOnePart
each_call_changes_one_part_all number words answer before after is =
    answer_is (Changing before) (call number words before) answer after (changes number words before) is

-- ---- a torn state

unmoved : {A : Type 0} {a before next : A} → (a ≡ before) ⊎ (a ≡ next) → next ≡ before → a ≡ before
unmoved (inl e) same = e
unmoved (inr e) same = e ∙ same

moved : {A : Type 0} {a before next : A} → (a ≡ before) ⊎ (a ≡ next) → next ≡ before → a ≡ next
moved torn same = unmoved torn same ∙ sym same

same_outside : {one other : State} → other.input ≡ one.input → other.shown ≡ one.shown → other.printed ≡ one.printed → other.slots ≡ one.slots
    → other.blocks ≡ one.blocks → IsSameOutside one other
same_outside input shown printed slots blocks = record {
  input = input;
  shown = shown;
  printed = printed;
  slots = slots;
  blocks = blocks;
}

-- it has, of a part that stays, what was before; so it has of the one other part what is before or what is behind
whole : (before next after : State) → ChangesOnePart before next → next.blocks ≡ before.blocks → IsTorn before next after
    → IsSameOutside before after ⊎ IsSameOutside next after
whole before next after (only_input shown printed slots) blocks torn =
    inl (same_outside torn.input (unmoved torn.shown shown) (unmoved torn.printed printed) (unmoved torn.slots slots) torn.blocks)
whole before next after (only_shown input printed slots) blocks torn = elim torn.shown [
  | inl e ↦ inl (same_outside torn.input e (unmoved torn.printed printed) (unmoved torn.slots slots) torn.blocks)
  | inr e ↦ inr (same_outside (torn.input ∙ sym input) e (moved torn.printed printed) (moved torn.slots slots) (torn.blocks ∙ sym blocks))
]
whole before next after (only_printed input shown slots) blocks torn = elim torn.printed [
  | inl e ↦ inl (same_outside torn.input (unmoved torn.shown shown) e (unmoved torn.slots slots) torn.blocks)
  | inr e ↦ inr (same_outside (torn.input ∙ sym input) (moved torn.shown shown) e (moved torn.slots slots) (torn.blocks ∙ sym blocks))
]
whole before next after (only_slots input shown printed) blocks torn = elim torn.slots [
  | inl e ↦ inl (same_outside torn.input (unmoved torn.shown shown) (unmoved torn.printed printed) e torn.blocks)
  | inr e ↦ inr (same_outside (torn.input ∙ sym input) (moved torn.shown shown) (moved torn.printed printed) e (torn.blocks ∙ sym blocks))
]

-- `accept` changes the input alone
abbrev OnlyTakes : State → List ℕ → State → Type 0
OnlyTakes s words after = (after.shown ≡ s.shown) × (after.printed ≡ s.printed) × (after.slots ≡ s.slots)

only_takes : (input : List ℕ) (s : State) → IfAnswered (OnlyTakes s) (calls.accept_from input s)
only_takes [] s = (refl, refl, refl)
only_takes (b ∷ bs) s = (refl, refl, refl)

-- so where it was torn, the state is the one before it
torn_accept : (words answer : List ℕ) (before next after : State) → call 1 words before ≡ calls.answered answer next → IsTorn before next after
    → IsSameOutside before after
torn_accept words answer before next after is torn =
    let same : OnlyTakes before answer next =
    answer_is (OnlyTakes before) (calls.accept_from before.input before) answer next (only_takes before.input before) is in
    same_outside torn.input (unmoved torn.shown same.0) (unmoved torn.printed same.1) (unmoved torn.slots same.2) torn.blocks

pub torn_is_before_or_behind_all : TornIsBeforeOrBehind
torn_is_before_or_behind_all number words answer before next after is torn = go (number == 1) refl where
  go : (b : Bool) → (number == 1) ≡ b → IsSameOutside before after ⊎ ((uses number outside.Input ≡ false) × IsSameOutside next after)
  go true e =
      inl (torn_accept words answer before next after (subst (λ n. call n words before ≡ calls.answered answer next) (eqb-true number 1 e) is) torn)
  go false e =
      elim (whole before next after (each_call_changes_one_part_all number words answer before next is)
      (each_call_goes_on_all number words answer before next is).blocks torn) [
        | inl same ↦ inl same
        | inr same ↦ inr (e, same)
      ]

-- what a call uses that does not use the input may have done its part
pub done_by : (number : ℕ) (failed : Outside) → uses number outside.Input ≡ false → uses number failed ≡ true → may_have_done failed ≡ true
done_by number outside.Input apart used = absurd (let wrong : false ≡ true = sym apart ∙ used in cc)
done_by number outside.Terminal apart used = refl
done_by number outside.Printer apart used = refl
done_by number outside.Drive apart used = refl
