-- Steps back: one more after a change, one less after an undo.
use Rattle.std.proofs.Common.{◌≡◌, ℕ, suc, zero, ◌+◌, ◌-◌, ◌<◌, ◌≤◌, List, [], ◌∷◌, ◌++◌, length, refl, sym, ◌∙◌, ap, arith, subst, take, drop}
use Rattle.std.proofs.Common.{length-append, length-drop, length-take}
use Rattle.std.proofs.lemmas.List.{length_push, get_or_push, take_at}
use Rattle.std.proofs.Common.{Vec, Global, get_or, set, false}
use Rattle.std.specs.Prelude.{Some, None, slice_get, insert, remove}
use Rattle.std.proofs.lemmas.List.{length-set}
use Rattle.std.proofs.lemmas.List.Edits.{length-insert, length-remove}
use Rattle.edi_edit.proofs.Single.{remove-insert, insert-remove, set-back, from_accepted, is_index-from, there-from_missing, size-remove}
use Rattle.edi_edit.specs.declared.list.Step.TheVariants.{Remove, Put, Insert}
use Rattle.circular_buffer.specs.Buffer.{keep_last, last_item}
use Rattle.edi_edit.specs.declared.list.Step.{Step}
use Rattle.edi_edit.specs.declared.TheConstants.{ROOM, UNDOS}
use Rattle.edi_edit.specs.Lines.{size_of_lines, has_feed, HaveNoFeed}
use Rattle.edi_edit.proofs.Feeds.{no_feed-insert, no_feed-set, no_feed-remove}
use Rattle.edi_edit.specs.Editing.{kept, changed, undone, refusal, missing, is_index}
use Rattle.edi_edit.specs.Steps.{step_back, CanStep, back, earlier, CanGoBack, StepsAreKept}

back-append : (steps : List Step) (step : Step) (lines : List (List ℕ)) → back (steps ++ step ∷ []) lines ≡ back steps (step_back step lines)
back-append [] step lines = refl
back-append (x ∷ steps) step lines = ap (step_back x) (back-append steps step lines)

earlier-append : (steps : List Step) (step : Step) (lines : List (List ℕ))
    → earlier (steps ++ step ∷ []) lines ≡ earlier steps (step_back step lines) ++ step_back step lines ∷ []
earlier-append [] step lines = refl
earlier-append (x ∷ steps) step lines =
    let here = back-append steps step lines in
    let rest = earlier-append steps step lines in cc

earlier-drop : (n : ℕ) (steps : List Step) (lines : List (List ℕ)) → earlier (drop n steps) lines ≡ drop n (earlier steps lines)
earlier-drop zero steps lines = refl
earlier-drop (suc n) [] lines = refl
earlier-drop (suc n) (x ∷ steps) lines = earlier-drop n steps lines

pub length-earlier : (steps : List Step) (lines : List (List ℕ)) → length (earlier steps lines) ≡ length steps
length-earlier [] lines = refl
length-earlier (x ∷ steps) lines = ap (λ n. suc n) (length-earlier steps lines)

can-append : (steps : List Step) (step : Step) (lines : List (List ℕ)) → CanGoBack steps (step_back step lines) → CanStep step lines
    → size_of_lines (step_back step lines) ≤ ROOM + 1 → HaveNoFeed (step_back step lines) → CanGoBack (steps ++ step ∷ []) lines
can-append [] step lines can one small whole = (one, small, whole, tt)
can-append (x ∷ steps) step lines can one small whole =
    let same = sym (back-append steps step lines) in (
      subst (λ (ls : List (List ℕ)). CanStep x ls) same can.0,
      subst (λ (ls : List (List ℕ)). size_of_lines (step_back x ls) ≤ ROOM + 1) same can.1,
      subst (λ (ls : List (List ℕ)). HaveNoFeed (step_back x ls)) same can.2,
      can-append steps step lines can.3 one small whole,
    )

can-drop : (n : ℕ) (steps : List Step) (lines : List (List ℕ)) → CanGoBack steps lines → CanGoBack (drop n steps) lines
can-drop zero steps lines can = can
can-drop (suc n) [] lines can = can
can-drop (suc n) (x ∷ steps) lines can = can-drop n steps lines can.3

-- the last of some steps, alone
record Last (steps : List Step) (step : Step) (lines : List (List ℕ)) : Type 0 where
  rest : CanGoBack steps (step_back step lines)
  one : CanStep step lines
  small : size_of_lines (step_back step lines) ≤ ROOM + 1
  whole : HaveNoFeed (step_back step lines)

can_last : (steps : List Step) (step : Step) (lines : List (List ℕ)) → CanGoBack (steps ++ step ∷ []) lines → Last steps step lines
can_last [] step lines can = record { rest = tt; one = can.0; small = can.1; whole = can.2 }
can_last (x ∷ steps) step lines can =
    let same = back-append steps step lines in
    let last = can_last steps step lines can.3 in
    record {
      rest = (
        subst (λ (ls : List (List ℕ)). CanStep x ls) same can.0,
        subst (λ (ls : List (List ℕ)). size_of_lines (step_back x ls) ≤ ROOM + 1) same can.1,
        subst (λ (ls : List (List ℕ)). HaveNoFeed (step_back x ls)) same can.2,
        last.rest,
      );
      one = last.one;
      small = last.small;
      whole = last.whole;
    }

-- what a change leaves, with the step that takes it back
pub record Pushed (steps : List Step) (capacity : ℕ) (old new : List (List ℕ)) (step : Step) : Type 0 where
  pub kept_is : StepsAreKept (keep_last capacity (steps ++ step ∷ [])) capacity new
  pub view : record { lines = new; earlier = earlier (keep_last capacity (steps ++ step ∷ [])) new } ≡ changed
      (record { lines = old; earlier = earlier steps old }) new
  pub few : length (earlier (keep_last capacity (steps ++ step ∷ [])) new) ≤ UNDOS

pushed : (steps : List Step) (capacity : ℕ) (old new : List (List ℕ)) (step : Step) → StepsAreKept steps capacity old → step_back step new ≡ old
    → CanStep step new → size_of_lines new ≤ ROOM + 1 → HaveNoFeed new → Pushed steps capacity old new step
pushed steps capacity old new step h leads one small whole =
    let surplus = length (steps ++ step ∷ []) - capacity in
    let room = h.room in
    let texts : earlier (steps ++ step ∷ []) new ≡ earlier steps old ++ old ∷ [] =
    earlier-append steps step new ∙ ap (λ ls. earlier steps ls ++ ls ∷ []) leads in
    let long : length (steps ++ step ∷ []) - capacity ≡ length (earlier steps old ++ old ∷ []) - UNDOS =
    omega (arith, length-append steps (step ∷ []), length-append (earlier steps old) (old ∷ []), length-earlier steps old) in
    let last : earlier (keep_last capacity (steps ++ step ∷ [])) new ≡ kept (earlier steps old ++ old ∷ []) =
    earlier-drop surplus (steps ++ step ∷ []) new
    ∙ ap (λ n. drop n (earlier (steps ++ step ∷ []) new)) long
    ∙ ap (λ all. drop (length (earlier steps old ++ old ∷ []) - UNDOS) all) texts in
    record {
      kept_is = record {
        room = room;
        few = omega (arith, length-drop surplus (steps ++ step ∷ []));
        can = can-drop surplus (steps ++ step ∷ []) new (can-append steps step new (rw leads h.can) one (rw leads h.small) (rw leads h.whole));
        small = small;
        whole = whole;
      };
      view = ap (λ all. record { lines = new; earlier = all }) last;
      few = omega (arith, length-earlier (keep_last capacity (steps ++ step ∷ [])) new, length-drop surplus (steps ++ step ∷ []));
    }

pub insert_pushed : (steps : List Step) (capacity : ℕ) (old : List (List ℕ)) (at : ℕ) (line : List ℕ) → has_feed line ≡ false → StepsAreKept steps capacity old
    → refusal (is_index at (length old + 1)) (insert old (at - 1) line) ≡ None → Pushed steps capacity old (insert old (at - 1) line) (Remove (at - 1))
insert_pushed steps capacity old at line one_line h free =
    let ok = from_accepted (is_index at (length old + 1)) (insert old (at - 1) line) free in
    let there = is_index-from at (length old + 1) ok.0 in
    pushed steps capacity old (insert old (at - 1) line) (Remove (at - 1)) h
    (remove-insert old (at - 1) line (omega arith)) (omega (arith, length-insert old (at - 1) line)) (omega arith)
    (no_feed-insert old (at - 1) line one_line h.whole)

pub replace_pushed : (steps : List Step) (capacity : ℕ) (old : List (List ℕ)) (at : ℕ) (line : List ℕ) (was : Vec ℕ Global) → has_feed line ≡ false
    → StepsAreKept steps capacity old
    → refusal (is_index at (length old)) (set old (at - 1) line) ≡ None → was.items ≡ get_or old (at - 1) []
    → Pushed steps capacity old (set old (at - 1) line) (Put (at - 1) was)
replace_pushed steps capacity old at line was one_line h free was_is =
    let ok = from_accepted (is_index at (length old)) (set old (at - 1) line) free in
    let there = is_index-from at (length old) ok.0 in
    pushed steps capacity old (set old (at - 1) line) (Put (at - 1) was) h
    (rw was_is (set-back old (at - 1) line [])) (omega (arith, length-set old (at - 1) line)) (omega arith)
    (no_feed-set old (at - 1) line one_line h.whole)

pub delete_pushed : (steps : List Step) (capacity : ℕ) (old : List (List ℕ)) (at : ℕ) (was : Vec ℕ Global) → StepsAreKept steps capacity old
    → missing (is_index at (length old)) ≡ None → was.items ≡ get_or old (at - 1) []
    → Pushed steps capacity old (remove old (at - 1)) (Insert (at - 1) was)
delete_pushed steps capacity old at was h free was_is =
    let there = is_index-from at (length old) (there-from_missing (is_index at (length old)) free) in
    let lt : at - 1 < length old = omega arith in
    let small = h.small in
    pushed steps capacity old (remove old (at - 1)) (Insert (at - 1) was) h
    (rw was_is (insert-remove old (at - 1) [] lt)) (omega (arith, length-remove old (at - 1) lt)) (omega (arith, size-remove old (at - 1) lt))
    (no_feed-remove old (at - 1) h.whole)

split_last : (steps : List Step) (n : ℕ) (step : Step) → n + 1 ≡ length steps → slice_get steps n ≡ Some step → steps ≡ take n steps ++ step ∷ []
split_last [] n step long last = absurd (omega arith)
split_last (x ∷ []) zero step long last = let same : x ≡ step = cc in ap (λ s. s ∷ []) same
split_last (x ∷ y ∷ steps) zero step long last = absurd (omega arith)
split_last (x ∷ steps) (suc n) step long last = ap (λ ss. x ∷ ss) (split_last steps n step (omega arith) last)

-- before an undo, by the last step
pub record Popped (steps left : List Step) (step : Step) (capacity : ℕ) (lines : List (List ℕ)) : Type 0 where
  pub can : CanStep step lines
  pub kept : StepsAreKept left capacity (step_back step lines)
  pub undoes : record { lines = step_back step lines; earlier = earlier left (step_back step lines) } ≡ undone
      (record { lines = lines; earlier = earlier steps lines })
  pub some : 0 < length (earlier steps lines)
  pub again : left ++ step ∷ [] ≡ steps

nonempty : (steps : List Step) (n : ℕ) (step : Step) → slice_get steps n ≡ Some step → 0 < length steps
nonempty [] n step last = let none : None ≡ Some step = last in cc
nonempty (x ∷ steps) n step last = omega arith

pub popped : (steps : List Step) (step : Step) (capacity : ℕ) (lines : List (List ℕ)) → StepsAreKept steps capacity lines → last_item steps ≡ Some step
    → Popped steps (take (length steps - 1) steps) step capacity lines
popped steps step capacity lines h last_is =
    let some = nonempty steps (length steps - 1) step last_is in
    let split = split_last steps (length steps - 1) step (omega arith) last_is in
    let left = take (length steps - 1) steps in
    let text = step_back step lines in
    let last = can_last left step lines (subst (λ (ss : List Step). CanGoBack ss lines) split h.can) in
    let texts : earlier steps lines ≡ earlier left text ++ text ∷ [] = ap (λ ss. earlier ss lines) split ∙ earlier-append left step lines in
    let count : length (earlier steps lines) - 1 ≡ length (earlier left text) = omega (arith, ap length texts, length_push (earlier left text) text) in
    record {
      can = last.one;
      kept = record {
        room = h.room;
        few = let few = h.few in
            omega (arith, length-take (length steps - 1) steps);
        can = last.rest;
        small = last.small;
        whole = last.whole;
      };
      undoes =
          rw (
            count,
            texts,
            get_or_push (earlier left text) text lines (length (earlier left text)) refl,
            take_at (earlier left text) (text ∷ []) (length (earlier left text)) refl,
          ) refl;
      some = rw (length-earlier steps lines) some;
      again = sym split;
    }

-- putting back the last step after all
pub kept_again : (steps left : List Step) (step : Step) (capacity : ℕ) → left ++ step ∷ [] ≡ steps → length steps ≤ capacity
    → keep_last capacity (left ++ step ∷ []) ≡ steps
kept_again steps left step capacity again few =
    let none : length (left ++ step ∷ []) - capacity ≡ 0 = omega (arith, ap length again) in rw none again
