-- What every call leaves, call by call.
use Rattle.std.proofs.Common.{◌≡◌, ℕ, zero, suc, ◌≤◌, Bool, true, false, List, [], ◌∷◌, length, Option, Some, None, refl, sym, ◌∙◌, arith, subst}
use Rattle.std.proofs.Common.{append-nil}
use Rattle.std.specs.Prelude.{if◌then◌else◌, ⊤, slice_index, slice_get, nat_lt, ◌==◌}
use Rattle.std.specs.Option.{option_map_or}
use Rattle.std.proofs.Math.ListN.{length-set}
use Rattle.edi_calls.specs.State.{Found, State, title_of, most_bytes}
use Rattle.edi_calls.specs.Calls as calls
use Rattle.edi_calls.specs.Calls.{CallResult, answered, no_file, file_limit, gives, answer_words, call}
use Rattle.edi_calls.specs.Laws.{GoesOn, EachCallGoesOn, AnswersFit}

-- so many answer words, and a state that goes on
pub record Lasts (count : ℕ) (before : State) (words : List ℕ) (after : State) : Type 0 where
  pub counted : length words ≡ count
  pub goes : GoesOn before after

-- what is so of the words and the state of an answer
abbrev pub IfAnswered : (List ℕ → State → Type 0) → CallResult → Type 0
IfAnswered P (answered words after) = P words after
IfAnswered P no_file = ⊤
IfAnswered P file_limit = ⊤

abbrev pub Leaves : ℕ → State → CallResult → Type 0
Leaves count before result = IfAnswered (Lasts count before) result

-- terminal and printer are not used
stays : (s t : State) → s.input ≡ t.input → t.shown ≡ s.shown → t.printed ≡ s.printed → length t.slots ≡ length s.slots
    → t.blocks ≡ s.blocks → GoesOn s t
stays s t input shown printed slots blocks = record {
  input = ([], input);
  shown = ([], shown ∙ sym (append-nil s.shown));
  printed = ([], printed ∙ sym (append-nil s.printed));
  slots = slots;
  blocks = blocks;
}

pub by_test : (P : List ℕ → State → Type 0) (b : Bool) (x y : CallResult) → IfAnswered P x → IfAnswered P y → IfAnswered P (if b then x else y)
by_test P true x y p q = p
by_test P false x y p q = q

pub by_option : {A : Type 0} (P : List ℕ → State → Type 0) (f : A → CallResult) (o : Option A) (x : CallResult)
    → ((a : A) → IfAnswered P (f a)) → IfAnswered P x → IfAnswered P (option_map_or f o x)
by_option P f None x p q = q
by_option P f (Some a) x p q = p a

pub answer_is : (P : List ℕ → State → Type 0) (result : CallResult) (answer : List ℕ) (after : State) → IfAnswered P result
    → result ≡ answered answer after → P answer after
answer_is P (answered words next) answer after holds is =
    let one : words ≡ answer = cc in
    let two : next ≡ after = cc in
    subst (λ w. P w after) one (subst (λ t. P words t) two holds)
answer_is P no_file answer after holds is = absurd (cc)
answer_is P file_limit answer after holds is = absurd (cc)

accepts : (input : List ℕ) (s : State) → s.input ≡ input → Leaves 1 s (calls.accept_from input s)
accepts [] s e = record { counted = refl; goes = stays s _ refl refl refl refl refl }
accepts (b ∷ bs) s e = record {
  counted = refl;
  goes = record {
    input = (b ∷ [], e);
    shown = ([], sym (append-nil s.shown));
    printed = ([], sym (append-nil s.printed));
    slots = refl;
    blocks = refl;
  };
}

mores : (found : Option Found) (s : State) → Leaves 1 s (calls.more_of found s)
mores None s = tt
mores (Some found) s = record { counted = refl; goes = stays s _ refl refl refl refl refl }

nexts : (byte : Option ℕ) (found : Found) (s : State) → Leaves 1 s (calls.read_next byte found s)
nexts None found s = record { counted = refl; goes = stays s _ refl refl refl refl refl }
nexts (Some byte) found s = record { counted = refl; goes = stays s _ refl refl refl refl refl }

reads : (found : Option Found) (s : State) → Leaves 1 s (calls.read_of found s)
reads None s = tt
reads (Some found) s = nexts (slice_get (calls.found_bytes s found) found.position) found s

writes : (buffer : Option (List ℕ)) (word : ℕ) (s : State) → Leaves 0 s (calls.write_to buffer word s)
writes None word s = tt
writes (Some bytes) word s =
    by_test (Lasts 0 s) (nat_lt (length bytes) most_bytes) _ _ (record { counted = refl; goes = stays s _ refl refl refl refl refl }) tt

closes_as : (bytes title : List ℕ) (s : State) → Leaves 1 s (calls.close_as bytes title s)
closes_as bytes title s =
    by_option (Lasts 1 s) _ (calls.room_for s title (length bytes)) _
    (λ index. record { counted = refl; goes = stays s _ refl refl refl (length-set s.slots index _) refl })
    (record { counted = refl; goes = stays s _ refl refl refl refl refl })

closes : (buffer : Option (List ℕ)) (words : List ℕ) (s : State) → Leaves 1 s (calls.close_of buffer words s)
closes None words s = tt
closes (Some bytes) words s =
    by_option (Lasts 1 s) _ (title_of words) _ (λ title. closes_as bytes title s) (record { counted = refl; goes = stays s _ refl refl refl refl refl })

removes_as : (title : List ℕ) (s : State) → Leaves 1 s (calls.remove_as title s)
removes_as title s =
    by_option (Lasts 1 s) _ (calls.open_slot s.slots title) _
    (λ index. record { counted = refl; goes = stays s _ refl refl refl (length-set s.slots index _) refl })
    (record { counted = refl; goes = stays s _ refl refl refl refl refl })

removes : (words : List ℕ) (s : State) → Leaves 1 s (calls.remove words s)
removes words s =
    by_option (Lasts 1 s) _ (title_of words) _ (λ title. removes_as title s) (record { counted = refl; goes = stays s _ refl refl refl refl refl })

-- each of the ten calls
pub leaves : (number : ℕ) (words : List ℕ) (s : State) → 1 ≤ number → number ≤ 10 → Leaves (answer_words number) s (call number words s)
leaves zero words s from to = absurd (omega arith)
leaves (suc zero) words s from to = accepts s.input s refl
leaves (suc (suc zero)) words s from to =
    record {
      counted = refl;
      goes = record {
        input = ([], refl);
        shown = (_, refl);
        printed = ([], sym (append-nil s.printed));
        slots = refl;
        blocks = refl;
      };
    }
leaves (suc (suc (suc zero))) words s from to =
    record {
      counted = refl;
      goes = record {
        input = ([], refl);
        shown = ([], sym (append-nil s.shown));
        printed = (_, refl);
        slots = refl;
        blocks = refl;
      };
    }
leaves (suc (suc (suc (suc zero)))) words s from to = record { counted = refl; goes = stays s _ refl refl refl refl refl }
leaves (suc (suc (suc (suc (suc zero))))) words s from to = mores s.found s
leaves (suc (suc (suc (suc (suc (suc zero)))))) words s from to = reads s.found s
leaves (suc (suc (suc (suc (suc (suc (suc zero))))))) words s from to = record { counted = refl; goes = stays s _ refl refl refl refl refl }
leaves (suc (suc (suc (suc (suc (suc (suc (suc zero)))))))) words s from to = writes s.buffer (slice_index words 0) s
leaves (suc (suc (suc (suc (suc (suc (suc (suc (suc zero))))))))) words s from to = closes s.buffer words s
leaves (suc (suc (suc (suc (suc (suc (suc (suc (suc (suc zero)))))))))) words s from to = removes words s
leaves (suc (suc (suc (suc (suc (suc (suc (suc (suc (suc (suc n))))))))))) words s from to = absurd (omega arith)

-- a call goes on, whatever its number
abbrev Going : State → List ℕ → State → Type 0
Going s words after = GoesOn s after

goes_of : (count : ℕ) (s : State) (result : CallResult) → Leaves count s result → IfAnswered (Going s) result
goes_of count s (answered words after) lasts = lasts.goes
goes_of count s no_file lasts = tt
goes_of count s file_limit lasts = tt

goes_on : (number : ℕ) (words : List ℕ) (s : State) → IfAnswered (Going s) (call number words s)
goes_on number words s =
    let at : (n : ℕ) → 1 ≤ n → n ≤ 10 → IfAnswered (Going s) (call n words s) =
    λ n from to. goes_of (answer_words n) s (call n words s) (leaves n words s from to) in
    by_test (Going s) (number == 1) _ _ (at 1 (omega arith) (omega arith))
    (by_test (Going s) (number == 2) _ _ (at 2 (omega arith) (omega arith))
    (by_test (Going s) (number == 3) _ _ (at 3 (omega arith) (omega arith))
    (by_test (Going s) (number == 4) _ _ (at 4 (omega arith) (omega arith))
    (by_test (Going s) (number == 5) _ _ (at 5 (omega arith) (omega arith))
    (by_test (Going s) (number == 6) _ _ (at 6 (omega arith) (omega arith))
    (by_test (Going s) (number == 7) _ _ (at 7 (omega arith) (omega arith))
    (by_test (Going s) (number == 8) _ _ (at 8 (omega arith) (omega arith))
    (by_test (Going s) (number == 9) _ _ (at 9 (omega arith) (omega arith))
    (by_test (Going s) (number == 10) _ _ (at 10 (omega arith) (omega arith)) (stays s s refl refl refl refl refl))))))))))

pub each_call_goes_on_all : EachCallGoesOn
each_call_goes_on_all number words answer before after is =
    answer_is (Going before) (call number words before) answer after (goes_on number words before) is

pub answers_fit_all : AnswersFit
answers_fit_all number words answer before after from to is =
    (answer_is (Lasts (answer_words number) before) (call number words before) answer after (leaves number words before from to) is).counted
