-- How the calls of a system end, as the trait of the calls says it.
use Rattle.std.proofs.Common.{◌≡◌, ◌≤◌, ℕ, List, [], ◌∷◌, length, Option, Some, None, refl, sym, ap, subst, ◌∙◌, arith}
use Rattle.std.specs.Prelude.{replicate, Ok, Err}
use Rattle.edi_calls.specs.declared.ends.CallEnd.TheVariants as end
use Rattle.edi_calls.specs.State.{State}
use Rattle.edi_calls.specs.Calls.{CallResult, answered, no_file, file_limit, answer_words, call}
use Rattle.edi_calls.specs.Ends.{Meets}
use Rattle.edi_calls.proofs.Lasting.{Leaves, leaves}
use Rattle.edi_system.specs.Ends.{Reaches}
use Rattle.edi_system.specs.declared.ends.Stop.{Stop}
use Rattle.edi_system.specs.declared.ends.Stop.TheVariants as stop

none_left : (words : List ℕ) → length words ≡ 0 → words ≡ []
none_left [] none = refl
none_left (word ∷ words) none = absurd (omega (arith, none))

-- the answer words are so many times the one that was given, so that one stands where one is due
with_word : (result : CallResult) (count word : ℕ) (given : List ℕ) (before after : State) → Leaves count before result → given ≡ replicate count word
    → Reaches result (Ok (Some word)) before after → Meets result end.Ok given before after
with_word (answered words next) count word given before after lasts filled reached =
    (filled ∙ ap (λ n. replicate n word) (sym lasts.counted ∙ ap length (sym reached.0)) ∙ reached.0, reached.1)
with_word no_file count word given before after lasts filled reached = absurd reached
with_word file_limit count word given before after lasts filled reached = absurd reached

without_word : (result : CallResult) (count : ℕ) (given : List ℕ) (before after : State) → Leaves count before result → length given ≡ count
    → Reaches result (Ok None) before after → Meets result end.Ok given before after
without_word (answered words next) count given before after lasts long reached =
    (none_left given (long ∙ sym lasts.counted ∙ ap length (sym reached.0)) ∙ reached.0, reached.1)
without_word no_file count given before after lasts long reached = absurd reached
without_word file_limit count given before after lasts long reached = absurd reached

missing : (result : CallResult) (given : List ℕ) (before after : State) → Reaches result (Err stop.NoFile) before after
    → Meets result end.NoFile given before after
missing (answered words next) given before after reached = absurd reached
missing no_file given before after reached = reached
missing file_limit given before after reached = absurd reached

full : (result : CallResult) (given : List ℕ) (before after : State) → Reaches result (Err stop.FileLimit) before after
    → Meets result end.FileLimit given before after
full (answered words next) given before after reached = absurd reached
full no_file given before after reached = absurd reached
full file_limit given before after reached = reached

module _ (number : ℕ) (words given : List ℕ) where
  -- a call with an answer word
  pub answers : (word : ℕ) (answer : Option ℕ) → answer ≡ Some word → 1 ≤ number → number ≤ 10 → given ≡ replicate (answer_words number) word
      → (before after : State) → Reaches (call number words before) (Ok answer) before after → Meets (call number words before) end.Ok given before after
  answers word answer is from to filled before after reached =
      with_word (call number words before) (answer_words number) word given before after (leaves number words before from to) filled
      (subst (λ a. Reaches (call number words before) (Ok a) before after) is reached)

  -- a call without one
  pub does : (answer : Option ℕ) → answer ≡ None → 1 ≤ number → number ≤ 10 → length given ≡ answer_words number
      → (before after : State) → Reaches (call number words before) (Ok answer) before after → Meets (call number words before) end.Ok given before after
  does answer is from to long before after reached =
      without_word (call number words before) (answer_words number) given before after (leaves number words before from to) long
      (subst (λ a. Reaches (call number words before) (Ok a) before after) is reached)

  -- there is no file
  pub has_no_file : (why : Stop) → why ≡ stop.NoFile → (before after : State) → Reaches (call number words before) (Err why) before after
      → Meets (call number words before) end.NoFile given before after
  has_no_file why is before after reached =
      missing (call number words before) given before after (subst (λ w. Reaches (call number words before) (Err w) before after) is reached)

  -- the file has its greatest length
  pub is_full : (why : Stop) → why ≡ stop.FileLimit → (before after : State) → Reaches (call number words before) (Err why) before after
      → Meets (call number words before) end.FileLimit given before after
  is_full why is before after reached =
      full (call number words before) given before after (subst (λ w. Reaches (call number words before) (Err w) before after) is reached)
