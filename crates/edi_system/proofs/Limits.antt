-- How a program's calls may end, whatever the objects of the system tell.
use Rattle.std.proofs.Common.{◌≡◌, ℕ, zero, suc, ◌<◌, ◌≤◌, inl, inr, Bool, true, false, List, [], ◌∷◌, length, Option, Some, None, refl, sym, subst, ◌∙◌}
use Rattle.std.proofs.Common.{arith}
use Rattle.std.specs.Prelude.{⊤, replicate, nat_lt, slice_index, IfOk, IfSome, Result, Ok, Err, is_some}
use Rattle.std.specs.List.{All}
use Rattle.std.proofs.lemmas.List.Elements.{All-nil, All-replicate}
use Rattle.edi_calls.specs.State.{character, title_of}
use Rattle.edi_calls.specs.Calls.{answer_words, word_of}
use Rattle.edi_calls.specs.Ends.{answer_values, uses_file}
use Rattle.edi_calls.proofs.Limits.{character_below, truth_below}
use Rattle.edi_catalog.specs.declared.ends.CatEnd.{CatEnd}
use Rattle.edi_system.specs.Buffers.{WritesTo}
use Rattle.edi_system.specs.Catalogue.{is_refused}
use Rattle.edi_system.specs.Closing.{Closes, Removes, answer_by}
use Rattle.edi_system.specs.Does.{AsksOnly, Does, MayLackFile, TellsOnly}
use Rattle.edi_system.specs.Reading.{GoesOn, MoreIs, ReadsOn}
use Rattle.edi_system.specs.State.{buffer_in}
use Rattle.edi_system.specs.declared.ends.Stop.{Stop}
use Rattle.edi_system.specs.declared.ends.Stop.TheVariants as stop
use Rattle.edi_system.specs.declared.reading.Reading.{Reading}
use Rattle.edi_system.specs.declared.system.System.{System}

-- what a call of a number may answer
abbrev May : (number : ℕ) → Result (Option ℕ) Stop → Type 0
May number (Ok (Some word)) = word < answer_values number
May number (Ok None) = answer_words number ≡ 0
May number (Err stop.NoFile) = uses_file number ≡ true
May number (Err stop.FileLimit) = number ≡ 8
May number (Err stop.Fault) = ⊤

asked : (result : Result (Option ℕ) Stop) → AsksOnly result → May 1 result
asked (Ok (Some word)) asks = asks
asked (Ok None) asks = absurd asks
asked (Err stop.NoFile) asks = absurd asks
asked (Err stop.FileLimit) asks = absurd asks
asked (Err stop.Fault) asks = tt

told : (number : ℕ) → answer_words number ≡ 0 → (result : Result (Option ℕ) Stop) → TellsOnly result → May number result
told number none (Ok (Some word)) tells = absurd tells
told number none (Ok None) tells = none
told number none (Err stop.NoFile) tells = absurd tells
told number none (Err stop.FileLimit) tells = absurd tells
told number none (Err stop.Fault) tells = tt

lacking : (number : ℕ) → uses_file number ≡ true → (why : Stop) → MayLackFile {X = Option ℕ} (Err why) → May number (Err why)
lacking number uses stop.NoFile may = uses
lacking number uses stop.FileLimit (inl is) = absurd (cc)
lacking number uses stop.FileLimit (inr is) = absurd (cc)
lacking number uses stop.Fault may = tt

truth_is : (word : ℕ) (b : Bool) → word ≡ word_of b → word < 2
truth_is word b is = subst (λ w. w < 2) (sym is) (truth_below b)

character_is : (word c : ℕ) → word ≡ character c → word < 128
character_is word c is = subst (λ w. w < 128) (sym is) (character_below c)

left_so : (word : Option ℕ) (before after : Option Reading) → MoreIs word before after → May 5 (Ok word)
left_so None before after is = absurd is
left_so (Some word) before None is = absurd is
left_so (Some word) None (Some next) is = absurd is
left_so (Some word) (Some reading) (Some next) is = truth_is word (nat_lt reading.position reading.length) is.1

gone_on : (there : Bool) (word : ℕ) (page : List ℕ) (before after : Reading) → GoesOn there word page before after → word < 128
gone_on true word page before after goes = character_is word _ goes.1
gone_on false word page before after goes = omega (arith, goes.1)

read_so : (word : Option ℕ) (page : List ℕ) (before after : Option Reading) → ReadsOn word page before after → May 6 (Ok word)
read_so None page before after reads = absurd reads
read_so (Some word) page before None reads = absurd reads
read_so (Some word) page None (Some next) reads = absurd reads
read_so (Some word) page (Some reading) (Some next) reads = gone_on (nat_lt reading.position reading.length) word page reading next reads

written_so : (result : Result (Option ℕ) Stop) (c : ℕ) (old new : Option (List ℕ)) → WritesTo result c old new → IfOk result (λ answer. answer ≡ None)
    → May 8 result
written_so (Ok (Some word)) c old new writes none = absurd (cc)
written_so (Ok None) c old new writes none = refl
written_so (Err stop.NoFile) c old new writes none = refl
written_so (Err stop.FileLimit) c old new writes none = refl
written_so (Err stop.Fault) c old new writes none = tt

-- a call of the catalogue is answered by a truth value, or the drive has failed
answered_so : {X : Type 0} (number : ℕ) → 2 ≤ answer_values number → (refused : Bool) (answer : Result X CatEnd) → May number (answer_by refused answer)
answered_so number two true answer = omega (arith, two)
answered_so number two false (Ok x) = omega (arith, two)
answered_so number two false (Err why) = tt

module _ {D S T P : Type 0} (contents : D → Option (List (List ℕ))) (count : D → ℕ) (before after : System D S T P) where
  closed_so : (result : Result (Option ℕ) Stop) (title : Option (List ℕ)) (bytes : List ℕ) → Closes contents count result title bytes before after
      → May 9 result
  closed_so result None bytes closes = subst (May 9) (sym closes.0) (omega arith)
  closed_so result (Some title) bytes closes =
      subst (May 9) (sym closes.result_) (answered_so 9 (omega arith) (is_refused closes.answer) closes.answer)

  removed_so : (result : Result (Option ℕ) Stop) (title : Option (List ℕ)) → Removes contents count result title before after → May 10 result
  removed_so result None removes = subst (May 10) (sym removes.0) (omega arith)
  removed_so result (Some title) removes =
      subst (May 10) (sym removes.result_) (answered_so 10 (omega arith) (is_refused removes.answer) removes.answer)

  buffered : (result : Result (Option ℕ) Stop) (title buffer : Option (List ℕ)) → (buffer ≡ None → result ≡ Err stop.NoFile)
      → IfSome buffer (λ bytes. Closes contents count result title bytes before after) → May 9 result
  buffered result title None none closes = subst (May 9) (sym (none refl)) refl
  buffered result title (Some bytes) none closes = closed_so result title bytes closes

  more_so : (result : Result (Option ℕ) Stop) → MayLackFile result → IfOk result (λ word. MoreIs word before.found after.found) → May 5 result
  more_so (Ok word) may is = left_so word before.found after.found is
  more_so (Err why) may is = lacking 5 refl why may

  reading_so : (result : Result (Option ℕ) Stop) → MayLackFile result → IfOk result (λ word. ReadsOn word after.page before.found after.found)
      → May 6 result
  reading_so (Ok word) may is = read_so word after.page before.found after.found is
  reading_so (Err why) may is = lacking 6 refl why may

  module _ (left : S → Option (List ℕ)) (shown : T → Option (List ℕ)) (printed : P → Option (List ℕ)) (words : List ℕ)
      (result : Result (Option ℕ) Stop) where
    pub may : (number : ℕ) → 1 ≤ number → number ≤ 10 → Does contents count left shown printed number words result before after → May number result
    may zero from to does = absurd (omega (arith, from))
    may (suc zero) from to does = asked result does.1
    may (suc (suc zero)) from to does = told 2 refl result does.1
    may (suc (suc (suc zero))) from to does = told 3 refl result does.1
    may (suc (suc (suc (suc zero)))) from to does = subst (May 4) (sym does.2) (truth_below (is_some after.found))
    may (suc (suc (suc (suc (suc zero))))) from to does = more_so result does.0.3 does.1
    may (suc (suc (suc (suc (suc (suc zero)))))) from to does = reading_so result does.0.3 does.1
    may (suc (suc (suc (suc (suc (suc (suc zero))))))) from to does = subst (May 7) (sym does.1) refl
    may (suc (suc (suc (suc (suc (suc (suc (suc zero)))))))) from to does =
        written_so result (character (slice_index words 0)) (buffer_in before) (buffer_in after) does.1 does.3
    may (suc (suc (suc (suc (suc (suc (suc (suc (suc zero))))))))) from to does =
        buffered result (title_of words) (buffer_in before) does.1.1 does.2
    may (suc (suc (suc (suc (suc (suc (suc (suc (suc (suc zero)))))))))) from to does = removed_so result (title_of words) does.1
    may (suc (suc (suc (suc (suc (suc (suc (suc (suc (suc (suc n))))))))))) from to does = absurd (omega (arith, to))

-- ---- the answer words that are written

module _ (number : ℕ) (given : List ℕ) where
  pub answers_may : (word : ℕ) (answer : Option ℕ) → answer ≡ Some word → given ≡ replicate (answer_words number) word → May number (Ok answer)
      → All (λ w. w < answer_values number) given
  answers_may word answer is filled may_ =
      subst (λ ws. All (λ w. w < answer_values number) ws) (sym filled)
      (All-replicate (λ w. w < answer_values number) (answer_words number) word (subst (λ a. May number (Ok a)) is may_))

  pub does_may : (answer : Option ℕ) → answer ≡ None → length given ≡ answer_words number → May number (Ok answer)
      → All (λ w. w < answer_values number) given
  does_may answer is long may_ = none_of given (long ∙ subst (λ a. May number (Ok a)) is may_)
    where
      none_of : (ws : List ℕ) → length ws ≡ 0 → All (λ w. w < answer_values number) ws
      none_of [] none = All-nil (λ w. w < answer_values number)
      none_of (w ∷ ws) none = absurd (omega (arith, none))

  pub has_no_file_may : (why : Stop) → why ≡ stop.NoFile → May number (Err why) → uses_file number ≡ true
  has_no_file_may why is may_ = subst (λ w. May number (Err w)) is may_

  pub is_full_may : (why : Stop) → why ≡ stop.FileLimit → May number (Err why) → number ≡ 8
  is_full_may why is may_ = subst (λ w. May number (Err w)) is may_
