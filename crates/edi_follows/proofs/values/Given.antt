-- System calls: the words of arguments, and the types of answers.
use Rattle.std.proofs.Common.{◌≡◌, ℕ, zero, suc, ◌%◌, ◌<◌, ℤ, pos, negsuc, Bool, true, false, List, [], ◌∷◌, ◌++◌, length, IsTrue, refl, sym, ap, subst, ◌∙◌}
use Rattle.std.proofs.Common.{arith, replicate, Option, Some, None}
use Rattle.std.specs.Prelude.{if◌then◌else◌, nat_lt, slice_index, slice_get, is_some, ⊤}
use Rattle.std.specs.Option.{option_map_or}
use Rattle.std.proofs.lemmas.Bool.{false≢true}
use Rattle.std.proofs.lemmas.Int.{ints}
use Rattle.edi_word.specs.Words.{unsigned}
use Rattle.edi_calls.specs.State.{Found, State, title_of, most_bytes}
use Rattle.edi_calls.specs.Calls as calls
use Rattle.edi_calls.specs.Calls.{CallResult, answered, no_file, file_limit, word_of, call}
use Rattle.edi_unit.specs.Types.{Shape, char, char_type, bool_type, is_set_shape, is_elementary, is_elementary_shape, is_ordinal_of}
use Rattle.edi_unit.specs.TypeTables.{part_types, has_parts}
use Rattle.edi_unit.specs.Types.{natural}
use Rattle.edi_unit.specs.Values.{Value, ordinal, compound, members, Values, no_value, value_then, IsOf, AreOf, ordinal_of}
use Rattle.edi_unit.specs.Fits.{IsCall, accept, display, print, find, more, read, fresh, write, close, remove, IsTitle}
use Rattle.edi_unit.specs.Headings.{Formals, value_then}
use Rattle.edi_meaning.specs.Whole.{words_of_value, words_of_values}
use Rattle.edi_follows.specs.values.Words.{value_words, values_words, IsTable}
use Rattle.edi_follows.specs.values.Asked.{ArgumentsAreWords, asked_types, AreAnswers, AnswersAreValues}
use Rattle.edi_follows.proofs.values.Alone.{shape_char, shape_bool, standard_known, elementary_is_alone, elementary_ordinal}

-- ---- characters

char_word : (n : ℤ) → IsTrue (is_ordinal_of char n) → unsigned n ≡ natural n
char_word (pos n) h = grind (arith, ints, h)
char_word (negsuc n) h = absurd (false≢true h)

char_test : (n : ℕ) → n < 128 → is_ordinal_of char (pos n) ≡ true
char_test n less = grind (arith, ints, less)

module _ (types : List Shape) (h : IsTable types) where
  char_words : (v : Value) → IsOf types v char_type → value_words v ≡ natural (ordinal_of v) ∷ []
  char_words v is =
      let elementary : IsTrue (is_elementary types char_type) = ap is_elementary_shape (shape_char types h) in
      let alone = elementary_is_alone types h v char_type (standard_known types h 1 (omega arith)) elementary is in
      let one = elementary_ordinal types v char_type elementary is in
      alone.words ∙ ap (λ n. n ∷ []) (char_word (ordinal_of v) (sym (ap (λ s. is_ordinal_of s (ordinal_of v)) (shape_char types h)) ∙ one))

  char_given : (v : Value) → IsOf types v char_type → words_of_value v ≡ natural (ordinal_of v) ∷ []
  char_given (ordinal n) is = refl
  char_given (compound vs) is = absurd (false≢true (sym (ap has_parts (shape_char types h)) ∙ is.0))
  char_given (members set) is = absurd (false≢true (sym (ap is_set_shape (shape_char types h)) ∙ is.0))

  chars : (n : ℕ) (vs : Values) → AreOf types vs (replicate n char_type) → (words_of_values vs ≡ values_words vs) × (length (values_words vs) ≡ n)
  chars zero no_value are = (refl, refl)
  chars zero (value_then v vs) are = absurd are
  chars (suc n) no_value are = absurd are
  chars (suc n) (value_then v vs) are =
      let rest = chars n vs are.1 in
      let first = char_words v are.0 in (
        ap (λ l. natural (ordinal_of v) ∷ l) rest.0 ∙ ap (λ l. l ++ values_words vs) (sym first),
        ap (λ l. length (l ++ values_words vs)) first ∙ ap suc rest.1,
      )

  title_given : (t : ℕ) (v : Value) → IsTitle types t → IsOf types v t → (words_of_value v ≡ value_words v) × (length (value_words v) ≡ 12)
  title_given t (ordinal n) title is = absurd (false≢true (sym (ap (λ s. is_ordinal_of s n) title) ∙ is))
  title_given t (compound vs) title is = chars 12 vs (subst (λ s. AreOf types vs (part_types s)) title is.1)
  title_given t (members set) title is = absurd (false≢true (sym (ap is_set_shape title) ∙ is.0))

pub arguments_are_words : ArgumentsAreWords
arguments_are_words types h = (
  λ v is. (char_given types h v is ∙ sym (char_words types h v is), ap length (char_words types h v is)),
  λ v t known title is. title_given types h t v title is,
)

-- ---- answers

module _ (types : List Shape) (h : IsTable types) where
  char_answers : (n : ℕ) → n < 128 → AreAnswers types (char_type ∷ []) (n ∷ [])
  char_answers n less =
      let test = char_test n less in (
        standard_known types h 1 (omega arith),
        ap (λ s. is_ordinal_of s (pos n)) (shape_char types h) ∙ test,
        ap (λ x. x ∷ []) (char_word (pos n) test),
        tt,
      )

  truth_answers : (b : Bool) → AreAnswers types (bool_type ∷ []) (word_of b ∷ [])
  truth_answers true = (standard_known types h 2 (omega arith), ap (λ s. is_ordinal_of s (pos 1)) (shape_bool types h), refl, tt)
  truth_answers false = (standard_known types h 2 (omega arith), ap (λ s. is_ordinal_of s (pos 0)) (shape_bool types h), refl, tt)

  -- what a call answers, where it does, is values of these types
  abbrev AnswersSo : List ℕ → CallResult → Type 0
  AnswersSo ts (answered words state) = AreAnswers types ts words
  AnswersSo ts no_file = ⊤
  AnswersSo ts file_limit = ⊤

  by_option : {A : Type 0} (ts : List ℕ) (f : A → CallResult) (o : Option A) (x : CallResult) → ((a : A) → AnswersSo ts (f a)) → AnswersSo ts x →
      AnswersSo ts (option_map_or f o x)
  by_option ts f None x some none = none
  by_option ts f (Some a) x some none = some a

  by_test : (ts : List ℕ) (b : Bool) (x y : CallResult) → AnswersSo ts x → AnswersSo ts y → AnswersSo ts (if b then x else y)
  by_test ts true x y p q = p
  by_test ts false x y p q = q

  accepts : (input : List ℕ) (s : State) → AnswersSo (char_type ∷ []) (calls.accept_from input s)
  accepts [] s = char_answers 25 (omega arith)
  accepts (byte ∷ input) s = char_answers (byte % 128) (omega arith)

  mores : (found : Option Found) (s : State) → AnswersSo (bool_type ∷ []) (calls.more_of found s)
  mores None s = tt
  mores (Some found) s = truth_answers (nat_lt found.position (length (calls.found_bytes s found)))

  nexts : (byte : Option ℕ) (found : Found) (s : State) → AnswersSo (char_type ∷ []) (calls.read_next byte found s)
  nexts None found s = char_answers 25 (omega arith)
  nexts (Some byte) found s = char_answers (byte % 128) (omega arith)

  reads : (found : Option Found) (s : State) → AnswersSo (char_type ∷ []) (calls.read_of found s)
  reads None s = tt
  reads (Some found) s = nexts (slice_get (calls.found_bytes s found) found.position) found s

  writes : (buffer : Option (List ℕ)) (word : ℕ) (s : State) → AnswersSo [] (calls.write_to buffer word s)
  writes None word s = tt
  writes (Some bytes) word s = by_test [] (nat_lt (length bytes) most_bytes) _ _ tt tt

  closes : (buffer : Option (List ℕ)) (words : List ℕ) (s : State) → AnswersSo (bool_type ∷ []) (calls.close_of buffer words s)
  closes None words s = tt
  closes (Some bytes) words s =
      by_option (bool_type ∷ []) _ (title_of words) _
      (λ title. by_option (bool_type ∷ []) _ (calls.room_for s title (length bytes)) _ (λ place. truth_answers true) (truth_answers false))
      (truth_answers false)

  removes : (words : List ℕ) (s : State) → AnswersSo (bool_type ∷ []) (calls.remove words s)
  removes words s =
      by_option (bool_type ∷ []) _ (title_of words) _
      (λ title. by_option (bool_type ∷ []) _ (calls.open_slot s.slots title) _ (λ place. truth_answers true) (truth_answers false))
      (truth_answers false)

  finds : (words : List ℕ) (s : State) → AnswersSo (bool_type ∷ []) (calls.find words s)
  finds words s = truth_answers (is_some _)

  module _ (words answer : List ℕ) (before after : State) where
    told : (ts : List ℕ) (r : CallResult) → AnswersSo ts r → r ≡ answered answer after → AreAnswers types ts answer
    told ts (answered ws state) so is = let e : ws ≡ answer = cc in subst (λ x. AreAnswers types ts x) e so
    told ts no_file so is = absurd (cc)
    told ts file_limit so is = absurd (cc)

    finish : (number k : ℕ) (formals : Formals) (ts : List ℕ) → number ≡ k → asked_types formals ≡ ts → AnswersSo ts (call k words before) →
        call number words before ≡ answered answer after → AreAnswers types (asked_types formals) answer
    finish number k formals ts e d so is =
        subst (λ x. AreAnswers types x answer) (sym d) (told ts (call k words before) so (ap (λ n. call n words before) (sym e) ∙ is))

    answers : (number : ℕ) (formals : Formals) → IsCall types number formals → call number words before ≡ answered answer after →
        AreAnswers types (asked_types formals) answer
    answers number formals (accept e d) is = finish number 1 formals (char_type ∷ []) e (ap asked_types d) (accepts before.input before) is
    answers number formals (display e d) is = finish number 2 formals [] e (ap asked_types d) tt is
    answers number formals (print e d) is = finish number 3 formals [] e (ap asked_types d) tt is
    answers number formals (find t e title d) is = finish number 4 formals (bool_type ∷ []) e (ap asked_types d) (finds words before) is
    answers number formals (more e d) is = finish number 5 formals (bool_type ∷ []) e (ap asked_types d) (mores before.found before) is
    answers number formals (read e d) is = finish number 6 formals (char_type ∷ []) e (ap asked_types d) (reads before.found before) is
    answers number formals (fresh e d) is = finish number 7 formals [] e (ap asked_types d) tt is
    answers number formals (write e d) is = finish number 8 formals [] e (ap asked_types d) (writes before.buffer (slice_index words 0) before) is
    answers number formals (close t e title d) is = finish number 9 formals (bool_type ∷ []) e (ap asked_types d) (closes before.buffer words before) is
    answers number formals (remove t e title d) is = finish number 10 formals (bool_type ∷ []) e (ap asked_types d) (removes words before) is

pub answers_are_values : AnswersAreValues
answers_are_values types h number formals words answer before after call is = answers types h words answer before after number formals call is
