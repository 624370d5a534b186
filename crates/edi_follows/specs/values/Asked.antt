-- Words of contracts. System calls on words: the words of arguments, and that answers are values of the types of the variables for them.
use Rattle.std.specs.Prelude.{◌≡◌, ℕ, ◌<◌, pos, List, [], ◌∷◌, length}
use Rattle.edi_calls.specs.State.{State}
use Rattle.edi_calls.specs.Calls.{answered, call}
use Rattle.edi_unit.specs.Types.{Shape, char_type}
use Rattle.edi_unit.specs.Values.{Value, ordinal, IsOf}
use Rattle.edi_unit.specs.Fits.{IsCall, IsTitle}
use Rattle.edi_unit.specs.Headings.{Formals, no_formal, value_then, variable_then, procedure_then}
use Rattle.edi_meaning.specs.Whole.{words_of_value}
use Rattle.edi_follows.specs.values.Words.{value_words, IsTable}

-- a character, and a title, are passed as their words
abbrev pub ArgumentsAreWords : Type 0
ArgumentsAreWords =
    (types : List Shape) → IsTable types →
    ((v : Value) → IsOf types v char_type → (words_of_value v ≡ value_words v) × (length (value_words v) ≡ 1))
    × ((v : Value) (t : ℕ) → t < length types → IsTitle types t → IsOf types v t → (words_of_value v ≡ value_words v) × (length (value_words v) ≡ 12))

-- the types of the `var` parameters
abbrev pub asked_types : Formals → List ℕ
asked_types no_formal = []
asked_types (value_then t fs) = asked_types fs
asked_types (variable_then t fs) = t ∷ asked_types fs
asked_types (procedure_then h fs) = asked_types fs

-- words are values of these types, one of each
abbrev pub AreAnswers : List Shape → List ℕ → List ℕ → Type 0
AreAnswers types [] [] = Unit {0}
AreAnswers types [] (word ∷ words) = ⊥
AreAnswers types (t ∷ ts) [] = ⊥
AreAnswers types (t ∷ ts) (word ∷ words) =
    (t < length types) × IsOf types (ordinal (pos word)) t × (value_words (ordinal (pos word)) ≡ word ∷ []) × AreAnswers types ts words

-- the answers of a system call are values of the types of its `var` parameters, characters and truth values
abbrev pub AnswersAreValues : Type 0
AnswersAreValues =
    (types : List Shape) → IsTable types → (number : ℕ) (formals : Formals) (words answer : List ℕ) (before after : State) → IsCall types number formals →
    call number words before ≡ answered answer after → AreAnswers types (asked_types formals) answer
