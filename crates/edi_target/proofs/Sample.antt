-- A code of fifteen words, its file of 62 bytes, and what becomes of it with one change.
use Rattle.std.proofs.Common.{◌≡◌, ℕ, List, [], ◌∷◌, ◌++◌, Some, None, take, refl}
use Rattle.edi_target.specs.Decode.{decode}
use Rattle.edi_target.specs.Check.{CodeParts, parts_fault, words_fault}
use Rattle.edi_target.specs.File.{code_bytes, code_fault_of, code_of}
use Rattle.edi_target.specs.declared.code_fault.CodeFault.TheVariants as fault

-- ENTRY 9 0 3 0 0; CONST 97; CALLP 0 5 1; RETURN 0 0
abbrev sample : CodeParts
sample = record { words = 33 ∷ 9 ∷ 0 ∷ 3 ∷ 0 ∷ 0 ∷ 1 ∷ 97 ∷ 35 ∷ 0 ∷ 5 ∷ 1 ∷ 37 ∷ 0 ∷ 0 ∷ []; entry = 0; calls = 2 ∷ [] }

-- the header of a version, with a last byte
abbrev header : ℕ → ℕ → List ℕ
header version last =
    237 ∷ 21 ∷ 0 ∷ version ∷ 0 ∷ 0 ∷ 0 ∷ 15 ∷ 0 ∷ 0 ∷ 0 ∷ 0 ∷ 1 ∷ 2 ∷ 0 ∷ 0 ∷ 0 ∷ 0 ∷ 0 ∷ 0 ∷ 0 ∷ 0 ∷ 0 ∷ 0 ∷ 0 ∷ 0 ∷ 0 ∷ 0 ∷ 0 ∷ 0 ∷ 0 ∷ last ∷ []

abbrev file : List ℕ
file = header 2 0 ++ 0 ∷ 33 ∷ 0 ∷ 9 ∷ 0 ∷ 0 ∷ 0 ∷ 3 ∷ 0 ∷ 0 ∷ 0 ∷ 0 ∷ 0 ∷ 1 ∷ 0 ∷ 97 ∷ 0 ∷ 35 ∷ 0 ∷ 0 ∷ 0 ∷ 5 ∷ 0 ∷ 1 ∷ 0 ∷ 37 ∷ 0 ∷ 0 ∷ 0 ∷ 0 ∷ []

-- the words with a QUIET to its own address at the end
abbrev quiet_words : List ℕ
quiet_words = 0 ∷ 33 ∷ 0 ∷ 9 ∷ 0 ∷ 0 ∷ 0 ∷ 3 ∷ 0 ∷ 0 ∷ 0 ∷ 0 ∷ 0 ∷ 1 ∷ 0 ∷ 97 ∷ 0 ∷ 35 ∷ 0 ∷ 0 ∷ 0 ∷ 5 ∷ 0 ∷ 1 ∷ 0 ∷ 44 ∷ 0 ∷ 0 ∷ 0 ∷ 12 ∷ []

is_file : code_bytes sample ≡ file
unfolding code_bytes
is_file = refl

is_code : code_of file ≡ sample
is_code = refl

is_sound : code_fault_of file ≡ None
unfolding code_fault_of words_fault decode
is_sound = refl

is_short_header : code_fault_of (take 31 file) ≡ Some (fault.Short 31)
unfolding code_fault_of words_fault decode
is_short_header = refl

is_short : code_fault_of (take 61 file) ≡ Some (fault.Short 61)
unfolding code_fault_of words_fault decode
is_short = refl

is_long : code_fault_of (file ++ 0 ∷ []) ≡ Some (fault.Over 62)
unfolding code_fault_of words_fault decode
is_long = refl

has_third_version : code_fault_of (header 3 0) ≡ Some (fault.Header 2 0)
unfolding code_fault_of words_fault decode
has_third_version = refl

has_last_byte : code_fault_of (header 2 1) ≡ Some (fault.Header 31 1)
unfolding code_fault_of words_fault decode
has_last_byte = refl

has_quiet_first : code_fault_of (header 1 0 ++ quiet_words) ≡ Some (fault.Operation 12 44)
unfolding code_fault_of words_fault decode
has_quiet_first = refl

has_quiet_second : code_fault_of (header 2 0 ++ quiet_words) ≡ None
unfolding code_fault_of words_fault decode
has_quiet_second = refl

leads_into_operand : parts_fault (33 ∷ 9 ∷ 0 ∷ 3 ∷ 0 ∷ 0 ∷ 28 ∷ 0 ∷ 7 ∷ 15 ∷ 5 ∷ 1 ∷ 37 ∷ 0 ∷ 0 ∷ []) 0 (2 ∷ []) ≡ Some (fault.Jump 6 7)
unfolding parts_fault words_fault decode
leads_into_operand = refl
