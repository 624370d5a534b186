-- Helper. The first word of a line, the titles that words are, and the number that digits spell.
use Rattle.std.specs.Prelude.{ℕ, Bool, not, ◌&&◌, if◌then◌else◌, List, [], ◌∷◌, take, drop, Option, Some, None}
use Rattle.std.specs.List.{prefix_len}
use Rattle.edi_calls.specs.State.{is_title}
use Rattle.edi_trace.specs.Lines.{number_of}
use Rattle.edi_session.specs.declared.line.Line.{Line}
use Rattle.edi_session.specs.declared.line.Line.TheVariants.{Bad}
use Rattle.edi_session.specs.Words.{is_number, is_gap}

-- a byte of a word
abbrev pub is_plain : ℕ → Bool
is_plain b = not (is_gap b)

-- the line behind its first separators
abbrev pub begun : List ℕ → List ℕ
begun line = drop (prefix_len is_gap line) line

-- its first word, which is empty only where there is none, and what stands behind that
abbrev pub first_word : List ℕ → List ℕ
first_word line = take (prefix_len is_plain line) line

abbrev pub behind_word : List ℕ → List ℕ
behind_word line = drop (prefix_len is_plain line) line

abbrev pub title_in : List ℕ → Option (List ℕ)
title_in word = if is_title word then Some word else None

abbrev pub one_title : List (List ℕ) → Option (List ℕ)
one_title (f ∷ []) = title_in f
one_title _ = None

abbrev pub two_titles : List (List ℕ) → Option (List ℕ × List ℕ)
two_titles (f ∷ g ∷ []) = if is_title f && is_title g then Some (f, g) else None
two_titles _ = None

-- where there is no command, the line is a bad one
abbrev pub line_or_bad : Option Line → Line
line_or_bad None = Bad
line_or_bad (Some line) = line

abbrev pub spelled : List ℕ → Option ℕ
spelled digits = if is_number digits then Some (number_of digits) else None
