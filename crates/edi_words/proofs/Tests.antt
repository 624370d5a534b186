-- The test of the words, word by word.
use Rattle.std.proofs.Common.{◌≡◌, ◌∙◌, Bool, true, false, ◌&&◌, refl, sym, List, [], ◌∷◌, Option, Some, None, is_some}
use Rattle.std.specs.Prelude.{if◌then◌else◌}
use Rattle.edi_words.specs.Words.{Text, Part, operand, option, is_plain, is_option_name, before_parts, parts_of}
use Rattle.edi_words.specs.Inside.{goes}

some_before : (part : Part) (rest : Option (List Part)) → is_some (before_parts part rest) ≡ is_some rest
some_before part None = refl
some_before part (Some parts) = refl

abbrev one_part : Bool → Text → Option (List Part)
one_part plain w = if plain then Some (operand w ∷ []) else None

one : (plain named : Bool) (w : Text) → is_some (one_part plain w) ≡ (if plain then true else (named && false))
one true named w = refl
one false true w = refl
one false false w = refl

more : (plain named after : Bool) (w v : Text) (next rest : Option (List Part)) (goes_on goes_behind : Bool)
    → goes_on ≡ is_some next → goes_behind ≡ is_some rest
    → is_some (if plain then before_parts (operand w) next else (if named && after then before_parts (option w v) rest else None))
    ≡ (if plain then goes_on else (named && (if after then goes_behind else false)))
more true named after w v next rest goes_on goes_behind e f = some_before (operand w) next ∙ sym e
more false true true w v next rest goes_on goes_behind e f = some_before (option w v) rest ∙ sym f
more false true false w v next rest goes_on goes_behind e f = refl
more false false after w v next rest goes_on goes_behind e f = refl

-- THE TEST: words of which all go on so are parts, and no others
pub goes_is : (words : List Text) → goes false words ≡ is_some (parts_of words)
goes_is [] = refl
goes_is (w ∷ []) = sym (one (is_plain w) (is_option_name w) w)
goes_is (w ∷ v ∷ words) = sym (more (is_plain w) (is_option_name w) (is_plain v) w v (parts_of (v ∷ words)) (parts_of words)
    (goes false (v ∷ words)) (goes false words) (goes_is (v ∷ words)) (goes_is words))
