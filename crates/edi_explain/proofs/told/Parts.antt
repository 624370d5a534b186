-- What is put part by part, and so of a syntax fault.
use Rattle.std.proofs.Common.{◌≡◌, ◌∙◌, ◌++◌, ℕ, Bool, List, Option, Result, Ok, Err, OnOk, take, ap, append_assoc}
use Rattle.std.specs.Prelude.{slice_get, slice_index_or}
use Rattle.edi_lex.specs.declared.symbol.Mark.{Mark}
use Rattle.edi_syntax.specs.Refusal.{line_of}
use Rattle.edi_explain.specs.declared.expected.waiting.Held.{Held}
use Rattle.edi_explain.specs.expected.Opened.{opened}
use Rattle.edi_texts.specs.declared.kind.RefusalKind.TheVariants as kind
use Rattle.edi_explain.specs.told.Advice.{advice_of}
use Rattle.edi_explain.specs.told.Explained.{character_text, held_lines, innermost, instead_text, place_text, seen_by, stray_lines, wrong_text}
use Rattle.edi_explain.specs.told.Names.{before_of}
use Rattle.edi_explain.specs.told.Notes.{Seen, note_line, note_of}
use Rattle.edi_explain.specs.told.Source.{line_bytes, pointed_line}
use Rattle.edi_explain.specs.told.Stray.{stray_of}

pub four : (out one two three all a b c d : List ℕ) → one ≡ out ++ a → two ≡ one ++ b → three ≡ two ++ c → all ≡ three ++ d
    → all ≡ out ++ (a ++ (b ++ (c ++ d)))
four out one two three all a b c d f s t l =
    l ∙ ap (λ o. o ++ d) t ∙ append_assoc two c d ∙ ap (λ o. o ++ (c ++ d)) s ∙ append_assoc one b (c ++ d)
    ∙ ap (λ o. o ++ (b ++ (c ++ d))) f ∙ append_assoc out a (b ++ (c ++ d))

four_put : {B E : Type 0} (r : Result B E) (out one two three all a b c d : List ℕ) → one ≡ out ++ a → two ≡ one ++ b → three ≡ two ++ c
    → OnOk r (all ≡ three ++ d) → OnOk r (all ≡ out ++ (a ++ (b ++ (c ++ d))))
four_put (Err e) out one two three all a b c d f s t l = l
four_put (Ok x) out one two three all a b c d f s t l = four out one two three all a b c d f s t l

put_as : {B E : Type 0} (r : Result B E) (out all shown wanted : List ℕ) → shown ≡ wanted → OnOk r (all ≡ out ++ shown) → OnOk r (all ≡ out ++ wanted)
put_as (Err e) out all shown wanted same l = l
put_as (Ok x) out all shown wanted same l = l ∙ ap (λ s. out ++ s) same

module _ (text : List ℕ) (marks : List Mark) (last index : ℕ) (may : ℕ → Bool) where
  abbrev of_parts : (here before : Option Mark) → List Held → List ℕ
  of_parts here before held =
      place_text text index last here
      ++ (instead_text here may
      ++ (held_lines (innermost held) ++ note_line (note_of marks here before (seen_by (line_bytes text (line_of last here)) here before held may))))

  pub put_parts : {B E : Type 0} (r : Result B E) (known : List Mark) (here before : Option Mark) (held inner : List Held) (seen : Seen) (line out one two three all : List ℕ)
      → known ≡ marks → here ≡ slice_get marks index → before ≡ before_of marks index → held ≡ opened (take index marks)
      → line ≡ line_bytes text (line_of last here) → seen ≡ seen_by line here before held may → inner ≡ innermost held
      → one ≡ out ++ place_text text index last here → two ≡ one ++ instead_text here seen.may → three ≡ two ++ held_lines inner
      → OnOk r (all ≡ three ++ note_line (note_of known here before seen)) → OnOk r (all ≡ out ++ wrong_text text marks last index may)
  put_parts r known here before held inner seen line out one two three all is_known is_here is_before is_held is_line is_seen is_inner f s t l =
      let see : seen ≡ seen_by (line_bytes text (line_of last here)) here before held may = is_seen ∙ ap (λ l. seen_by l here before held may) is_line in
      let first : place_text text index last here ++ (instead_text here seen.may ++ (held_lines inner ++ note_line (note_of known here before seen)))
      ≡ of_parts here before held = λ i.
      place_text text index last here
      ++ (instead_text here (see i).may ++ (held_lines (is_inner i) ++ note_line (note_of (is_known i) here before (see i)))) in
      let second : of_parts here before held ≡ wrong_text text marks last index may =
      λ i. of_parts (is_here i) (is_before i) (is_held i) in
      put_as r out all _ _ (first ∙ second) (four_put r out one two three all (place_text text index last here) (instead_text here seen.may)
      (held_lines inner) (note_line (note_of known here before seen)) f s t l)

-- so of a place at which no piece stands
pub character_put : {B E : Type 0} (r : Result B E) (out one two all text : List ℕ) (line place b : ℕ) → place ≡ stray_of text
    → b ≡ slice_index_or text place 0 → one ≡ out ++ pointed_line text line place → two ≡ one ++ stray_lines b
    → OnOk r (all ≡ two ++ advice_of kind.InvalidCharacter) → OnOk r (all ≡ out ++ character_text text line)
character_put (Err e) out one two all text line place b p q f s l = l
character_put (Ok x) out one two all text line place b p q f s l =
    let advice : List ℕ = advice_of kind.InvalidCharacter in
    let byte : b ≡ slice_index_or text (stray_of text) 0 = q ∙ ap (λ n. slice_index_or text n 0) p in
    l ∙ ap (λ t. t ++ advice) (s ∙ ap (λ o. o ++ stray_lines b) f) ∙ append_assoc (out ++ pointed_line text line place) (stray_lines b) advice
    ∙ append_assoc out (pointed_line text line place) (stray_lines b ++ advice)
    ∙ (λ i. out ++ (pointed_line text line (p i) ++ (stray_lines (byte i) ++ advice)))
