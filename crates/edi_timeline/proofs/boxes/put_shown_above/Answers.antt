use Rattle.std.proofs.Common.{◌≡◌, ℕ, ◌++◌, ◌∙◌, ◌==◌, false, if◌then◌else◌, List, [], length, ap, sym}
use Rattle.std.specs.Prelude.{codes, take}
use Rattle.edi_timeline.specs.Text.{characters_text}
use Rattle.edi_timeline.specs.Picture.{escaped_text, shown_above}
use Rattle.edi_timeline.proofs.Chains.{three}
use Rattle.edi_timeline.proofs.boxes.put_shown_above.Goals as goal

above : (out now shown : List ℕ) → (length shown == 0) ≡ false →
    now ≡ out ++ (codes "<text x=\"16\" y=\"-4\" font-weight=\"bold\">" ++ (escaped_text (characters_text (take 3 shown)) ++ codes "</text>")) →
    now ≡ out ++ shown_above shown
above out now shown some e =
    e
    ∙ ap (λ b. out ++ (if b then [] else codes "<text x=\"16\" y=\"-4\" font-weight=\"bold\">"
    ++ (escaped_text (characters_text (take 3 shown)) ++ codes "</text>"))) (sym some)

pub returns : goal.returns
returns c = record {
  exact =
      above c.args.out.now.items c.extend_from_slice-2.new.self.items c.args.shown.now (sym c.is_empty.ensures ∙ c.if-is_empty.false)
      (three c.args.out.now.items c.extend_from_slice.new.self.items c.put_escaped.new.out.items c.extend_from_slice-2.new.self.items
      (codes "<text x=\"16\" y=\"-4\" font-weight=\"bold\">") (escaped_text (characters_text (take 3 c.args.shown.now))) (codes "</text>")
      c.in_ok-extend_from_slice.ensures.items
      (c.in_ok-put_escaped.ensures.exact
      ∙ ap (λ (l : List ℕ). c.extend_from_slice.new.self.items ++ escaped_text l)
      (c.deref.ensures.value ∙ c.in_ok-put_first_characters.ensures.exact
      ∙ ap (λ (l : List ℕ). l ++ characters_text (take 3 c.args.shown.now)) c.new-above.ensures.items))
      c.in_ok-extend_from_slice-2.ensures.items);
}
