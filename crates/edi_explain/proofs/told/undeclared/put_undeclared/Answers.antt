use Rattle.std.proofs.Common.{◌∙◌, ◌++◌, ℕ, List, ap}
use Rattle.std.specs.Prelude.{codes}
use Rattle.edi_explain.specs.places.Places.{place_of}
use Rattle.edi_explain.specs.told.Explained.{later_text}
use Rattle.edi_explain.specs.told.Source.{pointed_line}
use Rattle.edi_explain.specs.told.Words.{name_text}
use Rattle.edi_explain.proofs.told.Parts.{four}
use Rattle.edi_explain.proofs.told.undeclared.put_undeclared.Goals as goal

pub returns : goal.returns
returns c =
    let out : List ℕ = c.args.out.now.items in
    let text : List ℕ = c.args.text.now in
    let letters : List ℕ = c.args.letters.now in
    let nothing : List ℕ = codes " seems to mean nothing here\n" in
    let later : List ℕ = later_text letters c.declared_after.result in
    four out _ _ _ _ (pointed_line text c.args.line c.place.result) (name_text letters) nothing later c.in_ok-put_pointed.ensures
    c.in_ok-put_name.ensures c.in_ok-extend_from_slice.ensures.items c.in_ok-put_later.ensures
    ∙ ap (λ p. out ++ (pointed_line text c.args.line p ++ (name_text letters ++ (nothing ++ later)))) c.place.ensures.exact
    ∙ ap (λ l. out ++ (pointed_line text c.args.line (place_of text c.args.index).0 ++ (name_text letters ++ (nothing ++ later_text letters l)))) c.declared_after.ensures.exact
