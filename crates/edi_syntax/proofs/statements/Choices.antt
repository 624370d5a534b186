-- What may stand behind the name that begins a statement, by the symbol in front.
use Rattle.std.proofs.Common.{◌≡◌, ℕ, suc, [], ◌∷◌, true, false, if◌then◌else◌, Some, ap, ◌∙◌}
use Rattle.std.specs.Prelude.{nat_eq}
use Rattle.edi_grammar.specs.Grammar.{token, part, rule_no}
use Rattle.edi_grammar.specs.Parser.{has, rule_at}
use Rattle.edi_grammar.specs.Kinds as kind
use Rattle.edi_grammar.specs.Rules as g
use Rattle.edi_grammar.specs.Edison.{edison}

pub assigned : (a : ℕ) → nat_eq a kind.Open ≡ false → has a (kind.Period ∷ kind.OpenBracket ∷ kind.Becomes ∷ []) ≡ true → rule_at edison g.After a ≡ Some
    (part g.Selectors ∷ token kind.Becomes ∷ part g.Expr ∷ [])
assigned a o h = ap (λ b. rule_no (edison.rules g.After)
    (if (if b then true else false) then 0 else suc (if has a (kind.Period ∷ kind.OpenBracket ∷ kind.Becomes ∷ []) then 0 else 1))) o
    ∙ ap (λ b. rule_no (edison.rules g.After) (suc (if b then 0 else 1))) h

pub alone : (a : ℕ) → nat_eq a kind.Open ≡ false → has a (kind.Period ∷ kind.OpenBracket ∷ kind.Becomes ∷ []) ≡ false → rule_at edison g.After a ≡ Some []
alone a o h = ap (λ b. rule_no (edison.rules g.After)
    (if (if b then true else false) then 0 else suc (if has a (kind.Period ∷ kind.OpenBracket ∷ kind.Becomes ∷ []) then 0 else 1))) o
    ∙ ap (λ b. rule_no (edison.rules g.After) (suc (if b then 0 else 1))) h
