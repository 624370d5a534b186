-- How the declaration of a type begins.
use Rattle.std.proofs.Common.{◌≡◌, ℕ, ◌≤◌, List, ◌∷◌, true, false, Some, refl, ap}
use Rattle.edi_lex.specs.declared.symbol.Symbol.{Symbol}
use Rattle.edi_lex.specs.declared.symbol.Symbol.TheVariants as is
use Rattle.edi_lex.specs.declared.symbol.Mark.{Mark}
use Rattle.edi_tree.specs.declared.names.Name.{Name}
use Rattle.edi_tree.specs.Stands.{Spelled, just, name_mark, StandsAsMark}
use Rattle.edi_tree.specs.Levels.{mark, word, named}
use Rattle.edi_grammar.specs.Grammar.{Part, token, level}
use Rattle.edi_grammar.specs.Parser.{rule_at}
use Rattle.edi_grammar.specs.Kind.{kind_of, front}
use Rattle.edi_grammar.specs.Kinds as kind
use Rattle.edi_grammar.specs.Rules as g
use Rattle.edi_grammar.specs.Rules.{Sort, opens}
use Rattle.edi_grammar.specs.Edison.{edison}
use Rattle.edi_phrases.specs.declared.stop.Stop.{Stop}
use Rattle.edi_phrases.specs.Words.{at_line, HeadStands}
use Rattle.edi_phrases.specs.Parses.{Goes}
use Rattle.edi_phrases.specs.Stopped.{Lacks, Refuses, HaltsInHead}
use Rattle.edi_phrases.proofs.Moves.{begins, over_mark, over_open, lacks, refused}

-- the rule is that of the symbol in front
pub decl_rule : {a : ℕ} (p : List Mark) → front p ≡ a → rule_at edison g.TypeDecl (front p) ≡ rule_at edison g.TypeDecl a
decl_rule p chosen = ap (λ a. rule_at edison g.TypeDecl a) chosen

-- behind the word and the name
behind_name : {k : Sort} {n line : ℕ} {x : List (Part Sort)} {p q r : List Mark} (w : Symbol) (name : Name)
    → Goes k n (λ es. es) (token (kind_of w) ∷ token kind.Name ∷ x) p p → opens (kind_of w) ≡ false → p ≡ at_line w line ∷ q
    → q ≡ at_line (is.Name name.text) name.line ∷ r → Goes k n (λ es. word w ∷ named name ∷ es) x p r
behind_name {line = line} w name go shut here behind = over_mark (name_mark name) (at_line (is.Name name.text) name.line)
    (over_mark (just w) (at_line w line) go here refl shut (refl, tt)) behind refl refl (refl, refl)

-- behind the bracket
pub behind_head : {n line : ℕ} {x : List (Part Sort)} {p q : List Mark} (w bracket : Symbol) (name : Name) (s : Spelled)
    → rule_at edison g.TypeDecl (front p) ≡ Some (token (kind_of w) ∷ token kind.Name ∷ token (kind_of bracket) ∷ x) → opens (kind_of w) ≡ false
    → level edison x n ≤ 64 → StandsAsMark s (at_line bracket line) → HeadStands w name bracket line p q
    → Goes g.TypeDecl n (λ es. word w ∷ named name ∷ mark s ∷ es) x p q
behind_head {line = line} {x = x} w bracket name s rule shut room spelled stands = over_open s (at_line bracket line)
    (behind_name w name (begins (token (kind_of w) ∷ token kind.Name ∷ token (kind_of bracket) ∷ x) rule) shut stands.1 refl) refl refl room spelled

-- behind a round one
pub within : {n line : ℕ} {x : List (Part Sort)} {p q : List Mark} (w : Symbol) (name : Name)
    → rule_at edison g.TypeDecl (front p) ≡ Some (token (kind_of w) ∷ token kind.Name ∷ token kind.Open ∷ x) → opens (kind_of w) ≡ false
    → level edison x n ≤ 64 → HeadStands w name is.Open line p q → Goes g.TypeDecl n (λ es. word w ∷ named name ∷ word is.Open ∷ es) x p q
within w name rule shut room stands = behind_head w is.Open name (just is.Open) rule shut room (refl, tt) stands

-- where the word, the name or the bracket is wanting
pub no_word : {n : ℕ} {w bracket : Symbol} {p : List Mark} {e : Stop} → Lacks (kind_of w) p e → HaltsInHead w bracket n p e
no_word {w = w} {bracket = bracket} none = record {
  at = λ k x rule inner. lacks (begins (token (kind_of w) ∷ token kind.Name ∷ token (kind_of bracket) ∷ x) rule) none;
}

pub no_name : {n line : ℕ} {w bracket : Symbol} {p q : List Mark} {e : Stop} → opens (kind_of w) ≡ false → p ≡ at_line w line ∷ q → Lacks kind.Name q e
    → HaltsInHead w bracket n p e
no_name {line = line} {w = w} {bracket = bracket} shut here none = record {
  at = λ k x rule inner. lacks (over_mark (just w) (at_line w line) (begins (token (kind_of w) ∷ token kind.Name ∷ token (kind_of bracket) ∷ x) rule)
      here refl shut (refl, tt)) none;
}

pub no_bracket : {n line : ℕ} {w bracket : Symbol} {p q r : List Mark} {e : Stop} (name : Name) → opens (kind_of w) ≡ false
    → opens (kind_of bracket) ≡ true → p ≡ at_line w line ∷ q → q ≡ at_line (is.Name name.text) name.line ∷ r → Refuses (kind_of bracket) n r e
    → HaltsInHead w bracket n p e
no_bracket {w = w} {bracket = bracket} name shut opening here behind none = record {
  at = λ k x rule inner. refused (behind_name w name (begins (token (kind_of w) ∷ token kind.Name ∷ token (kind_of bracket) ∷ x) rule) shut here behind) opening
      inner none;
}
