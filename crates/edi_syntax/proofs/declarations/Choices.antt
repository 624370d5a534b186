-- The rule that is taken before a symbol of each kind.
use Rattle.std.proofs.Common.{◌≡◌, ℕ, List, [], ◌∷◌, ◌++◌, Bool, true, false, Some, refl, sym, ap, subst, if◌then◌else◌}
use Rattle.std.proofs.lemmas.Bool.{eqb-true}
use Rattle.std.specs.Prelude.{nat_eq}
use Rattle.edi_lex.specs.declared.symbol.Mark.{Mark}
use Rattle.edi_grammar.specs.Grammar.{part, rule_no}
use Rattle.edi_grammar.specs.Parser.{has, rule_at}
use Rattle.edi_grammar.specs.Kind.{front}
use Rattle.edi_grammar.specs.Kinds as kind
use Rattle.edi_grammar.specs.Rules as g
use Rattle.edi_grammar.specs.Edison.{edison, first}
use Rattle.edi_phrases.proofs.Fronts.{apart}

abbrev Each : (ℕ → Type 0) → List ℕ → Type 0
Each P [] = Unit {0}
Each P (x ∷ xs) = P x × Each P xs

-- what holds of each of these kinds holds of one that is among them
among : (P : ℕ → Type 0) (a : ℕ) (xs : List ℕ) → Each P xs → has a xs ≡ true → P a
among P a [] all h = let no : false ≡ true = h in absurd (cc)
among P a (x ∷ xs) all h = by (among P a xs all.1) (nat_eq a x) refl h where
  by : (has a xs ≡ true → P a) → (b : Bool) → nat_eq a x ≡ b → (if b then true else has a xs) ≡ true → P a
  by more true f h = subst P (sym (eqb-true a x f)) all.0
  by more false f h = more h

-- a kind that is not b is among these where it is among these and b
pub without : (a b : ℕ) (xs : List ℕ) → nat_eq a b ≡ false → has a xs ≡ has a (xs ++ b ∷ [])
without a b [] e = sym (ap (λ t. if t then true else false) e)
without a b (x ∷ xs) e = ap (λ r. if nat_eq a x then true else r) (without a b xs e)

-- the rule of an item is that of the symbol in front
pub item_at : {a : ℕ} (p : List Mark) → front p ≡ a → rule_at edison g.Item (front p) ≡ rule_at edison g.Item a
item_at p chosen = ap (λ a. rule_at edison g.Item a) chosen

-- a kind that is not `const` begins a global where it begins the declaration of a type
pub no_const : (a : ℕ) → nat_eq a kind.Const ≡ false → has a (first g.TypeDecl) ≡ has a (first g.Global)
no_const a e = ap (λ b. if nat_eq a kind.Array then true else if b then true else has a (kind.Enum ∷ kind.Record ∷ kind.Set ∷ [])) (sym e)

pub item_type : (a : ℕ) → has a (first g.TypeDecl) ≡ true → rule_at edison g.Item a ≡ Some (part g.TypeDecl ∷ [])
item_type a h = among (λ a. rule_at edison g.Item a ≡ Some (part g.TypeDecl ∷ [])) a (first g.TypeDecl) (refl, (refl, (refl, (refl, tt)))) h

pub item_procedure : (a : ℕ) → has a (kind.Const ∷ kind.Array ∷ kind.Enum ∷ kind.Record ∷ kind.Set ∷ kind.Var ∷ kind.Pre ∷ kind.Post ∷ []) ≡ false
    → rule_at edison g.Item a ≡ Some (part g.Procedure ∷ [])
item_procedure a h =
    let h1 = apart a kind.Const (kind.Array ∷ kind.Enum ∷ kind.Record ∷ kind.Set ∷ kind.Var ∷ kind.Pre ∷ kind.Post ∷ []) h in
    let h2 = apart a kind.Array (kind.Enum ∷ kind.Record ∷ kind.Set ∷ kind.Var ∷ kind.Pre ∷ kind.Post ∷ []) h1.1 in
    let h3 = apart a kind.Enum (kind.Record ∷ kind.Set ∷ kind.Var ∷ kind.Pre ∷ kind.Post ∷ []) h2.1 in
    let h4 = apart a kind.Record (kind.Set ∷ kind.Var ∷ kind.Pre ∷ kind.Post ∷ []) h3.1 in
    let h5 = apart a kind.Set (kind.Var ∷ kind.Pre ∷ kind.Post ∷ []) h4.1 in
    let h6 = apart a kind.Var (kind.Pre ∷ kind.Post ∷ []) h5.1 in
    let h7 = apart a kind.Pre (kind.Post ∷ []) h6.1 in
    let h8 = apart a kind.Post [] h7.1 in
    rw (h1.0, h2.0, h3.0, h4.0, h5.0, h6.0, h7.0, h8.0) refl

pub members_more : (a : ℕ) → has a (first g.Member) ≡ true → rule_at edison g.Members a ≡ Some (part g.Member ∷ part g.Members ∷ [])
members_more a e = ap (λ b. rule_no (edison.rules g.Members) (if b then 0 else 1)) e

pub members_end : (a : ℕ) → has a (first g.Member) ≡ false → rule_at edison g.Members a ≡ Some []
members_end a e = ap (λ b. rule_no (edison.rules g.Members) (if b then 0 else 1)) e

pub declarations_more : (a : ℕ) → has a (first g.Declaration) ≡ true → rule_at edison g.Declarations a ≡ Some (part g.Declaration ∷ part g.Declarations ∷ [])
declarations_more a e = ap (λ b. rule_no (edison.rules g.Declarations) (if b then 0 else 1)) e

pub declarations_end : (a : ℕ) → has a (first g.Declaration) ≡ false → rule_at edison g.Declarations a ≡ Some []
declarations_end a e = ap (λ b. rule_no (edison.rules g.Declarations) (if b then 0 else 1)) e

pub globals_more : (a : ℕ) → has a (first g.Global) ≡ true → rule_at edison g.Globals a ≡ Some (part g.Global ∷ part g.Globals ∷ [])
globals_more a e = ap (λ b. rule_no (edison.rules g.Globals) (if b then 0 else 1)) e

pub globals_end : (a : ℕ) → has a (first g.Global) ≡ false → rule_at edison g.Globals a ≡ Some []
globals_end a e = ap (λ b. rule_no (edison.rules g.Globals) (if b then 0 else 1)) e
