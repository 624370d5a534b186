-- Headings and chains by the lengths of their lists.
use Rattle.std.proofs.Common.{◌≡◌, ◌≢◌, ℕ, suc, Bool, true, false, ◌&&◌, ◌==◌, List, [], ◌∷◌, length, map, Result, refl, ap, subst, arith}
use Rattle.std.proofs.lemmas.List.{length-map}
use Rattle.edi_unit.specs.declared.expressions.Link as code_link
use Rattle.edi_unit.specs.Tree.{Expression, chain}
use Rattle.edi_unit.specs.View.{links, link_of}
use Rattle.edi_static.specs.declared.headings.Formal as code_formal
use Rattle.edi_static.specs.Environment.{same_formals, same_heading}
use Rattle.edi_static.specs.Judged.{Judged, gives}
use Rattle.edi_static.specs.Operators.{Typed, chain_of}
use Rattle.edi_static.specs.declared.faults.StaticFault.{StaticFault}
use Rattle.edi_static.specs.declared.operands.Typed as code_typed
use Rattle.edi_static.specs.Answers.{JudgedAnswers}
use Rattle.edi_static.specs.Views.{One, value, variable, procedure, formals, formal_of, typed_of}

rest : (b : Bool) {c : Bool} → c ≡ false → (b && c) ≡ false
rest true h = h
rest false h = refl

-- lists of different lengths do not ask the same
lengths_differ : (xs ys : List One) → length xs ≢ length ys → same_formals (formals xs) (formals ys) ≡ false
lengths_differ [] [] h = absurd (h refl)
lengths_differ [] (value t ∷ ys) h = refl
lengths_differ [] (variable t ∷ ys) h = refl
lengths_differ [] (procedure g ∷ ys) h = refl
lengths_differ (value s ∷ xs) [] h = refl
lengths_differ (variable s ∷ xs) [] h = refl
lengths_differ (procedure g ∷ xs) [] h = refl
lengths_differ (value s ∷ xs) (value t ∷ ys) h = rest (s == t) (lengths_differ xs ys (λ e. h (ap suc e)))
lengths_differ (value s ∷ xs) (variable t ∷ ys) h = refl
lengths_differ (value s ∷ xs) (procedure g ∷ ys) h = refl
lengths_differ (variable s ∷ xs) (value t ∷ ys) h = refl
lengths_differ (variable s ∷ xs) (variable t ∷ ys) h = rest (s == t) (lengths_differ xs ys (λ e. h (ap suc e)))
lengths_differ (variable s ∷ xs) (procedure g ∷ ys) h = refl
lengths_differ (procedure f ∷ xs) (value t ∷ ys) h = refl
lengths_differ (procedure f ∷ xs) (variable t ∷ ys) h = refl
lengths_differ (procedure f ∷ xs) (procedure g ∷ ys) h = rest (same_heading f g) (lengths_differ xs ys (λ e. h (ap suc e)))

pub formals_differ : (xs ys : List code_formal.Formal) → length xs ≢ length ys → same_formals (formals (map formal_of xs)) (formals (map formal_of ys)) ≡ false
formals_differ xs ys h = lengths_differ (map formal_of xs) (map formal_of ys) (λ e. h (grind (arith, e, length-map xs formal_of, length-map ys formal_of)))

abbrev pub given : Expression → ℕ → Judged Typed
given e of = gives (record { what = e; of = of })

-- a chain of links is one where there is a link
pub no_chain : (e : Expression) (ls : List code_link.Link) (of : ℕ) → (length ls == 0) ≡ true →
    given (chain_of e (links (map link_of ls))) of ≡ given e of
no_chain e [] of h = refl
no_chain e (l ∷ ls) of h = absurd (grind (arith, h))

chain_is : (e : Expression) (ls : List code_link.Link) → (length ls == 0) ≡ false → chain e (links (map link_of ls)) ≡ chain_of e (links (map link_of ls))
chain_is e [] h = absurd (grind (arith, h))
chain_is e (l ∷ ls) h = refl

pub a_chain : (e : Expression) (ls : List code_link.Link) (of : ℕ) (result : Result code_typed.Typed StaticFault) → (length ls == 0) ≡ false →
    JudgedAnswers typed_of result (given (chain e (links (map link_of ls))) of) → JudgedAnswers typed_of result (given (chain_of e (links (map link_of ls))) of)
a_chain e ls of result h answered = subst (λ x. JudgedAnswers typed_of result (given x of)) (chain_is e ls h) answered
