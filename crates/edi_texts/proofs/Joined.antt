-- The faults of the three passes, joined: what each says of the text.
use Rattle.std.proofs.Common.{◌≡◌, ℕ, List, Result, Ok, Err, refl, sym, subst, inl, inr}
use Rattle.edi_lex.specs.declared.symbol.Mark.{Mark}
use Rattle.edi_lex.specs.declared.fault.LexFault.{LexFault}
use Rattle.edi_lex.specs.declared.fault.LexFault.TheVariants as lex
use Rattle.edi_lex.specs.Symbols.{ScanGives}
use Rattle.edi_syntax.specs.Refusal as syntax_fault
use Rattle.edi_syntax.specs.declared.fault.SyntaxFault.{SyntaxFault}
use Rattle.edi_syntax.specs.declared.fault.SyntaxFault.TheVariants as syntax
use Rattle.edi_tree.specs.Tree.{Program}
use Rattle.edi_grammar.specs.derivation.Faults.{IsTheTree}
use Rattle.edi_static.specs.Programs as tree_fault
use Rattle.edi_static.specs.declared.faults.StaticFault.{StaticFault}
use Rattle.edi_static.specs.declared.faults.StaticFault.TheVariants as broken
use Rattle.edi_texts.specs.declared.refusal.Refusal.{Refusal}
use Rattle.edi_texts.specs.declared.refusal.Refusal.TheVariants.{At, NoMemory}
use Rattle.edi_texts.specs.Refusals.{lexical_refusal, syntax_refusal, static_refusal_of}
use Rattle.edi_texts.specs.Texts.{AreRefused}
use Rattle.edi_texts.specs.Answers.{GivesBy}

-- a lexical fault
pub lexically : {A : Type 0} (Is : A → Type 0) (known : Result (List Mark × ℕ) LexFault) (fault : LexFault) → ScanGives (Err fault) known
    → GivesBy Is known (Err (lexical_refusal fault))
lexically Is known (lex.BadCharacter line) e = rw e refl
lexically Is known (lex.BadNumeral line) e = rw e refl
lexically Is known lex.TooLong e = rw e refl
lexically Is known lex.NoMemory e = tt

-- a syntax fault
pub syntactically : {A : Type 0} (Is : A → Type 0) (known : List Mark × ℕ) (fault : SyntaxFault) → syntax_fault.Refuses known.0 known.1 fault
    → GivesBy Is (Ok known) (Err (syntax_refusal fault))
syntactically Is known (syntax.Syntax line index) f = inl (record { fault = syntax.Syntax line index; is = f; refusal = refl })
syntactically Is known (syntax.TooDeep line index) f = inl (record { fault = syntax.TooDeep line index; is = f; refusal = refl })
syntactically Is known (syntax.NotInProfile line index) f = inl (record { fault = syntax.NotInProfile line index; is = f; refusal = refl })
syntactically Is known syntax.NoMemory f = tt

-- a static fault
pub statically : {A : Type 0} (Is : A → Type 0) (known : List Mark × ℕ) (tree : Program) (fault : StaticFault) → IsTheTree known.0 tree
    → tree_fault.Refuses tree fault → GivesBy Is (Ok known) (Err (static_refusal_of fault))
statically Is known tree (broken.At why line) it f = inr (record { tree = tree; tree_is = it; why = why; at = line; first = f.first; refusal = refl })
statically Is known tree broken.NoMemory it f = tt

-- what is answered by the symbols of a text is answered of the text
pub by_symbols : {A : Type 0} (Is Becomes : A → Type 0) (one other : Result (List Mark × ℕ) LexFault) (result : Result A Refusal) → other ≡ one
    → ((a : A) → Is a → Becomes a) → GivesBy Is one result → GivesBy Becomes other result
by_symbols Is Becomes one other (Ok a) same f g = f a g
by_symbols Is Becomes one other (Err (At pass kind line)) same f g = subst (λ (k : Result (List Mark × ℕ) LexFault). AreRefused k pass kind line) (sym same) g
by_symbols Is Becomes one other (Err NoMemory) same f g = tt
