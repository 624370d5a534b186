-- Each text has a first fault or a unit.
use Rattle.std.proofs.Common.{◌≡◌, ◌⊎◌, ℕ, zero, suc, ◌+◌, List, [], ◌∷◌, ◌++◌, length, Bool, true, false, Option, Result, Ok, Err, refl, sym, ap}
use Rattle.std.proofs.Common.{subst, ◌∙◌, inl, inr, if◌then◌else◌}
use Rattle.edi_lex.specs.declared.symbol.Mark.{Mark}
use Rattle.edi_lex.specs.declared.fault.LexFault.{LexFault}
use Rattle.edi_lex.specs.declared.fault.LexFault.TheVariants as lex
use Rattle.edi_lex.specs.Bytes.{feeds_at}
use Rattle.edi_lex.specs.Symbols.{Piece, space, stands, stray, too_great, piece_of, by_piece, with_front, symbols_from, is_too_long, symbols_of}
use Rattle.edi_tree.specs.Tree.{Program}
use Rattle.edi_tree.specs.Levels.{elements}
use Rattle.edi_tree.specs.Spells.{Spells, to_end}
use Rattle.edi_grammar.specs.Parser.{Stops, complete}
use Rattle.edi_grammar.specs.Edison.{edison, start}
use Rattle.edi_grammar.specs.Grammar.{plain}
use Rattle.edi_grammar.proofs.Start.{first_fault}
use Rattle.edi_grammar.specs.derivation.Faults.{IsMisplaced, IsTheTree}
use Rattle.edi_grammar.proofs.derivation.Programs.{marks_of, program_of_text}
use Rattle.edi_grammar.proofs.derivation.Firsts.{misplaced, too_deep_at, whole_tree}
use Rattle.edi_syntax.proofs.Stopping.{same_marks}
use Rattle.edi_syntax.specs.Refusal.{is_outside, line_of, IsSyntaxFault}
use Rattle.edi_syntax.specs.declared.fault.SyntaxFault.{SyntaxFault}
use Rattle.edi_syntax.specs.declared.fault.SyntaxFault.TheVariants as syntax
use Rattle.edi_static.specs.Judged.{Judged, gives, faults}
use Rattle.edi_static.specs.Programs.{resolve_tree}
use Rattle.edi_unit.specs.Tree.{ProgramUnit}
use Rattle.edi_texts.specs.declared.kind.RefusalKind.{RefusalKind}
use Rattle.edi_texts.specs.declared.kind.RefusalKind.TheVariants as kind
use Rattle.edi_texts.specs.declared.refusal.Pass.{Pass}
use Rattle.edi_texts.specs.declared.refusal.Pass.TheVariants.{Lexical, Syntactic, Semantic}
use Rattle.edi_texts.specs.declared.refusal.Refusal.TheVariants.{At}
use Rattle.edi_texts.specs.Refusals.{kind_of, syntax_refusal}
use Rattle.edi_texts.specs.Texts.{AreAccepted, AreRefused, IsFault, IsUnit}
use Rattle.edi_texts.proofs.Stops.{Stopped, reads, errs, sinks, stops}

-- symbols are refused or accepted
abbrev Decided : Result (List Mark × ℕ) LexFault → Type 0
Decided known = ((pass : Pass) × (why : RefusalKind) × (line : ℕ) × AreRefused known pass why line) ⊎ ((unit : ProgramUnit) × AreAccepted known unit)

-- ---- the lexical fault

-- it is none of memory
abbrev pub Tells : Result (List Mark × ℕ) LexFault → Type 0
Tells (Ok known) = Unit {0}
Tells (Err lex.NoMemory) = ⊥
Tells (Err fault) = Unit {0}

with_front_tells : (marks : List Mark) (known : Result (List Mark × ℕ) LexFault) → Tells known → Tells (with_front marks known)
with_front_tells marks (Ok known) t = tt
with_front_tells marks (Err (lex.BadCharacter line)) t = tt
with_front_tells marks (Err (lex.BadNumeral line)) t = tt
with_front_tells marks (Err lex.TooLong) t = tt
with_front_tells marks (Err lex.NoMemory) t = t

by_piece_tells : (piece : Piece) (line : ℕ) (go : ℕ → Result (List Mark × ℕ) LexFault) → ((k : ℕ) → Tells (go k)) → Tells (by_piece piece line go)
by_piece_tells (space k) line go t = t k
by_piece_tells (stands symbol k) line go t = let mark : Mark = record { symbol = symbol; line = line } in with_front_tells (mark ∷ []) (go k) (t k)
by_piece_tells stray line go t = tt
by_piece_tells too_great line go t = tt

pub symbols_tell : (text : List ℕ) (k line : ℕ) → Tells (symbols_from text k line)
unfolding symbols_from
symbols_tell [] k line = tt
symbols_tell (b ∷ rest) (suc k) line = symbols_tell rest k (line + feeds_at b)
symbols_tell (b ∷ rest) zero line = by_piece_tells (piece_of b rest) line (λ k. symbols_from rest k (line + feeds_at b)) (λ k. symbols_tell rest k
    (line + feeds_at b))

text_tells : (text : List ℕ) → Tells (symbols_of text)
text_tells text = by (is_too_long text) where
  by : (b : Bool) → Tells (if b then Err lex.TooLong else symbols_from text 0 1)
  by true = tt
  by false = symbols_tell text 0 1

lexically : (fault : LexFault) → Tells (Err fault) → Decided (Err fault)
lexically (lex.BadCharacter line) t = inl (Lexical, kind.InvalidCharacter, line, refl)
lexically (lex.BadNumeral line) t = inl (Lexical, kind.InvalidNumeral, line, refl)
lexically lex.TooLong t = inl (Lexical, kind.TextTooLong, 0, refl)
lexically lex.NoMemory t = absurd t

-- ---- the syntax fault, or the tree

-- marks that are read to their end are those of a tree
tree_of : (marks : List Mark) → Stops edison 64 start (to_end marks) complete [] → (tree : Program) × IsTheTree marks tree
tree_of marks s =
    let v = first_fault 64 (to_end marks) complete [] s in
    let lives = v.lives in
    let p = program_of_text lives.0 lives.2 lives.5 in
    let read = marks_of (elements p.0) lives.2 p.1 in
    let text : plain lives.2 ≡ to_end marks = lives.3 ∙ ap (λ more. v.before ++ more) lives.4 ∙ sym v.cut in
    let same : read.0 ≡ marks = same_marks read.0 marks (sym read.2 ∙ text) in
    let spells : Spells p.0 marks = subst (λ l. Spells p.0 l) same read.1 in
    (p.0, whole_tree marks p.0 spells s)

judged : (known : List Mark × ℕ) (tree : Program) → IsTheTree known.0 tree → (j : Judged ProgramUnit) → resolve_tree tree ≡ j → Decided (Ok known)
judged known tree it (gives unit) e = inr (unit, record { tree = tree; tree_is = it; resolved = e })
judged known tree it (faults why line) e = inl (
  Semantic,
  kind_of why,
  line,
  inr
      (record { tree = tree; tree_is = it; why = why; at = line; first = e; refusal = refl }),
)

-- the symbols have this syntax fault
faulty : (known : List Mark × ℕ) (why : RefusalKind) (line : ℕ) (fault : SyntaxFault) → IsSyntaxFault known.0 known.1 fault
    → syntax_refusal fault ≡ At Syntactic why line → Decided (Ok known)
faulty known why line fault is refusal = inl (Syntactic, why, line, inl (record { fault = fault; is = is; refusal = refusal }))

wrong_at : (known : List Mark × ℕ) (before : List Mark) (here : Option Mark) → IsMisplaced known.0 before here → (b : Bool)
    → is_outside before here ≡ b → Decided (Ok known)
wrong_at known before here misplaced true e =
    faulty known kind.NotInProfile (line_of known.1 here) (syntax.NotInProfile (line_of known.1 here) (length before))
    (record { before = before; here = here; misplaced = misplaced; kind = e; on_line = refl; at_index = refl }) refl
wrong_at known before here misplaced false e =
    faulty known kind.InvalidSyntax (line_of known.1 here) (syntax.Syntax (line_of known.1 here) (length before))
    (record { before = before; here = here; misplaced = misplaced; kind = e; on_line = refl; at_index = refl }) refl

symbols_decide : (known : List Mark × ℕ) → Stopped start (to_end known.0) → Decided (Ok known)
symbols_decide known (reads s) = let t = tree_of known.0 s in judged known t.0 t.1 (resolve_tree t.0) refl
symbols_decide known (errs here behind s) = let m = misplaced known.0 here behind s in wrong_at known m.0 here m.2 (is_outside m.0 here) refl
symbols_decide known (sinks m behind s) =
    let d = too_deep_at known.0 m behind s in
    faulty known kind.NestingTooDeep m.line (syntax.TooDeep m.line (length d.0))
    (record { before = d.0; m = m; deep = d.2; on_line = refl; at_index = refl }) refl

decided : (known : Result (List Mark × ℕ) LexFault) → Tells known → Decided known
decided (Err fault) t = lexically fault t
decided (Ok known) t = symbols_decide known (stops known.0)

pub some_thing : (text : List ℕ) → ((pass : Pass) × (why : RefusalKind) × (line : ℕ) × IsFault text pass why line) ⊎ ((unit : ProgramUnit) × IsUnit text unit)
some_thing text = decided (symbols_of text) (text_tells text)
