use Rattle.std.proofs.Common.{ℕ, ◌<◌, ◌+◌, List, rules, ◌∷◌, ◌∙◌, [], map, ap, refl, sym, arith, ◌≡◌, Some}
use Rattle.std.proofs.lemmas.Bool.{ne_eqb, eqb-true}
use Rattle.edi_lex.specs.declared.symbol.Symbol.TheVariants as is
use Rattle.edi_lex.specs.declared.symbol.Mark.{Mark}
use Rattle.edi_tree.specs.Stands.{on, just}
use Rattle.edi_tree.specs.Levels.{Element}
use Rattle.edi_tree.specs.Levels as elements
use Rattle.edi_tree.specs.View as view
use Rattle.edi_grammar.specs.Grammar as item
use Rattle.edi_grammar.specs.Grammar.{token, part}
use Rattle.edi_grammar.specs.Parser.{rule_at}
use Rattle.edi_grammar.specs.Kinds as kind
use Rattle.edi_grammar.specs.Kind.{front}
use Rattle.edi_grammar.specs.Rules as g
use Rattle.edi_grammar.specs.Edison.{edison}
use Rattle.edi_grammar.proofs.derivation.Splits.{heading_split}
use Rattle.edi_phrases.specs.Words.{at_line}
use Rattle.edi_phrases.specs.Parses.{Goes, Passes}
use Rattle.edi_phrases.proofs.Moves.{at_exit, waits, over_mark, over_end, over_part, into, written, lacks, refused, halts, alone_halts, alone_passes}
use Rattle.edi_phrases.proofs.Opened.{over_front, open_front}
use Rattle.edi_phrases.proofs.Pushes.{repeated, repeated_halts}
use Rattle.edi_syntax.proofs.declarations.Choices.{item_procedure, members_more, members_end, declarations_more, declarations_end}
use Rattle.edi_syntax.proofs.declarations.declarations.+declaration.Goals as goal

procedure_proc : rule_at edison g.Procedure kind.Proc ≡ Some
    (token kind.Proc ∷ part g.Head ∷ part g.Declarations ∷ token kind.Begin ∷ part g.StatementList ∷ token kind.End ∷ item.level_end ∷ [])
procedure_proc = refl

item_post : rule_at edison g.Item kind.Post ≡ Some (token kind.Post ∷ part g.Procedure ∷ [])
item_post = refl

module_module : rule_at edison g.Module kind.Module ≡ Some
    (token kind.Module ∷ part g.Members ∷ token kind.Begin ∷ part g.StatementList ∷ token kind.End ∷ item.level_end ∷ [])
module_module = refl

member_star : rule_at edison g.Member kind.Star ≡ Some (token kind.Star ∷ part g.Item ∷ [])
member_star = refl

-- over the `proc` of a procedure
procedure_opened : {n line : ℕ} {p q : List Mark} → p ≡ at_line is.Proc line ∷ q → n < 64 → Goes g.Procedure n (λ es. elements.word is.Proc ∷ es)
    (part g.Head ∷ part g.Declarations ∷ token kind.Begin ∷ part g.StatementList ∷ token kind.End ∷ item.level_end ∷ []) p q
procedure_opened found room = open_front g.Procedure is.Proc (just is.Proc) procedure_proc (omega (arith, room)) (refl, tt) (waits g.Procedure _ _) found

-- up to the `begin` of a procedure
procedure_declared : {n line : ℕ} {head inner : List Element → List Element} {p q r t : List Mark} → p ≡ at_line is.Proc line ∷ q → n < 64
    → Passes g.Head (n + 1) head q r → Passes g.Declarations (n + 1) inner r t → Goes g.Procedure n (λ es. elements.word is.Proc ∷ head (inner es))
    (token kind.Begin ∷ part g.StatementList ∷ token kind.End ∷ item.level_end ∷ []) p t
procedure_declared found room headed declared = over_part (over_part (procedure_opened found room) headed (omega arith)) declared (omega arith)

-- over it
procedure_begun : {n line : ℕ} {f : List Element → List Element} {p q r : List Mark}
    → Goes g.Procedure n f (token kind.Begin ∷ part g.StatementList ∷ token kind.End
    ∷ item.level_end ∷ []) p q → q ≡ at_line is.Begin line ∷ r → Goes g.Procedure n (λ es. f (elements.word is.Begin ∷ es))
    (part g.StatementList ∷ token kind.End
    ∷ item.level_end ∷ []) p r
procedure_begun {line = line} go found = over_mark (just is.Begin) (at_line is.Begin line) go found refl refl (refl, tt)

-- over the `module` of a module
module_opened : {n line : ℕ} {p q : List Mark} → p ≡ at_line is.Module line ∷ q → n < 64 → Goes g.Module n (λ es. elements.word is.Module ∷ es)
    (part g.Members ∷ token kind.Begin ∷ part g.StatementList ∷ token kind.End ∷ item.level_end ∷ []) p q
module_opened found room = open_front g.Module is.Module (just is.Module) module_module (omega (arith, room)) (refl, tt) (waits g.Module _ _) found

-- over the `begin` of a module
module_begun : {n line place : ℕ} {members : List Element → List Element} {p q r t : List Mark} → p ≡ at_line is.Module line ∷ q → n < 64
    → Passes g.Members (n + 1) members q r → r ≡ at_line is.Begin place ∷ t
    → Goes g.Module n (λ es. elements.word is.Module ∷ members (elements.word is.Begin ∷ es))
    (part g.StatementList ∷ token kind.End ∷ item.level_end ∷ []) p t
module_begun {place = place} found room inner begin = over_mark (just is.Begin) (at_line is.Begin place)
    (over_part (module_opened found room) inner (omega arith)) begin refl refl (refl, tt)

pub parse_procedure-returns-in_err-behind_proc-clause-halts : goal.parse_procedure-returns-in_err-behind_proc-clause-halts
parse_procedure-returns-in_err-behind_proc-clause-halts t c = at_exit _ c.from_residual.ensures.1 (refused
    (into (token kind.Proc ∷ part g.Head ∷ part g.Declarations ∷ token kind.Begin ∷ part g.StatementList ∷ token kind.End ∷ item.level_end ∷ [])
    (waits g.Procedure _ _) refl) refl (omega arith) c.in_err-behind_proc.ensures.none)

pub parse_procedure-returns-in_err-heading-clause-halts : goal.parse_procedure-returns-in_err-heading-clause-halts
parse_procedure-returns-in_err-heading-clause-halts t c = at_exit _ c.from_residual-in_err-heading.ensures.1
    (halts (procedure_opened c.in_ok-behind_proc.ensures.found c.in_ok-behind_proc.ensures.room) (omega arith) c.in_err-heading.ensures.halts)

pub parse_procedure-returns-in_err-declarations-clause-halts : goal.parse_procedure-returns-in_err-declarations-clause-halts
parse_procedure-returns-in_err-declarations-clause-halts t c = at_exit _ c.from_residual-in_err-declarations.ensures.1
    (halts (over_part (procedure_opened c.in_ok-behind_proc.ensures.found c.in_ok-behind_proc.ensures.room) c.in_ok-heading.ensures.passes (omega arith))
    (omega arith) c.in_err-declarations.ensures.halts)

pub parse_procedure-returns-in_err-behind_begin-clause-halts : goal.parse_procedure-returns-in_err-behind_begin-clause-halts
parse_procedure-returns-in_err-behind_begin-clause-halts t c = at_exit _ c.from_residual-in_err-behind_begin.ensures.1
    (lacks (procedure_declared c.in_ok-behind_proc.ensures.found c.in_ok-behind_proc.ensures.room c.in_ok-heading.ensures.passes
    c.in_ok-declarations.ensures.passes) c.in_err-behind_begin.ensures.none)

pub parse_procedure-returns-in_err-list-clause-halts : goal.parse_procedure-returns-in_err-list-clause-halts
parse_procedure-returns-in_err-list-clause-halts t c = at_exit _ c.from_residual-in_err-list.ensures.1
    (halts (procedure_begun (procedure_declared c.in_ok-behind_proc.ensures.found c.in_ok-behind_proc.ensures.room c.in_ok-heading.ensures.passes
    c.in_ok-declarations.ensures.passes) c.in_ok-behind_begin.ensures.found) (omega arith) c.in_err-list.ensures.halts)

pub parse_procedure-returns-in_err-end-clause-halts : goal.parse_procedure-returns-in_err-end-clause-halts
parse_procedure-returns-in_err-end-clause-halts t c = at_exit _ c.from_residual-in_err-end.ensures.1
    (lacks (over_part (procedure_begun (procedure_declared c.in_ok-behind_proc.ensures.found c.in_ok-behind_proc.ensures.room c.in_ok-heading.ensures.passes
    c.in_ok-declarations.ensures.passes) c.in_ok-behind_begin.ensures.found) c.in_ok-list.ensures.passes (omega arith)) c.in_err-end.ensures.none)

pub parse_procedure-returns-clause-passes : goal.parse_procedure-returns-clause-passes
parse_procedure-returns-clause-passes t c = written
    (over_end (over_mark (on is.End c.in_ok-end.end) (at_line is.End c.in_ok-end.end)
    (over_part (procedure_begun (procedure_declared c.in_ok-behind_proc.ensures.found c.in_ok-behind_proc.ensures.room c.in_ok-heading.ensures.passes
    c.in_ok-declarations.ensures.passes) c.in_ok-behind_begin.ensures.found) c.in_ok-list.ensures.passes (omega arith)) c.in_ok-end.ensures.found refl refl
    (refl, refl))) (λ es. sym (heading_split (view.heading_of c.in_ok-heading.heading)
    (elements.declarations_elements (view.declarations_of c.in_ok-declarations.declarations)
    (elements.word is.Begin ∷ elements.list_elements (view.list_of c.in_ok-list.list) (elements.kept is.End c.in_ok-end.end ∷ elements.level_end ∷ es))))
    ∙ ap (λ t. elements.procedure_elements t es) (sym c.make_procedure.ensures.seen))

pub parse_procedure_item-returns-in_err-procedure-clause-halts : goal.parse_procedure_item-returns-in_err-procedure-clause-halts
parse_procedure_item-returns-in_err-procedure-clause-halts t c = at_exit _ c.from_residual.ensures.1
    (alone_halts g.Procedure (item_procedure (front c.args.marks.now) c.requires.chosen) c.in_err-procedure.ensures.halts)

pub parse_procedure_item-returns-clause-passes : goal.parse_procedure_item-returns-clause-passes
parse_procedure_item-returns-clause-passes t c = alone_passes g.Procedure (item_procedure (front c.args.marks.now) c.requires.chosen)
    c.in_ok-procedure.ensures.passes (λ es. ap (λ t. elements.item_elements t es) (sym c.make_procedure_item.ensures.seen))

pub parse_post-returns-in_err-behind_post-clause-halts : goal.parse_post-returns-in_err-behind_post-clause-halts
parse_post-returns-in_err-behind_post-clause-halts t c = at_exit _ c.from_residual.ensures.1 (lacks
    (into (token kind.Post ∷ part g.Procedure ∷ []) (waits g.Item _ _) (ap (λ a. rule_at edison g.Item a) c.requires.chosen ∙ item_post))
    c.in_err-behind_post.ensures.none)

pub parse_post-returns-in_err-procedure-clause-halts : goal.parse_post-returns-in_err-procedure-clause-halts
parse_post-returns-in_err-procedure-clause-halts t c = at_exit _ c.from_residual-in_err-procedure.ensures.1
    (halts (over_front g.Item is.Post (just is.Post) item_post refl (refl, tt) (waits g.Item _ _) c.in_ok-behind_post.ensures.found) (omega arith)
    c.in_err-procedure.ensures.halts)

pub parse_post-returns-clause-passes : goal.parse_post-returns-clause-passes
parse_post-returns-clause-passes t c = written
    (over_part (over_front g.Item is.Post (just is.Post) item_post refl (refl, tt) (waits g.Item _ _) c.in_ok-behind_post.ensures.found)
    c.in_ok-procedure.ensures.passes (omega arith)) (λ es. ap (λ t. elements.item_elements t es) (sym c.make_post.ensures.seen))

pub parse_module-returns-in_err-behind_module-clause-halts : goal.parse_module-returns-in_err-behind_module-clause-halts
parse_module-returns-in_err-behind_module-clause-halts t c = at_exit _ c.from_residual.ensures.1 (refused
    (into (token kind.Module ∷ part g.Members ∷ token kind.Begin ∷ part g.StatementList ∷ token kind.End ∷ item.level_end ∷ []) (waits g.Module _ _) refl)
    refl (omega arith) c.in_err-behind_module.ensures.none)

pub parse_module-returns-in_err-members-clause-halts : goal.parse_module-returns-in_err-members-clause-halts
parse_module-returns-in_err-members-clause-halts t c = at_exit _ c.from_residual-in_err-members.ensures.1
    (halts (module_opened c.in_ok-behind_module.ensures.found c.in_ok-behind_module.ensures.room) (omega arith) c.in_err-members.ensures.halts)

pub parse_module-returns-in_err-behind_begin-clause-halts : goal.parse_module-returns-in_err-behind_begin-clause-halts
parse_module-returns-in_err-behind_begin-clause-halts t c = at_exit _ c.from_residual-in_err-behind_begin.ensures.1
    (lacks (over_part (module_opened c.in_ok-behind_module.ensures.found c.in_ok-behind_module.ensures.room) c.in_ok-members.ensures.passes (omega arith))
    c.in_err-behind_begin.ensures.none)

pub parse_module-returns-in_err-list-clause-halts : goal.parse_module-returns-in_err-list-clause-halts
parse_module-returns-in_err-list-clause-halts t c = at_exit _ c.from_residual-in_err-list.ensures.1
    (halts (module_begun c.in_ok-behind_module.ensures.found c.in_ok-behind_module.ensures.room c.in_ok-members.ensures.passes
    c.in_ok-behind_begin.ensures.found) (omega arith) c.in_err-list.ensures.halts)

pub parse_module-returns-in_err-rest-clause-halts : goal.parse_module-returns-in_err-rest-clause-halts
parse_module-returns-in_err-rest-clause-halts t c = at_exit _ c.from_residual-in_err-rest.ensures.1
    (lacks (over_part (module_begun c.in_ok-behind_module.ensures.found c.in_ok-behind_module.ensures.room c.in_ok-members.ensures.passes
    c.in_ok-behind_begin.ensures.found) c.in_ok-list.ensures.passes (omega arith)) c.in_err-rest.ensures.none)

pub parse_module-returns-clause-passes : goal.parse_module-returns-clause-passes
parse_module-returns-clause-passes t c = written
    (over_end (over_mark (just is.End) (at_line is.End c.in_ok-rest.field-0-0)
    (over_part (module_begun c.in_ok-behind_module.ensures.found c.in_ok-behind_module.ensures.room c.in_ok-members.ensures.passes
    c.in_ok-behind_begin.ensures.found) c.in_ok-list.ensures.passes (omega arith)) c.in_ok-rest.ensures.found refl refl (refl, tt)))
    (λ es. ap (λ t. elements.module_elements t es) (sym c.make_module.ensures.seen))

pub parse_member-returns-in_err-exported-clause-halts : goal.parse_member-returns-in_err-exported-clause-halts
parse_member-returns-in_err-exported-clause-halts t c = at_exit _ c.from_residual.ensures.1 (halts
    (over_front g.Member is.Star (just is.Star) member_star refl (refl, tt) (waits g.Member _ _) c.in-Some.ensures.found) (omega arith)
    c.in_err-exported.ensures.halts)

pub parse_member-returns-in-Some-clause-passes : goal.parse_member-returns-in-Some-clause-passes
parse_member-returns-in-Some-clause-passes t c = written
    (over_part (over_front g.Member is.Star (just is.Star) member_star refl (refl, tt) (waits g.Member _ _) c.in-Some.ensures.found)
    c.in_ok-exported.ensures.passes (omega arith)) (λ es. ap (λ t. elements.member_elements t es) (sym c.make_exported.ensures.seen))

pub parse_member-returns-in_err-inner-clause-halts : goal.parse_member-returns-in_err-inner-clause-halts
parse_member-returns-in_err-inner-clause-halts t c = at_exit _ c.from_residual-in_err-inner.ensures.1
    (alone_halts g.Module (ap (λ a. rule_at edison g.Member a) (eqb-true (front c.args.marks.now) kind.Module (sym c.at.ensures.exact ∙ c.if-at.true)))
    c.in_err-inner.ensures.halts)

pub parse_member-returns-then-at-clause-passes : goal.parse_member-returns-then-at-clause-passes
parse_member-returns-then-at-clause-passes t c = alone_passes g.Module (ap (λ a. rule_at edison g.Member a)
    (eqb-true (front c.args.marks.now) kind.Module (sym c.at.ensures.exact ∙ c.if-at.true))) c.in_ok-inner.ensures.passes
    (λ es. ap (λ t. elements.member_elements t es) (sym c.make_module_member.ensures.seen))

pub parse_member-returns-in_err-plain-clause-halts : goal.parse_member-returns-in_err-plain-clause-halts
parse_member-returns-in_err-plain-clause-halts t c = at_exit _ c.from_residual-in_err-plain.ensures.1
    (alone_halts g.Item (rw (ne_eqb (front _) kind.Star c.in_default.ensures.none, sym c.at.ensures.exact ∙ c.if-at.false) refl) c.in_err-plain.ensures.halts)

pub parse_member-returns-clause-passes : goal.parse_member-returns-clause-passes
parse_member-returns-clause-passes t c = alone_passes g.Item (rw (
  ne_eqb (front _) kind.Star c.in_default.ensures.none,
  sym c.at.ensures.exact
      ∙ c.if-at.false,
) refl) c.in_ok-plain.ensures.passes (λ es. ap (λ t. elements.member_elements t es) (sym c.make_item_member.ensures.seen))

pub parse_declaration-returns-in_err-inner-clause-halts : goal.parse_declaration-returns-in_err-inner-clause-halts
parse_declaration-returns-in_err-inner-clause-halts t c = at_exit _ c.from_residual.ensures.1 (alone_halts g.Module
    (ap (λ a. rule_at edison g.Declaration a) (eqb-true (front c.args.marks.now) kind.Module (sym c.at.ensures.exact ∙ c.if-at.true)))
    c.in_err-inner.ensures.halts)

pub parse_declaration-returns-then-at-clause-passes : goal.parse_declaration-returns-then-at-clause-passes
parse_declaration-returns-then-at-clause-passes t c = alone_passes g.Module (ap (λ a. rule_at edison g.Declaration a)
    (eqb-true (front c.args.marks.now) kind.Module (sym c.at.ensures.exact ∙ c.if-at.true))) c.in_ok-inner.ensures.passes
    (λ es. ap (λ t. elements.declaration_elements t es) (sym c.make_module_declaration.ensures.seen))

pub parse_declaration-returns-in_err-item-clause-halts : goal.parse_declaration-returns-in_err-item-clause-halts
parse_declaration-returns-in_err-item-clause-halts t c = at_exit _ c.from_residual-in_err-item.ensures.1
    (alone_halts g.Item (rw (sym c.at.ensures.exact ∙ c.if-at.false) refl) c.in_err-item.ensures.halts)

pub parse_declaration-returns-clause-passes : goal.parse_declaration-returns-clause-passes
parse_declaration-returns-clause-passes t c = alone_passes g.Item (rw (sym c.at.ensures.exact ∙ c.if-at.false) refl) c.in_ok-item.ensures.passes
    (λ es. ap (λ t. elements.declaration_elements t es) (sym c.make_item_declaration.ensures.seen))

pub parse_members-returns-in_err-member-clause-halts : goal.parse_members-returns-in_err-member-clause-halts
parse_members-returns-in_err-member-clause-halts t c = at_exit _ c.from_residual.ensures.1 (repeated_halts g.Members g.Member
    (members_more (front c.loop-alloc.rest.now) (sym c.at_member.ensures.exact ∙ c.loop-alloc-test.true)) c.loop-alloc.invariant.goes
    c.in_err-member.ensures.halts)

pub parse_members-loop-alloc-preserved : goal.parse_members-loop-alloc-preserved
parse_members-loop-alloc-preserved t c =
    record {
      goes = repeated g.Members g.Member (λ x. elements.member_elements (view.member_of x)) (λ l. elements.members_elements (view.members (map view.member_of l)))
          (λ es. refl) (λ x l es. refl) c.loop-alloc.members.items c.push.new.self.items c.in_ok-member.member (search rules)
          (members_more (front c.loop-alloc.rest.now) (sym c.at_member.ensures.exact ∙ c.loop-alloc-test.true)) c.loop-alloc.invariant.goes
          c.in_ok-member.ensures.passes;
      shorter = omega (arith, c.loop-alloc.invariant.shorter, c.in_ok-member.ensures.shorter);
    }

pub parse_members-returns-clause-passes : goal.parse_members-returns-clause-passes
parse_members-returns-clause-passes t c = written
    (into [] c.loop-alloc.invariant.goes (members_end (front c.loop-alloc.rest.now) (sym c.at_member.ensures.exact ∙ c.loop-alloc-test.false)))
    (λ es. ap (λ l. elements.members_elements (view.members (map view.member_of l)) es) (sym c.from_vec.ensures.exact))

pub parse_declarations-returns-in_err-declaration-clause-halts : goal.parse_declarations-returns-in_err-declaration-clause-halts
parse_declarations-returns-in_err-declaration-clause-halts t c = at_exit _ c.from_residual.ensures.1
    (repeated_halts g.Declarations g.Declaration (declarations_more (front c.loop-alloc.rest.now)
    (sym c.at_declaration.ensures.exact ∙ c.loop-alloc-test.true)) c.loop-alloc.invariant.goes c.in_err-declaration.ensures.halts)

pub parse_declarations-loop-alloc-preserved : goal.parse_declarations-loop-alloc-preserved
parse_declarations-loop-alloc-preserved t c =
    record {
      goes = repeated g.Declarations g.Declaration (λ x. elements.declaration_elements (view.declaration_of x)) (λ l. elements.declarations_elements (view.declarations (map view.declaration_of l)))
          (λ es. refl) (λ x l es. refl) c.loop-alloc.declarations.items c.push.new.self.items c.in_ok-declaration.declaration (search rules)
          (declarations_more (front c.loop-alloc.rest.now) (sym c.at_declaration.ensures.exact ∙ c.loop-alloc-test.true)) c.loop-alloc.invariant.goes
          c.in_ok-declaration.ensures.passes;
      shorter = omega (arith, c.loop-alloc.invariant.shorter, c.in_ok-declaration.ensures.shorter);
    }

pub parse_declarations-returns-clause-passes : goal.parse_declarations-returns-clause-passes
parse_declarations-returns-clause-passes t c = written
    (into [] c.loop-alloc.invariant.goes (declarations_end (front c.loop-alloc.rest.now) (sym c.at_declaration.ensures.exact ∙ c.loop-alloc-test.false)))
    (λ es. ap (λ l. elements.declarations_elements (view.declarations (map view.declaration_of l)) es) (sym c.from_vec.ensures.exact))
