use Rattle.std.proofs.Common.{rules, ◌≡◌, ◌+◌, ◌-◌, ◌<◌, ◌^◌, ◌++◌, ◌∷◌, length, drop, refl, sym, ap, subst, ◌∙◌, arith}
use Rattle.std.specs.Prelude.{map}
use Rattle.std.proofs.lemmas.List.{drop_all}
use Rattle.edi_unit.specs.Lists.{list_items}
use Rattle.edi_unit.specs.Tree.{clause_then, when_act}
use Rattle.edi_unit.specs.Tree.{clause as plain_clause}
use Rattle.edi_unit.specs.View.{acts_of, clauses, clause_of, clauses_of, expression_of}
use Rattle.edi_unit.proofs.Limits.{drop_item}
use Rattle.edi_target.specs.Op as instruction
use Rattle.edi_scheme.specs.Pieces.{again_code, released}
use Rattle.edi_code.specs.Scope.{clause_kind_of}
use Rattle.edi_code.specs.InScope.{clause_length, acts_length, clauses_length, act_code, acts_code, clause_code, clauses_code, ActsAreWritable}
use Rattle.edi_code.specs.InScope.{ClausesAreWritable}
use Rattle.edi_code.specs.Aimed.{AreThere, IsTarget, Opens, aimed, aimed_at, target_of}
use Rattle.edi_code.specs.Emits.{Emits}
use Rattle.edi_code.proofs.Aiming.{IsOpen, grown, aims, open_at_first, open_at_last, opens_all, target_is}
use Rattle.edi_code.proofs.Emitting.{both, emits_then}
use Rattle.edi_code.proofs.Clauses.{words_in, clause_at, clause_open}
use Rattle.edi_code.proofs.Listed.{item_behind, of_acts}
use Rattle.edi_code.proofs.statements.+statements.Goals as goal

pub emit_acts-loop-act-preserved : goal.emit_acts-loop-act-preserved
emit_acts-loop-act-preserved t c =
    item_behind (of_acts c.args.scope.now) _ _ _ _ _ _ _ _ _ _ _ _ (drop_item _ _ _ c.loop-act-test.true c.act-item.is) c.loop-act.invariant
    refl c.in_ok-here.ensures.behind c.in_ok-here.ensures.emits

pub emit_open_clauses-loop-clause-init : goal.emit_open_clauses-loop-clause-init
emit_open_clauses-loop-clause-init t c = record {
  behind = search rules;
  writable = search rules;
  room = refl;
  opens = open_at_first _ _ _ _ _;
}

pub emit_open_clauses-overflow_add-here : goal.emit_open_clauses-overflow_add-here
emit_open_clauses-overflow_add-here t c =
    let kind = clause_kind_of c.args.closing in
    let step = clause_at c.args.scope.now kind _ _ _ _ _ _ (λ l. c.args.at + words_in c.args.scope.now kind l)
    (drop_item _ _ _ c.loop-clause-test.true c.clause-item.is) c.loop-clause.invariant.behind c.loop-clause-test.true (c.close_length-more.ensures.exact 0)
    c.loop-clause.invariant.room in
    omega (arith, step.room _ c.items-clause-items.ensures.exact c.requires.may.room, c.in_ok-ends.ensures.behind)

pub emit_open_clauses-loop-clause-preserved : goal.emit_open_clauses-loop-clause-preserved
emit_open_clauses-loop-clause-preserved t c =
    let s = c.args.scope.now in
    let kind = clause_kind_of c.args.closing in
    let items = c.items-clause-items.result.now in
    let here = c.loop-clause.here in
    let more = c.close_length-more.result in
    let cut = drop_item items c.loop-clause.clause-index c.clause-item.result c.loop-clause-test.true c.clause-item.is in
    let x = clause_of c.clause-item.result in
    let rest = clauses (map clause_of (drop (c.loop-clause.clause-index + 1) items)) in
    let writable : ClausesAreWritable s (clause_then x rest) = subst (λ l. ClausesAreWritable s (clauses (map clause_of l))) cut
    c.loop-clause.invariant.writable in
    let opens = subst (λ l. IsOpen kind c.args.at c.args.starts.now.items c.loop-clause.starts.items c.args.out.now.items c.loop-clause.out.items
    (λ k. clauses_code s kind k here (clauses (map clause_of l))) (λ k. clauses_code s kind k c.args.at (clauses (map clause_of items)))) cut
    c.loop-clause.invariant.opens in
    let step = clause_at s kind items c.loop-clause.clause-index c.loop-clause.behind here more c.clause-item.result (λ l. c.args.at + words_in s kind l) cut
    c.loop-clause.invariant.behind c.loop-clause-test.true (c.close_length-more.ensures.exact 0) c.loop-clause.invariant.room in
    let room = step.room (list_items c.args.clauses.now) c.items-clause-items.ensures.exact c.requires.may.room in
    let emits = subst (λ k. Emits c.loop-clause.out.items c.emit_clause.new.out.items (clause_code s here (k + more) x)) (sym c.in_ok-ends.ensures.behind)
    (c.in_ok-ends.ensures.emits (omega (arith, room))) in
    record {
      behind = omega (arith, c.loop-clause.invariant.behind, c.loop-clause-test.true);
      writable = writable.1;
      room = omega (arith, step.left, c.in_ok-ends.ensures.behind);
      opens = clause_open s kind c.args.at _ _ _ _ _ _ _ here _ x rest _ (omega (arith, c.in_ok-ends.ensures.behind, step.closed)) emits
          (c.in_ok-emit_close.ensures.closes rest step.last) opens;
    }

pub emit_guarded-emit_acts-requires : goal.emit_guarded-emit_acts-requires
emit_guarded-emit_acts-requires t c =
    let s = c.args.scope.now in
    let writable : ActsAreWritable s (acts_of c.args.body.now) = c.requires.may.writable.1 in
    let room : c.in_ok-list.list + 3 + acts_length s (acts_of c.args.body.now) < 2 ^ 32 = omega
    (arith, c.requires.may.room, c.in_ok-list.ensures.behind) in
    search (rules, writable, room)

pub emit_guarded-aim-requires : goal.emit_guarded-aim-requires
emit_guarded-aim-requires t c =
    let put = grown _ _ _ c.in_ok-put.ensures.emits in
    let acts = grown _ _ _ c.in_ok-behind.ensures.emits in
    let start = c.len-jump.ensures ∙ c.emit_value.new.out.ok.0 in
    record { there = omega (arith, put, acts, start) }

pub emit_guarded-returns-clause-emits : goal.emit_guarded-returns-clause-emits
emit_guarded-returns-clause-emits t c =
    let s = c.args.scope.now in
    let e = expression_of c.args.condition.now in
    let body = acts_of c.args.body.now in
    λ fits.
    let target : c.saturating_add.result ≡ c.args.at + clause_length s (plain_clause e body) + c.args.more = omega
    (arith, c.in_ok-list.ensures.behind, c.in_ok-behind.ensures.behind, c.saturating_add.ensures, fits) in
    let start = c.len-jump.ensures ∙ c.emit_value.new.out.ok.0 in
    let set = c.aim.ensures.exact ∙ ap (λ k. aimed_at c.saturating_add.result k c.emit_acts.new.out.items) start in
    let list = aims _ _ _ _ instruction.false_ 29 _ _ (λ k. refl) c.in_ok-put.ensures.emits c.in_ok-behind.ensures.emits set in
    both _ _ _ _ _ _ _ c.in_ok-list.ensures.emits list
    (ap (λ k. instruction.false_ k ∷ acts_code s (c.in_ok-list.list + 3) body) target
    ∙ ap (λ k. instruction.false_ (c.args.at + clause_length s (plain_clause e body) + c.args.more) ∷ acts_code s (k + 3) body) c.in_ok-list.ensures.behind)
    (refl {a = clause_code s c.args.at (c.args.at + clause_length s (plain_clause e body) + c.args.more) (plain_clause e body)})

pub emit_when-returns-clause-emits : goal.emit_when-returns-clause-emits
emit_when-returns-clause-emits t c =
    let s = c.args.scope.now in
    let clauses_in = clauses_of c.args.clauses.now in
    both _ _ _ _ _ _ _ c.in_ok-put.ensures.emits (emits_then _ _ _ _ _ c.in_ok-behind.ensures.emits c.in_ok-put-2.ensures.emits)
    (ap (λ l. clauses_code s released (c.args.at + 2 + clauses_length s released clauses_in + 3) (c.args.at + 2) clauses_in ++ l)
    (c.again.ensures.exact ∙ ap (λ q. again_code q (c.args.at + 2)) c.is_quiet.ensures.exact))
    (refl {a = act_code s c.args.at (when_act clauses_in c.args.line)})

pub emit_open_clauses-returns-clause-opens : goal.emit_open_clauses-returns-clause-opens
emit_open_clauses-returns-clause-opens t c =
    let s = c.args.scope.now in
    let kind = clause_kind_of c.args.closing in
    let items = c.items-clause-items.result.now in
    let none = drop_all c.loop-clause.clause-index items (omega (arith, c.loop-clause-test.false)) in
    let opens = open_at_last kind c.args.at c.args.starts.now.items c.loop-clause.starts.items c.args.out.now.items c.loop-clause.out.items
    (λ k. clauses_code s kind k c.args.at (clauses (map clause_of items)))
    (subst (λ l. IsOpen kind c.args.at c.args.starts.now.items c.loop-clause.starts.items c.args.out.now.items c.loop-clause.out.items
    (λ k. clauses_code s kind k c.loop-clause.here (clauses (map clause_of l))) (λ k. clauses_code s kind k c.args.at (clauses (map clause_of items)))) none
    c.loop-clause.invariant.opens) in
    subst (λ l. Opens kind c.args.at c.args.starts.now.items c.loop-clause.starts.items c.args.out.now.items c.loop-clause.out.items
    (λ k. clauses_code s kind k c.args.at (clauses (map clause_of l)))) c.items-clause-items.ensures.exact opens

pub emit_clauses-aim_all-requires : goal.emit_clauses-aim_all-requires
emit_clauses-aim_all-requires t c =
    let s = c.args.scope.now in
    let kind = clause_kind_of c.args.closing in
    let opens = subst (λ l. Opens kind c.args.at l c.emit_open_clauses.new.starts.items c.args.out.now.items c.emit_open_clauses.new.out.items
    (λ k. clauses_code s kind k c.args.at (clauses_of c.args.clauses.now))) c.new-starts.ensures.items c.in_ok-behind.ensures.opens in
    record { there = subst (λ l. AreThere l (length c.emit_open_clauses.new.out.items)) (sym c.deref.ensures.value) (opens.there tt) }

pub emit_clauses-target_of-requires : goal.emit_clauses-target_of-requires
emit_clauses-target_of-requires t c =
    let s = c.args.scope.now in
    let kind = clause_kind_of c.args.closing in
    let long : c.in_ok-behind.behind - c.args.at ≡ clauses_length s kind (clauses_of c.args.clauses.now) = omega (arith, c.in_ok-behind.ensures.behind) in
    record {
      begins = omega (arith, c.in_ok-behind.ensures.behind);
      room = subst (λ k. target_of kind c.args.at k < 2 ^ 32) (sym long) c.requires.room;
    }

pub emit_clauses-returns-clause-emits : goal.emit_clauses-returns-clause-emits
emit_clauses-returns-clause-emits t c =
    let s = c.args.scope.now in
    let kind = clause_kind_of c.args.closing in
    let all = clauses_of c.args.clauses.now in
    let long : c.in_ok-behind.behind - c.args.at ≡ clauses_length s kind all = omega (arith, c.in_ok-behind.ensures.behind) in
    let target : c.target_of.result ≡ target_of kind c.args.at (clauses_length s kind all) = c.target_of.ensures.exact
    ∙ ap (target_of kind c.args.at) long in
    let opens = subst (λ l. Opens kind c.args.at l c.emit_open_clauses.new.starts.items c.args.out.now.items c.emit_open_clauses.new.out.items
    (λ k. clauses_code s kind k c.args.at all)) c.new-starts.ensures.items c.in_ok-behind.ensures.opens in
    subst (λ k. Emits c.args.out.now.items c.aim_all.new.out.items (clauses_code s kind k c.args.at all)) target
    (opens_all kind c.args.at c.target_of.result c.emit_open_clauses.new.starts.items c.args.out.now.items c.emit_open_clauses.new.out.items
    c.aim_all.new.out.items (λ k. clauses_code s kind k c.args.at all)
    (subst (IsTarget kind c.args.at) (sym target) (target_is kind c.args.at (clauses_length s kind all))) opens
    (c.aim_all.ensures.exact ∙ ap (λ l. aimed c.target_of.result l c.emit_open_clauses.new.out.items) c.deref.ensures.value))
