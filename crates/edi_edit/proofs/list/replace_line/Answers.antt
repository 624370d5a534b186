use Rattle.std.proofs.Common.{◌≡◌, ◌-◌, refl, ◌∙◌, ap, arith, set}
use Rattle.edi_edit.specs.Lines.{size_of_lines}
use Rattle.edi_edit.specs.Steps.{plain}
use Rattle.edi_edit.proofs.Single.{plain-set, replaces, replaced, not_replaced}
use Rattle.edi_edit.proofs.list.replace_line.Goals as goal

pub overflow_cast-after : goal.overflow_cast-after
overflow_cast-after c =
    let r = replaces c.args.lines.now _ _ _ c.index.result.now c.args.line.now c.len.ensures c.in_ok-line_index.ensures.ok c.index.ensures in
    let same = c.len-2.ensures in
    let small = c.requires.small in
    omega (arith, r.within)

pub overflow_sub-after : goal.overflow_sub-after
overflow_sub-after c =
    let r = replaces c.args.lines.now _ _ _ c.index.result.now c.args.line.now c.len.ensures c.in_ok-line_index.ensures.ok c.index.ensures in
    let same = c.len-2.ensures in
    let sized : c.size.result ≡ size_of_lines (plain c.args.lines.now.items) = c.size.ensures.exact ∙ ap (λ ls. size_of_lines (plain ls)) c.deref.ensures.value in
    omega (arith, r.within)

pub returns-then-after-gt-ROOM-clause-exact : goal.returns-then-after-gt-ROOM-clause-exact
returns-then-after-gt-ROOM-clause-exact c =
    let r = replaces c.args.lines.now _ _ _ c.index.result.now c.args.line.now c.len.ensures c.in_ok-line_index.ensures.ok c.index.ensures in
    let same = c.len-2.ensures in
    let sized : c.size.result ≡ size_of_lines (plain c.args.lines.now.items) = c.size.ensures.exact ∙ ap (λ ls. size_of_lines (plain ls)) c.deref.ensures.value in
    (not_replaced _ _ _ _ _ _ r (omega arith) c.if-after-gt-ROOM.true, refl)

pub returns-in_default-clause-exact : goal.returns-in_default-clause-exact
returns-in_default-clause-exact c =
    let r = replaces c.args.lines.now _ _ _ c.index.result.now c.args.line.now c.len.ensures c.in_ok-line_index.ensures.ok c.index.ensures in
    let same = c.len-2.ensures in
    let sized : c.size.result ≡ size_of_lines (plain c.args.lines.now.items) = c.size.ensures.exact ∙ ap (λ ls. size_of_lines (plain ls)) c.deref.ensures.value in
    (replaced _ _ _ _ _ r (let small = c.if-after-gt-ROOM.false in omega arith), refl)

pub returns-clause-exact : goal.returns-clause-exact
returns-clause-exact c =
    let r = replaces c.args.lines.now _ _ _ c.index.result.now c.args.line.now c.len.ensures c.in_ok-line_index.ensures.ok c.index.ensures in
    let same = c.len-2.ensures in
    let sized : c.size.result ≡ size_of_lines (plain c.args.lines.now.items) = c.size.ensures.exact ∙ ap (λ ls. size_of_lines (plain ls)) c.deref.ensures.value in
    let found = c.in_ok-line_index.ensures.ok in
    let line_index : c.in_ok-line_index.line_index ≡ c.args.at - 1 = omega (arith, found.1) in (
      replaced _ _ _ _ _ r (let small = c.if-after-gt-ROOM.false in omega arith),
      plain-set _ _ _ ∙ ap (λ i. set (plain c.args.lines.now.items) i c.replace.new.dest.items) line_index
          ∙ ap (λ line. set (plain c.args.lines.now.items) (c.args.at - 1) line) (ap (λ v. v.items) c.replace.ensures.after ∙ c.in-Ok.ensures.items),
    )
