-- The list of the files is shown line by line.
use Rattle.std.proofs.Common.{◌≡◌, ◌<◌, ◌+◌, ◌∙◌, sym, subst, arith, rules}
use Rattle.std.proofs.lemmas.Result.{err_from_is_err_and}
use Rattle.edi_session.specs.Shell.{shown_by, state_in}
use Rattle.edi_session.specs.Texts.{catalogue_text}
use Rattle.edi_shell_io.specs.calls.Standing.{At, Leads, StandsIn}
use Rattle.edi_shell.proofs.commands.SlotLines.{behind_all, behind_slot, first_lines, part_on}
use Rattle.edi_shell.proofs.commands.Standing.{stands_later}
use Rattle.edi_shell.proofs.commands.catalogue.list_files.Goals as goal

pub returns-in_err-list_slot-clause-exact : goal.returns-in_err-list_slot-clause-exact
returns-in_err-list_slot-clause-exact g c = λ s a t.
    let law = g.met.C.ShellCalls in
    let before = law.lasts_told _ _ c.list_slot.ensures.lasts t in
    let first = law.lasts_told _ _ c.loop-i.invariant.lasts before in
    let low : c.loop-i.i < 256 = search rules in
    let wide = c.free-free.ensures.slots s a first in
    let p = err_from_is_err_and c.from_residual.result c.from_residual.ensures.1 in
    rw p.1
    (stands_later g.C.ShellCalls.stands (shown_by (first_lines (c.loop-i.i + 1) (state_in s).slots) s) (shown_by (catalogue_text (state_in s)) s)
    c.list_slot.new.calls (part_on (c.loop-i.i + 1) s)
    (subst (λ u. StandsIn g.C.ShellCalls.stands u c.list_slot.new.calls) (behind_slot c.loop-i.i s (omega (arith, low, wide)))
    (c.in_err-list_slot.ensures.exact (shown_by (first_lines c.loop-i.i (state_in s).slots) s) (c.loop-i.invariant.exact s a before) t)))

pub loop-i-preserved : goal.loop-i-preserved
loop-i-preserved g c =
    let law = g.met.C.ShellCalls in
    record {
      ready = c.in_ok-list_slot.ensures.left;
      lasts = law.lasts_on _ _ _ c.loop-i.invariant.lasts c.list_slot.ensures.lasts;
      exact = λ s a t.
          let before = law.lasts_told _ _ c.list_slot.ensures.lasts t in
          let low : c.loop-i.i < 256 = search rules in
          let wide = c.free-free.ensures.slots s a (law.lasts_told _ _ c.loop-i.invariant.lasts before) in
          subst (λ u. At g.C.ShellCalls.at c.list_slot.new.calls u) (behind_slot c.loop-i.i s (omega (arith, low, wide)))
          (c.in_ok-list_slot.ensures.exact (shown_by (first_lines c.loop-i.i (state_in s).slots) s) (c.loop-i.invariant.exact s a before) t);
    }

pub returns-clause-exact : goal.returns-clause-exact
returns-clause-exact g c = λ s a t.
    let law = g.met.C.ShellCalls in
    let before = law.lasts_told _ _ c.say.ensures.lasts t in
    let first = law.lasts_told _ _ c.loop-i.invariant.lasts before in
    let end : c.loop-i.i ≡ 256 = search rules in
    subst (λ u. Leads g.C.ShellCalls.at g.C.ShellCalls.stands c.say.result u c.say.new.calls)
    (behind_all c.loop-i.i c.free-free.result c.free_line.result.items s (c.free-free.ensures.slots s a first ∙ sym end) (c.free-free.ensures.exact s a first)
    c.free_line.ensures.exact)
    (c.say.ensures.exact (shown_by (first_lines c.loop-i.i (state_in s).slots) s) (c.loop-i.invariant.exact s a before) t)
