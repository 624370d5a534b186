use Rattle.std.proofs.Common.{refl, inr, ◌∙◌, subst}
use Rattle.std.specs.Prelude.{Err, codes, length}
use Rattle.edi_calls.specs.State.{free}
use Rattle.edi_catalog.specs.Refusing.{no_room}
use Rattle.edi_catalog.specs.SlotsStored.{slots_stored}
use Rattle.edi_calls.specs.declared.kinds.FileKind.TheVariants as file_kind
use Rattle.edi_catalog.specs.declared.ends.CatEnd.{CatEnd}
use Rattle.edi_session.specs.Files.{why_line}
use Rattle.edi_session.specs.Session.{Writes}
use Rattle.edi_session.specs.Shell.{state_in}
use Rattle.edi_shell_io.specs.calls.Standing.{Answers}
use Rattle.edi_shell.proofs.edit.Rows.{not_stored, said, store_broke, stored}
use Rattle.edi_shell.proofs.edit.writing.write_text.Goals as goal

pub returns-in_default-clause-exact : goal.returns-in_default-clause-exact
returns-in_default-clause-exact g c = λ s a t.
    said g.C.ShellCalls.ready g.C.ShellCalls.failed g.C.ShellCalls.at g.C.ShellCalls.stands (Writes c.args.f.now c.args.text.now s) c.args.f.now
    c.args.text.now (codes "no memory") (codes "no memory\n") s c.say_on.result c.say_on.new.calls (inr refl) refl c.say_on.ensures.left
    (c.say_on.ensures.exact s a t)

pub returns-in-Ok-store-clause-exact : goal.returns-in-Ok-store-clause-exact
returns-in-Ok-store-clause-exact g c = λ s a t.
    stored g.C.ShellCalls.at g.C.ShellCalls.stands c.args.f.now c.deref.result.now c.args.text.now s c.store.new.self
    (c.deref.ensures.value ∙ c.in-Ok.ensures.exact) (c.in-Ok-store.ensures.exact s a t)

pub returns-in-Fault-clause-exact : goal.returns-in-Fault-clause-exact
returns-in-Fault-clause-exact g c = λ s a t.
    store_broke g.C.ShellCalls.at g.C.ShellCalls.stands c.args.f.now c.deref.result.now c.args.text.now s c.store.new.self
    (c.deref.ensures.value ∙ c.in-Ok.ensures.exact)
    (subst (λ (w : CatEnd). Answers g.C.ShellCalls.at g.C.ShellCalls.stands (Err w)
    (no_room c.args.f.now (length c.deref.result.now) (free (state_in s)) (state_in s).slots)
    (slots_stored c.args.f.now file_kind.Text c.deref.result.now (state_in s).slots) s c.store.new.self) c.in-Fault.is (c.in-Err.ensures.exact s a t))

pub returns : goal.returns
returns g c = record {
  exact = λ s a t.
      let before = g.met.C.ShellCalls.lasts_told _ _ c.say_on-in_default-why.ensures.lasts t in
      let refused = not_stored g.C.ShellCalls.at g.C.ShellCalls.stands c.args.f.now c.deref.result.now c.args.text.now s c.in-Err.why c.store.new.self
      (c.deref.ensures.value ∙ c.in-Ok.ensures.exact) c.in_default-why.not-Fault (c.in-Err.ensures.exact s a before) in
      said g.C.ShellCalls.ready g.C.ShellCalls.failed g.C.ShellCalls.at g.C.ShellCalls.stands (Writes c.args.f.now c.args.text.now s) c.args.f.now
      c.args.text.now (why_line c.args.f.now c.args.f.now c.in-Err.why) c.as_slice.result.now s c.say_on-in_default-why.result
      c.say_on-in_default-why.new.calls refused.0 (c.as_slice.ensures.value ∙ c.change_refusal.ensures.exact) c.say_on-in_default-why.ensures.left
      (c.say_on-in_default-why.ensures.exact s refused.1 t);
  left = c.say_on-in_default-why.ensures.left;
  lasts = g.met.C.ShellCalls.lasts_on _ _ _ c.store.ensures.lasts c.say_on-in_default-why.ensures.lasts;
}
