use Rattle.std.proofs.Common.{◌≡◌, ℕ, ◌==◌, false, true, ◌++◌, ◌∙◌, sym, subst, List, length, ap}
use Rattle.std.specs.Prelude.{OnOk}
use Rattle.edi_timeline.proofs.Naming.{named}
use Rattle.edi_timeline.proofs.text.put_name.Goals as goal

pub returns : goal.returns
returns c = record {
  exact =
      subst (λ name. OnOk c.put_branches.result (c.put_branches.new.out.items ≡ c.args.out.now.items ++ name)) (sym (named c.args.path.now (λ e.
      let empty : false ≡ true = sym c.if-is_empty.false ∙ c.is_empty.ensures ∙ ap (λ (l : List (ℕ × ℕ)). length l == 0) e in absurd (cc))))
      c.put_branches.ensures.exact;
}
