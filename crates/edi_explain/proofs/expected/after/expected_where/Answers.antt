use Rattle.std.proofs.Common.{◌≤◌, ℕ, List, Vec, Global, IfOk, false, option_map, slice_index_or, subst, sym}
use Rattle.edi_lex.specs.declared.symbol.Mark.{Mark}
use Rattle.edi_explain.specs.expected.Advances.{Awaits, Reads}
use Rattle.edi_explain.specs.expected.Reaches.{May}
use Rattle.edi_explain.proofs.expected.Reaching.{nothing_in}
use Rattle.edi_explain.proofs.expected.after.expected_where.Goals as goal

pub returns-in-Some : goal.returns-in-Some
returns-in-Some c = record {
  exact = subst (λ found. IfOk c.expected_for.result (λ e. (before : List Mark) → Reads before (option_map (λ (numbers : Vec ℕ Global). numbers.items) found)
      → (kind : ℕ) → kind ≤ 50 → May before kind (slice_index_or e.kinds kind false))) (sym c.in-Some.is)
      (subst (λ l. IfOk c.expected_for.result (λ e. (before : List Mark) → Awaits before l → (kind : ℕ) → kind ≤ 50
      → May before kind (slice_index_or e.kinds kind false))) c.as_slice.ensures.value c.expected_for.ensures.exact);
}

pub returns-in-None : goal.returns-in-None
returns-in-None c = record {
  exact = λ before h kind known. nothing_in before 51 kind (subst (λ found. Reads before (option_map (λ (numbers : Vec ℕ Global). numbers.items) found)) c.in-None.is h);
}
