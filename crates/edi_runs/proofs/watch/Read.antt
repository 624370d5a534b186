-- From what is known of the symbols of a text to the text.
use Rattle.std.proofs.Common.{◌≡◌, ℕ, List, Result, Ok, sym, subst}
use Rattle.edi_lex.specs.declared.symbol.Mark.{Mark}
use Rattle.edi_lex.specs.declared.fault.LexFault.{LexFault}
use Rattle.edi_lex.specs.Symbols.{symbols_of}
use Rattle.edi_tree.specs.Whole.{program_of}
use Rattle.edi_texts.specs.declared.refusal.Refusal.{Refusal}
use Rattle.edi_texts.specs.Answers.{GivesBy, TextAnswers}
use Rattle.edi_texts.proofs.Once.{exactly}
use Rattle.edi_texts.proofs.Joined.{by_symbols}
use Rattle.edi_runs.specs.declared.watch.source.Watchable.{Watchable}
use Rattle.edi_runs.specs.watch.Logs.{AreOfTree}
use Rattle.edi_runs.specs.watch.Watchable.{IsWatchable, IsWatchableFrom}
use Rattle.edi_runs.proofs.watch.Meant.{unit_is}

watchable_is : (text : List ℕ) (known : List Mark × ℕ) (w : Watchable) → symbols_of text ≡ Ok known → IsWatchableFrom known w → IsWatchable text w
watchable_is text known w same f =
    let P : Result (List Mark × ℕ) LexFault → Type 0 = λ k. AreOfTree k (program_of w.tree) in
    record { tree_is = subst P (sym same) f.tree_is; whole = f.whole }

pub watchable_answers : (text : List ℕ) (known : List Mark × ℕ) (result : Result Watchable Refusal) → symbols_of text ≡ Ok known
    → GivesBy (IsWatchableFrom known) (Ok known) result → TextAnswers (IsWatchable text) text result
watchable_answers text known result same g =
    exactly (IsWatchable text) text result
    (λ w f. (f.whole.unit, unit_is text (program_of w.tree) f.whole.unit f.whole.resolved f.tree_is))
    (by_symbols (IsWatchableFrom known) (IsWatchable text) (Ok known) (symbols_of text) result same (λ w f. watchable_is text known w same f) g)
