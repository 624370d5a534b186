use Rattle.std.proofs.Common.{◌++◌, ◌∙◌, List, ℕ, ap, append_assoc}
use Rattle.std.specs.Prelude.{codes}
use Rattle.edi_runs.specs.explore.Lines.{below_text, choices_text}
use Rattle.edi_runs.proofs.explore.lines.put_cut.Goals as goal

pub returns : goal.returns
returns c =
    let why : List ℕ = codes "perhaps not all: a process goes on for more turns than --turns allows, with " in
    let choices : List ℕ = choices_text c.args.choices.now in
    let below : List ℕ = below_text c.args.moves in
    record {
      exact =
          c.in_ok-put_followed.ensures.exact
          ∙ ap (λ (xs : List ℕ). xs ++ below)
          (c.in_ok-put_choices.ensures.exact ∙ ap (λ (xs : List ℕ). xs ++ choices) c.in_ok-extend_from_slice.ensures.items)
          ∙ append_assoc (c.args.out.now.items ++ why) choices below ∙ append_assoc c.args.out.now.items why (choices ++ below);
    }
