-- Piece after piece, and the names are those of the variable and its block.
use Rattle.std.proofs.Common.{ap, append_assoc, slice_index_or, ◌++◌, ◌∙◌, List, [], map, ℕ}
use Rattle.std.specs.Prelude.{codes}
use Rattle.edi_sights.specs.named.Naming.{named_at}
use Rattle.edi_sights.specs.named.Views.{named_of}
use Rattle.edi_runs.specs.explore.Lines.{name_line}
use Rattle.edi_runs.proofs.explore.naming.put_name.Goals as goal

pub returns : goal.returns
returns c =
    let out : List ℕ = c.args.out.now.items in
    let name : List ℕ = c.name_at-name.result.now in
    let block : List ℕ = c.block_name-block.result.now in
    let middle : List ℕ = codes " of " in
    let rest : List ℕ = codes " may be used outside critical phases\n" in
    let blocks = c.args.names.now.blocks.items in
    let home : ℕ = c.args.one.home in
    let number : ℕ = c.args.one.number in
    record {
      exact =
          c.in_ok-extend_from_slice-4.ensures.items
          ∙ ap (λ (xs : List ℕ). xs ++ rest)
          (c.in_ok-extend_from_slice-3.ensures.items
          ∙ ap (λ (xs : List ℕ). xs ++ block)
          (c.in_ok-extend_from_slice-2.ensures.items ∙ ap (λ (xs : List ℕ). xs ++ middle) c.in_ok-extend_from_slice.ensures.items))
          ∙ append_assoc ((out ++ name) ++ middle) block rest ∙ append_assoc (out ++ name) middle (block ++ rest)
          ∙ append_assoc out name (middle ++ (block ++ rest))
          ∙ ap (λ (n : List ℕ). out ++ name_line (record { name = n; block = block }))
          (c.name_at-name.ensures.exact ∙ ap (λ bs. slice_index_or (named_at (map named_of bs) home).variables number []) c.deref.ensures.value)
          ∙ ap (λ (b : List ℕ). out ++ name_line (record { name = slice_index_or (named_at (map named_of blocks) home).variables number []; block = b }))
          (c.block_name-block.ensures.exact ∙ ap (λ bs. (named_at (map named_of bs) home).name) c.deref-2.ensures.value);
    }
