use Rattle.std.proofs.Common.{◌≡◌, ◌-◌, ◌∷◌, [], ◌++◌, ℕ, List, length, replicate, ap, ◌∙◌}
use Rattle.std.proofs.lemmas.List.{append_assoc, drop-replicate}
use Rattle.edi_codefile.proofs.Bytes.{appended}
use Rattle.edi_codefile.proofs.packing.put_calls.Goals as goal

pub returns : goal.returns
returns c =
    let calls : List ℕ = c.args.calls.now in
    let old : List ℕ = c.args.bytes.now.items in
    let zeros : c.split_at.result.1.now ≡ replicate (19 - length calls) 0 = c.split_at.ensures.back ∙ drop-replicate (length calls) 19 0 in
    appended c.extend_from_slice-2.result c.extend_from_slice-2.new.self.items (c.extend_from_slice.new.self.items ++ c.split_at.result.1.now)
    c.extend_from_slice.new.self.items (old ++ length calls ∷ (calls ++ replicate (19 - length calls) 0)) c.extend_from_slice-2.ensures.items
    (ap (λ x. x ++ c.split_at.result.1.now) (c.in_ok-extend_from_slice.ensures.items ∙ ap (λ x. x ++ calls) c.in_ok-push.ensures.items)
    ∙ ap (λ x. old ++ length calls ∷ [] ++ calls ++ x) zeros
    ∙ append_assoc (old ++ length calls ∷ []) calls (replicate (19 - length calls) 0)
    ∙ append_assoc old (length calls ∷ []) (calls ++ replicate (19 - length calls) 0))
