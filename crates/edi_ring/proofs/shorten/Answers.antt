use Rattle.std.proofs.Common.{◌≡◌, ℕ, ◌+◌, ◌-◌, ◌<◌, ◌∙◌, sym, ap, refl, arith, List, length}
use Rattle.std.proofs.lemmas.Slice.{put_mid-paste}
use Rattle.edi_ring.specs.declared.Row.{Row}
use Rattle.edi_ring.specs.Links.{IsShort, count_from, moved, part_of}
use Rattle.edi_ring.proofs.Arrays.{length-moved, length-part}
use Rattle.edi_ring.proofs.shorten.Goals as goal

returns_nodes : (r : Row) (i : ℕ) → IsShort 256 r → i < r.len → count_from r i ≡ length (moved (part_of r i))
returns_nodes r i s lt =
    let n : length (part_of r i) ≡ count_from r i = length-part 256 r i s lt in
    sym (length-moved (part_of r i) (omega (arith, n, lt)) ∙ n)

pub returns : goal.returns
returns c =
    ap (λ (nodes : List ℕ). record { nodes = nodes; start = c.args.row.now.start; len = c.args.row.now.len - 1 })
    (put_mid-paste (c.args.row.now.start + c.args.i) (count_from c.args.row.now c.args.i) c.args.row.now.nodes _
    (moved (part_of c.args.row.now c.args.i)) (count_from c.args.row.now c.args.i) c.copy_within.ensures.after refl
    (returns_nodes c.args.row.now c.args.i c.requires.short c.requires.there))
