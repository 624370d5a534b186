use Rattle.std.proofs.Common.{◌-◌, ◌∙◌, drop, take, ap, refl, rules}
use Rattle.edi_calls.specs.State.{is_title, blocks_of}
use Rattle.edi_catalog.proofs.NewlyLaid.{laid_fits}
use Rattle.edi_catalog.proofs.laying.lay_file.Goals as goal

pub returns : goal.returns
returns c =
    let fits = laid_fits c.args.count c.args.files.now c.copied.result c.args.kind c.args.size _ _ c.second_of.result c.free_blocks-blocks.result.items
    c.split_at.result.0.now c.pages_from.result.items c.free_blocks-blocks.ensures.free
    (c.free_blocks-blocks.ensures.many ∙ c.blocks_of-wanted.ensures.exact)
    (ap (λ n. n - c.pages_of.result) c.blocks_of-wanted.ensures.exact ∙ ap (λ n. blocks_of c.args.size - n) c.pages_of.ensures.exact)
    (c.split_at.ensures.front ∙ ap (take (c.blocks_of-wanted.result - c.pages_of.result)) c.as_slice.ensures.value)
    (c.pages_from.ensures ∙ c.split_at.ensures.back ∙ ap (drop (c.blocks_of-wanted.result - c.pages_of.result)) c.as_slice.ensures.value)
    (ap is_title c.copied.ensures.same ∙ c.copied.ensures.title) c.requires.most refl c.second_of.ensures in
    record { entry = search rules; kept = fits.kept; free = fits.free }
