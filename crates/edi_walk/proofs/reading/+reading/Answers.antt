use Rattle.std.proofs.Common.{◌∙◌, arith, ap, refl, sym, subst, rules, w16, Ok, Err}
use Rattle.std.specs.Prelude.{map}
use Rattle.std.proofs.lemmas.Int.{to_z-of_z}
use Rattle.std.proofs.lemmas.List.{drop_all}
use Rattle.edi_unit.proofs.Limits.{drop_item}
use Rattle.edi_unit.specs.Tree as tree
use Rattle.edi_unit.specs.Values.{decides, ordinal}
use Rattle.edi_unit.specs.View as view
use Rattle.edi_unit.specs.View.{expression_of, link_of, links, part_of}
use Rattle.edi_walk.specs.Data.{designated_of}
use Rattle.edi_walk.specs.Reads.{ReadsLink, ReadsParts, ReadsValue}
use Rattle.edi_walk.proofs.ReadParts.{applied, chain_begun, link_decided, link_done, link_operated, link_stops, link_unread, links_over}
use Rattle.edi_walk.proofs.ReadParts.{part_done, part_stops, parts_done, place_so, place_stops}
use Rattle.edi_walk.proofs.reading.+reading.Goals as goal

-- ---- the operators of a chain

pub read_links-loop-link-init : goal.read_links-loop-link-init
read_links-loop-link-init t c =
    chain_begun c.args.here.now (expression_of c.args.e.now) c.items-link-items.result.now c.args.left.now c.requires.read

pub read_links-loop-link-preserved : goal.read_links-loop-link-preserved
read_links-loop-link-preserved t c =
    let items = c.items-link-items.result.now in
    let i = c.loop-link.link-index in
    link_done c.args.here.now (expression_of c.args.e.now) items c.loop-link.left _ i c.link-item.result
    (drop_item items i c.link-item.result c.loop-link-test.true c.link-item.is) c.loop-link.invariant
    (subst (λ n. ReadsLink c.loop-link.left (link_of c.link-item.result) (Ok n) c.args.here.now) (sym (to_z-of_z w16 c.in-Ok.n (search rules)))
    (subst (λ n. ReadsLink n (link_of c.link-item.result) (Ok c.in-Ok.n) c.args.here.now) (to_z-of_z w16 c.loop-link.left (search rules)) c.in-Ok.ensures.exact))

pub read_links-returns-in-Err : goal.read_links-returns-in-Err
read_links-returns-in-Err t c =
    let items = c.items-link-items.result.now in
    let i = c.loop-link.link-index in
    record {
      exact =
          subst (λ xs. ReadsValue (tree.chain (expression_of c.args.e.now) (links (map link_of xs))) (Err c.in-Err.hurdle) c.args.here.now)
          c.items-link-items.ensures.exact
          (link_stops c.args.here.now (expression_of c.args.e.now) items c.loop-link.left i c.link-item.result c.in-Err.hurdle
          (drop_item items i c.link-item.result c.loop-link-test.true c.link-item.is) c.loop-link.invariant
          (subst (λ n. ReadsLink n (link_of c.link-item.result) (Err c.in-Err.hurdle) c.args.here.now) (to_z-of_z w16 c.loop-link.left (search rules))
          c.in-Err.ensures.exact));
    }

pub read_links-returns : goal.read_links-returns
read_links-returns t c =
    let items = c.items-link-items.result.now in
    record {
      exact =
          links_over c.args.here.now (expression_of c.args.e.now) items c.loop-link.left _ c.loop-link.link-index _ c.items-link-items.ensures.exact
          (drop_all c.loop-link.link-index items (omega (arith, c.loop-link-test.false))) (to_z-of_z w16 c.loop-link.left (search rules)) c.loop-link.invariant;
    }

-- ---- one operator

pub read_link-returns-then-decides_ordinal : goal.read_link-returns-then-decides_ordinal
read_link-returns-then-decides_ordinal t c =
    let left = to_z-of_z w16 c.args.left (search rules) in
    record {
      exact =
          link_decided c.args.here.now c.args.left _ c.args.link.now left
          (ap (λ n. decides c.args.link.now.operator (ordinal n)) (sym left) ∙ sym c.decides_ordinal.ensures.exact ∙ c.if-decides_ordinal.true);
    }

pub read_link-returns-in-Ok : goal.read_link-returns-in-Ok
read_link-returns-in-Ok t c =
    let left = to_z-of_z w16 c.args.left (search rules) in
    record {
      exact =
          link_operated c.args.here.now c.args.left c.in-Ok.right c.args.link.now c.apply_ordinals.result c.ranged.result
          (ap (λ n. decides c.args.link.now.operator (ordinal n)) (sym left) ∙ sym c.decides_ordinal.ensures.exact ∙ c.if-decides_ordinal.false)
          c.in-Ok.ensures.exact
          (applied c.args.link.now.operator c.args.left c.in-Ok.right _ _ c.apply_ordinals.result c.apply_ordinals.ensures.exact left
          (to_z-of_z w16 c.in-Ok.right (search rules)))
          c.ranged.ensures.exact c.ranged.ensures.err;
    }

pub read_link-returns-in-Err : goal.read_link-returns-in-Err
read_link-returns-in-Err t c =
    let left = to_z-of_z w16 c.args.left (search rules) in
    record {
      exact =
          link_unread c.args.here.now c.args.left c.args.link.now c.in-Err.hurdle
          (ap (λ n. decides c.args.link.now.operator (ordinal n)) (sym left) ∙ sym c.decides_ordinal.ensures.exact ∙ c.if-decides_ordinal.false)
          c.in-Err.ensures.exact;
    }

-- ---- places and their parts

pub read_place-returns-in-Ok-read_parts : goal.read_place-returns-in-Ok-read_parts
read_place-returns-in-Ok-read_parts t c = record {
  exact =
      place_so c.args.here.now c.args.place.now (designated_of c.in-Ok.target) c.in-Ok.ensures.exact c.read_parts.new.target
      c.in-Ok-read_parts.ensures.exact;
}

pub read_place-returns-in-Err : goal.read_place-returns-in-Err
read_place-returns-in-Err t c = record {
  exact =
      place_stops c.args.here.now c.args.place.now (designated_of c.in-Ok.target) c.in-Ok.ensures.exact (designated_of c.read_parts.new.target) c.in-Err.hurdle
      c.in-Err.ensures.exact;
}

pub read_parts-loop-part-init : goal.read_parts-loop-part-init
read_parts-loop-part-init t c deeper system = refl

pub read_parts-returns-in-Err : goal.read_parts-returns-in-Err
read_parts-returns-in-Err t c =
    let items = c.items-part-items.result.now in
    let i = c.loop-part.part-index in
    record {
      exact =
          subst
          (λ xs. ReadsParts (designated_of c.args.target.now) (designated_of c.read_part.new.target) (view.parts (map part_of xs)) (Err c.in-Err.hurdle)
          c.args.here.now) c.items-part-items.ensures.exact
          (part_stops c.args.here.now (designated_of c.args.target.now) items (designated_of c.loop-part.target) (designated_of c.read_part.new.target)
          (designated_of c.read_part.new.target) i c.part-item.result c.in-Err.hurdle (drop_item items i c.part-item.result c.loop-part-test.true c.part-item.is)
          c.loop-part.invariant c.in-Err.ensures.exact);
    }

pub read_parts-loop-part-preserved : goal.read_parts-loop-part-preserved
read_parts-loop-part-preserved t c =
    let items = c.items-part-items.result.now in
    let i = c.loop-part.part-index in
    part_done c.args.here.now (designated_of c.args.target.now) items (designated_of c.loop-part.target) (designated_of c.read_part.new.target) i
    c.part-item.result (drop_item items i c.part-item.result c.loop-part-test.true c.part-item.is) c.loop-part.invariant c.in-Ok.ensures.exact

pub read_parts-returns : goal.read_parts-returns
read_parts-returns t c =
    let items = c.items-part-items.result.now in
    record {
      exact =
          subst
          (λ xs. ReadsParts (designated_of c.args.target.now) (designated_of c.loop-part.target) (view.parts (map part_of xs)) (Ok tt) c.args.here.now)
          c.items-part-items.ensures.exact
          (parts_done c.args.here.now (designated_of c.args.target.now) items (designated_of c.loop-part.target) c.loop-part.part-index
          (drop_all c.loop-part.part-index items (omega (arith, c.loop-part-test.false))) c.loop-part.invariant);
    }
