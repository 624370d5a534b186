use Rattle.std.proofs.Common.{◌≡◌, ◌∷◌, ◌++◌, [], ap, subst, ◌∙◌, length, length-append, map, arith}
use Rattle.std.proofs.lemmas.List.{length-map}
use Rattle.std.specs.Prelude.{if◌then◌else◌, not}
use Rattle.edi_tree.specs.Whole.{program_of}
use Rattle.edi_debug.specs.Points.{IsPoint, watched}
use Rattle.edi_debug.proofs.Files.{stands_bad, stands_many, stands_more, told_bad, told_more}
use Rattle.edi_debug.proofs.reading.points.Goals as goal

pub returns-then-len-ge-MOST_POINTS : goal.returns-then-len-ge-MOST_POINTS
returns-then-len-ge-MOST_POINTS c =
    let tree = program_of c.args.tree.now in
    let list = c.loop-rest.items.items in
    record {
      exact =
          told_bad tree list c.args.bytes.now c.len.result (omega (arith, c.len.ensures))
          (stands_many tree (map watched list) c.loop-rest.rest.now c.in-Some.line.now c.in-Some.after.now c.args.bytes.now c.loop-rest.invariant.stands
          c.in-Some.ensures.cut (omega (arith, length-map list watched, c.len-in-loop-rest.ensures, c.if-len-ge-MOST_POINTS.true)));
    }

pub returns-in_default-found : goal.returns-in_default-found
returns-in_default-found c =
    let tree = program_of c.args.tree.now in
    let list = c.loop-rest.items.items in
    record {
      exact =
          told_bad tree list c.args.bytes.now c.len.result (omega (arith, c.len.ensures))
          (stands_bad tree (map watched list) c.loop-rest.rest.now c.in-Some.line.now c.in-Some.after.now c.args.bytes.now c.loop-rest.invariant.stands
          c.in-Some.ensures.cut (omega (arith, length-map list watched, c.len-in-loop-rest.ensures, c.if-len-ge-MOST_POINTS.false))
          (subst (IsPoint tree c.in-Some.line.now) c.in_default-found.is c.in-Ok.ensures.exact));
    }

pub loop-rest-preserved : goal.loop-rest-preserved
loop-rest-preserved c =
    let tree = program_of c.args.tree.now in
    let list = c.loop-rest.items.items in
    let point = c.in-Some-found.point in
    let grown : c.push.new.self.items ≡ list ++ point ∷ [] =
    c.push.ensures.items ∙ ap (λ b. if b then list ++ point ∷ [] else list) (c.is_err.ensures.negation ∙ ap not c.if-is_err.false) in
    record {
      stands =
          told_more tree list c.push.new.self.items point c.in-Some.after.now c.args.bytes.now grown
          (stands_more tree (map watched list) c.loop-rest.rest.now c.in-Some.line.now c.in-Some.after.now c.args.bytes.now c.loop-rest.invariant.stands
          c.in-Some.ensures.cut (watched point) (omega (arith, length-map list watched, c.len-in-loop-rest.ensures, c.if-len-ge-MOST_POINTS.false))
          (subst (IsPoint tree c.in-Some.line.now) c.in-Some-found.is c.in-Ok.ensures.exact));
      bound = omega (arith, ap length grown, length-append list (point ∷ []), c.len-in-loop-rest.ensures, c.if-len-ge-MOST_POINTS.false);
    }
