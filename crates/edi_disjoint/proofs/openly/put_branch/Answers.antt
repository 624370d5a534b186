use Rattle.std.proofs.Common.{rules, ◌≡◌, ◌++◌, List, map, sym, subst, ap, ◌∙◌}
use Rattle.std.proofs.lemmas.List.{map-append}
use Rattle.edi_disjoint.specs.Open.{OpenUse}
use Rattle.edi_disjoint.specs.Openly.{Adds, use_of}
use Rattle.edi_disjoint.proofs.Using.{appended_adds}
use Rattle.edi_disjoint.proofs.openly.put_branch.Goals as goal

pub returns : goal.returns
returns c =
    let old : List OpenUse = map use_of c.args.list.now.items in
    let own : List OpenUse = map use_of c.in_ok-own.own.items in
    let more : c.extend_from_slice.new.self.items ≡ c.args.list.now.items ++ c.in_ok-own.own.items = search rules in
    let put : map use_of c.extend_from_slice.new.self.items ≡ old ++ own = ap (map use_of) more ∙ map-append use_of c.args.list.now.items c.in_ok-own.own.items in
    record {
      exact = λ unit ok w t without is low.
          subst (Adds unit c.args.block old) (sym put) (appended_adds unit c.args.block own (c.in_ok-own.ensures.exact unit ok w t without is) old low);
    }
