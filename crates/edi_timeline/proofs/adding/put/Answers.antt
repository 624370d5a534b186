use Rattle.std.proofs.Common.{◌≡◌, ℕ, ◌+◌, ◌∙◌, ◌++◌, ◌∷◌, [], List, Bool, true, false, sym, ap, subst, refl, arith, length, length-append, nat_le, option_map}
use Rattle.std.proofs.lemmas.Bool.{leb-true, false_from_ne_true}
use Rattle.edi_timeline.specs.declared.rows.Row.{Row}
use Rattle.edi_timeline.specs.Stints.{at}
use Rattle.edi_timeline.specs.Told.{AreRows, meant, numbered, place_of, start_in}
use Rattle.edi_timeline.specs.Timelines.{is_failed}
use Rattle.edi_timeline.specs.Entered.{row_for}
use Rattle.edi_timeline.proofs.Growing.{grows}
use Rattle.edi_timeline.proofs.Keeping.{rows_still, stood_still}
use Rattle.edi_timeline.proofs.adding.put.Goals as goal

pub returns-clause-exact : goal.returns-clause-exact
returns-clause-exact c =
    let count : ℕ = c.args.kept.now.count in
    let room : nat_le 100000 count ≡ false =
    false_from_ne_true (nat_le 100000 count) (λ h. omega (arith, c.requires.room, leb-true 100000 count h)) in
    grows c.args.kept.now.ending c.args.kept.now.rows.items c.requires.kept.rows c.requires.kept.stood c.args.seat c.args.came c.args.used c.args.said
    c.requires.seat count (count + 1) (option_map meant c.args.kept.now.ended) c.push_reserved.new.self.items c.row_for-row.result
    c.ending_with-kept.result c.ended_with-kept.result c.requires.going room
    (c.row_for-row.ensures.exact ∙ ap (λ rs. row_for rs c.args.seat c.args.came c.args.used c.args.said) c.deref.ensures.value)
    c.push_reserved.ensures.items c.ending_with-kept.ensures.exact c.ended_with-kept.ensures.exact refl

pub returns-clause-kept : goal.returns-clause-kept
returns-clause-kept c =
    let rows : List Row = c.args.kept.now.rows.items in
    let new : Row = row_for rows c.args.seat c.args.came c.args.used c.args.said in
    let all : c.push_reserved.new.self.items ≡ rows ++ new ∷ [] =
    c.push_reserved.ensures.items
    ∙ ap (λ (x : Row). rows ++ x ∷ [])
    (c.row_for-row.ensures.exact ∙ ap (λ rs. row_for rs c.args.seat c.args.came c.args.used c.args.said) c.deref.ensures.value) in
    let longer = ap length all in
    let one = length-append rows (new ∷ []) in
    let counted : length rows ≡ c.args.kept.now.count = c.requires.kept.counted c.requires.room in
    record {
      rows =
          subst AreRows (sym all)
          (rows_still c.args.kept.now.ending rows c.requires.kept.rows c.requires.kept.stood c.args.seat c.args.used c.args.said c.requires.said c.args.came
          c.requires.seat c.requires.came);
      few = omega (arith, longer, one, counted, c.requires.room);
      room = omega (arith, c.requires.kept.room, c.push_reserved.ensures.capacity);
      counted = λ l. omega (arith, longer, one, counted);
      stood =
          subst (λ (rs : List Row). (n : ℕ) → is_failed (numbered rs n).kind ≡ true → start_in rs (numbered rs n) ≡ at (place_of (numbered rs n))) (sym all)
          (stood_still c.args.kept.now.ending rows c.requires.kept.rows c.requires.kept.stood c.args.seat c.args.used c.args.said c.requires.said c.args.came
          c.requires.seat c.requires.came);
    }
