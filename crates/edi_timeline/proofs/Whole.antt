-- Text and picture ask for no more of what was shown than its first seven characters.
use Rattle.std.proofs.Common.{◌≡◌, ◌≤◌, ℕ, zero, suc, Bool, true, false, if◌then◌else◌, List, [], ◌∷◌, ◌++◌, refl, ap, sym, ◌∙◌, arith, length, map, length-take}
use Rattle.std.proofs.lemmas.Bool.{ne_eqb, lt-ltb}
use Rattle.std.specs.Prelude.{codes, take, nat_lt, ◌<◌, ◌+◌, ◌-◌, Option}
use Rattle.std.proofs.lemmas.List.{length-map, take-map}
use Rattle.edi_calls.specs.Names.{Name, same}
use Rattle.edi_calls.specs.Ready.{parent_of}
use Rattle.edi_calls.specs.Outcome.{Ending}
use Rattle.edi_timeline.specs.Stints.{Stint, arrives, ending_of}
use Rattle.edi_timeline.specs.Text.{head_text, start_text, end_text, characters_text, shown_text, stint_text, lines_text, most_lines, cut_text, text_of, kept}
use Rattle.edi_timeline.specs.Picture.{lanes_behind, with_lane, lanes_of, lane_of, line_back, line_to, line_of, lines_on, box, boxes, shown_above, drawn, body, headed, opened, width}
use Rattle.edi_timeline.specs.Picture.{height, most_boxes, picture_of, over_column, moved, column_x, lane_y, rectangle, inside, escaped_text, lane_names, key}
use Rattle.edi_timeline.specs.Timelines.{told_of}
use Rattle.edi_timeline.proofs.Counting.{taken_whole}

-- of more than six characters six are told
long : (s : List ℕ) → 6 < length s → shown_text s ≡ codes " shown \"" ++ (characters_text (take 6 s) ++ codes "\"..")
long s l =
    ap (λ b. if b then [] else if nat_lt 6 (length s) then codes " shown \"" ++ (characters_text (take 6 s) ++ codes "\"..")
    else codes " shown \"" ++ (characters_text s ++ codes "\"")) (ne_eqb (length s) 0 (λ z. omega (arith, z, l)))
    ∙ ap (λ b. if b then codes " shown \"" ++ (characters_text (take 6 s) ++ codes "\"..") else codes " shown \"" ++ (characters_text s ++ codes "\""))
    (lt-ltb 6 (length s) l)

seven : (s : List ℕ) → shown_text (take 7 s) ≡ shown_text s
seven [] = refl
seven (a ∷ []) = refl
seven (a ∷ b ∷ []) = refl
seven (a ∷ b ∷ c ∷ []) = refl
seven (a ∷ b ∷ c ∷ d ∷ []) = refl
seven (a ∷ b ∷ c ∷ d ∷ e ∷ []) = refl
seven (a ∷ b ∷ c ∷ d ∷ e ∷ f ∷ []) = refl
seven (a ∷ b ∷ c ∷ d ∷ e ∷ f ∷ g ∷ s) =
    long (a ∷ b ∷ c ∷ d ∷ e ∷ f ∷ g ∷ []) (omega arith) ∙ sym (long (a ∷ b ∷ c ∷ d ∷ e ∷ f ∷ g ∷ s) (omega arith))

above : (s : List ℕ) → 0 < length s →
    shown_above s ≡ codes "<text x=\"16\" y=\"-4\" font-weight=\"bold\">" ++ (escaped_text (characters_text (take 3 s)) ++ codes "</text>")
above s l =
    ap (λ b. if b then [] else codes "<text x=\"16\" y=\"-4\" font-weight=\"bold\">" ++ (escaped_text (characters_text (take 3 s)) ++ codes "</text>"))
    (ne_eqb (length s) 0 (λ z. omega (arith, z, l)))

three : (s : List ℕ) → shown_above (take 7 s) ≡ shown_above s
three [] = refl
three (a ∷ []) = refl
three (a ∷ b ∷ []) = refl
three (a ∷ b ∷ c ∷ s) = above (a ∷ b ∷ c ∷ take 4 s) (omega arith) ∙ sym (above (a ∷ b ∷ c ∷ s) (omega arith))

same_line : (n : ℕ) (x : Stint) → stint_text n (kept x) ≡ stint_text n x
same_line n x = ap (λ t. head_text n x ++ (codes " from" ++ (start_text x.from ++ (codes " " ++ (end_text x.end ++ t))))) (seven x.shown)

same_lines : (n : ℕ) (xs : List Stint) → lines_text n (map kept xs) ≡ lines_text n xs
same_lines n [] = refl
same_lines n (x ∷ xs) = (λ i. same_line n x i ++ (codes "\n" ++ same_lines (suc n) xs i))

pub whole_text : (xs : List Stint) → text_of (told_of xs).count (told_of xs).ending (told_of xs).stints ≡ text_of (length xs) (ending_of xs) xs
whole_text xs =
    ap (λ ls. ls ++ cut_text (length xs) (ending_of xs))
    (ap (lines_text 1)
    (taken_whole most_lines (map kept (take most_lines xs)) (omega (arith, length-map (take most_lines xs) kept, length-take most_lines xs)))
    ∙ same_lines 1 (take most_lines xs))

-- ---- the picture

same_lanes : (lanes : List Name) (xs : List Stint) → lanes_behind lanes (map kept xs) ≡ lanes_behind lanes xs
same_lanes lanes [] = refl
same_lanes lanes (x ∷ xs) = same_lanes (with_lane lanes x.process) xs

same_line_to : (p : Name) (n : ℕ) (ys : List Stint) → line_to p n (map kept ys) ≡ line_to p n ys
same_line_to p n [] = refl
same_line_to p n (y ∷ ys) =
    ap (λ l. if same y.process p then line_back y.end n else if same y.process (parent_of p) then line_back (arrives []) n else l) (same_line_to p (suc n) ys)

same_line_of : (p : Name) (n : ℕ) (ys : List Stint) → line_of p n (map kept ys) ≡ line_of p n ys
same_line_of p n [] = refl
same_line_of p n (y ∷ ys) = ap (λ l. if same y.process p then line_back y.end n else l) (same_line_of p (suc n) ys)

same_lines_on : (columns lane : ℕ) (lanes : List Name) (before : List Stint) → lines_on columns lane lanes (map kept before) ≡ lines_on columns lane lanes before
same_lines_on columns lane [] before = refl
same_lines_on columns lane (p ∷ lanes) before =
    (λ i. (moved (column_x columns) (lane_y lane) ++ (same_line_of p 1 before i ++ codes "</g>\n")) ++ same_lines_on columns (suc lane) lanes before i)

same_box : (n lane : ℕ) (line : List ℕ) (x : Stint) → box n lane line (kept x) ≡ box n lane line x
same_box n lane line x =
    (λ i.
    over_column n
    ++ (moved (column_x (n - 1)) (lane_y lane)
    ++ ((codes "<title>" ++ (escaped_text (same_line n x i) ++ codes "</title>"))
    ++ (line ++ (rectangle x.end ++ (inside x.end x.from ++ (three x.shown i ++ codes "</g>\n")))))))

same_boxes : (lanes : List Name) (n : ℕ) (before xs : List Stint) → boxes lanes n (map kept before) (map kept xs) ≡ boxes lanes n before xs
same_boxes lanes n before [] = same_lines_on (n - 1) 0 lanes before
same_boxes lanes n before (x ∷ xs) =
    let lane : ℕ = lane_of lanes x.process in
    ap (λ l. box n lane l (kept x) ++ boxes lanes (suc n) (map kept (x ∷ before)) (map kept xs)) (same_line_to x.process 1 before)
    ∙ ap (λ b. b ++ boxes lanes (suc n) (map kept (x ∷ before)) (map kept xs)) (same_box n lane (line_to x.process 1 before) x)
    ∙ ap (λ r. box n lane (line_to x.process 1 before) x ++ r) (same_boxes lanes (suc n) (x ∷ before) xs)

same_body : (lanes : List Name) (xs : List Stint) → body lanes (map kept xs) ≡ body lanes xs
same_body lanes xs =
    ap (λ l. lane_names 0 lanes ++ (codes "<g text-anchor=\"middle\">\n"
    ++ (l ++ (codes "</g>\n" ++ (moved 8 (lane_y (length lanes) + 10) ++ (key ++ codes "</g>\n</svg>\n"))))))
    (same_boxes lanes 1 [] xs)

same_drawing : (n : ℕ) (how : Option Ending) (xs : List Stint) → drawn n how (lanes_of (map kept xs)) (map kept xs) ≡ drawn n how (lanes_of xs) xs
same_drawing n how xs =
    ap (λ lanes. drawn n how lanes (map kept xs)) (same_lanes [] xs)
    ∙ ap (λ k. opened (width k) (height (length (lanes_of xs))) ++ (headed n how ++ body (lanes_of xs) (map kept xs))) (length-map xs kept)
    ∙ ap (λ b. opened (width (length xs)) (height (length (lanes_of xs))) ++ (headed n how ++ b)) (same_body (lanes_of xs) xs)

take_less : {A : Type 0} (n m : ℕ) (xs : List A) → n ≤ m → take n (take m xs) ≡ take n xs
take_less zero zero [] l = refl
take_less zero zero (x ∷ xs) l = refl
take_less zero (suc m) [] l = refl
take_less zero (suc m) (x ∷ xs) l = refl
take_less (suc n) zero xs l = absurd (omega (arith, l))
take_less (suc n) (suc m) [] l = refl
take_less (suc n) (suc m) (x ∷ xs) l = ap (λ ys. x ∷ ys) (take_less n m xs (omega (arith, l)))

pub whole_picture : (xs : List Stint) → picture_of (told_of xs).count (told_of xs).ending (told_of xs).stints ≡ picture_of (length xs) (ending_of xs) xs
whole_picture xs =
    ap (λ few. drawn (length xs) (ending_of xs) (lanes_of few) few)
    (take-map kept most_boxes (take most_lines xs) ∙ ap (map kept) (take_less most_boxes most_lines xs (omega arith)))
    ∙ same_drawing (length xs) (ending_of xs) (take most_boxes xs)
