-- Definition. THE PICTURE of a timeline: a lane for each process, and a box for each of the first 1,000 stints. It is SVG without script, font
-- or link; only fixed texts, digits and escaped characters stand in it.
use Rattle.std.specs.Prelude.{ℕ, suc, ◌+◌, ◌-◌, ◌*◌, ◌==◌, nat_le, if◌then◌else◌, List, [], ◌∷◌, ◌++◌, length, take, codes, slice_index, Option}
use Rattle.std.specs.Fmt.{decimal}
use Rattle.edi_calls.specs.Names.{Name, same}
use Rattle.edi_calls.specs.Outcome as outcome
use Rattle.edi_calls.specs.Outcome.{Ending}
use Rattle.edi_calls.specs.Ready.{has, parent_of}
use Rattle.edi_timeline.specs.Stints.{Start, begin, at, End, arrives, waits, tries, forks, ends, over, Stint}
use Rattle.edi_timeline.specs.Text.{process_text, how_text, stint_text, characters_text}

-- ---- characters

-- a character of a line, all of which are from the blank to `~`
abbrev pub escaped : ℕ → List ℕ
escaped c =
    if c == 38 then codes "&amp;"
    else if c == 60 then codes "&lt;"
    else if c == 62 then codes "&gt;"
    else c ∷ []

abbrev pub escaped_text : List ℕ → List ℕ
escaped_text [] = []
escaped_text (c ∷ cs) = escaped c ++ escaped_text cs

-- ---- lanes

-- a process that has no lane gets one
abbrev pub with_lane : List Name → Name → List Name
with_lane lanes p = if has lanes p then lanes else lanes ++ p ∷ []

-- the processes in the order of their first stints, behind those that have a lane
abbrev pub lanes_behind : List Name → List Stint → List Name
lanes_behind lanes [] = lanes
lanes_behind lanes (x ∷ xs) = lanes_behind (with_lane lanes x.process) xs

abbrev pub lanes_of : List Stint → List Name
lanes_of xs = lanes_behind [] xs

-- the number of a lane, counted from 0
abbrev pub lane_of : List Name → Name → ℕ
lane_of [] p = 0
lane_of (q ∷ lanes) p = if same p q then 0 else suc (lane_of lanes p)

-- ---- where things stand

-- columns are 38 wide and lanes 46 high; the first box stands at 100, 62
abbrev pub column_x : (index : ℕ) → ℕ
column_x index = 100 + 38 * index

abbrev pub lane_y : (lane : ℕ) → ℕ
lane_y lane = 62 + 46 * lane

-- `translate(X Y)`
abbrev pub moved : (x y : ℕ) → List ℕ
moved x y = codes "<g transform=\"translate(" ++ (decimal x ++ (codes " " ++ (decimal y ++ codes ")\">")))

-- ---- a lane

-- after an attempt that has failed
abbrev pub waiting_line : List ℕ
waiting_line = codes "stroke=\"#000\" stroke-width=\"2\" stroke-dasharray=\"4 3\""

-- how a stint leaves its lane until the next one: ready, waiting at its `when`, or waiting for its branches
abbrev pub line_kind : End → List ℕ
line_kind waits = waiting_line
line_kind tries = waiting_line
line_kind (forks n) = codes "stroke=\"#666\" stroke-width=\"2\" stroke-dasharray=\"1 4\""
line_kind end = codes "stroke=\"#56a8d8\" stroke-width=\"4\""

-- a line from the box so many columns before
abbrev pub line_over : End → (columns : ℕ) → List ℕ
line_over end columns = codes "<path d=\"M-" ++ (decimal (38 * columns - 32) ++ (codes " 13H0\" " ++ (line_kind end ++ codes "/>")))

-- there is none from one that ended with its process, or with the run
abbrev pub line_back : End → (columns : ℕ) → List ℕ
line_back ends columns = []
line_back (over ending) columns = []
line_back end columns = line_over end columns

-- The stints before, the newest first: from the first of them that is of this process. One that begins is ready from the fork of its parent on.
abbrev pub line_to : Name → (columns : ℕ) → List Stint → List ℕ
line_to p columns [] = []
line_to p columns (y ∷ ys) =
    if same y.process p then line_back y.end columns
    else if same y.process (parent_of p) then line_back (arrives []) columns
    else line_to p (suc columns) ys

-- from the last stint of this process, so many columns before
abbrev pub line_of : Name → (columns : ℕ) → List Stint → List ℕ
line_of p columns [] = []
line_of p columns (y ∷ ys) = if same y.process p then line_back y.end columns else line_of p (suc columns) ys

-- behind the last column each process goes on that has not ended
abbrev pub line_on : (columns lane : ℕ) → Name → (before : List Stint) → List ℕ
line_on columns lane p before = moved (column_x columns) (lane_y lane) ++ (line_of p 1 before ++ codes "</g>\n")

-- those of these lanes, from this one on
abbrev pub lines_on : (columns lane : ℕ) → List Name → (before : List Stint) → List ℕ
lines_on columns lane [] before = []
lines_on columns lane (p ∷ lanes) before = line_on columns lane p before ++ lines_on columns (suc lane) lanes before

-- ---- a box

-- of an attempt that has failed
abbrev pub waiting_box : List ℕ
waiting_box = codes "<rect width=\"32\" height=\"26\" fill=\"#fff\" stroke=\"#000\" stroke-width=\"2\" stroke-dasharray=\"4 2\"/>"

abbrev pub rectangle : End → List ℕ
rectangle waits = waiting_box
rectangle tries = waiting_box
rectangle ends = codes "<rect width=\"32\" height=\"26\" rx=\"13\" fill=\"#fff\" stroke=\"#000\"/>"
rectangle (over outcome.done) = codes "<rect width=\"32\" height=\"26\" rx=\"13\" fill=\"#000\"/>"
rectangle (over ending) = codes "<rect width=\"32\" height=\"26\" fill=\"#000\"/>"
rectangle end = codes "<rect width=\"32\" height=\"26\" fill=\"#9fd0f0\" stroke=\"#000\"/>"

abbrev pub ink : End → List ℕ
ink (over ending) = codes "#fff"
ink end = codes "#000"

-- the line of the `when` from which it began, or a point
abbrev pub first_line : List ℕ → List ℕ
first_line lines = if length lines == 0 then codes "&#183;" else decimal (slice_index lines 0)

abbrev pub box_text : Start → List ℕ
box_text (at lines) = first_line lines
box_text from = codes "&#183;"

-- the first three characters that were shown, above the box
abbrev pub shown_above : List ℕ → List ℕ
shown_above shown =
    if length shown == 0 then []
    else codes "<text x=\"16\" y=\"-4\" font-weight=\"bold\">" ++ (escaped_text (characters_text (take 3 shown)) ++ codes "</text>")

-- its number, over its column
abbrev pub over_column : (number : ℕ) → List ℕ
over_column number =
    codes "<text x=\""
    ++ (decimal (column_x (number - 1) + 16) ++ (codes "\" y=\"42\" font-size=\"10\">" ++ (decimal number ++ codes "</text>")))

-- its line of the text, which a browser shows
abbrev pub title : (number : ℕ) → Stint → List ℕ
title number x = codes "<title>" ++ (escaped_text (stint_text number x) ++ codes "</title>")

abbrev pub inside : End → Start → List ℕ
inside end from =
    codes "<text x=\"16\" y=\"17\" fill=\"" ++ (ink end ++ (codes "\">" ++ (box_text from ++ codes "</text>")))

-- the box of a stint in its lane, behind this line
abbrev pub box : (number lane : ℕ) → (line : List ℕ) → Stint → List ℕ
box number lane line x =
    over_column number
    ++ (moved (column_x (number - 1)) (lane_y lane)
    ++ (title number x
    ++ (line
    ++ (rectangle x.end
    ++ (inside x.end x.from
    ++ (shown_above x.shown
    ++ codes "</g>\n"))))))

-- the boxes of these stints, behind those before, the newest of which stands first; and how each process goes on behind the last of them
abbrev pub boxes : List Name → (number : ℕ) → (before xs : List Stint) → List ℕ
boxes lanes number before [] = lines_on (number - 1) 0 lanes before
boxes lanes number before (x ∷ xs) =
    box number (lane_of lanes x.process) (line_to x.process 1 before) x ++ boxes lanes (suc number) (x ∷ before) xs

abbrev pub lane_name : (lane : ℕ) → Name → List ℕ
lane_name lane p = codes "<text x=\"8\" y=\"" ++ (decimal (lane_y lane + 17) ++ (codes "\">" ++ (process_text p ++ codes "</text>\n")))

-- the name of each lane, from this one on
abbrev pub lane_names : (lane : ℕ) → List Name → List ℕ
lane_names lane [] = []
lane_names lane (p ∷ lanes) = lane_name lane p ++ lane_names (suc lane) lanes

-- ---- the whole

-- what a box or a line means, so far to the right and down
abbrev pub key_entry : (x y : ℕ) → (drawing meaning : List ℕ) → List ℕ
key_entry x y drawing meaning = moved x y ++ (drawing ++ (codes "<text x=\"40\" y=\"17\">" ++ (meaning ++ codes "</text></g>\n")))

-- a box of a stint that comes to a `when`, with this in and above it
abbrev pub key_box : Start → (shown : List ℕ) → List ℕ
key_box from shown =
    codes "<g text-anchor=\"middle\">" ++ (rectangle (arrives []) ++ (inside (arrives []) from ++ (shown_above shown ++ codes "</g>")))

abbrev pub key_line : End → List ℕ
key_line end = codes "<path d=\"M0 13H32\" " ++ (line_kind end ++ codes "/>")

abbrev pub key : List ℕ
key =
    key_entry 0 0 (key_box (at (12 ∷ [])) []) (codes "from the when of line 12")
    ++ (key_entry 265 0 (key_box begin []) (codes "begins, or its branches ended")
    ++ (key_entry 530 0 (key_box (at (12 ∷ [])) (codes "x")) (codes "what was shown in it")
    ++ (key_entry 0 36 (rectangle (arrives [])) (codes "comes to a when or cobegin")
    ++ (key_entry 265 36 (rectangle waits) (codes "tries its when, and waits")
    ++ (key_entry 530 36 (rectangle ends) (codes "ends")
    ++ (key_entry 0 72 (rectangle (over outcome.done)) (codes "the run ends as done")
    ++ (key_entry 265 72 (rectangle (over outcome.turns)) (codes "the run ends in another way")
    ++ (key_entry 0 108 (key_line (arrives [])) (codes "ready")
    ++ (key_entry 265 108 (key_line waits) (codes "waits: its last try failed")
    ++ key_entry 530 108 (key_line (forks 0)) (codes "waits for its branches"))))))))))

abbrev pub most_boxes : ℕ
most_boxes = 1000

-- `N stints`, or `first 1000 of N stints`, and how the run has ended
abbrev pub heading : (count : ℕ) → Option Ending → List ℕ
heading count ending =
    (if nat_le count most_boxes then decimal count ++ codes " stints" else codes "first 1000 of " ++ (decimal count ++ codes " stints")) ++ how_text ending

-- at least as wide as the key
abbrev pub width : (boxes : ℕ) → ℕ
width boxes = if nat_le boxes 17 then 770 else column_x boxes + 16

abbrev pub height : (lanes : ℕ) → ℕ
height lanes = lane_y lanes + 156

abbrev pub opened : (width height : ℕ) → List ℕ
opened width height =
    codes "<svg xmlns=\"http://www.w3.org/2000/svg\" width=\""
    ++ (decimal width
    ++ (codes "\" height=\""
    ++ (decimal height
    ++ (codes "\" viewBox=\"0 0 "
    ++ (decimal width
    ++ (codes " "
    ++ (decimal height
    ++ codes "\" font-family=\"monospace\" font-size=\"12\">\n<rect width=\"100%\" height=\"100%\" fill=\"#fff\"/>\n")))))))

-- the heading, and what the numbers of the top row count
abbrev pub headed : (count : ℕ) → Option Ending → List ℕ
headed count ending =
    codes "<text x=\"8\" y=\"20\" font-size=\"15\">"
    ++ (heading count ending ++ codes "</text>\n<text x=\"8\" y=\"42\" font-size=\"10\">stint</text>\n")

-- the boxes, and the key below them
abbrev pub body : (lanes : List Name) → List Stint → List ℕ
body lanes few =
    lane_names 0 lanes
    ++ (codes "<g text-anchor=\"middle\">\n"
    ++ (boxes lanes 1 [] few
    ++ (codes "</g>\n"
    ++ (moved 8 (lane_y (length lanes) + 10)
    ++ (key
    ++ codes "</g>\n</svg>\n")))))

-- these stints, of so many, of a run that has ended so, if it has
abbrev pub drawn : (count : ℕ) → Option Ending → (lanes : List Name) → List Stint → List ℕ
drawn count ending lanes few = opened (width (length few)) (height (length lanes)) ++ (headed count ending ++ body lanes few)

-- THE PICTURE, of the first 1,000 of so many stints
abbrev pub picture_of : (count : ℕ) → Option Ending → List Stint → List ℕ
picture_of count ending xs = let few : List Stint = take most_boxes xs in drawn count ending (lanes_of few) few
